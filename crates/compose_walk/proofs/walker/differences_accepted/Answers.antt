use Rattle.std.proofs.Common.{List, sym, ◌∙◌, subst}
use Rattle.std.specs.List.Sorted.{IsPermutation}
use Rattle.compose_walk.specs.Evidence.{Evidence, AreDifferences}
use Rattle.compose_walk.specs.declared.pass.Found.{Found}
use Rattle.compose_walk.proofs.Order.{all_placed, all_differences}
use Rattle.compose_walk.proofs.walker.differences_accepted.Goals as goal

pub all_evidence-requires-clause-places : goal.all_evidence-requires-clause-places
all_evidence-requires-clause-places g c =
    let old = g.T.ComposeTable.definitions c.args.old.now in
    let new = g.U.ComposeTable.definitions c.args.new.now in
    all_placed c.args.names.now c.args.fresh.now old new c.node_count.ensures.settled.definitions c.node_count-2.ensures.settled.definitions c.requires c.sort_found.new.self.found.items
    (subst (λ (xs : List Found). IsPermutation xs c.sort_found.new.self.found.items) c.in_ok-pass.ensures.found c.sort_found.ensures.same)

pub returns : goal.returns
returns g c =
    let names = c.args.names.now in
    let old = g.T.ComposeTable.definitions c.args.old.now in
    let new = g.U.ComposeTable.definitions c.args.new.now in
    subst (λ (xs : List Evidence). AreDifferences names c.args.fresh.now old new xs) (sym (c.new.ensures ∙ c.in_ok-differences.ensures.evidence))
    (all_differences names c.args.fresh.now old new c.node_count.ensures.settled.definitions c.node_count-2.ensures.settled.definitions c.requires c.sort_found.new.self.found.items
    (subst (λ (xs : List Found). IsPermutation xs c.sort_found.new.self.found.items) c.in_ok-pass.ensures.found c.sort_found.ensures.same) c.sort_found.ensures.sorted)
