use Rattle.std.proofs.Common.{◌≡◌, ◌∙◌, ◌-◌, List, ℕ, length, drop, cond, Option, Some, None, subst, arith, rules}
use Rattle.std.proofs.lemmas.List.{take_at}
use Rattle.compose_model.specs.Table.{is_proper_prefix, is_sequence}
use Rattle.compose_model.proofs.NodeLemmas.{node_zero}
use Rattle.compose_compare.specs.declared.Change.{Change}
use Rattle.compose_compare.specs.Change.{change, new_changes}
use Rattle.compose_compare.specs.Passes.{IsWritten}
use Rattle.compose_compare.proofs.Placed.{root_same, root_anew}
use Rattle.compose_compare.proofs.Written.{whole_table}
use Rattle.compose_compare.proofs.comparison.all_new.Goals as goal

pub visit_new-requires-clause-same : goal.visit_new-requires-clause-same
visit_new-requires-clause-same g c = root_same (g.T.ComposeTable.definitions c.args.old.now) (g.U.ComposeTable.definitions c.args.new.now)

pub visit_new-requires-clause-anew : goal.visit_new-requires-clause-anew
visit_new-requires-clause-anew g c = root_anew c.args.fresh.now (g.T.ComposeTable.definitions c.args.old.now) (g.U.ComposeTable.definitions c.args.new.now)

pub returns : goal.returns
returns g c =
    let names = c.args.names.now in
    let fresh = c.args.fresh.now in
    let old = g.T.ComposeTable.definitions c.args.old.now in
    let new = g.U.ComposeTable.definitions c.args.new.now in
    let value : List ℕ → Option Change = (λ s. cond (is_sequence old s) None (Some (change names fresh old new s))) in
    let after : List (Option Change) = c.visit_new.new.changes in
    let whole : after ≡ new_changes names fresh old new = whole_table None value new c.node_count-2.ensures.settled c.deref_mut.result.now after c.visit_new.ensures.fits
    (subst (λ (p : List ℕ). IsWritten None value new (is_proper_prefix p) c.deref_mut.result.now after) (node_zero new) c.visit_new.ensures.written) in
    let long : length after ≡ c.resize.new.self.len = first_of (omega arith, search rules) in
    take_at after (drop (length after) c.resize.new.self.items) c.resize.new.self.len long ∙ whole
