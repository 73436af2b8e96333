use Rattle.std.proofs.Common.{List, length, get_or, sym, ◌∙◌, ap, subst, arith, eqb-true, vec_len}
use Rattle.std.specs.List.{IsFirstBest}
use Rattle.std.proofs.lemmas.List.{nil_from_length}
use Rattle.compose_walk.specs.Stands.{comes_sooner, partner_pairs}
use Rattle.compose_walk.specs.declared.pass.Found.{Found}
use Rattle.compose_walk.proofs.Founds.{place_of, first_is_least, none_is_follower, chosen_found}
use Rattle.compose_walk.proofs.walker.walk_accepted.Goals as goal

pub returns-then-is_empty : goal.returns-then-is_empty
returns-then-is_empty g c =
    let none = eqb-true (vec_len c.in_ok-pass.pass.found) 0 (sym c.is_empty.ensures ∙ c.if-is_empty.true) in
    none_is_follower c.args.names.now c.args.fresh.now (g.T.ComposeTable.definitions c.args.old.now)
    (g.U.ComposeTable.definitions c.args.new.now) c.node_count.ensures.settled.definitions c.node_count-2.ensures.settled.definitions c.requires
    (sym c.in_ok-pass.ensures.found ∙ nil_from_length c.in_ok-pass.pass.found.items (omega (arith, c.in_ok-pass.pass.found.ok.0)))
    c.in_ok-pairs_of.field-0 (c.in_ok-pairs_of.ensures.pairs ∙ ap (partner_pairs 0) (c.deref.ensures.value ∙ c.in_ok-pass.ensures.stands))

pub evidence-requires-clause-in_range : goal.evidence-requires-clause-in_range
evidence-requires-clause-in_range g c =
    let names = c.args.names.now in
    let old = g.T.ComposeTable.definitions c.args.old.now in
    let new = g.U.ComposeTable.definitions c.args.new.now in
    (place_of names c.args.fresh.now old new c.node_count.ensures.settled.definitions c.node_count-2.ensures.settled.definitions c.requires c.index-least.result.now
    (chosen_found names c.args.fresh.now old new c.node_count.ensures.settled.definitions c.node_count-2.ensures.settled.definitions c.requires c.in_ok-pass.pass.found.items
    c.deref-2.result.now c.in_ok-pass.ensures.found c.deref-2.ensures.value c.least_of.result c.least_of.ensures c.index-least.result.now c.index-least.ensures)).in_range

pub evidence-requires-clause-agree : goal.evidence-requires-clause-agree
evidence-requires-clause-agree g c =
    let names = c.args.names.now in
    let old = g.T.ComposeTable.definitions c.args.old.now in
    let new = g.U.ComposeTable.definitions c.args.new.now in
    (place_of names c.args.fresh.now old new c.node_count.ensures.settled.definitions c.node_count-2.ensures.settled.definitions c.requires c.index-least.result.now
    (chosen_found names c.args.fresh.now old new c.node_count.ensures.settled.definitions c.node_count-2.ensures.settled.definitions c.requires c.in_ok-pass.pass.found.items
    c.deref-2.result.now c.in_ok-pass.ensures.found c.deref-2.ensures.value c.least_of.result c.least_of.ensures c.index-least.result.now c.index-least.ensures)).agree

pub evidence-requires-clause-differ : goal.evidence-requires-clause-differ
evidence-requires-clause-differ g c =
    let names = c.args.names.now in
    let old = g.T.ComposeTable.definitions c.args.old.now in
    let new = g.U.ComposeTable.definitions c.args.new.now in
    (place_of names c.args.fresh.now old new c.node_count.ensures.settled.definitions c.node_count-2.ensures.settled.definitions c.requires c.index-least.result.now
    (chosen_found names c.args.fresh.now old new c.node_count.ensures.settled.definitions c.node_count-2.ensures.settled.definitions c.requires c.in_ok-pass.pass.found.items
    c.deref-2.result.now c.in_ok-pass.ensures.found c.deref-2.ensures.value c.least_of.result c.least_of.ensures c.index-least.result.now c.index-least.ensures)).differ

pub evidence-requires-clause-fed : goal.evidence-requires-clause-fed
evidence-requires-clause-fed g c =
    let names = c.args.names.now in
    let old = g.T.ComposeTable.definitions c.args.old.now in
    let new = g.U.ComposeTable.definitions c.args.new.now in
    (place_of names c.args.fresh.now old new c.node_count.ensures.settled.definitions c.node_count-2.ensures.settled.definitions c.requires c.index-least.result.now
    (chosen_found names c.args.fresh.now old new c.node_count.ensures.settled.definitions c.node_count-2.ensures.settled.definitions c.requires c.in_ok-pass.pass.found.items
    c.deref-2.result.now c.in_ok-pass.ensures.found c.deref-2.ensures.value c.least_of.result c.least_of.ensures c.index-least.result.now c.index-least.ensures)).fed

pub returns : goal.returns
returns g c =
    let names = c.args.names.now in
    let old = g.T.ComposeTable.definitions c.args.old.now in
    let new = g.U.ComposeTable.definitions c.args.new.now in
    first_is_least names c.args.fresh.now old new c.node_count.ensures.settled.definitions c.node_count-2.ensures.settled.definitions c.requires c.least_of.result c.index-least.result.now
    (subst (λ (xs : List Found). IsFirstBest comes_sooner xs (length xs) c.least_of.result) (c.deref-2.ensures.value ∙ c.in_ok-pass.ensures.found) c.least_of.ensures)
    (c.index-least.ensures ∙ ap (λ xs. get_or xs c.least_of.result c.index-least.result.now) c.in_ok-pass.ensures.found)
    (chosen_found names c.args.fresh.now old new c.node_count.ensures.settled.definitions c.node_count-2.ensures.settled.definitions c.requires c.in_ok-pass.pass.found.items
    c.deref-2.result.now c.in_ok-pass.ensures.found c.deref-2.ensures.value c.least_of.result c.least_of.ensures c.index-least.result.now c.index-least.ensures)
    c.evidence.result c.evidence.ensures
