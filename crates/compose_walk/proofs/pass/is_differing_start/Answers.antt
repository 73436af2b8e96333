use Rattle.std.proofs.Common.{[], sym, ◌∙◌, ap}
use Rattle.std.specs.Prelude.{is_some}
use Rattle.compose_model.proofs.NodeLemmas.{node_zero}
use Rattle.compose_tree.specs.Targets.{target_of}
use Rattle.compose_tree.proofs.Steps.{target_fed}
use Rattle.compose_walk.proofs.Starts.{root_below, known_start, fresh_start, other_start, none_of}
use Rattle.compose_walk.proofs.pass.is_differing_start.Goals as goal

pub step-requires : goal.step-requires
step-requires g c = root_below (g.T.ComposeTable.definitions c.args.old.now)

pub returns-then-is_some : goal.returns-then-is_some
returns-then-is_some g c =
    known_start c.args.names.now c.args.fresh.now (g.T.ComposeTable.definitions c.args.old.now) (g.U.ComposeTable.definitions c.args.new.now) c.args.keysym c.step.result c.step.ensures
    (sym c.is_some.ensures ∙ c.if-is_some.true)

pub returns-then-is_among : goal.returns-then-is_among
returns-then-is_among g c =
    fresh_start c.args.names.now c.args.fresh.now (g.T.ComposeTable.definitions c.args.old.now) (g.U.ComposeTable.definitions c.args.new.now) c.args.keysym
    (sym c.is_among.ensures ∙ c.if-is_among.true)

pub key_step-old_step-requires-clause-node_in_range : goal.key_step-old_step-requires-clause-node_in_range
key_step-old_step-requires-clause-node_in_range g c = root_below (g.T.ComposeTable.definitions c.args.old.now)

pub key_step-old_step-requires-clause-target : goal.key_step-old_step-requires-clause-target
key_step-old_step-requires-clause-target g c = sym (none_of c.step.result (sym c.is_some.ensures ∙ c.if-is_some.false)) ∙ c.step.ensures

pub key_step-old_step-requires-clause-fed : goal.key_step-old_step-requires-clause-fed
key_step-old_step-requires-clause-fed g c = target_fed (g.U.ComposeTable.definitions c.args.new.now) [] c.args.keysym c.args.target c.requires.new_table c.requires.target

pub key_step-new_step-requires-clause-node_in_range : goal.key_step-new_step-requires-clause-node_in_range
key_step-new_step-requires-clause-node_in_range g c = root_below (g.U.ComposeTable.definitions c.args.new.now)

pub key_step-new_step-requires-clause-target : goal.key_step-new_step-requires-clause-target
key_step-new_step-requires-clause-target g c =
    sym c.requires.target ∙ ap (λ p. target_of (g.U.ComposeTable.definitions c.args.new.now) p c.args.keysym) (sym (node_zero (g.U.ComposeTable.definitions c.args.new.now)))

pub key_step-new_step-requires-clause-fed : goal.key_step-new_step-requires-clause-fed
key_step-new_step-requires-clause-fed g c = target_fed (g.U.ComposeTable.definitions c.args.new.now) [] c.args.keysym c.args.target c.requires.new_table c.requires.target

pub returns : goal.returns
returns g c =
    c.is_some-2.ensures ∙ ap is_some c.difference.ensures
    ∙ other_start c.args.names.now c.args.fresh.now (g.T.ComposeTable.definitions c.args.old.now) (g.U.ComposeTable.definitions c.args.new.now) c.args.keysym
    (sym c.step.ensures ∙ none_of c.step.result (sym c.is_some.ensures ∙ c.if-is_some.false)) (sym c.is_among.ensures ∙ c.if-is_among.false)
    c.key_step-old_step.result c.key_step-new_step.result c.key_step-old_step.ensures.step c.key_step-new_step.ensures.step
