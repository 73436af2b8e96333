use Rattle.std.proofs.Common.{◌≡◌, ◌∙◌, [], not, sym, ap}
use Rattle.std.specs.Prelude.{is_some}
use Rattle.keysym_core.specs.Keysym.{is_ignored}
use Rattle.compose_tree.proofs.Lookups.{some_node}
use Rattle.compose_model.specs.Nodes.{has_edge}
use Rattle.compose_model.specs.Certificate.{is_key}
use Rattle.compose_model.proofs.NodeLemmas.{node_zero}
use Rattle.compose_tree.specs.Targets.{target_of}
use Rattle.compose_make.proofs.PlainKeys.{some_target, plain_test}
use Rattle.compose_make.proofs.plain.is_plain_key.Goals as goal

pub step-requires : goal.step-requires
step-requires g c = some_node (g.U.ComposeTable.definitions c.args.new.now)

pub returns : goal.returns
returns g c =
    let table = g.U.ComposeTable.definitions c.args.new.now in
    let reported : has_edge table [] c.args.keysym ≡ not c.is_none.result =
    sym (some_target table [] c.args.keysym) ∙ ap (λ p. is_some (target_of table p c.args.keysym)) (sym (node_zero table)) ∙ ap is_some (sym c.step.ensures) ∙ c.is_none.ensures in
    plain_test (is_key c.args.repertoire.now c.args.keysym) (is_ignored c.args.keysym) (has_edge table [] c.args.keysym) c.is_none.result (sym c.is_key.ensures ∙ c.if-not-is_key.false)
    (sym c.is_ignored.ensures ∙ c.if-is_ignored.false) reported
