use Rattle.std.proofs.Common.{◌∙◌, [], ap}
use Rattle.std.specs.Prelude.{is_some}
use Rattle.compose_model.proofs.NodeLemmas.{node_zero}
use Rattle.compose_tree.specs.Targets.{target_of}
use Rattle.compose_check.proofs.StartConditions.{has_root, begins_somewhere}
use Rattle.compose_check.proofs.starts.begins.Goals as goal

pub step-requires : goal.step-requires
step-requires g c = has_root (g.T.ComposeTable.definitions c.args.table.now)

pub returns : goal.returns
returns g c =
    let table = g.T.ComposeTable.definitions c.args.table.now in
    c.is_some.ensures ∙ ap is_some c.step.ensures ∙ ap (λ p. is_some (target_of table p c.args.keysym)) (node_zero table) ∙ begins_somewhere table [] c.args.keysym
