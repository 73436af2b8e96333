use Rattle.std.proofs.Common.{◌∙◌, ap}
use Rattle.std.specs.Prelude.{nat_eq, option_map}
use Rattle.std.specs.List.{find}
use Rattle.compose_model.specs.Nodes.{node}
use Rattle.compose_tree.specs.declared.edge.Edge.{Edge}
use Rattle.compose_tree.proofs.Lookups.{target_scanned}
use Rattle.compose_tree.proofs.list_table.ListTableComposeTable.step.Goals as goal

pub returns : goal.returns
returns c =
    c.target_in.ensures ∙ ap (λ es. option_map (λ (e : Edge). e.target) (find (λ (e : Edge). nat_eq e.keysym c.args.keysym) es)) (c.edges.ensures ∙ ap (λ r. r.edges) c.row.ensures.value)
    ∙ target_scanned c.args.self.now (node c.args.self.now c.args.node.0) c.args.keysym
