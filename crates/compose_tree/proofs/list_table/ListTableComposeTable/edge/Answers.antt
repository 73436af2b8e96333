use Rattle.std.proofs.Common.{◌∙◌, ap, get_or}
use Rattle.compose_model.specs.Nodes.{node}
use Rattle.compose_tree.proofs.Lookups.{target_found}
use Rattle.compose_tree.proofs.list_table.ListTableComposeTable.edge.Goals as goal

pub returns-clause-target : goal.returns-clause-target
returns-clause-target c =
    target_found c.args.self.now (node c.args.self.now c.args.node.0) c.args.index c.index-edges-index.result c.requires.edge_in_range
    (c.index-edges-index.is ∙ ap (λ es. get_or es c.args.index c.index-edges-index.result) (c.edges.ensures ∙ ap (λ r. r.edges) c.row.ensures.value))
