use Rattle.std.proofs.Common.{◌∙◌, sym, ap}
use Rattle.compose_model.specs.Nodes.{node}
use Rattle.compose_tree.specs.declared.packed.PackedEdge.{PackedEdge}
use Rattle.compose_tree.specs.Packed.{unpacked_target}
use Rattle.compose_tree.specs.Targets.{target_of}
use Rattle.compose_tree.proofs.PackedLookups.{keys_rise, step_none, key_there, edge_read}
use Rattle.compose_tree.proofs.lent_table.LentTableComposeTable.step.Goals as goal

pub index_by_hints-requires : goal.index_by_hints-requires
index_by_hints-requires c = keys_rise c.args.self.now (node c.args.self.now c.args.node.0) c.edges_of-edges.result.now c.edges_of-edges.ensures.value

pub returns-in_default : goal.returns-in_default
returns-in_default c = step_none c.args.self.now (node c.args.self.now c.args.node.0) c.args.keysym c.edges_of-edges.result.now c.edges_of-edges.ensures.value c.in_default.ensures

pub returns : goal.returns
returns c =
    let x = node c.args.self.now c.args.node.0 in
    let es = c.edges_of-edges.result.now in
    let e = c.index-edges-index.result in
    let there = key_there es c.in-Some.index e c.in-Some.ensures.0 c.index-edges-index.is in
    let read =
    edge_read c.args.self.now x c.in-Some.index es e c.unpack_target.result c.edges_of-edges.ensures.value c.in-Some.ensures.0 c.index-edges-index.is
    (c.unpack_target.ensures ∙ ap (λ (y : PackedEdge). unpacked_target y.target) (sym c.index-edges-index.is)) in
    sym read.1 ∙ ap (target_of c.args.self.now x) (sym there ∙ c.in-Some.ensures.1)
