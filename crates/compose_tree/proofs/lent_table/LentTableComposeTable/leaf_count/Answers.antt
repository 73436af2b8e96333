use Rattle.std.proofs.Common.{arith}
use Rattle.compose_tree.proofs.Lookups.{leaves_count}
use Rattle.compose_tree.proofs.PackedLookups.{packed_as}
use Rattle.compose_tree.proofs.PackedTexts.{entries_counted}
use Rattle.compose_tree.proofs.lent_table.LentTableComposeTable.leaf_count.Goals as goal

pub overflow_cast-result : goal.overflow_cast-result
overflow_cast-result c =
    let p = packed_as c.self.inside.nodes.now c.self.inside.edges.now c.self.inside.texts.now c.self.inside.long_texts.now c.args.self.now c.self.invariant c.self.view_is in
    let n = entries_counted c.self.inside.nodes.now c.self.inside.edges.now c.self.inside.texts.now c.self.inside.long_texts.now c.args.self.now p in
    let m = leaves_count c.args.self.now p.settled in
    omega (arith, n, m, p.few_leaves)

pub returns : goal.returns
returns c =
    let p = packed_as c.self.inside.nodes.now c.self.inside.edges.now c.self.inside.texts.now c.self.inside.long_texts.now c.args.self.now c.self.invariant c.self.view_is in
    let n = entries_counted c.self.inside.nodes.now c.self.inside.edges.now c.self.inside.texts.now c.self.inside.long_texts.now c.args.self.now p in
    let m = leaves_count c.args.self.now p.settled in
    omega (arith, n, m, p.few_leaves)
