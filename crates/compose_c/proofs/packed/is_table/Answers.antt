use Rattle.std.proofs.Common.{map, subst, sym}
use Rattle.compose_tree.specs.Packed.{IsPacked}
use Rattle.compose_tree.proofs.PackedLookups.{unpack_packed}
use Rattle.compose_c.specs.Arrays.{edge_of}
use Rattle.compose_c.proofs.packed.is_table.Goals as goal

pub returns-clause-packed : goal.returns-clause-packed
returns-clause-packed c same =
    let a = c.args.arrays.now in
    let p = c.are_arrays_of.ensures.are same in
    subst (IsPacked a.nodes.now (map edge_of a.edges.now) a.texts.now a.long_texts.now)
    (sym (unpack_packed a.nodes.now (map edge_of a.edges.now) a.texts.now a.long_texts.now _ p)) p
