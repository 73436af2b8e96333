use Rattle.std.proofs.Common.{sym, subst}
use Rattle.compose_tree.specs.Packed.{IsPacked}
use Rattle.compose_tree.proofs.PackedLookups.{unpack_packed}
use Rattle.compose_tree.proofs.packed_table.from_arrays.Goals as goal

pub invariant_of-result : goal.invariant_of-result
invariant_of-result c = (
  subst (IsPacked c.args.nodes.items c.args.edges.items c.args.texts.items c.args.long_texts.items)
      (sym (unpack_packed c.args.nodes.items c.args.edges.items c.args.texts.items c.args.long_texts.items c.args.sequences.now c.requires.packed)) c.requires.packed,
  c.requires.hints,
)

pub returns : goal.returns
returns c = unpack_packed c.args.nodes.items c.args.edges.items c.args.texts.items c.args.long_texts.items c.args.sequences.now c.requires.packed
