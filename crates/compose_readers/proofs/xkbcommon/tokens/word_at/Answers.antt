use Rattle.std.proofs.Common.{arith}
use Rattle.std.proofs.lemmas.List.Sums.{prefix_len-le-length}
use Rattle.compose_text.specs.Bytes.{is_name_byte}
use Rattle.compose_readers.proofs.xkbcommon.tokens.word_at.Goals as goal

pub slice_bounds-behind-count : goal.slice_bounds-behind-count
slice_bounds-behind-count c = let p = prefix_len-le-length is_name_byte c.args.rest.now in omega (arith, p, c.name_len-len.ensures)

pub slice_bounds-behind-start : goal.slice_bounds-behind-start
slice_bounds-behind-start c = let p = prefix_len-le-length is_name_byte c.args.rest.now in omega (arith, p, c.name_len-len.ensures)
