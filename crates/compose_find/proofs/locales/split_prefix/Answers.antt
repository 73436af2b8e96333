use Rattle.std.proofs.Common.{◌∙◌, sym, ap, arith, drop, take}
use Rattle.std.proofs.lemmas.List.{take_rest}
use Rattle.std.proofs.lemmas.List.Sums.{prefix_len-le-length}
use Rattle.compose_lex.proofs.Scans.{prefix_taken, after_left}
use Rattle.compose_find.proofs.locales.split_prefix.Goals as goal

pub slice_bounds-result-count : goal.slice_bounds-result-count
slice_bounds-result-count o c = let bound = prefix_len-le-length o.C.ByteClass.has c.args.bytes.now in omega (arith, bound, c.leading_len-len.ensures)

pub slice_bounds-result-start : goal.slice_bounds-result-start
slice_bounds-result-start o c = let bound = prefix_len-le-length o.C.ByteClass.has c.args.bytes.now in omega (arith, bound, c.leading_len-len.ensures)

pub returns-clause-leading : goal.returns-clause-leading
returns-clause-leading o c = ap (λ n. take n c.args.bytes.now) c.leading_len-len.ensures ∙ sym (prefix_taken o.C.ByteClass.has c.args.bytes.now)

pub returns-clause-rest : goal.returns-clause-rest
returns-clause-rest o c =
    take_rest c.args.bytes.now c.leading_len-len.result ∙ ap (λ n. drop n c.args.bytes.now) c.leading_len-len.ensures ∙ sym (after_left o.C.ByteClass.has c.args.bytes.now)
