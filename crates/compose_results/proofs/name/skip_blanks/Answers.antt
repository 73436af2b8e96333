use Rattle.std.proofs.Common.{◌∙◌, drop, sym, ap, arith}
use Rattle.std.proofs.lemmas.List.{take_rest}
use Rattle.std.proofs.lemmas.List.Sums.{prefix_len-le-length}
use Rattle.compose_text.specs.Bytes.{is_blank}
use Rattle.compose_lex.proofs.Scans.{after_left}
use Rattle.compose_results.proofs.name.skip_blanks.Goals as goal

pub slice_bounds-result-count : goal.slice_bounds-result-count
slice_bounds-result-count c = let bound = prefix_len-le-length is_blank c.args.rest.now in omega (arith, bound, c.blank_len.ensures)

pub slice_bounds-result-start : goal.slice_bounds-result-start
slice_bounds-result-start c = let bound = prefix_len-le-length is_blank c.args.rest.now in omega (arith, bound, c.blank_len.ensures)

pub returns : goal.returns
returns c =
    let rest = c.args.rest.now in
    take_rest rest c.blank_len.result ∙ ap (λ n. drop n rest) c.blank_len.ensures ∙ sym (after_left is_blank rest)
