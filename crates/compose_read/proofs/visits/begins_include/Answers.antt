use Rattle.std.proofs.Common.{◌∙◌, drop, nat_eq, sym, ap, arith}
use Rattle.std.specs.Prelude.{codes}
use Rattle.std.specs.List.{starts_with}
use Rattle.std.proofs.lemmas.List.{take_rest}
use Rattle.std.proofs.lemmas.List.Sums.{prefix_len-le-length}
use Rattle.compose_text.specs.Bytes.{is_blank}
use Rattle.compose_lex.proofs.Scans.{after_left}
use Rattle.compose_read.proofs.visits.begins_include.Goals as goal

pub slice_bounds-starts_with-count : goal.slice_bounds-starts_with-count
slice_bounds-starts_with-count c = let few = prefix_len-le-length is_blank c.args.line.now in omega (arith, few, c.blank_len.ensures)

pub slice_bounds-starts_with-start : goal.slice_bounds-starts_with-start
slice_bounds-starts_with-start c = let few = prefix_len-le-length is_blank c.args.line.now in omega (arith, few, c.blank_len.ensures)

pub returns : goal.returns
returns c =
    let line = c.args.line.now in
    c.starts_with.ensures.value
    ∙ ap (λ rest. starts_with nat_eq rest (codes "include")) (take_rest line c.blank_len.result ∙ ap (λ n. drop n line) c.blank_len.ensures ∙ sym (after_left is_blank line))
