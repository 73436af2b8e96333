use Rattle.std.proofs.Common.{◌≡◌, ◌+◌, ◌≤◌, ◌∙◌, drop, length, sym, ap, arith}
use Rattle.std.specs.List.{prefix_len}
use Rattle.std.proofs.lemmas.List.{take_rest, drop_all}
use Rattle.std.proofs.lemmas.List.Sums.{prefix_len-le-length}
use Rattle.compose_results.specs.Names.{is_before_colon}
use Rattle.compose_results.proofs.name.after_colon.Goals as goal

pub overflow_add-result : goal.overflow_add-result
overflow_add-result c = let bound = prefix_len-le-length is_before_colon c.args.line.now in omega (arith, bound, c.leading_len-len.ensures)

pub slice_bounds-result-count : goal.slice_bounds-result-count
slice_bounds-result-count c = let bound = prefix_len-le-length is_before_colon c.args.line.now in omega (arith, bound, c.leading_len-len.ensures)

pub slice_bounds-result-start : goal.slice_bounds-result-start
slice_bounds-result-start c = let bound = prefix_len-le-length is_before_colon c.args.line.now in omega (arith, bound, c.leading_len-len.ensures)

pub returns-then-len-line : goal.returns-then-len-line
returns-then-len-line c =
    let line = c.args.line.now in
    let past : length line ≤ 1 + prefix_len is_before_colon line = omega (arith, c.leading_len-len.ensures, c.if-len-line.true) in
    sym (drop_all (1 + prefix_len is_before_colon line) line past)

pub returns : goal.returns
returns c =
    let line = c.args.line.now in
    let next : c.leading_len-len.result + 1 ≡ 1 + prefix_len is_before_colon line = omega (arith, c.leading_len-len.ensures) in
    take_rest line (c.leading_len-len.result + 1) ∙ ap (λ n. drop n line) next
