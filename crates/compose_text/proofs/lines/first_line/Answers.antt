use Rattle.std.proofs.Common.{◌≡◌, ◌≢◌, ◌∷◌, [], ℕ, ◌+◌, ◌<◌, ◌≤◌, suc, List, length, take, drop, get_or, sym, ap, subst, ◌∙◌, arith, true, false}
use Rattle.std.specs.Prelude.{◌==◌}
use Rattle.std.specs.List.{prefix_len}
use Rattle.std.proofs.lemmas.List.{take_rest}
use Rattle.std.proofs.lemmas.List.Sums.{prefix_len-le-length, prefix_len_passes, prefix_len_stops}
use Rattle.compose_text.specs.Lines.{in_line, lines_of}
use Rattle.compose_text.proofs.LineParts.{ends_line, stays_in_line, lines-some, lines-whole}
use Rattle.compose_text.proofs.lines.first_line.Goals as goal

-- no byte before the end of the line is a newline
before : (bytes : List ℕ) (end : ℕ) → end ≡ prefix_len in_line bytes → (i : ℕ) → i < end → get_or bytes i 0 ≢ 10
before bytes end is i less = stays_in_line (get_or bytes i 0) (prefix_len_passes in_line bytes i 0 (omega (arith, is)))

newline : (bytes : List ℕ) (end : ℕ) → end ≡ prefix_len in_line bytes → end < length bytes → get_or bytes end 0 ≡ 10
newline bytes end is less = subst (λ n. get_or bytes n 0 ≡ 10) (sym is) (ends_line (get_or bytes (prefix_len in_line bytes) 0) (prefix_len_stops in_line bytes 0 (omega (arith, is))))

within : (bytes : List ℕ) (end : ℕ) → end ≡ prefix_len in_line bytes → end ≤ length bytes
within bytes end is = let bound = prefix_len-le-length in_line bytes in omega (arith, is, bound)

pub returns-then-end-bytes-clause-lines : goal.returns-then-end-bytes-clause-lines
returns-then-end-bytes-clause-lines c =
    let end = c.leading_len-end in
    lines-whole c.args.bytes.now some (λ i less. before c.args.bytes.now end.result end.ensures i (omega (arith, c.if-end-bytes.true)))
  where
    some : c.args.bytes.now ≢ []
    some is = let clash : false ≡ true = c.if-is_empty.ensures ∙ ap (λ bytes. length bytes == 0) is in cc

pub overflow_add-result : goal.overflow_add-result
overflow_add-result c = let low = within c.args.bytes.now c.leading_len-end.result c.leading_len-end.ensures in omega (arith, low)

pub slice_bounds-result-count : goal.slice_bounds-result-count
slice_bounds-result-count c = let low = within c.args.bytes.now c.leading_len-end.result c.leading_len-end.ensures in omega (arith, low)

pub slice_bounds-result-start : goal.slice_bounds-result-start
slice_bounds-result-start c = let low = within c.args.bytes.now c.leading_len-end.result c.leading_len-end.ensures in omega (arith, low)

pub returns-clause-lines : goal.returns-clause-lines
returns-clause-lines c =
    let bytes = c.args.bytes.now in
    let end = c.leading_len-end in
    let low = within bytes end.result end.ensures in
    let less : end.result < length bytes = omega (arith, low) in
    let next : suc end.result ≡ end.result + 1 = omega arith in
    lines-some bytes end.result less (newline bytes end.result end.ensures less) (before bytes end.result end.ensures)
    ∙ ap (λ rest. take end.result bytes ∷ lines_of rest) (ap (λ n. drop n bytes) next ∙ sym (take_rest bytes (end.result + 1)))
