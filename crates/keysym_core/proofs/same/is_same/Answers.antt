use Rattle.std.proofs.Common.{◌≡◌, ◌-◌, ℕ, List, length, take, drop, sym, ap, ◌∙◌, arith}
use Rattle.std.specs.Int.{from_le_bytes, to_le_bytes, w32, w64}
use Rattle.keysym_core.proofs.Ends.{same_ends, is_tested}
use Rattle.keysym_core.proofs.same.is_same.Goals as goal

pub returns-then-first_half : goal.returns-then-first_half
returns-then-first_half c =
    let one : List ℕ = c.args.one.now in
    let other : List ℕ = c.args.other.now in
    let first : take 4 one ≡ take 4 other = sym c.first_half.ensures.bytes ∙ ap (to_le_bytes w32) c.if-first_half.true ∙ c.first_half-in-4-to-7.ensures.bytes in
    is_tested c.last_half.result c.last_half-then-first_half.result one other
    (λ e. same_ends 4 one other c.if-one-other.false (omega arith) (omega arith) first (sym c.last_half.ensures.bytes ∙ ap (to_le_bytes w32) e ∙ c.last_half-then-first_half.ensures.bytes))
    (λ e. c.last_half.ensures.number ∙ ap (λ xs. from_le_bytes w32 (drop (length xs - 4) xs)) e ∙ sym c.last_half-then-first_half.ensures.number)

pub returns-then-first_word : goal.returns-then-first_word
returns-then-first_word c =
    let one : List ℕ = c.args.one.now in
    let other : List ℕ = c.args.other.now in
    let first : take 8 one ≡ take 8 other = sym c.first_word.ensures.bytes ∙ ap (to_le_bytes w64) c.if-first_word.true ∙ c.first_word-in-8-to-16.ensures.bytes in
    is_tested c.last_word.result c.last_word-then-first_word.result one other
    (λ e. same_ends 8 one other c.if-one-other.false (omega arith) (omega arith) first (sym c.last_word.ensures.bytes ∙ ap (to_le_bytes w64) e ∙ c.last_word-then-first_word.ensures.bytes))
    (λ e. c.last_word.ensures.number ∙ ap (λ xs. from_le_bytes w64 (drop (length xs - 8) xs)) e ∙ sym c.last_word-then-first_word.ensures.number)
