-- The lines of bytes, by the position of the first newline.
use Rattle.std.proofs.Common.{◌≡◌, ◌≢◌, ℕ, ◌<◌, zero, suc, List, [], ◌∷◌, length, take, drop, get_or, refl, ◌∙◌, ap, arith, Bool, true, false, not, cond, eqb-true}
use Rattle.std.specs.Prelude.{◌==◌}
use Rattle.compose_text.specs.Lines.{in_line, lines_of, onto_first}

-- a byte that is not part of a line is the newline
pub ends_line : (b : ℕ) → in_line b ≡ false → b ≡ 10
ends_line b e = eqb-true b 10 (flip (b == 10) e)
  where
    flip : (t : Bool) → not t ≡ false → t ≡ true
    flip true e = refl
    flip false e = cc

-- a byte that is part of a line is not a newline
pub stays_in_line : (b : ℕ) → in_line b ≡ true → b ≢ 10
stays_in_line b e is = let clash : not (10 == 10) ≡ true = rw is at e in cc

-- a byte that is not a newline goes onto the first line
other_byte : (b : ℕ) (bytes : List ℕ) → b ≢ 10 → lines_of (b ∷ bytes) ≡ onto_first b (lines_of bytes)
other_byte b bytes h = go (b == 10) refl
  where
    go : (t : Bool) → b == 10 ≡ t → cond t ([] ∷ lines_of bytes) (onto_first b (lines_of bytes)) ≡ onto_first b (lines_of bytes)
    go true e = absurd (h (eqb-true b 10 e))
    go false e = refl

-- without a newline the bytes are one line
lines-none : (b : ℕ) (bytes : List ℕ) → ((i : ℕ) → i < length (b ∷ bytes) → get_or (b ∷ bytes) i 0 ≢ 10) → lines_of (b ∷ bytes) ≡ (b ∷ bytes) ∷ []
lines-none b [] h = other_byte b [] (h 0 (omega arith))
lines-none b (c ∷ bytes) h = other_byte b (c ∷ bytes) (h 0 (omega arith)) ∙ ap (onto_first b) (lines-none c bytes (λ i less. h (suc i) (omega arith)))

-- with a newline, the first line is what comes before it
pub lines-some : (bytes : List ℕ) (at : ℕ) → at < length bytes → get_or bytes at 0 ≡ 10 → ((i : ℕ) → i < at → get_or bytes i 0 ≢ 10) → lines_of bytes ≡ take at bytes ∷ lines_of (drop (suc at) bytes)
lines-some [] at less e h = absurd (omega arith)
lines-some (b ∷ bytes) zero less e h = rw e refl
lines-some (b ∷ bytes) (suc at) less e h =
    other_byte b bytes (h 0 (omega arith)) ∙ ap (onto_first b) (lines-some bytes at (omega arith) e (λ i less. h (suc i) (omega arith)))

-- the same, if the bytes are only known not to be empty
pub lines-whole : (bytes : List ℕ) → bytes ≢ [] → ((i : ℕ) → i < length bytes → get_or bytes i 0 ≢ 10) → lines_of bytes ≡ bytes ∷ []
lines-whole [] some h = absurd (some refl)
lines-whole (b ∷ bytes) some h = lines-none b bytes h
