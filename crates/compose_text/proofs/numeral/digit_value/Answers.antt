use Rattle.std.proofs.Common.{◌≡◌, ◌<◌, ◌≤◌, ℕ, Bool, true, false, List, cond, map, refl, ◌∙◌, ap, get_or, arith, rules, Fits, w8}
use Rattle.std.specs.Prelude.{nat_lt}
use Rattle.std.specs.Char.{digit_value}
use Rattle.std.specs.List.{range_with_len}
use Rattle.std.proofs.lemmas.List.FromFn.{get_or-map-range_with_len}
use Rattle.compose_text.specs.declared.numeral.TheConstants.{DIGIT_VALUES}
use Rattle.compose_text.proofs.numeral.digit_value.Goals as goal

-- the entry of the table for a byte
abbrev entry_of : ℕ → ℕ
entry_of b = cond (nat_lt (digit_value b) 16) (digit_value b) 16

table : DIGIT_VALUES ≡ map entry_of (range_with_len 0 256)
table = refl

entry : (b : ℕ) → b < 256 → get_or DIGIT_VALUES b 0 ≡ entry_of b
entry b l = ap (λ (values : List ℕ). get_or values b 0) table ∙ get_or-map-range_with_len entry_of 0 256 b b 0 l (omega arith)

below : (d n : ℕ) → n ≡ cond (nat_lt d 16) d 16 → n < 16 → (d < 16) × (n ≡ d)
below d n e l = go (nat_lt d 16) refl e
  where
    go : (t : Bool) → nat_lt d 16 ≡ t → n ≡ cond t d 16 → (d < 16) × (n ≡ d)
    go true h e = (search (rules, h), e)
    go false h e = absurd (omega arith)

above : (d n : ℕ) → n ≡ cond (nat_lt d 16) d 16 → 16 ≤ n → d < 16 → ⊥
above d n e h l = go (nat_lt d 16) refl e
  where
    go : (t : Bool) → nat_lt d 16 ≡ t → n ≡ cond t d 16 → ⊥
    go true i e = omega arith
    go false i e = search (rules, i, l)

byte_fits : (b : ℕ) → Fits w8 b → b < 256
byte_fits b h = h.fits

pub returns-then-value-lt16 : goal.returns-then-value-lt16
returns-then-value-lt16 c =
    let is = entry c.args.byte (byte_fits c.args.byte c.ranges.byte) in
    let digit = below (digit_value c.args.byte) (get_or DIGIT_VALUES c.args.byte 0) is c.if-value-lt16.true in
    (digit.0, c.from.ensures ∙ digit.1)

pub returns-else-value-lt16 : goal.returns-else-value-lt16
returns-else-value-lt16 c = above (digit_value c.args.byte) (get_or DIGIT_VALUES c.args.byte 0) (entry c.args.byte (byte_fits c.args.byte c.ranges.byte)) c.if-value-lt16.false
