-- The digits of a code, read from the first one on.
use Rattle.std.proofs.Common.{◌≡◌, ℕ, ◌+◌, ◌*◌, ◌^◌, ◌<◌, ◌≤◌, List, ◌∷◌, ◌++◌, length, take, drop, get_or, nat_lt, refl, sym, ◌∙◌, ap, arith, true, lt-ltb}
use Rattle.std.specs.Char.{digit_value}
use Rattle.std.specs.Str.Parse.{digits_value, AllDigits}
use Rattle.std.proofs.Math.Nat.{pow-le-pow_left, pow-le-pow_right}
use Rattle.std.proofs.lemmas.List.{append_assoc, take_more, drop_more, length-take}
use Rattle.std.proofs.lemmas.Int.Digits.{digits_value-lt, digits_value_more, digits_more}
use Rattle.compose_text.specs.Bytes.{leading}

-- the first bytes are digits and write the value
pub record Code (radix value : ℕ) (bytes : List ℕ) (len : ℕ) : Type 0 where
  pub few : length bytes ≤ 3
  pub written : value ≡ digits_value radix (take len bytes)
  pub digits : AllDigits radix (take len bytes)
  pub kept : leading (λ d. nat_lt (digit_value d) radix) bytes ≡ take len bytes ++ leading (λ d. nat_lt (digit_value d) radix) (drop len bytes)

-- three digits write a number below 4,096
short_code : (radix : ℕ) (digits : List ℕ) → radix ≤ 16 → length digits ≤ 3 → AllDigits radix digits → digits_value radix digits < 4096
short_code radix digits low few all =
    let below = digits_value-lt radix digits all in
    let base : radix ^ length digits ≤ 16 ^ length digits = pow-le-pow_left low (length digits) in
    let sixteen : 0 < 16 = omega arith in
    let long : 16 ^ length digits ≤ 16 ^ 3 = pow-le-pow_right sixteen few in
    omega (arith, below, base, long)

-- one more digit goes into the value, which is still below 4,096
pub code_more : (radix value digit : ℕ) (bytes : List ℕ) (len : ℕ) → radix ≤ 16 → len < length bytes → digit_value (get_or bytes len 0) < radix → digit ≡ digit_value (get_or bytes len 0)
    → Code radix value bytes len
    → (value * radix + digit < 4096) × Code radix (value * radix + digit) bytes (len + 1)
code_more radix value digit bytes len low l small is s =
    let digits = digits_more radix bytes len l s.digits small in
    let same : value * radix + digit ≡ digits_value radix (take (len + 1) bytes) =
    ap (λ x. x * radix + digit) s.written ∙ ap (λ x. digits_value radix (take len bytes) * radix + x) is ∙ sym (digits_value_more radix bytes len l) in
    let few : length (take (len + 1) bytes) ≤ 3 = simp length-take (let f = s.few in omega arith) in
    let here : drop len bytes ≡ get_or bytes len 0 ∷ drop (len + 1) bytes = drop_more bytes len 0 l in
    let passes : nat_lt (digit_value (get_or bytes len 0)) radix ≡ true = lt-ltb (digit_value (get_or bytes len 0)) radix small in (
      omega (arith, same, short_code radix (take (len + 1) bytes) low few digits),
      record {
        few = s.few;
        written = same;
        digits = digits;
        kept = s.kept ∙ ap (λ x. take len bytes ++ leading (λ d. nat_lt (digit_value d) radix) x) here ∙ rw (passes, take_more bytes len 0 l, append_assoc) refl;
      },
    )
