-- A text in quotes: its end, its bytes, and that it has no newline.
use Rattle.std.proofs.Common.{◌≡◌, ℕ, zero, suc, ◌+◌, ◌/◌, ◌%◌, ◌≤◌, ◌<◌, List, [], ◌∷◌, ◌++◌, Bool, true, false, ◌||◌, cond, refl, sym, ◌∙◌, ap, subst, arith, append-nil, nat_lt}
use Rattle.std.specs.Prelude.{◌==◌}
use Rattle.std.specs.List.{list_all}
use Rattle.std.specs.Str.{IsUtf8, IsAscii}
use lib.Utf8.{encode, encodes, scalar, scalars}
use Rattle.std.proofs.lemmas.Bool.{and_parts, and_from, ne_eqb, eqb-true, ltb-true, ltb-false}
use Rattle.std.proofs.lemmas.Str.{IsUtf8-append, IsUtf8-nil, IsUtf8-from_ascii, encode_ascii}
use Rattle.std.proofs.lemmas.Str.Ascii.{IsAscii-nil}
use Rattle.std.proofs.lemmas.List.Concat.{flat_map-append}
use Rattle.std.proofs.lemmas.List.Folds.{list_all-append}
use Rattle.compose_text.specs.Lines.{in_line}
use Rattle.compose_lex.specs.Line.{is_inside, is_inside_from}
use Rattle.compose_lex.specs.Escape.{quote, quote_inside, quote_byte, octal_escape}

-- ---- the quote that closes it

inside_octal : (b : ℕ) (rest : List ℕ) → is_inside_from false (octal_escape b ++ rest) ≡ is_inside_from false rest
inside_octal b rest =
    let second : (48 + b / 8 % 8) == 34 ≡ false = ne_eqb (48 + b / 8 % 8) 34 (omega arith) in
    let third : (48 + b % 8) == 34 ≡ false = ne_eqb (48 + b % 8) 34 (omega arith) in
    let fourth : (48 + b / 8 % 8) == 92 ≡ false = ne_eqb (48 + b / 8 % 8) 92 (omega arith) in
    let fifth : (48 + b % 8) == 92 ≡ false = ne_eqb (48 + b % 8) 92 (omega arith) in
    rw (second, fourth) (rw (third, fifth) refl)

inside_byte : (b : ℕ) (rest : List ℕ) → is_inside_from false (quote_byte b ++ rest) ≡ is_inside_from false rest
inside_byte b rest = by (b == 92) (b == 34) (nat_lt b 32 || b == 127) refl refl refl
  where
    by : (s t u : Bool) → b == 92 ≡ s → b == 34 ≡ t → nat_lt b 32 || b == 127 ≡ u → is_inside_from false (quote_byte b ++ rest) ≡ is_inside_from false rest
    by true t u d e f = rw d refl
    by false true u d e f = rw (d, e) refl
    by false false true d e f = rw (d, e, f) (inside_octal b rest)
    by false false false d e f = rw (d, e, f) (rw (e, d) refl)

pub quote_closed : (text : List ℕ) → is_inside (quote_inside text) ≡ true
quote_closed [] = refl
quote_closed (b ∷ text) = inside_byte b (quote_inside text) ∙ quote_closed text

-- ---- no newline

byte_in_line : (b : ℕ) → list_all in_line (quote_byte b) ≡ true
byte_in_line b = by (b == 92) (b == 34) (nat_lt b 32) (b == 127) refl refl refl refl
  where
    octal_in_line : list_all in_line (octal_escape b) ≡ true
    octal_in_line =
        let first : (48 + b / 64) == 10 ≡ false = ne_eqb (48 + b / 64) 10 (omega arith) in
        let second : (48 + b / 8 % 8) == 10 ≡ false = ne_eqb (48 + b / 8 % 8) 10 (omega arith) in
        let third : (48 + b % 8) == 10 ≡ false = ne_eqb (48 + b % 8) 10 (omega arith) in
        rw (first, second, third) refl

    by : (s t u w : Bool) → b == 92 ≡ s → b == 34 ≡ t → nat_lt b 32 ≡ u → b == 127 ≡ w → list_all in_line (quote_byte b) ≡ true
    by true t u w d e f g = let o : b == 10 ≡ false = ne_eqb b 10 (let is : b ≡ 92 = eqb-true b 92 d in omega (arith, is)) in rw d (rw o refl)
    by false true u w d e f g = let o : b == 10 ≡ false = ne_eqb b 10 (let is : b ≡ 34 = eqb-true b 34 e in omega (arith, is)) in rw (d, e) (rw o refl)
    by false false true w d e f g = rw (d, e, f) octal_in_line
    by false false false true d e f g = rw (d, e, f, g) octal_in_line
    by false false false false d e f g = let o : b == 10 ≡ false = ne_eqb b 10 (let low : 32 ≤ b = ltb-false b 32 f in omega (arith, low)) in rw (d, e, f, g) (rw o refl)

inside_in_line : (text : List ℕ) → list_all in_line (quote_inside text) ≡ true
inside_in_line [] = refl
inside_in_line (b ∷ text) = list_all-append in_line (quote_byte b) (quote_inside text) ∙ and_from _ _ (byte_in_line b) (inside_in_line text)

pub quote_in_line : (text : List ℕ) → list_all in_line (quote text) ≡ true
quote_in_line text = list_all-append in_line (quote_inside text) (34 ∷ []) ∙ and_from _ _ (inside_in_line text) refl

-- ---- UTF-8

abbrev pub AreAscii : List ℕ → Type 0
AreAscii [] = Unit {0}
AreAscii (b ∷ bytes) = (b < 128) × AreAscii bytes

ascii_more : (b : ℕ) (bytes : List ℕ) → b < 128 → IsAscii bytes → IsAscii (b ∷ bytes)
ascii_more b bytes l h zero = l
ascii_more b bytes l h (suc i) = h i

ascii : (bytes : List ℕ) → AreAscii bytes → IsAscii bytes
ascii [] h = IsAscii-nil
ascii (b ∷ bytes) h = ascii_more b bytes h.0 (ascii bytes h.1)

pub ascii_utf8 : (bytes : List ℕ) → AreAscii bytes → IsUtf8 bytes
ascii_utf8 bytes h = IsUtf8-from_ascii bytes (ascii bytes h)

quoted_ascii : (b : ℕ) → b < 128 → AreAscii (quote_byte b)
quoted_ascii b l = by (b == 92 || b == 34) (nat_lt b 32 || b == 127)
  where
    by : (x y : Bool) → AreAscii (cond x (92 ∷ b ∷ []) (cond y (octal_escape b) (b ∷ [])))
    by true y = (omega arith, (l, tt))
    by false true = (omega arith, (omega arith, (omega arith, (omega arith, tt))))
    by false false = (l, tt)

abbrev AreHigh : List ℕ → Type 0
AreHigh [] = Unit {0}
AreHigh (b ∷ bytes) = (128 ≤ b) × AreHigh bytes

encode_high : (c : ℕ) → 128 ≤ c → AreHigh (encode c)
unfolding encode
encode_high c l = by (nat_lt c 128) refl (nat_lt c 2048) (nat_lt c 65536)
  where
    by : (x : Bool) → nat_lt c 128 ≡ x → (y z : Bool) → AreHigh (cond x (c ∷ []) (cond y ((192 + c / 64) ∷ (128 + c % 64) ∷ []) (cond z ((224 + c / 4096) ∷ (128 + c / 64 % 64) ∷ (128 + c % 64) ∷ [])
        ((240 + c / 262144) ∷ (128 + c / 4096 % 64) ∷ (128 + c / 64 % 64) ∷ (128 + c % 64) ∷ []))))
    by true e y z = absurd (let low : c < 128 = ltb-true c 128 e in omega (arith, low))
    by false e true z = (omega arith, (omega arith, tt))
    by false e false true = (omega arith, (omega arith, (omega arith, tt)))
    by false e false false = (omega arith, (omega arith, (omega arith, (omega arith, tt))))

high_same : (bytes : List ℕ) → AreHigh bytes → quote_inside bytes ≡ bytes
high_same [] h = refl
high_same (b ∷ bytes) h =
    let first : b == 92 ≡ false = ne_eqb b 92 (let l = h.0 in omega (arith, l)) in
    let second : b == 34 ≡ false = ne_eqb b 34 (let l = h.0 in omega (arith, l)) in
    let third : nat_lt b 32 ≡ false = grind (arith, h.0) in
    let fourth : b == 127 ≡ false = ne_eqb b 127 (let l = h.0 in omega (arith, l)) in
    rw (first, second, third, fourth) (ap (λ bs. b ∷ bs) (high_same bytes h.1))

one_utf8 : (c : ℕ) → scalar c ≡ true → IsUtf8 (quote_inside (encode c))
one_utf8 c h = by (nat_lt c 128) refl
  where
    by : (x : Bool) → nat_lt c 128 ≡ x → IsUtf8 (quote_inside (encode c))
    by true e =
        let low : c < 128 = ltb-true c 128 e in
        subst (λ bs. IsUtf8 (quote_inside bs)) (sym (encode_ascii c low)) (subst IsUtf8 (sym (append-nil (quote_byte c))) (ascii_utf8 (quote_byte c) (quoted_ascii c low)))
    by false e =
        let high : 128 ≤ c = ltb-false c 128 e in
        subst IsUtf8 (sym (high_same (encode c) (encode_high c high))) (c ∷ [], (and_from (scalar c) true h refl, append-nil (encode c)))

all_utf8 : (cs : List ℕ) → scalars cs ≡ true → IsUtf8 (quote_inside (encodes cs))
all_utf8 [] h = IsUtf8-nil
all_utf8 (c ∷ cs) h =
    let parts = and_parts (scalar c) (scalars cs) h in
    subst IsUtf8 (sym (flat_map-append quote_byte (encode c) (encodes cs))) (IsUtf8-append (quote_inside (encode c)) (quote_inside (encodes cs)) (one_utf8 c parts.0) (all_utf8 cs parts.1))

pub quote_utf8 : (text : List ℕ) → IsUtf8 text → IsUtf8 (quote text)
quote_utf8 text u =
    let inside : IsUtf8 (quote_inside text) = subst (λ bs. IsUtf8 (quote_inside bs)) u.1.1 (all_utf8 u.0 u.1.0) in
    let mark : IsUtf8 (34 ∷ []) = ascii_utf8 (34 ∷ []) (omega arith, tt) in
    IsUtf8-append (34 ∷ []) (quote_inside text ++ 34 ∷ []) mark (IsUtf8-append (quote_inside text) (34 ∷ []) inside mark)
