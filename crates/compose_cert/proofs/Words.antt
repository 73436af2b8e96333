-- Words and lines that are joined are divided again, and numbers that are written are read again.
use Rattle.std.proofs.Common.{◌≡◌, ℕ, suc, zero, ◌-◌, ◌<◌, ◌≤◌, ◌^◌, List, [], ◌∷◌, ◌++◌, length, drop, replicate, Bool, true, false, cond, not, refl, ◌∙◌, ap, arith, append_assoc, eqb-true, lt-ltb}
use Rattle.std.specs.Prelude.{◌==◌, Some, nat_lt, nat_le, codes, bytes_eq}
use Rattle.std.specs.Cmp.Lexicographic.{bytes_decides}
use Rattle.std.specs.List.{list_all}
use Rattle.std.specs.Char.{digit_value}
use Rattle.std.specs.Fmt.{decimal, digits}
use Rattle.std.specs.Str.Parse.{digits_value, AllDigits}
use Rattle.std.proofs.lemmas.Fmt.{digits_is_IsNumeral}
use Rattle.std.proofs.lemmas.Bool.{and_parts, and_from, eqb-false, ltb-true, ltb-false, leb-true}
use Rattle.keysym_core.specs.Keysym.{is_keysym}
use Rattle.keysym_core.specs.Names.{is_surrogate}
use Rattle.compose_text.specs.Lines.{divide, onto_first}
use Rattle.compose_cert.specs.Spelling.{character_text, keysym_text, is_number, is_character, ended}
use Rattle.compose_cert.specs.Reading.{written, number_of, keysym_of, character_of}

-- ---- dividing

-- bytes above the blank, that is, neither a blank nor a newline
abbrev pub plain : List ℕ → Bool
plain bs = list_all (λ b. nat_lt 32 b) bs

-- bytes above the blank, followed by bytes above the blank, are bytes above the blank
pub plain_append : (a b : List ℕ) → plain a ≡ true → plain b ≡ true → plain (a ++ b) ≡ true
plain_append [] b p q = q
plain_append (x ∷ a) b p q = let parts = and_parts (nat_lt 32 x) (plain a) p in and_from (nat_lt 32 x) (plain (a ++ b)) parts.0 (plain_append a b parts.1 q)

-- bytes are divided at the first divider if none comes before it
pub divide_at : (at : ℕ) (p : ℕ → Bool) → ((b : ℕ) → p b ≡ true → (b == at) ≡ false) → (part rest : List ℕ) → list_all p part ≡ true → divide at (part ++ at ∷ rest) ≡ part ∷ divide at rest
divide_at at p differs [] rest h = go (at == at) refl
  where
    go : (x : Bool) → (at == at) ≡ x → cond x ([] ∷ divide at rest) (onto_first at (divide at rest)) ≡ [] ∷ divide at rest
    go true e = refl
    go false e = absurd (eqb-false at at e refl)
divide_at at p differs (b ∷ part) rest h =
    let parts = and_parts (p b) (list_all p part) h in
    rw (differs b parts.0, divide_at at p differs part rest parts.1) refl

-- bytes without the divider are one part
pub divide_last : (at : ℕ) (p : ℕ → Bool) → ((b : ℕ) → p b ≡ true → (b == at) ≡ false) → (part : List ℕ) → list_all p part ≡ true → divide at part ≡ part ∷ []
divide_last at p differs [] h = refl
divide_last at p differs (b ∷ part) h =
    let parts = and_parts (p b) (list_all p part) h in
    rw (differs b parts.0, divide_last at p differs part parts.1) refl

above_differs : (at b : ℕ) → at ≤ 32 → nat_lt 32 b ≡ true → (b == at) ≡ false
above_differs at b l h = go (b == at) refl
  where
    go : (x : Bool) → (b == at) ≡ x → x ≡ false
    go true e = absurd (omega (arith, eqb-true b at e, ltb-true 32 b h))
    go false e = refl

-- a word of bytes above the blank is the first part when its bytes are divided at the blank after
-- it
pub word_divided : (word rest : List ℕ) → plain word ≡ true → divide 32 (word ++ 32 ∷ rest) ≡ word ∷ divide 32 rest
word_divided word rest h = divide_at 32 (λ b. nat_lt 32 b) (λ b h. above_differs 32 b (omega arith) h) word rest h

-- a word of bytes above the blank is its only part
pub word_alone : (word : List ℕ) → plain word ≡ true → divide 32 word ≡ word ∷ []
word_alone word h = divide_last 32 (λ b. nat_lt 32 b) (λ b h. above_differs 32 b (omega arith) h) word h

-- a line has no newline
abbrev pub is_line : List ℕ → Bool
is_line bs = list_all (λ b. not (b == 10)) bs

-- lines that end with a newline are divided into themselves, and nothing comes after the last
pub lines_divided : (lines : List (List ℕ)) → list_all is_line lines ≡ true → divide 10 (ended lines) ≡ lines ++ [] ∷ []
lines_divided [] h = refl
lines_divided (line ∷ lines) h =
    let parts = and_parts (is_line line) (list_all is_line lines) h in
    ap (divide 10) (append_assoc line (10 ∷ []) (ended lines)) ∙ divide_at 10 (λ b. not (b == 10)) (λ b h. negated (b == 10) h) line (ended lines) parts.0
    ∙ ap (λ ls. line ∷ ls) (lines_divided lines parts.1)
  where
    negated : (b : Bool) → not b ≡ true → b ≡ false
    negated true e = cc
    negated false e = refl

-- bytes above the blank are a line
pub plain_line : (bs : List ℕ) → plain bs ≡ true → is_line bs ≡ true
plain_line [] h = refl
plain_line (b ∷ bs) h =
    let parts = and_parts (nat_lt 32 b) (plain bs) h in
    and_from (not (b == 10)) (is_line bs) (ap not (above_differs 10 b (omega arith) parts.0)) (plain_line bs parts.1)

-- ---- numbers

digit_above : (d radix : ℕ) → radix ≤ 16 → digit_value d < radix → nat_lt 32 d ≡ true
digit_above d radix l h = go (nat_lt d 48) refl
  where
    go : (x : Bool) → nat_lt d 48 ≡ x → nat_lt 32 d ≡ true
    go true e = let v : digit_value d ≡ 36 = rw e refl in absurd (omega arith)
    go false e = lt-ltb 32 d (omega (arith, ltb-false d 48 e))

digits_plain : (radix : ℕ) (ds : List ℕ) → radix ≤ 16 → AllDigits radix ds → plain ds ≡ true
digits_plain radix [] l a = refl
digits_plain radix (d ∷ ds) l a = and_from (nat_lt 32 d) (plain ds) (digit_above d radix l a.0) (digits_plain radix ds l a.1)

same_bytes : (a : List ℕ) → bytes_eq a a ≡ true
same_bytes a = (bytes_decides a a).1 refl

-- a decimal numeral has only bytes above the blank
pub decimal_plain : (n : ℕ) → n < 10 ^ 64 → plain (decimal n) ≡ true
decimal_plain n h = digits_plain 10 (decimal n) (omega arith) (digits_is_IsNumeral 10 false (omega arith) (omega arith) n h).0.1

-- a hexadecimal numeral has only bytes above the blank
pub hex_plain : (upper : Bool) (n : ℕ) → n < 16 ^ 64 → plain (digits 16 upper n) ≡ true
hex_plain upper n h = digits_plain 16 (digits 16 upper n) (omega arith) (digits_is_IsNumeral 16 upper (omega arith) (omega arith) n h).0.1

written_again : (text : ℕ → List ℕ) (test : ℕ → Bool) (x y : ℕ) → y ≡ x → test x ≡ true → written text test y (text x) ≡ Some x
written_again text test x y e h = rw (e, h, same_bytes (text x)) refl

-- a 32-bit number that is written is read back
pub number_again : (n : ℕ) → is_number n ≡ true → number_of (decimal n) ≡ Some n
number_again n h = let l = ltb-true n 0x100000000 h in written_again decimal is_number n (digits_value 10 (decimal n)) (digits_is_IsNumeral 10 false (omega arith) (omega arith) n (omega arith)).1 h

-- a keysym that is written is read back
pub keysym_again : (k : ℕ) → is_keysym k ≡ true → keysym_of (keysym_text k) ≡ Some k
keysym_again k h =
    let l = leb-true k 0x1fffffff h in written_again keysym_text is_keysym k (digits_value 16 (keysym_text k)) (digits_is_IsNumeral 16 false (omega arith) (omega arith) k (omega arith)).1 h

-- leading zeros don't change the value of hexadecimal digits
pub zeros : (k : ℕ) (ds : List ℕ) → digits_value 16 (replicate k 48 ++ ds) ≡ digits_value 16 ds
zeros zero ds = refl
zeros (suc k) ds = zeros k ds

-- a character is at most 10FFFF
pub character_below : (c : ℕ) → is_character c ≡ true → c ≤ 0x10ffff
character_below c h = leb-true c 0x10ffff (and_parts (nat_le c 0x10ffff) (not (is_surrogate c)) h).0

-- a character that is written is read back
pub character_again : (c : ℕ) → is_character c ≡ true → character_of (character_text c) ≡ Some c
character_again c h =
    let l = character_below c h in
    written_again character_text is_character c (digits_value 16 (drop 2 (character_text c)))
    (zeros (4 - length (digits 16 true c)) (digits 16 true c) ∙ (digits_is_IsNumeral 16 true (omega arith) (omega arith) c (omega arith)).1) h

zeros_plain : (k : ℕ) → plain (replicate k 48) ≡ true
zeros_plain zero = refl
zeros_plain (suc k) = zeros_plain k

-- the text of a character has only bytes above the blank
pub character_plain : (c : ℕ) → is_character c ≡ true → plain (character_text c) ≡ true
character_plain c h =
    let l = character_below c h in
    plain_append (codes "U+" ++ replicate (4 - length (digits 16 true c)) 48) (digits 16 true c) (zeros_plain (4 - length (digits 16 true c))) (hex_plain true c (omega arith))
