-- A word is read as the value that it spells.
use Rattle.std.proofs.Common.{◌≡◌, inl, inr, ℕ, zero, suc, ◌<◌, ◌≤◌, List, [], ◌∷◌, length, get_or, drop, take, Bool, true, false, cond, not, ◌&&◌, refl, sym, ◌∙◌, ap, arith, lt-ltb, eq-eqb}
use Rattle.std.specs.Prelude.{◌==◌, nat_eq, nat_le, Some, None, Option, bytes_eq}
use Rattle.std.specs.List.{starts_with}
use Rattle.std.specs.Char.{IsScalar, InScalarRange, OutOfScalarRange}
use Rattle.std.specs.Option.{MatchOption, SomeIff}
use Rattle.std.specs.Cmp.Lexicographic.{bytes_decides}
use Rattle.std.specs.Fmt.{decimal}
use Rattle.std.specs.Str.Parse.{digits_value}
use Rattle.std.proofs.lemmas.Bool.{and_parts, and_from, and_left, and_right, leb-true, le-leb, ltb-true, eqb-true, lt-leb, ne_eqb, false≢true}
use Rattle.keysym_core.specs.Keysym.{is_keysym}
use Rattle.keysym_core.specs.Names.{is_surrogate}
use Rattle.compose_text.specs.Lines.{divide}
use Rattle.compose_cert.specs.declared.numeral.Notation.TheVariants.{Decimal, LowerHexadecimal}
use Rattle.compose_cert.specs.Numerals.{numeral, padded, IsSpelled}
use Rattle.compose_cert.specs.Spelling.{character_text, keysym_text, is_number, is_character}
use Rattle.compose_cert.specs.Reading.{written, number_of, keysym_of, character_of}
use Rattle.compose_cert.proofs.Padded.{padded_value}
use Rattle.compose_cert.proofs.Words.{number_again, keysym_again, character_again}

-- nothing is read if the value has another text
unwritten : (text : ℕ → List ℕ) (test : ℕ → Bool) (x : ℕ) (word : List ℕ) → (test x ≡ true → word ≡ text x → ⊥) → written text test x word ≡ None
unwritten text test x word h = go (test x && bytes_eq word (text x)) refl
  where
    go : (t : Bool) → (test x && bytes_eq word (text x)) ≡ t → cond t (Some x) None ≡ None
    go true e = let parts = and_parts (test x) (bytes_eq word (text x)) e in absurd (h parts.0 ((bytes_decides word (text x)).0 parts.1))
    go false e = refl

-- a word that spells a number, or none, is read as this result
pub number_as_read : (word : List ℕ) (r : Option ℕ) → IsSpelled (numeral Decimal) 4294967295 word r → r ≡ number_of word
number_as_read word None h = sym (unwritten decimal is_number (digits_value 10 word) word (λ t e. let l = ltb-true (digits_value 10 word) 0x100000000 t in h (digits_value 10 word) (omega arith) e))
number_as_read word (Some n) h = sym (ap number_of h.1 ∙ number_again n (lt-ltb n 0x100000000 (omega (arith, h.0))))

-- a word that spells a keysym, or none, is read as this result
pub keysym_as_read : (word : List ℕ) (r : Option ℕ) → IsSpelled (numeral LowerHexadecimal) 0x1fffffff word r → r ≡ keysym_of word
keysym_as_read word None h = sym (unwritten keysym_text is_keysym (digits_value 16 word) word (λ t e. h (digits_value 16 word) (leb-true (digits_value 16 word) 0x1fffffff t) e))
keysym_as_read word (Some n) h = sym (ap keysym_of h.1 ∙ keysym_again n (le-leb n 0x1fffffff h.0))

-- ---- characters

prefix_is : (word : List ℕ) → starts_with nat_eq word (85 ∷ 43 ∷ []) ≡ true → word ≡ 85 ∷ 43 ∷ drop 2 word
prefix_is [] h = cc
prefix_is (a ∷ []) h = let p = and_parts (85 == a) false h in cc
prefix_is (a ∷ b ∷ word) h =
    let p = and_parts (85 == a) ((43 == b) && true) h in
    let q = and_parts (43 == b) true p.1 in
    ap (λ x. x ∷ b ∷ word) (sym (eqb-true 85 a p.0)) ∙ ap (λ x. 85 ∷ x ∷ word) (sym (eqb-true 43 b q.0))

prefixed : (word : List ℕ) (n : ℕ) → starts_with nat_eq word (85 ∷ 43 ∷ []) ≡ true → drop 2 word ≡ padded n → word ≡ character_text n
prefixed word n h e = prefix_is word h ∙ ap (λ ds. 85 ∷ 43 ∷ ds) e

-- a word that spells no character after its first two bytes is read as none
pub not_a_character : (word : List ℕ) → IsSpelled padded 0x10ffff (drop 2 word) None → None ≡ character_of word
not_a_character word h = sym (unwritten character_text is_character (digits_value 16 (drop 2 word)) word
    (λ t e. let l = leb-true (digits_value 16 (drop 2 word)) 0x10ffff (and_parts (nat_le (digits_value 16 (drop 2 word)) 0x10ffff) (not (is_surrogate (digits_value 16 (drop 2 word)))) t).0 in
    h (digits_value 16 (drop 2 word)) l (ap (drop 2) e)))

range_is_character : (n : ℕ) → n ≤ 0x10ffff → InScalarRange n → is_character n ≡ true
range_is_character n l (inl b) = and_from (nat_le n 0x10ffff) (not (is_surrogate n)) (le-leb n 0x10ffff l) (ap not (and_left (nat_le 0xd800 n) (nat_le n 0xdfff) (lt-leb 0xd800 n b)))
range_is_character n l (inr b) =
    and_from (nat_le n 0x10ffff) (not (is_surrogate n)) (le-leb n 0x10ffff l) (ap not (and_right (nat_le 0xd800 n) (nat_le n 0xdfff) (lt-leb n 0xdfff (omega (arith, b.0)))))

gap_is_none : (n : ℕ) → is_character n ≡ true → OutOfScalarRange n → ⊥
gap_is_none n t (inl b) =
    let parts = and_parts (nat_le n 0x10ffff) (not (is_surrogate n)) t in
    let s = and_from (nat_le 0xd800 n) (nat_le n 0xdfff) (le-leb 0xd800 n b.0) (le-leb n 0xdfff b.1) in
    false≢true (ap not (sym s) ∙ parts.1)
gap_is_none n t (inr b) = omega (arith, leb-true n 0x10ffff (and_parts (nat_le n 0x10ffff) (not (is_surrogate n)) t).0)

-- a word that spells a number after `U+` is read as its character, or as none if it is a surrogate
pub character_as_read : (word : List ℕ) (n : ℕ) (r : Option ℕ) → starts_with nat_eq word (85 ∷ 43 ∷ []) ≡ true → IsSpelled padded 0x10ffff (drop 2 word) (Some n) → SomeIff r (IsScalar n) n
    → MatchOption r (OutOfScalarRange n) (λ _. InScalarRange n) → r ≡ character_of word
character_as_read word n (Some x) h s v m = ap Some v.1 ∙ sym (ap character_of (prefixed word n h s.1) ∙ character_again n (range_is_character n s.0 m))
character_as_read word n None h s v m =
    let value : digits_value 16 (drop 2 word) ≡ n = ap (digits_value 16) s.1 ∙ padded_value n s.0 in
    sym (unwritten character_text is_character (digits_value 16 (drop 2 word)) word (λ t e. gap_is_none n (ap is_character (sym value) ∙ t) m))

-- ---- the parts before and after a byte

-- bytes are divided at their first divider, and what follows it is divided further
pub divide_found : (at : ℕ) (bytes : List ℕ) (i : ℕ) → i < length bytes → get_or bytes i 0 ≡ at → ((k : ℕ) → k < i → get_or bytes k 0 ≡ at → ⊥)
    → divide at bytes ≡ take i bytes ∷ divide at (drop (suc i) bytes)
divide_found at [] i l e n = absurd (omega arith)
divide_found at (b ∷ bytes) zero l e n = rw (eq-eqb b at e) refl
divide_found at (b ∷ bytes) (suc i) l e n = rw (ne_eqb b at (n 0 (omega arith)), divide_found at bytes i (omega arith) e (λ k h. n (suc k) (omega arith))) refl

-- bytes without the divider are one part
pub divide_unfound : (at : ℕ) (bytes : List ℕ) → ((k : ℕ) → k < length bytes → get_or bytes k 0 ≡ at → ⊥) → divide at bytes ≡ bytes ∷ []
divide_unfound at [] n = refl
divide_unfound at (b ∷ bytes) n = rw (ne_eqb b at (n 0 (omega arith)), divide_unfound at bytes (λ k h. n (suc k) (omega arith))) refl
