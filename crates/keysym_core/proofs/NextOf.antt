-- The keysyms of a character: those whose text is fixed, and those of a header.
use Rattle.std.proofs.Common.{◌≡◌, ◌≤◌, ◌+◌, ◌-◌, ℕ, Bool, true, false, cond, not, ◌&&◌, ◌||◌, ◌==◌, Option, Some, None, refl, sym, ap, ◌∙◌, subst, arith, eqb-true, eq-eqb, nat_le, nat_lt, ◌⊎◌, inl, inr, ⊎_elim}
use Rattle.std.proofs.lemmas.Bool.{true≢false, and_parts, leb-true, leb-false}
use Rattle.std.proofs.lemmas.Bool.Decides.{nat_tests}
use Rattle.std.specs.Option.{option_map_or}
use Rattle.compose_text.specs.Numbers.{is_between}
use Rattle.keysym_core.specs.Names.{KeysymNames, character_of, first_character, keysym_of_character, is_latin1, is_unicode_keysym, is_surrogate, is_keypad_digit, is_control}
use Rattle.keysym_core.specs.GivenCharacters.{is_fixed, gives, keypad_keysym}
use Rattle.keysym_core.specs.Next.{IsLeastFrom, lesser}
use Rattle.keysym_core.proofs.Rows.{none_is_not_some}
use Rattle.keysym_core.proofs.Forms.{keysym-unicode, not-true}

-- the lesser of the least of two sets is the least of both
module _ (low : ℕ) (P Q R : ℕ → Type 0) (split : (k : ℕ) → R k → P k ⊎ Q k) (left : (k : ℕ) → P k → R k) (right : (k : ℕ) → Q k → R k) where
  pub least_of_both : (x y : Option ℕ) → IsLeastFrom low P x → IsLeastFrom low Q y → IsLeastFrom low R (lesser x y)
  least_of_both None None p q = λ k more r. ⊎_elim (p k more) (q k more) (split k r)
  least_of_both None (Some j) p q = (q.0, right j q.1, λ k more r. ⊎_elim (λ there. absurd (p k more there)) (q.2 k more) (split k r))
  least_of_both (Some i) None p q = (p.0, left i p.1, λ k more r. ⊎_elim (p.2 k more) (λ there. absurd (q k more there)) (split k r))
  least_of_both (Some i) (Some j) p q = by (nat_le i j) refl
    where
      by : (b : Bool) → nat_le i j ≡ b → IsLeastFrom low R (cond b (Some i) (Some j))
      by true e = (p.0, left i p.1, λ k more r. ⊎_elim (p.2 k more) (λ there. omega (arith, leb-true i j e, q.2 k more there)) (split k r))
      by false e = (q.0, right j q.1, λ k more r. ⊎_elim (λ there. omega (arith, leb-false i j e, p.2 k more there)) (q.2 k more) (split k r))

-- if a disjunction is false, both parts are
neither : (a b : Bool) → (a || b) ≡ false → (a ≡ false) × (b ≡ false)
neither true b h = absurd (true≢false h)
neither false b h = (refl, h)

-- a character of Latin-1 is its own keysym
latin1-keysym : (k : ℕ) → is_latin1 k ≡ true → keysym_of_character k ≡ Some k
latin1-keysym k h = grind (arith, nat_tests)

-- the keypad digits have their keysyms
keypad-keysym : (k : ℕ) → is_keypad_digit k ≡ true → keypad_keysym (k - 0xffb0 + 0x30) ≡ Some k
keypad-keysym k h = grind (arith, nat_tests)

-- a keysym above Latin-1 that stands for a character by its number is the keysym of that character
unicode-range : (k : ℕ) → is_unicode_keysym k ≡ true → (0x01000100 ≤ k) × (k ≤ 0x0110ffff)
unicode-range k h =
    let parts = and_parts (nat_le 0x01000100 k) (nat_le k 0x0110ffff) h in
    (leb-true 0x01000100 k parts.0, leb-true k 0x0110ffff parts.1)

unicode-keysym : (k c : ℕ) → is_unicode_keysym k ≡ true → is_surrogate (k - 0x01000000) ≡ false → k - 0x01000000 ≡ c → keysym_of_character c ≡ Some k
unicode-keysym k c h scalar e =
    let range = unicode-range k h in
    keysym-unicode c (omega (arith, range.0, e)) (omega (arith, range.1, e)) (ap is_surrogate (sym e) ∙ scalar) ∙ ap Some (omega (arith, range.0, e))

-- the character of a keysym, by the range that it is in
by_latin1 : (names : KeysymNames) (k : ℕ) → is_latin1 k ≡ true → character_of names k ≡ Some k
by_latin1 names k h = rw h refl

by_unicode : (names : KeysymNames) (k : ℕ) → is_latin1 k ≡ false → is_unicode_keysym k ≡ true → is_surrogate (k - 0x01000000) ≡ false → character_of names k ≡ Some (k - 0x01000000)
by_unicode names k no_latin1 h scalar = rw (no_latin1, h, scalar) refl

by_keypad : (names : KeysymNames) (k : ℕ) → is_latin1 k ≡ false → is_unicode_keysym k ≡ false → is_keypad_digit k ≡ true → character_of names k ≡ Some (k - 0xffb0 + 0x30)
by_keypad names k no_latin1 no_unicode h = rw (no_latin1, no_unicode, h) refl

by_header : (names : KeysymNames) (k : ℕ) → is_fixed k ≡ false → character_of names k ≡ first_character names.characters k
by_header names k h =
    let last = neither (is_latin1 k || is_unicode_keysym k) (is_keypad_digit k) h in
    let first = neither (is_latin1 k) (is_unicode_keysym k) last.0 in
    rw (first.0, first.1, last.1) refl

-- the keysym of a character has that character
latin1-range : (c : ℕ) → (is_control c || is_surrogate c || nat_lt 0x10ffff c) ≡ false → nat_lt c 0x100 ≡ true → is_latin1 c ≡ true
latin1-range c h small = grind (arith, nat_tests)

above-latin1 : (c : ℕ) → (is_control c || is_surrogate c || nat_lt 0x10ffff c) ≡ false → nat_lt c 0x100 ≡ false
    → (is_latin1 (c + 0x01000000) ≡ false) × (is_unicode_keysym (c + 0x01000000) ≡ true) × (is_surrogate c ≡ false)
above-latin1 c h large = (grind (arith, nat_tests), grind (arith, nat_tests), grind (arith, nat_tests))

keysym-has_character : (names : KeysymNames) (c k : ℕ) → keysym_of_character c ≡ Some k → character_of names k ≡ Some c
keysym-has_character names c k e = by (is_control c || is_surrogate c || nat_lt 0x10ffff c) refl (nat_lt c 0x100) refl e
  where
    by : (bad : Bool) → (is_control c || is_surrogate c || nat_lt 0x10ffff c) ≡ bad → (small : Bool) → nat_lt c 0x100 ≡ small
        → cond bad None (cond small (Some c) (Some (c + 0x01000000))) ≡ Some k → character_of names k ≡ Some c
    by true h small l e = absurd (none_is_not_some e)
    by false h true l e =
        let same : c ≡ k = cc in
        subst (λ n. character_of names n ≡ Some c) same (by_latin1 names c (latin1-range c h l))
    by false h false l e =
        let same : c + 0x01000000 ≡ k = cc in
        let range = above-latin1 c h l in
        let number : c + 0x01000000 - 0x01000000 ≡ c = omega arith in
        subst (λ n. character_of names n ≡ Some c) same (by_unicode names (c + 0x01000000) range.0 range.1 (ap is_surrogate number ∙ range.2) ∙ ap Some number)

-- so has the keypad digit
keypad-ranges : (c : ℕ) → is_between 0x30 0x39 c ≡ true
    → (is_latin1 (c - 0x30 + 0xffb0) ≡ false) × (is_unicode_keysym (c - 0x30 + 0xffb0) ≡ false) × (is_keypad_digit (c - 0x30 + 0xffb0) ≡ true) × (c - 0x30 + 0xffb0 - 0xffb0 + 0x30 ≡ c)
keypad-ranges c h =
    let parts = and_parts (nat_le 0x30 c) (nat_le c 0x39) h in
    let low = leb-true 0x30 c parts.0 in
    (grind (arith, nat_tests), grind (arith, nat_tests), grind (arith, nat_tests), omega arith)

keypad-has_character : (names : KeysymNames) (c k : ℕ) → keypad_keysym c ≡ Some k → character_of names k ≡ Some c
keypad-has_character names c k e = by (is_between 0x30 0x39 c) refl e
  where
    by : (b : Bool) → is_between 0x30 0x39 c ≡ b → cond b (Some (c - 0x30 + 0xffb0)) None ≡ Some k → character_of names k ≡ Some c
    by false h e = absurd (none_is_not_some e)
    by true h e =
        let same : c - 0x30 + 0xffb0 ≡ k = cc in
        let range = keypad-ranges c h in
        subst (λ n. character_of names n ≡ Some c) same (by_keypad names (c - 0x30 + 0xffb0) range.0 range.1 range.2 ∙ ap Some range.3)

-- and a keysym to which a header assigns the character
given-first : (o : Option ℕ) (c : ℕ) → option_map_or (λ d. d == c) o false ≡ true → o ≡ Some c
given-first None c h = absurd (true≢false (sym h))
given-first (Some d) c h = ap Some (eqb-true d c h)

given-has_character : (names : KeysymNames) (c k : ℕ) → (not (is_fixed k) && gives names.characters c k) ≡ true → character_of names k ≡ Some c
given-has_character names c k h =
    let parts = and_parts (not (is_fixed k)) (gives names.characters c k) h in
    by_header names k (not-true (is_fixed k) parts.0) ∙ given-first (first_character names.characters k) c parts.1

-- and there are no others
abbrev HasKeysym : KeysymNames → ℕ → ℕ → Type 0
HasKeysym names c k = ((keysym_of_character c ≡ Some k) ⊎ (keypad_keysym c ≡ Some k)) ⊎ ((not (is_fixed k) && gives names.characters c k) ≡ true)

character-has_keysym : (names : KeysymNames) (c k : ℕ) → character_of names k ≡ Some c → HasKeysym names c k
character-has_keysym names c k e = by (is_latin1 k) refl (is_unicode_keysym k) refl (is_surrogate (k - 0x01000000)) refl (is_keypad_digit k) refl e
  where
    by : (latin1 : Bool) → is_latin1 k ≡ latin1 → (unicode : Bool) → is_unicode_keysym k ≡ unicode → (surrogate : Bool) → is_surrogate (k - 0x01000000) ≡ surrogate
        → (keypad : Bool) → is_keypad_digit k ≡ keypad
        → cond latin1 (Some k) (cond unicode (cond surrogate None (Some (k - 0x01000000))) (cond keypad (Some (k - 0xffb0 + 0x30)) (first_character names.characters k))) ≡ Some c
        → HasKeysym names c k
    by true l unicode u surrogate s keypad p e =
        let same : k ≡ c = cc in
        inl (inl (ap keysym_of_character (sym same) ∙ latin1-keysym k l))
    by false l true u true s keypad p e = absurd (none_is_not_some e)
    by false l true u false s keypad p e =
        let same : k - 0x01000000 ≡ c = cc in
        inl (inl (unicode-keysym k c u s same))
    by false l false u surrogate s true p e =
        let same : k - 0xffb0 + 0x30 ≡ c = cc in
        inl (inr (ap keypad_keysym (sym same) ∙ keypad-keysym k p))
    by false l false u surrogate s false p e =
        let unfixed : is_fixed k ≡ false = ap (λ b. b || is_unicode_keysym k || is_keypad_digit k) l ∙ ap (λ b. b || is_keypad_digit k) u ∙ p in
        inr (ap (λ b. not b && gives names.characters c k) unfixed ∙ ap (λ o. option_map_or (λ d. d == c) o false) e ∙ eq-eqb c c refl)

-- so the next keysym of a character is the lesser of the next fixed one and the next assigned one
pub next-of_both : (names : KeysymNames) (c low : ℕ) (fixed given : Option ℕ)
    → IsLeastFrom low (λ k. (keysym_of_character c ≡ Some k) ⊎ (keypad_keysym c ≡ Some k)) fixed
    → IsLeastFrom low (λ k. (not (is_fixed k) && gives names.characters c k) ≡ true) given
    → IsLeastFrom low (λ k. character_of names k ≡ Some c) (lesser fixed given)
next-of_both names c low fixed given =
    least_of_both low (λ k. (keysym_of_character c ≡ Some k) ⊎ (keypad_keysym c ≡ Some k)) (λ k. (not (is_fixed k) && gives names.characters c k) ≡ true) (λ k. character_of names k ≡ Some c)
    (character-has_keysym names c) (λ k. ⊎_elim (keysym-has_character names c k) (keypad-has_character names c k)) (given-has_character names c) fixed given

-- what is least by one test is least by a test with the same results
pub least-by_same : (low : ℕ) (p q : ℕ → Bool) → ((k : ℕ) → p k ≡ q k) → (found : Option ℕ) → IsLeastFrom low (λ k. p k ≡ true) found → IsLeastFrom low (λ k. q k ≡ true) found
least-by_same low p q same None least = λ k more there. least k more (same k ∙ there)
least-by_same low p q same (Some i) least = (least.0, sym (same i) ∙ least.1, λ k more there. least.2 k more (same k ∙ there))
