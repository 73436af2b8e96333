-- The character of a comment: what is read is what the grammar defines.
use Rattle.std.proofs.Common.{◌≡◌, ◌⊎◌, inl, inr, ℕ, List, [], ◌∷◌, ◌++◌, length, drop, Bool, true, false, cond, not, ◌&&◌, Option, Some, None, refl, sym, ◌∙◌, ap, append_assoc, eqb-true}
use Rattle.std.specs.Prelude.{◌==◌, IsTrue, codes}
use Rattle.std.specs.List.{list_all}
use Rattle.std.proofs.lemmas.Bool.{and_parts}
use Rattle.compose_text.specs.Numbers.{is_between, is_hexadecimal_digit, is_hexadecimal, hexadecimal}
use Rattle.compose_text.specs.Bytes.{is_blank, begins}
use Rattle.keysym_core.specs.Header.{is_graphic, run, after_run, begins_with, graphic_character, numbered_character, unparenthesized, noted_character}
use Rattle.keysym_core.specs.HeaderLine.{NotesNumber, NotesCharacter}
use Rattle.keysym_core.proofs.Forms.{not-true}
use Rattle.keysym_core.proofs.HeaderRuns.{run_all, after_all, starts, start_sound, parts_of, run_passes, after_stops, some_if}

-- ---- graphic characters

graphic_some : (c : ℕ) → is_graphic c ≡ true → graphic_character c ≡ Some c
graphic_some c h = ap (λ t. cond t (Some c) None) h

graphic_none : (c : ℕ) → not (is_graphic c) ≡ true → graphic_character c ≡ None
graphic_none c h = ap (λ t. cond t (Some c) None) (not-true (is_graphic c) h)

-- ---- a number by the grammar is read

-- four to six digits after `U+`, if the bytes begin with that
abbrev number_if : Bool → List ℕ → Option ℕ
number_if begun digits = cond (begun && is_hexadecimal 4 6 digits) (graphic_character (hexadecimal digits)) None

number_read : (digits others : List ℕ) → is_hexadecimal 4 6 digits ≡ true → begins is_hexadecimal_digit others
    ≡ false → numbered_character (codes "U+" ++ (digits ++ others)) ≡ graphic_character (hexadecimal digits)
number_read digits others h stops =
    let all : list_all is_hexadecimal_digit digits ≡ true = (and_parts (is_between 4 6 (length digits)) (list_all is_hexadecimal_digit digits) h).1 in
    ap (λ t. number_if t (run is_hexadecimal_digit (digits ++ others))) (starts (codes "U+") (digits ++ others))
    ∙ ap (number_if true) (run_all is_hexadecimal_digit digits others all stops)
    ∙ ap (λ t. cond t (graphic_character (hexadecimal digits)) None) h

in_order : (a b c d e : List ℕ) → a ++ b ++ c ++ d ++ e ≡ a ++ (b ++ (c ++ (d ++ e)))
in_order a b c d e = simp append_assoc

-- after the blanks
after_blanks : (text blanks rest : List ℕ) → text ≡ blanks ++ rest → list_all is_blank blanks ≡ true → begins is_blank rest ≡ false → noted_character text ≡ numbered_character (unparenthesized rest)
after_blanks text blanks rest e all stops = ap noted_character e ∙ ap (λ t. numbered_character (unparenthesized t)) (after_all is_blank blanks rest all stops)

noted_read : (text : List ℕ) (number : ℕ) → NotesNumber text number → noted_character text ≡ graphic_character number
noted_read text number n =
    let prefix = codes "U+" ++ (n.digits ++ n.others) in
    let e : text ≡ n.blanks ++ (n.opening ++ prefix) = n.bytes ∙ in_order n.blanks n.opening (codes "U+") n.digits n.others in
    let stops : begins is_hexadecimal_digit n.others ≡ false = not-true (begins is_hexadecimal_digit n.others) n.are_all_digits in
    let read = number_read n.digits n.others n.are_digits stops ∙ ap graphic_character n.is_number in
    elim n.is_opening [
      | inl o ↦ after_blanks text n.blanks prefix (e ∙ ap (λ t. n.blanks ++ (t ++ prefix)) o) n.are_blanks refl ∙ read
      | inr o ↦ after_blanks text n.blanks (codes "(" ++ prefix) (e ∙ ap (λ t. n.blanks ++ (t ++ prefix)) o) n.are_blanks refl ∙ read
    ]

-- ---- what is read is a number by the grammar

abbrev Opened : List ℕ → List ℕ → Type 0
Opened bytes rest = (opening : List ℕ) × ((opening ≡ []) ⊎ (opening ≡ codes "(")) × (bytes ≡ opening ++ rest)

opened : (bytes : List ℕ) → Opened bytes (unparenthesized bytes)
opened [] = ([], inl refl, refl)
opened (b ∷ bytes) = go (b == 40) refl
  where
    go : (t : Bool) → (b == 40) ≡ t → Opened (b ∷ bytes) (cond t bytes (b ∷ bytes))
    go true e = (codes "(", inr refl, ap (λ x. x ∷ bytes) (eqb-true b 40 e))
    go false e = ([], inl refl, refl)

graphic_sound : (n c : ℕ) → graphic_character n ≡ Some c → (n ≡ c) × IsTrue (is_graphic c)
graphic_sound n c e = go (is_graphic n) refl
  where
    go : (t : Bool) → is_graphic n ≡ t → (n ≡ c) × IsTrue (is_graphic c)
    go true g = let s = graphic_some n g in let same : n ≡ c = cc in (same, ap is_graphic (sym same) ∙ g)
    go false g = let s = graphic_none n (ap not g) in cc

noted_sound : (text : List ℕ) (c : ℕ) → noted_character text ≡ Some c → NotesNumber text c × IsTrue (is_graphic c)
noted_sound text c e =
    let rest = after_run is_blank text in
    let o = opened rest in
    let marked = unparenthesized rest in
    let digits = run is_hexadecimal_digit (drop 2 marked) in
    let others = after_run is_hexadecimal_digit (drop 2 marked) in
    let s = some_if (begins_with (codes "U+") marked && is_hexadecimal 4 6 digits) (graphic_character (hexadecimal digits)) c e in
    let tests = and_parts (begins_with (codes "U+") marked) (is_hexadecimal 4 6 digits) s.0 in
    let g = graphic_sound (hexadecimal digits) c s.1 in
    let bytes : text ≡ run is_blank text ++ (o.0 ++ (codes "U+" ++ (digits ++ others))) =
    parts_of is_blank text ∙ ap (λ t. run is_blank text ++ t)
    (o.2 ∙ ap (λ t. o.0 ++ t) (start_sound (codes "U+") marked tests.0 ∙ ap (λ t. codes "U+" ++ t) (parts_of is_hexadecimal_digit (drop 2 marked)))) in (
      record {
        blanks = run is_blank text;
        opening = o.0;
        digits = digits;
        others = others;
        bytes = bytes ∙ sym (in_order (run is_blank text) o.0 (codes "U+") digits others);
        are_blanks = run_passes is_blank text;
        is_opening = o.1;
        are_digits = tests.1;
        are_all_digits = ap not (after_stops is_hexadecimal_digit (drop 2 marked));
        is_number = g.0;
      },
      g.1,
    )

-- ---- the two agree

no_character : (n : ℕ) → graphic_character n ≡ None → not (is_graphic n) ≡ true
no_character n e = go (is_graphic n) refl
  where
    go : (t : Bool) → is_graphic n ≡ t → not t ≡ true
    go false g = refl
    go true g = let s = graphic_some n g in cc

-- the character that is read from the text of a comment is its character by the grammar
pub character_sound : (text : List ℕ) → NotesCharacter text (noted_character text)
character_sound text = go (noted_character text) refl
  where
    go : (o : Option ℕ) → noted_character text ≡ o → NotesCharacter text o
    go (Some c) e = noted_sound text c e
    go None e = λ number n. no_character number (sym (noted_read text number n) ∙ e)

not_both : (t : Bool) → t ≡ true → not t ≡ true → ⊥
not_both true e n = cc
not_both false e n = cc

-- the character of a comment's text by the grammar is read from it
pub character_read : (text : List ℕ) (character : Option ℕ) → NotesCharacter text character → noted_character text ≡ character
character_read text (Some c) n = noted_read text c n.0 ∙ graphic_some c n.1
character_read text None n = go (noted_character text) refl
  where
    go : (o : Option ℕ) → noted_character text ≡ o → noted_character text ≡ None
    go None e = e
    go (Some c) e = let s = noted_sound text c e in absurd (not_both (is_graphic c) s.1 (n c s.0))
