-- What is read from a line is what it defines.
use Rattle.std.proofs.Common.{◌≡◌, ℕ, List, [], ◌∷◌, ◌++◌, length, drop, Bool, true, false, cond, ◌&&◌, ◌||◌, Option, Some, None, refl, sym, ◌∙◌, ap, subst, arith}
use Rattle.std.specs.Prelude.{◌==◌, nat_lt, codes}
use Rattle.std.specs.List.{list_all}
use Rattle.std.specs.Option.{option_map}
use Rattle.std.proofs.lemmas.Bool.{and_parts, and_from}
use Rattle.std.proofs.lemmas.Bool.Decides.{nat_tests}
use Rattle.compose_text.specs.Numbers.{is_hexadecimal_digit, is_hexadecimal, hexadecimal}
use Rattle.compose_text.specs.Bytes.{is_blank, is_name_byte}
use Rattle.keysym_core.specs.Header.{HeaderEntry, define, run, run_length, after_run, begins_with, noted_character, comment_text, valued_entry, entry_of, defined_entry}
use Rattle.keysym_core.specs.HeaderLine.{are_some, comment_bytes, CommentNotes, DefinesEntry}
use Rattle.keysym_core.proofs.HeaderRuns.{parts_of, run_passes, length-run, start_sound, some_if}
use Rattle.keysym_core.proofs.HeaderComments.{character_sound}
use Rattle.keysym_core.proofs.HeaderRead.{in_order}

-- if a value is there only if two tests fail, and is there, both failed
some_unless : {A : Type 0} (s t : Bool) (o : Option A) (x : A) → cond (s || t) None o ≡ Some x → (s ≡ false) × (t ≡ false) × (o ≡ Some x)
some_unless true t o x e = cc
some_unless false true o x e = cc
some_unless false false o x e = (refl, refl, e)

some_mapped : {A B : Type 0} (f : A → B) (o : Option A) (y : B) → option_map f o ≡ Some y → (x : A) × (o ≡ Some x) × (f x ≡ y)
some_mapped f None y e = cc
some_mapped f (Some x) y e = (x, refl, cc)

-- a run that is not empty
some_run : (p : ℕ → Bool) (bytes : List ℕ) → (run_length p bytes == 0) ≡ false → are_some p (run p bytes) ≡ true
some_run p bytes e =
    let long : nat_lt 0 (length (run p bytes)) ≡ true = ap (nat_lt 0) (length-run p bytes) ∙ grind (arith, nat_tests) in
    and_from (nat_lt 0 (length (run p bytes))) (list_all p (run p bytes)) long (run_passes p bytes)

-- ---- the comment

abbrev Comment : List ℕ → List ℕ → Type 0
Comment end text = (comment : Option (List ℕ)) × (end ≡ comment_bytes comment) × CommentNotes comment (noted_character text)

comment_sound : (end text : List ℕ) → comment_text end ≡ Some text → Comment end text
comment_sound [] text e = let none : [] ≡ text = cc in (None, refl, ap noted_character (sym none))
comment_sound (b ∷ end) text e =
    let some : (length (b ∷ end) == 0) ≡ false = grind (arith, nat_tests) in
    let begun = begins_with (codes "/*") (b ∷ end) in
    let s = some_if begun (Some (drop 2 (b ∷ end))) text (sym (ap (λ t. cond t (Some []) (cond begun (Some (drop 2 (b ∷ end))) None)) some) ∙ e) in
    let is : drop 2 (b ∷ end) ≡ text = cc in
    (Some text, start_sound (codes "/*") (b ∷ end) s.0 ∙ ap (λ t. codes "/*" ++ t) is, character_sound text)

-- ---- the value

-- `0x`, digits, perhaps blanks and perhaps a comment
record Valued (name number : List ℕ) (entry : HeaderEntry) : Type 0 where
  pub digits : List ℕ
  pub blanks : List ℕ
  pub comment : Option (List ℕ)
  pub bytes : number ≡ codes "0x" ++ (digits ++ (blanks ++ comment_bytes comment))
  pub are_digits : is_hexadecimal 1 8 digits ≡ true
  pub is_value : hexadecimal digits ≡ entry.value
  pub are_blanks : list_all is_blank blanks ≡ true
  pub is_character : CommentNotes comment entry.character
  pub is_name : name ≡ entry.name

value_sound : (name number : List ℕ) (entry : HeaderEntry) → valued_entry name number ≡ Some entry → Valued name number entry
value_sound name number entry e =
    let digits = run is_hexadecimal_digit (drop 2 number) in
    let rest = after_run is_hexadecimal_digit (drop 2 number) in
    let entry_with = λ (text : List ℕ). let e : HeaderEntry = record { name = name; value = hexadecimal digits; character = noted_character text } in e in
    let s = some_if (begins_with (codes "0x") number && is_hexadecimal 1 8 digits) (option_map entry_with (comment_text (after_run is_blank rest))) entry e in
    let tests = and_parts (begins_with (codes "0x") number) (is_hexadecimal 1 8 digits) s.0 in
    let m = some_mapped entry_with (comment_text (after_run is_blank rest)) entry s.1 in
    let c = comment_sound (after_run is_blank rest) m.0 m.1 in
    subst (Valued name number) m.2 (record {
      digits = digits;
      blanks = run is_blank rest;
      comment = c.0;
      bytes = start_sound (codes "0x") number tests.0
          ∙ ap (λ t. codes "0x" ++ t) (parts_of is_hexadecimal_digit (drop 2 number) ∙ ap (λ t. digits ++ t) (parts_of is_blank rest ∙ ap (λ t. run is_blank rest ++ t) c.1));
      are_digits = tests.1;
      is_value = refl;
      are_blanks = run_passes is_blank rest;
      is_character = c.2;
      is_name = refl;
    })

-- ---- the line

-- what follows `#define XK_`, put together from its parts
joined : (bytes name own rest blanks number value : List ℕ) → bytes ≡ name ++ rest → name ≡ own → rest ≡ blanks ++ number → number ≡ value → bytes ≡ own ++ (blanks ++ value)
joined bytes name own rest blanks number value p q r s = p ∙ ap (λ t. name ++ t) (r ∙ ap (λ t. blanks ++ t) s) ∙ ap (λ t. t ++ (blanks ++ value)) q

from_parts : (line bytes blanks number : List ℕ) (entry : HeaderEntry) (v : Valued (run is_name_byte bytes) number entry) → line ≡ define ++ bytes
    → after_run is_name_byte bytes ≡ blanks ++ number → are_some is_name_byte (run is_name_byte bytes) ≡ true → are_some is_blank blanks ≡ true → DefinesEntry line entry
from_parts line bytes blanks number entry v begun rest named blank =
    let value = codes "0x" ++ (v.digits ++ (v.blanks ++ comment_bytes v.comment)) in
    let behind = joined bytes (run is_name_byte bytes) entry.name (after_run is_name_byte bytes) blanks number value (parts_of is_name_byte bytes) v.is_name rest v.bytes in
    record {
      blanks = blanks;
      digits = v.digits;
      more_blanks = v.blanks;
      comment = v.comment;
      bytes = begun ∙ ap (λ t. define ++ t) behind ∙ sym (in_order define entry.name blanks (codes "0x") v.digits v.blanks (comment_bytes v.comment));
      is_name = subst (λ n. are_some is_name_byte n ≡ true) v.is_name named;
      are_blanks = blank;
      are_digits = v.are_digits;
      is_value = v.is_value;
      are_more_blanks = v.are_blanks;
      is_character = v.is_character;
    }

-- an entry that is read from a line is one that the grammar finds in it
pub line_sound : (line : List ℕ) (entry : HeaderEntry) → defined_entry line ≡ Some entry → DefinesEntry line entry
line_sound line entry e =
    let bytes = drop (length define) line in
    let rest = after_run is_name_byte bytes in
    let number = after_run is_blank rest in
    let s = some_if (begins_with define line) (entry_of bytes) entry e in
    let u = some_unless (run_length is_name_byte bytes == 0) (run_length is_blank rest == 0) (valued_entry (run is_name_byte bytes) number) entry s.1 in
    let v = value_sound (run is_name_byte bytes) number entry u.2 in
    from_parts line bytes (run is_blank rest) number entry v (start_sound define line s.0) (parts_of is_blank rest) (some_run is_name_byte bytes u.0) (some_run is_blank rest u.1)
