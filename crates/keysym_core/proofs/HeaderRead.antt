-- What a line defines by the grammar is read from it.
use Rattle.std.proofs.Common.{◌≡◌, inl, inr, ℕ, List, [], ◌∷◌, ◌++◌, length, drop, Bool, true, false, cond, ◌&&◌, ◌||◌, Option, Some, None, refl, sym, ◌∙◌, ap, subst, arith, append_assoc, eqb-true}
use Rattle.std.specs.Prelude.{◌==◌, nat_lt, codes, unwrap_or}
use Rattle.std.specs.List.{list_all}
use Rattle.std.specs.Option.{option_map}
use Rattle.std.proofs.Math.Seq.{drop-append_seam}
use Rattle.std.proofs.lemmas.Bool.{and_parts, or_cases}
use Rattle.std.proofs.lemmas.Bool.Decides.{nat_tests}
use Rattle.compose_text.specs.Numbers.{is_between, is_hexadecimal_digit, is_hexadecimal, hexadecimal}
use Rattle.compose_text.specs.Bytes.{is_blank, is_name_byte, begins}
use Rattle.keysym_core.specs.Header.{HeaderEntry, define, run, run_length, after_run, begins_with, noted_character, comment_text, valued_entry, entry_of, defined_entry}
use Rattle.keysym_core.specs.HeaderLine.{are_some, comment_bytes, CommentNotes, DefinesEntry}
use Rattle.keysym_core.proofs.HeaderRuns.{run_all, after_all, run_length-all, starts}
use Rattle.keysym_core.proofs.HeaderComments.{character_read}

-- ---- first bytes

-- blanks before bytes that do not begin with such a byte do not begin with one either, since no
-- blank is such a byte
blanks_first : (p : ℕ → Bool) (blanks rest : List ℕ) → ((b : ℕ) → is_blank b ≡ true → p b ≡ false) → list_all is_blank blanks ≡ true → begins p rest ≡ false → begins p (blanks ++ rest) ≡ false
blanks_first p [] rest apart all stops = stops
blanks_first p (b ∷ blanks) rest apart all stops = apart b (and_parts (is_blank b) (list_all is_blank blanks) all).0

some_first : (p : ℕ → Bool) (blanks rest : List ℕ) → ((b : ℕ) → is_blank b ≡ true → p b ≡ false) → are_some is_blank blanks ≡ true → begins p (blanks ++ rest) ≡ false
some_first p [] rest apart h = cc
some_first p (b ∷ blanks) rest apart h = apart b (and_parts (is_blank b) (list_all is_blank blanks) (and_parts (nat_lt 0 (length (b ∷ blanks))) (list_all is_blank (b ∷ blanks)) h).1).0

blank_cases : (P : ℕ → Type 0) (b : ℕ) → is_blank b ≡ true → P 32 → P 9 → P 13 → P b
blank_cases P b h space tab return = elim (or_cases (b == 32 || b == 9) (b == 13) h) [
  | inl f ↦ elim (or_cases (b == 32) (b == 9) f) [ inl e ↦ subst P (sym (eqb-true b 32 e)) space | inr e ↦ subst P (sym (eqb-true b 9 e)) tab ]
  | inr e ↦ subst P (sym (eqb-true b 13 e)) return
]

blank_no_name : (b : ℕ) → is_blank b ≡ true → is_name_byte b ≡ false
blank_no_name b h = blank_cases (λ b. is_name_byte b ≡ false) b h refl refl refl

blank_no_digit : (b : ℕ) → is_blank b ≡ true → is_hexadecimal_digit b ≡ false
blank_no_digit b h = blank_cases (λ b. is_hexadecimal_digit b ≡ false) b h refl refl refl

-- at least one byte
not_zero : (p : ℕ → Bool) (bytes : List ℕ) → are_some p bytes ≡ true → (length bytes == 0) ≡ false
not_zero p [] h = cc
not_zero p (b ∷ bytes) h = grind (arith, nat_tests)

all_of : (p : ℕ → Bool) (bytes : List ℕ) → are_some p bytes ≡ true → list_all p bytes ≡ true
all_of p bytes h = (and_parts (nat_lt 0 (length bytes)) (list_all p bytes) h).1

-- ---- the comment

comment_no_byte : (p : ℕ → Bool) (comment : Option (List ℕ)) → p 47 ≡ false → begins p (comment_bytes comment) ≡ false
comment_no_byte p None e = refl
comment_no_byte p (Some text) e = e

comment_read : (comment : Option (List ℕ)) → comment_text (comment_bytes comment) ≡ Some (unwrap_or comment [])
comment_read None = refl
comment_read (Some text) =
    let some : (length (codes "/*" ++ text) == 0) ≡ false = grind (arith, nat_tests) in
    ap (λ t. cond t (Some []) (cond (begins_with (codes "/*") (codes "/*" ++ text)) (Some text) None)) some
    ∙ ap (λ t. cond t (Some text) None) (starts (codes "/*") text)

noted : (comment : Option (List ℕ)) (character : Option ℕ) → CommentNotes comment character → noted_character (unwrap_or comment []) ≡ character
noted None character e = sym e
noted (Some text) character n = character_read text character n

-- ---- the value

abbrev entry_with : List ℕ → List ℕ → List ℕ → HeaderEntry
entry_with name digits text = record { name = name; value = hexadecimal digits; character = noted_character text }

-- the entry, if the bytes begin with `0x`, and these are the digits and what follows them
abbrev valued_if : Bool → List ℕ → List ℕ → List ℕ → Option HeaderEntry
valued_if begun name digits rest = cond (begun && is_hexadecimal 1 8 digits) (option_map (entry_with name digits) (comment_text (after_run is_blank rest))) None

value_read : (name digits blanks end : List ℕ) → is_hexadecimal 1 8 digits ≡ true → list_all is_blank blanks ≡ true → begins is_hexadecimal_digit (blanks ++ end) ≡ false → begins is_blank end ≡ false
    → valued_entry name (codes "0x" ++ (digits ++ (blanks ++ end))) ≡ option_map (entry_with name digits) (comment_text end)
value_read name digits blanks end number all stops ends =
    let are : list_all is_hexadecimal_digit digits ≡ true = (and_parts (is_between 1 8 (length digits)) (list_all is_hexadecimal_digit digits) number).1 in
    let rest = digits ++ (blanks ++ end) in
    ap (λ t. valued_if t name (run is_hexadecimal_digit rest) (after_run is_hexadecimal_digit rest)) (starts (codes "0x") rest)
    ∙ ap (λ t. valued_if true name t (after_run is_hexadecimal_digit rest)) (run_all is_hexadecimal_digit digits (blanks ++ end) are stops)
    ∙ ap (valued_if true name digits) (after_all is_hexadecimal_digit digits (blanks ++ end) are stops)
    ∙ ap (λ t. cond t (option_map (entry_with name digits) (comment_text (after_run is_blank (blanks ++ end)))) None) number
    ∙ ap (λ t. option_map (entry_with name digits) (comment_text t)) (after_all is_blank blanks end all ends)

-- ---- the name

-- the entry of a name and a number, if neither the name nor the blanks between them are missing
abbrev named_if : ℕ → ℕ → List ℕ → List ℕ → Option HeaderEntry
named_if n m name number = cond (n == 0 || m == 0) None (valued_entry name number)

name_read : (name blanks number : List ℕ) → are_some is_name_byte name ≡ true → are_some is_blank blanks ≡ true → begins is_name_byte (blanks ++ number) ≡ false → begins is_blank number ≡ false
    → entry_of (name ++ (blanks ++ number)) ≡ valued_entry name number
name_read name blanks number named blank stops begun =
    let bytes = name ++ (blanks ++ number) in
    let all = all_of is_name_byte name named in
    let are = all_of is_blank blanks blank in
    let rest = after_run is_name_byte bytes in
    let behind : rest ≡ blanks ++ number = after_all is_name_byte name (blanks ++ number) all stops in
    ap (λ n. named_if n (run_length is_blank rest) (run is_name_byte bytes) (after_run is_blank rest)) (run_length-all is_name_byte name (blanks ++ number) all stops)
    ∙ ap (λ t. named_if (length name) (run_length is_blank rest) t (after_run is_blank rest)) (run_all is_name_byte name (blanks ++ number) all stops)
    ∙ ap (λ t. named_if (length name) (run_length is_blank t) name (after_run is_blank t)) behind
    ∙ ap (λ n. named_if (length name) n name (after_run is_blank (blanks ++ number))) (run_length-all is_blank blanks number are begun)
    ∙ ap (named_if (length name) (length blanks) name) (after_all is_blank blanks number are begun)
    ∙ ap (λ t. cond (t || length blanks == 0) None (valued_entry name number)) (not_zero is_name_byte name named)
    ∙ ap (λ t. cond t None (valued_entry name number)) (not_zero is_blank blanks blank)

-- ---- the line

define_read : (bytes : List ℕ) → defined_entry (define ++ bytes) ≡ entry_of bytes
define_read bytes = ap (λ t. cond t (entry_of (drop (length define) (define ++ bytes))) None) (starts define bytes) ∙ ap entry_of (drop-append_seam define bytes)

-- seven parts in a row may be grouped from the right
pub in_order : (a b c d e f g : List ℕ) → a ++ b ++ c ++ d ++ e ++ f ++ g ≡ a ++ (b ++ (c ++ (d ++ (e ++ (f ++ g)))))
in_order a b c d e f g = simp append_assoc

-- an entry that the grammar finds in a line is read from it
pub line_read : (line : List ℕ) (entry : HeaderEntry) → DefinesEntry line entry → defined_entry line ≡ Some entry
line_read line entry d =
    let end = comment_bytes d.comment in
    let number = codes "0x" ++ (d.digits ++ (d.more_blanks ++ end)) in
    let no_name : begins is_name_byte (d.blanks ++ number) ≡ false = some_first is_name_byte d.blanks number blank_no_name d.are_blanks in
    let no_digit : begins is_hexadecimal_digit (d.more_blanks ++ end) ≡ false =
    blanks_first is_hexadecimal_digit d.more_blanks end blank_no_digit d.are_more_blanks (comment_no_byte is_hexadecimal_digit d.comment refl) in
    ap defined_entry (d.bytes ∙ in_order define entry.name d.blanks (codes "0x") d.digits d.more_blanks end)
    ∙ define_read (entry.name ++ (d.blanks ++ number))
    ∙ name_read entry.name d.blanks number d.is_name d.are_blanks no_name refl
    ∙ value_read entry.name d.digits d.more_blanks end d.are_digits d.are_more_blanks no_digit (comment_no_byte is_blank d.comment refl)
    ∙ ap (option_map (entry_with entry.name d.digits)) (comment_read d.comment)
    ∙ ap (λ v. let o : Option HeaderEntry = Some (record { name = entry.name; value = v; character = noted_character (unwrap_or d.comment []) }) in o) d.is_value
    ∙ ap (λ c. let o : Option HeaderEntry = Some (record { name = entry.name; value = entry.value; character = c }) in o) (noted d.comment entry.character d.is_character)

-- a line defines at most one entry
pub one_entry : (line : List ℕ) (a b : HeaderEntry) → DefinesEntry line a → DefinesEntry line b → a ≡ b
one_entry line a b d e = let x = line_read line a d in let y = line_read line b e in cc
