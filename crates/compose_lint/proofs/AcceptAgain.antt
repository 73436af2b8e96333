-- A written list can be read again, and accepts the findings for which it was written.
use Rattle.std.proofs.Common.{◌≡◌, ◌∙◌, ℕ, ◌+◌, Bool, true, false, not, List, [], ◌∷◌, ◌++◌, map, filter, flat_map, refl, ap, arith, leb-true}
use Rattle.std.specs.Prelude.{◌==◌, ◌&&◌, ◌||◌, None, Ok, Err, bytes_eq, codes}
use Rattle.std.specs.List.{find, list_any, list_all}
use Rattle.std.specs.Option.{option_map_or}
use Rattle.std.specs.Str.{chars}
use Rattle.std.specs.Str.Lossy.{utf8_lossy}
use Rattle.std.proofs.lemmas.Bool.{and_parts, and_from, not-true, ne_eqb, eqb-true}
use Rattle.std.proofs.lemmas.List.{append_assoc}
use Rattle.std.proofs.lemmas.List.Folds.{list_all-append}
use Rattle.compose_text.specs.Lines.{in_line, lines_of, onto_first}
use Rattle.compose_shown.specs.Shown.{shown_character}
use Rattle.compose_diff.specs.Accepted.{Line, is_skipped, list_lines_from}
use Rattle.compose_diff.specs.declared.accepted.AcceptFault.TheVariants.{Stale, BadLine}
use Rattle.compose_diff.proofs.Plain.{is_plain, ArePlain, character_plain}
use Rattle.compose_lint.specs.Rows.{Row}
use Rattle.compose_lint.specs.Report.{kind_word}
use Rattle.compose_lint.specs.Accepted.{listed_character, listed_line, listed_text, file_words, text_words, reader_words, begins_as_one, is_in_form, is_accepted, is_none_of, without_blanks, distinct, as_lines, accept_lines, AcceptsAll}
use Rattle.compose_lint.specs.declared.finding.FindingKind.{FindingKind}
use Rattle.compose_lint.specs.declared.finding.FindingKind.TheVariants.{Fault, Overridden, Repeated, Prefix, Keysym, Mark, Form, Alike, Comment, Redundant, Reader}
use Rattle.compose_lint.specs.declared.reader.Reader.TheVariants.{LibX11, Libxkbcommon, Gtk3, Gtk4}
use Rattle.compose_lint.proofs.Among.{distinct_all, among_distinct, all_among}

-- ---- a listed text is a line that is not skipped, in the form, and without a newline

plain_line : (bytes : List ℕ) → ArePlain bytes → list_all in_line bytes ≡ true
plain_line [] plain = refl
plain_line (b ∷ bytes) plain =
    let parts = and_parts (is_plain b) (list_all is_plain bytes) plain in
    and_from _ _ (ap not (ne_eqb b 10 (λ is. absurd (omega (arith, is, leb-true 32 b parts.0))))) (plain_line bytes parts.1)

character_line : (c : ℕ) → list_all in_line (listed_character c) ≡ true
character_line c = by (c == 9) refl
  where
    by : (t : Bool) → (c == 9) ≡ t → list_all in_line (listed_character c) ≡ true
    by true e = rw e (ap (λ n. in_line n && true) (eqb-true c 9 e))
    by false e = rw e (plain_line (shown_character c) (character_plain c))

characters_line : (cs : List ℕ) → list_all in_line (flat_map listed_character cs) ≡ true
characters_line [] = refl
characters_line (c ∷ cs) = list_all-append in_line (listed_character c) (flat_map listed_character cs) ∙ and_from _ _ (character_line c) (characters_line cs)

-- the text begins with the word of a kind
abbrev form_of : List ℕ → Bool
form_of text = begins_as_one file_words text || (begins_as_one text_words text || begins_as_one reader_words text)

-- the text of a line is not skipped, in the form, and without a newline
abbrev is_good : List ℕ → Bool
is_good text = not (is_skipped text) && (form_of text && list_all in_line text)

good : (k : FindingKind) (more : List ℕ) → list_all in_line more ≡ true → is_good (kind_word k ++ (codes ": " ++ more)) ≡ true
good (Fault index) more line = line
good (Overridden number) more line = line
good (Repeated number) more line = line
good (Prefix place) more line = line
good Keysym more line = line
good Mark more line = line
good Form more line = line
good (Alike place) more line = line
good Comment more line = line
good (Redundant place) more line = line
good (Reader LibX11 class) more line = line
good (Reader Libxkbcommon class) more line = line
good (Reader Gtk3 class) more line = line
good (Reader Gtk4 class) more line = line

all_good : (rows : List Row) → list_all is_good (map listed_text rows) ≡ true
all_good [] = refl
all_good (row ∷ rows) = and_from _ _ (good row.finding.kind (listed_line row.bytes) (characters_line (chars (utf8_lossy (without_blanks row.bytes))))) (all_good rows)

-- ---- reading such texts again

-- a line for each of these texts, numbered on from n
abbrev numbered : ℕ → List (List ℕ) → List Line
numbered n [] = []
numbered n (text ∷ texts) = record { number = n; text = text } ∷ numbered (1 + n) texts

line_first : (line rest : List ℕ) → list_all in_line line ≡ true → lines_of (line ++ 10 ∷ rest) ≡ line ∷ lines_of rest
line_first [] rest whole = refl
line_first (b ∷ line) rest whole = let parts = and_parts (in_line b) (list_all in_line line) whole in rw (not-true (b == 10) parts.0) (ap (onto_first b) (line_first line rest parts.1))

first_good : (text : List ℕ) → is_good text ≡ true → (is_skipped text ≡ false) × (form_of text ≡ true) × (list_all in_line text ≡ true)
first_good text is =
    let parts = and_parts (not (is_skipped text)) (form_of text && list_all in_line text) is in let others = and_parts (form_of text) (list_all in_line text) parts.1 in
    (not-true (is_skipped text) parts.0, others.0, others.1)

lines_again : (texts : List (List ℕ)) → list_all is_good texts ≡ true → lines_of (as_lines texts) ≡ texts
lines_again [] all = refl
lines_again (text ∷ texts) all =
    let parts = and_parts (is_good text) (list_all is_good texts) all in
    ap lines_of (append_assoc text (10 ∷ []) (as_lines texts)) ∙ line_first text (as_lines texts) (first_good text parts.0).2 ∙ ap (λ ls. text ∷ ls) (lines_again texts parts.1)

list_lines_again : (n : ℕ) (texts : List (List ℕ)) → list_all is_good texts ≡ true → list_lines_from n texts ≡ numbered n texts
list_lines_again n [] all = refl
list_lines_again n (text ∷ texts) all =
    let parts = and_parts (is_good text) (list_all is_good texts) all in
    rw (first_good text parts.0).0 (ap (λ lines. record { number = n; text = text } ∷ lines) (list_lines_again (1 + n) texts parts.1))

find_skip : {X : Type 0} (p : X → Bool) (x : X) (xs : List X) → p x ≡ false → find p (x ∷ xs) ≡ find p xs
find_skip p x xs e = rw e refl

abbrev is_bad : Line → Bool
is_bad line = not (is_in_form line)

none_bad : (n : ℕ) (texts : List (List ℕ)) → list_all is_good texts ≡ true → find is_bad (numbered n texts) ≡ None
none_bad n [] all = refl
none_bad n (text ∷ texts) all =
    let parts = and_parts (is_good text) (list_all is_good texts) all in
    find_skip is_bad (record { number = n; text = text }) (numbered (1 + n) texts) (ap not (first_good text parts.0).1) ∙ none_bad (1 + n) texts parts.1

-- ---- none of the lines is stale

none_stale : (all : List (List ℕ)) (n : ℕ) (texts : List (List ℕ)) → list_all (λ text. list_any (bytes_eq text) all) texts ≡ true → find (is_none_of all) (numbered n texts) ≡ None
none_stale all n [] there = refl
none_stale all n (text ∷ texts) there =
    let parts = and_parts (list_any (bytes_eq text) all) (list_all (λ t. list_any (bytes_eq t) all) texts) there in
    find_skip (is_none_of all) (record { number = n; text = text }) (numbered (1 + n) texts) (ap not parts.0) ∙ none_stale all (1 + n) texts parts.1

-- ---- no finding is left

texts_back : (n : ℕ) (texts : List (List ℕ)) → map (λ (line : Line). line.text) (numbered n texts) ≡ texts
texts_back n [] = refl
texts_back n (text ∷ texts) = ap (λ ts. text ∷ ts) (texts_back (1 + n) texts)

filter_drop : {X : Type 0} (p : X → Bool) (x : X) (xs : List X) → p x ≡ false → filter p (x ∷ xs) ≡ filter p xs
filter_drop p x xs e = rw e refl

none_left : (lines : List Line) (texts : List (List ℕ)) (rows : List Row) → map (λ (line : Line). line.text) lines ≡ texts → list_all (λ row. list_any (bytes_eq (listed_text row)) texts) rows ≡ true
    → filter (λ row. not (is_accepted lines row)) rows ≡ []
none_left lines texts [] back there = refl
none_left lines texts (row ∷ rows) back there =
    let parts = and_parts (list_any (bytes_eq (listed_text row)) texts) (list_all (λ (r : Row). list_any (bytes_eq (listed_text r)) texts) rows) there in
    filter_drop (λ (r : Row). not (is_accepted lines r)) row rows (ap not (ap (list_any (bytes_eq (listed_text row))) back ∙ parts.0)) ∙ none_left lines texts rows back parts.1

covered : (all : List (List ℕ)) (rows : List Row) → list_all (λ text. list_any (bytes_eq text) all) (map listed_text rows) ≡ true → list_all (λ row. list_any (bytes_eq (listed_text row)) (distinct all)) rows ≡ true
covered all [] there = refl
covered all (row ∷ rows) there =
    let parts = and_parts (list_any (bytes_eq (listed_text row)) all) (list_all (λ t. list_any (bytes_eq t) all) (map listed_text rows)) there in
    and_from _ _ (among_distinct (listed_text row) all parts.0) (covered all rows parts.1)

-- a written list accepts all findings for which it was written
pub accepts_all : (rows : List Row) → AcceptsAll (accept_lines rows) rows
accepts_all rows =
    let all = map listed_text rows in let texts = distinct all in let there = all_among all in let fine : list_all is_good texts ≡ true = distinct_all is_good all (all_good rows) in
    let reading_result : list_lines_from 1 (lines_of (accept_lines rows)) ≡ numbered 1 texts = ap (list_lines_from 1) (lines_again texts fine) ∙ list_lines_again 1 texts fine in record {
      lines = numbered 1 texts;
      read =
          ap (λ ls. option_map_or (λ (line : Line). Err (BadLine line.number)) (find is_bad ls) (Ok ls)) reading_result
          ∙ ap (λ o. option_map_or (λ (line : Line). Err (BadLine line.number)) o (Ok (numbered 1 texts))) (none_bad 1 texts fine);
      left =
          ap (λ o. option_map_or (λ (line : Line). Err (Stale line.number)) o (Ok (filter (λ (row : Row). not (is_accepted (numbered 1 texts) row)) rows)))
          (none_stale all 1 texts (distinct_all (λ text. list_any (bytes_eq text) all) all there))
          ∙ ap (λ (rs : List Row). Ok rs) (none_left (numbered 1 texts) texts rows (texts_back 1 texts) (covered all rows there));
    }
