-- The lines of a written list are read again, and accept the rows for which it was written.
use Rattle.std.proofs.Common.{◌≡◌, ℕ, ◌+◌, Bool, true, false, not, List, [], ◌∷◌, ◌++◌, length, take, map, filter, refl, sym, ◌∙◌, ap, arith}
use Rattle.std.specs.Prelude.{nat_lt, None, Ok, Err}
use Rattle.std.specs.List.{find, list_any, list_all}
use Rattle.std.specs.Option.{option_map_or}
use Rattle.std.proofs.lemmas.Bool.{and_parts, and_from, and_left, or_left, or_right}
use Rattle.std.proofs.lemmas.List.{drop_all}
use Rattle.std.proofs.lemmas.Slice.Eq.{bytes_eq-Decides}
use Rattle.std.proofs.Math.Seq.{take-length}
use Rattle.compose_text.specs.Lines.{lines_of}
use Rattle.compose_compare.specs.declared.Change.{Change}
use Rattle.compose_compare.specs.declared.Change.TheVariants.{Kept, Changed, Waiting, Removed, Added, NewStart}
use Rattle.compose_compare.specs.Change.{is_harmless}
use Rattle.compose_diff.specs.declared.row.DiffRow.{DiffRow}
use Rattle.compose_diff.specs.declared.accepted.AcceptFault.TheVariants.{Stale, BadLine}
use Rattle.compose_diff.specs.Line.{keys_text, key_names, row_text}
use Rattle.compose_diff.specs.Accepted.{Line, is_skipped, list_lines_from, is_in_form, begins_as, acceptable, is_end, matches_text, is_accepted, is_stale, accept_lines, has_key, AcceptsAll}
use Rattle.compose_diff.proofs.Plain.{row_text_plain}
use Rattle.compose_diff.proofs.PlainLines.{lines_again}

-- the rows that are not harmless
abbrev met : List DiffRow → List DiffRow
met rows = filter (λ row. not (is_harmless row.change)) rows

-- a line for each of these rows, numbered from n
abbrev numbered : ℕ → List DiffRow → List Line
numbered n [] = []
numbered n (row ∷ rows) = record { number = n; text = row_text row } ∷ numbered (1 + n) rows

-- ---- they are read again

not_skipped : (c : Change) (keys : List (List ℕ)) (more : List ℕ) → is_skipped (keys_text c keys ++ more) ≡ false
not_skipped Kept keys more = refl
not_skipped Changed keys more = refl
not_skipped Waiting keys more = refl
not_skipped Removed keys more = refl
not_skipped Added keys more = refl
not_skipped NewStart keys more = refl

list_lines_again : (n : ℕ) (rows : List DiffRow) → list_lines_from n (map row_text rows) ≡ numbered n rows
list_lines_again n [] = refl
list_lines_again n (row ∷ rows) = rw (not_skipped row.change (key_names row) _) (ap (λ lines. record { number = n; text = row_text row } ∷ lines) (list_lines_again (1 + n) rows))

in_form : (c : Change) (key : List ℕ) (keys : List (List ℕ)) (more : List ℕ) → is_harmless c ≡ false → list_any (begins_as (keys_text c (key ∷ keys) ++ more)) acceptable ≡ true
in_form Kept key keys more met = let clash : true ≡ false = met in cc
in_form Changed key keys more met = refl
in_form Waiting key keys more met = refl
in_form Removed key keys more met = refl
in_form Added key keys more met = let clash : true ≡ false = met in cc
in_form NewStart key keys more met = refl

named : (names : List (List ℕ)) (c : Change) (more : List ℕ) → nat_lt 0 (length names) ≡ true → is_harmless c ≡ false → list_any (begins_as (keys_text c names ++ more)) acceptable ≡ true
named [] c more some met = let clash : false ≡ true = some in cc
named (key ∷ keys) c more some met = in_form c key keys more met

-- ---- lists

find_skip : {X : Type 0} (p : X → Bool) (x : X) (xs : List X) → p x ≡ false → find p (x ∷ xs) ≡ find p xs
find_skip p x xs e = rw e refl

filter_keep : {X : Type 0} (p : X → Bool) (x : X) (xs : List X) → p x ≡ true → filter p (x ∷ xs) ≡ x ∷ filter p xs
filter_keep p x xs e = rw e refl

filter_drop : {X : Type 0} (p : X → Bool) (x : X) (xs : List X) → p x ≡ false → filter p (x ∷ xs) ≡ filter p xs
filter_drop p x xs e = rw e refl

met_not : (row : DiffRow) (rows : List DiffRow) → is_harmless row.change ≡ true → met (row ∷ rows) ≡ met rows
met_not row rows e = filter_drop (λ r. not (is_harmless r.change)) row rows (ap not e)

met_too : (row : DiffRow) (rows : List DiffRow) → is_harmless row.change ≡ false → met (row ∷ rows) ≡ row ∷ met rows
met_too row rows e = filter_keep (λ r. not (is_harmless r.change)) row rows (ap not e)

-- ---- each of them is in the required form

abbrev is_bad : Line → Bool
is_bad line = not (is_in_form line)

none_bad : (n : ℕ) (rows : List DiffRow) → list_all has_key rows ≡ true → find is_bad (numbered n (met rows)) ≡ None
none_bad n [] keyed = refl
none_bad n (row ∷ rows) keyed =
    let parts = and_parts (has_key row) (list_all has_key rows) keyed in
    by parts.0 (none_bad n rows parts.1) (none_bad (1 + n) rows parts.1) (is_harmless row.change) refl
  where
    by : has_key row ≡ true → find is_bad (numbered n (met rows)) ≡ None → find is_bad (numbered (1 + n) (met rows)) ≡ None → (t : Bool) → is_harmless row.change ≡ t
        → find is_bad (numbered n (met (row ∷ rows))) ≡ None
    by key here next true e = ap (λ rs. find is_bad (numbered n rs)) (met_not row rows e) ∙ here
    by key here next false e =
        ap (λ rs. find is_bad (numbered n rs)) (met_too row rows e)
        ∙ find_skip is_bad (record { number = n; text = row_text row }) (numbered (1 + n) (met rows)) (ap not (named (key_names row) row.change _ key e))
        ∙ next

-- ---- none of them is stale

matches_itself : (n : ℕ) (text : List ℕ) → matches_text text (record { number = n; text = text }) ≡ true
matches_itself n text =
    and_from _ _ ((bytes_eq-Decides (take (length text) text) text).1 (take-length text)) (ap is_end (drop_all (length text) text (omega arith)))

none_stale : (all rows : List DiffRow) (n : ℕ) → ((line : Line) → list_any (λ t. matches_text t line) (map row_text rows) ≡ true → list_any (λ t. matches_text t line) (map row_text all) ≡ true)
    → find (is_stale (map row_text all)) (numbered n (met rows)) ≡ None
none_stale all [] n covers = refl
none_stale all (row ∷ rows) n covers =
    let later = λ (line : Line) (reported : list_any (λ t. matches_text t line) (map row_text rows) ≡ true). covers line (or_right (matches_text (row_text row) line) _ reported) in
    by (none_stale all rows n later) (none_stale all rows (1 + n) later) (is_harmless row.change) refl
  where
    by : find (is_stale (map row_text all)) (numbered n (met rows)) ≡ None → find (is_stale (map row_text all)) (numbered (1 + n) (met rows)) ≡ None → (t : Bool) → is_harmless row.change ≡ t
        → find (is_stale (map row_text all)) (numbered n (met (row ∷ rows))) ≡ None
    by here next true e = ap (λ rs. find (is_stale (map row_text all)) (numbered n rs)) (met_not row rows e) ∙ here
    by here next false e =
        ap (λ rs. find (is_stale (map row_text all)) (numbered n rs)) (met_too row rows e)
        ∙ find_skip (is_stale (map row_text all)) (record { number = n; text = row_text row }) (numbered (1 + n) (met rows))
        (ap not (covers (record { number = n; text = row_text row }) (or_left _ _ (matches_itself n (row_text row)))))
        ∙ next

-- ---- and what is left is harmless

abbrev Covers : List Line → ℕ → List DiffRow → Type 0
Covers lines n rows = (text : List ℕ) → list_any (matches_text text) (numbered n (met rows)) ≡ true → list_any (matches_text text) lines ≡ true

left_rows : (lines : List Line) (n : ℕ) (rows : List DiffRow) → Covers lines n rows → filter (λ row. not (is_accepted lines row)) rows ≡ filter (λ row. is_harmless row.change) rows
left_rows lines n [] covers = refl
left_rows lines n (row ∷ rows) covers = by (λ c. left_rows lines n rows c) (λ c. left_rows lines (1 + n) rows c) (is_harmless row.change) refl
  where
    by : (Covers lines n rows → filter (λ r. not (is_accepted lines r)) rows ≡ filter (λ r. is_harmless r.change) rows)
        → (Covers lines (1 + n) rows → filter (λ r. not (is_accepted lines r)) rows ≡ filter (λ r. is_harmless r.change) rows) → (t : Bool) → is_harmless row.change ≡ t
        → filter (λ r. not (is_accepted lines r)) (row ∷ rows) ≡ filter (λ r. is_harmless r.change) (row ∷ rows)
    by here next true e =
        filter_keep (λ r. not (is_accepted lines r)) row rows (ap not (and_left _ _ (ap not e)))
        ∙ ap (λ rs. row ∷ rs) (here (λ text reported. covers text (ap (λ rs. list_any (matches_text text) (numbered n rs)) (met_not row rows e) ∙ reported)))
        ∙ sym (filter_keep (λ r. is_harmless r.change) row rows e)
    by here next false e =
        filter_drop (λ r. not (is_accepted lines r)) row rows
        (ap not
        (and_from _ _ (ap not e)
        (covers (row_text row) (ap (λ rs. list_any (matches_text (row_text row)) (numbered n rs)) (met_too row rows e) ∙ or_left _ _ (matches_itself n (row_text row))))))
        ∙ next (λ text reported. covers text (ap (λ rs. list_any (matches_text text) (numbered n rs)) (met_too row rows e) ∙ or_right _ _ reported))
        ∙ sym (filter_drop (λ r. is_harmless r.change) row rows e)

-- a written list accepts all rows for which it was written
pub accepts_all : (rows : List DiffRow) → list_all has_key rows ≡ true → AcceptsAll (accept_lines rows) rows
accepts_all rows keyed =
    let expected : list_lines_from 1 (lines_of (accept_lines rows)) ≡ numbered 1 (met rows) = ap (list_lines_from 1) (lines_again row_text (met rows) row_text_plain) ∙ list_lines_again 1 (met rows) in record {
      lines = numbered 1 (met rows);
      read =
          ap (λ ls. option_map_or (λ (line : Line). Err (BadLine line.number)) (find is_bad ls) (Ok ls)) expected
          ∙ ap (λ o. option_map_or (λ (line : Line). Err (BadLine line.number)) o (Ok (numbered 1 (met rows)))) (none_bad 1 rows keyed);
      left =
          ap (λ o. option_map_or (λ (line : Line). Err (Stale line.number)) o (Ok (filter (λ row. not (is_accepted (numbered 1 (met rows)) row)) rows))) (none_stale rows rows 1 (λ line reported. reported))
          ∙ ap (λ (rs : List DiffRow). Ok rs) (left_rows (numbered 1 (met rows)) 1 rows (λ text reported. reported));
    }
