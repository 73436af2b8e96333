-- The answer is yes exactly if each change is harmless or named by an accepted line, and without
-- such lines exactly if the new table follows the old one.
use Rattle.std.proofs.Common.{◌≡◌, ℕ, List, [], ◌∷◌, ◌++◌, Bool, true, false, cond, not, ◌&&◌, ◌||◌, map, refl, sym, ◌∙◌, ap, ap₂, subst, inl, inr, nat_cmp}
use Rattle.std.specs.Prelude.{◌↔◌, Option, Some, None, Result, Ok, Err, filter}
use Rattle.std.specs.Option.{option_map, option_map_or}
use Rattle.std.specs.List.{All, find, list_any, list_all}
use Rattle.std.specs.List.Sorted.{IsPermutation}
use Rattle.std.proofs.lemmas.Bool.{and_parts, and_from, or_left, or_right, cases_Bool}
use Rattle.std.proofs.lemmas.List.Folds.{list_all-append, list_all-map}
use Rattle.std.proofs.lemmas.List.Elements.{All-nil, All-cons, All-head, All-tail}
use Rattle.std.proofs.lemmas.List.Sorted.{All-permutation, IsPermutation-sym}
use Rattle.keysym_core.specs.Names.{KeysymNames}
use Rattle.compose_model.specs.Table.{same, is_sequence}
use Rattle.compose_model.specs.Follows.{Follows}
use Rattle.compose_model.specs.Certificate.{AreFresh}
use Rattle.compose_model.specs.Nodes.{leaves, rising}
use Rattle.compose_model.proofs.Tests.{both_at}
use Rattle.compose_model.proofs.NodeLemmas.{same_is, same_from}
use Rattle.compose_tree.proofs.Steps.{leaf_means}
use Rattle.compose_fresh.specs.Fresh.{fresh_conditions}
use Rattle.compose_fresh.specs.Conditions.{first_unmet}
use Rattle.compose_fresh.specs.declared.fault.CheckFault.{CheckFault}
use Rattle.compose_fresh.proofs.FreshKeysyms.{are_fresh}
use Rattle.compose_text.specs.Results.{◌>>=◌}
use Rattle.compose_migration.specs.Migration.{GivenMigration, Parts, NoAnswer, no_fresh, migration_of}
use Rattle.compose_answer.specs.Parts.{Explainable}
use Rattle.compose_answer.specs.declared.answer.Answer.{Answer}
use Rattle.compose_answer.specs.declared.answer.Answer.TheVariants.{Yes, No, Invalid, FreshNotAllowed}
use Rattle.compose_compare.specs.declared.Change.{Change}
use Rattle.compose_compare.specs.declared.Change.TheVariants.{Kept, Changed, Waiting, Removed, Added, NewStart}
use Rattle.compose_compare.specs.Change.{change, is_harmless}
use Rattle.compose_compare.specs.Change as compare
use Rattle.compose_compare.proofs.Reported as tables
use Rattle.compose_diff.specs.Accepted.{Line, accepted_of, is_accepted, is_stale, left_of, matches_text}
use Rattle.compose_diff.specs.Counts.{loses_nothing}
use Rattle.compose_diff.specs.Line.{row_text, text_part, keys_text, key_names}
use Rattle.compose_diff.specs.declared.accepted.AcceptFault.{AcceptFault}
use Rattle.compose_diff.specs.declared.accepted.AcceptFault.TheVariants.{Stale}
use Rattle.compose_diff.specs.declared.row.DiffRow.{DiffRow}
use Rattle.compose_diff.specs.declared.overlaps.Overlaps.{Overlaps}
use Rattle.compose_diff.specs.declared.row.TextPlace.{TextPlace}
use Rattle.compose_diff_rows.specs.Answers.{Asked, IsDiff, IsFormAnswer, AreRows, overlaps_in, compared, compared_parts, old_written, new_written, reports_kept}
use Rattle.compose_diff_rows.specs.Taken.{merge_text}
use Rattle.compose_diff_rows.specs.Following.{IsYes, AreMeant, entry_text, reported_text, is_named, is_meant}
use Rattle.compose_diff_rows.specs.Rows.{ReportedRow, Written, reported_row, reported_entry, row_of, kept_row, kept_rows, reported_rows, is_reported, is_reported_of}
use Rattle.compose_diff_rows.specs.declared.asking.Form.{Form}

-- ---- yes, by the rows that are left

yes_is : (form : Form) (lost_alone : Bool) (overlaps : Overlaps) (last : List ℕ) (rows left : List DiffRow) (answer : Answer)
    → IsFormAnswer form lost_alone overlaps last rows left answer → IsYes answer ↔ loses_nothing left ≡ true
yes_is form lost_alone overlaps last rows left (Yes text) reported = ((λ yes. reported.0), (λ none. tt))
yes_is form lost_alone overlaps last rows left (No text) reported = ((λ yes. absurd yes), (λ none. clash (loses_nothing left) none reported.0))
  where
    clash : (b : Bool) → b ≡ true → not b ≡ true → ⊥
    clash true e f = cc
    clash false e f = cc
yes_is form lost_alone overlaps last rows left (Invalid fault) reported = absurd reported
yes_is form lost_alone overlaps last rows left (FreshNotAllowed keysym) reported = absurd reported

same_lines : (lines read : List Line) (bytes : List ℕ) → accepted_of bytes ≡ Ok lines → accepted_of bytes ≡ Ok read → lines ≡ read
same_lines lines read bytes f g = go (sym f ∙ g)
  where
    go : (let r : Result (List Line) AcceptFault = Ok lines in r) ≡ Ok read → lines ≡ read
    go h = cc

-- ---- the rows that are left

module _ (lines : List Line) where
  left_is : (rows left : List DiffRow) → left_of lines rows ≡ Ok left → left ≡ filter (λ row. not (is_accepted lines row)) rows
  left_is rows left h = go (find (is_stale (map row_text rows)) lines) h
    where
      go : (o : Option Line) → (let r : Result (List DiffRow) AcceptFault = option_map_or (λ (line : Line). Err (Stale line.number)) o (Ok (filter (λ row. not (is_accepted lines row)) rows)) in r) ≡ Ok left
          → left ≡ filter (λ row. not (is_accepted lines row)) rows
      go None e = cc
      go (Some line) e = cc

  -- harmless, or named
  abbrev passes : DiffRow → Bool
  passes row = is_harmless row.change || list_any (matches_text (row_text row)) lines

  left_passes : (rows : List DiffRow) → loses_nothing (filter (λ row. not (is_accepted lines row)) rows) ≡ list_all passes rows
  left_passes [] = refl
  left_passes (row ∷ rows) = go (is_harmless row.change) (list_any (matches_text (row_text row)) lines) refl (left_passes rows)
    where
      rest : List DiffRow
      rest = filter (λ r. not (is_accepted lines r)) rows

      go : (h a : Bool) → is_harmless row.change ≡ h → loses_nothing rest ≡ list_all passes rows → loses_nothing (cond (not (not h && a)) (row ∷ rest) rest) ≡ (h || a) && list_all passes rows
      go true a e others = ap (λ b. b && loses_nothing rest) e ∙ others
      go false true e others = others
      go false false e others = ap (λ b. b && loses_nothing rest) e

-- ---- what is printed, by values

printed : (row : DiffRow) → row_text row ≡ reported_text (reported_row row)
printed row = ap₂ (λ old new. keys_text row.change (key_names row) ++ (old ++ new)) (part row.old) (part row.new)
  where
    part : (o : Option TextPlace) → text_part o ≡ entry_text (option_map reported_entry o)
    part None = refl
    part (Some entry) = refl

-- ---- lists

all_of : {X : Type 0} (p : X → Bool) (xs : List X) → list_all p xs ≡ true → All (λ x. p x ≡ true) xs
all_of p [] h = All-nil (λ x. p x ≡ true)
all_of p (x ∷ xs) h = let parts = and_parts (p x) (list_all p xs) h in All-cons (λ y. p y ≡ true) x xs parts.0 (all_of p xs parts.1)

from_all : {X : Type 0} (p : X → Bool) (xs : List X) → All (λ x. p x ≡ true) xs → list_all p xs ≡ true
from_all p [] h = refl
from_all p (x ∷ xs) h = and_from (p x) (list_all p xs) (All-head (λ y. p y ≡ true) x xs h) (from_all p xs (All-tail (λ y. p y ≡ true) x xs h))

moved : {X : Type 0} (p : X → Bool) (xs ys : List X) → IsPermutation xs ys → list_all p xs ≡ true → list_all p ys ≡ true
moved p xs ys same h = from_all p ys (All-permutation (λ x. p x ≡ true) xs ys same (all_of p xs h))

filtered : {X : Type 0} (p test : X → Bool) (xs : List X) → list_all p (filter test xs) ≡ list_all (λ x. not (test x) || p x) xs
filtered p test [] = refl
filtered p test (x ∷ xs) = go (test x) (filtered p test xs)
  where
    go : (t : Bool) → list_all p (filter test xs) ≡ list_all (λ y. not (test y) || p y) xs
        → list_all p (cond t (x ∷ filter test xs) (filter test xs)) ≡ (not t || p x) && list_all (λ y. not (test y) || p y) xs
    go true others = ap (λ b. p x && b) others
    go false others = others

all_lists : (p : List ℕ → Bool) (xs : List (List ℕ)) → ((x : List ℕ) → list_any (same x) xs ≡ true → p x ≡ true) → list_all p xs ≡ true
all_lists p [] f = refl
all_lists p (x ∷ xs) f =
    and_from (p x) (list_all p xs) (f x (or_left (same x x) (list_any (same x) xs) (same_from x x refl))) (all_lists p xs (λ y h. f y (or_right (same y x) (list_any (same y) xs) h)))

all_at : (p : List ℕ → Bool) (xs : List (List ℕ)) (s : List ℕ) → list_all p xs ≡ true → list_any (same s) xs ≡ true → p s ≡ true
all_at p xs s all m = let x = both_at p (same s) xs all m in ap p (same_is s x.0 x.2) ∙ x.1

-- ---- the rows of two tables

module _ (names : KeysymNames) (fresh : List ℕ) (old new : Written) (whole : Bool) (lines : List Line) where
  abbrev row : List ℕ → ReportedRow
  row = row_of names fresh old new

  abbrev passes_reported : ReportedRow → Bool
  passes_reported r = is_harmless r.change || is_named lines r

  abbrev test : List ℕ → Bool
  test = is_reported_of whole names fresh old.table new.table

  -- a sequence without a row is harmless
  unreported : (w : Bool) (c : Change) (b : Bool) → is_reported w c ≡ false → is_harmless c || b ≡ true
  unreported w Kept b h = refl
  unreported w Changed b h = let clash : true ≡ false = h in cc
  unreported w Waiting b h = let clash : true ≡ false = h in cc
  unreported w Removed b h = let clash : true ≡ false = h in cc
  unreported w Added b h = let clash : true ≡ false = h in cc
  unreported w NewStart b h = let clash : true ≡ false = h in cc

  all_reported : list_all passes_reported (reported_rows whole names fresh old new)
      ≡ list_all (λ s. not (test s) || passes_reported (row s)) (leaves old.table) && list_all (λ s. not (not (is_sequence old.table s)) || passes_reported (row s)) (leaves new.table)
  all_reported =
      list_all-append passes_reported (map row (filter test (leaves old.table))) (map row (filter (λ s. not (is_sequence old.table s)) (leaves new.table)))
      ∙ ap₂ (λ a b. a && b) (list_all-map passes_reported row (filter test (leaves old.table)) ∙ filtered (λ s. passes_reported (row s)) test (leaves old.table))
      (list_all-map passes_reported row (filter (λ s. not (is_sequence old.table s)) (leaves new.table)) ∙ filtered (λ s. passes_reported (row s)) (λ s. not (is_sequence old.table s)) (leaves new.table))

  reported_each : list_all passes_reported (reported_rows whole names fresh old new) ≡ true → (s : List ℕ) → is_sequence old.table s || is_sequence new.table s ≡ true → passes_reported (row s) ≡ true
  reported_each h s either =
      let parts = and_parts (list_all (λ t. not (test t) || passes_reported (row t)) (leaves old.table)) (list_all (λ t. not (not (is_sequence old.table t)) || passes_reported (row t)) (leaves new.table)) (sym all_reported ∙ h) in
      elim (cases_Bool (is_sequence old.table s)) [
        | inl o ↦ by_test (test s) refl (all_at (λ t. not (test t) || passes_reported (row t)) (leaves old.table) s parts.0 (leaf_means old.table s ∙ o))
        | inr o ↦
            ap (λ b. not (not b) || passes_reported (row s)) (sym o)
            ∙ all_at (λ t. not (not (is_sequence old.table t)) || passes_reported (row t)) (leaves new.table) s parts.1 (leaf_means new.table s ∙ ap (λ b. b || is_sequence new.table s) (sym o) ∙ either)
      ]
    where
      by_test : (b : Bool) → test s ≡ b → not (test s) || passes_reported (row s) ≡ true → passes_reported (row s) ≡ true
      by_test true e at = ap (λ b. not b || passes_reported (row s)) (sym e) ∙ at
      by_test false e at = unreported whole (change names fresh old.table new.table s) (is_named lines (row s)) e

  each_reported : ((s : List ℕ) → is_sequence old.table s || is_sequence new.table s ≡ true → passes_reported (row s) ≡ true) → list_all passes_reported (reported_rows whole names fresh old new) ≡ true
  each_reported f =
      all_reported
      ∙ and_from (list_all (λ t. not (test t) || passes_reported (row t)) (leaves old.table)) (list_all (λ t. not (not (is_sequence old.table t)) || passes_reported (row t)) (leaves new.table))
      (all_lists (λ t. not (test t) || passes_reported (row t)) (leaves old.table)
      (λ s m. or_right (not (test s)) (passes_reported (row s)) (f s (or_left (is_sequence old.table s) (is_sequence new.table s) (sym (leaf_means old.table s) ∙ m)))))
      (all_lists (λ t. not (not (is_sequence old.table t)) || passes_reported (row t)) (leaves new.table)
      (λ s m. or_right (not (not (is_sequence old.table s))) (passes_reported (row s)) (f s (or_right (is_sequence old.table s) (is_sequence new.table s) (sym (leaf_means new.table s) ∙ m)))))

  -- kept rows are harmless
  kept_pass : (xs : List (List ℕ)) → list_all passes_reported (map (kept_row old) xs) ≡ true
  kept_pass [] = refl
  kept_pass (x ∷ xs) = kept_pass xs

-- ---- the answer

module _ (asked : Asked) (e : Explainable) where
  abbrev old : Written
  old = old_written asked e

  abbrev new : Written
  new = new_written asked e

  rows_pass : (lines : List Line) (rows : List DiffRow) (are : AreRows asked e rows)
      → list_all (passes lines) rows ≡ list_all (passes_reported e.move.names e.fresh old new (reports_kept asked.form) lines) (map reported_row are.reported)
  rows_pass lines rows are =
      ap (list_all (passes lines)) are.both ∙ list_all-append (passes lines) are.reported are.kept
      ∙ ap₂ (λ a b. a && b) (by_value are.reported)
      (by_value are.kept ∙ ap (list_all passes_here) are.others ∙ kept_pass e.move.names e.fresh old new (reports_kept asked.form) lines
      (filter (λ s. not (is_reported_of (reports_kept asked.form) e.move.names e.fresh old.table new.table s)) (leaves old.table)))
      ∙ and_true (list_all passes_here (map reported_row are.reported))
    where
      passes_here : ReportedRow → Bool
      passes_here = passes_reported e.move.names e.fresh old new (reports_kept asked.form) lines

      by_value : (xs : List DiffRow) → list_all (passes lines) xs ≡ list_all passes_here (map reported_row xs)
      by_value [] = refl
      by_value (x ∷ xs) = ap₂ (λ t b. (is_harmless x.change || list_any (matches_text t) lines) && b) (printed x) (by_value xs)

      and_true : (b : Bool) → b && true ≡ b
      and_true true = refl
      and_true false = refl

  -- yes exactly if each harmful change is named
  pub meant_is : (answer : Answer) (lines : List Line) → IsDiff asked e answer → accepted_of asked.accepted ≡ Ok lines → IsYes answer ↔ AreMeant asked e lines
  meant_is answer lines diff read =
      let yes = yes_is asked.form asked.lost_alone (overlaps_in asked e) (merge_text asked.form e) diff.rows diff.left answer diff.reported in
      let all : loses_nothing diff.left ≡ list_all passes_here (map reported_row diff.are.reported) =
      ap loses_nothing (left_is diff.lines diff.rows diff.left diff.leaves) ∙ left_passes diff.lines diff.rows
      ∙ ap (λ (ls : List Line). list_all (passes ls) diff.rows) (same_lines diff.lines lines asked.accepted diff.read read) ∙ rows_pass lines diff.rows diff.are in (
        (λ y. reported_each e.move.names e.fresh old new whole lines (moved passes_here (map reported_row diff.are.reported) (reported_rows whole e.move.names e.fresh old new) (IsPermutation-sym _ _ diff.are.each) (sym all ∙ yes.0 y))),
        (λ meant. yes.1 (all ∙ moved passes_here (reported_rows whole e.move.names e.fresh old new) (map reported_row diff.are.reported) diff.are.each (each_reported e.move.names e.fresh old new whole lines meant))),
      )
    where
      whole : Bool
      whole = reports_kept asked.form

      passes_here : ReportedRow → Bool
      passes_here = passes_reported e.move.names e.fresh old new whole lines

-- ---- no accepted lines

-- what is compared has fresh keysyms
fresh_of : (given : GivenMigration) (e : Explainable) → compared_parts given ≡ Ok e → AreFresh e.fresh e.move.old
fresh_of given e h = by_parts (migration_of given) h
  where
    by_fault : (move : Parts) (fresh : List ℕ) (unmet : Option CheckFault) → first_unmet (fresh_conditions move.old fresh) ≡ unmet
        → (let r : Result Explainable NoAnswer = option_map_or (λ fault. Err (no_fresh fault)) unmet (Ok (record { move = move; fresh = fresh })) in r) ≡ Ok e → AreFresh e.fresh e.move.old
    by_fault move fresh None met k =
        subst (λ (x : Explainable). AreFresh x.fresh x.move.old) (same_Ok (record { move = move; fresh = fresh }) k) (are_fresh move.old fresh met)
      where
        same_Ok : (x : Explainable) → (let r : Result Explainable NoAnswer = Ok x in r) ≡ Ok e → x ≡ e
        same_Ok x g = cc
    by_fault move fresh (Some fault) met k = cc

    by_parts : (r : Result Parts NoAnswer) → (r >>= compared) ≡ Ok e → AreFresh e.fresh e.move.old
    by_parts (Err why) k = cc
    by_parts (Ok move) k = by_fault move (rising nat_cmp move.keys) (first_unmet (fresh_conditions move.old (rising nat_cmp move.keys))) refl k

-- yes exactly if the new table follows the old one
pub follows_is : (asked : Asked) (e : Explainable) (answer : Answer) → compared_parts asked.migration ≡ Ok e → IsDiff asked e answer → accepted_of asked.accepted ≡ Ok []
    → IsYes answer ↔ Follows e.move.names e.fresh e.move.old e.move.new
follows_is asked e answer is diff read =
    let meant = meant_is asked e answer [] diff read in
    let follows = tables.follows_exactly e.move.names e.fresh e.move.old e.move.new diff.tables.0 diff.tables.1 (fresh_of asked.migration e is) in
    ((λ yes. follows.1 (all_harmless (meant.0 yes))), (λ f. meant.1 (each_harmless (follows.0 f))))
  where
    harmless : List ℕ → Bool
    harmless s = is_harmless (change e.move.names e.fresh e.move.old e.move.new s)

    or_false : (b : Bool) → b || false ≡ b
    or_false true = refl
    or_false false = refl

    all_harmless : AreMeant asked e [] → compare.loses_nothing e.move.names e.fresh e.move.old e.move.new ≡ true
    all_harmless meant = all_lists harmless (leaves (e.move.old ++ e.move.new)) (λ s m. sym (or_false (harmless s)) ∙ meant s (sym (tables.reported e.move.old e.move.new s) ∙ m))

    each_harmless : compare.loses_nothing e.move.names e.fresh e.move.old e.move.new ≡ true → AreMeant asked e []
    each_harmless all = λ s h. or_false (harmless s) ∙ all_at harmless (leaves (e.move.old ++ e.move.new)) s all (tables.reported e.move.old e.move.new s ∙ h)
