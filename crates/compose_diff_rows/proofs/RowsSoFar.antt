-- A row of each kind, and the rows so far.
use Rattle.std.proofs.Common.{◌≡◌, ℕ, suc, ◌+◌, ◌<◌, List, [], ◌∷◌, ◌++◌, Bool, true, false, cond, not, length, map, take, get_or, refl, sym, ◌∙◌, ap, ap₂, append_assoc, arith}
use Rattle.std.specs.Prelude.{Option, Some, None, filter}
use Rattle.std.specs.Option.{option_map, option_map_or, option_and_then}
use Rattle.std.proofs.lemmas.List.{take_more, get_or-map, map-append, append-nil}
use Rattle.std.proofs.lemmas.List.Elements.{filter-append}
use Rattle.std.proofs.lemmas.Option.{same_Some}
use Rattle.std.proofs.lemmas.Simd.{map-map}
use Rattle.keysym_core.specs.Names.{KeysymNames}
use Rattle.compose_model.specs.Table.{Definition, is_sequence, is_extended}
use Rattle.compose_model.specs.Nodes.{leaves}
use Rattle.compose_tree.specs.Targets.{leaf_number}
use Rattle.compose_places.specs.Counting.{WrittenLine, sequence_named, AreLines}
use Rattle.compose_compare.specs.declared.Change.{Change}
use Rattle.compose_compare.specs.declared.Change.TheVariants.{Kept, Changed, Waiting, Removed, Added, NewStart}
use Rattle.compose_compare.specs.Change.{agree_along, is_new_start, change, old_changes, new_changes}
use Rattle.compose_diff.specs.Counts.{is_same}
use Rattle.compose_diff_rows.specs.Rows.{ReportedEntry, ReportedRow, Written, WrittenSequence, sequence_at, sequence_in, line_of, keys_of, entry_at, entry_of, now_of, longer_in, row_of, reported_of, new_reported, old_row, new_row}
use Rattle.compose_diff_rows.proofs.Leaves.{number_of_leaf, leaf_there, leaf_at_number, keys_there}

-- ---- what a table has for a leaf

module _ (w : Written) (i : ℕ) (below : i < length (leaves w.table)) where
  abbrev leaf : List ℕ
  leaf = get_or (leaves w.table) i []

  -- the keys of a leaf's sequence are those of its line
  pub keys_of_leaf : keys_of w leaf ≡ option_map_or (λ line. line.keys) (get_or w.lines i None) []
  keys_of_leaf = ap (λ n. option_map_or (λ line. line.keys) (get_or w.lines n None) []) (number_of_leaf w.table i below)

  -- what the table has for it is at its line
  pub entry_of_leaf : entry_of w leaf ≡ option_map (entry_at w leaf) (get_or w.lines i None)
  entry_of_leaf =
      ap (λ b. cond b (option_map (entry_at w leaf) (line_of w leaf)) None) (leaf_there w.table i below)
      ∙ ap (λ n. option_map (entry_at w leaf) (get_or w.lines n None)) (number_of_leaf w.table i below)

-- nothing if it has no such sequence
pub no_entry : (w : Written) (s : List ℕ) → is_sequence w.table s ≡ false → None ≡ entry_of w s
no_entry w s h = sym (ap (λ b. cond b (option_map (entry_at w s) (line_of w s)) None) h)

-- a sequence that only the new table has doesn't wait
pub never_waiting : (names : KeysymNames) (fresh : List ℕ) (old new : List Definition) (s : List ℕ) → is_sequence old s ≡ false → is_same (change names fresh old new s) Waiting ≡ false
never_waiting names fresh old new s h =
    ap (λ b. is_same (cond b (cond (agree_along names old new [] [] s) Kept (cond (is_sequence new s) Changed (cond (is_extended new s) Waiting Removed))) (cond (is_new_start names fresh old new s) NewStart Added)) Waiting) h
    ∙ by (is_new_start names fresh old new s)
  where
    by : (b : Bool) → is_same (cond b NewStart Added) Waiting ≡ false
    by true = refl
    by false = refl

-- nothing for a sequence that doesn't wait
pub not_waiting : {X : Type 0} (c : Change) (found : Option X) → is_same c Waiting ≡ false → (let none : Option X = None in none) ≡ cond (is_same c Waiting) found None
not_waiting {X = X} c found h = sym (ap (λ b. cond {A = Option X} b found None) h)

-- ---- the rows of the reported sequences

module _ (names : KeysymNames) (fresh : List ℕ) (old new : Written) where
  -- for a sequence of the old table whose line writes its keys
  old_row_is : (s : List ℕ) → is_sequence old.table s ≡ true → sequence_named names (keys_of old s) ≡ Some s
      → old_row names new (reported_of names fresh old new old s) ≡ row_of names fresh old new s
  old_row_is s h named = λ i. record {
    change = change names fresh old.table new.table s;
    keys = (ap (λ b. keys_of (cond b old new) s) (sym h)) i;
    old = entry_of old s;
    new = (ap (option_and_then (entry_of new)) named) i;
    longer = (ap (λ o. cond (is_same (change names fresh old.table new.table s) Waiting) (option_and_then (longer_in new) o) None) named) i;
    typing = now_of new (change names fresh old.table new.table s) (entry_of old s);
  }

  -- for a sequence that only the new table has
  new_row_is : (s : List ℕ) → is_sequence old.table s ≡ false → new_row (reported_of names fresh old new new s) ≡ row_of names fresh old new s
  new_row_is s h = λ i. record {
    change = change names fresh old.table new.table s;
    keys = (ap (λ b. keys_of (cond b old new) s) (sym h)) i;
    old = (no_entry old s h) i;
    new = entry_of new s;
    longer = (not_waiting (change names fresh old.table new.table s) (longer_in new s) (never_waiting names fresh old.table new.table s h)) i;
    typing = (ap (now_of new (change names fresh old.table new.table s)) (no_entry old s h)) i;
  }

  -- for all reported sequences of the old table
  module _ (test : List ℕ → Bool) where
    abbrev made : List ℕ → ReportedRow
    made s = old_row names new (reported_of names fresh old new old s)

    along : (xs : List (List ℕ)) → ((i : ℕ) → i < length xs → (is_sequence old.table (get_or xs i []) ≡ true) × (sequence_named names (keys_of old (get_or xs i [])) ≡ Some (get_or xs i [])))
        → map made (filter test xs) ≡ map (row_of names fresh old new) (filter test xs)
    along [] f = refl
    along (x ∷ xs) f = go (test x) (let here = f 0 (omega arith) in old_row_is x here.0 here.1) (along xs (λ i h. f (suc i) (omega (arith, h))))
      where
        go : (b : Bool) → made x ≡ row_of names fresh old new x → map made (filter test xs) ≡ map (row_of names fresh old new) (filter test xs)
            → map made (cond b (x ∷ filter test xs) (filter test xs)) ≡ map (row_of names fresh old new) (cond b (x ∷ filter test xs) (filter test xs))
        go true e others = ap₂ (λ y ys. y ∷ ys) e others
        go false e others = others

    -- if each line writes the keys of its sequence
    pub old_rows_are : AreLines names old.table old.lines
        → map (old_row names new) (map (reported_of names fresh old new old) (filter test (leaves old.table))) ≡ map (row_of names fresh old new) (filter test (leaves old.table))
    old_rows_are are =
        map-map (old_row names new) (reported_of names fresh old new old) (filter test (leaves old.table))
        ∙ along (leaves old.table) (λ i h. (leaf_there old.table i h, ap (sequence_named names) (keys_of_leaf old i h) ∙ keys_there old.table names old.lines are i h))

  -- and for all sequences that only the new table has
  pub new_rows_are : map new_row (map (reported_of names fresh old new new) (new_reported old.table new.table)) ≡ map (row_of names fresh old new) (new_reported old.table new.table)
  new_rows_are = map-map new_row (reported_of names fresh old new new) (new_reported old.table new.table) ∙ go (leaves new.table)
    where
      go : (xs : List (List ℕ))
          → map (λ s. new_row (reported_of names fresh old new new s)) (filter (λ s. not (is_sequence old.table s)) xs)
          ≡ map (row_of names fresh old new) (filter (λ s. not (is_sequence old.table s)) xs)
      go [] = refl
      go (x ∷ xs) = by_test (is_sequence old.table x) refl (go xs)
        where
          by_test : (b : Bool) → is_sequence old.table x ≡ b
              → map (λ s. new_row (reported_of names fresh old new new s)) (filter (λ s. not (is_sequence old.table s)) xs)
              ≡ map (row_of names fresh old new) (filter (λ s. not (is_sequence old.table s)) xs)
              → map (λ s. new_row (reported_of names fresh old new new s)) (cond (not b) (x ∷ filter (λ s. not (is_sequence old.table s)) xs) (filter (λ s. not (is_sequence old.table s)) xs))
              ≡ map (row_of names fresh old new) (cond (not b) (x ∷ filter (λ s. not (is_sequence old.table s)) xs) (filter (λ s. not (is_sequence old.table s)) xs))
          by_test true h others = others
          by_test false h others = ap₂ (λ y ys. y ∷ ys) (new_row_is x h) others

-- what a table has for a leaf without a line, and with one
module _ (w : Written) (i : ℕ) (below : i < length (leaves w.table)) where
  -- nothing without a line
  pub entry_without : None ≡ get_or w.lines i None → None ≡ entry_of w (get_or (leaves w.table) i [])
  entry_without h = ap (option_map (entry_at w (get_or (leaves w.table) i []))) h ∙ sym (entry_of_leaf w i below)

  -- with one, the entry at its place
  pub entry_with : (line : WrittenLine) (reported : ReportedEntry) → Some line ≡ get_or w.lines i None → reported ≡ entry_at w (get_or (leaves w.table) i []) line
      → Some reported ≡ entry_of w (get_or (leaves w.table) i [])
  entry_with line reported h e = ap Some e ∙ ap (option_map (entry_at w (get_or (leaves w.table) i []))) h ∙ sym (entry_of_leaf w i below)

  -- and the sequence as the line writes it
  sequence_of_leaf : sequence_in w (get_or (leaves w.table) i []) ≡ option_map (sequence_at w) (get_or w.lines i None)
  sequence_of_leaf = ap (λ n. option_map (sequence_at w) (get_or w.lines n None)) (number_of_leaf w.table i below)

  pub sequence_without : None ≡ get_or w.lines i None → None ≡ sequence_in w (get_or (leaves w.table) i [])
  sequence_without h = ap (option_map (sequence_at w)) h ∙ sym sequence_of_leaf

  pub sequence_with : (line : WrittenLine) (named : WrittenSequence) → Some line ≡ get_or w.lines i None → named ≡ sequence_at w line → Some named ≡ sequence_in w (get_or (leaves w.table) i [])
  sequence_with line named h e = ap Some e ∙ ap (option_map (sequence_at w)) h ∙ sym sequence_of_leaf

-- what a table has for a sequence whose number is known
pub entry_numbered : (w : Written) (s : List ℕ) (n : ℕ) (o : Option ReportedEntry) → is_sequence w.table s ≡ true → leaf_number w.table s ≡ n
    → o ≡ entry_of w (get_or (leaves w.table) n []) → o ≡ entry_of w s
entry_numbered w s n o h e reported = reported ∙ ap (λ m. entry_of w (get_or (leaves w.table) m [])) (sym e) ∙ ap (entry_of w) (leaf_at_number w.table s h)

-- ---- the rows so far

module _ {Y : Type 0} (test : List ℕ → Bool) (row_for : List ℕ → Y) (xs : List (List ℕ)) (i : ℕ) (h : i < length xs) where
  with_next : filter test (take (i + 1) xs) ≡ filter test (take i xs) ++ cond (test (get_or xs i [])) (get_or xs i [] ∷ []) []
  with_next = ap (filter test) (take_more xs i [] h) ∙ filter-append test (take i xs) (get_or xs i [] ∷ [])

  module _ {R : Type 0} (reported : R → Y) (before : List Y) (rows : List R) (so_far : map reported rows ≡ before ++ map row_for (filter test (take i xs))) where
    -- a leaf that is reported
    pub reported_added : (row : R) → test (get_or xs i []) ≡ true → reported row ≡ row_for (get_or xs i [])
        → map reported (rows ++ row ∷ []) ≡ before ++ map row_for (filter test (take (i + 1) xs))
    reported_added row reported_here is =
        map-append reported rows (row ∷ []) ∙ ap₂ (λ ts t. ts ++ t ∷ []) so_far is ∙ append_assoc before (map row_for (filter test (take i xs))) (row_for (get_or xs i []) ∷ [])
        ∙ ap (λ ts. before ++ ts) (sym (map-append row_for (filter test (take i xs)) (get_or xs i [] ∷ [])))
        ∙ ap (λ b. before ++ map row_for (filter test (take i xs) ++ cond b (get_or xs i [] ∷ []) [])) (sym reported_here)
        ∙ ap (λ ys. before ++ map row_for ys) (sym with_next)

    -- a leaf that is not
    pub not_reported : test (get_or xs i []) ≡ false → map reported rows ≡ before ++ map row_for (filter test (take (i + 1) xs))
    not_reported absent =
        so_far ∙ ap (λ ys. before ++ map row_for ys) (sym (append-nil (filter test (take i xs))))
        ∙ ap (λ b. before ++ map row_for (filter test (take i xs) ++ cond b (get_or xs i [] ∷ []) [])) (sym absent)
        ∙ ap (λ ys. before ++ map row_for ys) (sym with_next)

-- what happens to a leaf of the new table, by the list of the changes of all leaves
module _ (names : KeysymNames) (fresh : List ℕ) (old new : List Definition) (changes : List (Option Change)) (all : changes ≡ new_changes names fresh old new) where
  module _ (i : ℕ) (h : i < length (leaves new)) (d : Option Change) where
    pub slot_is : get_or changes i d ≡ cond (is_sequence old (get_or (leaves new) i [])) None (Some (change names fresh old new (get_or (leaves new) i [])))
    slot_is = ap (λ cs. get_or cs i d) all ∙ get_or-map (λ s. cond (is_sequence old s) None (Some (change names fresh old new s))) (leaves new) i [] d h

    -- if it has a change, only the new table has it
    pub reported_change : (c : Change) → get_or changes i d ≡ Some c → (is_sequence old (get_or (leaves new) i []) ≡ false) × (c ≡ change names fresh old new (get_or (leaves new) i []))
    reported_change c e = go (is_sequence old (get_or (leaves new) i [])) (sym e ∙ slot_is)
      where
        go : (b : Bool) → Some c ≡ cond b None (Some (change names fresh old new (get_or (leaves new) i []))) → (b ≡ false) × (c ≡ change names fresh old new (get_or (leaves new) i []))
        go true f = cc
        go false f = (refl, same_Some c (change names fresh old new (get_or (leaves new) i [])) f)

    -- if it has none, the old table has it too
    pub no_change : get_or changes i d ≡ None → is_sequence old (get_or (leaves new) i []) ≡ true
    no_change e = go (is_sequence old (get_or (leaves new) i [])) (sym e ∙ slot_is)
      where
        go : (b : Bool) → None ≡ cond b None (Some (change names fresh old new (get_or (leaves new) i []))) → b ≡ true
        go true f = refl
        go false f = cc

-- and to one of the old table
pub old_change_at : (names : KeysymNames) (fresh : List ℕ) (old new : List Definition) (changes : List Change)
    → changes ≡ old_changes names fresh old new → (i : ℕ) (d : Change) → i < length (leaves old)
    → get_or changes i d ≡ change names fresh old new (get_or (leaves old) i [])
old_change_at names fresh old new changes all i d h = ap (λ cs. get_or cs i d) all ∙ get_or-map (λ s. change names fresh old new s) (leaves old) i [] d h

-- what a table has for the sequence of names, or nothing if these have none
pub entry_by_name : (w : Written) (o : Option (List ℕ)) (found : Option ReportedEntry) → (o ≡ None → found ≡ None) → ((s : List ℕ) → o ≡ Some s → found ≡ entry_of w s)
    → found ≡ option_and_then (entry_of w) o
entry_by_name w None found none some = none refl
entry_by_name w (Some s) found none some = some s refl
