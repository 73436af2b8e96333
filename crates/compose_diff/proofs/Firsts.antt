-- The groups of some rows, and of one row more.
use Rattle.std.proofs.Common.{◌≡◌, ℕ, ◌+◌, ◌<◌, Bool, true, false, List, [], ◌∷◌, ◌++◌, length, take, map, filter, flat_map, get_or, Bor, OnOk, refl, sym, ◌∙◌, ap, ap₂}
use Rattle.std.specs.Prelude.{◌||◌, if◌then◌else◌, Option, Some, None, Result, Ok, Err}
use Rattle.std.specs.List.{list_any}
use Rattle.std.specs.Option.{option_map_or}
use Rattle.std.proofs.lemmas.List.{append-nil, append_assoc, take_more}
use Rattle.std.proofs.lemmas.List.Folds.{list_any_more}
use Rattle.compose_diff.specs.declared.row.DiffRow.{DiffRow}
use Rattle.compose_diff.specs.Causes.{is_gone}
use Rattle.compose_diff.specs.Groups.{Common, common, has, folds_with, firsts, group_of}
use Rattle.compose_diff.specs.Folds.{group_lines, groups_lines, reported, folded_lines}
use Rattle.compose_diff.specs.Members.{Key, view}

-- what holds in any case also holds if all went well
pub on_ok : {T E P : Type 0} (result : Result T E) → P → OnOk result P
on_ok (Ok value) p = p
on_ok (Err fault) p = tt

-- ---- a key for anything that rows have in common

names_again : (at : Bor (List DiffRow)) (keys : List (List ℕ)) → map (λ (name : Bor (List ℕ)). name.now) (map (λ key. record { ref_ptr = at.ref_ptr; now = key }) keys) ≡ keys
names_again at [] = refl
names_again at (key ∷ keys) = ap (λ ks. key ∷ ks) (names_again at keys)

abbrev pub key_of : Bor (List DiffRow) → Common → Key
key_of at what = (what.change, what.source, record { ref_ptr = at.ref_ptr; now = map (λ key. record { ref_ptr = at.ref_ptr; now = key }) what.keys })

pub key_again : (at : Bor (List DiffRow)) (what : Common) → view (key_of at what) ≡ what
key_again at what = λ j. record { change = what.change; source = what.source; keys = names_again at what.keys j }

-- ---- one more row

both_parts : {X Y Z : Type 0} (f : Y → List Z) (g : X → Y) (xs ys : List X) → flat_map f (map g (xs ++ ys)) ≡ flat_map f (map g xs) ++ flat_map f (map g ys)
both_parts f g [] ys = refl
both_parts f g (x ∷ xs) ys = ap (λ zs. f (g x) ++ zs) (both_parts f g xs ys) ∙ sym (append_assoc (f (g x)) (flat_map f (map g xs)) (flat_map f (map g ys)))

none_at_all : (rows : List DiffRow) → list_any (λ row. false) rows ≡ false
none_at_all [] = refl
none_at_all (row ∷ rows) = none_at_all rows

module _ (gone : ℕ → Bool) where
  firsts_more : (earlier rows : List DiffRow) (row : DiffRow) → firsts gone earlier (rows ++ row ∷ []) ≡ firsts gone earlier rows ++ (if list_any (folds_with gone row) (earlier ++ rows) then [] else row ∷ [])
  firsts_more earlier [] row = ap (λ es. if list_any (folds_with gone row) es then [] else row ∷ []) (sym (append-nil earlier))
  firsts_more earlier (next ∷ rows) row =
      by
      (firsts_more (earlier ++ next ∷ []) rows row
      ∙ ap (λ es. firsts gone (earlier ++ next ∷ []) rows ++ (if list_any (folds_with gone row) es then [] else row ∷ [])) (append_assoc earlier (next ∷ []) rows)) (list_any (folds_with gone next) earlier) refl
    where
      by : firsts gone (earlier ++ next ∷ []) (rows ++ row ∷ []) ≡ firsts gone (earlier ++ next ∷ []) rows ++ (if list_any (folds_with gone row) (earlier ++ next ∷ rows) then [] else row ∷ [])
          → (t : Bool) → list_any (folds_with gone next) earlier ≡ t
          → firsts gone earlier ((next ∷ rows) ++ row ∷ []) ≡ firsts gone earlier (next ∷ rows) ++ (if list_any (folds_with gone row) (earlier ++ next ∷ rows) then [] else row ∷ [])
      by more true e = rw e more
      by more false e = rw e (ap (λ xs. next ∷ xs) more)

  abbrev lines_of : List DiffRow → List DiffRow → List ℕ
  lines_of whole rows = flat_map (group_lines gone) (map (group_of gone whole) (firsts gone [] rows))

  lines_more : (whole rows : List DiffRow) (row : DiffRow) → lines_of whole (rows ++ row ∷ []) ≡ lines_of whole rows ++ (if list_any (folds_with gone row) rows then [] else group_lines gone (group_of gone whole row))
  lines_more whole rows row =
      ap (λ them. flat_map (group_lines gone) (map (group_of gone whole) them)) (firsts_more [] rows row)
      ∙ both_parts (group_lines gone) (group_of gone whole) (firsts gone [] rows) (if list_any (folds_with gone row) rows then [] else row ∷ [])
      ∙ ap (λ xs. lines_of whole rows ++ xs) (by (list_any (folds_with gone row) rows))
    where
      by : (b : Bool) → flat_map (group_lines gone) (map (group_of gone whole) (if b then [] else row ∷ [])) ≡ (if b then [] else group_lines gone (group_of gone whole row))
      by true = refl
      by false = append-nil (group_lines gone (group_of gone whole row))

  -- the rows that are listed for a row are its group, or none if that was taken out
  listed : (at : Common → List DiffRow) (whole rows : List DiffRow) (row : DiffRow) → ((what : Common) → at what ≡ (if list_any (has gone what) rows then [] else filter (has gone what) whole))
      → group_lines gone (option_map_or at (common gone row) (row ∷ [])) ≡ (if list_any (folds_with gone row) rows then [] else group_lines gone (group_of gone whole row))
  listed at whole rows row is = by (common gone row)
    where
      none : (b : Bool) → b ≡ false → group_lines gone (row ∷ []) ≡ (if b then [] else group_lines gone (row ∷ []))
      none b e = rw e refl

      some : (b : Bool) (them : List DiffRow) → group_lines gone (if b then [] else them) ≡ (if b then [] else group_lines gone them)
      some true them = refl
      some false them = refl

      by : (o : Option Common) → group_lines gone (option_map_or at o (row ∷ []))
          ≡ (if list_any (λ other. option_map_or (λ what. has gone what other) o false) rows then [] else group_lines gone (option_map_or (λ what. filter (has gone what) whole) o (row ∷ [])))
      by None = none (list_any (λ other. false) rows) (none_at_all rows)
      by (Some what) = ap (group_lines gone) (is what) ∙ some (list_any (has gone what) rows) (filter (has gone what) whole)

  -- the lines so far with those of one more row
  pub lines_then : (new old text : List ℕ) (at : Common → List DiffRow) (shown : List DiffRow) (i : ℕ) (d : DiffRow) → i < length shown
      → new ≡ old ++ group_lines gone (option_map_or at (common gone (get_or shown i d)) (get_or shown i d ∷ [])) → old ≡ text ++ lines_of shown (take i shown)
      → ((what : Common) → at what ≡ (if list_any (has gone what) (take i shown) then [] else filter (has gone what) shown)) → new ≡ text ++ lines_of shown (take (i + 1) shown)
  lines_then new old text at shown i d less e f is =
      e
      ∙ ap (λ xs. xs ++ group_lines gone (option_map_or at (common gone (get_or shown i d)) (get_or shown i d ∷ []))) f
      ∙ append_assoc text (lines_of shown (take i shown)) (group_lines gone (option_map_or at (common gone (get_or shown i d)) (get_or shown i d ∷ [])))
      ∙ ap (λ xs. text ++ (lines_of shown (take i shown) ++ xs)) (listed at shown (take i shown) (get_or shown i d) is)
      ∙ ap (λ xs. text ++ xs) (sym (lines_more shown (take i shown) (get_or shown i d)) ∙ ap (lines_of shown) (sym (take_more shown i d less)))

  -- the groups that are left after one more row
  pub taken_then : (new old : List DiffRow) (what : Common) (shown : List DiffRow) (i : ℕ) (d : DiffRow) → i < length shown
      → new ≡ (if has gone what (get_or shown i d) then [] else old) → old ≡ (if list_any (has gone what) (take i shown) then [] else filter (has gone what) shown)
      → new ≡ (if list_any (has gone what) (take (i + 1) shown) then [] else filter (has gone what) shown)
  taken_then new old what shown i d less e f =
      e ∙ ap (λ rows. if has gone what (get_or shown i d) then [] else rows) f ∙ by (has gone what (get_or shown i d)) (list_any (has gone what) (take i shown)) ∙ ap (λ b. if b then [] else filter (has gone what) shown) (sym (list_any_more (has gone what) shown i d less))
    where
      by : (a b : Bool) → (if a then [] else (if b then [] else filter (has gone what) shown)) ≡ (if b || a then [] else filter (has gone what) shown)
      by true true = refl
      by true false = refl
      by false true = refl
      by false false = refl

-- ---- the whole text

pub folded_is : (new start : List ℕ) (gone : ℕ → Bool) (rows left shown again : List DiffRow) → new ≡ start ++ groups_lines gone again → start ≡ [] → again ≡ reported left → shown ≡ reported left
    → ((source : ℕ) → gone source ≡ is_gone rows shown source) → new ≡ folded_lines rows left
folded_is new start gone rows left shown again e none same first known =
    let is : gone ≡ is_gone rows (reported left) = λ j. λ source. (known source ∙ ap (λ them. is_gone rows them source) first) j in
    e ∙ ap₂ (λ x y. x ++ y) none (ap₂ groups_lines is same)
