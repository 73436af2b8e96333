-- Every sequence of both tables is compared once, and the result decides whether the new table
-- follows.
use Rattle.std.proofs.Common.{◌≡◌, ℕ, List, [], ◌∷◌, ◌++◌, Bool, true, false, cond, not, ◌&&◌, ◌||◌, map, refl, sym, ◌∙◌, ap, inl, inr, nat_cmp}
use Rattle.std.specs.Prelude.{◌↔◌, Some, None}
use Rattle.std.specs.Option.{option_map_or}
use Rattle.std.specs.List.{list_any, list_all}
use Rattle.std.specs.List.Sorted.{IsStrictlySortedBy}
use Rattle.std.specs.Cmp.Lexicographic.{slice_cmp}
use Rattle.std.proofs.lemmas.Cmp.{nat_list_cmp_total}
use Rattle.std.proofs.lemmas.Bool.{and_parts, and_from, or_left, or_right, not-true, not_from_false, cases_Bool}
use Rattle.std.proofs.lemmas.List.Folds.{list_any-append, list_all-map}
use Rattle.std.proofs.lemmas.Map.Lookups.{exact_bytes}
use Rattle.keysym_core.specs.Names.{KeysymNames}
use Rattle.compose_model.specs.Table.{Definition, same, is_sequence, is_extended, is_table}
use Rattle.compose_model.specs.Follows.{Follows}
use Rattle.compose_model.specs.Nodes.{leaves}
use Rattle.compose_model.specs.Certificate.{AreFresh}
use Rattle.compose_model.proofs.Tests.{both_at, list_any-map, list_any-rising}
use Rattle.compose_model.proofs.Sorted.{rising_sorted}
use Rattle.compose_model.proofs.NodeLemmas.{same_is, same_from}
use Rattle.compose_compare.specs.declared.Change.TheVariants.{Kept, Changed, Waiting, Removed, Added, NewStart}
use Rattle.compose_compare.specs.Change.{KeepsAll, is_new_start, agree_along, change, is_harmless, loses_nothing, old_changes, new_changes}
use Rattle.compose_compare.proofs.Enough.{keeping_follows}
use Rattle.compose_compare.proofs.Needed.{keeps}
use Rattle.compose_compare.proofs.OneKind.{along_test, along_from}

-- a leaf of both tables together is a sequence of one of them
pub reported : (old new : List Definition) (s : List ℕ) → list_any (same s) (leaves (old ++ new)) ≡ is_sequence old s || is_sequence new s
reported old new s =
    list_any-rising (slice_cmp nat_cmp) exact_bytes (same s) (map (λ d. d.sequence) (old ++ new))
    ∙ list_any-map (same s) (λ (d : Definition). d.sequence) (old ++ new)
    ∙ list_any-append (λ (d : Definition). same s d.sequence) old new

-- and each is listed once, in rising order
pub leaves_rise_once : (old new : List Definition) → IsStrictlySortedBy (slice_cmp nat_cmp) (leaves (old ++ new))
leaves_rise_once old new = rising_sorted nat_list_cmp_total (map (λ d. d.sequence) (old ++ new))

all_lists : (P : List ℕ → Bool) (xs : List (List ℕ)) → ((x : List ℕ) → list_any (same x) xs ≡ true → P x ≡ true) → list_all P xs ≡ true
all_lists P [] f = refl
all_lists P (x ∷ xs) f =
    and_from (P x) (list_all P xs) (f x (or_left (same x x) (list_any (same x) xs) (same_from x x refl))) (all_lists P xs (λ y h. f y (or_right (same y x) (list_any (same y) xs) h)))

module _ (names : KeysymNames) (fresh : List ℕ) (old new : List Definition) where
  -- a sequence of the old table is harmless if it is kept, one of the new table if it is not a new
  -- start
  harmless_old : (s : List ℕ) → is_sequence old s ≡ true → is_harmless (change names fresh old new s) ≡ agree_along names old new [] [] s
  harmless_old s o =
      ap
      (λ y. is_harmless
      (cond y (cond (agree_along names old new [] [] s) Kept (cond (is_sequence new s) Changed (cond (is_extended new s) Waiting Removed)))
      (cond (is_new_start names fresh old new s) NewStart Added))) o
      ∙ go (agree_along names old new [] [] s) (is_sequence new s) (is_extended new s)
    where
      go : (a b c : Bool) → is_harmless (cond a Kept (cond b Changed (cond c Waiting Removed))) ≡ a
      go true b c = refl
      go false true c = refl
      go false false true = refl
      go false false false = refl

  harmless_new : (s : List ℕ) → is_sequence old s ≡ false → is_harmless (change names fresh old new s) ≡ not (is_new_start names fresh old new s)
  harmless_new s o =
      ap
      (λ y. is_harmless
      (cond y (cond (agree_along names old new [] [] s) Kept (cond (is_sequence new s) Changed (cond (is_extended new s) Waiting Removed)))
      (cond (is_new_start names fresh old new s) NewStart Added))) o
      ∙ go (is_new_start names fresh old new s)
    where
      go : (n : Bool) → is_harmless (cond n NewStart Added) ≡ not n
      go true = refl
      go false = refl

  keeps_harmless : KeepsAll names fresh old new → loses_nothing names fresh old new ≡ true
  keeps_harmless keeps = all_lists (λ s. is_harmless (change names fresh old new s)) (leaves (old ++ new)) (λ s m. one s (sym (reported old new s) ∙ m))
    where
      one : (s : List ℕ) → is_sequence old s || is_sequence new s ≡ true → is_harmless (change names fresh old new s) ≡ true
      one s h = elim (cases_Bool (is_sequence old s)) [
        | inl o ↦ harmless_old s o ∙ along_test names old new [] [] s (keeps.all_kept s o)
        | inr o ↦ harmless_new s o ∙ keeps.no_new_start s (and_from (is_sequence new s) (not (is_sequence old s)) (ap (λ y. y || is_sequence new s) (sym o) ∙ h) (not_from_false (is_sequence old s) o))
      ]

  harmless_keeps : loses_nothing names fresh old new ≡ true → KeepsAll names fresh old new
  harmless_keeps all = record {
    all_kept = λ s o. along_from names old new [] [] s (sym (harmless_old s o) ∙ at s (or_left (is_sequence old s) (is_sequence new s) o));
    no_new_start = λ s h.
        let parts = and_parts (is_sequence new s) (not (is_sequence old s)) h in
        sym (harmless_new s (not-true (is_sequence old s) parts.1)) ∙ at s (or_right (is_sequence old s) (is_sequence new s) parts.0);
  }
    where
      at : (s : List ℕ) → is_sequence old s || is_sequence new s ≡ true → is_harmless (change names fresh old new s) ≡ true
      at s h =
          let x = both_at (λ t. is_harmless (change names fresh old new t)) (same s) (leaves (old ++ new)) all (reported old new s ∙ h) in
          ap (λ t. is_harmless (change names fresh old new t)) (same_is s x.0 x.2) ∙ x.1

  pub keeps_exactly : KeepsAll names fresh old new ↔ loses_nothing names fresh old new ≡ true
  keeps_exactly = (keeps_harmless, harmless_keeps)

  -- so the new table follows exactly if nothing is lost
  pub follows_exactly : is_table old ≡ true → is_table new ≡ true → AreFresh fresh old → Follows names fresh old new ↔ loses_nothing names fresh old new ≡ true
  follows_exactly t_old t_new f = (λ follows. keeps_harmless (keeps names fresh old new t_old t_new f follows), λ all. keeping_follows names fresh old new (harmless_keeps all))

  -- the same by two lists
  reported_in : (table : List Definition) (s : List ℕ) → list_any (same s) (leaves table) ≡ is_sequence table s
  reported_in table s = list_any-rising (slice_cmp nat_cmp) exact_bytes (same s) (map (λ d. d.sequence) table) ∙ list_any-map (same s) (λ (d : Definition). d.sequence) table

  abbrev harmless : List ℕ → Bool
  harmless s = is_harmless (change names fresh old new s)

  abbrev harmless_alone : List ℕ → Bool
  harmless_alone s = option_map_or is_harmless (cond (is_sequence old s) None (Some (change names fresh old new s))) true

  unless_old : (s : List ℕ) (b : Bool) → is_sequence old s ≡ b → harmless_alone s ≡ cond b true (is_harmless (change names fresh old new s))
  unless_old s true e = ap (λ y. option_map_or is_harmless (cond y None (Some (change names fresh old new s))) true) e
  unless_old s false e = ap (λ y. option_map_or is_harmless (cond y None (Some (change names fresh old new s))) true) e

  all_at : (P : List ℕ → Bool) (xs : List (List ℕ)) (s : List ℕ) → list_all P xs ≡ true → list_any (same s) xs ≡ true → P s ≡ true
  all_at P xs s all m = let x = both_at P (same s) xs all m in ap P (same_is s x.0 x.2) ∙ x.1

  apart : loses_nothing names fresh old new ≡ true → list_all harmless (leaves old) && list_all harmless_alone (leaves new) ≡ true
  apart all =
      and_from (list_all harmless (leaves old)) (list_all harmless_alone (leaves new))
      (all_lists harmless (leaves old) (λ s m. all_at harmless (leaves (old ++ new)) s all (reported old new s ∙ or_left (is_sequence old s) (is_sequence new s) (sym (reported_in old s) ∙ m))))
      (all_lists harmless_alone (leaves new) (λ s m. elim (cases_Bool (is_sequence old s)) [
        | inl o ↦ unless_old s true o
        | inr o ↦ unless_old s false o ∙ all_at harmless (leaves (old ++ new)) s all (reported old new s ∙ or_right (is_sequence old s) (is_sequence new s) (sym (reported_in new s) ∙ m))
      ]))

  joined : list_all harmless (leaves old) && list_all harmless_alone (leaves new) ≡ true → loses_nothing names fresh old new ≡ true
  joined h = let parts = and_parts (list_all harmless (leaves old)) (list_all harmless_alone (leaves new)) h in
      all_lists harmless (leaves (old ++ new)) (λ s m. elim (cases_Bool (is_sequence old s)) [
        | inl o ↦ all_at harmless (leaves old) s parts.0 (reported_in old s ∙ o)
        | inr o ↦ sym (unless_old s false o) ∙ all_at harmless_alone (leaves new) s parts.1 (reported_in new s ∙ ap (λ y. y || is_sequence new s) (sym o) ∙ sym (reported old new s) ∙ m)
      ])

  same_tests : (a b : Bool) → (a ≡ true → b ≡ true) → (b ≡ true → a ≡ true) → a ≡ b
  same_tests true b f g = sym (f refl)
  same_tests false true f g = g refl
  same_tests false false f g = refl

  -- nothing is lost exactly if every change of a sequence of both tables is harmless
  pub decided_by_table : loses_nothing names fresh old new ≡ list_all is_harmless (old_changes names fresh old new) && list_all (λ c. option_map_or is_harmless c true) (new_changes names fresh old new)
  decided_by_table =
      same_tests (loses_nothing names fresh old new) (list_all harmless (leaves old) && list_all harmless_alone (leaves new)) apart joined
      ∙ sym (ap (λ b. b && list_all (λ c. option_map_or is_harmless c true) (new_changes names fresh old new)) (list_all-map is_harmless (λ s. change names fresh old new s) (leaves old))
      ∙ ap (λ b. list_all harmless (leaves old) && b) (list_all-map (λ c. option_map_or is_harmless c true) (λ s. cond (is_sequence old s) None (Some (change names fresh old new s))) (leaves new)))
