-- The index of a name among the sources is its index in the map that keeps them.
use Rattle.std.proofs.Common.{◌≡◌, ℕ, ◌+◌, ◌≤◌, List, [], ◌∷◌, cond, not, false, suc, length, refl, sym, ◌∙◌, ap, ap₂, nat_lt, map, subst}
use Rattle.std.specs.Prelude.{Option, Some, None, is_some, position, string_bytes, option_map, slice_get, IsUtf8}
use Rattle.std.specs.declared.alloc.Global.{Global}
use Rattle.std.specs.declared.string.String.{String}
use Rattle.std.specs.declared.borrow.CowSlice.{CowSlice}
use Rattle.std.specs.Cow.{cow_slice_items}
use Rattle.std.specs.List.{prefix_len, AllByRecursion, IsDistinct}
use Rattle.std.specs.String.{string_eq}
use Rattle.std.proofs.lemmas.Str.{IsUtf8-string_bytes}
use Rattle.std.specs.Map.{keys_of, values_of, lookup}
use Rattle.std.specs.Str.{bytes_eq}
use Rattle.indexmap.proofs.MapLemmas.{some_index}
use Rattle.std.proofs.lemmas.Option.{slice_get-map, same_Some}
use Rattle.compose_read.specs.Lines.{Source}
use Rattle.compose_read.specs.Sources.{sources_of, AreSources}

abbrev Files : Type 0
Files = List (String Global × CowSlice ℕ Global)

module _ (name : List ℕ) where
  same_prefix : (files : Files)
      → prefix_len (λ k. not (bytes_eq name (string_bytes k))) (keys_of files) ≡ prefix_len (λ (s : Source). not (bytes_eq name s.name)) (sources_of files)
  same_prefix [] = refl
  same_prefix (f ∷ files) = ap (λ n. cond (not (bytes_eq name (string_bytes f.0))) (1 + n) 0) (same_prefix files)

  same_length : (files : Files) → length (keys_of files) ≡ length (sources_of files)
  same_length [] = refl
  same_length (f ∷ files) = ap suc (same_length files)

  -- the map of files finds a name at the index where the list of sources has it
  pub same_index : (files : Files) → position (λ k. bytes_eq name (string_bytes k)) (keys_of files) ≡ position (λ (s : Source). bytes_eq name s.name) (sources_of files)
  same_index files = ap₂ (λ n m. cond (nat_lt n m) (Some n) None) (same_prefix files) (same_length files)

  none_from : {X : Type 0} (o : Option X) → is_some o ≡ false → o ≡ None
  none_from None h = refl
  none_from (Some x) h = cc

  -- a name that no source has is not a key of the map
  pub absent_key : (files : Files) → position (λ (s : Source). bytes_eq name s.name) (sources_of files) ≡ None → lookup (λ k. bytes_eq name (string_bytes k)) files ≡ None
  absent_key files h =
      let there = some_index (λ k. bytes_eq name (string_bytes k)) files in
      none_from (lookup (λ k. bytes_eq name (string_bytes k)) files) (sym there ∙ ap is_some (same_index files ∙ h))

-- the bytes of the source at an index are those that the map keeps there
pub bytes_at : (files : Files) (i : ℕ) (v : CowSlice ℕ Global) → slice_get (values_of files) i ≡ Some v → option_map (λ (s : Source). s.bytes) (slice_get (sources_of files) i) ≡ Some (cow_slice_items v)
bytes_at files i v h =
    ap (option_map (λ (s : Source). s.bytes)) (slice_get-map (λ (f : String Global × CowSlice ℕ Global). let s : Source = record { name = string_bytes f.0; bytes = cow_slice_items f.1 } in s) files i)
    ∙ through (slice_get files i) (sym (slice_get-map (λ (f : String Global × CowSlice ℕ Global). f.1) files i) ∙ h)
  where
    through : (o : Option (String Global × CowSlice ℕ Global)) → option_map (λ f. f.1) o ≡ Some v
        → option_map (λ (s : Source). s.bytes) (option_map (λ f. let s : Source = record { name = string_bytes f.0; bytes = cow_slice_items f.1 } in s) o) ≡ Some (cow_slice_items v)
    through None e = cc
    through (Some f) e = ap (λ (w : CowSlice ℕ Global). Some (cow_slice_items w)) (same_Some f.1 v e)

-- ---- the keys of the map are the names of the sources

all_text : (files : Files) → AllByRecursion (λ (s : Source). IsUtf8 s.name) (sources_of files)
all_text [] = tt
all_text (f ∷ files) = (IsUtf8-string_bytes f.0, all_text files)

other_names : (k : String Global) (files : Files) → AllByRecursion (λ y. string_eq k y ≡ false) (keys_of files)
    → AllByRecursion (λ n. bytes_eq (string_bytes k) n ≡ false) (map (λ (s : Source). s.name) (sources_of files))
other_names k [] h = tt
other_names k (f ∷ files) h = (h.0, other_names k files h.1)

distinct_names : (files : Files) → IsDistinct string_eq (keys_of files) → IsDistinct bytes_eq (map (λ (s : Source). s.name) (sources_of files))
unfolding IsDistinct
distinct_names [] d = tt
distinct_names (f ∷ files) d = (other_names f.0 files d.0, distinct_names files d.1)

-- there are as many sources as files
pub many : (files : Files) → length (sources_of files) ≡ length files
many [] = refl
many (f ∷ files) = ap suc (many files)

-- at most 64 files by distinct names are sources
pub sound : (files : Files) → length files ≤ 64 → IsDistinct string_eq (keys_of files) → AreSources (sources_of files)
sound files few d = record { few = subst (λ n. n ≤ 64) (sym (many files)) few; text = all_text files; distinct = distinct_names files d }
