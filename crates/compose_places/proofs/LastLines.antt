-- The counting line of each sequence, after one more of the lines that define them.
use Rattle.std.proofs.Common.{◌≡◌, ℕ, zero, suc, ◌+◌, ◌<◌, List, [], ◌∷◌, ◌++◌, map, set, take, drop, length, get_or, true, false, refl, sym, ◌∙◌, ap, subst}
use Rattle.std.specs.Prelude.{Option, Some, option_map, slice_get}
use Rattle.std.proofs.lemmas.List.{take_more, length-map}
use Rattle.std.proofs.lemmas.Option.{slice_get-map, slice_get-get_or, slice_get_within, same_Some}
use Rattle.keysym_core.specs.Names.{KeysymNames}
use Rattle.compose_model.specs.Table.{Definition, is_sequence}
use Rattle.compose_model.specs.Nodes.{leaves}
use Rattle.compose_read.specs.Lines.{Visit}
use Rattle.compose_tree.specs.Targets.{leaf_number}
use Rattle.compose_places.specs.Counting.{WrittenLine, defined_sequence, written_line, counting_line}
use Rattle.compose_places.proofs.CountingSoFar.{defines_other, defines_one}

-- a line on which nothing is written
abbrev no_line : Visit
no_line = record { source = 0; line = 0; depth = 0; bytes = [] }

module _ (names : KeysymNames) (table : List Definition) (visits : List Visit) (index : ℕ) (s : List ℕ)
    (defined : slice_get (map (λ (v : Visit). defined_sequence names v.bytes) visits) index ≡ Some (Some s)) where
  abbrev visit : Visit
  visit = get_or visits index no_line

  within : index < length visits
  within =
      subst (λ n. index < n) (length-map visits (λ (v : Visit). defined_sequence names v.bytes))
      (slice_get_within (map (λ (v : Visit). defined_sequence names v.bytes) visits) index (Some s) defined)

  here : slice_get visits index ≡ Some visit
  here = slice_get-get_or visits index no_line within

  defines_it : defined_sequence names visit.bytes ≡ Some s
  defines_it =
      same_Some (defined_sequence names visit.bytes) (Some s)
      (ap (option_map (λ (v : Visit). defined_sequence names v.bytes)) (sym here) ∙ sym (slice_get-map (λ (v : Visit). defined_sequence names v.bytes) visits index) ∙ defined)

  abbrev before : List (Option WrittenLine)
  before = map (counting_line names (take index visits)) (leaves table)

  abbrev after : List (Option WrittenLine)
  after = map (counting_line names (take (index + 1) visits)) (leaves table)

  one_more : after ≡ map (counting_line names (take index visits ++ visit ∷ [])) (leaves table)
  one_more = ap (λ vs. map (counting_line names vs) (leaves table)) (take_more visits index no_line within)

  -- a line that defines a sequence that the table does not have
  pub other_line : is_sequence table s ≡ false → before ≡ after
  other_line h = sym (one_more ∙ defines_other names table (take index visits) visit s defines_it h)

  -- a line that defines a sequence of the table
  pub one_line : is_sequence table s ≡ true → set before (leaf_number table s) (slice_get (map written_line visits) index) ≡ after
  one_line h =
      ap (set before (leaf_number table s)) (slice_get-map written_line visits index ∙ ap (option_map written_line) here)
      ∙ sym (one_more ∙ defines_one names table (take index visits) visit s defines_it h)

-- ---- the lines that are left

-- the first of them
pub first_left : (visits : List Visit) (index : ℕ) → slice_get (map written_line (drop index visits)) 0 ≡ slice_get (map written_line visits) index
first_left visits zero = refl
first_left [] (suc index) = refl
first_left (v ∷ visits) (suc index) = first_left visits index
