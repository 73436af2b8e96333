-- The counting line of each sequence, after one more line.
use Rattle.std.proofs.Common.{◌≡◌, ℕ, List, [], ◌∷◌, ◌++◌, Bool, true, false, cond, map, set, refl, ◌∙◌, ap}
use Rattle.std.specs.Prelude.{Option, Some, None}
use Rattle.std.specs.Option.{option_or, option_map_or, option_and_then}
use Rattle.std.proofs.lemmas.Cmp.{nat_list_cmp_total}
use Rattle.keysym_core.specs.Names.{KeysymNames}
use Rattle.compose_model.specs.Table.{Definition, same, is_sequence}
use Rattle.compose_model.specs.Nodes.{leaves}
use Rattle.compose_model.proofs.NodeLemmas.{same_from}
use Rattle.compose_model.proofs.Sorted.{rising_sorted}
use Rattle.compose_read.specs.Lines.{Visit}
use Rattle.compose_tree.specs.Targets.{leaf_number}
use Rattle.compose_tree.proofs.Steps.{leaf_means}
use Rattle.compose_places.specs.Events.{line_events}
use Rattle.compose_places.specs.Counting.{WrittenLine, sequence_named, defines, written_line, counting_line}
use Rattle.compose_places.proofs.LastOnes.{nothing_changed, changed_at}

module _ (names : KeysymNames) where
  counting_line-append : (vs : List Visit) (v : Visit) (s : List ℕ) → counting_line names (vs ++ v ∷ []) s ≡ cond (defines names s v.bytes) (Some (written_line v)) (counting_line names vs s)
  counting_line-append [] v s = refl
  counting_line-append (c ∷ vs) v s = ap (λ o. option_or o (cond (defines names s c.bytes) (Some (written_line c)) None)) (counting_line-append vs v s) ∙ outside (defines names s v.bytes)
    where
      outside : (b : Bool)
          → option_or (cond b (Some (written_line v)) (counting_line names vs s)) (cond (defines names s c.bytes) (Some (written_line c)) None)
          ≡ cond b (Some (written_line v)) (counting_line names (c ∷ vs) s)
      outside true = refl
      outside false = refl

  module _ (table : List Definition) (seen : List Visit) (v : Visit) where
    abbrev before : List ℕ → Option WrittenLine
    before = counting_line names seen

    abbrev after : List ℕ → Option WrittenLine
    after = counting_line names (seen ++ v ∷ [])

    abbrev sequence : Option (List ℕ)
    sequence = option_and_then (sequence_named names) (line_events v.bytes)

    one_more : (o : Option (List ℕ)) → sequence ≡ o → (s : List ℕ) → after s ≡ cond (option_map_or (same s) o false) (Some (written_line v)) (before s)
    one_more o e s = counting_line-append seen v s ∙ ap (λ x. cond (option_map_or (same s) x false) (Some (written_line v)) (before s)) e

    module _ (s : List ℕ) (e : sequence ≡ Some s) where
      others : (x : List ℕ) → same x s ≡ false → after x ≡ before x
      others x h = one_more (Some s) e x ∙ ap (λ b. cond b (Some (written_line v)) (before x)) h

      -- a line that defines a sequence that the table does not have
      pub defines_other : is_sequence table s ≡ false → map after (leaves table) ≡ map before (leaves table)
      defines_other h = nothing_changed before after s others (leaves table) (leaf_means table s ∙ h)

      -- a line that defines a sequence of the table
      pub defines_one : is_sequence table s ≡ true → map after (leaves table) ≡ set (map before (leaves table)) (leaf_number table s) (Some (written_line v))
      defines_one h =
          changed_at before after s others (leaves table) (rising_sorted nat_list_cmp_total (map (λ (d : Definition). d.sequence) table)) (leaf_means table s ∙ h)
          ∙ ap (set (map before (leaves table)) (leaf_number table s)) (one_more (Some s) e s ∙ ap (λ b. cond b (Some (written_line v)) (before s)) (same_from s s refl))
