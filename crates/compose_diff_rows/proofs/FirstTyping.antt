-- The first of the shortest sequences that give a text: no other one is shorter, and none of the
-- same length comes before it.
use Rattle.std.proofs.Common.{◌≡◌, ℕ, List, Bool, true, false, not, sym, ◌∙◌, ap, refl}
use Rattle.std.specs.Prelude.{Option, Some, None, is_some}
use Rattle.std.specs.Option.{option_map_or}
use Rattle.compose_model.specs.Table.{Definition, same, is_sequence, text_at, is_table}
use Rattle.compose_model.proofs.Exact.{sequence_text}
use Rattle.compose_lookup.specs.Lookup.{gives}
use Rattle.compose_lookup.proofs.FirstOne.{first_is_least, none_first}
use Rattle.compose_diff_rows.specs.Rows.{first_typing}
use Rattle.compose_diff_rows.specs.Typings.{IsFirstTyping}

module _ (table : List Definition) (t_table : is_table table ≡ true) (text : List ℕ) where
  -- a sequence that gives a text is one of the table
  is_there : (t : List ℕ) → gives table text t ≡ true → is_sequence table t ≡ true
  is_there t h = sym (sequence_text table t) ∙ go (text_at table t) h
    where
      go : (o : Option (List ℕ)) → option_map_or (same text) o false ≡ true → is_some o ≡ true
      go None g = let clash : false ≡ true = g in cc
      go (Some x) g = refl

  pub first_typing_least : (s : List ℕ) → first_typing table text ≡ Some s → IsFirstTyping table text s
  first_typing_least s h =
      let it = first_is_least table t_table (gives table text) s h in record {
        typed = it.passes;
        shortest = λ t g. it.shortest t (is_there t g) g;
        first = λ t g as_long. ap not (it.first t (is_there t g) g as_long);
      }

  pub none_gives : first_typing table text ≡ None → (t : List ℕ) → gives table text t ≡ true → ⊥
  none_gives h t g = none_first table t_table (gives table text) h t (is_there t g) g
