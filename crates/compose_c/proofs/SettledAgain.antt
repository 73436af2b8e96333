-- Settling settled definitions changes nothing.
use Rattle.std.proofs.Common.{◌≡◌, ℕ, zero, suc, ◌<◌, List, [], ◌∷◌, Bool, true, false, not, cond, length, map, get_or, refl, sym, ◌∙◌, ap, arith}
use Rattle.std.specs.Prelude.{Option, Some, None, Ok, unwrap_or}
use Rattle.std.specs.List.{list_all, find}
use Rattle.std.proofs.lemmas.Bool.{and_parts, not-true}
use Rattle.std.proofs.lemmas.List.{get_or-map}
use Rattle.compose_model.specs.Table.{Definition, is_extended, text_at}
use Rattle.compose_model.specs.Nodes.{leaves}
use Rattle.compose_model.specs.declared.Rule.TheVariants.{Refuse}
use Rattle.compose_read.specs.Settle.{row, in_order, overlap, or_overlap, with_extension, settled, IsSettled}
use Rattle.compose_tree.proofs.Adding.{leaves_are}
use Rattle.compose_tree.proofs.Lookups.{leaf_text_is}

none_passes : (p : List ℕ → Bool) (ds : List Definition) → list_all (λ (d : Definition). not (p d.sequence)) ds ≡ true → find p (map (λ (d : Definition). d.sequence) ds) ≡ None
none_passes p [] h = refl
none_passes p (d ∷ ds) h =
    let both = and_parts (not (p d.sequence)) (list_all (λ (x : Definition). not (p x.sequence)) ds) h in
    ap (λ b. cond {A = Option (List ℕ)} b (Some d.sequence) (find p (map (λ (x : Definition). x.sequence) ds))) (not-true (p d.sequence) both.0) ∙ none_passes p ds both.1

rows_again : (table ds : List Definition) (none : Definition) → ((i : ℕ) → i < length ds → text_at table (get_or ds i none).sequence ≡ Some (get_or ds i none).text)
    → map (row table) (map (λ (d : Definition). d.sequence) ds) ≡ ds
rows_again table [] none texts = refl
rows_again table (d ∷ ds) none texts =
    λ i. record { sequence = d.sequence; text = unwrap_or (texts 0 (omega arith) i) [] } ∷ rows_again table ds none (λ j h. texts (suc j) (omega arith)) i

-- definitions that are settled are settled to themselves
pub settled_again : (table : List Definition) → IsSettled table → settled Refuse table ≡ Ok table
settled_again table s =
    let none : Definition = record { sequence = []; text = [] } in
    let free : overlap table ≡ None =
    ap (λ ls. with_extension table (find (is_extended table) ls)) (leaves_are table s.rise) ∙ ap (with_extension table) (none_passes (is_extended table) table s.prefix_free) in
    let same : in_order table ≡ table =
    ap (map (row table)) (leaves_are table s.rise)
    ∙ rows_again table table none
    (λ i h. ap (text_at table) (sym (ap (λ ls. get_or ls i []) (leaves_are table s.rise) ∙ get_or-map (λ (d : Definition). d.sequence) table i none [] h)) ∙ leaf_text_is table i none s h) in
    (λ i. or_overlap (free i) (same i))
