-- The sequences that a settled table doesn't have are the prefixes of longer ones.
use Rattle.std.proofs.Common.{◌≡◌, ℕ, List, Bool, true, false, not, ◌&&◌, map, refl, sym, ◌∙◌, ap, ap₂, nat_cmp}
use Rattle.std.specs.Prelude.{filter, is_some, Ok}
use Rattle.std.specs.List.{list_any}
use Rattle.std.specs.Cmp.Lexicographic.{slice_cmp}
use Rattle.std.proofs.lemmas.Cmp.{nat_list_cmp_total}
use Rattle.std.proofs.lemmas.List.Kept.{IsStrictlySortedBy-filter}
use Rattle.std.proofs.lemmas.Map.Lookups.{exact_bytes}
use Rattle.compose_model.specs.Table.{Definition, same, is_sequence, is_extended, longest, is_prefix_free, text_at}
use Rattle.compose_model.specs.Nodes.{leaves, rising_lists}
use Rattle.compose_model.specs.declared.Rule.{Rule}
use Rattle.compose_model.specs.declared.Rule.TheVariants.{Refuse, Longest}
use Rattle.compose_model.proofs.Exact.{sequence_text}
use Rattle.compose_model.proofs.NodeLemmas.{same_is}
use Rattle.compose_model.proofs.SameTable.{one_rising}
use Rattle.compose_model.proofs.Sorted.{rising_sorted}
use Rattle.compose_model.proofs.Tests.{list_any-map, list_any-filter, list_any-same, list_any-and, list_any-rising, both_at}
use Rattle.compose_read.specs.Settle.{in_order, overlap, settled}
use Rattle.compose_read.proofs.Settled.{is_leaf, in_order_same, free_without_overlap, kept}
use Rattle.compose_places.specs.Overlaps.{shorter_ones}

-- a test has the same result for all lists that are the same
module _ (p : List ℕ → Bool) (q : List ℕ) where
  at_same : (x : List ℕ) → p x && same q x ≡ p q && same q x
  at_same x = by (same q x) refl
    where
      by : (b : Bool) → same q x ≡ b → p x && same q x ≡ p q && same q x
      by true e = ap (λ t. p t && same q x) (sym (same_is q x e))
      by false e = ap (λ b. p x && b) e ∙ false_right (p x) ∙ sym (false_right (p q)) ∙ ap (λ b. p q && b) (sym e)
        where
          false_right : (b : Bool) → b && false ≡ false
          false_right true = refl
          false_right false = refl

  -- a list is found in a filtered list if it passes and is in the list
  in_filtered : (xs : List (List ℕ)) → list_any (same q) (filter p xs) ≡ p q && list_any (same q) xs
  in_filtered xs = list_any-filter (same q) p xs ∙ list_any-same (λ x. p x && same q x) (λ x. p q && same q x) at_same xs ∙ list_any-and (p q) (same q) xs

same_sequences : (a b : List Definition) → ((v : List ℕ) → text_at a v ≡ text_at b v) → (v : List ℕ) → is_sequence a v ≡ is_sequence b v
same_sequences a b e v = sym (sequence_text a v) ∙ ap (λ o. is_some o) (e v) ∙ sequence_text b v

-- the longer sequences are those with which no longer one begins
longest_has : (table : List Definition) (v : List ℕ) → is_sequence (longest table) v ≡ not (is_extended table v) && is_sequence table v
longest_has table v =
    list_any-filter (λ (d : Definition). same v d.sequence) (λ (d : Definition). not (is_extended table d.sequence)) table
    ∙ list_any-same (λ (d : Definition). not (is_extended table d.sequence) && same v d.sequence) (λ (d : Definition). not (is_extended table v) && same v d.sequence)
    (λ (d : Definition). at_same (λ s. not (is_extended table s)) v d.sequence) table
    ∙ list_any-and (not (is_extended table v)) (λ (d : Definition). same v d.sequence) table

-- in a table without an overlap these are all
free_has : (table : List Definition) (v : List ℕ) → is_prefix_free table ≡ true → is_sequence table v ≡ not (is_extended table v) && is_sequence table v
free_has table v free = by (is_extended table v) (is_sequence table v) refl refl
  where
    by : (a b : Bool) → is_extended table v ≡ a → is_sequence table v ≡ b → is_sequence table v ≡ not (is_extended table v) && is_sequence table v
    by false b e f = ap (λ x. not x && is_sequence table v) (sym e)
    by true false e f = f ∙ ap₂ (λ x y. not x && y) (sym e) (sym f)
    by true true e f =
        let at = both_at (λ (d : Definition). not (is_extended table d.sequence)) (λ (d : Definition). same v d.sequence) table free f in
        let clash : true ≡ false = sym at.1 ∙ ap (λ s. not (is_extended table s)) (sym (same_is v at.0.sequence at.2)) ∙ ap not e in cc

-- a settled table has the sequences of the definitions with which no longer one begins
settled_has : (rule : Rule) (table rows : List Definition) → settled rule table ≡ Ok rows → (v : List ℕ) → is_sequence rows v ≡ not (is_extended table v) && is_sequence table v
settled_has Refuse table rows h v =
    let k = kept table rows (overlap table) h in
    ap (λ ds. is_sequence ds v) (sym k.1) ∙ same_sequences (in_order table) table (in_order_same table) v ∙ free_has table v (free_without_overlap table k.0)
settled_has Longest table rows h v =
    let e : in_order (longest table) ≡ rows = cc in
    ap (λ ds. is_sequence ds v) (sym e) ∙ same_sequences (in_order (longest table)) (longest table) (in_order_same (longest table)) v ∙ longest_has table v

others : (e s : Bool) → not (not e && s) && s ≡ e && s
others true true = refl
others true false = refl
others false true = refl
others false false = refl

-- those that it doesn't have, each once, in rising order
pub left_out : (rule : Rule) (table rows : List Definition) → settled rule table ≡ Ok rows
    → rising_lists (filter (λ s. not (is_sequence rows s)) (map (λ (d : Definition). d.sequence) table)) ≡ shorter_ones table
left_out rule table rows h =
    one_rising (rising_lists given) (shorter_ones table) (rising_sorted nat_list_cmp_total given)
    (IsStrictlySortedBy-filter (slice_cmp nat_cmp) (is_extended table) (leaves table) (rising_sorted nat_list_cmp_total (map (λ (d : Definition). d.sequence) table)))
    (λ q.
    list_any-rising (slice_cmp nat_cmp) exact_bytes (same q) given
    ∙ in_filtered (λ s. not (is_sequence rows s)) q (map (λ (d : Definition). d.sequence) table)
    ∙ ap₂ (λ a b. not a && b) (settled_has rule table rows h q) (list_any-map (same q) (λ (d : Definition). d.sequence) table)
    ∙ others (is_extended table q) (is_sequence table q)
    ∙ ap (λ b. is_extended table q && b) (sym (is_leaf table q))
    ∙ sym (in_filtered (is_extended table) q (leaves table)))
  where
    given : List (List ℕ)
    given = filter (λ s. not (is_sequence rows s)) (map (λ (d : Definition). d.sequence) table)
