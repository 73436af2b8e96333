-- Settling keeps the text of each sequence, and results in rising rows without overlaps.
use Rattle.std.proofs.Common.{◌≡◌, ℕ, List, [], ◌∷◌, Bool, true, false, cond, not, ◌&&◌, ◌||◌, map, refl, sym, ◌∙◌, ap, nat_cmp}
use Rattle.std.specs.Prelude.{Option, Some, None, Ok, is_some, unwrap_or}
use Rattle.std.specs.Option.{option_or}
use Rattle.std.specs.Ordering.{is_lt}
use Rattle.std.specs.Cmp.Lexicographic.{slice_cmp}
use Rattle.std.specs.List.{list_any, list_all, find}
use Rattle.std.specs.List.Sorted.{IsStrictlySortedBy}
use Rattle.std.proofs.lemmas.Cmp.{nat_list_cmp_total}
use Rattle.std.proofs.lemmas.Bool.{and_from, or_left, or_right}
use Rattle.std.proofs.lemmas.Map.Lookups.{exact_bytes}
use Rattle.keysym_core.specs.Names.{KeysymNames}
use Rattle.compose_model.specs.Table.{Definition, same, is_sequence, is_extended, text_at, is_prefix_free, IsSameTable, longest}
use Rattle.compose_model.specs.Step.{run}
use Rattle.compose_model.specs.Nodes.{leaves}
use Rattle.compose_model.proofs.Tests.{list_any-map, list_any-rising}
use Rattle.compose_model.proofs.NodeLemmas.{same_is, same_from}
use Rattle.compose_model.proofs.Lift.{not_extended}
use Rattle.compose_model.proofs.Exact.{sequence_text}
use Rattle.compose_model.proofs.Sorted.{rising_sorted}
use Rattle.compose_model.proofs.SameTable.{same_run, same_extended}
use Rattle.compose_model.proofs.Longest.{longest_run, longest_prefix_free}
use Rattle.compose_read.specs.Settle.{row, in_order, Overlap, with_extension, overlap, or_overlap, settled, sequences_rise}
use Rattle.compose_model.specs.declared.Rule.{Rule}
use Rattle.compose_model.specs.declared.Rule.TheVariants.{Refuse, Longest}

-- ---- the rows have the texts of the table

-- the leaves of a table are its sequences
pub is_leaf : (table : List Definition) (v : List ℕ) → list_any (same v) (leaves table) ≡ is_sequence table v
is_leaf table v = list_any-rising (slice_cmp nat_cmp) exact_bytes (same v) (map (λ (d : Definition). d.sequence) table) ∙ list_any-map (same v) (λ (d : Definition). d.sequence) table

rows_say : (table : List Definition) (v : List ℕ) (ss : List (List ℕ)) → text_at (map (row table) ss) v ≡ cond (list_any (same v) ss) (Some (unwrap_or (text_at table v) [])) None
rows_say table v [] = refl
rows_say table v (s ∷ ss) = ap (λ o. option_or o (cond (same v s) (Some (unwrap_or (text_at table s) [])) None)) (rows_say table v ss) ∙ go (list_any (same v) ss) (same v s) refl
  where
    go : (a b : Bool) → same v s ≡ b
        → option_or (cond a (Some (unwrap_or (text_at table v) [])) None) (cond b (Some (unwrap_or (text_at table s) [])) None) ≡ cond (b || a) (Some (unwrap_or (text_at table v) [])) None
    go true true e = refl
    go true false e = refl
    go false true e = ap (λ t. Some (unwrap_or (text_at table t) [])) (sym (same_is v s e))
    go false false e = refl

-- the rows of a table in order have the same text for each sequence as the table
pub in_order_same : (table : List Definition) → IsSameTable (in_order table) table
in_order_same table v =
    rows_say table v (leaves table)
    ∙ ap (λ b. cond {A = Option (List ℕ)} b (Some (unwrap_or (text_at table v) [])) None) (is_leaf table v ∙ sym (sequence_text table v))
    ∙ go (text_at table v)
  where
    go : (o : Option (List ℕ)) → cond {A = Option (List ℕ)} (is_some o) (Some (unwrap_or o [])) None ≡ o
    go None = refl
    go (Some t) = refl

-- ---- they rise

rows_rise : (table : List Definition) (ss : List (List ℕ)) → IsStrictlySortedBy (slice_cmp nat_cmp) ss → sequences_rise (map (row table) ss) ≡ true
unfolding IsStrictlySortedBy
rows_rise table [] h = refl
rows_rise table (s ∷ []) h = refl
rows_rise table (s ∷ t ∷ ss) h = and_from (is_lt (slice_cmp nat_cmp s t)) (sequences_rise (map (row table) (t ∷ ss))) (ap is_lt h.0.0) (rows_rise table (t ∷ ss) h.1)

-- the sequences of the rows in order rise
pub in_order_rises : (table : List Definition) → sequences_rise (in_order table) ≡ true
in_order_rises table = rows_rise table (leaves table) (rising_sorted nat_list_cmp_total (map (λ (d : Definition). d.sequence) table))

-- ---- none is a prefix of another

rows_pass : (p : List ℕ → Bool) (table : List Definition) (ss : List (List ℕ)) → ((s : List ℕ) → list_any (same s) ss ≡ true → p s ≡ true)
    → list_all (λ (d : Definition). p d.sequence) (map (row table) ss) ≡ true
rows_pass p table [] f = refl
rows_pass p table (s ∷ ss) f =
    and_from (p s) (list_all (λ (d : Definition). p d.sequence) (map (row table) ss)) (f s (or_left (same s s) (list_any (same s) ss) (same_from s s refl)))
    (rows_pass p table ss (λ t h. f t (or_right (same t s) (list_any (same t) ss) h)))

-- if no sequence of a table is a prefix of another, none of the rows in order is
pub in_order_free : (table : List Definition) → is_prefix_free table ≡ true → is_prefix_free (in_order table) ≡ true
in_order_free table free =
    rows_pass (λ s. not (is_extended (in_order table) s)) table (leaves table)
    (λ s h. ap not (same_extended (in_order table) table (in_order_same table) s ∙ not_extended table s free (sym (is_leaf table s) ∙ h)))

-- ---- by either rule

none_found : {X : Type 0} (p : X → Bool) (xs : List X) → find p xs ≡ None → list_any p xs ≡ false
none_found p [] h = refl
none_found p (x ∷ xs) h = go (p x) h (none_found p xs)
  where
    go : (b : Bool) → cond b (Some x) (find p xs) ≡ None → (find p xs ≡ None → list_any p xs ≡ false) → b || list_any p xs ≡ false
    go true h f = cc
    go false h f = f h

none_passes : {X : Type 0} (p : X → Bool) (xs : List X) → list_any p xs ≡ false → list_all (λ x. not (p x)) xs ≡ true
none_passes p [] h = refl
none_passes p (x ∷ xs) h = go (p x) h (none_passes p xs)
  where
    go : (b : Bool) → b || list_any p xs ≡ false → (list_any p xs ≡ false → list_all (λ x. not (p x)) xs ≡ true) → not b && list_all (λ x. not (p x)) xs ≡ true
    go true h f = cc
    go false h f = f h

-- in a table without an overlap no sequence is a prefix of another
pub free_without_overlap : (table : List Definition) → overlap table ≡ None → is_prefix_free table ≡ true
free_without_overlap table h = go (find (is_extended table) (leaves table)) refl h
  where
    go : (o : Option (List ℕ)) → find (is_extended table) (leaves table) ≡ o → with_extension table o ≡ None → is_prefix_free table ≡ true
    go (Some s) e h = cc
    go None e h = none_passes (λ (d : Definition). is_extended table d.sequence) table
        (sym (list_any-map (is_extended table) (λ (d : Definition). d.sequence) table)
        ∙ sym (list_any-rising (slice_cmp nat_cmp) exact_bytes (is_extended table) (map (λ (d : Definition). d.sequence) table))
        ∙ none_found (is_extended table) (leaves table) e)

-- if `Refuse` settles a table, it has no overlap
pub kept : (table rows : List Definition) (o : Option Overlap) → or_overlap o (in_order table) ≡ Ok rows → (o ≡ None) × (in_order table ≡ rows)
kept table rows None h = (refl, cc)
kept table rows (Some o) h = cc

-- every run over the settled rows is the one over the table
pub settled_runs : (names : KeysymNames) (rule : Rule) (table rows : List Definition) (keys : List ℕ) → settled rule table ≡ Ok rows → run names rows keys ≡ run names table keys
settled_runs names Refuse table rows keys h = ap (λ t. run names t keys) (sym (kept table rows (overlap table) h).1) ∙ same_run (in_order table) table (in_order_same table) names keys
settled_runs names Longest table rows keys h =
    let e : in_order (longest table) ≡ rows = cc in
    ap (λ t. run names t keys) (sym e) ∙ same_run (in_order (longest table)) (longest table) (in_order_same (longest table)) names keys ∙ longest_run table names keys

-- in settled rows no sequence is a prefix of another
pub settled_free : (rule : Rule) (table rows : List Definition) → settled rule table ≡ Ok rows → is_prefix_free rows ≡ true
settled_free Refuse table rows h = let k = kept table rows (overlap table) h in ap is_prefix_free (sym k.1) ∙ in_order_free table (free_without_overlap table k.0)
settled_free Longest table rows h = let e : in_order (longest table) ≡ rows = cc in ap is_prefix_free (sym e) ∙ in_order_free (longest table) (longest_prefix_free table)

-- the sequences of settled rows rise
pub settled_rises : (rule : Rule) (table rows : List Definition) → settled rule table ≡ Ok rows → sequences_rise rows ≡ true
settled_rises Refuse table rows h = ap sequences_rise (sym (kept table rows (overlap table) h).1) ∙ in_order_rises table
settled_rises Longest table rows h = let e : in_order (longest table) ≡ rows = cc in ap sequences_rise (sym e) ∙ in_order_rises (longest table)
