-- Settled rows are definitions, like those that they come from.
use Rattle.std.proofs.Common.{◌≡◌, ◌≤◌, ◌+◌, ℕ, length, List, [], ◌∷◌, Bool, true, false, cond, not, filter, map, refl, sym, ◌∙◌, ap, ap₂, Less, Equal, Greater, nat_cmp, arith}
use Rattle.std.specs.declared.cmp.Ordering.{Ordering}
use Rattle.std.specs.Cmp.Lexicographic.{slice_cmp}
use Rattle.std.proofs.lemmas.List.{length-map}
use Rattle.std.specs.Prelude.{Option, Some, None, Ok, is_some, unwrap_or}
use Rattle.std.specs.Option.{option_or}
use Rattle.std.specs.List.{list_any}
use Rattle.std.proofs.lemmas.Bool.{and_parts, and_from, or_left, or_right}
use Rattle.std.proofs.lemmas.Option.{same_Some}
use Rattle.compose_model.specs.Table.{Definition, same, is_sequence, is_extended, text_at, is_definition, is_table, longest}
use Rattle.compose_model.specs.Nodes.{put, put_by, leaves}
use Rattle.compose_model.specs.declared.Rule.{Rule}
use Rattle.compose_model.specs.declared.Rule.TheVariants.{Refuse, Longest}
use Rattle.compose_model.proofs.NodeLemmas.{same_is, same_from}
use Rattle.compose_model.proofs.Exact.{sequence_text}
use Rattle.compose_read.specs.Settle.{row, in_order, overlap, settled, IsSettled}
use Rattle.compose_read.proofs.Settled.{is_leaf, kept, settled_free, settled_rises}

abbrev with_text : List ℕ → List ℕ → Definition
with_text v t = record { sequence = v; text = t }

-- the text of a sequence and the sequence are a definition
text_definition : (table : List Definition) (v t : List ℕ) → is_table table ≡ true → text_at table v ≡ Some t → is_definition (with_text v t) ≡ true
text_definition [] v t h e = cc
text_definition (d ∷ table) v t h e =
    let parts = and_parts (is_definition d) (is_table table) h in go (text_at table v) (same v d.sequence) refl (λ u f. text_definition table v u parts.1 f) parts.0 e
  where
    go : (o : Option (List ℕ)) (b : Bool) → same v d.sequence ≡ b → ((u : List ℕ) → o ≡ Some u → is_definition (with_text v u) ≡ true) → is_definition d ≡ true
        → option_or o (cond b (Some d.text) None) ≡ Some t
        → is_definition (with_text v t) ≡ true
    go (Some u) b s f p e = f t e
    go None true s f p e = ap is_definition (ap₂ with_text (same_is v d.sequence s) (sym (same_Some d.text t e))) ∙ p
    go None false s f p e = cc

rows_table : (table : List Definition) (ss : List (List ℕ)) → is_table table ≡ true → ((s : List ℕ) → list_any (same s) ss ≡ true → is_sequence table s ≡ true) → is_table (map (row table) ss) ≡ true
rows_table table [] h f = refl
rows_table table (s ∷ ss) h f =
    and_from (is_definition (row table s)) (is_table (map (row table) ss))
    (go (text_at table s) (sequence_text table s ∙ f s (or_left (same s s) (list_any (same s) ss) (same_from s s refl))) (λ t e. text_definition table s t h e))
    (rows_table table ss h (λ t e. f t (or_right (same t s) (list_any (same t) ss) e)))
  where
    go : (o : Option (List ℕ)) → is_some o ≡ true → ((t : List ℕ) → o ≡ Some t → is_definition (with_text s t) ≡ true) → is_definition (with_text s (unwrap_or o [])) ≡ true
    go None i g = cc
    go (Some t) i g = g t refl

in_order_table : (table : List Definition) → is_table table ≡ true → is_table (in_order table) ≡ true
in_order_table table h = rows_table table (leaves table) h (λ s e. sym (is_leaf table s) ∙ e)

part_table : (p : Definition → Bool) (table : List Definition) → is_table table ≡ true → is_table (filter p table) ≡ true
part_table p [] h = refl
part_table p (d ∷ table) h = let parts = and_parts (is_definition d) (is_table table) h in go (p d) parts.0 (part_table p table parts.1)
  where
    go : (b : Bool) → is_definition d ≡ true → is_table (filter p table) ≡ true → is_table (cond b (d ∷ filter p table) (filter p table)) ≡ true
    go true l r = and_from (is_definition d) (is_table (filter p table)) l r
    go false l r = r

settled_table : (rule : Rule) (table rows : List Definition) → is_table table ≡ true → settled rule table ≡ Ok rows → is_table rows ≡ true
settled_table Refuse table rows h e = ap is_table (sym (kept table rows (overlap table) e).1) ∙ in_order_table table h
settled_table Longest table rows h e =
    let same_rows : in_order (longest table) ≡ rows = cc in
    ap is_table (sym same_rows) ∙ in_order_table (longest table) (part_table (λ d. not (is_extended table d.sequence)) table h)

-- the settled rows of a table are rows that a table can be built of
pub settled_is : (rule : Rule) (table rows : List Definition) → is_table table ≡ true → settled rule table ≡ Ok rows → IsSettled rows
settled_is rule table rows h e = record { definitions = settled_table rule table rows h e; rise = settled_rises rule table rows e; prefix_free = settled_free rule table rows e }

-- ---- there are no more of them

few_put : (x : List ℕ) (ys : List (List ℕ)) → length (put (slice_cmp nat_cmp) x ys) ≤ 1 + length ys
few_put x [] = omega arith
few_put x (y ∷ ys) = go (slice_cmp nat_cmp x y) (few_put x ys)
  where
    go : (r : Ordering) → length (put (slice_cmp nat_cmp) x ys) ≤ 1 + length ys → length (put_by r x y ys (put (slice_cmp nat_cmp) x ys)) ≤ 1 + length (y ∷ ys)
    go Less h = omega arith
    go Equal h = omega arith
    go Greater h = omega arith

few_leaves : (table : List Definition) → length (leaves table) ≤ length table
few_leaves [] = omega arith
few_leaves (d ∷ table) = let here = few_put d.sequence (leaves table) in let rest = few_leaves table in omega arith

few_in_order : (table : List Definition) → length (in_order table) ≤ length table
few_in_order table = let n = length-map (leaves table) (row table) in let m = few_leaves table in omega arith

few_filtered : (p : Definition → Bool) (table : List Definition) → length (filter p table) ≤ length table
few_filtered p [] = omega arith
few_filtered p (d ∷ table) = go (p d) (few_filtered p table)
  where
    go : (b : Bool) → length (filter p table) ≤ length table → length (cond b (d ∷ filter p table) (filter p table)) ≤ length (d ∷ table)
    go true h = omega arith
    go false h = omega arith

-- there are at most as many settled rows as definitions
pub settled_few : (rule : Rule) (table rows : List Definition) → settled rule table ≡ Ok rows → length rows ≤ length table
settled_few Refuse table rows e = let same = ap (λ (ds : List Definition). length ds) (kept table rows (overlap table) e).1 in let few = few_in_order table in omega arith
settled_few Longest table rows e =
    let same_rows : in_order (longest table) ≡ rows = cc in
    let same = ap (λ (ds : List Definition). length ds) same_rows in
    let few = few_in_order (longest table) in let left = few_filtered (λ d. not (is_extended table d.sequence)) table in omega arith
