-- Rows in rising order are settled by comparing neighbours.
use Rattle.std.proofs.Common.{◌≡◌, ℕ, ◌+◌, suc, List, [], ◌∷◌, Bool, true, false, cond, not, ◌||◌, filter, map, refl, sym, ◌∙◌, ap, subst, inl, inr, Less, Equal, Greater, nat_cmp, arith}
use Rattle.std.specs.Prelude.{Option, Some, None, Result, Ok, Err, is_some, unwrap_or, slice_index_or}
use Rattle.std.specs.declared.cmp.Ordering.{Ordering}
use Rattle.std.specs.Option.{option_or}
use Rattle.std.specs.Ordering.{is_lt, ordering_reverse}
use Rattle.std.specs.Cmp.Lexicographic.{slice_cmp}
use Rattle.std.specs.List.{find, AllByRecursion}
use Rattle.std.proofs.lemmas.Cmp.{nat_list_cmp_total}
use Rattle.std.proofs.lemmas.Bool.{cases_Bool, or_left}
use Rattle.std.proofs.lemmas.Option.{same_Some}
use Rattle.std.proofs.lemmas.Map.Lookups.{exact_bytes}
use Rattle.compose_model.specs.Table.{Definition, same, comes_before, is_proper_prefix, is_sequence, is_extended, text_at, longest, IsSameTable}
use Rattle.compose_model.specs.Nodes.{put, put_by, leaves}
use Rattle.compose_model.proofs.NodeLemmas.{same_is, same_from}
use Rattle.compose_model.proofs.Exact.{sequence_text}
use Rattle.compose_read.specs.Settle.{row, in_order, Overlap, with_extension, overlap, or_overlap, settled}
use Rattle.compose_read.specs.Neighbours.{prefix_of_next, stays_before, put_if, settled_neighbours, SequencesAscend}
use Rattle.compose_read.proofs.Order.{Before, not_both, not_same, before_later, not_own_prefix, later_no_prefix, prefix_of_between}
use Rattle.compose_read.proofs.SameSettled.{same_settled}
use Rattle.compose_model.specs.declared.Rule.{Rule}
use Rattle.compose_model.specs.declared.Rule.TheVariants.{Refuse, Longest}

-- ---- what holds of all elements

module _ {X : Type 0} (P : X → Type 0) where
  all_kept : (p : X → Bool) (xs : List X) → AllByRecursion P xs → AllByRecursion P (filter p xs)
  all_kept p [] a = tt
  all_kept p (x ∷ xs) a = go (p x) (all_kept p xs a.1)
    where
      go : (b : Bool) → AllByRecursion P (filter p xs) → AllByRecursion P (cond b (x ∷ filter p xs) (filter p xs))
      go true r = (a.0, r)
      go false r = r

  map_where : {Y : Type 0} (f h : X → Y) (xs : List X) → ((x : X) → P x → f x ≡ h x) → AllByRecursion P xs → map f xs ≡ map h xs
  map_where f h [] e a = refl
  map_where f h (x ∷ xs) e a = λ i. e x a.0 i ∷ map_where f h xs e a.1 i

  filter_where : (p q : X → Bool) (xs : List X) → ((x : X) → P x → p x ≡ q x) → AllByRecursion P xs → filter p xs ≡ filter q xs
  filter_where p q [] e a = refl
  filter_where p q (x ∷ xs) e a = λ i. cond (e x a.0 i) (x ∷ filter_where p q xs e a.1 i) (filter_where p q xs e a.1 i)

  find_where : (p q : X → Bool) (xs : List X) → ((x : X) → P x → p x ≡ q x) → AllByRecursion P xs → find p xs ≡ find q xs
  find_where p q [] e a = refl
  find_where p q (x ∷ xs) e a = λ i. cond (e x a.0 i) (Some x) (find_where p q xs e a.1 i)

  found_has : (p : X → Bool) (xs : List X) (y : X) → find p xs ≡ Some y → AllByRecursion P xs → P y
  found_has p [] y h a = cc
  found_has p (x ∷ xs) y h a = go (p x) h (λ f. found_has p xs y f a.1)
    where
      go : (b : Bool) → cond b (Some x) (find p xs) ≡ Some y → (find p xs ≡ Some y → P y) → P y
      go true e f = subst P (same_Some x y e) a.0
      go false e f = f e

or_none : {X : Type 0} (o : Option X) → o ≡ option_or o None
or_none None = refl
or_none (Some x) = refl

-- ---- rows in rising order

-- no row is less than the previous one
abbrev Ascends : List Definition → Type 0
Ascends [] = Unit {0}
Ascends (d ∷ []) = Unit {0}
Ascends (d ∷ e ∷ rows) = (comes_before e.sequence d.sequence ≡ false) × Ascends (e ∷ rows)

ascends_from : (rows : List Definition) → SequencesAscend rows → Ascends rows
ascends_from [] h = tt
ascends_from (d ∷ []) h = tt
ascends_from (d ∷ e ∷ rows) h = (h 0 d (omega arith) (omega arith), ascends_from (e ∷ rows) (λ k x l b. shifted k x (h (suc k) x (omega arith) (omega arith))))
  where
    shifted : (k : ℕ) (x : Definition) → comes_before (slice_index_or (d ∷ e ∷ rows) (suc k + 1) x).sequence (slice_index_or (d ∷ e ∷ rows) (suc k) x).sequence ≡ false
        → comes_before (slice_index_or (e ∷ rows) (k + 1) x).sequence (slice_index_or (e ∷ rows) k x).sequence ≡ false
    shifted k x g = let n : suc k + 1 ≡ suc (k + 1) = omega arith in rw n at g

-- the sequence comes before all of these rows
abbrev Above : List ℕ → List Definition → Type 0
Above s rows = AllByRecursion (λ (e : Definition). Before s e.sequence) rows

above_rows : (s : List ℕ) (e : Definition) (rows : List Definition) → Before s e.sequence → Ascends (e ∷ rows) → Above s (e ∷ rows)
above_rows s e [] b a = (b, tt)
above_rows s e (f ∷ rows) b a = (b, above_rows s f rows (before_later s e.sequence f.sequence b a.0) a.1)

-- ---- the leaves of rows after one that comes before them all

all_put : (P : List ℕ → Type 0) (x : List ℕ) (ys : List (List ℕ)) → P x → AllByRecursion P ys → AllByRecursion P (put (slice_cmp nat_cmp) x ys)
all_put P x [] p a = (p, tt)
all_put P x (y ∷ ys) p a = go (slice_cmp nat_cmp x y) (all_put P x ys p a.1)
  where
    go : (r : Ordering) → AllByRecursion P (put (slice_cmp nat_cmp) x ys) → AllByRecursion P (put_by r x y ys (put (slice_cmp nat_cmp) x ys))
    go Less b = (p, a)
    go Equal b = a
    go Greater b = (a.0, b)

above_leaves : (s : List ℕ) (rows : List Definition) → Above s rows → AllByRecursion (λ t. Before s t) (leaves rows)
above_leaves s [] a = tt
above_leaves s (e ∷ rows) a = all_put (λ t. Before s t) e.sequence (leaves rows) a.0 (above_leaves s rows a.1)

put_prefix : (s : List ℕ) (ss : List (List ℕ)) → AllByRecursion (λ t. Before s t) ss → put (slice_cmp nat_cmp) s ss ≡ s ∷ ss
put_prefix s [] a = refl
put_prefix s (t ∷ ss) a = ap (λ r. put_by r s t ss (put (slice_cmp nat_cmp) s ss)) a.0

-- the least leaf is the first row's
first_leaf : (e : Definition) (rows : List Definition) → Ascends (e ∷ rows) → (ss : List (List ℕ)) × (leaves (e ∷ rows) ≡ e.sequence ∷ ss)
first_leaf e [] a = ([], refl)
first_leaf e (f ∷ rows) a = go (slice_cmp nat_cmp e.sequence f.sequence) refl (first_leaf f rows a.1)
  where
    go : (r : Ordering) → slice_cmp nat_cmp e.sequence f.sequence ≡ r → (ss : List (List ℕ)) × (leaves (f ∷ rows) ≡ f.sequence ∷ ss) → (ss : List (List ℕ)) × (leaves (e ∷ f ∷ rows) ≡ e.sequence ∷ ss)
    go Less b l = (f.sequence ∷ l.0, ap (put (slice_cmp nat_cmp) e.sequence) l.1 ∙ ap (λ r. put_by r e.sequence f.sequence l.0 (put (slice_cmp nat_cmp) e.sequence l.0)) b)
    go Equal b l = (
      l.0,
      ap (put (slice_cmp nat_cmp) e.sequence) l.1 ∙ ap (λ r. put_by r e.sequence f.sequence l.0 (put (slice_cmp nat_cmp) e.sequence l.0)) b
          ∙ ap (λ s. s ∷ l.0) (sym (exact_bytes e.sequence f.sequence b)),
    )
    go Greater b l = absurd (
        let less : slice_cmp nat_cmp f.sequence e.sequence ≡ Less = nat_list_cmp_total.antisymm f.sequence e.sequence ∙ ap ordering_reverse b in
        let clash : true ≡ false = sym (ap is_lt less) ∙ a.0 in cc)

-- ---- one row before rows that come after it

module _ (d : Definition) (rows : List Definition) (above : Above d.sequence rows) where
  prefix_leaves : leaves (d ∷ rows) ≡ d.sequence ∷ leaves rows
  prefix_leaves = put_prefix d.sequence (leaves rows) (above_leaves d.sequence rows above)

  no_text : (es : List Definition) → Above d.sequence es → text_at es d.sequence ≡ None
  no_text [] a = refl
  no_text (e ∷ es) a = elim (cases_Bool (same d.sequence e.sequence)) [
    | inl h ↦ absurd (let b : Before d.sequence d.sequence = ap (slice_cmp nat_cmp d.sequence) (same_is d.sequence e.sequence h) ∙ a.0 in not_both d.sequence d.sequence b b)
    | inr h ↦ ap (λ o. option_or o (cond (same d.sequence e.sequence) (Some e.text) None)) (no_text es a.1) ∙ ap (λ b. let o : Option (List ℕ) = cond b (Some e.text) None in o) h
  ]

  own_row : row (d ∷ rows) d.sequence ≡ d
  own_row =
      ap (λ o. let r : Definition = record { sequence = d.sequence; text = unwrap_or (option_or o (cond (same d.sequence d.sequence) (Some d.text) None)) [] } in r) (no_text rows above)
      ∙ ap (λ b. let r : Definition = record { sequence = d.sequence; text = unwrap_or (cond b (Some d.text) None) [] } in r) (same_from d.sequence d.sequence refl)

  other_row : (s : List ℕ) → Before d.sequence s → row (d ∷ rows) s ≡ row rows s
  other_row s b =
      ap (λ c. let r : Definition = record { sequence = s; text = unwrap_or (option_or (text_at rows s) (cond c (Some d.text) None)) [] } in r) (not_same d.sequence s b)
      ∙ ap (λ o. let r : Definition = record { sequence = s; text = unwrap_or o [] } in r) (sym (or_none (text_at rows s)))

  prefix_in_order : in_order (d ∷ rows) ≡ d ∷ in_order rows
  prefix_in_order =
      ap (map (row (d ∷ rows))) prefix_leaves
      ∙ (λ i. own_row i ∷ map_where (λ s. Before d.sequence s) (row (d ∷ rows)) (row rows) (leaves rows) other_row (above_leaves d.sequence rows above) i)

  later_extended : (s : List ℕ) → Before d.sequence s → is_extended (d ∷ rows) s ≡ is_extended rows s
  later_extended s b = ap (λ c. c || is_extended rows s) (later_no_prefix d.sequence s b)

  own_extended : is_extended (d ∷ rows) d.sequence ≡ is_extended rows d.sequence
  own_extended = ap (λ c. c || is_extended rows d.sequence) (not_own_prefix d.sequence)

  prefix_extension : (o : Option (List ℕ)) → ((s : List ℕ) → o ≡ Some s → Before d.sequence s) → with_extension (d ∷ rows) o ≡ with_extension rows o
  prefix_extension None f = refl
  prefix_extension (Some s) f =
      ap (λ ls. let o : Overlap = record { short = s; long = unwrap_or (find (is_proper_prefix s) ls) [] } in Some o) prefix_leaves
      ∙ ap (λ b. let o : Overlap = record { short = s; long = unwrap_or (cond b (Some d.sequence) (find (is_proper_prefix s) (leaves rows))) [] } in Some o) (later_no_prefix d.sequence s (f s refl))

  found_behind : find (is_extended (d ∷ rows)) (leaves (d ∷ rows)) ≡ cond (is_extended rows d.sequence) (Some d.sequence) (find (is_extended rows) (leaves rows))
  found_behind =
      ap (find (is_extended (d ∷ rows))) prefix_leaves
      ∙ (λ i. cond (own_extended i) (Some d.sequence)
      (find_where (λ s. Before d.sequence s) (is_extended (d ∷ rows)) (is_extended rows) (leaves rows) later_extended (above_leaves d.sequence rows above) i))

-- ---- what happens to the first row

put_in : (d : Definition) (rows : List Definition) (o : Option Overlap) → or_overlap o (d ∷ rows) ≡ put_if d (Ok true) (or_overlap o rows)
put_in d rows None = refl
put_in d rows (Some o) = refl

module _ (d : Definition) (rows : List Definition) (above : Above d.sequence rows) where
  others_longest : filter (λ (e : Definition). not (is_extended (d ∷ rows) e.sequence)) rows ≡ longest rows
  others_longest =
      filter_where (λ (e : Definition). Before d.sequence e.sequence) (λ e. not (is_extended (d ∷ rows) e.sequence)) (λ e. not (is_extended rows e.sequence)) rows
      (λ e b. ap not (later_extended d rows above e.sequence b)) above

  above_longest : Above d.sequence (longest rows)
  above_longest = all_kept (λ (e : Definition). Before d.sequence e.sequence) (λ e. not (is_extended rows e.sequence)) rows above

  longest_prefix : longest (d ∷ rows) ≡ cond (not (is_extended rows d.sequence)) (d ∷ longest rows) (longest rows)
  longest_prefix = λ i. cond (not (own_extended d rows above i)) (d ∷ others_longest i) (others_longest i)

  overlap_after : is_extended rows d.sequence ≡ false → overlap (d ∷ rows) ≡ overlap rows
  overlap_after h =
      ap (with_extension (d ∷ rows)) (found_behind d rows above ∙ ap (λ b. cond b (Some d.sequence) (find (is_extended rows) (leaves rows))) h)
      ∙ prefix_extension d rows above (find (is_extended rows) (leaves rows)) (λ s e. found_has (λ s. Before d.sequence s) (is_extended rows) (leaves rows) s e (above_leaves d.sequence rows above))

  -- a row that no other extends is kept, and the others are settled as if it were not there
  prefix_stays : (rule : Rule) → is_extended rows d.sequence ≡ false → settled rule (d ∷ rows) ≡ put_if d (Ok true) (settled rule rows)
  prefix_stays Refuse h = (λ i. or_overlap (overlap_after h i) (prefix_in_order d rows above i)) ∙ put_in d (in_order rows) (overlap rows)
  prefix_stays Longest h =
      let kept : longest (d ∷ rows) ≡ d ∷ longest rows = longest_prefix ∙ ap (λ b. cond (not b) (d ∷ longest rows) (longest rows)) h in
      ap Ok (ap in_order kept ∙ prefix_in_order d (longest rows) above_longest)

  -- if it is extended, `Longest` leaves it out
  prefix_overridden : is_extended rows d.sequence ≡ true → settled Longest (d ∷ rows) ≡ settled Longest rows
  prefix_overridden h = ap (λ t. let r : Result (List Definition) Overlap = Ok (in_order t) in r) (longest_prefix ∙ ap (λ b. cond (not b) (d ∷ longest rows) (longest rows)) h)

  -- and `Refuse` reports it with the least of its extensions
  prefix_refused : (e : List ℕ) (ss : List (List ℕ)) → leaves rows ≡ e ∷ ss → is_proper_prefix d.sequence e ≡ true → is_extended rows d.sequence ≡ true
      → settled Refuse (d ∷ rows) ≡ Err (record { short = d.sequence; long = e })
  prefix_refused e ss first is_prefix h =
      ap (λ o. or_overlap (with_extension (d ∷ rows) o) (in_order (d ∷ rows))) (found_behind d rows above ∙ ap (λ b. cond b (Some d.sequence) (find (is_extended rows) (leaves rows))) h)
      ∙ ap (λ l. let o : Overlap = record { short = d.sequence; long = unwrap_or l [] } in or_overlap (Some o) (in_order (d ∷ rows))) (
      ap (find (is_proper_prefix d.sequence)) (prefix_leaves d rows above ∙ ap (λ ls. d.sequence ∷ ls) first)
      ∙ ap (λ b. cond b (Some d.sequence) (cond (is_proper_prefix d.sequence e) (Some e) (find (is_proper_prefix d.sequence) ss))) (not_own_prefix d.sequence)
      ∙ ap (λ b. cond b (Some e) (find (is_proper_prefix d.sequence) ss)) is_prefix)

-- ---- all rows

abbrev NotBefore : List ℕ → List Definition → Type 0
NotBefore s rows = AllByRecursion (λ (e : Definition). is_lt (slice_cmp nat_cmp e.sequence s) ≡ false) rows

later_rows : (e : Definition) (rows : List Definition) → Ascends (e ∷ rows) → NotBefore e.sequence rows
later_rows e [] a = tt
later_rows e (f ∷ rows) a = (a.0, through rows (later_rows f rows a.1))
  where
    not_earlier : (x : List ℕ) → is_lt (slice_cmp nat_cmp x f.sequence) ≡ false → (r : Ordering) → slice_cmp nat_cmp x e.sequence ≡ r → is_lt r ≡ false
    not_earlier x l Less b = absurd (let clash : true ≡ false = sym (ap is_lt (before_later x e.sequence f.sequence b a.0)) ∙ l in cc)
    not_earlier x l Equal b = refl
    not_earlier x l Greater b = refl

    through : (xs : List Definition) → NotBefore f.sequence xs → NotBefore e.sequence xs
    through [] l = tt
    through (x ∷ xs) l = (not_earlier x.sequence l.0 (slice_cmp nat_cmp x.sequence e.sequence) refl, through xs l.1)

none_extends : (s : List ℕ) (e : List ℕ) (rows : List Definition) → Before s e → is_proper_prefix s e ≡ false → NotBefore e rows → is_extended rows s ≡ false
none_extends s e [] b h l = refl
none_extends s e (x ∷ rows) b h l = elim (cases_Bool (is_proper_prefix s x.sequence)) [
  | inl p ↦ absurd (let clash : true ≡ false = sym (prefix_of_between s e x.sequence p b l.0) ∙ h in cc)
  | inr p ↦ ap (λ c. c || is_extended rows s) p ∙ none_extends s e rows b h l.1
]

-- among the rows after a sequence, the first one decides whether the sequence is extended
extended_by_first : (s : List ℕ) (e : Definition) (rows : List Definition) → Before s e.sequence → Ascends (e ∷ rows) → is_extended (e ∷ rows) s ≡ is_proper_prefix s e.sequence
extended_by_first s e rows b a = elim (cases_Bool (is_proper_prefix s e.sequence)) [
  | inl h ↦ or_left (is_proper_prefix s e.sequence) (is_extended rows s) h ∙ sym h
  | inr h ↦ ap (λ c. c || is_extended rows s) h ∙ none_extends s e.sequence rows b h (later_rows e rows a) ∙ sym h
]

-- a row with the sequence of the next one has no effect
repeated : (d e : Definition) (rows : List Definition) → same d.sequence e.sequence ≡ true → IsSameTable (d ∷ e ∷ rows) (e ∷ rows)
repeated d e rows h v = elim (cases_Bool (same v d.sequence)) [
  | inl s ↦ over (text_at (e ∷ rows) v) (sequence_text (e ∷ rows) v ∙ or_left (same v e.sequence) (is_sequence rows v) (ap (same v) (sym (same_is d.sequence e.sequence h)) ∙ s))
  | inr s ↦ ap (λ b. option_or (text_at (e ∷ rows) v) (cond b (Some d.text) None)) s ∙ sym (or_none (text_at (e ∷ rows) v))
]
  where
    over : (o : Option (List ℕ)) → is_some o ≡ true → option_or o (cond (same v d.sequence) (Some d.text) None) ≡ o
    over None s = cc
    over (Some t) s = refl

-- in rising rows, one that is not the same as the next comes before it
apart : (d e : List ℕ) → comes_before e d ≡ false → same d e ≡ false → Before d e
apart d e l s = go (slice_cmp nat_cmp d e) refl
  where
    go : (r : Ordering) → slice_cmp nat_cmp d e ≡ r → Before d e
    go Less b = b
    go Equal b = absurd (let clash : true ≡ false = sym (same_from d e (exact_bytes d e b)) ∙ s in cc)
    go Greater b = absurd (
        let less : slice_cmp nat_cmp e d ≡ Less = nat_list_cmp_total.antisymm e d ∙ ap ordering_reverse b in
        let clash : true ≡ false = sym (ap is_lt less) ∙ l in cc)

module _ (d e : Definition) (rows : List Definition) (a : Ascends (d ∷ e ∷ rows)) (s : same d.sequence e.sequence ≡ false) where
  next_later : Before d.sequence e.sequence
  next_later = apart d.sequence e.sequence a.0 s

  after_first : Above d.sequence (e ∷ rows)
  after_first = above_rows d.sequence e rows next_later a.1

  extended_as : (b : Bool) → is_proper_prefix d.sequence e.sequence ≡ b → is_extended (e ∷ rows) d.sequence ≡ b
  extended_as b p = extended_by_first d.sequence e rows next_later a.1 ∙ p

  is_prefix : (rule : Rule) → is_proper_prefix d.sequence e.sequence ≡ true → put_if d (prefix_of_next rule d e) (settled rule (e ∷ rows)) ≡ settled rule (d ∷ e ∷ rows)
  is_prefix Refuse p = let first = first_leaf e rows a.1 in sym (prefix_refused d (e ∷ rows) after_first e.sequence first.0 first.1 p (extended_as true p))
  is_prefix Longest p = sym (prefix_overridden d (e ∷ rows) after_first (extended_as true p))

  unlike : (rule : Rule) → put_if d (cond (is_proper_prefix d.sequence e.sequence) (prefix_of_next rule d e) (Ok true)) (settled rule (e ∷ rows)) ≡ settled rule (d ∷ e ∷ rows)
  unlike rule = elim (cases_Bool (is_proper_prefix d.sequence e.sequence)) [
    | inl p ↦ ap (λ b. put_if d (cond b (prefix_of_next rule d e) (Ok true)) (settled rule (e ∷ rows))) p ∙ is_prefix rule p
    | inr p ↦ ap (λ b. put_if d (cond b (prefix_of_next rule d e) (Ok true)) (settled rule (e ∷ rows))) p ∙ sym (prefix_stays d (e ∷ rows) after_first rule (extended_as false p))
  ]

settled_in_turn : (rule : Rule) (rows : List Definition) → Ascends rows → settled_neighbours rule rows ≡ settled rule rows
settled_in_turn Refuse [] a = refl
settled_in_turn Longest [] a = refl
settled_in_turn Refuse (d ∷ []) a = sym (prefix_stays d [] tt Refuse refl)
settled_in_turn Longest (d ∷ []) a = sym (prefix_stays d [] tt Longest refl)
settled_in_turn rule (d ∷ e ∷ rows) a =
    ap (put_if d (stays_before rule d e)) (settled_in_turn rule (e ∷ rows) a.1)
    ∙ elim (cases_Bool (same d.sequence e.sequence)) [
      | inl s ↦ ap (λ b. put_if d (cond b (Ok false) (cond (is_proper_prefix d.sequence e.sequence) (prefix_of_next rule d e) (Ok true))) (settled rule (e ∷ rows))) s
          ∙ sym (same_settled rule (d ∷ e ∷ rows) (e ∷ rows) (repeated d e rows s))
      | inr s ↦ ap (λ b. put_if d (cond b (Ok false) (cond (is_proper_prefix d.sequence e.sequence) (prefix_of_next rule d e) (Ok true))) (settled rule (e ∷ rows))) s ∙ unlike d e rows a s rule
    ]

-- sorted rows settle to the same rows as the definitions that were sorted
pub sorted_settled : (rule : Rule) (table rows : List Definition) → SequencesAscend rows → IsSameTable rows table → settled_neighbours rule rows ≡ settled rule table
sorted_settled rule table rows ascend texts = settled_in_turn rule rows (ascends_from rows ascend) ∙ same_settled rule rows table texts
