-- Spans in the order of their sequences, and passes over them.
use Rattle.std.proofs.Common.{◌≡◌, ℕ, suc, ◌+◌, ◌≤◌, List, [], ◌∷◌, ◌++◌, true, false, length, map, drop, sym, subst, ◌∙◌, ap, ap₂, arith}
use Rattle.std.specs.Prelude.{Ok}
use Rattle.std.specs.List.{All}
use Rattle.std.specs.List.Sorted.{IsSortedBy}
use Rattle.std.proofs.lemmas.List.{get_or-map, length-map, length-take, map-append}
use Rattle.std.proofs.lemmas.List.Elements.{All-push}
use Rattle.compose_model.specs.Table.{Definition, comes_before}
use Rattle.compose_model.specs.declared.Rule.{Rule}
use Rattle.compose_read.specs.SortKeys.{by_sequence}
use Rattle.compose_read.specs.Neighbours.{SequencesAscend, stays_before, settled_neighbours}
use Rattle.compose_read.specs.Rows.{sequence_at, definition_at, rows_of, IsPlaced, ArePlaced}
use Rattle.compose_read.proofs.Turns.{put_all, turn_kept, turn_left}
use Rattle.compose_read.specs.declared.rows.RowSpan.{RowSpan}

-- the rows of sorted spans do not descend
pub rows_ascend : (keysyms texts : List ℕ) (ps : List RowSpan) → IsSortedBy (by_sequence keysyms) ps → SequencesAscend (rows_of keysyms texts ps)
rows_ascend keysyms texts ps h = λ k d low l.
    let n = length-map ps (definition_at keysyms texts) in
    let none : RowSpan = record { first_keysym = 0; first_byte = 0; keysym_count = 0; byte_count = 0 } in
    ap₂ (λ (x y : Definition). comes_before x.sequence y.sequence)
    (get_or-map (definition_at keysyms texts) ps (k + 1) none d (omega arith))
    (get_or-map (definition_at keysyms texts) ps k none d (omega arith))
    ∙ h k none low (omega arith)

module _ {X : Type 0} (P : X → Type 0) (x : X) (xs : List X) (h : All P (x ∷ xs)) where
  -- what holds of all elements holds of the first one
  pub first_of : P x
  first_of = h 0 x (omega arith)

  -- what holds of all elements holds of those after the first
  pub others_of : All P xs
  others_of = λ k d l. h (suc k) d (omega arith)

-- ---- a pass over rows that keeps some and goes on with the others

-- a span has at most 32 keysyms
abbrev pub few : RowSpan → Type 0
few p = p.keysym_count ≤ 32

-- with these kept and these left, the result of the pass is that of all spans
abbrev pub PassesOn : List ℕ → Rule → List RowSpan → List RowSpan → List RowSpan → Type 0
PassesOn keysyms rule spans kept left =
    ((texts : List ℕ) → put_all (rows_of keysyms texts kept) (settled_neighbours rule (rows_of keysyms texts left)) ≡ settled_neighbours rule (rows_of keysyms texts spans))
    × All few left
    × ((texts : List ℕ) → ArePlaced keysyms texts spans → ArePlaced keysyms texts kept × ArePlaced keysyms texts left)

module _ (keysyms : List ℕ) (rule : Rule) (spans kept left : List RowSpan) (p q : RowSpan) (pass : PassesOn keysyms rule spans kept (p ∷ q ∷ left)) where
  -- a row that is kept is appended
  pub pass_kept : (pushed : List RowSpan) → pushed ≡ kept ++ p ∷ [] → ((texts : List ℕ) → stays_before rule (definition_at keysyms texts p) (definition_at keysyms texts q) ≡ Ok true)
      → PassesOn keysyms rule spans pushed (q ∷ left)
  pass_kept pushed e stays = (
    λ texts.
        let f = definition_at keysyms texts in
        ap (λ ks. put_all (map f ks) (settled_neighbours rule (map f (q ∷ left)))) e
        ∙ ap (λ ds. put_all ds (settled_neighbours rule (map f (q ∷ left)))) (map-append f kept (p ∷ []))
        ∙ sym (turn_kept rule (map f kept) (f p) (f q) (map f left) (stays texts)) ∙ pass.0 texts,
    others_of few p (q ∷ left) pass.1,
    λ texts h.
        let all = pass.2 texts h in (
          subst (ArePlaced keysyms texts) (sym e) (All-push (IsPlaced keysyms texts) kept p all.0 (first_of (IsPlaced keysyms texts) p (q ∷ left) all.1)),
          others_of (IsPlaced keysyms texts) p
              (q ∷ left) all.1,
        ),
  )

  -- another one is left out
  pub pass_left : ((texts : List ℕ) → stays_before rule (definition_at keysyms texts p) (definition_at keysyms texts q) ≡ Ok false) → PassesOn keysyms rule spans kept (q ∷ left)
  pass_left stays = (
    λ texts. let f = definition_at keysyms texts in sym (turn_left rule (map f kept) (f p) (f q) (map f left) (stays texts)) ∙ pass.0 texts,
    others_of few p (q ∷ left) pass.1,
    λ texts h. let all = pass.2 texts h in (all.0, others_of (IsPlaced keysyms texts) p (q ∷ left) all.1),
  )

  -- both have at most 32 keysyms
  pub both_few : (length (sequence_at keysyms p) ≤ 32) × (length (sequence_at keysyms q) ≤ 32)
  both_few = (sequence_few p (first_of few p (q ∷ left) pass.1), sequence_few q (first_of few q left (others_of few p (q ∷ left) pass.1)))
    where
      sequence_few : (r : RowSpan) → r.keysym_count ≤ 32 → length (sequence_at keysyms r) ≤ 32
      sequence_few r h = let n = length-take r.keysym_count (drop r.first_keysym keysyms) in omega arith
