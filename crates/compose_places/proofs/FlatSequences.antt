-- Sequences in one array stay what they are when more keysyms are appended, and the appended
-- keysyms are one more sequence.
use Rattle.std.proofs.Common.{◌≡◌, ℕ, ◌+◌, ◌≤◌, List, [], ◌∷◌, ◌++◌, length, take, drop, refl, ◌∙◌, ap, ap₂, arith}
use Rattle.std.proofs.Math.Seq.{drop-append_seam, take-length}
use Rattle.std.proofs.lemmas.List.{map-append, length-append}
use Rattle.std.proofs.lemmas.List.Elements.{All-push}
use Rattle.compose_read.proofs.Pools.{piece_stays}
use Rattle.compose_read.proofs.Spans.{first_of, others_of}
use Rattle.compose_places.specs.SequenceList.{sequences_at, AreWithin}
use Rattle.compose_places.specs.declared.sequence_list.KeysymSpan.{KeysymSpan}

module _ (keysyms sequence : List ℕ) where
  abbrev all : List ℕ
  all = keysyms ++ sequence

  sequences_stay : (spans : List KeysymSpan) → AreWithin keysyms spans → sequences_at all spans ≡ sequences_at keysyms spans
  sequences_stay [] h = refl
  sequences_stay (p ∷ spans) h =
      let is_there = λ (q : KeysymSpan). q.first + q.count ≤ length keysyms in
      ap₂ (λ s ss. s ∷ ss) (piece_stays p.first p.count keysyms sequence (first_of is_there p spans h)) (sequences_stay spans (others_of is_there p spans h))

  pub stay_within : (spans : List KeysymSpan) → AreWithin keysyms spans → AreWithin all spans
  stay_within spans h = λ k d l. let n = length-append keysyms sequence in omega (arith, n, h k d l)

  -- the span of what is appended
  abbrev last : KeysymSpan
  last = record { first = length keysyms; count = length sequence }

  pub pushed_within : (spans : List KeysymSpan) → AreWithin keysyms spans → AreWithin all (spans ++ last ∷ [])
  pushed_within spans h =
      All-push (λ (q : KeysymSpan). q.first + q.count ≤ length all) spans last (stay_within spans h) (let n = length-append keysyms sequence in omega (arith, n))

  pub pushed : (spans : List KeysymSpan) → AreWithin keysyms spans → sequences_at all (spans ++ last ∷ []) ≡ sequences_at keysyms spans ++ sequence ∷ []
  pushed spans h =
      map-append (λ (q : KeysymSpan). take q.count (drop q.first all)) spans (last ∷ [])
      ∙ ap₂ (λ ss s. ss ++ s ∷ []) (sequences_stay spans h) (ap (take (length sequence)) (drop-append_seam keysyms sequence) ∙ take-length sequence)
