use Rattle.std.proofs.Common.{◌≡◌, ◌∙◌, ◌<◌, ◌+◌, ◌++◌, ◌∷◌, ℕ, List, [], length, map, take, get_or, sym, ap, arith}
use Rattle.std.specs.Prelude.{Some, option_map, slice_get}
use Rattle.std.proofs.lemmas.List.{take_more, map-append}
use Rattle.std.proofs.lemmas.Option.{slice_get-get_or, same_Some}
use Rattle.compose_model.specs.Table.{Definition}
use Rattle.compose_places.proofs.sequence_list.sequences_of.Goals as goal

-- with the sequence at an index, which is the next one
module _ (definitions : List Definition) (index : ℕ) (sequence : List ℕ) (within : index < length definitions)
    (at : option_map (λ (d : Definition). d.sequence) (slice_get definitions index) ≡ Some sequence) where
  none : Definition
  none = record { sequence = []; text = [] }

  read : (get_or definitions index none).sequence ≡ sequence
  read = same_Some (get_or definitions index none).sequence sequence (ap (option_map (λ (d : Definition). d.sequence)) (sym (slice_get-get_or definitions index none within)) ∙ at)

  one_more : map (λ (d : Definition). d.sequence) (take index definitions) ++ sequence ∷ [] ≡ map (λ (d : Definition). d.sequence) (take (index + 1) definitions)
  one_more =
      sym (ap (map (λ (d : Definition). d.sequence)) (take_more definitions index none within)
      ∙ map-append (λ (d : Definition). d.sequence) (take index definitions) (get_or definitions index none ∷ [])
      ∙ ap (λ s. map (λ (d : Definition). d.sequence) (take index definitions) ++ s ∷ []) read)

pub loop-index-preserved : goal.loop-index-preserved
loop-index-preserved c =
    c.in_ok-push.ensures ∙ ap (λ xs. xs ++ c.sequence.result.now ∷ []) c.loop-index.invariant
    ∙ one_more c.args.definitions.now c.loop-index.index c.sequence.result.now (omega (arith, c.loop-index-test.true, c.len-index-end.ensures.count)) c.sequence.ensures
