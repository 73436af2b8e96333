use Rattle.std.proofs.Common.{◌∙◌, length, sym, ap}
use Rattle.std.proofs.lemmas.List.{length-map}
use Rattle.std.proofs.lemmas.List.Filters.{dedup_is}
use Rattle.compose_places.proofs.Distinct.{distinct_texts}
use Rattle.compose_places.proofs.overlaps.count_distinct.Goals as goal

pub returns : goal.returns
returns c =
    ap (λ xs. length xs) (c.as_slice.ensures.value ∙ dedup_is _ _ _ c.dedup.ensures.filtered) ∙ sym (length-map _ (λ s. s.now))
    ∙ ap (λ xs. length xs) (distinct_texts (λ s. s.now) c.args.sequences.items c.sort.new.self.items c.sort.ensures.permutation c.in_ok-sort.ensures.sorted)
