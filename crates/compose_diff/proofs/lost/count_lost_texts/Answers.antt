use Rattle.std.proofs.Common.{◌≡◌, ◌∙◌, length, map, sym, ap}
use Rattle.std.proofs.lemmas.List.{length-map}
use Rattle.std.proofs.lemmas.List.Filters.{dedup_is}
use Rattle.compose_model.specs.Nodes.{rising_lists}
use Rattle.compose_diff.proofs.Distinct.{distinct_texts}
use Rattle.compose_diff.proofs.lost.count_lost_texts.Goals as goal

pub returns : goal.returns
returns c =
    let texts = c.in_ok-texts.texts.items in
    ap (λ xs. length xs) (c.as_slice.ensures.value ∙ dedup_is _ _ _ c.dedup.ensures.filtered) ∙ sym (length-map _ (λ t. t.now))
    ∙ ap (λ xs. length xs) (distinct_texts (λ t. t.now) texts c.sort.new.self.items c.sort.ensures.permutation c.in_ok-sort.ensures.sorted)
    ∙ ap (λ ts. length (rising_lists ts)) c.in_ok-texts.ensures
