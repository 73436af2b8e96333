use Rattle.std.proofs.Common.{◌≡◌, List, ℕ, map, sym, ◌∙◌, ap}
use Rattle.std.specs.List.{list_any}
use Rattle.std.proofs.lemmas.List.Sorted.{list_any-IsPermutation}
use Rattle.compose_model.specs.Table.{same}
use Rattle.compose_model.proofs.Tests.{list_any-map}
use Rattle.compose_merge.proofs.listed.in_order.Goals as goal

pub returns-clause-same : goal.returns-clause-same
returns-clause-same c = λ s.
    list_any-map (same s) (λ t. t.now) c.sort.new.self.items
    ∙ sym (list_any-IsPermutation (λ t. same s t.now) c.in_ok-listed.listed.items c.sort.new.self.items c.sort.ensures.permutation)
    ∙ sym (list_any-map (same s) (λ t. t.now) c.in_ok-listed.listed.items)
    ∙ ap (list_any (same s)) c.in_ok-listed.ensures
