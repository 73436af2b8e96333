use Rattle.std.proofs.Common.{sym, rules}
use Rattle.std.proofs.lemmas.List.Sorted.{list_any-IsPermutation, IsNonDecreasingBy-from_sort_by_key}
use Rattle.keysym_core.specs.GivenCharacters.{rank, is_pair}
use Rattle.keysym_core.proofs.character_index.sorted_by_character.Goals as goal

pub returns-clause-same : goal.returns-clause-same
returns-clause-same c = λ x k. sym (list_any-IsPermutation (is_pair x k) _ _ c.sort_unstable_by_key.ensures.permutation)

pub returns-clause-sorted : goal.returns-clause-sorted
returns-clause-sorted c = IsNonDecreasingBy-from_sort_by_key rank _ c.sort_unstable_by_key.ensures.sorted (λ a r q k. search rules)
