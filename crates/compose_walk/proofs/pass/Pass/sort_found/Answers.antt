use Rattle.std.proofs.Common.{◌+◌, get_or, rules, sym, ◌∙◌}
use Rattle.std.proofs.lemmas.Fn.{always_returns_same}
use Rattle.compose_walk.specs.declared.pass.Found.{Found}
use Rattle.compose_walk.proofs.Order.{sooner_is}
use Rattle.compose_walk.proofs.pass.Pass.sort_found.Goals as goal

pub returns-clause-sorted : goal.returns-clause-sorted
returns-clause-sorted c = λ k d low high.
    sym (sooner_is (get_or c.sort_unstable_by_key.new.self.items (k + 1) d) (get_or c.sort_unstable_by_key.new.self.items k d))
    ∙ c.sort_unstable_by_key.ensures.sorted (λ (f : Found). (f.depth, f.node, f.keysym)) (always_returns_same _ _ _ (λ a r f k. search rules)) k d low high
