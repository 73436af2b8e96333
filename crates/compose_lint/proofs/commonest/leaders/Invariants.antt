use Rattle.std.proofs.Common.{ℕ, List, Bor, take}
use Rattle.std.specs.Prelude.{unwrap_or, bytes_eq, ◌&&◌}
use Rattle.indexmap.specs.IndexMap.{get_by}
use Rattle.compose_lint.specs.Commonest.{IsTallied}
use Rattle.compose_lint.proofs.commonest.leaders.Given as goal

-- the notes so far are counted
abbrev pub invariant-loop-index : goal.invariant-loop-index
invariant-loop-index l = (k : Bor (List ℕ)) → IsTallied (take l.index l.notes) k.now (get_by (λ p. bytes_eq k.now p.now) l.leaders) (λ v. unwrap_or (get_by (λ p. bytes_eq k.now p.0.now && bytes_eq v p.1.now) l.others) 0)
