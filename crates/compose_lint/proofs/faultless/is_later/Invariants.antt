use Rattle.std.proofs.Common.{◌≡◌, ◌<◌, ℕ, false, [], get_or}
use Rattle.std.specs.Prelude.{bytes_eq}
use Rattle.compose_lint.proofs.faultless.is_later.Given as goal

-- no source so far has the name
abbrev pub invariant-loop-index : goal.invariant-loop-index
invariant-loop-index l = (k : ℕ) → k < l.index → bytes_eq l.name (get_or l.sources k (record { name = []; bytes = [] })).name ≡ false
