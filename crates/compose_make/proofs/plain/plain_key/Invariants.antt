use Rattle.std.proofs.Common.{◌≡◌, ◌<◌, ◌-◌, ℕ, false}
use Rattle.keysym_core.specs.Next.{from_above}
use Rattle.compose_make.specs.Candidates.{is_plain_key}
use Rattle.compose_make.proofs.plain.plain_key.Given as goal

abbrev pub invariant-loop-keysym : goal.invariant-loop-keysym
invariant-loop-keysym g l = (k : ℕ) → k < from_above l.after → is_plain_key l.names (g.U.ComposeTable.definitions l.new) l.repertoire l.character k ≡ false

abbrev pub decreases-loop-keysym : goal.decreases-loop-keysym
decreases-loop-keysym g l = 0x20000000 - from_above l.after
