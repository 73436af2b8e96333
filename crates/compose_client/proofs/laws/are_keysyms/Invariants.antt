use Rattle.std.proofs.Common.{ℕ, ◌<◌, ◌≤◌, get_or}
use Rattle.compose_client.proofs.laws.are_keysyms.Given as goal

abbrev pub invariant-loop-keysym : goal.invariant-loop-keysym
invariant-loop-keysym l = (k : ℕ) → k < l.keysym-index → get_or l.keysyms k 0 ≤ 0x1fffffff
