use Rattle.std.proofs.Common.{◌≡◌, ◌+◌, ◌≤◌, ◌||◌, drop}
use Rattle.compose_lint.specs.Lost.{has_sign_after, openings}
use Rattle.compose_lint.proofs.signs.has_sign_in_rest.Given as goal

-- what is found so far, and in the bytes that are left, is all
abbrev pub invariant-loop-second : goal.invariant-loop-second
invariant-loop-second l =
    ((l.found || has_sign_after l.first (drop l.second-index l.rest)) ≡ has_sign_after l.before l.rest)
    × (l.openings + openings (drop l.second-index l.rest) ≡ l.fn.openings + openings l.rest)
    × (l.openings ≤ l.fn.openings + l.second-index)
