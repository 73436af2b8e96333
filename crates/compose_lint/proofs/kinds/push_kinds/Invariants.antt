use Rattle.std.proofs.Common.{◌≡◌, ◌++◌, map, take}
use Rattle.compose_lint.proofs.kinds.push_kinds.Given as goal

-- the findings of the kinds so far are added
abbrev pub invariant-loop-kind : goal.invariant-loop-kind
invariant-loop-kind l = l.findings.items ≡ l.fn.findings.items ++ map (λ k. record { source = l.source; line = l.line; kind = k }) (take l.kind-index l.kinds)
