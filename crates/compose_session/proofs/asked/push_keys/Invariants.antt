use Rattle.std.proofs.Common.{◌≡◌, ◌++◌, map, take}
use Rattle.compose_wire.specs.declared.request.Body.TheVariants.{Key}
use Rattle.compose_session.specs.AskedSession.{asks}
use Rattle.compose_session.proofs.asked.push_keys.Given as goal

abbrev pub invariant-loop-key : goal.invariant-loop-key
invariant-loop-key l = l.requests.items ≡ l.fn.requests.items ++ map (asks l.session) (map (λ k. Key k) (take l.key-index l.keys))
