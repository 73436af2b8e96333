use Rattle.compose_service_runs.proofs.Underway.{IsUnderway}
use Rattle.compose_service_runs.proofs.client.replies_of.Given as goal

-- the turns of the requests so far
abbrev pub invariant-loop-request : goal.invariant-loop-request
invariant-loop-request g l = IsUnderway (g.P.Peer.turns l.fn.peer) (g.P.Peer.turns l.peer) l.requests l.request-index l.replies.items
