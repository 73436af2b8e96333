use Rattle.std.proofs.Common.{◌≡◌, ◌++◌, take, string_bytes}
use Rattle.compose_walk.specs.Explained.{keys_line}
use Rattle.compose_walk.proofs.evidence_text.push_keys.Given as goal

abbrev pub invariant-loop-key : goal.invariant-loop-key
invariant-loop-key l = string_bytes l.text ≡ string_bytes l.fn.text ++ keys_line l.names (take l.key-index l.key-items)
