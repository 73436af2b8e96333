use Rattle.std.proofs.Common.{◌≡◌, ◌++◌, map, take, string_bytes}
use Rattle.compose_listing.specs.Line.{keys_text}
use Rattle.compose_listing.proofs.line.push_keys.Given as goal

abbrev pub invariant-loop-key : goal.invariant-loop-key
invariant-loop-key l = string_bytes l.lines ≡ string_bytes l.initial.lines ++ keys_text (map (λ key. key.now) (take l.key-index l.keys))
