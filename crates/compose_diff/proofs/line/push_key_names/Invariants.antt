use Rattle.std.proofs.Common.{◌≡◌, ◌++◌, map, take, string_bytes}
use Rattle.compose_diff.specs.Line.{keys_part}
use Rattle.compose_diff.proofs.line.push_key_names.Given as goal

abbrev pub invariant-loop-key : goal.invariant-loop-key
invariant-loop-key l = string_bytes l.text ≡ string_bytes l.fn.text ++ keys_part (map (λ key. key.now) (take l.key-index l.keys))
