use Rattle.std.proofs.Common.{◌≡◌, ◌++◌, drop, map, string_bytes}
use Rattle.compose_skip.specs.Libxkbcommon.{keys_text, strict_name}
use Rattle.compose_skip.proofs.Keys.{named}
use Rattle.compose_skip.proofs.written.push_keys.Given as goal

abbrev pub invariant-loop-key : goal.invariant-loop-key
invariant-loop-key l = string_bytes l.line ++ keys_text (map (strict_name l.names) (drop l.key-index (named l.keys))) ≡ string_bytes l.fn.line ++ keys_text (map (strict_name l.names) (named l.keys))
