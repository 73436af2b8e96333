use Rattle.std.proofs.Common.{◌≡◌, ◌++◌, take, string_bytes}
use Rattle.std.specs.Prelude.{flat_map}
use Rattle.compose_listed_as.specs.Line.{key_text}
use Rattle.compose_listed_as.proofs.line.push_keys.Given as goal

-- the keys so far
abbrev pub invariant-loop-keysym : goal.invariant-loop-keysym
invariant-loop-keysym l = string_bytes l.lines ≡ string_bytes l.initial.lines ++ flat_map (key_text l.names) (take l.keysym-index l.keys)
