use Rattle.std.proofs.Common.{◌≡◌, flat_map, map, take}
use Rattle.compose_arguments.specs.Written.{some_keys}
use Rattle.compose_arguments.proofs.name_lists.written_keys.Given as goal

-- the keys of the arguments so far
abbrev pub invariant-loop-argument : goal.invariant-loop-argument
invariant-loop-argument l = map (λ key. key.now) l.keys.items ≡ flat_map some_keys (map (λ argument. argument.now) (take l.argument-index l.arguments))
