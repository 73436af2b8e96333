use Rattle.std.proofs.Common.{◌≡◌, ◌++◌, map, take}
use Rattle.compose_keys.specs.Keys.{key_of}
use Rattle.compose_keys.proofs.items.push_named.Given as goal

-- the keys of the parts so far
abbrev pub invariant-loop-part : goal.invariant-loop-part
invariant-loop-part l = map (λ key. key.now) l.keys.items ≡ map (λ key. key.now) l.fn.keys.items ++ map key_of (map (λ part. part.now) (take l.part-index l.parts))
