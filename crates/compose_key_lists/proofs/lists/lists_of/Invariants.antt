use Rattle.std.proofs.Common.{◌≡◌, flat_map, length, map, take}
use Rattle.compose_keys.specs.Keys.{keys_in}
use Rattle.compose_key_lists.proofs.lists.lists_of.Given as goal

-- the keys of the lines so far
abbrev pub invariant-loop-line : goal.invariant-loop-line
invariant-loop-line l =
    let so_far = map (λ line. line.now) (take l.line-index l.lines) in
    (map (λ key. key.now) l.keys.items ≡ flat_map keys_in so_far) × (l.counts.items ≡ map (λ line. length (keys_in line)) so_far)
