use Rattle.std.proofs.Common.{◌≡◌, ◌++◌, flat_map, map, take}
use Rattle.compose_keys.specs.Keys.{item_keys}
use Rattle.compose_keys.proofs.items.push_items.Given as goal

-- the keys of the items so far
abbrev pub invariant-loop-item : goal.invariant-loop-item
invariant-loop-item l = map (λ key. key.now) l.keys.items ≡ map (λ key. key.now) l.fn.keys.items ++ flat_map item_keys (map (λ item. item.now) (take l.item-index l.items))
