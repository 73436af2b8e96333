use Rattle.std.proofs.Common.{map, ◌≡◌, ◌++◌, drop, length}
use Rattle.std.specs.Prelude.{Some}
use Rattle.keysym_core.specs.Names.{value}
use Rattle.compose_migration.proofs.keys.look_up_keys.Given as goal

-- the keys so far and the values of the remaining key names are the values of all key names
abbrev pub invariant-loop-index : goal.invariant-loop-index
invariant-loop-index l = record {
  count : length l.keys.items ≡ l.index;
  values : map (λ k. Some k) l.keys.items ++ map (value l.names) (drop l.index (map (λ key_name. key_name.now) l.key_names)) ≡ map (value l.names) (map (λ key_name. key_name.now) l.key_names);
}
