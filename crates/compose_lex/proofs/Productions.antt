-- The conditions of a valid production, one by one.
use Rattle.std.proofs.Common.{◌≡◌, ℕ, ◌<◌, ◌≤◌, List, length, true, ◌&&◌, ◌||◌, lt-ltb}
use Rattle.std.specs.Prelude.{Option, is_some, nat_lt, nat_le}
use Rattle.std.specs.Option.{option_map_or}
use Rattle.std.specs.List.{list_all}
use Rattle.std.proofs.lemmas.Bool.{and_parts, and_from, ltb-true, leb-true, le-leb}
use Rattle.compose_lex.specs.Line.{production, is_name, is_inside, is_reading}

-- the parts of a valid production: 1 to 32 events by name, and a closed string, a name, or both
pub record RightProduction (events : List (List ℕ)) (raw name : Option (List ℕ)) : Type 0 where
  pub some : 0 < length events
  pub few : length events ≤ 32
  pub names : list_all is_name events ≡ true
  pub closed : option_map_or is_inside raw true ≡ true
  pub named : option_map_or is_name name true ≡ true
  pub result : is_some raw || is_some name ≡ true

-- a production that is a valid reading has valid parts
pub right_parts : (events : List (List ℕ)) (raw name : Option (List ℕ)) → is_reading (production events raw name) ≡ true → RightProduction events raw name
right_parts events raw name h =
    let long = nat_lt 0 (length events) && nat_le (length events) 32 in
    let names = long && list_all is_name events in
    let closed = names && option_map_or is_inside raw true in
    let f = and_parts (closed && option_map_or is_name name true) (is_some raw || is_some name) h in
    let d = and_parts closed (option_map_or is_name name true) f.0 in
    let g = and_parts names (option_map_or is_inside raw true) d.0 in
    let c = and_parts long (list_all is_name events) g.0 in
    let b = and_parts (nat_lt 0 (length events)) (nat_le (length events) 32) c.0 in
    record { some = ltb-true 0 (length events) b.0; few = leb-true (length events) 32 b.1; names = c.1; closed = g.1; named = d.1; result = f.1 }

-- a production with valid parts is a valid reading
pub right_from : (events : List (List ℕ)) (raw name : Option (List ℕ)) → RightProduction events raw name → is_reading (production events raw name) ≡ true
right_from events raw name r =
    let long : nat_lt 0 (length events) && nat_le (length events) 32 ≡ true =
    and_from (nat_lt 0 (length events)) (nat_le (length events) 32) (lt-ltb 0 (length events) r.some) (le-leb (length events) 32 r.few) in
    let x = nat_lt 0 (length events) && nat_le (length events) 32 in
    let y = x && list_all is_name events in
    let z = y && option_map_or is_inside raw true in
    and_from (z && option_map_or is_name name true) (is_some raw || is_some name)
    (and_from z (option_map_or is_name name true) (and_from y (option_map_or is_inside raw true) (and_from x (list_all is_name events) long r.names) r.closed) r.named) r.result
