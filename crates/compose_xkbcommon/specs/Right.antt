-- What the parts of every line are.
use Rattle.std.specs.Prelude.{◌≡◌, ◌<◌, ◌≤◌, ◌||◌, true, length, is_some}
use Rattle.std.specs.List.{list_all}
use Rattle.std.specs.Option.{option_map_or}
use Rattle.compose_lex.specs.Line.{is_name}
use Rattle.compose_xkbcommon.specs.Grammar.{Parts}

-- 1 to 10 keys, each by a name, and a result: a string, a name, or both
pub record AreParts (p : Parts) : Type 0 where
  pub some : 0 < length p.keys
  pub few : length p.keys ≤ 10
  pub names : list_all is_name p.keys ≡ true
  pub named : option_map_or is_name p.name true ≡ true
  pub result : (is_some p.string || is_some p.name) ≡ true
