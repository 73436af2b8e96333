-- What is known of a table that is listed.
use Rattle.std.specs.Prelude.{◌≤◌, ℕ, Bool, ◌&&◌, nat_lt, List, length}
use Rattle.std.specs.List.{list_all}
use Rattle.std.specs.Str.{is_utf8}
use Rattle.compose_model.specs.Table.{Definition}
use Rattle.compose_model.specs.Nodes.{nodes}
use Rattle.compose_read.specs.Read.{max_definitions}
use Rattle.compose_read.specs.Settle.{IsSettled}
use Rattle.compose_tree.specs.Targets.{max_nodes}

-- what holds for every table that is built
pub record IsBuilt (table : List Definition) : Type 0 where
  pub settled : IsSettled table
  pub few : length table ≤ max_definitions
  pub few_nodes : length (nodes table) ≤ max_nodes

-- a text that the string of a Compose file can write: one or more bytes of UTF-8, none of them 0
abbrev pub is_writable : List ℕ → Bool
is_writable text = nat_lt 0 (length text) && is_utf8 text && list_all (λ b. nat_lt 0 b) text

abbrev pub are_writable : List Definition → Bool
are_writable table = list_all (λ d. is_writable d.text) table
