-- What is kept of the sources that were read. Definitions for private functions.
use Rattle.std.specs.Prelude.{◌≡◌, ◌≤◌, ◌<◌, ◌+◌, ℕ, Bool, List, [], ◌∷◌, length, take, drop, flat_map, get_or, Option, Some, None, Result, Ok, Err, is_ok, IfSome, IsTrue}
use Rattle.std.specs.List.{list_all}
use Rattle.keysym_core.specs.Names.{KeysymNames}
use Rattle.compose_model.specs.Table.{Definition}
use Rattle.compose_read.specs.Lines.{Source, Visit, visits_below}
use Rattle.compose_read.specs.Read.{line_result}
use Rattle.compose_read.specs.declared.ReadFault.{ReadFault}
use Rattle.compose_read.specs.declared.kept.KeptSource.{KeptSource}

-- ---- lines, whatever the limits

abbrev pub definitions_in : Result (Option Definition) ReadFault → List Definition
definitions_in (Ok (Some d)) = d ∷ []
definitions_in (Ok None) = []
definitions_in (Err e) = []

-- the definitions on the lines
abbrev pub given : KeysymNames → List Source → List Visit → List Definition
given names sources vs = flat_map (λ v. definitions_in (line_result names sources v)) vs

-- no line has a fault of its own
abbrev pub are_faultless : KeysymNames → List Source → List Visit → Bool
are_faultless names sources vs = list_all (λ v. is_ok (line_result names sources v)) vs

-- ---- sources

-- what is kept of a source: neither its lines nor those below it had a fault; and the number of
-- these lines, and the position of their definitions in the table
pub record IsKept (names : KeysymNames) (sources : List Source) (table : List Definition) (source : ℕ) (k : KeptSource) : Type 0 where
  pub faultless : IsTrue (are_faultless names sources (visits_below sources k.left source))
  pub lines : k.lines ≡ length (visits_below sources k.left source)
  pub within : k.first + k.count ≤ length table
  pub definitions : take k.count (drop k.first table) ≡ given names sources (visits_below sources k.left source)

-- at each index there is nothing, or what is kept of the source with this index
abbrev pub AreKept : KeysymNames → List Source → List Definition → List (Option KeptSource) → Type 0
AreKept names sources table kept = (source : ℕ) (d : Option KeptSource) → source < length kept → IfSome (get_or kept source d) (IsKept names sources table source)
