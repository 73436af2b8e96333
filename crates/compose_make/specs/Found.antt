-- The answers of the search for typings.
use Rattle.std.specs.Prelude.{List}
use Rattle.keysym_core.specs.Names.{KeysymNames}
use Rattle.compose_model.specs.Table.{Definition}
use Rattle.compose_model.specs.Certificate.{Repertoire}
use Rattle.compose_make.specs.Least.{AreLeastTypings, IsUnreachable}
use Rattle.compose_make.specs.declared.typings.Typings.{Typings}
use Rattle.compose_make.specs.declared.typings.Typings.TheVariants.{Found, Unreachable}

-- the least typing of each character of the repertoire; or the first character that has none
abbrev pub IsTypings : KeysymNames → List Definition → Repertoire → Typings → Type 0
IsTypings names table repertoire (Found typings) = AreLeastTypings names table repertoire typings
IsTypings names table repertoire (Unreachable c) = IsUnreachable names table repertoire c
