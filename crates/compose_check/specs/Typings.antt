-- A typing and the character of the repertoire at its index. Definitions for the contracts of
-- private functions.
use Rattle.std.specs.Prelude.{ℕ, nat_lt, if◌then◌else◌, List, Option, Some, None}
use Rattle.keysym_core.specs.Names.{KeysymNames}
use Rattle.compose_model.specs.Table.{Definition}
use Rattle.compose_model.specs.Certificate.{Repertoire, Typing}
use Rattle.compose_fresh.specs.declared.fault.CheckFault.{CheckFault}
use Rattle.compose_fresh.specs.declared.fault.CheckFault.TheVariants.{TypingMissing, TypingWrong, TypingUnasked}
use Rattle.compose_check.specs.Conditions.{is_right}

-- the fault of the typing t if the repertoire has the character c there
abbrev pub typing_fault : KeysymNames → List Definition → Repertoire → ℕ → Typing → Option CheckFault
typing_fault names new repertoire c t =
    if nat_lt t.character c then Some (TypingUnasked t.character) else
    if nat_lt c t.character then Some (TypingMissing c) else
    if is_right names new repertoire t then None else Some (TypingWrong c)
