-- Why a walk ends. Definitions for private functions.
use Rattle.std.specs.Prelude.{◌≡◌, Option, Some}
use Rattle.compose_readers.specs.declared.walking.Refusal.{Refusal}
use Rattle.compose_readers.specs.declared.walking.Stop.{Stop}
use Rattle.compose_readers.specs.declared.walking.Stop.TheVariants.{Refused, NoMemory}

-- it is for this refusal, or memory ran out
abbrev pub IsStopFor : Option Refusal → Stop → Type 0
IsStopFor wanted (Refused refusal) = wanted ≡ Some refusal
IsStopFor wanted NoMemory = Unit {0}
