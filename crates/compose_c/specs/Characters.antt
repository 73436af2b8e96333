-- The characters of keysyms, by the names of a header (xkb_keysym_to_utf32): a key that is part of
-- no sequence commits its character.
use Rattle.std.specs.Prelude.{◌≡◌, ℕ, if◌then◌else◌, List, map, Ok, Err, unwrap_or}
use Rattle.keysym_core.specs.Keysym.{is_keysym}
use Rattle.keysym_core.specs.Names.{KeysymNames, character_of}
use Rattle.keysym_core.specs.Header.{names_of, NamesReturns}
use Rattle.keysym_core.specs.declared.fault.NameFault.{NameFault}
use Rattle.compose_c.specs.Faults.{of_names}
use Rattle.compose_c.specs.declared.fault.FaultRecord.{FaultRecord}

-- the character of the keysym k; 0 if it has none, or if k is not a keysym
abbrev pub character_number : KeysymNames → ℕ → ℕ
character_number names k = if is_keysym k then unwrap_or (character_of names k) 0 else 0

-- by the names of the header, these are the characters of these keysyms
pub record AreCharacters (header keysyms characters : List ℕ) : Type 0 where
  pub names : KeysymNames
  pub named : names_of header ≡ Ok names
  pub are : characters ≡ map (character_number names) keysyms

-- this fault reports to C why the header is refused
pub record ReportsNames (header : List ℕ) (reason : FaultRecord) : Type 0 where
  pub fault : NameFault
  pub refused : NamesReturns (Err fault) (names_of header)
  pub is : reason ≡ of_names fault
