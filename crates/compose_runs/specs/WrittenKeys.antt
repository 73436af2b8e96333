-- Keys as they are written on the command line for Compose files: by their names, or as their
-- characters (this project's profile).
use Rattle.std.specs.Prelude.{◌≡◌, ℕ, Bool, true, false, List, [], ◌∷◌, Option, Some, None, Result, Ok, Err}
use Rattle.keysym_core.specs.Names.{KeysymNames, value}
use Rattle.keysym_core.specs.Printed.{printed}
use Rattle.compose_messages.specs.Characters.{IsKeyOfText}
use Rattle.keysym_core.specs.declared.fault.NameFault.{NameFault}

-- the word itself, or the printed name of the keysym that was found for it
abbrev pub name_of : KeysymNames → List ℕ → Option ℕ → List ℕ
name_of names word None = word
name_of names word (Some keysym) = printed names keysym

-- the name of a word that names no keysym: that of its character, if it is one
pub record IsNameOfCharacter (names : KeysymNames) (word name : List ℕ) : Type 0 where
  pub found : Option ℕ
  pub is_found : IsKeyOfText names word found
  pub is : name ≡ name_of names word found

-- the name that a word with this value stands for: the word itself if it names a keysym
abbrev pub IsWrittenAs : KeysymNames → List ℕ → Option ℕ → List ℕ → Type 0
IsWrittenAs names word (Some keysym) name = name ≡ word
IsWrittenAs names word None name = IsNameOfCharacter names word name

abbrev pub IsWritten : KeysymNames → List ℕ → List ℕ → Type 0
IsWritten names word name = IsWrittenAs names word (value names word) name

-- the names that the words stand for, one by one
abbrev pub AreNamed : KeysymNames → List (List ℕ) → List (List ℕ) → Type 0
AreNamed names [] [] = Unit {0}
AreNamed names (word ∷ words) (name ∷ keys) = IsWritten names word name × AreNamed names words keys
AreNamed names words keys = ⊥

-- the same by these names; the words themselves if the names are refused
abbrev pub AreWritten : Result KeysymNames NameFault → List (List ℕ) → List (List ℕ) → Type 0
AreWritten (Ok names) words keys = AreNamed names words keys
AreWritten (Err fault) words keys = keys ≡ words

-- the names of the keys that the words write: for Compose files those that they stand for, and
-- otherwise the words themselves
abbrev pub AreKeyNames : Bool → Result KeysymNames NameFault → List (List ℕ) → List (List ℕ) → Type 0
AreKeyNames true names words keys = AreWritten names words keys
AreKeyNames false names words keys = keys ≡ words
