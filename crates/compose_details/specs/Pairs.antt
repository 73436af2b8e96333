-- What is printed of a pair of a certificate (this project's profile).
use Rattle.std.specs.Prelude.{ℕ, List, [], ◌∷◌, ◌++◌, codes}
use Rattle.keysym_core.specs.Names.{KeysymNames}
use Rattle.compose_messages.specs.Overlaps.{events}

-- after which keys a node is reached
abbrev pub after : KeysymNames → List ℕ → List ℕ
after names [] = codes " at rest"
after names (k ∷ keys) = codes " after" ++ events names (k ∷ keys)

abbrev pub pair_line : KeysymNames → List ℕ → List ℕ → List ℕ
pair_line names old new = codes "composecheck: the pair stands" ++ after names old ++ codes " in the old table and" ++ after names new ++ codes " in the new one\n"
