-- Key names and migrations, read by the definitions.
use Rattle.std.proofs.Common.{◌≡◌, [], ◌∷◌, refl}
use Rattle.std.specs.Prelude.{Ok, Err, codes}
use Rattle.keysym_core.specs.Names.{KeysymNames}
use Rattle.compose_migration.specs.Keys.{keys_of}

abbrev core : KeysymNames
core = record { names = record { name = codes "dead_caron"; value = 0xfe5a } ∷ record { name = codes "e"; value = 0x65 } ∷ []; characters = [] }

two_key_names : keys_of core (codes "dead_caron" ∷ codes "0x61" ∷ []) ≡ Ok (0xfe5a ∷ 0x61 ∷ [])
two_key_names = refl

second_is_unknown : keys_of core (codes "e" ∷ codes "f" ∷ codes "g" ∷ []) ≡ Err 1
second_is_unknown = refl

-- an empty text is a key name as well, and names no keysym
no_key_name : keys_of core (codes "e" ∷ codes "" ∷ codes "e" ∷ []) ≡ Err 1
no_key_name = refl
