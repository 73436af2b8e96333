-- Fresh keysyms, judged by the definitions.
use Rattle.std.proofs.Common.{◌≡◌, List, [], ◌∷◌, refl}
use Rattle.std.specs.Prelude.{Some, None, codes}
use Rattle.compose_model.specs.Table.{Definition}
use Rattle.compose_fresh.specs.declared.fault.CheckFault.TheVariants.{FreshNotRising, FreshUsed}
use Rattle.compose_migration.specs.Migration.{no_fresh}
use Rattle.compose_answer.specs.Parts.{fresh_fault}

-- <e> : "x"
abbrev one_key : List Definition
one_key = record { sequence = 0x65 ∷ []; text = codes "x" } ∷ []

used : fresh_fault one_key (0x65 ∷ 0xfe5a ∷ []) ≡ Some (no_fresh (FreshUsed 0x65))
used = refl

unused : fresh_fault one_key (0xfe5a ∷ []) ≡ None
unused = refl

falling : fresh_fault one_key (0xfe5a ∷ 0x65 ∷ []) ≡ Some (no_fresh FreshNotRising)
falling = refl
