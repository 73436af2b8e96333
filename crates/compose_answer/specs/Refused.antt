-- The refusal of the fresh keysyms for which a walk or a maker has no answer.
use Rattle.compose_migration.specs.declared.refusal.Refusal.{Refusal}
use Rattle.compose_migration.specs.declared.refusal.Refusal.TheVariants.{Fresh, TooManyFresh, NoMemory}
use Rattle.compose_walk.specs.declared.fault.MakeFault.{MakeFault}
use Rattle.compose_walk.specs.declared.fault.MakeFault.TheVariants as make_faults

abbrev pub fresh_refused : MakeFault → Refusal
fresh_refused make_faults.NoMemory = NoMemory
fresh_refused (make_faults.BadFresh fault) = Fresh fault
fresh_refused make_faults.TooManyFresh = TooManyFresh
