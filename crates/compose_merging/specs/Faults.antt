-- A fault of the merge of rows as one of the merge of tables.
use Rattle.compose_merge.specs.declared.merging.MergeFault.{MergeFault}
use Rattle.compose_merge.specs.declared.merging.MergeFault.TheVariants as faults
use Rattle.compose_migration.specs.declared.refusal.Refusal.TheVariants as refusals
use Rattle.compose_merging.specs.declared.asking.MergingFault.{MergingFault}
use Rattle.compose_merging.specs.declared.asking.MergingFault.TheVariants.{Input, TooLarge}

abbrev pub merge_raised : MergeFault → MergingFault
merge_raised faults.TooLarge = TooLarge
merge_raised faults.NoMemory = Input refusals.NoMemory
