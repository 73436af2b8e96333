use Rattle.compose_table_file.proofs.Kept.{kept}
use Rattle.compose_table_file.proofs.table_file.law_table_file.Goals as goal

pub returns : goal.returns
returns c = kept
