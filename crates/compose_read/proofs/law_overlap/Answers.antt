use Rattle.compose_read.proofs.Overlaps.{refused_least, settled_without, never_refused}
use Rattle.compose_read.proofs.law_overlap.Goals as goal

pub returns : goal.returns
returns c = record { least = refused_least; free = settled_without; never = never_refused }
