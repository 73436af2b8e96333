use Rattle.compose_many.proofs.Ending.{ends_as_stream, ends_at_write, ends_at_write_as_stream}
use Rattle.compose_many.proofs.laws.law_ends.Goals as goal

pub returns-clause-stream : goal.returns-clause-stream
returns-clause-stream c = ends_as_stream

pub returns-clause-write : goal.returns-clause-write
returns-clause-write c = ends_at_write

pub returns-clause-one : goal.returns-clause-one
returns-clause-one c = ends_at_write_as_stream
