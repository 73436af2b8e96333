use Rattle.compose_service_runs.proofs.Merges.{was_merged}
use Rattle.compose_service_runs.proofs.merged.was_merged_with.Goals as goal

pub returns-in-Ok-with_text : goal.returns-in-Ok-with_text
returns-in-Ok-with_text c = λ same. was_merged c.args.payload.now c.bytes.result.now c.args.new.now c.in-Ok-with_text.sources c.in-Ok-with_text.ensures (c.is_same.ensures same)
