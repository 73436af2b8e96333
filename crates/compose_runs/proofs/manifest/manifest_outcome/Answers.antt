use Rattle.std.proofs.Common.{string_bytes}
use Rattle.compose_runs.proofs.manifest.manifest_outcome.Goals as goal

pub returns : goal.returns
returns c = record {
  notes = string_bytes c.in_ok-notes.notes;
  are_notes = c.in_ok-notes.ensures;
  written = c.in_ok-written_manifest.field-0;
  is = c.in_ok-written_manifest.ensures;
  noted = c.with_notes.ensures;
}
