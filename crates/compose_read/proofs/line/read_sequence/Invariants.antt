use Rattle.std.proofs.Common.{◌≡◌, ℕ, List, [], length}
use Rattle.compose_read.specs.Progress.{visit}
use Rattle.compose_read.specs.Sequence.{AreFed}
use Rattle.compose_read.proofs.Events.{sequence_after}
use Rattle.compose_read.proofs.line.read_sequence.Given as goal

abbrev pub invariant-loop-index : goal.invariant-loop-index
invariant-loop-index l = record {
  exact : (bytes : List ℕ) → sequence_after l.names (visit l.place bytes) l.events l.draft.row.sequence l.index ≡ sequence_after l.names (visit l.place bytes) l.events [] 0;
  fed : AreFed l.draft.row.sequence;
  kept : (l.draft.table ≡ l.fn.draft.table) × (l.draft.row.text ≡ l.fn.draft.row.text);
  count : length l.draft.row.sequence ≡ l.index;
}
