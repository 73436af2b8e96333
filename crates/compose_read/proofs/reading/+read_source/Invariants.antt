use Rattle.std.proofs.Common.{◌≡◌, ◌+◌, ◌≤◌, ◌++◌, List, length}
use Rattle.std.specs.Prelude.{IsTrue}
use Rattle.std.specs.List.{All}
use Rattle.std.specs.Str.{IsUtf8}
use Rattle.compose_text.specs.Lines.{lines_of}
use Rattle.compose_read.specs.Lines.{Visit, visits_below}
use Rattle.compose_read.specs.Progress.{reading_on}
use Rattle.compose_read.specs.Kept.{AreKept}
use Rattle.compose_read.specs.Visits.{left_to_visit}
use Rattle.compose_read.proofs.reading.+read_source.Given as goal

abbrev pub decreases-read_source : goal.decreases-read_source
decreases-read_source l = l.left

abbrev pub invariant-loop-bytes : goal.invariant-loop-bytes
invariant-loop-bytes l = record {
  reads : (ws : List Visit)
      → reading_on l.names l.sources l.progress (left_to_visit l.sources l.left l.source l.depth l.line l.rest ++ ws)
      ≡ reading_on l.names l.sources l.fn.progress (visits_below l.sources l.left l.source ++ ws);
  kept : AreKept l.names l.sources l.progress.draft.table l.kept.by_source;
  read : l.progress.lines + length (left_to_visit l.sources l.left l.source l.depth l.line l.rest) ≡ l.fn.progress.lines + length (visits_below l.sources l.left l.source);
  texts : IsTrue l.is_text → All IsUtf8 (lines_of l.rest);
  counted : l.line + length l.rest ≤ length l.initial.rest;
}

abbrev pub decreases-loop-bytes : goal.decreases-loop-bytes
decreases-loop-bytes l = length l.rest
