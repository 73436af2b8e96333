use Rattle.std.proofs.Common.{sym}
use Rattle.compose_manifest.proofs.Entries.{other_count}
use Rattle.compose_manifest.proofs.writing.are_entries.Goals as goal

pub returns-then-entries-sources : goal.returns-then-entries-sources
returns-then-entries-sources c = sym (other_count c.args.entries.now c.args.sources.now c.if-entries-sources.true)
