use Rattle.std.proofs.Common.{◌∙◌, sym, ap, length, subst, List}
use Rattle.compose_read.specs.Lines.{Source}
use Rattle.compose_read.specs.Sources.{AreSources}
use Rattle.compose_read.proofs.Files.{many, sound}
use Rattle.compose_read.proofs.sources.Sources.count.Goals as goal

pub returns-clause-count : goal.returns-clause-count
returns-clause-count c = c.len.ensures.len ∙ sym (many c.self.inside.files.entries) ∙ ap length c.self.view_is

pub returns-clause-sound : goal.returns-clause-sound
returns-clause-sound c = subst (λ (ss : List Source). AreSources ss) c.self.view_is (sound c.self.inside.files.entries c.self.invariant c.len.ensures.unique)
