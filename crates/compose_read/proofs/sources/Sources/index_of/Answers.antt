use Rattle.std.proofs.Common.{◌∙◌, ap, position}
use Rattle.std.specs.Str.{bytes_eq}
use Rattle.compose_read.specs.Lines.{Source}
use Rattle.compose_read.proofs.Files.{same_index}
use Rattle.compose_read.proofs.sources.Sources.index_of.Goals as goal

pub returns-clause-index : goal.returns-clause-index
returns-clause-index c =
    c.get_index_of.ensures.index ∙ same_index c.args.name.now c.self.inside.files.entries
    ∙ ap (position (λ (s : Source). bytes_eq c.args.name.now s.name)) c.self.view_is
