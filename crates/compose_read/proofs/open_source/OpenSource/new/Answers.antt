use Rattle.std.proofs.Common.{◌-◌, ◌∙◌, ap}
use Rattle.std.specs.Prelude.{flat_map}
use Rattle.compose_text.specs.Lines.{lines_of}
use Rattle.compose_read.specs.Lines.{numbered}
use Rattle.compose_read.specs.Visits.{below}
use Rattle.compose_read.proofs.OpenSources.{all_left}
use Rattle.compose_read.proofs.open_source.OpenSource.new.Goals as goal

pub returns : goal.returns
returns c = λ depth few.
    let sources = c.args.sources.now in let source = c.args.source in
    ap (λ bytes. flat_map (below sources (8 - depth)) (numbered source depth 1 (lines_of bytes))) c.without_mark.ensures
    ∙ all_left sources source depth c.bytes.result.now few c.requires c.bytes.ensures
