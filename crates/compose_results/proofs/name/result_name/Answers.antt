use Rattle.std.proofs.Common.{◌∙◌, ap}
use Rattle.compose_lex.specs.Fault.{skip_blanks, result_at}
use Rattle.compose_results.specs.Results.{result_name}
use Rattle.compose_results.proofs.NameLines.{named}
use Rattle.compose_results.proofs.name.result_name.Goals as goal

pub returns : goal.returns
returns c events h =
    let line = c.args.line.now in
    let found = named line events h in
    c.name_in.ensures 0 found.raw (result_name line) found.left (ap (result_at 0) (c.skip_blanks.ensures ∙ ap skip_blanks c.after_colon.ensures) ∙ found.is)
