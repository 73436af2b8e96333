use Rattle.std.proofs.Common.{◌∙◌}
use Rattle.compose_lint.proofs.Spaced.{after_colon}
use Rattle.compose_lint.proofs.file_lines.has_spaced_name.Goals as goal

pub returns : goal.returns
returns c = c.has_spaced_name_after.ensures ∙ after_colon c.args.line.now
