use Rattle.compose_given.proofs.Slashes.{trimmed}
use Rattle.compose_given.proofs.environment.without_slash.Goals as goal

pub returns : goal.returns
returns c = trimmed c.args.path.now c.trim_end_matches.result.now c.trim_end_matches.ensures.matches
