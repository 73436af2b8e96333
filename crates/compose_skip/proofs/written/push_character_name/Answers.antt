use Rattle.std.proofs.Common.{true, sym, rules}
use Rattle.std.specs.Fmt.{digits}
use Rattle.keysym_core.proofs.Digits.{padded-at_least_four}
use Rattle.compose_skip.proofs.written.push_character_name.Goals as goal

pub returns : goal.returns
returns c = rw (sym (padded-at_least_four (digits 16 true c.args.number))) (search rules)
