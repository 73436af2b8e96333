use Rattle.std.proofs.Common.{sym, rules, true}
use Rattle.std.specs.Fmt.{digits}
use Rattle.keysym_core.proofs.Digits.{padded-at_least_four}
use Rattle.keysym_core.proofs.form.character_text.Goals as goal

pub returns : goal.returns
returns c = rw (sym (padded-at_least_four (digits 16 true c.args.character))) (search rules)
