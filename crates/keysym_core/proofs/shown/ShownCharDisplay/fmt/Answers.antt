use Rattle.std.proofs.Common.{sym, rules, true}
use Rattle.std.specs.Fmt.{digits}
use Rattle.keysym_core.proofs.Digits.{padded-at_least_four}
use Rattle.keysym_core.proofs.shown.ShownCharDisplay.fmt.Goals as goal

pub returns-clause-writes : goal.returns-clause-writes
returns-clause-writes g c = λ plain ok. rw (sym (padded-at_least_four (digits 16 true c.args.self.now.0))) (search rules)
