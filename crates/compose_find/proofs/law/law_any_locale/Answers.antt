use Rattle.compose_find.proofs.AnyLocale.{finds_with_any}
use Rattle.compose_find.proofs.law.law_any_locale.Goals as goal

pub returns : goal.returns
returns c = finds_with_any
