use Rattle.compose_input.proofs.AnyLocale.{with_its_locale}
use Rattle.compose_input.proofs.search.find_files.Goals as goal

pub returns-in-Ok-clause-found : goal.returns-in-Ok-clause-found
returns-in-Ok-clause-found g c =
    with_its_locale c.law_any_locale.ensures c.args.files.now.holds c.args.places c.args.file.now c.in-Ok.table c.in-Ok.ensures.found
