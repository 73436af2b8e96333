use Rattle.std.proofs.Common.{sym, ◌∙◌}
use Rattle.compose_cert.proofs.PairSearch.{found_pair, searched_pair}
use Rattle.compose_cert.proofs.pairs.is_found.Goals as goal

pub returns-clause-is_there : goal.returns-clause-is_there
returns-clause-is_there c h =
    found_pair c.args.pairs.now c.args.old c.args.new c.binary_search.result c.binary_search.ensures.bound c.binary_search.ensures.position (sym c.is_ok.ensures.value ∙ h)

pub returns-clause-exact : goal.returns-clause-exact
returns-clause-exact c rise =
    c.is_ok.ensures.value
    ∙ searched_pair c.args.pairs.now c.args.old c.args.new c.binary_search.result rise c.binary_search.ensures.bound c.binary_search.ensures.position
