use Rattle.std.proofs.Common.{sym, ◌∙◌, ap}
use Rattle.compose_model.specs.Certificate.{has_pair}
use Rattle.compose_cert.proofs.PairSearch.{pair_of_part}
use Rattle.compose_cert.proofs.pairs.IndexedPairs.contains.Goals as goal

pub returns-then-is_found : goal.returns-then-is_found
returns-then-is_found c =
    let part = c.pairs_of.ensures in
    c.if-is_found.true
    ∙ sym (pair_of_part c.args.self.now part.0 part.1.0 c.args.old c.args.new
    (ap (λ pairs. has_pair pairs c.args.old c.args.new) (sym part.1.1) ∙ c.is_found.ensures.is_there c.if-is_found.true))
