use Rattle.std.proofs.Common.{◌≡◌, ◌-◌, drop}
use Rattle.compose_model.specs.Certificate.{pairs_rise}
use Rattle.compose_check.proofs.pairs.are_rising.Given as goal

-- the pairs from the last one on are increasing exactly if all of them are
abbrev pub invariant-loop-index : goal.invariant-loop-index
invariant-loop-index l = pairs_rise (drop (l.index - 1) l.certificate.pairs) ≡ pairs_rise l.certificate.pairs
