use Rattle.std.proofs.Common.{List, ℕ, subst, arith}
use Rattle.std.specs.Prelude.{bytes_eq}
use Rattle.std.proofs.lemmas.List.{take_all}
use Rattle.indexmap.specs.IndexMap.{get_by}
use Rattle.compose_lint.specs.Commonest.{times, IsLed}
use Rattle.compose_lint.proofs.commonest.leaders.Goals as goal

pub returns : goal.returns
returns c = λ k.
    subst (λ notes. IsLed (times notes k.now) k.now notes (get_by (λ p. bytes_eq k.now p.now) c.loop-index.leaders)) (take_all c.loop-index.index c.args.notes.now (omega arith)) (c.loop-index.invariant k).led
