use Rattle.std.proofs.Common.{◌≡◌, ◌∙◌, ◌+◌, ◌-◌, List, ℕ, cond, drop, sym, ap, arith}
use Rattle.std.specs.Prelude.{Option, Some}
use Rattle.compose_readers.specs.Fates.{Entry, extends, first_from}
use Rattle.compose_readers.proofs.Counted.{first_more}
use Rattle.compose_readers.proofs.settling.first_longer.Goals as goal

pub loop-at-preserved : goal.loop-at-preserved
loop-at-preserved c =
    let es = c.args.entries.now in let at = c.loop-at.at - 1 in let one : c.loop-at.at ≡ at + 1 = omega arith in record {
      within = omega (arith, c.loop-at.invariant.within);
      first = λ q.
          (let e = c.index-entries-at.result in
          c.in_ok-set_longer.ensures q
          ∙ ap (λ o. cond (extends q e) (Some at) o) (c.loop-at.invariant.first q ∙ ap (λ m. first_from (extends q) m (drop m es)) one)
          ∙ ap (λ (x : Entry). cond (extends q x) (Some at) (first_from (extends q) (at + 1) (drop (at + 1) es))) c.index-entries-at.is
          ∙ sym (first_more (extends q) es at e (omega (arith, c.loop-at.invariant.within))));
    }
