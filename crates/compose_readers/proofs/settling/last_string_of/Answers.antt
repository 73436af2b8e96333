use Rattle.std.proofs.Common.{◌≡◌, ◌∙◌, List, ℕ, cond, take, sym, ap, arith}
use Rattle.std.specs.Prelude.{Option, Some}
use Rattle.compose_readers.specs.Fates.{Entry, is_string_for, last_from}
use Rattle.compose_readers.proofs.Counted.{last_more}
use Rattle.compose_readers.proofs.settling.last_string_of.Goals as goal

pub loop-at-preserved : goal.loop-at-preserved
loop-at-preserved c = λ q.
    (let es = c.args.entries.now in let at = c.loop-at.at in let e = c.index-entries-at.result in let t = c.loop-at-test.true in
    c.in_ok-set_string.ensures q
    ∙ ap (λ o. cond (is_string_for q e) (Some at) o) (c.loop-at.invariant q)
    ∙ ap (λ (x : Entry). cond (is_string_for q x) (Some at) (last_from (is_string_for q) 0 (take at es))) c.index-entries-at.is
    ∙ sym (last_more (is_string_for q) es at e (omega (arith, t))))
