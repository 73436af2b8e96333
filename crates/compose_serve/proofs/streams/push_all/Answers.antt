use Rattle.std.proofs.Common.{◌≡◌, ◌+◌, ◌-◌, ◌++◌, ◌∙◌, length, take, drop, arith, subst}
use Rattle.std.proofs.lemmas.Grind.{common_steps}
use Rattle.std.specs.Io.KnownBytes.{Appends}
use Rattle.compose_serve.proofs.Known.{Appends-then, take-piece}
use Rattle.compose_serve.proofs.streams.push_all.Goals as goal

pub loop-done-preserved : goal.loop-done-preserved
loop-done-preserved g c =
    let done = c.loop-done.done in
    let n = c.in_ok-done.field-0 in
    let bytes = c.args.bytes.now in
    let h = c.in_ok-done.ensures in
    let more : take done bytes ++ take n (take (length bytes - done) (drop done bytes)) ≡ take (done + n) bytes = take-piece done n bytes in
    record {
      within = grind (arith, common_steps);
      grown = subst (λ l. Appends (g.W.Push.written c.args.writer.now) (g.W.Push.written c.push.new.self) l) more (Appends-then _ _ _ _ _ c.loop-done.invariant.grown h.0);
      mark = h.1.2 ∙ c.loop-done.invariant.mark;
    }
