use Rattle.std.proofs.Common.{◌∙◌, ◌+◌, ◌-◌, [], ◌∷◌, ◌++◌, refl, sym, ap, arith}
use Rattle.compose_read.specs.Visits.{below, left_from}
use Rattle.compose_read.proofs.OpenSources.{closed, read_further}
use Rattle.compose_read.proofs.visits.take_line.Goals as goal

pub push-requires : goal.push-requires
push-requires c = (omega arith, omega (arith, c.loop-top.invariant.few, c.in-Some.ensures.len))

pub returns-in-Some-first_line-clause-lines : goal.returns-in-Some-first_line-clause-lines
returns-in-Some-first_line-clause-lines c = λ sources.
    c.loop-top.invariant.left sources
    ∙ read_further sources c.pop.new.self.items c.loop-top.opened.items c.in-Some.top
    (c.in-Some.ensures.items ∙ ap (λ t. c.pop.new.self.items ++ t ∷ []) (sym c.in-Some.top-is)) c.push.new.self.items _ c.in-Some-first_line.bytes.now
    c.push.ensures.items c.in-Some-first_line.ensures.lines refl refl
    ∙ ap
    (λ d. below sources (8 - d) (record { source = c.in-Some.top.source; line = c.in-Some.top.line + 1; bytes = c.in-Some-first_line.bytes.now; depth = d })
    ++ left_from sources 0 c.push.new.self.items) (sym c.len-depth.ensures.value)

pub returns-in-Some-first_line-clause-depth : goal.returns-in-Some-first_line-clause-depth
returns-in-Some-first_line-clause-depth c = (omega (arith, c.push.ensures.len, c.len-depth.ensures.value), omega (arith, c.len-depth.ensures.value, c.loop-top.invariant.few, c.in-Some.ensures.len))

pub loop-top-preserved : goal.loop-top-preserved
loop-top-preserved c = record {
  left = λ sources. c.loop-top.invariant.left sources ∙ closed sources c.pop.new.self.items c.loop-top.opened.items c.in-Some.top c.in-Some.ensures.items c.in_default-first_line.ensures.lines;
  few = omega (arith, c.loop-top.invariant.few, c.in-Some.ensures.len);
}
