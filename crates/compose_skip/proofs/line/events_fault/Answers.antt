use Rattle.std.proofs.Common.{◌∙◌, ◌<◌, length, sym, arith}
use Rattle.compose_skip.specs.Places.{visit}
use Rattle.compose_skip.proofs.Parts.{event_faulty, event_passed}
use Rattle.compose_skip.proofs.line.events_fault.Goals as goal

pub returns-in-Some : goal.returns-in-Some
returns-in-Some c = λ bytes.
    let within : c.loop-index.index < length c.args.events.now = omega arith in
    event_faulty c.args.names.now (visit c.args.place bytes) c.args.events.now c.loop-index.index _ c.in-Some.fault within (c.in-Some.ensures bytes) ∙ c.loop-index.invariant bytes

pub loop-index-preserved : goal.loop-index-preserved
loop-index-preserved c = λ bytes.
    let within : c.loop-index.index < length c.args.events.now = omega arith in
    sym (event_passed c.args.names.now (visit c.args.place bytes) c.args.events.now c.loop-index.index _ within (c.in_default.ensures bytes)) ∙ c.loop-index.invariant bytes
