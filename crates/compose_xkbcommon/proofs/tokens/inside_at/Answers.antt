use Rattle.std.proofs.Common.{◌<◌, get_or, length, arith, refl}
use Rattle.compose_lex.proofs.Strings.{inside_taken, inside_free}
use Rattle.compose_xkbcommon.proofs.tokens.inside_at.Goals as goal
use Rattle.compose_xkbcommon.proofs.tokens.inside_at.Goals.{then-taken, else-taken+else-rest-at-eq34}

pub loop-at-preserved : goal.loop-at-preserved
loop-at-preserved c =
    let text = c.args.rest.now in
    let at = c.loop-at.at in
    let byte = get_or text at 0 in
    let within : at < length text = (let t = c.loop-at-test.true in omega (arith, t)) in
    elim c.if-taken.branch [
      | then-taken w ↦ inside_taken text c.loop-at.taken c.if-taken.taken at byte within refl w.if-taken.true w.taken-is c.loop-at.invariant
      | else-taken+else-rest-at-eq34 w ↦ inside_free text c.loop-at.taken c.if-taken.taken at byte within refl w.if-taken.false w.if-rest-at-eq34.false w.taken-is c.loop-at.invariant
    ]
