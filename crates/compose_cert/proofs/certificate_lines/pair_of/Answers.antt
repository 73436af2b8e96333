use Rattle.std.proofs.Common.{◌∙◌, sym}
use Rattle.compose_cert.proofs.LineRead.{pair_by_words}
use Rattle.compose_cert.proofs.certificate_lines.pair_of.Goals as goal

pub returns-in_err-new : goal.returns-in_err-new
returns-in_err-new c =
    let reported = pair_by_words c.args.line.now c.in_ok-old.old.now c.in_ok-old.new.now c.in_ok-old.ensures.cases in
    c.from_residual-in_err-new.ensures ∙ sym (rw (← c.in_ok-old-2.ensures, ← c.in_err-new.ensures) at reported)

pub returns : goal.returns
returns c =
    let reported = pair_by_words c.args.line.now c.in_ok-old.old.now c.in_ok-old.new.now c.in_ok-old.ensures.cases in
    sym (rw (← c.in_ok-old-2.ensures, ← c.in_ok-new.ensures) at reported)
