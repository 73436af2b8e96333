use Rattle.std.proofs.Common.{◌∙◌, ◌+◌, sym, arith}
use Rattle.compose_text.specs.Lines.{divide}
use Rattle.compose_cert.specs.Reading.{line_at, keysym_of}
use Rattle.compose_cert.proofs.LineRead.{line_read, line_refused, line_missing, none_from_err}
use Rattle.std.proofs.lemmas.Result.{err_from_is_err_and}
use Rattle.compose_cert.specs.declared.CertFault.TheVariants.{NotText}
use Rattle.compose_cert.proofs.Times.{times_more, times_stop}
use Rattle.compose_cert.proofs.read.keys_at.Goals as goal

pub returns-in_err-text : goal.returns-in_err-text
returns-in_err-text c =
    let p = err_from_is_err_and c.from_residual-in_err-text.result c.from_residual-in_err-text.ensures.1 in
    let rest = c.loop-index.rest.now in
    let missing = line_missing keysym_of (c.args.line + c.loop-index.index) rest c.in_err-text.ensures.err.1 in
    rw (p.1, p.2, c.in_err-text.ensures.err.0)
    (λ n. times_stop (line_at keysym_of) c.loop-index.keys.items c.args.count c.loop-index.index c.args.line (divide 10 rest) _ _ (omega arith) missing c.loop-index.invariant)

pub returns-in_err-key : goal.returns-in_err-key
returns-in_err-key c =
    let p = err_from_is_err_and c.from_residual-in_err-key.result c.from_residual-in_err-key.ensures.1 in
    let rest = c.loop-index.rest.now in
    let none = none_from_err c.keysym_of.result (NotText (c.args.line + c.loop-index.index)) _ c.in_err-key.ensures.value in
    let refused = line_refused keysym_of (c.args.line + c.loop-index.index) rest c.in_ok-text.text.now c.in_ok-text.behind.now c.in_ok-text.ensures.ok (sym c.keysym_of.ensures ∙ none.0) in
    rw (p.1, p.2, none.1) (λ n. times_stop (line_at keysym_of) c.loop-index.keys.items c.args.count c.loop-index.index c.args.line (divide 10 rest) _ _ (omega arith) refused c.loop-index.invariant)

pub loop-index-preserved : goal.loop-index-preserved
loop-index-preserved c =
    let rest = c.loop-index.rest.now in
    let one =
    line_read keysym_of (c.args.line + c.loop-index.index) rest c.in_ok-text.text.now c.in_ok-text.behind.now c.in_ok-key.key c.in_ok-text.ensures.ok
    (sym c.keysym_of.ensures ∙ c.in_ok-key.ensures.ok_part) in
    rw c.in_ok-push.ensures.items
    (times_more (line_at keysym_of) c.loop-index.keys.items c.args.count c.loop-index.index c.args.line (divide 10 rest) (divide 10 c.in_ok-text.behind.now) c.in_ok-key.key _
    (omega arith) one c.loop-index.invariant)
