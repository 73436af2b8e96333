use Rattle.std.proofs.Common.{ap, length, arith}
use Rattle.compose_cert.proofs.LineRead.{typing_few, typing_many}
use Rattle.compose_cert.proofs.read.typing_at.Goals as goal

pub returns-then-keys-gt-MOST : goal.returns-then-keys-gt-MOST
returns-then-keys-gt-MOST c _ =
    typing_many c.args.line c.args.bytes.now c.in_ok-text.text.now c.in_ok-text.rest.now c.in_ok-typing.typing c.in_ok-text.ensures.ok c.in_ok-typing.ensures (omega (arith, ap length c.keys.ensures))

pub returns : goal.returns
returns c =
    typing_few c.args.line c.args.bytes.now c.in_ok-text.text.now c.in_ok-text.rest.now c.in_ok-typing.typing c.in_ok-text.ensures.ok c.in_ok-typing.ensures (omega (arith, ap length c.keys.ensures))
