use Rattle.std.proofs.Common.{refl}
use Rattle.compose_wire.specs.Messages.{close}
use Rattle.compose_many.proofs.owners.close.Goals as goal

pub returns : goal.returns
returns g c =
    let expected = c.answer_into.ensures in
    (record { request = record { session = c.args.session; body = close }; reply = expected.0 }, refl, refl, expected.1)
