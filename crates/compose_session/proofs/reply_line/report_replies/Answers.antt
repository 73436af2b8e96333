use Rattle.std.proofs.Common.{string_bytes}
use Rattle.compose_wire.specs.declared.request.Body.TheVariants.{Open}
use Rattle.compose_session.specs.ReplyLine.{reported}
use Rattle.compose_session.proofs.Course.{closed}
use Rattle.compose_session.proofs.reply_line.report_replies.Goals as goal

pub returns-in_default : goal.returns-in_default
returns-in_default c =
    closed c.args.names.now c.args.requests.now c.args.replies.now c.loop-index.index (string_bytes c.loop-index.text) (reported c.args.names.now c.args.requests.now c.args.replies.now)
    c.loop-index.invariant (record { session = 0; body = Open }) c.loop-index-test.true c.in_default.ensures.lookup.3
