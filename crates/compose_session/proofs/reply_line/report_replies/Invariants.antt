use Rattle.std.proofs.Common.{◌≡◌, drop, string_bytes}
use Rattle.compose_session.specs.ReplyLine.{reported_on, reported, goes_on}
use Rattle.compose_session.proofs.reply_line.report_replies.Given as goal

-- the remaining requests and replies bring the text so far to the whole report
abbrev pub invariant-loop-index : goal.invariant-loop-index
invariant-loop-index l = reported_on l.names (drop l.index l.requests) (drop l.index l.replies) (goes_on (string_bytes l.text)) ≡ reported l.names l.requests l.replies
