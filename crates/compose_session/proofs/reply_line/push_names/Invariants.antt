use Rattle.std.proofs.Common.{◌≡◌, ◌++◌, take, string_bytes}
use Rattle.compose_session.specs.ReplyLine.{pending_names}
use Rattle.compose_session.proofs.reply_line.push_names.Given as goal

abbrev pub invariant-loop-keysym : goal.invariant-loop-keysym
invariant-loop-keysym l = string_bytes l.line ≡ string_bytes l.fn.line ++ pending_names l.names (take l.keysym-index l.keysyms)
