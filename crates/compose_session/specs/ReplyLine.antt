-- What is printed for replies, one after another (this project's format).
use Rattle.std.specs.Prelude.{ℕ, Bool, Option, Some, None, ◌==◌, if◌then◌else◌, List, [], ◌∷◌, ◌++◌, flat_map, codes, string_bytes}
use Rattle.std.specs.Fmt.{decimal}
use Rattle.keysym_core.specs.Names.{KeysymNames}
use Rattle.keysym_core.specs.Printed.{printed}
use Rattle.compose_lex.specs.Escape.{quote}
use Rattle.compose_model.specs.declared.Status.{Status}
use Rattle.compose_state.specs.Answers.{status_word}
use Rattle.compose_wire.specs.declared.request.Body.{Body}
use Rattle.compose_wire.specs.declared.request.Body.TheVariants as bodies
use Rattle.compose_wire.specs.declared.request.Request.{Request}
use Rattle.compose_wire.specs.declared.reply.ReplyBody.{ReplyBody}
use Rattle.compose_wire.specs.declared.reply.ReplyBody.TheVariants as answers
use Rattle.compose_wire.specs.declared.reply.Reply.{Reply}
use Rattle.compose_session.specs.Refusals.{refusal_words}
use Rattle.compose_session.specs.declared.reply_line.End.{End}
use Rattle.compose_session.specs.declared.reply_line.End.TheVariants.{Answered, Refused, Closed, Unexpected}
use Rattle.compose_session.specs.declared.reply_line.ExchangeReport.{ExchangeReport}
use Rattle.compose_session.specs.declared.reply_line.ReplyLine.{ReplyLine as ProgramLine}
use Rattle.compose_session.specs.declared.reply_line.ReplyLine.TheVariants as kinds

-- ---- lines

-- the line of a key, as `type` prints it: the word of its status, and the text in quotes
abbrev pub key_line : Status → Bool → List ℕ → List ℕ
key_line status accepted text = (if accepted then status_word status else codes "ignored") ++ 32 ∷ (quote text ++ 10 ∷ [])

-- each name after a blank
abbrev pub pending_names : KeysymNames → List ℕ → List ℕ
pending_names names keysyms = flat_map (λ k. 32 ∷ printed names k) keysyms

abbrev pub state_line : KeysymNames → Status → List ℕ → List ℕ
state_line names status pending = codes "state " ++ (status_word status ++ (pending_names names pending ++ 10 ∷ []))

abbrev pub loaded_line : ℕ → List ℕ
loaded_line count = codes "loaded " ++ (decimal count ++ 10 ∷ [])

abbrev pub refused_line : ℕ → List ℕ
refused_line code = codes "refused: " ++ (refusal_words code ++ 10 ∷ [])

-- ---- one reply

-- what is printed for a reply: a line, and the exchange goes on; a refusal, and it ends; or
-- nothing, as the reply does not belong to the request
pub data ReplyLine : Type 0 where
  line : List ℕ → ReplyLine
  refusal : List ℕ → ReplyLine
  unexpected : ReplyLine

abbrev pub body_report : KeysymNames → Body → ReplyBody → ReplyLine
body_report names body (answers.Refused code) = refusal (refused_line code)
body_report names bodies.Open answers.Opened = line []
body_report names bodies.Reset answers.WasReset = line []
body_report names bodies.Close answers.Closed = line []
body_report names (bodies.Key k) (answers.Fed status accepted text) = line (key_line status accepted text.bytes)
body_report names bodies.Ask (answers.State status pending) = line (state_line names status pending.items)
body_report names (bodies.Load payload) (answers.Loaded count) = line (loaded_line count)
body_report names (bodies.LoadLongest payload) (answers.Loaded count) = line (loaded_line count)
body_report names body answer = unexpected

-- the reply has to be of the request's session
abbrev pub reply_line : KeysymNames → Request → Reply → ReplyLine
reply_line names q r = if q.session == r.session then body_report names q.body r.answer else unexpected

-- ---- all replies

-- what is printed, and how the exchange ended
pub record Reported : Type 0 where
  pub text : List ℕ
  pub end : End

-- the text so far, or the whole report
pub data Course : Type 0 where
  goes_on : List ℕ → Course
  ended : Reported → Course

abbrev pub after : List ℕ → ReplyLine → Course
after text (line more) = goes_on (text ++ more)
after text (refusal more) = ended (record { text = text ++ more; end = Refused })
after text unexpected = ended (record { text = text; end = Unexpected })

-- the text so far, and how the exchange ended, if it has ended
abbrev pub course_of : List ℕ → Option End → Course
course_of text None = goes_on text
course_of text (Some end) = ended (record { text = text; end = end })

-- each request with its reply, until one is refused
abbrev pub reported_on : KeysymNames → List Request → List Reply → Course → Reported
reported_on names requests replies (ended report) = report
reported_on names [] replies (goes_on text) = record { text = text; end = Answered }
reported_on names (q ∷ requests) [] (goes_on text) = record { text = text; end = Closed }
reported_on names (q ∷ requests) (r ∷ replies) (goes_on text) = reported_on names requests replies (after text (reply_line names q r))

abbrev pub reported : KeysymNames → List Request → List Reply → Reported
reported names requests replies = reported_on names requests replies (goes_on [])

-- ---- the program's values

abbrev pub reply_line_of : ProgramLine → ReplyLine
reply_line_of (kinds.Line text) = line (string_bytes text)
reply_line_of (kinds.Refusal text) = refusal (string_bytes text)
reply_line_of kinds.Unexpected = unexpected

abbrev pub report_of : ExchangeReport → Reported
report_of report = record { text = string_bytes report.text; end = report.end }
