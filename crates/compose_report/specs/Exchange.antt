-- What is printed for an exchange with a service (this project's format).
use Rattle.std.specs.Prelude.{◌≡◌, ℕ, List, [], None, string_bytes, codes}
use Rattle.compose_session.specs.declared.reply_line.End.{End}
use Rattle.compose_session.specs.declared.reply_line.End.TheVariants.{Answered, Refused, Closed, Unexpected}
use Rattle.compose_session.specs.declared.reply_line.ExchangeReport.{ExchangeReport}
use Rattle.compose_report.specs.Ends.{exchange_end}
use Rattle.compose_report.specs.declared.outcome.Outcome.{Outcome}

-- why the exchange is incomplete; nothing if it is complete
abbrev pub refusal_of : End → List ℕ
refusal_of Answered = []
refusal_of Refused = []
refusal_of Closed = codes "refused: connection: closed before the reply\n"
refusal_of Unexpected = codes "refused: connection: not the reply that was asked for\n"

pub record IsExchangeOutcome (report : ExchangeReport) (outcome : Outcome) : Type 0 where
  pub notes : string_bytes outcome.notes ≡ []
  pub output : string_bytes outcome.output ≡ string_bytes report.text
  pub errors : string_bytes outcome.errors ≡ refusal_of report.end
  pub file : outcome.file ≡ None
  pub ended : outcome.ended ≡ exchange_end report.end
