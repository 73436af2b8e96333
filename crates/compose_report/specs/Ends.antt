-- How a run ends (this project's profile): as its answer or its refusal says; if an answer can't
-- be written, the run ends as refused.
use Rattle.std.specs.Prelude.{◌≡◌, ◌⊎◌, Result, Ok, Err}
use Rattle.clap.specs.declared.error.kind.ErrorKind.{ErrorKind}
use Rattle.clap.specs.declared.error.kind.ErrorKind.TheVariants as kinds
use Rattle.compose_session.specs.declared.reply_line.End.{End}
use Rattle.compose_session.specs.declared.reply_line.End.TheVariants as exchanges
use Rattle.compose_answer.specs.declared.answer.Ended.{Ended}
use Rattle.compose_answer.specs.declared.answer.Ended.TheVariants.{Yes, No, Refused, NoMemory}

-- if the output can't be written: an answer becomes refused, and a run without an answer ends
-- unchanged
abbrev pub unwritten_end : Ended → Ended
unwritten_end Yes = Refused
unwritten_end No = Refused
unwritten_end Refused = Refused
unwritten_end NoMemory = NoMemory

-- by the result of writing it
abbrev pub written_end : {E : Type 0} → Result (Unit {0}) E → Ended → Ended
written_end (Ok done) ended = ended
written_end (Err fault) ended = unwritten_end ended

-- arguments that are not a command: yes if they ask for help or the version
abbrev pub arguments_end : ErrorKind → Ended
arguments_end kinds.DisplayHelp = Yes
arguments_end kinds.DisplayVersion = Yes
arguments_end kinds.OutOfMemory = NoMemory
arguments_end kind = Refused

-- the end if the output is written, or if it can't be: that depends on the stream
abbrev pub EndsPrinted : Ended → Ended → Type 0
EndsPrinted ended end = (end ≡ ended) ⊎ (end ≡ unwritten_end ended)

-- after an exchange with a service: no if a request was refused, and refused if the service did not
-- answer
abbrev pub exchange_end : End → Ended
exchange_end exchanges.Answered = Yes
exchange_end exchanges.Refused = No
exchange_end exchanges.Closed = Refused
exchange_end exchanges.Unexpected = Refused
