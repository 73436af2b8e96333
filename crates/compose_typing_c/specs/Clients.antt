-- The meaning of the numbers in a C client.
use Rattle.std.specs.Prelude.{ℕ, ◌==◌, not, List, if◌then◌else◌}
use Rattle.keysym_core.specs.Keysym.{is_keysym}
use Rattle.compose_typing.specs.declared.stage.Waiting.{Waiting}
use Rattle.compose_typing.specs.declared.stage.KeyAnswer.{KeyAnswer}
use Rattle.compose_typing.specs.declared.stage.Stage.{Stage}
use Rattle.compose_typing.specs.declared.stage.Stage.TheVariants.{Apart, Ready, Connecting, Opening, Feeding, Asking, Refreshing, Closing}
use Rattle.compose_typing.specs.TypingSession.{Client}
use Rattle.compose_typing.specs.Bytes.{TypingSession}
use Rattle.compose_typing_c.specs.declared.stage.AnswerRecord.{AnswerRecord}
use Rattle.compose_typing_c.specs.declared.stage.StageRecord.{StageRecord}
use Rattle.compose_typing_c.specs.declared.client.ClientRecord.{ClientRecord}
use Rattle.compose_typing_c.specs.Numbers.{status_of, front, keysyms_of, text_of}

-- the service's answer to a key
abbrev pub answer_of : AnswerRecord → KeyAnswer
answer_of a = record { status = status_of a.status; accepted = a.accepted == 1; text = text_of (front 255 a.text_length a.text) }

abbrev pub waiting_of : StageRecord → Waiting
waiting_of s = record { key = s.key; is_again = s.is_again == 1 }

-- what a key waits for, by the number
abbrev pub key_stage : StageRecord → Stage
key_stage s =
    if s.number == 2 then Connecting (waiting_of s) else if s.number == 3 then Opening (waiting_of s) else
    if s.number == 4 then Feeding (waiting_of s) s.left else if s.number == 5 then Asking (waiting_of s) (answer_of s.answer) else Apart

-- what the client waits for: nothing if the number means nothing, or its key is no keysym
abbrev pub stage_of : StageRecord → Stage
stage_of s =
    if s.number == 1 then Ready else if s.number == 6 then Refreshing s.left else if s.number == 7 then Closing else
    if is_keysym s.key then key_stage s else Apart

abbrev pub client_of : ClientRecord → Client
client_of c = record {
  session = c.session;
  is_opened = c.is_opened == 1;
  pending = keysyms_of (front 31 c.count c.pending);
  is_stale = not (c.is_current == 1);
  stage = stage_of c.stage;
}

-- the received bytes that were not read yet
abbrev pub held_of : ClientRecord → List ℕ
held_of c = front 266 c.held_count c.held

abbrev pub typing_of : ClientRecord → TypingSession
typing_of c = record { client = client_of c; held = held_of c }
