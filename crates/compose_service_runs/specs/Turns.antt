-- The requests and replies of an exchange with a service, in turn (this project's profile:
-- docs/PROTOCOL.md).
use Rattle.std.specs.Prelude.{Bool, true, false, not, if◌then◌else◌, List, [], ◌∷◌, ◌++◌, Option, Some, None, option_map}
use Rattle.compose_wire.specs.declared.request.Request.{Request}
use Rattle.compose_wire.specs.declared.reply.ReplyBody.{ReplyBody}
use Rattle.compose_wire.specs.declared.reply.ReplyBody.TheVariants.{Refused}
use Rattle.compose_wire.specs.declared.reply.Reply.{Reply}

-- a request, and its reply if there is one
pub record Turn : Type 0 where
  pub request : Request
  pub reply : Option Reply

abbrev pub is_refusal : ReplyBody → Bool
is_refusal (Refused code) = true
is_refusal answer = false

-- the reply is no refusal, so the next request is sent
abbrev pub goes_through : Reply → Bool
goes_through reply = not (is_refusal reply.answer)

-- the turns of these requests with these replies: a refused request is the last one, and so is one
-- without a reply
abbrev pub turns_of : List Request → List Reply → List Turn
turns_of [] replies = []
turns_of (q ∷ requests) [] = record { request = q; reply = None } ∷ []
turns_of (q ∷ requests) (r ∷ replies) = record { request = q; reply = Some r } ∷ (if is_refusal r.answer then [] else turns_of requests replies)

-- the same turns followed by these, if they are known
abbrev pub then_turns : Option (List Turn) → List Turn → Option (List Turn)
then_turns turns more = option_map (λ before. before ++ more) turns
