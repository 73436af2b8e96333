-- Frames and replies, written out.
use Rattle.std.proofs.Common.{◌≡◌, [], ◌∷◌, refl, true}
use Rattle.std.specs.Prelude.{Some, None}
use Rattle.compose_model.specs.declared.Status.TheVariants.{Composing, Composed}
use Rattle.compose_wire.specs.Messages.{fed, state, refused, no_session, loaded}
use Rattle.compose_wire.specs.Frames.{reply_bytes, unknown_kind, bad_length}
use Rattle.compose_client.specs.Replies.{head_fault}
use Rattle.compose_client.specs.Giving.{reply_at}

-- Multi_key was typed in session 7: composing, the key was accepted, no text
composing : reply_at (0x82 ∷ 0 ∷ 0 ∷ 0 ∷ 7 ∷ 0 ∷ 0 ∷ 0 ∷ 2 ∷ 1 ∷ 1 ∷ []) ≡ record { session = 7; answer = fed Composing true [] }
composing = refl

composed : reply_bytes (record { session = 7; answer = fed Composed true (0xc3 ∷ 0xa9 ∷ []) }) ≡ 0x82 ∷ 0 ∷ 0 ∷ 0 ∷ 7 ∷ 0 ∷ 0 ∷ 0 ∷ 4 ∷ 2 ∷ 1 ∷ 0xc3 ∷ 0xa9 ∷ []
composed = refl

-- two keysyms are pending
pending : reply_at (0x86 ∷ 0 ∷ 0 ∷ 0 ∷ 7 ∷ 0 ∷ 0 ∷ 0 ∷ 10 ∷ 1 ∷ 2 ∷ 0 ∷ 0 ∷ 0xff ∷ 0x20 ∷ 0 ∷ 0 ∷ 0 ∷ 0x27 ∷ []) ≡ record { session = 7; answer = state Composing (0xff20 ∷ 0x27 ∷ []) }
pending = refl

closed_already : reply_at (0xff ∷ 0 ∷ 0 ∷ 0 ∷ 7 ∷ 0 ∷ 0 ∷ 0 ∷ 2 ∷ 0 ∷ 2 ∷ []) ≡ record { session = 7; answer = refused no_session }
closed_already = refl

third_load : reply_at (0x85 ∷ 0 ∷ 0 ∷ 0 ∷ 0 ∷ 0 ∷ 0 ∷ 0 ∷ 8 ∷ 0 ∷ 0 ∷ 0 ∷ 0 ∷ 0 ∷ 0 ∷ 0 ∷ 3 ∷ []) ≡ record { session = 0; answer = loaded 3 }
third_load = refl

-- a request's kind is no reply's
a_request : head_fault (2 ∷ []) ≡ Some unknown_kind
a_request = refl

-- eight bytes of a head are not checked; Opened has no payload
half_a_head : head_fault (0x81 ∷ 0 ∷ 0 ∷ 0 ∷ 7 ∷ 0 ∷ 0 ∷ 0 ∷ []) ≡ None
half_a_head = refl

one_byte_of_payload : head_fault (0x81 ∷ 0 ∷ 0 ∷ 0 ∷ 7 ∷ 0 ∷ 0 ∷ 0 ∷ 1 ∷ []) ≡ Some bad_length
one_byte_of_payload = refl
