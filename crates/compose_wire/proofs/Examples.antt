-- Frames, written out.
use Rattle.std.proofs.Common.{◌≡◌, [], ◌∷◌, refl, true, lit<}
use Rattle.std.specs.Prelude.{Some, None}
use Rattle.compose_model.specs.declared.Status.TheVariants.{Composing}
use Rattle.compose_model.specs.declared.Rule.TheVariants.{Longest}
use Rattle.compose_wire.specs.Cut.{takes, gives, Leads}
use Rattle.compose_wire.specs.Messages.{open_session, key, load, fed, refused, malformed}
use Rattle.compose_wire.specs.Frames.{frames, fault_at, unknown_kind, bad_length, too_long, reply_bytes}

stream : frames (record { session = 7; body = open_session } ∷ record { session = 7; body = key 0xfe50 } ∷ [])
    ≡ 1 ∷ 0 ∷ 0 ∷ 0 ∷ 7 ∷ 0 ∷ 0 ∷ 0 ∷ 0 ∷ 2 ∷ 0 ∷ 0 ∷ 0 ∷ 7 ∷ 0 ∷ 0 ∷ 0 ∷ 4 ∷ 0 ∷ 0 ∷ 0xfe ∷ 0x50 ∷ []
stream = refl

answered : reply_bytes (record { session = 7; answer = fed Composing true [] }) ≡ 0x82 ∷ 0 ∷ 0 ∷ 0 ∷ 7 ∷ 0 ∷ 0 ∷ 0 ∷ 2 ∷ 1 ∷ 1 ∷ []
answered = refl

faulty : reply_bytes (record { session = 0; answer = refused malformed }) ≡ 0xff ∷ 0 ∷ 0 ∷ 0 ∷ 0 ∷ 0 ∷ 0 ∷ 0 ∷ 2 ∷ 0 ∷ 0x0a ∷ []
faulty = refl

too_long_load : fault_at (5 ∷ 0 ∷ 0 ∷ 0 ∷ 0 ∷ 0 ∷ 0x80 ∷ 0 ∷ 1 ∷ []) ≡ Some too_long
too_long_load = refl

longest_load : fault_at (5 ∷ 0 ∷ 0 ∷ 0 ∷ 0 ∷ 0 ∷ 0x80 ∷ 0 ∷ 0 ∷ []) ≡ None
longest_load = refl

nine : fault_at (9 ∷ []) ≡ Some unknown_kind
nine = refl

half : fault_at (2 ∷ 0 ∷ 0 ∷ 0 ∷ 7 ∷ 0 ∷ 0 ∷ []) ≡ None
half = refl

three : fault_at (2 ∷ 0 ∷ 0 ∷ 0 ∷ 7 ∷ 0 ∷ 0 ∷ 0 ∷ 3 ∷ []) ≡ Some bad_length
three = refl

eight : fault_at (8 ∷ []) ≡ Some unknown_kind
eight = refl

longest_kind : fault_at (7 ∷ 0 ∷ 0 ∷ 0 ∷ 0 ∷ 0 ∷ 0x80 ∷ 0 ∷ 0 ∷ []) ≡ None
longest_kind = refl

too_long_for_it : fault_at (7 ∷ 0 ∷ 0 ∷ 0 ∷ 0 ∷ 0 ∷ 0x80 ∷ 0 ∷ 1 ∷ []) ≡ Some too_long
too_long_for_it = refl

an_empty_load : frames (record { session = 0; body = load Longest [] } ∷ []) ≡ 7 ∷ 0 ∷ 0 ∷ 0 ∷ 0 ∷ 0 ∷ 0 ∷ 0 ∷ 0 ∷ []
an_empty_load = refl

-- a frame that comes in two pieces
two_pieces : Leads [] (takes (1 ∷ 0 ∷ 0 ∷ []) ∷ takes (0 ∷ 7 ∷ 0 ∷ 0 ∷ 0 ∷ 0 ∷ 3 ∷ []) ∷ gives (record { session = 7; body = open_session }) ∷ []) (3 ∷ [])
two_pieces = (record { session = lit< tt; body = tt }, (3 ∷ [], refl, refl))
