-- The requests of a stream do not depend on its pieces.
use Rattle.std.proofs.Common.{◌≡◌, ℕ, List, [], ◌∷◌, ◌++◌, sym, ◌∙◌, ap, append_assoc, append-nil}
use Rattle.std.specs.List.{AllByRecursion}
use Rattle.compose_wire.specs.Messages.{Fits}
use Rattle.compose_wire.specs.Frames.{frame, frames, BeginsWithFrame}
use Rattle.compose_wire.specs.Cut.{Turn, takes, gives, Leads, stream_of, requests_of}
use Rattle.compose_wire.proofs.Stream.{one_stream}

all_fit : (turns : List Turn) (held held' : List ℕ) → Leads held turns held' → AllByRecursion Fits (requests_of turns)
all_fit [] held held' l = tt
all_fit (takes piece ∷ turns) held held' l = all_fit turns (held ++ piece) held' l
all_fit (gives q ∷ turns) held held' l = (l.0, all_fit turns l.1.0 held' l.1.2)

-- the bytes held and received are those returned and held
bytes_conserved : (turns : List Turn) (held held' : List ℕ) → Leads held turns held' → held ++ stream_of turns ≡ frames (requests_of turns) ++ held'
bytes_conserved [] held held' l = append-nil held ∙ l
bytes_conserved (takes piece ∷ turns) held held' l = sym (append_assoc held piece (stream_of turns)) ∙ bytes_conserved turns (held ++ piece) held' l
bytes_conserved (gives q ∷ turns) held held' l =
    ap (λ h. h ++ stream_of turns) l.1.1 ∙ append_assoc (frame q) l.1.0 (stream_of turns)
    ∙ ap (λ x. frame q ++ x) (bytes_conserved turns l.1.0 held' l.1.2) ∙ sym (append_assoc (frame q) (frames (requests_of turns)) held')

-- the same stream leads to the same requests, and leaves the same bytes, however it is cut, once
-- each side has returned all that are whole
pub any_cut : (turns turns' : List Turn) (held held' : List ℕ) → Leads [] turns held → Leads [] turns' held' → stream_of turns ≡ stream_of turns'
    → (BeginsWithFrame held → ⊥) → (BeginsWithFrame held' → ⊥) → (requests_of turns ≡ requests_of turns') × (held ≡ held')
any_cut turns turns' held held' l l' e n n' =
    one_stream (requests_of turns) (requests_of turns') held held' (all_fit turns [] held l) (all_fit turns' [] held' l') n n'
    (sym (bytes_conserved turns [] held l) ∙ e ∙ bytes_conserved turns' [] held' l')
