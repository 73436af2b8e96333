-- The bytes of requests in a row.
use Rattle.std.proofs.Common.{◌≡◌, ℕ, List, [], ◌∷◌, ◌++◌, ap, sym, refl, ◌∙◌, append_assoc}
use Rattle.compose_wire.specs.Messages.{Body}
use Rattle.compose_wire.specs.Frames.{frame}
use Rattle.compose_typing.specs.TypingSession.{sent}

pub sent_append : (n : ℕ) (xs ys : List Body) → sent n (xs ++ ys) ≡ sent n xs ++ sent n ys
sent_append n [] ys = refl
sent_append n (b ∷ bs) ys =
    ap (λ (t : List ℕ). frame (record { session = n; body = b }) ++ t) (sent_append n bs ys) ∙ sym (append_assoc (frame (record { session = n; body = b })) (sent n bs) (sent n ys))
