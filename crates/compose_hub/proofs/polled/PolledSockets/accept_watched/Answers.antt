use Rattle.std.proofs.Common.{◌≡◌, ◌∙◌, ℕ, List, [], ◌∷◌, ◌++◌, Option, refl, sym, ap, subst, inl, inr, append_assoc}
use Rattle.std.specs.Prelude.{◌⊎◌, Some, None}
use Rattle.compose_hub.specs.Calls.{Call, accepts, watches_both, calls_more, AreAccepting}
use Rattle.compose_hub.specs.declared.sockets.AcceptedStream.{AcceptedStream}
use Rattle.compose_hub.specs.declared.sockets.AcceptedStream.TheVariants.{Connection, GivenUp}
use Rattle.compose_hub.proofs.polled.PolledSockets.accept_watched.Goals as goal

calls_both : (calls : Option (List Call)) (a b : List Call) → calls_more (calls_more calls a) b ≡ calls_more calls (a ++ b)
calls_both None a b = refl
calls_both (Some made) a b = ap (λ (l : List Call). Some l) (append_assoc made a b)

accepted_or_given_up : (key : ℕ) (result : AcceptedStream) → (result ≡ Connection) ⊎ (result ≡ GivenUp) → AreAccepting key result (accepts ∷ watches_both key ∷ [])
accepted_or_given_up key result (inl e) = subst (λ (r : AcceptedStream). AreAccepting key r (accepts ∷ watches_both key ∷ [])) (sym e) refl
accepted_or_given_up key result (inr e) = subst (λ (r : AcceptedStream). AreAccepting key r (accepts ∷ watches_both key ∷ [])) (sym e) (inr (inr refl))

pub returns-in-Ok-clause-calls : goal.returns-in-Ok-clause-calls
returns-in-Ok-clause-calls g c =
    let key : ℕ = c.args.key in (
      accepts ∷ watches_both key ∷ [],
      accepted_or_given_up key c.admit.result c.admit.ensures.either,
      c.admit.ensures.calls ∙ ap (λ (calls : Option (List Call)). calls_more calls (watches_both key ∷ [])) c.accept_next.ensures
          ∙ calls_both (g.S.SocketCalls.calls c.args.self.now.system) (accepts ∷ []) (watches_both key ∷ []),
    )
