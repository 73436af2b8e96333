-- Runs one after another, and runs as histories.
use Rattle.std.proofs.Common.{◌≡◌, List, [], ◌∷◌, ◌++◌, map, refl, ap, subst}
use Rattle.compose_wire.specs.Messages.{Request, Reply}
use Rattle.compose_machine.specs.Machine.{ServiceState, Reading, Run}
use Rattle.compose_machine.specs.Laws.{Exchange, IsHistory}

module _ (reading : Reading) where
  -- two runs, the second of which begins where the first ends, are one run
  pub joined : (old mid new : ServiceState) (p q : List Request) (r s : List Reply) → Run reading old p r mid → Run reading mid q s new → Run reading old (p ++ q) (r ++ s) new
  joined old mid new [] q [] s a b = subst (λ (o : ServiceState). Run reading o q s new) a b
  joined old mid new [] q (y ∷ r) s a b = absurd a
  joined old mid new (x ∷ p) q [] s a b = absurd a
  joined old mid new (x ∷ p) q (y ∷ r) s a b = (a.0, a.1, joined a.0 mid new p q r s a.2 b)

  -- a run that is divided after these requests
  pub record Parted (old : ServiceState) (p q : List Request) (replies : List Reply) (new : ServiceState) : Type 0 where
    pub mid : ServiceState
    pub first : List Reply
    pub second : List Reply
    pub both : replies ≡ first ++ second
    pub before : Run reading old p first mid
    pub after : Run reading mid q second new

  -- a run of two lists of requests is divided after the first of them
  pub parted : (old new : ServiceState) (p q : List Request) (replies : List Reply) → Run reading old (p ++ q) replies new → Parted old p q replies new
  parted old new [] q replies h = record { mid = old; first = []; second = replies; both = refl; before = refl; after = h }
  parted old new (x ∷ p) q [] h = absurd h
  parted old new (x ∷ p) q (y ∷ replies) h =
      let rest = parted h.0 new p q replies h.2 in
      record { mid = rest.mid; first = y ∷ rest.first; second = rest.second; both = ap (λ rs. y ∷ rs) rest.both; before = (h.0, h.1, rest.before); after = rest.after }

  -- a run whose requests have their replies beside them
  pub record HasHistory (old : ServiceState) (requests : List Request) (replies : List Reply) (new : ServiceState) : Type 0 where
    pub history : List Exchange
    pub asked : map (λ x. x.request) history ≡ requests
    pub expected : map (λ x. x.reply) history ≡ replies
    pub is : IsHistory reading old history new

  -- every run has a history with its requests and its replies
  pub history_of : (old new : ServiceState) (requests : List Request) (replies : List Reply) → Run reading old requests replies new → HasHistory old requests replies new
  history_of old new [] [] h = record { history = []; asked = refl; expected = refl; is = h }
  history_of old new [] (y ∷ replies) h = absurd h
  history_of old new (x ∷ requests) [] h = absurd h
  history_of old new (x ∷ requests) (y ∷ replies) h =
      let rest = history_of h.0 new requests replies h.2 in
      record {
        history = record { request = x; reply = y } ∷ rest.history;
        asked = ap (λ qs. x ∷ qs) rest.asked;
        expected = ap (λ rs. y ∷ rs) rest.expected;
        is = (h.0, h.1, rest.is);
      }

  -- a history is a run of its requests and its replies
  pub is_run : (old new : ServiceState) (h : List Exchange) → IsHistory reading old h new → Run reading old (map (λ x. x.request) h) (map (λ x. x.reply) h) new
  is_run old new [] e = e
  is_run old new (x ∷ h) e = (e.0, e.1, is_run e.0 new h e.2)
