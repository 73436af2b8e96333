-- The effect of a key on a session, by the target after the pending keysyms.
use Rattle.std.proofs.Common.{◌≡◌, subst, ℕ, ◌<◌, List, [], ◌∷◌, ◌++◌, Bool, true, false, length, not, refl, sym, ◌∙◌, ap, ap₂, ◌+◌, Option, Some, None, arith, unwrap_or}
use Rattle.std.proofs.lemmas.List.{length-append}
use Rattle.keysym_core.specs.Keysym.{is_ignored}
use Rattle.keysym_core.specs.Names.{KeysymNames, text}
use Rattle.compose_model.specs.Table.{Definition, is_table, text_at}
use Rattle.compose_model.specs.Step.{Effect, passes, cancels, effect, is_empty, pending_by, status_by, text_by, step}
use Rattle.compose_model.specs.Session.{Session, fed}
use Rattle.compose_model.specs.declared.Status.{Status}
use Rattle.compose_model.specs.declared.Status.TheVariants.{Nothing, Cancelled}
use Rattle.std.specs.Prelude.{if◌then◌else◌}
use Rattle.compose_tree.specs.declared.table.NodeId.{NodeId}
use Rattle.compose_tree.specs.declared.table.LeafId.{LeafId}
use Rattle.compose_tree.specs.declared.table.Target.{Target}
use Rattle.compose_tree.specs.declared.table.Target.TheVariants.{Node, Leaf}
use Rattle.compose_tree.specs.Targets.{target_of, leaf_text}
use Rattle.compose_tree.proofs.Steps.{effect_at, effect_by_target}
use Rattle.compose_state.specs.declared.fed.Fed.{Fed}
use Rattle.compose_state.specs.Texts.{text_bytes}
use Rattle.compose_state.specs.Answers.{IsFed, ComesFrom}
use Rattle.compose_state.proofs.PathNodes.{to_node, to_leaf, extended_short}

-- the session after a key with this effect
pub fed_by : (table : List Definition) (s : Session) (k : ℕ) (x : Effect) → effect table s.pending k ≡ x
    → fed table s k ≡ (let t : Session = record { pending = pending_by x s.pending k; status = status_by x s.status } in t)
fed_by table s k x e = ap (λ y. let t : Session = record { pending = pending_by y s.pending k; status = status_by y s.status } in t) e

-- the effect of a key with this target
pub effect_is_by : (table : List Definition) (p : List ℕ) (k : ℕ) (t : Option Target) → is_ignored k ≡ false → target_of table p k ≡ t → effect table p k ≡ effect_at (is_empty p) t
effect_is_by table p k t fed e = effect_by_target table p k fed ∙ ap (effect_at (is_empty p)) e

-- the effect on a session of a key that is not ignored and leads to this target
module _ (table : List Definition) (s : Session) (k : ℕ) (t : Option Target) (accepted : is_ignored k ≡ false) (leads : target_of table s.pending k ≡ t) where
  -- the session after it
  pub session_after : (u : List ℕ) (status : Status) → u ≡ pending_by (effect_at (is_empty s.pending) t) s.pending k → status ≡ status_by (effect_at (is_empty s.pending) t) s.status
      → (let after : Session = record { pending = u; status = status } in after) ≡ fed table s k
  session_after u status e f =
      ap₂ (λ (v : List ℕ) (x : Status). let after : Session = record { pending = v; status = x } in after) e f
      ∙ sym (fed_by table s k (effect_at (is_empty s.pending) t) (effect_is_by table s.pending k t accepted leads))

  -- the answer to it, if the session is another name of this one
  pub answered : (same : Session) → s ≡ same → (names : KeysymNames) (answer : Fed) → answer.accepted ≡ true → answer.status ≡ status_by (effect_at (is_empty s.pending) t) s.status
      → text_bytes answer.text ≡ text_by (effect_at (is_empty s.pending) t) names table s.pending k → ComesFrom (effect_at (is_empty s.pending) t) answer.text → IsFed names table same k answer
  answered same is names answer e f g from = record {
    accepted = e ∙ ap not (sym accepted);
    status = f ∙ ap (λ x. status_by x s.status) (sym (effect_is_by table s.pending k t accepted leads)) ∙ ap (λ x. (fed table x k).status) is;
    text = g ∙ ap (λ x. text_by x names table s.pending k) (sym (effect_is_by table s.pending k t accepted leads)) ∙ ap (λ x. (step names table x.pending k).text) is;
    source = subst (λ x. ComesFrom x answer.text) (sym (effect_is_by table s.pending k t accepted leads) ∙ ap (λ x. effect table x.pending k) is) from;
  }

-- the text of the leaf to which the key leads is the one that its step commits
pub leaf_commits : (table : List Definition) (p : List ℕ) (k : ℕ) (l : LeafId) (text : List ℕ) → target_of table p k ≡ Some (Leaf l) → leaf_text table l.0 ≡ Some text
    → text ≡ unwrap_or (text_at table (p ++ k ∷ [])) []
leaf_commits table p k l text e f = ap (λ o. unwrap_or o []) (sym f ∙ (to_leaf table p k l e).text)

-- if a key leads on to a node, fewer than 31 keysyms were pending before it
pub node_room : (table : List Definition) (p : List ℕ) (k : ℕ) (n : NodeId) → is_table table ≡ true → target_of table p k ≡ Some (Node n) → length p < 31
node_room table p k n sound e =
    let short : length (p ++ k ∷ []) < 32 = extended_short table (p ++ k ∷ []) sound (to_node table p k n e).extended in
    let long : length (p ++ k ∷ []) ≡ length p + 1 = length-append p (k ∷ []) in
    omega arith

-- a key that leads nowhere passes at rest, and else cancels
abbrev pub session_apart : Session → Session
session_apart s = if is_empty s.pending then record { pending = []; status = Nothing } else record { pending = []; status = Cancelled }

module _ (table : List Definition) (s : Session) (k : ℕ) (accepted : is_ignored k ≡ false) (nowhere : target_of table s.pending k ≡ None) where
  -- the session after a key that leads nowhere
  pub fed_apart : session_apart s ≡ fed table s k
  fed_apart = go (is_empty s.pending) ∙ sym (fed_by table s k (effect_at (is_empty s.pending) None) (effect_is_by table s.pending k None accepted nowhere))
    where
      go : (b : Bool) → (let x : Session = if b then record { pending = []; status = Nothing } else record { pending = []; status = Cancelled } in x)
          ≡ (let x : Session = record { pending = pending_by (effect_at b None) s.pending k; status = status_by (effect_at b None) s.status } in x)
      go true = refl
      go false = refl

  -- the answer to a key that leads nowhere: at rest the key's own text, and else a cancel without a
  -- text
  pub answered_apart : (names : KeysymNames) (answer : Fed) → answer.accepted ≡ true → answer.status ≡ (session_apart s).status
      → text_bytes answer.text ≡ (if is_empty s.pending then text names k else []) → ComesFrom (if is_empty s.pending then passes else cancels) answer.text → IsFed names table s k answer
  answered_apart names answer e f g from =
      answered table s k None accepted nowhere s refl names answer e (f ∙ same_status (is_empty s.pending)) (g ∙ same_text (is_empty s.pending))
      (subst (λ x. ComesFrom x answer.text) (same_effect (is_empty s.pending)) from)
    where
      same_status : (b : Bool)
          → (let x : Session = if b then record { pending = []; status = Nothing } else record { pending = []; status = Cancelled } in x).status ≡ status_by (effect_at b None) s.status
      same_status true = refl
      same_status false = refl

      same_effect : (b : Bool) → (if b then passes else cancels) ≡ effect_at b None
      same_effect true = refl
      same_effect false = refl

      same_text : (b : Bool) → (if b then text names k else []) ≡ text_by (effect_at b None) names table s.pending k
      same_text true = refl
      same_text false = refl

-- two sessions with the same pending keysyms, and a key that is not ignored: its effect sets the
-- status, whatever it was
module _ (table : List Definition) (s other : Session) (k : ℕ) (accepted : is_ignored k ≡ false) (same : s.pending ≡ other.pending) where
  status_set : (b : Bool) (t : Option Target) → status_by (effect_at b t) s.status ≡ status_by (effect_at b t) other.status
  status_set b (Some (Node n)) = refl
  status_set b (Some (Leaf l)) = refl
  status_set true None = refl
  status_set false None = refl

  abbrev effect_of : Effect
  effect_of = effect_at (is_empty s.pending) (target_of table s.pending k)

  -- the session after the key is the same
  pub same_fed : fed table s k ≡ fed table other k
  same_fed =
      fed_by table s k effect_of (effect_is_by table s.pending k (target_of table s.pending k) accepted refl)
      ∙ ap₂ (λ (p : List ℕ) (x : Status). let after : Session = record { pending = pending_by effect_of p k; status = x } in after) same (status_set (is_empty s.pending) (target_of table s.pending k))
      ∙ sym (fed_by table other k effect_of (ap (λ p. effect table p k) (sym same) ∙ effect_is_by table s.pending k (target_of table s.pending k) accepted refl))

  -- the answer to the key is the same
  pub same_answered : (names : KeysymNames) (answer : Fed) → IsFed names table s k answer → IsFed names table other k answer
  same_answered names answer h = record {
    accepted = h.accepted;
    status = h.status ∙ ap (λ z. z.status) same_fed;
    text = h.text ∙ ap (λ p. (step names table p k).text) same;
    source = subst (λ p. ComesFrom (effect table p k) answer.text) same h.source;
  }
