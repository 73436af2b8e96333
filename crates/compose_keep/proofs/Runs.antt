-- Whole runs of a service that keeps its table, and cuts of them.
use Rattle.std.proofs.Common.{arith, ◌≡◌, ◌∙◌, ℕ, zero, suc, ◌≤◌, List, [], ◌∷◌, ◌++◌, Bool, true, false, cond, not, length, refl, sym, ap, subst, inl, inr, eq-eqb}
use Rattle.std.specs.Prelude.{◌==◌, Option, Some, None, is_some}
use Rattle.keysym_core.specs.Names.{KeysymNames}
use Rattle.compose_model.specs.Table.{Definition}
use Rattle.compose_model.specs.Follows.{Follows}
use Rattle.compose_model.specs.Certificate.{Certificate}
use Rattle.compose_model.specs.declared.Rule.{Rule}
use Rattle.compose_model.proofs.Chain.{follows_itself, follows_chain}
use Rattle.compose_model.proofs.Lift.{lift}
use Rattle.compose_wire.specs.Messages as words
use Rattle.compose_wire.specs.Messages.{Body, open_session, key, reset, close, load, ask, Request, bad_bundle, table_refused, certificate_refused, verdict_no, no_memory, closed, loaded, refused}
use Rattle.compose_machine.specs.Machine.{ServiceState, Row, Answers, Run, Parts, parts, are_allowed, Accepts, with_sessions, without_session, session_of}
use Rattle.compose_machine.specs.Laws.{Exchange, parts_of, fresh_in}
use Rattle.compose_machine.specs.Late.{seen}
use Rattle.compose_service.specs.Reading.{reading}
use Rattle.compose_service.specs.Answered.{IsJudged}
use Rattle.compose_keep.specs.Kept.{Kept}
use Rattle.compose_keep.specs.Keeping.{Keeping, HasTable, IsServed, IsNext, MayBeFound, kept_after}
use Rattle.compose_keep.specs.Laws.{KeepsAll, fresh_at, fresh_of, Leaves, StaysServed, CutsLeave, Life, IsLife, all_fresh, LivesFollow, NextLoadGoesThrough}
use Rattle.compose_keep.proofs.Steps.{all_so, frame, other_frame, nothing_more}

-- what is served and kept after a request, or after several: a table that follows, but for these
-- keys
pub record Moved (old new : ServiceState) (k : Kept) (fresh : List ℕ) : Type 0 where
  pub served : HasTable new.names k new.table
  pub names : new.names ≡ old.names
  pub follows : Follows old.names fresh old.table new.table

-- the same table is kept and served
still : (old new : ServiceState) (k k' : Kept) → HasTable old.names k old.table → frame new ≡ frame old → k' ≡ k → Moved old new k' []
still old new k k' has e is = record {
  served = subst (λ (p : List Definition × KeysymNames). HasTable p.1 k' p.0) (sym e) (subst (λ (y : Kept). HasTable old.names y old.table) (sym is) has);
  names = ap (λ (p : List Definition × KeysymNames). p.1) e;
  follows = subst (λ (p : List Definition × KeysymNames). Follows old.names [] old.table p.0) (sym e) (follows_itself old.names old.table);
}

-- a table that a load brings
brought : (old new : ServiceState) (rule : Rule) (bytes : List ℕ) (k' : Kept) (table : List Definition) (certificate : Certificate) → reading rule old.names bytes ≡ parts table certificate
    → IsJudged old rule bytes table certificate → frame new ≡ (table, old.names) → k' ≡ record { rule = rule; payload = bytes } → Moved old new k' (fresh_in (reading rule old.names bytes))
brought old new rule bytes k' table certificate read judged e is = record {
  served = subst (λ (p : List Definition × KeysymNames). HasTable p.1 k' p.0) (sym e) (subst (λ (y : Kept). HasTable old.names y table) (sym is) (certificate, read));
  names = ap (λ (p : List Definition × KeysymNames). p.1) e;
  follows =
      subst (λ (p : List Definition × KeysymNames). Follows old.names (fresh_in (reading rule old.names bytes)) old.table p.0) (sym e)
      (subst (λ (p : Parts). Follows old.names (fresh_in p) old.table table) (sym read)
      (lift old.names certificate.fresh old.table table certificate.pairs judged.prefix_free judged.accepted.0.simulates));
}

-- one request
step_on : (old new : ServiceState) (k k' : Kept) (n : ℕ) (b : Body) (a : words.ReplyBody) → HasTable old.names k old.table → Answers reading (seen old) n b a (seen new) → k' ≡ kept_after k b a
    → Moved old new k' (fresh_at old.names b a)
step_on old new k k' n open_session a has h is = still old new k k' has (other_frame (seen old) n open_session a (seen new) refl h) is
step_on old new k k' n (key x) a has h is = still old new k k' has (other_frame (seen old) n (key x) a (seen new) refl h) is
step_on old new k k' n reset a has h is = still old new k k' has (other_frame (seen old) n reset a (seen new) refl h) is
step_on old new k k' n close a has h is = still old new k k' has (other_frame (seen old) n close a (seen new) refl h) is
step_on old new k k' n ask a has h is = still old new k k' has (other_frame (seen old) n ask a (seen new) refl h) is
step_on old new k k' n (load rule bytes) (loaded count) has h is =
    brought old new rule bytes k' h.0 h.1 h.2 (record { read = h.2; prefix_free = h.3; accepted = h.4 }) (ap frame h.6) is
step_on old new k k' n (load rule bytes) (refused bad_bundle) has h is = still old new k k' has (ap frame h.1) is
step_on old new k k' n (load rule bytes) (refused table_refused) has h is = still old new k k' has (ap frame h.1) is
step_on old new k k' n (load rule bytes) (refused certificate_refused) has h is = still old new k k' has (ap frame h.1) is
step_on old new k k' n (load rule bytes) (refused verdict_no) has h is = still old new k k' has (ap frame h.4) is
step_on old new k k' n (load rule bytes) (refused no_memory) has h is = still old new k k' has (ap frame h) is
step_on old new k k' n _ _ has h is = absurd h

-- any requests
run_on : (old new : Keeping) (h : List Exchange) → IsServed old → KeepsAll old h new → Moved old.service new.service new.kept (fresh_of old.service.names h)
run_on old new [] served e =
    still old.service new.service old.kept new.kept served (ap (λ (s : Keeping). frame s.service) e) (ap (λ (s : Keeping). s.kept) e)
run_on old new (x ∷ h) served r =
    let mid : Keeping = r.0 in
    let one = step_on old.service mid.service old.kept mid.kept x.request.session x.request.body x.reply.answer served r.1.step.1 r.1.kept in
    let rest = run_on mid new h one.served r.2 in
    let later : Follows old.service.names (fresh_of old.service.names h) mid.service.table new.service.table =
    subst (λ (names : KeysymNames). Follows names (fresh_of names h) mid.service.table new.service.table) one.names rest.follows in
    record {
      served = rest.served;
      names = rest.names ∙ one.names;
      follows =
          follows_chain old.service.names (fresh_at old.service.names x.request.body x.reply.answer) (fresh_of old.service.names h) old.service.table mid.service.table new.service.table one.follows later;
    }

pub stays_served : StaysServed
stays_served start new h served r = (run_on start new h served r).served

-- ---- a cut

no_fresh : (allowed : Option (List ℕ)) → are_allowed allowed [] ≡ true
no_fresh None = refl
no_fresh (Some keys) = refl

module _ (start mid : Keeping) (before : List ℕ) (moved : Moved start.service mid.service mid.kept before) where
  leaves_kept : (k : Kept) → k ≡ mid.kept → Leaves start mid before k
  leaves_kept k e = record {
    table = mid.service.table;
    has = subst (λ (y : Kept). HasTable start.service.names y mid.service.table) (sym e) (subst (λ (names : KeysymNames). HasTable names mid.kept mid.service.table) moved.names moved.served);
    fresh = [];
    fresh_are = inl (e, refl);
    allowed = no_fresh mid.service.allowed;
    follows = follows_itself start.service.names mid.service.table;
    follows_start = subst (λ (f : List ℕ). Follows start.service.names f start.service.table mid.service.table) (nothing_more before) moved.follows;
  }

  leaves_next : (body : Body) (k : Kept) → IsNext mid.service body k → Leaves start mid before k
  leaves_next (load rule bytes) k n =
      let follows : Follows start.service.names n.1.fresh mid.service.table n.0 =
      subst (λ (names : KeysymNames). Follows names n.1.fresh mid.service.table n.0) moved.names
      (lift mid.service.names n.1.fresh mid.service.table n.0 n.1.pairs n.2.prefix_free n.2.accepted.0.simulates) in
      let read : reading rule start.service.names bytes ≡ parts n.0 n.1 = subst (λ (names : KeysymNames). reading rule names bytes ≡ parts n.0 n.1) moved.names n.2.read in
      record {
        table = n.0;
        has = subst (λ (y : Kept). HasTable start.service.names y n.0) (sym n.3) (n.1, read);
        fresh = n.1.fresh;
        fresh_are = inr (sym (ap (λ (y : Kept). fresh_in (reading y.rule start.service.names y.payload)) n.3 ∙ ap fresh_in read));
        allowed = n.2.accepted.1;
        follows = follows;
        follows_start = follows_chain start.service.names before n.1.fresh start.service.table mid.service.table n.0 moved.follows follows;
      }
  leaves_next open_session k n = absurd n
  leaves_next (key x) k n = absurd n
  leaves_next reset k n = absurd n
  leaves_next close k n = absurd n
  leaves_next ask k n = absurd n

  leaves : (body : Body) (k : Kept) → MayBeFound mid body k → Leaves start mid before k
  leaves body k (inl e) = leaves_kept k e
  leaves body k (inr n) = leaves_next body k n

pub cuts_leave : CutsLeave
cuts_leave start mid new h q r served run s =
    let moved = run_on start mid h served run in
    let before = fresh_of start.service.names h in (
      leaves_kept start mid before moved mid.kept refl,
      all_so (MayBeFound mid q.body) (Leaves start mid before) (leaves start mid before moved q.body) s.during s.found,
    )

-- ---- one service after another

-- what is kept has one table
abbrev table_in : Parts → List Definition
table_in (parts table certificate) = table
table_in _ = []

one_table : (names : KeysymNames) (k : Kept) (a b : List Definition) → HasTable names k a → HasTable names k b → a ≡ b
one_table names k a b h i = ap table_in (sym h.1 ∙ i.1)

-- what the next start finds: the fresh keysyms are those that are told
found_next : (names : KeysymNames) (s : ServiceState) (body : Body) (k : Kept) → s.names ≡ names → IsNext s body k
    → (table : List Definition) × HasTable names k table × Follows names (fresh_in (parts_of reading names body)) s.table table
found_next names s (load rule bytes) k e n =
    let read : reading rule names bytes ≡ parts n.0 n.1 = subst (λ (y : KeysymNames). reading rule y bytes ≡ parts n.0 n.1) e n.2.read in (
      n.0,
      subst (λ (y : Kept). HasTable names y n.0) (sym n.3) (n.1, read),
      subst (λ (p : Parts). Follows names (fresh_in p) s.table n.0) (sym read)
          (subst (λ (y : KeysymNames). Follows y n.1.fresh s.table n.0) e (lift s.names n.1.fresh s.table n.0 n.1.pairs n.2.prefix_free n.2.accepted.0.simulates)),
    )
found_next names s open_session k e n = absurd n
found_next names s (key x) k e n = absurd n
found_next names s reset k e n = absurd n
found_next names s close k e n = absurd n
found_next names s ask k e n = absurd n

life_on : (names : KeysymNames) (k : Kept) (l : Life) (table : List Definition) → HasTable names k table → IsLife names k l
    → (found : List Definition) × HasTable names l.found found × Follows names (fresh_of names l.answered ++ l.fresh) table found
life_on names k l table has life =
    let start = l.start.service in
    let cut = l.cut.service in
    let is : start.table ≡ table =
    one_table names k start.table table
    (subst (λ (y : Kept). HasTable names y start.table) life.starts_on (subst (λ (y : KeysymNames). HasTable y l.start.kept start.table) life.names_are life.served)) has in
    let moved = run_on l.start l.cut l.answered life.served life.run in
    let cut_names : cut.names ≡ names = moved.names ∙ life.names_are in
    let so_far : Follows names (fresh_of names l.answered) table cut.table =
    subst (λ (t : List Definition). Follows names (fresh_of names l.answered) t cut.table) is
    (subst (λ (y : KeysymNames). Follows y (fresh_of y l.answered) start.table cut.table) life.names_are moved.follows) in
    elim life.finds [
      | inl f ↦ (
        cut.table,
        subst (λ (y : Kept). HasTable names y cut.table) (sym f.0) (subst (λ (y : KeysymNames). HasTable y l.cut.kept cut.table) cut_names moved.served),
        subst (λ (fresh : List ℕ). Follows names (fresh_of names l.answered ++ fresh) table cut.table) (sym f.1)
            (subst (λ (fresh : List ℕ). Follows names fresh table cut.table) (nothing_more (fresh_of names l.answered)) so_far),
      )
      | inr f ↦ (
          let next = found_next names cut l.body l.found cut_names f.0 in (
            next.0,
            next.1,
            subst (λ (fresh : List ℕ). Follows names (fresh_of names l.answered ++ fresh) table next.0) (sym f.1)
                (follows_chain names (fresh_of names l.answered) (fresh_in (parts_of reading names l.body)) table cut.table next.0 so_far next.2),
          )
          )
    ]

pub lives_follow : LivesFollow
lives_follow names k last [] table has e = (table, subst (λ (y : Kept). HasTable names y table) (sym e) has, follows_itself names table)
lives_follow names k last (l ∷ ls) table has lives =
    let one = life_on names k l table has lives.0 in
    let rest = lives_follow names l.found last ls one.0 one.1 lives.1 in
    (rest.0, rest.1, follows_chain names (fresh_of names l.answered ++ l.fresh) (all_fresh names ls) table one.0 rest.0 one.2 rest.2)

-- ---- the next load

abbrev AcceptsParts : ServiceState → Parts → Type 0
AcceptsParts old (parts table certificate) = Accepts old table certificate
AcceptsParts old _ = ⊥

pub next_load : NextLoadGoesThrough
next_load old new n rule bytes table certificate (loaded count) read accepts h = inl (ap loaded h.5)
next_load old new n rule bytes table certificate (refused bad_bundle) read accepts h = cc
next_load old new n rule bytes table certificate (refused table_refused) read accepts h = cc
next_load old new n rule bytes table certificate (refused certificate_refused) read accepts h = cc
next_load old new n rule bytes table certificate (refused verdict_no) read accepts h =
    absurd (h.3 (let same : parts h.0 h.1 ≡ parts table certificate = sym h.2 ∙ read in subst (λ (p : Parts). AcceptsParts old p) (sym same) accepts))
next_load old new n rule bytes table certificate (refused no_memory) read accepts h = inr refl
next_load old new n rule bytes table certificate _ read accepts h = absurd h
