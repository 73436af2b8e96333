-- One request to a service that keeps its table.
use Rattle.std.proofs.Common.{◌≡◌, ℕ, List, [], ◌∷◌, ◌++◌, refl, sym, ap, subst, inl, inr}
use Rattle.std.specs.Prelude.{◌⊎◌, IsFalse}
use Rattle.std.specs.List.{AllByRecursion}
use Rattle.keysym_core.specs.Names.{KeysymNames}
use Rattle.compose_model.specs.Table.{Definition}
use Rattle.compose_model.specs.Certificate.{Certificate}
use Rattle.compose_model.specs.declared.Rule.{Rule}
use Rattle.compose_wire.specs.Messages as words
use Rattle.compose_wire.specs.Messages.{Body, open_session, key, reset, close, load, ask, Request, session_taken, no_session, full, bad_keysym, no_memory, opened, fed, was_reset, closed, loaded, state, refused, code}
use Rattle.compose_wire.specs.Replies.{HasAnswerValue}
use Rattle.compose_wire.specs.declared.reply.ReplyBody.{ReplyBody}
use Rattle.compose_wire.specs.declared.reply.ReplyBody.TheVariants.{Refused}
use Rattle.compose_machine.specs.Machine.{ServiceState, Answers, Step, parts, one_more}
use Rattle.compose_machine.specs.Laws.{is_load}
use Rattle.compose_machine.specs.Late.{seen, swapped, AreKept}
use Rattle.compose_machine.proofs.Stored.{stands}
use Rattle.compose_service.specs.Reading.{reading}
use Rattle.compose_service.specs.Refusals.{refusal_of}
use Rattle.compose_service.specs.Answered.{IsJudged}
use Rattle.compose_service.specs.declared.refusal.RefusalCode.{RefusalCode}
use Rattle.compose_service.specs.declared.refusal.RefusalCode.TheVariants.{SessionTaken, NoSession, Full, BadKeysym, BadBundle, TableRefused, CertificateRefused, VerdictNo, NoMemory}
use Rattle.compose_keep.specs.Kept.{Kept}
use Rattle.compose_keep.specs.Keeping.{Keeping, HasTable, MayBeFound, KeepsStep, kept_after}
use Rattle.compose_keep.specs.Answered.{KeepsLoad}

pub nothing_more : {A : Type 0} (xs : List A) → xs ≡ xs ++ []
nothing_more [] = refl
nothing_more (x ∷ xs) = ap (λ ys. x ∷ ys) (nothing_more xs)

pub all_so : {A : Type 0} (P Q : A → Type 0) → ((x : A) → P x → Q x) → (xs : List A) → AllByRecursion P xs → AllByRecursion Q xs
all_so P Q so [] a = tt
all_so P Q so (x ∷ xs) a = (so x a.0, all_so P Q so xs a.1)

-- ---- a load

module _ (old : Keeping) (rule : Rule) (bytes : List ℕ) where
  -- it is refused with this reason, and nothing changes
  left : (number : ℕ) (why : words.Refusal) → number ≡ code why → ((n : ℕ) → Answers reading (seen old.service) n (load rule bytes) (refused why) (seen old.service)) → KeepsLoad old rule bytes (Refused number) old
  left number why e h = record { expected = refused why; says = e; answers = h; during = []; longer = nothing_more old.moments; found = tt; kept = refl }

  pub load_refused : (why : RefusalCode) (number : ℕ) → number ≡ code (refusal_of why) → Answers reading old.service 0 (load rule bytes) (refused (refusal_of why)) old.service
      → KeepsLoad old rule bytes (Refused number) old
  load_refused SessionTaken number e h = absurd h
  load_refused NoSession number e h = absurd h
  load_refused Full number e h = absurd h
  load_refused BadKeysym number e h = absurd h
  load_refused BadBundle number e h = left number words.bad_bundle e (λ n. (h.0, refl))
  load_refused TableRefused number e h = left number words.table_refused e (λ n. (h.0, refl))
  load_refused CertificateRefused number e h = left number words.certificate_refused e (λ n. (h.0, refl))
  load_refused VerdictNo number e h = left number words.verdict_no e (λ n. (h.0, h.1, h.2, h.3, refl))
  load_refused NoMemory number e h = left number words.no_memory e (λ n. refl)

  module _ (table : List Definition) (certificate : Certificate) (judged : IsJudged old.service rule bytes table certificate) (during moments : List Kept) (longer : moments ≡ old.moments ++ during)
      (either : AllByRecursion (λ k. (k ≡ old.kept) ⊎ (k ≡ record { rule = rule; payload = bytes })) during) (kept : Kept) where
    asked : (k : Kept) → (k ≡ old.kept) ⊎ (k ≡ record { rule = rule; payload = bytes }) → MayBeFound old (load rule bytes) k
    asked k (inl e) = inl e
    asked k (inr e) = inr (table, certificate, judged, e)

    found : AllByRecursion (MayBeFound old (load rule bytes)) during
    found = all_so (λ (k : Kept). (k ≡ old.kept) ⊎ (k ≡ record { rule = rule; payload = bytes })) (MayBeFound old (load rule bytes)) asked during either

    -- it is judged and can't be kept
    pub load_unkept : (number : ℕ) → number ≡ code words.no_memory → kept ≡ old.kept → KeepsLoad old rule bytes (Refused number) (record { service = old.service; kept = kept; moments = moments })
    load_unkept number e is = record { expected = refused words.no_memory; says = e; answers = λ n. refl; during = during; longer = longer; found = found; kept = is }

    -- it is judged, kept and swapped in
    pub load_kept : (answer : ReplyBody) (new : ServiceState) → AreKept old.service.table old.service.sessions → kept ≡ record { rule = rule; payload = bytes }
        → new ≡ swapped old.service table certificate.fresh → HasAnswerValue answer (loaded (one_more old.service.loads))
        → KeepsLoad old rule bytes answer (record { service = new; kept = kept; moments = moments })
    load_kept answer new sound is e says = record {
      expected = loaded (one_more old.service.loads);
      says = says;
      answers = λ n. (stands reading old.service new n sound (load rule bytes) (loaded (one_more old.service.loads)) (table, certificate, judged.read, judged.prefix_free, judged.accepted, refl, e)).step;
      during = during;
      longer = longer;
      found = found;
      kept = is;
    }

    -- what is kept then is what is served
    pub served_next : (new : ServiceState) → kept ≡ record { rule = rule; payload = bytes } → new ≡ swapped old.service table certificate.fresh → HasTable new.names kept new.table
    served_next new is e =
        subst (λ (s : ServiceState). HasTable s.names kept s.table) (sym e) (subst (λ (k : Kept). HasTable old.service.names k table) (sym is) (certificate, judged.read))

-- as the answer to a request whose body is the load
pub from_load : (old new : Keeping) (rule : Rule) (bytes : List ℕ) (answer : ReplyBody) (n : ℕ) (body : Body) → body ≡ load rule bytes → KeepsLoad old rule bytes answer new
    → (expected : words.Reply) × KeepsStep old (record { session = n; body = body }) expected new × ((n ≡ expected.session) × HasAnswerValue answer expected.answer)
from_load old new rule bytes answer n body is h = (
  record { session = n; answer = h.expected },
  subst (λ (b : Body). KeepsStep old (record { session = n; body = b }) (record { session = n; answer = h.expected }) new) (sym is)
      (record { step = (refl, h.answers n); during = h.during; longer = h.longer; found = h.found; kept = h.kept }),
  (refl, h.says),
)

-- ---- any other request

abbrev pub frame : ServiceState → List Definition × KeysymNames
frame s = (s.table, s.names)

-- the table and the names stay
pub other_frame : (old : ServiceState) (n : ℕ) (b : Body) (a : words.ReplyBody) (new : ServiceState) → IsFalse (is_load b) → Answers reading old n b a new → frame new ≡ frame old
other_frame old n open_session opened new f h = ap frame h.2
other_frame old n open_session (refused session_taken) new f h = ap frame h.1
other_frame old n open_session (refused full) new f h = ap frame h.2
other_frame old n open_session (refused no_memory) new f h = ap frame h.2
other_frame old n (key k) (fed status accepted text) new f h = ap frame h.6
other_frame old n (key k) (refused no_session) new f h = ap frame h.1
other_frame old n (key k) (refused bad_keysym) new f h = ap frame h.2
other_frame old n reset was_reset new f h = ap frame h.1
other_frame old n reset (refused no_session) new f h = ap frame h.1
other_frame old n close closed new f h = ap frame h.1
other_frame old n close (refused no_session) new f h = ap frame h.1
other_frame old n ask (state status pending) new f h = ap frame h.1
other_frame old n ask (refused no_session) new f h = ap frame h.1
other_frame old n (load rule bytes) a new f h = cc
other_frame old n _ _ new f h = absurd h

kept_on : (k : Kept) (b : Body) (a : words.ReplyBody) → IsFalse (is_load b) → k ≡ kept_after k b a
kept_on k open_session a f = refl
kept_on k (key x) a f = refl
kept_on k reset a f = refl
kept_on k close a f = refl
kept_on k (load rule bytes) a f = cc
kept_on k ask a f = refl

pub served_on : (old new : ServiceState) (k : Kept) (q : Request) (r : words.Reply) → IsFalse (is_load q.body) → Step reading (seen old) q r (seen new) → HasTable old.names k old.table
    → HasTable new.names k new.table
served_on old new k q r f h has =
    subst (λ (p : List Definition × KeysymNames). HasTable p.1 k p.0) (sym (other_frame (seen old) q.session q.body r.answer (seen new) f h.1)) has

pub other_kept : (old : Keeping) (new : ServiceState) (q : Request) (r : words.Reply) → IsFalse (is_load q.body) → Step reading (seen old.service) q r (seen new)
    → KeepsStep old q r (record { service = new; kept = old.kept; moments = old.moments })
other_kept old new q r f h = record { step = h; during = []; longer = nothing_more old.moments; found = tt; kept = kept_on old.kept q.body r.answer f }
