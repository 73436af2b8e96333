-- Each answer of the service is one that the late service may give.
use Rattle.std.proofs.Common.{◌≡◌, ℕ, ◌<◌, ◌≤◌, List, [], ◌∷◌, ◌++◌, Bool, map, length, not, refl, sym, ◌∙◌, ap, subst}
use Rattle.std.proofs.Common.{leb-true, leb-false, inl, inr}
use Rattle.std.proofs.lemmas.Bool.{cases_Bool}
use Rattle.std.proofs.Common.{true, rules}
use Rattle.std.specs.Result.{IsErrAnd}
use Rattle.std.specs.Prelude.{Result, Ok, Err, Option, Some, None, IsSome, IsNone, IsTrue, IsFalse, is_some, option_map}
use Rattle.keysym_core.specs.Keysym.{is_keysym, is_ignored}
use Rattle.compose_model.specs.Session.{Session, rest, fed as session_fed, loaded as session_loaded}
use Rattle.compose_model.specs.Step.{step}
use Rattle.compose_wire.specs.Messages as words
use Rattle.compose_wire.specs.Messages.{Body, code}
use Rattle.compose_wire.specs.Replies.{HasAnswerValue, HasReplyValue}
use Rattle.compose_wire.specs.declared.reply.ReplyBody.{ReplyBody}
use Rattle.compose_wire.specs.declared.reply.ReplyBody.TheVariants.{Opened, WasReset, Closed, Refused}
use Rattle.compose_machine.specs.Machine.{ServiceState, Step, Row, Accepts, session_of, with_session, with_sessions, without_session, max_sessions, one_more}
use Rattle.compose_machine.specs.Late.{seen, AreKept, refed_row, rows_at_swap, swapped, LateAnswers}
use Rattle.compose_machine.proofs.Stored.{stands, swap_kept}
use Rattle.compose_model.proofs.Lift.{lift}
use Rattle.compose_model.specs.Table.{Definition, is_prefix_free}
use Rattle.compose_model.specs.Certificate.{Certificate, IsValid}
use Rattle.compose_model.specs.declared.Rule.{Rule}
use Rattle.compose_model.specs.declared.Status.{Status}
use Rattle.compose_read.specs.declared.settling.SettleFault.TheVariants as settle_faults
use Rattle.compose_tree.specs.TableReturns.{NoTable, first_table, TableReturns}
use Rattle.compose_tree.specs.declared.table.BuildFault.TheVariants as build_faults
use Rattle.compose_tree.specs.declared.reading.TableFault.{TableFault}
use Rattle.compose_tree.specs.declared.reading.TableFault.TheVariants as table_faults
use Rattle.compose_cert.specs.Reading.{certificate_of}
use Rattle.compose_cert.specs.CertificateReturns.{CertificateReturns}
use Rattle.compose_cert.specs.declared.CertFault.{CertFault}
use Rattle.compose_cert.specs.declared.CertFault.TheVariants as cert_faults
use Rattle.compose_migration.specs.Refused.{TableFails}
use Rattle.compose_bundle.specs.Bundle.{Bundle, AreBytes}
use Rattle.compose_bundle.specs.Decoded.{bundle_of}
use Rattle.compose_bundle.specs.Written.{NotRead}
use Rattle.compose_bundle.proofs.OneBundle.{none}
use Rattle.compose_service.proofs.Kept.{own_changed, set_after, nobody_changed}
use Rattle.compose_service.specs.Reading.{reading, bundle_parts, parts_by}
use Rattle.compose_service.specs.Refusals.{refusal_of, of_bundle, of_table, of_certificate}
use Rattle.compose_service.specs.Answered.{Answered, ReadsLoad}
use Rattle.compose_bundle.specs.declared.BundleFault.{BundleFault}
use Rattle.compose_bundle.specs.declared.BundleFault.TheVariants as bundle_faults
use Rattle.compose_service.specs.declared.refusal.RefusalCode.{RefusalCode}
use Rattle.compose_service.specs.declared.refusal.RefusalCode.TheVariants.{SessionTaken, NoSession, Full, BadKeysym, BadBundle, TableRefused, CertificateRefused, VerdictNo, NoMemory}

-- what is stored stays sound
pub answered_kept : (old : ServiceState) (n : ℕ) (body : Body) (answer : ReplyBody) (new : ServiceState) → AreKept old.table old.sessions → Answered old n body answer new → AreKept new.table new.sessions
unfolding Answered
answered_kept old n body answer new kept h = (stands reading old new n kept body h.0 h.1).kept

-- is the number a keysym? its reader decides
pub not_keysym : (k : ℕ) (r : Option ℕ) → r ≡ None → (k ≤ 0x1fffffff → r ≡ Some k) → IsFalse (is_keysym k)
not_keysym k r none some = elim (cases_Bool (is_keysym k)) [
  | inl e ↦ absurd (let is : r ≡ Some k = some (leb-true k 0x1fffffff e) in cc)
  | inr e ↦ e
]

-- if a reader returns each number up to the greatest keysym and none above it, then what it returns
-- is that number, a keysym
pub keysym_is : (k x : ℕ) (r : Option ℕ) → r ≡ Some x → (k ≤ 0x1fffffff → r ≡ Some k) → (0x1fffffff < k → r ≡ None) → (x ≡ k) × IsTrue (is_keysym k)
keysym_is k x r is some none = elim (cases_Bool (is_keysym k)) [
  | inl e ↦ (let k_is : r ≡ Some k = some (leb-true k 0x1fffffff e) in cc, e)
  | inr e ↦ absurd (let no : r ≡ None = none (leb-false k 0x1fffffff e) in cc)
]

-- an answer to a key says what equals what it says
pub fed_says : (answer : ReplyBody) (s s' : Status) (a a' : Bool) (t t' : List ℕ) → s ≡ s' → a ≡ a' → t ≡ t' → HasAnswerValue answer (words.fed s a t) → HasAnswerValue answer (words.fed s' a' t')
fed_says answer s s' a a' t t' es ea et h =
    subst (λ y. HasAnswerValue answer (words.fed y a' t')) es (subst (λ y. HasAnswerValue answer (words.fed s y t')) ea (subst (λ y. HasAnswerValue answer (words.fed s a y)) et h))

module _ (old : ServiceState) (n : ℕ) where
  -- ---- Open

  -- an Open of a session that is there may be refused as taken, and nothing changes
  pub open_taken : (number : ℕ) → number ≡ code words.session_taken → IsSome (session_of old.sessions n) → Answered old n words.open_session (Refused number) old
  unfolding Answered
  open_taken number e h = (words.refused words.session_taken, (h, refl), e)

  -- an Open of another session may be refused as full if the greatest number of sessions is open,
  -- and nothing changes
  pub open_full : (number : ℕ) → number ≡ code words.full → IsNone (session_of old.sessions n) → max_sessions ≤ length old.sessions → Answered old n words.open_session (Refused number) old
  unfolding Answered
  open_full number e h l = (words.refused words.full, (h, l, refl), e)

  -- an Open of a new session that would have room may be refused for being out of memory, and the
  -- sessions stay
  pub open_no_memory : (number : ℕ) (rows : List Row) → number ≡ code words.no_memory → IsNone (session_of old.sessions n) → length old.sessions < max_sessions → rows ≡ old.sessions
      → Answered old n words.open_session (Refused number) (with_sessions old rows)
  unfolding Answered
  open_no_memory number rows e h l r = (words.refused words.no_memory, (h, l, ap (with_sessions old) r), e)

  -- an Open of a new session that has room may be answered with opened, and the session comes last,
  -- at rest
  pub open_opened : (rows : List Row) → IsNone (session_of old.sessions n) → length old.sessions < max_sessions → rows ≡ old.sessions ++ record { number = n; session = rest } ∷ []
      → Answered old n words.open_session Opened (with_sessions old rows)
  unfolding Answered
  open_opened rows h l r = (words.opened, (h, l, ap (with_sessions old) r), tt)

  -- ---- the others, of a session that is refed first

  module _ (rows : List Row) (refed_rows : rows ≡ map (refed_row old.table n) old.sessions) where
    none_there : IsNone (session_of rows n) → IsNone (session_of (map (refed_row old.table n) old.sessions) n)
    none_there h = subst (λ (rs : List Row). IsNone (session_of rs n)) refed_rows h

    one_there : IsSome (session_of rows n) → IsSome (session_of (map (refed_row old.table n) old.sessions) n)
    one_there h = subst (λ (rs : List Row). IsSome (session_of rs n)) refed_rows h

    -- a key for a session that is not there is refused for that, and the sessions stay as they are
    -- after refeeding
    pub key_no_session : (k number : ℕ) → number ≡ code words.no_session → IsNone (session_of rows n) → Answered old n (words.key k) (Refused number) (with_sessions old rows)
    unfolding Answered
    key_no_session k number e h = (words.refused words.no_session, (none_there h, ap (with_sessions old) refed_rows), e)

    -- a key that is not a keysym is refused for that if its session exists, and the sessions stay
    -- as they are after refeeding
    pub key_bad : (k number : ℕ) → number ≡ code words.bad_keysym → IsSome (session_of rows n) → IsFalse (is_keysym k) → Answered old n (words.key k) (Refused number) (with_sessions old rows)
    unfolding Answered
    key_bad k number e h f = (words.refused words.bad_keysym, (one_there h, f, ap (with_sessions old) refed_rows), e)

    pub key_fed : (k x : ℕ) (answer : ReplyBody) (rows' : List Row) (s : Session) → (x ≡ k) × IsTrue (is_keysym k) → session_of rows n ≡ Some s → rows' ≡ with_session rows n (session_fed old.table s x)
        → HasAnswerValue answer (words.fed (session_fed old.table s x).status (not (is_ignored x)) (step old.names old.table s.pending x).text)
        → Answered old n (words.key k) answer (with_sessions old rows')
    unfolding Answered
    key_fed k x answer rows' s t h r says =
        let there : session_of (map (refed_row old.table n) old.sessions) n ≡ Some s = subst (λ (rs : List Row). session_of rs n ≡ Some s) refed_rows h in (
          words.fed (session_fed old.table s x).status (not (is_ignored x)) (step old.names old.table s.pending x).text,
          (
            s,
            there,
            t.1,
            ap (λ (y : ℕ). (session_fed old.table s y).status) t.0,
            ap (λ (y : ℕ). not (is_ignored y)) t.0,
            ap (λ (y : ℕ). (step old.names old.table s.pending y).text) t.0,
            ap (with_sessions old) (r ∙ ap (λ (y : ℕ). with_session rows n (session_fed old.table s y)) t.0 ∙ ap (λ rs. with_session rs n (session_fed old.table s k)) refed_rows),
          ),
          says,
        )

    -- a reset of a session that is not there is refused for that, and the sessions stay as they are
    -- after refeeding
    pub reset_no_session : (number : ℕ) (rows' : List Row) → number ≡ code words.no_session → IsNone (session_of rows n) → rows' ≡ rows
        → Answered old n words.reset (Refused number) (with_sessions old rows')
    unfolding Answered
    reset_no_session number rows' e h r = (words.refused words.no_session, (none_there h, ap (with_sessions old) (r ∙ refed_rows)), e)

    -- a reset of a session that is there may be answered as done, and the session is then at rest
    pub reset_done : (rows' : List Row) → IsSome (session_of rows n) → rows' ≡ with_session rows n rest → Answered old n words.reset WasReset (with_sessions old rows')
    unfolding Answered
    reset_done rows' h r = (words.was_reset, (one_there h, ap (with_sessions old) (r ∙ ap (λ rs. with_session rs n rest) refed_rows)), tt)

    -- a close of a session that is not there is refused for that, and the sessions stay as they are
    -- after refeeding
    pub close_no_session : (number : ℕ) (rows' : List Row) → number ≡ code words.no_session → IsNone (session_of rows n) → rows' ≡ rows
        → Answered old n words.close (Refused number) (with_sessions old rows')
    unfolding Answered
    close_no_session number rows' e h r = (words.refused words.no_session, (none_there h, ap (with_sessions old) (r ∙ refed_rows)), e)

    -- a close of a session that is there may be answered as done, and the session is then gone
    pub close_done : (rows' : List Row) → IsSome (session_of rows n) → rows' ≡ without_session rows n → Answered old n words.close Closed (with_sessions old rows')
    unfolding Answered
    close_done rows' h r = (words.closed, (one_there h, ap (with_sessions old) (r ∙ ap (λ rs. without_session rs n) refed_rows)), tt)

    -- a question about a session that is not there is refused for that, and the sessions stay as
    -- they are after refeeding
    pub ask_no_session : (number : ℕ) → number ≡ code words.no_session → IsNone (session_of rows n) → Answered old n words.ask (Refused number) (with_sessions old rows)
    unfolding Answered
    ask_no_session number e h = (words.refused words.no_session, (none_there h, ap (with_sessions old) refed_rows), e)

    -- a question about a session that is there may be answered with the status and the pending
    -- keysyms that it has after refeeding
    pub ask_reported : (answer : ReplyBody) (s : Session) → session_of rows n ≡ Some s → HasAnswerValue answer (words.state s.status s.pending) → Answered old n words.ask answer (with_sessions old rows)
    unfolding Answered
    ask_reported answer s h says = (words.state s.status s.pending, (subst (λ (rs : List Row). session_of rs n ≡ Some s) refed_rows h, ap (with_sessions old) refed_rows), says)

  -- a key whose session is refed and fed at once

  -- a key for a session that is not stored is refused for that, and what is stored stays
  pub key_nobody : (k number : ℕ) (rows : List Row) → number ≡ code words.no_session → session_of old.sessions n ≡ None → rows ≡ old.sessions
      → Answered old n (words.key k) (Refused number) (with_sessions old rows)
  key_nobody k number rows e none r =
      key_no_session rows (r ∙ sym (nobody_changed n (session_loaded old.table) old.sessions none)) k number e (ap (λ rs. is_some (session_of rs n)) r ∙ ap is_some none)

  -- a key for a session that is stored is answered as the table answers it after refeeding the
  -- session, which is then stored fed
  pub key_refed : (k x : ℕ) (answer : ReplyBody) (rows : List Row) (s : Session) → (x ≡ k) × IsTrue (is_keysym k) → session_of old.sessions n ≡ Some s
      → rows ≡ with_session old.sessions n (session_fed old.table (session_loaded old.table s) x)
      → HasAnswerValue answer (words.fed (session_fed old.table (session_loaded old.table s) x).status (not (is_ignored x)) (step old.names old.table (session_loaded old.table s).pending x).text)
      → Answered old n (words.key k) answer (with_sessions old rows)
  key_refed k x answer rows s t there r says =
      key_fed (map (refed_row old.table n) old.sessions) refl k x answer rows (session_loaded old.table s) t
      (own_changed n (session_loaded old.table) old.sessions ∙ ap (option_map (session_loaded old.table)) there)
      (r ∙ sym (set_after n (session_loaded old.table) (session_fed old.table (session_loaded old.table s) x) old.sessions)) says

-- ---- Load

-- a valid table that becomes the current one keeps what is stored sound
pub swap_sound : (inside old : ServiceState) → inside ≡ old → (table : List Definition) (certificate : Certificate) (rows : List Row) → is_prefix_free table ≡ true
    → Accepts old table certificate
    → AreKept inside.table inside.sessions → rows ≡ rows_at_swap certificate.fresh inside.table inside.sessions → AreKept table rows
swap_sound inside old is table certificate rows free accepted kept e =
    let valid' : IsValid inside.names inside.table table inside.repertoire certificate = subst (λ (s : ServiceState). IsValid s.names s.table table s.repertoire certificate) (sym is) accepted.0 in
    let follows = lift inside.names certificate.fresh inside.table table certificate.pairs free valid'.simulates in
    subst (λ (rs : List Row). AreKept table rs) (sym e) (swap_kept inside.names certificate.fresh inside.table table inside.sessions follows valid'.fresh kept)

module _ (now : ServiceState) (rule : Rule) (bytes : List ℕ) {T : Type 0} (view : T → List Definition) where
  -- a load that is not read may be answered with that refusal, and nothing changes
  pub load_refused : (n : ℕ) (why : RefusalCode) (number : ℕ) → number ≡ code (refusal_of why) → ReadsLoad now rule bytes view (Err why) → Answered now n (words.load rule bytes) (Refused number) now
  unfolding Answered ReadsLoad
  load_refused n SessionTaken number e h = (words.refused words.session_taken, h, e)
  load_refused n NoSession number e h = (words.refused words.no_session, h, e)
  load_refused n Full number e h = (words.refused words.full, h, e)
  load_refused n BadKeysym number e h = (words.refused words.bad_keysym, h, e)
  load_refused n BadBundle number e h = (words.refused words.bad_bundle, h, e)
  load_refused n TableRefused number e h = (words.refused words.table_refused, h, e)
  load_refused n CertificateRefused number e h = (words.refused words.certificate_refused, h, e)
  load_refused n VerdictNo number e h = (words.refused words.verdict_no, h, e)
  load_refused n NoMemory number e h = (words.refused words.no_memory, h, e)

  -- a load that is read and not accepted may be answered with the verdict no, and nothing changes
  pub load_not_accepted : (n : ℕ) (p : T × Certificate) (number : ℕ) → number ≡ code words.verdict_no → ReadsLoad now rule bytes view (Ok p) → (Accepts now (view p.0) p.1 → ⊥)
      → Answered now n (words.load rule bytes) (Refused number) now
  unfolding Answered ReadsLoad
  load_not_accepted n p number e h refuses = (words.refused words.verdict_no, (view p.0, p.1, h, refuses, refl), e)

  -- a load that is read and accepted may be answered as loaded, with the count of loads, and its
  -- table is then the current one
  pub load_done : (n : ℕ) (p : T × Certificate) (answer : ReplyBody) (new : ServiceState) → ReadsLoad now rule bytes view (Ok p) → is_prefix_free (view p.0) ≡ true → Accepts now (view p.0) p.1
      → new ≡ swapped now (view p.0) p.1.fresh → HasAnswerValue answer (words.loaded (one_more now.loads)) → Answered now n (words.load rule bytes) answer new
  unfolding Answered ReadsLoad
  load_done n p answer new h free accepted e says = (words.loaded (one_more now.loads), (view p.0, p.1, h, free, accepted, refl, e), says)

  -- ---- what a load is read as

  -- if a payload is not read as a bundle, the load is refused for that fault
  pub bundle_fault : (fault : BundleFault) → AreBytes bytes → NotRead fault bytes → ReadsLoad now rule bytes view (Err (of_bundle fault))
  unfolding ReadsLoad
  bundle_fault bundle_faults.Form are h = (ap (bundle_parts rule now.names) (none bytes are h), refl)
  bundle_fault bundle_faults.TooLarge are h = absurd h
  bundle_fault bundle_faults.NoMemory are h = refl

  module _ (b : Bundle) (bundled : bundle_of bytes ≡ Some b) where
    no_fault : (fault : TableFault) (table : List Definition) → TableFails fault (Ok table) → ⊥
    no_fault (table_faults.Read fault) table h = search rules
    no_fault (table_faults.Settle fault) table h = search rules
    no_fault (table_faults.Build fault) table h = search rules
    no_fault table_faults.NoMemory table h = h

    reads : (expected : Result (List Definition) NoTable) → first_table now.names b.sources rule ≡ expected → reading rule now.names bytes ≡ parts_by expected (certificate_of b.certificate)
    reads expected e = ap (bundle_parts rule now.names) bundled ∙ ap (λ r. parts_by r (certificate_of b.certificate)) e

    table_refused_by : (fault : TableFault) (expected : Result (List Definition) NoTable) → of_table fault ≡ TableRefused → first_table now.names b.sources rule ≡ expected → TableFails fault expected
        → ReadsLoad now rule bytes view (Err TableRefused)
    unfolding ReadsLoad
    table_refused_by fault (Err why) is e h = (reads (Err why) e, refl)
    table_refused_by fault (Ok table) is e h = absurd (no_fault fault table h)

    -- if the sources of a bundle have no table, the load is refused for that fault
    pub table_fault : (fault : TableFault) → TableReturns view (Err fault) (first_table now.names b.sources rule) → ReadsLoad now rule bytes view (Err (of_table fault))
    unfolding ReadsLoad
    table_fault table_faults.NoMemory h = refl
    table_fault (table_faults.Read fault) h = table_refused_by (table_faults.Read fault) (first_table now.names b.sources rule) refl refl h
    table_fault (table_faults.Settle (settle_faults.Overlap short long)) h =
        table_refused_by (table_faults.Settle (settle_faults.Overlap short long)) (first_table now.names b.sources rule) refl refl h
    table_fault (table_faults.Settle settle_faults.NoMemory) h = absurd h
    table_fault (table_faults.Build build_faults.TooManyNodes) h = table_refused_by (table_faults.Build build_faults.TooManyNodes) (first_table now.names b.sources rule) refl refl h
    table_fault (table_faults.Build build_faults.NoMemory) h = absurd h

    module _ (table : T) (is_table : first_table now.names b.sources rule ≡ Ok (view table)) where
      reads_on : (expected : Result Certificate CertFault) → certificate_of b.certificate ≡ expected → reading rule now.names bytes ≡ parts_by (Ok (view table)) expected
      reads_on expected e = reads (Ok (view table)) is_table ∙ ap (parts_by (Ok (view table))) e

      -- if the table is read and the certificate is not, the load is refused for that fault
      pub certificate_fault : (fault : CertFault) → CertificateReturns (Err fault) (certificate_of b.certificate) → ReadsLoad now rule bytes view (Err (of_certificate fault))
      unfolding ReadsLoad
      certificate_fault cert_faults.NoMemory h = refl
      certificate_fault (cert_faults.NotText line) h = (reads_on (Err (cert_faults.NotText line)) h, refl)
      certificate_fault cert_faults.TooLarge h = (reads_on (Err cert_faults.TooLarge) h, refl)

      -- if the table and the certificate are read, the load is
      pub load_read : (certificate : Certificate) → certificate_of b.certificate ≡ Ok certificate → ReadsLoad now rule bytes view (Ok (table, certificate))
      unfolding ReadsLoad
      load_read certificate is_certificate = reads_on (Ok certificate) is_certificate

-- the result of a `?` is the refusal of its fault
pub raised : {T : Type 0} (now : ServiceState) (rule : Rule) (bytes : List ℕ) (view : T → List Definition) (result : Result (T × Certificate) RefusalCode) (why : RefusalCode) → IsErrAnd result (λ e. e ≡ why)
    → ReadsLoad now rule bytes view (Err why) → ReadsLoad now rule bytes view result
raised now rule bytes view (Ok p) why is h = absurd is
raised now rule bytes view (Err e) why is h = subst (λ (y : RefusalCode). ReadsLoad now rule bytes view (Err y)) (sym is) h

-- ---- any request

module _ (old : ServiceState) (n : ℕ) (body : Body) (answer : ReplyBody) (new : ServiceState) where
  -- each answer of the service is one that the late service may return, under the number of the
  -- same session
  pub answered_stored : Answered old n body answer new
      → (expected : words.ReplyBody) × LateAnswers reading old n body expected new × HasReplyValue (record { session = n; answer = answer }) (record { session = n; answer = expected })
  unfolding Answered
  answered_stored h = (h.0, h.1, (refl, h.2))

  -- it is a step of the machine
  pub answered_step : AreKept old.table old.sessions → Answered old n body answer new
      → (expected : words.Reply) × Step reading (seen old) (record { session = n; body = body }) expected (seen new) × HasReplyValue (record { session = n; answer = answer }) expected
  unfolding Answered
  answered_step kept h = (record { session = n; answer = h.0 }, (refl, (stands reading old new n kept body h.0 h.1).step), (refl, h.2))
