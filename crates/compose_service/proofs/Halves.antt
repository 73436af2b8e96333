-- A load in its two halves: it is judged, and its table is swapped in.
use Rattle.std.proofs.Common.{◌≡◌, ℕ, List, [], refl}
use Rattle.std.specs.Prelude.{Result, Ok, Err}
use Rattle.std.specs.Result.{IsErrAnd}
use Rattle.keysym_core.specs.Names.{KeysymNames}
use Rattle.compose_model.specs.Table.{Definition}
use Rattle.compose_model.specs.Certificate.{Certificate}
use Rattle.compose_model.specs.declared.Rule.{Rule}
use Rattle.compose_machine.specs.Machine.{ServiceState, Answers, parts, one_more}
use Rattle.compose_machine.specs.Late.{swapped}
use Rattle.compose_wire.specs.Messages as words
use Rattle.compose_wire.specs.Messages.{load, loaded, refused, code}
use Rattle.compose_wire.specs.Replies.{HasAnswerValue}
use Rattle.compose_wire.specs.declared.reply.ReplyBody.{ReplyBody}
use Rattle.compose_wire.specs.declared.reply.ReplyBody.TheVariants.{Refused}
use Rattle.compose_tree.specs.declared.reading.TableFault.{TableFault}
use Rattle.compose_tree.specs.declared.reading.TableFault.TheVariants as table_faults
use Rattle.compose_cert.specs.declared.CertFault.{CertFault}
use Rattle.compose_cert.specs.declared.CertFault.TheVariants as cert_faults
use Rattle.compose_bundle.specs.declared.BundleFault.{BundleFault}
use Rattle.compose_bundle.specs.declared.BundleFault.TheVariants as bundle_faults
use Rattle.compose_service.specs.Reading.{reading}
use Rattle.compose_service.specs.Start.{at_start}
use Rattle.compose_service.specs.Refusals.{refusal_of, of_bundle, of_table, of_certificate}
use Rattle.compose_service.specs.Answered.{Answered, ReadsLoad, IsJudged}
use Rattle.compose_service.specs.declared.refusal.RefusalCode.{RefusalCode}
use Rattle.compose_service.specs.declared.refusal.RefusalCode.TheVariants.{SessionTaken, NoSession, Full, BadKeysym, BadBundle, TableRefused, CertificateRefused, VerdictNo, NoMemory}

-- ---- no payload is refused for a verdict when it is read

pub not_of_bundle : (fault : BundleFault) → of_bundle fault ≡ VerdictNo → ⊥
not_of_bundle bundle_faults.Form e = cc
not_of_bundle bundle_faults.TooLarge e = cc
not_of_bundle bundle_faults.NoMemory e = cc

pub not_of_table : (fault : TableFault) → of_table fault ≡ VerdictNo → ⊥
not_of_table (table_faults.Read fault) e = cc
not_of_table (table_faults.Settle fault) e = cc
not_of_table (table_faults.Build fault) e = cc
not_of_table table_faults.NoMemory e = cc

pub not_of_certificate : (fault : CertFault) → of_certificate fault ≡ VerdictNo → ⊥
not_of_certificate (cert_faults.NotText line) e = cc
not_of_certificate cert_faults.TooLarge e = cc
not_of_certificate cert_faults.NoMemory e = cc

-- a `?` returns the refusal of its fault, which is none for a verdict
pub raised_not : {A : Type 0} (result : Result A RefusalCode) (why : RefusalCode) → IsErrAnd result (λ e. e ≡ why) → (why ≡ VerdictNo → ⊥) → result ≡ Err VerdictNo → ⊥
raised_not (Ok a) why is never e = absurd is
raised_not (Err w) why is never e = never (let r : why ≡ VerdictNo = cc in r)

-- ---- a load that is refused

-- what is not read is refused under any session's number
pub refused_load : {T : Type 0} (now : ServiceState) (rule : Rule) (bytes : List ℕ) (view : T → List Definition) (why : RefusalCode) → ReadsLoad now rule bytes view (Err why)
    → Answers reading now 0 (load rule bytes) (refused (refusal_of why)) now
unfolding ReadsLoad
refused_load now rule bytes view why h = h

pub read_load : {T : Type 0} (now : ServiceState) (rule : Rule) (bytes : List ℕ) (view : T → List Definition) (p : T × Certificate) → ReadsLoad now rule bytes view (Ok p)
    → reading rule now.names bytes ≡ parts (view p.0) p.1
unfolding ReadsLoad
read_load now rule bytes view p h = h

-- a payload whose table and certificate can be read is refused only if memory runs out
pub only_memory : {T : Type 0} (now : ServiceState) (rule : Rule) (bytes : List ℕ) (view : T → List Definition) (why : RefusalCode) → ReadsLoad now rule bytes view (Err why) → (why ≡ VerdictNo → ⊥)
    → (table : List Definition) (certificate : Certificate) → reading rule now.names bytes ≡ parts table certificate → why ≡ NoMemory
unfolding ReadsLoad
only_memory now rule bytes view SessionTaken h never table certificate e = absurd h
only_memory now rule bytes view NoSession h never table certificate e = absurd h
only_memory now rule bytes view Full h never table certificate e = absurd h
only_memory now rule bytes view BadKeysym h never table certificate e = absurd h
only_memory now rule bytes view BadBundle h never table certificate e = cc
only_memory now rule bytes view TableRefused h never table certificate e = cc
only_memory now rule bytes view CertificateRefused h never table certificate e = cc
only_memory now rule bytes view VerdictNo h never table certificate e = absurd (never refl)
only_memory now rule bytes view NoMemory h never table certificate e = refl

-- a service with these names, of which no more matters
abbrev pub nobody : KeysymNames → ServiceState
nobody names = at_start [] names (record { characters = []; keys = [] })

-- ---- both halves

module _ (now : ServiceState) (rule : Rule) (bytes : List ℕ) where
  -- a load that is refused when it is judged may be answered with that refusal, and nothing changes
  pub load_judged : (n : ℕ) (why : RefusalCode) (number : ℕ) → number ≡ code (refusal_of why) → Answers reading now 0 (load rule bytes) (refused (refusal_of why)) now
      → Answered now n (load rule bytes) (Refused number) now
  unfolding Answered
  load_judged n SessionTaken number e h = absurd h
  load_judged n NoSession number e h = absurd h
  load_judged n Full number e h = absurd h
  load_judged n BadKeysym number e h = absurd h
  load_judged n BadBundle number e h = (refused words.bad_bundle, h, e)
  load_judged n TableRefused number e h = (refused words.table_refused, h, e)
  load_judged n CertificateRefused number e h = (refused words.certificate_refused, h, e)
  load_judged n VerdictNo number e h = (refused words.verdict_no, h, e)
  load_judged n NoMemory number e h = (refused words.no_memory, h, e)

  -- a load may be answered as if memory had run out, and nothing changes
  pub load_left : (n : ℕ) (number : ℕ) → number ≡ code words.no_memory → Answered now n (load rule bytes) (Refused number) now
  unfolding Answered
  load_left n number e = (refused words.no_memory, refl, e)

  -- a load that was judged and whose table is swapped in may be answered as loaded
  pub load_swapped : (table : List Definition) (certificate : Certificate) (n : ℕ) (answer : ReplyBody) (new : ServiceState) → IsJudged now rule bytes table certificate
      → new ≡ swapped now table certificate.fresh → HasAnswerValue answer (loaded (one_more now.loads)) → Answered now n (load rule bytes) answer new
  unfolding Answered
  load_swapped table certificate n answer new j e says = (loaded (one_more now.loads), (table, certificate, j.read, j.prefix_free, j.accepted, refl, e), says)
