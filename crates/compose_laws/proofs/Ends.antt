-- From the exit status of a run to its answer.
use Rattle.std.proofs.Common.{◌≡◌, ◌≤◌, ℕ, List, refl, sym, ◌∙◌, ap, subst, inl, inr, arith}
use Rattle.std.specs.Prelude.{Bool, false, true, Result, Ok, Err, string_bytes}
use Rattle.std.specs.declared.alloc.Global.{Global}
use Rattle.std.specs.declared.string.String.{String}
use Rattle.compose_answer.specs.Ends.{end_of, status_of}
use Rattle.compose_answer.specs.declared.answer.Answer.{Answer}
use Rattle.compose_answer.specs.declared.answer.Answer.TheVariants.{Yes, No, Invalid, FreshNotAllowed}
use Rattle.compose_answer.specs.declared.answer.Ended.{Ended}
use Rattle.compose_arguments.specs.declared.question.Question.{Question}
use Rattle.compose_details.specs.Input.{fault_lines, fault_words}
use Rattle.compose_details.specs.declared.given.Given.{Given}
use Rattle.compose_input.specs.declared.fault.Fault.{Fault}
use Rattle.compose_input.specs.declared.fault.Fault.TheVariants as faults
use Rattle.compose_migration.specs.declared.refusal.Refusal.{Refusal}
use Rattle.compose_migration.specs.declared.refusal.Refusal.TheVariants as refusals
use Rattle.compose_program.specs.Faults.{IsFaultInForm}
use Rattle.compose_program.specs.Questions.{Answers}
use Rattle.compose_report.specs.declared.form.Form.{Form}
use Rattle.compose_report.specs.declared.form.Form.TheVariants.{Line, Details, Words}
use Rattle.compose_report.specs.Outcomes.{IsNoted, IsWorded, PrintsErrors, fault_end, output_text}
use Rattle.compose_report.specs.declared.outcome.Outcome.{Outcome}
use Rattle.compose_laws.specs.Runs.{Run, Ends, EndsWith}

pub too_few : (n : ℕ) → 2 ≤ n → n ≤ 1 → ⊥
too_few n h e = omega (arith, h, e)

pub not_both : (n : ℕ) → 2 ≤ n → n ≡ 0 → ⊥
not_both n h e = omega (arith, h, e)

-- ---- refusals end with status 2 or 3

pub refused_status : (refusal : Refusal) → 2 ≤ status_of (end_of (Err refusal))
refused_status refusals.NoMemory = omega arith
refused_status (refusals.Names f) = omega arith
refused_status (refusals.Key i) = omega arith
refused_status (refusals.Table f) = omega arith
refused_status (refusals.Side side f) = omega arith
refused_status (refusals.Repertoire f) = omega arith
refused_status (refusals.Certificate f) = omega arith
refused_status (refusals.Fresh f) = omega arith
refused_status refusals.TooManyFresh = omega arith

fault_status : (fault : Fault) → 2 ≤ status_of (fault_end fault)
fault_status faults.NoMemory = omega arith
fault_status (faults.Unread u) = omega arith
fault_status (faults.Unwritten u) = omega arith
fault_status (faults.Manifest path bytes f) = omega arith
fault_status (faults.Source part path f) = omega arith
fault_status (faults.Find f tried) = omega arith
fault_status (faults.Socket u) = omega arith
fault_status (faults.Refused part text) = omega arith
fault_status faults.Word = omega arith

-- in each form the outcome prints a text on standard error alone
pub fault_prints : (form : Form) (fault : Fault) (outcome : Outcome) → IsFaultInForm form fault outcome → (text : List ℕ) × PrintsErrors text (fault_end fault) outcome
fault_prints Line fault outcome h = (fault_lines h.0 false fault, h.1)
fault_prints Details fault outcome h = (fault_lines h.0 true fault, h.1)
fault_prints Words fault outcome h = (fault_words h.0 fault, h.1)

-- ---- status 0

-- the answer is yes
pub yes_answer : (answered : Result Answer Refusal) → status_of (end_of answered) ≡ 0 → (text : String Global) × (answered ≡ Ok (Yes text))
yes_answer (Ok (Yes text)) h = (text, refl)
yes_answer (Ok (No text)) h = absurd (cc)
yes_answer (Ok (Invalid fault)) h = absurd (cc)
yes_answer (Ok (FreshNotAllowed keysym)) h = absurd (cc)
yes_answer (Err refusal) h = absurd (not_both (status_of (end_of (Err refusal))) (refused_status refusal) h)

pub yes_worded : (numbered verbose : Bool) (given : Given) (answered : Result Answer Refusal) (outcome : Outcome) → IsWorded numbered verbose given answered outcome → status_of outcome.ended ≡ 0
    → (text : String Global) × (answered ≡ Ok (Yes text)) × (string_bytes outcome.output ≡ string_bytes text)
yes_worded numbered verbose given answered outcome r s =
    let yes = yes_answer answered (ap status_of (sym r.is.ended) ∙ s) in
    (yes.0, yes.1, printed r.own answered yes.0 yes.1 outcome r.is.output)
  where
    printed : (own : List ℕ) (answered : Result Answer Refusal) (text : String Global) → answered ≡ Ok (Yes text) → (outcome : Outcome) → string_bytes outcome.output ≡ output_text own answered
        → string_bytes outcome.output ≡ string_bytes text
    printed own answered text e outcome h = h ∙ ap (output_text own) e

-- the same before some notes
pub yes_noted : {numbered verbose : Bool} {notes : List ℕ} (answered : Result Answer Refusal) (given : Given) (printed outcome : Outcome) → IsWorded numbered verbose given answered printed
    → IsNoted notes printed outcome → status_of outcome.ended ≡ 0 → (text : String Global) × (answered ≡ Ok (Yes text)) × (string_bytes outcome.output ≡ string_bytes text)
yes_noted {numbered} {verbose} answered given printed outcome r noted s =
    let yes = yes_worded numbered verbose given answered printed r (ap status_of (sym noted.ended) ∙ s) in
    (yes.0, yes.1, ap string_bytes noted.output ∙ yes.2)

-- ---- status 1

-- an answer that is not yes
abbrev pub IsNo : Answer → Type 0
IsNo (Yes text) = ⊥
IsNo (No text) = Unit {0}
IsNo (Invalid fault) = Unit {0}
IsNo (FreshNotAllowed keysym) = Unit {0}

pub not_more : (n : ℕ) → 2 ≤ n → n ≡ 1 → ⊥
not_more n h e = omega (arith, h, e)

pub no_answer : (answered : Result Answer Refusal) → status_of (end_of answered) ≡ 1 → (answer : Answer) × (answered ≡ Ok answer) × IsNo answer
no_answer (Ok (Yes text)) h = absurd (cc)
no_answer (Ok (No text)) h = (No text, refl, tt)
no_answer (Ok (Invalid fault)) h = (Invalid fault, refl, tt)
no_answer (Ok (FreshNotAllowed keysym)) h = (FreshNotAllowed keysym, refl, tt)
no_answer (Err refusal) h = absurd (not_more (status_of (end_of (Err refusal))) (refused_status refusal) h)

pub no_worded : {numbered verbose : Bool} {given : Given} (answered : Result Answer Refusal) (outcome : Outcome) → IsWorded numbered verbose given answered outcome → status_of outcome.ended ≡ 1
    → (answer : Answer) × (answered ≡ Ok answer) × IsNo answer
no_worded answered outcome r s = no_answer answered (ap status_of (sym r.is.ended) ∙ s)

-- ---- the run has an answer

pub answers_below : (run : Run) (question : Question) (outcome : Outcome) → Ends run question outcome → status_of outcome.ended ≤ 1 → Answers run.folder run.environment run.options question outcome
answers_below run question outcome (inl a) few = a
answers_below run question outcome (inr f) few =
    let p = fault_prints run.form f.0 outcome f.2 in
    absurd (too_few (status_of (fault_end f.0)) (fault_status f.0) (subst (λ (e : Ended). status_of e ≤ 1) p.1.ends few))

pub answers : (run : Run) (question : Question) (outcome : Outcome) → EndsWith 0 run question outcome → Answers run.folder run.environment run.options question outcome
answers run question outcome h = answers_below run question outcome h.0 (zero_few (status_of outcome.ended) h.1)
  where
    zero_few : (n : ℕ) → n ≡ 0 → n ≤ 1
    zero_few n e = omega (arith, e)

pub answers_no : (run : Run) (question : Question) (outcome : Outcome) → EndsWith 1 run question outcome → Answers run.folder run.environment run.options question outcome
answers_no run question outcome h = answers_below run question outcome h.0 (one_few (status_of outcome.ended) h.1)
  where
    one_few : (n : ℕ) → n ≡ 1 → n ≤ 1
    one_few n e = omega (arith, e)
