-- Status 0 of `check`: the promises.
use Rattle.std.proofs.Common.{◌≡◌, ℕ, List, [], ◌∷◌, Bool, true, false, not, ◌&&◌, ◌||◌, cond, refl, sym, ◌∙◌, ap, subst}
use Rattle.std.proofs.Common.{Bor}
use Rattle.std.specs.Prelude.{◌==◌, Option, Some, None, Result, Ok, Err, string_bytes, codes}
use Rattle.std.specs.List.{list_all, list_any, find}
use Rattle.std.specs.declared.alloc.Global.{Global}
use Rattle.std.specs.declared.string.String.{String}
use Rattle.std.specs.declared.vec.Vec.{Vec}
use Rattle.std.proofs.lemmas.Bool.{and_parts, and_from, not_from_false, eqb-true}
use Rattle.keysym_core.specs.Names.{KeysymNames}
use Rattle.compose_model.specs.Table.{Definition, has_key, avoids}
use Rattle.compose_answer.specs.Ends.{status_of}
use Rattle.compose_answer.specs.declared.answer.Answer.{Answer}
use Rattle.compose_answer.specs.declared.answer.Answer.TheVariants.{Yes, No, Invalid, FreshNotAllowed}
use Rattle.compose_arguments.specs.declared.given_tables.BothTables.{BothTables}
use Rattle.compose_arguments.specs.declared.given_tables.BothTables.TheVariants.{Manifests, Files}
use Rattle.compose_arguments.specs.declared.question.Question.TheVariants.{Check}
use Rattle.compose_check.specs.Input.{Input, Parts, parts_of, allowed_parts, verdict_on, with_key_names}
use Rattle.compose_check.specs.declared.verdict.Verdict.TheVariants as verdicts
use Rattle.compose_fresh.specs.declared.fault.CheckFault.{CheckFault}
use Rattle.compose_migration.specs.Refused.{Returns}
use Rattle.compose_migration.specs.declared.refusal.Refusal.{Refusal}
use Rattle.compose_promise.specs.Promise.{KeepsTyping}
use Rattle.compose_promise.proofs.Yes.{kept}
use Rattle.compose_program.specs.Questions.{words}
use Rattle.compose_report.specs.declared.outcome.Outcome.{Outcome}
use Rattle.compose_runs.specs.CheckFiles.{check_given}
use Rattle.compose_runs.specs.declared.checking.CheckTexts.{CheckTexts}
use Rattle.compose_tool.specs.Answers.{IsChecked, IsCheckedFor, first_not_among}
use Rattle.compose_laws.specs.Runs.{Run, EndsWith, DefinesCheck}
use Rattle.compose_laws.specs.Promised.{IsPromised, IsPromisedBut}
use Rattle.compose_laws.proofs.Ends.{IsNo, answers, answers_no, no_worded, yes_worded, yes_noted}
use Rattle.compose_laws.proofs.Results.{ok_same}

-- ---- fresh keysyms that are among the allowed ones

clash : true ≡ false → ⊥
clash e = cc

was_false : (b : Bool) → not b ≡ true → b ≡ false
was_false true h = cc
was_false false h = refl

-- if none of the allowed keys is among some keys, no fresh one is
module _ (allowed : List ℕ) where
  fewer : (fresh : List ℕ) → first_not_among allowed fresh ≡ None → (k : ℕ) → has_key allowed k ≡ false → has_key fresh k ≡ false
  fewer [] none k h = refl
  fewer (j ∷ fresh) none k h = go (has_key allowed j) refl none (λ n. fewer fresh n k h)
    where
      other : (b : Bool) → has_key allowed j ≡ true → k == j ≡ b → has_key fresh k ≡ false → b || has_key fresh k ≡ false
      other true e same rest = absurd (clash (sym e ∙ ap (has_key allowed) (sym (eqb-true k j same)) ∙ h))
      other false e same rest = rest

      go : (b : Bool) → has_key allowed j ≡ b → (let o : Option ℕ = cond (not b) (Some j) (find (λ i. not (has_key allowed i)) fresh) in o) ≡ None → (first_not_among allowed fresh ≡ None → has_key fresh k ≡ false)
          → has_key (j ∷ fresh) k ≡ false
      go true e n rest = other (k == j) e refl (rest n)
      go false e n rest = absurd (cc)

  avoided : (fresh : List ℕ) → first_not_among allowed fresh ≡ None → (keys : List ℕ) → avoids allowed keys ≡ true → avoids fresh keys ≡ true
  avoided fresh none [] h = refl
  avoided fresh none (k ∷ keys) h =
      let parts = and_parts (not (has_key allowed k)) (avoids allowed keys) h in
      and_from (not (has_key fresh k)) (avoids fresh keys) (not_from_false (has_key fresh k) (fewer fresh none k (was_false (has_key allowed k) parts.0))) (avoided fresh none keys parts.1)

-- the promise for fewer fresh keysyms is a promise for more
pub keeps_more : (names : KeysymNames) (fresh allowed : List ℕ) (old new : List Definition) → first_not_among allowed fresh ≡ None → KeepsTyping names fresh old new → KeepsTyping names allowed old new
keeps_more names fresh allowed old new none keeps keys avoid goes_on = keeps keys (avoided allowed fresh none keys avoid) goes_on

-- ---- from a yes to the promises

pub promised : (input : Input) (answered : Result Answer Refusal) (text : String Global) → answered ≡ Ok (Yes text) → Returns IsChecked answered (parts_of input) → IsPromised input
promised input answered text e h = by (subst (λ (a : Result Answer Refusal). Returns IsChecked a (parts_of input)) e h)
  where
    by : Returns IsChecked (Ok (Yes text)) (parts_of input) → IsPromised input
    by r = record { parts = r.0; read = r.1; yes = r.2.0; kept = kept input r.0 r.1 r.2.0 }

pub promised_but : (allowed : List (List ℕ)) (input : Input) (answered : Result Answer Refusal) (text : String Global) → answered ≡ Ok (Yes text) → Returns IsCheckedFor answered (allowed_parts allowed input)
    → IsPromisedBut allowed input
promised_but allowed input answered text e h = by (subst (λ (a : Result Answer Refusal). Returns IsCheckedFor a (allowed_parts allowed input)) e h)
  where
    by : Returns IsCheckedFor (Ok (Yes text)) (allowed_parts allowed input) → IsPromisedBut allowed input
    by r =
        let all = kept (with_key_names allowed input) r.0 r.1 r.2.0.0 in
        record { parts = r.0; read = r.1; yes = r.2.0.0; kept = all; no_other = r.2.1; keeps = keeps_more r.0.names r.0.certificate.fresh r.0.keys r.0.old r.0.new r.2.1 all.keeps }

-- what is printed
said : (input : Input) (answered : Result Answer Refusal) (text : String Global) → answered ≡ Ok (Yes text) → Returns IsChecked answered (parts_of input) → string_bytes text ≡ codes "yes\n"
said input answered text e h = by (subst (λ (a : Result Answer Refusal). Returns IsChecked a (parts_of input)) e h)
  where
    by : Returns IsChecked (Ok (Yes text)) (parts_of input) → string_bytes text ≡ codes "yes\n"
    by r = r.2.1

said_but : (allowed : List (List ℕ)) (input : Input) (answered : Result Answer Refusal) (text : String Global) → answered ≡ Ok (Yes text) → Returns IsCheckedFor answered (allowed_parts allowed input)
    → string_bytes text ≡ codes "yes\n"
said_but allowed input answered text e h = by (subst (λ (a : Result Answer Refusal). Returns IsCheckedFor a (allowed_parts allowed input)) e h)
  where
    by : Returns IsCheckedFor (Ok (Yes text)) (allowed_parts allowed input) → string_bytes text ≡ codes "yes\n"
    by r = r.2.0.1

-- ---- from a no

yes_not_no : (fault : CheckFault) (a b : Parts) → verdict_on a ≡ verdicts.Yes → verdict_on b ≡ verdicts.No fault → a ≡ b → ⊥
yes_not_no fault a b is_yes is_no same = clash_verdicts (sym is_yes ∙ ap verdict_on same ∙ is_no)
  where
    clash_verdicts : verdicts.Yes ≡ verdicts.No fault → ⊥
    clash_verdicts e = cc

some_not_none : (k : ℕ) (allowed fresh : List ℕ) → first_not_among allowed fresh ≡ Some k → first_not_among allowed fresh ≡ None → ⊥
some_not_none k allowed fresh some none = clash_options (sym some ∙ none)
  where
    clash_options : (let o : Option ℕ = Some k in o) ≡ None → ⊥
    clash_options e = cc

not_promised : (input : Input) (answered : Result Answer Refusal) (answer : Answer) → answered ≡ Ok answer → IsNo answer → Returns IsChecked answered (parts_of input) → IsPromised input → ⊥
not_promised input answered answer e is_no h p = by answer is_no (subst (λ (a : Result Answer Refusal). Returns IsChecked a (parts_of input)) e h)
  where
    by : (a : Answer) → IsNo a → Returns IsChecked (Ok a) (parts_of input) → ⊥
    by (Yes text) n r = n
    by (No text) n r = r.2
    by (Invalid fault) n r = yes_not_no fault p.parts r.0 p.yes r.2 (ok_same p.parts r.0 (parts_of input) p.read r.1)
    by (FreshNotAllowed keysym) n r = r.2

not_promised_but : (allowed : List (List ℕ)) (input : Input) (answered : Result Answer Refusal) (answer : Answer) → answered ≡ Ok answer → IsNo answer
    → Returns IsCheckedFor answered (allowed_parts allowed input) → IsPromisedBut allowed input → ⊥
not_promised_but allowed input answered answer e is_no h p = by answer is_no (subst (λ (a : Result Answer Refusal). Returns IsCheckedFor a (allowed_parts allowed input)) e h)
  where
    by : (a : Answer) → IsNo a → Returns IsCheckedFor (Ok a) (allowed_parts allowed input) → ⊥
    by (Yes text) n r = n
    by (No text) n r = r.2
    by (Invalid fault) n r = yes_not_no fault p.parts r.0 p.yes r.2 (ok_same p.parts r.0 (allowed_parts allowed input) p.read r.1)
    by (FreshNotAllowed keysym) n r =
        some_not_none keysym p.parts.keys p.parts.certificate.fresh
        (ap (λ (q : Parts). first_not_among q.keys q.certificate.fresh) (ok_same p.parts r.0 (allowed_parts allowed input) p.read r.1) ∙ r.2.1) p.no_other

-- ---- from a run

pub checked : (run : Run) (tables : BothTables) (texts : CheckTexts) (outcome : Outcome) → EndsWith 0 run (Check tables None texts.repertoire texts.certificate) outcome
    → (input : Input) × DefinesCheck run tables texts input × IsPromised input
checked run (Manifests tables) texts outcome h =
    let r = answers run (Check (Manifests tables) None texts.repertoire texts.certificate) outcome h in
    let is_yes = yes_worded true run.options.verbose r.is.given r.is.answered outcome r.is.reported h.1 in
    (check_given r.check, (r.check, r.read, refl), promised (check_given r.check) r.is.answered is_yes.0 is_yes.1 r.is.is)
checked run (Files pair) texts outcome h =
    let r = answers run (Check (Files pair) None texts.repertoire texts.certificate) outcome h in
    let is_yes = yes_noted r.is.answered r.is.reported.is.given r.is.reported.printed outcome r.is.reported.is.reported r.is.reported.noted h.1 in
    (check_given r.check, (r.check, r.read, refl), promised (check_given r.check) r.is.answered is_yes.0 is_yes.1 r.is.is)

pub checked_but : (run : Run) (tables : BothTables) (fresh : Vec (Bor (List ℕ)) Global) (texts : CheckTexts) (outcome : Outcome)
    → EndsWith 0 run (Check tables (Some fresh) texts.repertoire texts.certificate) outcome → (input : Input) × DefinesCheck run tables texts input × IsPromisedBut (words fresh.items) input
checked_but run (Manifests tables) fresh texts outcome h =
    let r = answers run (Check (Manifests tables) (Some fresh) texts.repertoire texts.certificate) outcome h in
    let is_yes = yes_worded true run.options.verbose r.is.given r.is.answered outcome r.is.reported h.1 in
    (check_given r.check, (r.check, r.read, refl), promised_but (words fresh.items) (check_given r.check) r.is.answered is_yes.0 is_yes.1 r.is.is)
checked_but run (Files pair) fresh texts outcome h =
    let r = answers run (Check (Files pair) (Some fresh) texts.repertoire texts.certificate) outcome h in
    let is_yes = yes_noted r.is.answered r.is.reported.is.given r.is.reported.printed outcome r.is.reported.is.reported r.is.reported.noted h.1 in
    (check_given r.check, (r.check, r.read, refl), promised_but (words fresh.items) (check_given r.check) r.is.answered is_yes.0 is_yes.1 r.is.is)

pub prints_yes : (run : Run) (tables : BothTables) (fresh : Option (Vec (Bor (List ℕ)) Global)) (texts : CheckTexts) (outcome : Outcome)
    → EndsWith 0 run (Check tables fresh texts.repertoire texts.certificate) outcome → string_bytes outcome.output ≡ codes "yes\n"
prints_yes run (Manifests tables) None texts outcome h =
    let r = answers run (Check (Manifests tables) None texts.repertoire texts.certificate) outcome h in
    let is_yes = yes_worded true run.options.verbose r.is.given r.is.answered outcome r.is.reported h.1 in
    is_yes.2 ∙ said (check_given r.check) r.is.answered is_yes.0 is_yes.1 r.is.is
prints_yes run (Manifests tables) (Some fresh) texts outcome h =
    let r = answers run (Check (Manifests tables) (Some fresh) texts.repertoire texts.certificate) outcome h in
    let is_yes = yes_worded true run.options.verbose r.is.given r.is.answered outcome r.is.reported h.1 in
    is_yes.2 ∙ said_but (words fresh.items) (check_given r.check) r.is.answered is_yes.0 is_yes.1 r.is.is
prints_yes run (Files pair) None texts outcome h =
    let r = answers run (Check (Files pair) None texts.repertoire texts.certificate) outcome h in
    let is_yes = yes_noted r.is.answered r.is.reported.is.given r.is.reported.printed outcome r.is.reported.is.reported r.is.reported.noted h.1 in
    is_yes.2 ∙ said (check_given r.check) r.is.answered is_yes.0 is_yes.1 r.is.is
prints_yes run (Files pair) (Some fresh) texts outcome h =
    let r = answers run (Check (Files pair) (Some fresh) texts.repertoire texts.certificate) outcome h in
    let is_yes = yes_noted r.is.answered r.is.reported.is.given r.is.reported.printed outcome r.is.reported.is.reported r.is.reported.noted h.1 in
    is_yes.2 ∙ said_but (words fresh.items) (check_given r.check) r.is.answered is_yes.0 is_yes.1 r.is.is

pub rejected : (run : Run) (tables : BothTables) (texts : CheckTexts) (outcome : Outcome) → EndsWith 1 run (Check tables None texts.repertoire texts.certificate) outcome
    → (input : Input) × DefinesCheck run tables texts input × (IsPromised input → ⊥)
rejected run (Manifests tables) texts outcome h =
    let r = answers_no run (Check (Manifests tables) None texts.repertoire texts.certificate) outcome h in
    let is_no = no_worded r.is.answered outcome r.is.reported h.1 in
    (check_given r.check, (r.check, r.read, refl), not_promised (check_given r.check) r.is.answered is_no.0 is_no.1 is_no.2 r.is.is)
rejected run (Files pair) texts outcome h =
    let r = answers_no run (Check (Files pair) None texts.repertoire texts.certificate) outcome h in
    let is_no = no_worded r.is.answered r.is.reported.printed r.is.reported.is.reported (ap status_of (sym r.is.reported.noted.ended) ∙ h.1) in
    (check_given r.check, (r.check, r.read, refl), not_promised (check_given r.check) r.is.answered is_no.0 is_no.1 is_no.2 r.is.is)

pub rejected_but : (run : Run) (tables : BothTables) (fresh : Vec (Bor (List ℕ)) Global) (texts : CheckTexts) (outcome : Outcome)
    → EndsWith 1 run (Check tables (Some fresh) texts.repertoire texts.certificate) outcome → (input : Input) × DefinesCheck run tables texts input × (IsPromisedBut (words fresh.items) input → ⊥)
rejected_but run (Manifests tables) fresh texts outcome h =
    let r = answers_no run (Check (Manifests tables) (Some fresh) texts.repertoire texts.certificate) outcome h in
    let is_no = no_worded r.is.answered outcome r.is.reported h.1 in
    (check_given r.check, (r.check, r.read, refl), not_promised_but (words fresh.items) (check_given r.check) r.is.answered is_no.0 is_no.1 is_no.2 r.is.is)
rejected_but run (Files pair) fresh texts outcome h =
    let r = answers_no run (Check (Files pair) (Some fresh) texts.repertoire texts.certificate) outcome h in
    let is_no = no_worded r.is.answered r.is.reported.printed r.is.reported.is.reported (ap status_of (sym r.is.reported.noted.ended) ∙ h.1) in
    (check_given r.check, (r.check, r.read, refl), not_promised_but (words fresh.items) (check_given r.check) r.is.answered is_no.0 is_no.1 is_no.2 r.is.is)
