-- Status 0 of `explain`: the new table follows the old one.
use Rattle.std.proofs.Common.{◌≡◌, ℕ, List, [], ◌∷◌, Bool, true, false, refl, sym, ◌∙◌, ap, subst}
use Rattle.std.proofs.Common.{Bor}
use Rattle.std.specs.Prelude.{◌≢◌, codes, map, if◌then◌else◌, nat_lt, length, Option, Some, None, Result, Ok, Err}
use Rattle.std.specs.Option.{option_map_or}
use Rattle.std.specs.Ordering.{nat_cmp}
use Rattle.std.specs.declared.alloc.Global.{Global}
use Rattle.std.specs.declared.string.String.{String}
use Rattle.std.specs.declared.vec.Vec.{Vec}
use Rattle.compose_text.specs.Results.{◌>>=◌}
use Rattle.keysym_core.specs.Names.{KeysymNames}
use Rattle.compose_model.proofs.Exact.{refutes}
use Rattle.compose_model.specs.Table.{Definition}
use Rattle.compose_model.specs.Certificate.{AreFresh}
use Rattle.compose_model.specs.Follows.{Follows}
use Rattle.compose_model.specs.Nodes.{rising}
use Rattle.compose_answer.specs.Ends.{end_of, status_of}
use Rattle.compose_answer.specs.Parts.{Explainable, explainable, explain_parts}
use Rattle.compose_answer.specs.declared.answer.Answer.{Answer}
use Rattle.compose_answer.specs.declared.answer.Answer.TheVariants.{Yes, No, Invalid, FreshNotAllowed}
use Rattle.compose_fresh.specs.Conditions.{first_unmet}
use Rattle.compose_fresh.specs.Fresh.{fresh_conditions, max_fresh}
use Rattle.compose_fresh.specs.declared.fault.CheckFault.{CheckFault}
use Rattle.compose_fresh.proofs.FreshKeysyms.{are_fresh}
use Rattle.compose_migration.specs.Migration.{GivenMigration, NoAnswer, Parts, migration_of, no_fresh, too_many_fresh}
use Rattle.compose_migration.specs.Refused.{Returns}
use Rattle.compose_migration.specs.declared.refusal.Refusal.{Refusal}
use Rattle.compose_promise.proofs.Runs.{keeps, follows}
use Rattle.compose_arguments.specs.declared.given_tables.TypeTable.{TypeTable}
use Rattle.compose_arguments.specs.declared.question.Question.TheVariants.{Explain}
use Rattle.compose_details.specs.declared.given.Given.{Given}
use Rattle.compose_explaining.specs.Explains.{IsExplainOf, IsExplainOutcome, Wants, asked_tables, input_of, part_of}
use Rattle.compose_explaining.specs.Told.{IsExplainedBy, Tells}
use Rattle.compose_explaining.specs.declared.question.Explain.{Explain as Asking}
use Rattle.compose_explaining.specs.declared.sides.Side.{Side}
use Rattle.compose_given.specs.GivenTable.{IsGivenTable}
use Rattle.compose_given.specs.Names.{names_for}
use Rattle.compose_given.specs.Reads.{AreTables, names_of as wanted_names}
use Rattle.compose_given.specs.declared.chosen.NotedTable.{NotedTable}
use Rattle.compose_given.specs.declared.wanted.Wanted.{Wanted}
use Rattle.compose_given.specs.declared.wanted.WantedTable.{WantedTable}
use Rattle.compose_input.specs.Names.{AreNames}
use Rattle.compose_input.specs.declared.names.NameFiles.{NameFiles}
use Rattle.compose_migration.specs.Values.{given_of}
use Rattle.compose_migration.specs.declared.migration.MigrationInput.{MigrationInput}
use Rattle.compose_program.specs.Faults.{is_file}
use Rattle.compose_program.specs.Questions.{IsAsked, names_of, words}
use Rattle.compose_report.specs.Told.{IsTold}
use Rattle.compose_report.specs.declared.form.Form.{Form}
use Rattle.compose_report.specs.declared.form.Form.TheVariants.{Line, Details, Words}
use Rattle.compose_report.specs.declared.outcome.Outcome.{Outcome}
use Rattle.compose_report.specs.declared.told.Told.{Told}
use Rattle.compose_walk.specs.Evidence.{Evidence, AreDifferences}
use Rattle.compose_walk.proofs.Firsts.{no_difference}
use Rattle.compose_laws.specs.Runs.{Run, EndsWith, DefinesBoth}
use Rattle.compose_laws.specs.Promised.{KeepsFrom}
use Rattle.compose_laws.proofs.Ends.{IsNo, answers, answers_no, no_answer, yes_answer}
use Rattle.compose_laws.proofs.Results.{bind_ok, ok_same}
use Rattle.compose_laws.proofs.Steps.{both_settled}

-- ---- what is explained

record Explained (given : GivenMigration) (e : Explainable) : Type 0 where
  pub is_move : migration_of given ≡ Ok e.move
  pub are_fresh : AreFresh e.fresh e.move.old

same_explainable : (a e : Explainable) → (let r : Result Explainable NoAnswer = Ok a in r) ≡ Ok e → a ≡ e
same_explainable a e h = cc

explained_of : (given : GivenMigration) (e : Explainable) → explain_parts given ≡ Ok e → Explained given e
explained_of given e h =
    let m = bind_ok (migration_of given) (λ move. explainable move (rising nat_cmp move.keys)) e h in
    by_fault m.0 (rising nat_cmp m.0.keys) (first_unmet (fresh_conditions m.0.old (rising nat_cmp m.0.keys))) (nat_lt max_fresh (length (rising nat_cmp m.0.keys))) m.1 refl m.2
  where
    by_fault : (move : Parts) (fresh : List ℕ) (unmet : Option CheckFault) (many : Bool) → migration_of given ≡ Ok move → first_unmet (fresh_conditions move.old fresh) ≡ unmet
        → (let r : Result Explainable NoAnswer =
        option_map_or (λ why. Err why) (option_map_or (λ fault. Some (no_fresh fault)) unmet (if many then Some too_many_fresh else None)) (Ok (record { move = move; fresh = fresh })) in r)
        ≡ Ok e
        → Explained given e
    by_fault move fresh (Some fault) many read met k = absurd (cc)
    by_fault move fresh None true read met k = absurd (cc)
    by_fault move fresh None false read met k =
        subst (λ (x : Explainable). Explained given x) (same_explainable (record { move = move; fresh = fresh }) e k) (record { is_move = read; are_fresh = are_fresh move.old fresh met })

keeps_from : (given : GivenMigration) (e : Explainable) → explain_parts given ≡ Ok e → Follows e.move.names e.fresh e.move.old e.move.new → KeepsFrom given
keeps_from given e read follows = record { parts = e; read = read; keeps = keeps e.move.names e.fresh e.move.old e.move.new follows }

-- ---- they differ

all_refute : (names : KeysymNames) (fresh : List ℕ) (old new : List Definition) (xs : List Evidence) → AreDifferences names fresh old new xs → xs ≢ [] → Follows names fresh old new → ⊥
all_refute names fresh old new [] d some f = some refl
all_refute names fresh old new (x ∷ xs) d some f = refutes names fresh old new x.keys x.kind x.old_text x.new_text d.each.0.shows f

refuted : (given : GivenMigration) (e : Explainable) → explain_parts given ≡ Ok e → (Follows e.move.names e.fresh e.move.old e.move.new → ⊥) → KeepsFrom given → ⊥
refuted given e read differs p =
    differs (subst (λ (x : Explainable). Follows x.move.names x.fresh x.move.old x.move.new) (ok_same p.parts e (explain_parts given) p.read read)
    (follows p.parts.move.names p.parts.fresh p.parts.move.old p.parts.move.new p.keeps))

-- ---- the answer that is told

abbrev answer_of : Result Told Refusal → Result Answer Refusal
answer_of (Ok told) = Ok told.answer
answer_of (Err refusal) = Err refusal

told_end : (form : Form) (given : Given) (told : Result Told Refusal) (outcome : Outcome) → IsTold form given told outcome → outcome.ended ≡ end_of (answer_of told)
told_end form given (Ok told) outcome r = r.1.ended
told_end Line given (Err refusal) outcome r = r.1.ended
told_end Details given (Err refusal) outcome r = r.is.ended
told_end Words given (Err refusal) outcome r = r.is.ended

told_is : (told : Result Told Refusal) (answer : Answer) → answer_of told ≡ Ok answer → (t : Told) × (told ≡ Ok t) × (t.answer ≡ answer)
told_is (Ok t) answer e = (t, refl, same_answer t.answer answer e)
  where
    same_answer : (a b : Answer) → (let r : Result Answer Refusal = Ok a in r) ≡ Ok b → a ≡ b
    same_answer a b h = cc
told_is (Err refusal) answer e = absurd (cc)

-- the answer that is told is an answer on these parts
answers_told : (verbose all : Bool) (old new : Side) (input : MigrationInput) (told : Result Told Refusal) (answer : Answer) → answer_of told ≡ Ok answer
    → Returns (Tells verbose all old new input) told (explain_parts (given_of input)) → (e : Explainable) × (explain_parts (given_of input) ≡ Ok e) × IsExplainedBy all e answer
answers_told verbose all old new input told answer e h =
    let t = told_is told answer e in
    by t.0 t.2 (subst (λ (r : Result Told Refusal). Returns (Tells verbose all old new input) r (explain_parts (given_of input))) t.1 h)
  where
    answered : (b : Bool) (x : Explainable) (t : Told) → Tells b all old new input x t → IsExplainedBy all x t.answer
    answered true x t r = r.answered
    answered false x t r = r.answered

    by : (t : Told) → t.answer ≡ answer → Returns (Tells verbose all old new input) (Ok t) (explain_parts (given_of input))
        → (x : Explainable) × (explain_parts (given_of input) ≡ Ok x) × IsExplainedBy all x answer
    by t same r = (r.0, r.1, subst (λ (a : Answer). IsExplainedBy all r.0 a) same (answered verbose r.0 t r.2))

yes_kept : (all : Bool) (given : GivenMigration) (e : Explainable) (text : String Global) → explain_parts given ≡ Ok e → IsExplainedBy all e (Yes text) → KeepsFrom given
yes_kept true given e text read r =
    let x = explained_of given e read in
    let tables = both_settled given e.move x.is_move in
    keeps_from given e read (no_difference e.move.names e.fresh e.move.old e.move.new tables.0.definitions tables.1.definitions x.are_fresh r.0)
yes_kept false given e text read r = keeps_from given e read r.0

no_kept : (all : Bool) (given : GivenMigration) (e : Explainable) (answer : Answer) → IsNo answer → explain_parts given ≡ Ok e → IsExplainedBy all e answer → KeepsFrom given → ⊥
no_kept all given e (Yes text) is_no read r p = is_no
no_kept true given e (No text) is_no read r p = refuted given e read (all_refute e.move.names e.fresh e.move.old e.move.new r.differences r.are r.some) p
no_kept false given e (No text) is_no read r p = refuted given e read r.differs p
no_kept true given e (Invalid fault) is_no read r p = r
no_kept false given e (Invalid fault) is_no read r p = r
no_kept true given e (FreshNotAllowed keysym) is_no read r p = r
no_kept false given e (FreshNotAllowed keysym) is_no read r p = r

-- ---- what the folder has

first_is : {X : Type 0} (x y : X) (xs ys : List X) → x ∷ xs ≡ y ∷ ys → x ≡ y
first_is x y xs ys h = cc

rest_is : {X : Type 0} (x y : X) (xs ys : List X) → x ∷ xs ≡ y ∷ ys → xs ≡ ys
rest_is x y xs ys h = cc

-- two tables that were wanted and read
two_read : (run : Run) (asked : Asking) (wanted : List WantedTable) (a b : NotedTable) → map part_of wanted ≡ asked_tables asked → AreTables run.folder run.environment wanted (a ∷ b ∷ [])
    → IsGivenTable run.folder run.environment asked.old a × IsGivenTable run.folder run.environment asked.new b
two_read run asked [] a b h r = absurd r
two_read run asked (v ∷ []) a b h r = absurd r.1
two_read run asked (v ∷ w ∷ []) a b h r =
    let first = first_is (part_of v) (codes "old", asked.old) (part_of w ∷ []) ((codes "new", asked.new) ∷ []) h in
    let second = first_is (part_of w) (codes "new", asked.new) [] [] (rest_is (part_of v) (codes "old", asked.old) (part_of w ∷ []) ((codes "new", asked.new) ∷ []) h) in (
      subst (λ (t : TypeTable). IsGivenTable run.folder run.environment t a) (ap (λ (p : List ℕ × TypeTable). p.1) first) r.0,
      subst (λ (t : TypeTable). IsGivenTable run.folder run.environment t b) (ap (λ (p : List ℕ × TypeTable). p.1) second) r.1.0,
    )
two_read run asked (v ∷ w ∷ x ∷ ws) a b h r = absurd r.1.1

module _ (run : Run) (old new : TypeTable) (fresh : List (List ℕ)) (all : Bool) (asked : Asking) (wanted : Wanted) (names : NameFiles) (is_asked : IsAsked run.options old new fresh all asked)
    (wants : Wants asked wanted) (are_names : AreNames run.folder (wanted_names wanted) names) where
  names_read : AreNames run.folder (names_for (is_file old) (names_of run.options)) names
  names_read =
      subst (λ (given : Bor (List (Bor (List ℕ)))). AreNames run.folder (names_for (is_file old) (words given.now)) names) (wants.names ∙ is_asked.are_names)
      (subst (λ b. AreNames run.folder (names_for b (words wanted.names.now)) names) (wants.are_files ∙ is_asked.are_files) are_names)

  module _ (a b : NotedTable) (are_tables : AreTables run.folder run.environment wanted.tables.now (a ∷ b ∷ [])) where
    pub defines : DefinesBoth run old new fresh (input_of names a.table b.table fresh)
    defines =
        let two = two_read run asked wanted.tables.now a b wants.tables are_tables in (
          names,
          names_read,
          a,
          subst (λ (t : TypeTable). IsGivenTable run.folder run.environment t a) is_asked.is_old two.0,
          b,
          subst (λ (t : TypeTable). IsGivenTable run.folder run.environment t b) is_asked.is_new two.1,
          refl,
        )

    -- the input of what is told
    told_input : {outcome : Outcome} (r : IsExplainOutcome asked names a b outcome) → given_of r.input ≡ input_of names a.table b.table fresh
    told_input r = r.is_input ∙ ap (λ (f : List (List ℕ)). input_of names a.table b.table f) is_asked.are_fresh

    kept_of : (outcome : Outcome) → IsExplainOutcome asked names a b outcome → status_of outcome.ended ≡ 0 → KeepsFrom (input_of names a.table b.table fresh)
    kept_of outcome r s =
        let ended = told_end asked.form r.given r.told r.reported.printed r.reported.is in
        let is_yes = yes_answer (answer_of r.told) (ap status_of (sym (r.reported.noted.ended ∙ ended)) ∙ s) in
        let e = answers_told asked.verbose asked.all r.old_side r.new_side r.input r.told (Yes is_yes.0) is_yes.1 r.is_told in
        subst KeepsFrom (told_input r) (yes_kept asked.all (given_of r.input) e.0 is_yes.0 e.1 e.2)

    not_kept_of : (outcome : Outcome) → IsExplainOutcome asked names a b outcome → status_of outcome.ended ≡ 1 → KeepsFrom (input_of names a.table b.table fresh) → ⊥
    not_kept_of outcome r s p =
        let ended = told_end asked.form r.given r.told r.reported.printed r.reported.is in
        let is_no = no_answer (answer_of r.told) (ap status_of (sym (r.reported.noted.ended ∙ ended)) ∙ s) in
        let e = answers_told asked.verbose asked.all r.old_side r.new_side r.input r.told is_no.0 is_no.1 r.is_told in
        no_kept asked.all (given_of r.input) e.0 is_no.0 is_no.2 e.1 e.2 (subst KeepsFrom (sym (told_input r)) p)

  pub kept_by : (tables : List NotedTable) (outcome : Outcome) → AreTables run.folder run.environment wanted.tables.now tables → IsExplainOf asked names tables outcome → status_of outcome.ended ≡ 0
      → (given : GivenMigration) × DefinesBoth run old new fresh given × KeepsFrom given
  kept_by [] outcome t r s = absurd r
  kept_by (a ∷ []) outcome t r s = absurd r
  kept_by (a ∷ b ∷ []) outcome t r s = (input_of names a.table b.table fresh, defines a b t, kept_of a b t outcome r s)
  kept_by (a ∷ b ∷ c ∷ tables) outcome t r s = absurd r

  pub not_kept_by : (tables : List NotedTable) (outcome : Outcome) → AreTables run.folder run.environment wanted.tables.now tables → IsExplainOf asked names tables outcome → status_of outcome.ended ≡ 1
      → (given : GivenMigration) × DefinesBoth run old new fresh given × (KeepsFrom given → ⊥)
  not_kept_by [] outcome t r s = absurd r
  not_kept_by (a ∷ []) outcome t r s = absurd r
  not_kept_by (a ∷ b ∷ []) outcome t r s = (input_of names a.table b.table fresh, defines a b t, not_kept_of a b t outcome r s)
  not_kept_by (a ∷ b ∷ c ∷ tables) outcome t r s = absurd r

-- ---- from a run

pub explains : (run : Run) (old new : TypeTable) (fresh : Vec (Bor (List ℕ)) Global) (all : Bool) (outcome : Outcome) → EndsWith 0 run (Explain old new fresh all) outcome
    → (given : GivenMigration) × DefinesBoth run old new (words fresh.items) given × KeepsFrom given
explains run old new fresh all outcome h =
    let a = answers run (Explain old new fresh all) outcome h in
    let r = a.2 in
    kept_by run old new (words fresh.items) all a.0 r.wanted r.read.names a.1 r.wants r.are_parts.are_names r.read.tables.items outcome r.are_parts.are_tables r.is h.1

pub explains_not : (run : Run) (old new : TypeTable) (fresh : Vec (Bor (List ℕ)) Global) (all : Bool) (outcome : Outcome) → EndsWith 1 run (Explain old new fresh all) outcome
    → (given : GivenMigration) × DefinesBoth run old new (words fresh.items) given × (KeepsFrom given → ⊥)
explains_not run old new fresh all outcome h =
    let a = answers_no run (Explain old new fresh all) outcome h in
    let r = a.2 in
    not_kept_by run old new (words fresh.items) all a.0 r.wanted r.read.names a.1 r.wants r.are_parts.are_names r.read.tables.items outcome r.are_parts.are_tables r.is h.1
