-- Status 0 of `make`: the verdict on what it prints is yes.
use Rattle.std.proofs.Common.{◌≡◌, ℕ, List, [], ◌∷◌, Bool, true, false, not, ◌&&◌, ◌||◌, cond, refl, sym, ◌∙◌, ap, subst, inl, inr}
use Rattle.std.proofs.Common.{Bor}
use Rattle.std.specs.Prelude.{◌⊎◌, ◌==◌, Option, Some, None, Result, Ok, Err, map, string_bytes}
use Rattle.std.specs.List.{find, list_all, AllByRecursion}
use Rattle.std.specs.Option.{option_map_or}
use Rattle.std.specs.Ordering.{nat_cmp}
use Rattle.std.specs.declared.alloc.Global.{Global}
use Rattle.std.specs.declared.string.String.{String}
use Rattle.std.specs.declared.vec.Vec.{Vec}
use Rattle.std.proofs.lemmas.Bool.{and_parts, or_left, or_right, eq-eqb, eqb-true}
use Rattle.std.proofs.lemmas.Map.Lookups.{exact_unsigned}
use Rattle.compose_text.specs.Results.{◌>>=◌}
use Rattle.compose_model.specs.Certificate.{Certificate, Repertoire, Typing, is_key}
use Rattle.compose_model.specs.Follows.{Follows, Types}
use Rattle.compose_model.specs.Nodes.{rising}
use Rattle.compose_model.specs.Table.{Definition, has_key}
use Rattle.keysym_core.specs.Names.{KeysymNames}
use Rattle.compose_model.proofs.Tests.{list_any-rising}
use Rattle.compose_answer.specs.Parts.{Needs, accepted, fresh_fault, makeable, make_parts}
use Rattle.compose_answer.specs.Ends.{status_of}
use Rattle.compose_answer.specs.declared.answer.Answer.{Answer}
use Rattle.compose_answer.specs.declared.answer.Answer.TheVariants.{Yes, No, Invalid, FreshNotAllowed}
use Rattle.compose_arguments.specs.declared.given_tables.BothTables.{BothTables}
use Rattle.compose_arguments.specs.declared.given_tables.BothTables.TheVariants.{Manifests, Files}
use Rattle.compose_arguments.specs.declared.question.Question.TheVariants.{Make}
use Rattle.compose_cert.specs.Reading.{certificate_of}
use Rattle.compose_cert.specs.Repertoire.{repertoire_of}
use Rattle.compose_cert.proofs.TextRead.{spelled_is_read}
use Rattle.compose_check.specs.Conditions.{fault_of}
use Rattle.compose_check.specs.Input as checks
use Rattle.compose_check.specs.Input.{Input, parts_of, certified_parts, verdict_on}
use Rattle.compose_check.specs.Verdict.{verdict_of}
use Rattle.compose_check.specs.declared.verdict.Verdict.TheVariants as verdicts
use Rattle.compose_check.proofs.Valid.{none_from_valid}
use Rattle.compose_make.specs.Least.{IsUnreachable, are_keys}
use Rattle.compose_folder.specs.Content.{File, IsHeld}
use Rattle.compose_migration.specs.Migration.{GivenMigration, NoAnswer, Parts, migration_of, no_certificate, no_repertoire, or_because}
use Rattle.compose_migration.specs.Refused.{Returns}
use Rattle.compose_migration.specs.declared.refusal.Refusal.{Refusal}
use Rattle.compose_program.specs.Questions.{words}
use Rattle.compose_promise.specs.Kept.{IsKept}
use Rattle.compose_promise.specs.Promise.{KeepsTyping}
use Rattle.compose_promise.proofs.Runs.{follows}
use Rattle.compose_promise.proofs.Yes.{kept}
use Rattle.compose_report.specs.declared.outcome.Outcome.{Outcome}
use Rattle.compose_runs.specs.Files.{migration_given}
use Rattle.compose_runs.specs.Making.{AnswersMake}
use Rattle.compose_tool.specs.Answers.{IsMadeText, IsAllMadeText, ReportsLeast, ReportsUnreachable, ReportsUntypable, SpellsMade, first_not_among}
use Rattle.compose_laws.specs.Runs.{Run, EndsWith, DefinesTables}
use Rattle.compose_laws.specs.Promised.{HasNone, IsCertified, IsPromised, IsPromisedBut}
use Rattle.compose_laws.proofs.Checked.{keeps_more}
use Rattle.compose_laws.proofs.Ends.{IsNo, answers, answers_no, no_worded, yes_worded, yes_noted}
use Rattle.compose_laws.proofs.Results.{bind_ok, because_ok, ok_ok}
use Rattle.compose_laws.proofs.Steps.{steps_of, of_steps, named_alone}

-- ---- what is made

-- the parts from which a certificate is made
abbrev needs_of : Parts → Repertoire → Needs
needs_of move r = record { move = move; repertoire = r; fresh = rising nat_cmp move.keys }

record MadeOf (given : GivenMigration) (repertoire : List ℕ) (needs : Needs) : Type 0 where
  pub move : Parts
  pub is_move : migration_of given ≡ Ok move
  pub range : Repertoire
  pub is_range : repertoire_of repertoire ≡ Ok range
  pub whole : needs_of move range ≡ needs

accepted_is : {P : Type 0} (fault : Option NoAnswer) (parts taken : P) → (let r : Result P NoAnswer = option_map_or (λ why. Err why) fault (Ok parts) in r) ≡ Ok taken → parts ≡ taken
accepted_is None parts taken h = cc
accepted_is (Some why) parts taken h = absurd (cc)

abbrev from_range : Parts → Repertoire → Result Needs NoAnswer
from_range move r = makeable move r (rising nat_cmp move.keys)

abbrev from_move : List ℕ → Parts → Result Needs NoAnswer
from_move repertoire move = or_because no_repertoire (repertoire_of repertoire) >>= from_range move

made_of : (given : GivenMigration) (repertoire : List ℕ) (needs : Needs) → make_parts given repertoire ≡ Ok needs → MadeOf given repertoire needs
made_of given repertoire needs h =
    let m = bind_ok (migration_of given) (from_move repertoire) needs h in
    let r = bind_ok (or_because no_repertoire (repertoire_of repertoire)) (from_range m.0) needs m.2 in
    record {
      move = m.0;
      is_move = m.1;
      range = r.0;
      is_range = because_ok no_repertoire (repertoire_of repertoire) r.0 r.1;
      whole = accepted_is (fresh_fault m.0.old (rising nat_cmp m.0.keys)) (needs_of m.0 r.0) needs r.2;
    }

-- ---- what a check reads of it

abbrev checked_parts : Parts → Repertoire → Certificate → checks.Parts
checked_parts m r c = record { names = m.names; keys = m.keys; old = m.old; new = m.new; repertoire = r; certificate = c }

abbrev with_certificate : Parts → Repertoire → Certificate → Result checks.Parts NoAnswer
with_certificate m r c = Ok (checked_parts m r c)

abbrev with_range : Parts → List ℕ → Repertoire → Result checks.Parts NoAnswer
with_range m bytes r = or_because no_certificate (certificate_of bytes) >>= with_certificate m r

is_read : (given : GivenMigration) (m : Parts) (repertoire bytes : List ℕ) (r : Repertoire) (c : Certificate) → migration_of given ≡ Ok m → repertoire_of repertoire ≡ Ok r → certificate_of bytes ≡ Ok c
    → parts_of (record { migration = given; repertoire = repertoire; certificate = bytes }) ≡ Ok (checked_parts m r c)
is_read given m repertoire bytes r c is_m is_r is_c =
    ap (λ x. x >>= (λ m. certified_parts m repertoire bytes)) is_m
    ∙ (ap (λ x. or_because no_repertoire x >>= with_range m bytes) is_r ∙ ap (λ x. or_because no_certificate x >>= with_certificate m r) is_c)

-- the migration without the keys
abbrev no_keys : GivenMigration → GivenMigration
no_keys given = record given { key_names = [] }

abbrev keyless : Parts → Parts
keyless m = record m { keys = [] }

moved_alone : (given : GivenMigration) (m : Parts) → migration_of given ≡ Ok m → migration_of (no_keys given) ≡ Ok (keyless m)
moved_alone given m h =
    let s = steps_of given m h in
    of_steps (no_keys given) (record { names = s.n.names; keys = [] }) s.old s.new (named_alone given.header given.key_names s.n s.is_named) s.is_old s.is_new
    ∙ ap (λ (x : Parts). Ok (keyless x)) s.whole

-- ---- the fresh keysyms are those of the keys

all_among : (allowed fresh : List ℕ) → ((k : ℕ) → has_key fresh k ≡ true → has_key allowed k ≡ true) → first_not_among allowed fresh ≡ None
all_among allowed [] f = refl
all_among allowed (j ∷ fresh) f =
    ap (λ b. cond (not b) (Some j) (find (λ i. not (has_key allowed i)) fresh)) (f j (or_left (j == j) (has_key fresh j) (eq-eqb j j refl)))
    ∙ all_among allowed fresh (λ k h. f k (or_right (k == j) (has_key fresh k) h))

rising_among : (keys : List ℕ) → first_not_among keys (rising nat_cmp keys) ≡ None
rising_among keys = all_among keys (rising nat_cmp keys) (λ k h. sym (list_any-rising nat_cmp exact_unsigned (λ j. k == j) keys) ∙ h)

among_rising : (keys : List ℕ) → first_not_among (rising nat_cmp keys) keys ≡ None
among_rising keys = all_among (rising nat_cmp keys) keys (λ k h. list_any-rising nat_cmp exact_unsigned (λ j. k == j) keys ∙ h)

-- ---- the verdict is yes

module _ (given : GivenMigration) (repertoire bytes : List ℕ) (move : Parts) (range : Repertoire) (is_move : migration_of given ≡ Ok move) (is_range : repertoire_of repertoire ≡ Ok range)
    (spelled : SpellsMade (needs_of move range) bytes) where
  is_certificate : certificate_of bytes ≡ Ok spelled.certificate
  is_certificate = spelled_is_read bytes spelled.certificate spelled.spells

  says_yes : verdict_on (checked_parts move range spelled.certificate) ≡ verdicts.Yes
  says_yes = ap verdict_of (none_from_valid move.names move.old move.new range spelled.certificate spelled.made.valid)

  no_other : first_not_among move.keys spelled.certificate.fresh ≡ None
  no_other = ap (first_not_among move.keys) spelled.made.fresh_keys ∙ rising_among move.keys

  pub with_fresh : IsPromisedBut given.key_names (record { migration = no_keys given; repertoire = repertoire; certificate = bytes })
  with_fresh =
      let input : Input = record { migration = given; repertoire = repertoire; certificate = bytes } in
      let parts = checked_parts move range spelled.certificate in
      let read = is_read given move repertoire bytes range spelled.certificate is_move is_range is_certificate in
      let all = kept input parts read says_yes in
      record {
        parts = parts;
        read = read;
        yes = says_yes;
        kept = all;
        no_other = no_other;
        keeps = keeps_more move.names spelled.certificate.fresh move.keys move.old move.new no_other all.keeps;
      }

  pub alone : IsPromised (record { migration = no_keys given; repertoire = repertoire; certificate = bytes })
  alone =
      let input : Input = record { migration = no_keys given; repertoire = repertoire; certificate = bytes } in
      let parts = checked_parts (keyless move) range spelled.certificate in
      let read = is_read (no_keys given) (keyless move) repertoire bytes range spelled.certificate (moved_alone given move is_move) is_range is_certificate in
      record { parts = parts; read = read; yes = says_yes; kept = kept input parts read says_yes }

certified : (given : GivenMigration) (repertoire bytes : List ℕ) (needs : Needs) → make_parts given repertoire ≡ Ok needs → SpellsMade needs bytes
    → IsCertified given.key_names (no_keys given) repertoire bytes
certified given repertoire bytes needs h spelled =
    let m = made_of given repertoire needs h in
    let own = subst (λ (n : Needs). SpellsMade n bytes) (sym m.whole) spelled in
    (alone given repertoire bytes m.move m.range m.is_move m.is_range own, with_fresh given repertoire bytes m.move m.range m.is_move m.is_range own)

-- ---- no certificate

-- a character of these typings is typed by some keys of the repertoire
typed_by : (names : KeysymNames) (table : List Definition) (repertoire : Repertoire) (c : ℕ) (typings : List Typing) → has_key (map (λ t. t.character) typings) c ≡ true
    → list_all (λ t. list_all (is_key repertoire) t.keys) typings ≡ true → AllByRecursion (λ t. Types names table t.keys t.character) typings
    → (w : List ℕ) × (are_keys repertoire w ≡ true) × Types names table w c
typed_by names table repertoire c [] h keys right = absurd (cc)
typed_by names table repertoire c (t ∷ typings) h keys right =
    let parts = and_parts (list_all (is_key repertoire) t.keys) (list_all (λ u. list_all (is_key repertoire) u.keys) typings) keys in
    go (c == t.character) refl h parts.0 right.0 (λ e. typed_by names table repertoire c typings e parts.1 right.1)
  where
    go : (b : Bool) → c == t.character ≡ b → b || has_key (map (λ u. u.character) typings) c ≡ true → list_all (is_key repertoire) t.keys ≡ true → Types names table t.keys t.character
        → (has_key (map (λ u. u.character) typings) c ≡ true → (w : List ℕ) × (are_keys repertoire w ≡ true) × Types names table w c)
        → (w : List ℕ) × (are_keys repertoire w ≡ true) × Types names table w c
    go true same e here types more = (t.keys, here, subst (λ d. Types names table t.keys d) (sym (eqb-true c t.character same)) types)
    go false same e here types more = more e

-- why no certificate is made
abbrev Fails : Needs → Type 0
Fails needs = (Follows needs.move.names needs.fresh needs.move.old needs.move.new → ⊥) ⊎ ((c : ℕ) × IsUnreachable needs.move.names needs.move.new needs.repertoire c)

parts_from : (given : GivenMigration) (m : Parts) (repertoire bytes : List ℕ) (r : Repertoire) (parts : checks.Parts) → migration_of given ≡ Ok m → repertoire_of repertoire ≡ Ok r
    → parts_of (record { migration = given; repertoire = repertoire; certificate = bytes }) ≡ Ok parts → (c : Certificate) × (checked_parts m r c ≡ parts)
parts_from given m repertoire bytes r parts is_m is_r h =
    let after_move : certified_parts m repertoire bytes ≡ Ok parts = sym (ap (λ x. x >>= (λ m. certified_parts m repertoire bytes)) is_m) ∙ h in
    let after_range : with_range m bytes r ≡ Ok parts = sym (ap (λ x. or_because no_repertoire x >>= with_range m bytes) is_r) ∙ after_move in
    let c = bind_ok (or_because no_certificate (certificate_of bytes)) (with_certificate m r) parts after_range in
    (c.0, ok_ok (checked_parts m r c.0) parts c.2)

fails_kept : (move : Parts) (range : Repertoire) (c : Certificate) → Fails (needs_of move range) → IsKept (checked_parts move range c) → KeepsTyping move.names move.keys move.old move.new → ⊥
fails_kept move range c (inl differs) kept keeps =
    differs (follows move.names (rising nat_cmp move.keys) move.old move.new (keeps_more move.names move.keys (rising nat_cmp move.keys) move.old move.new (among_rising move.keys) keeps))
fails_kept move range c (inr x) kept keeps =
    let typed = typed_by move.names move.new range x.0 c.typings (ap (λ cs. has_key cs x.0) kept.types.characters ∙ x.1.wanted) kept.types.by_keys kept.types.right in
    x.1.untyped typed.0 typed.1 typed.2

impossible : (given : GivenMigration) (repertoire : List ℕ) (needs : Needs) → make_parts given repertoire ≡ Ok needs → Fails needs → HasNone given.key_names (no_keys given) repertoire
impossible given repertoire needs h fails certificate p =
    let m = made_of given repertoire needs h in
    let c = parts_from given m.move repertoire certificate m.range p.parts m.is_move m.is_range p.read in
    fails_kept m.move m.range c.0 (subst Fails (sym m.whole) fails) (subst (λ (q : checks.Parts). IsKept q) (sym c.1) p.kept)
    (subst (λ (q : checks.Parts). KeepsTyping q.names q.keys q.old q.new) (sym c.1) p.keeps)

-- ---- from a run

no_made : (all : Bool) (given : GivenMigration) (repertoire : List ℕ) (answered : Result Answer Refusal) (answer : Answer) → answered ≡ Ok answer → IsNo answer → AnswersMake all answered given repertoire
    → HasNone given.key_names (no_keys given) repertoire
no_made true given repertoire answered answer e is_no h = by answer is_no (subst (λ (a : Result Answer Refusal). Returns IsAllMadeText a (make_parts given repertoire)) e h)
  where
    why : (needs : Needs) (bytes : List ℕ) → ReportsLeast needs.move.names needs.fresh needs.move.old needs.move.new bytes ⊎ ReportsUntypable needs bytes → Fails needs
    why needs bytes (inl x) = inl x.differs
    why needs bytes (inr x) = inr (x.least, x.unreachable)

    by : (a : Answer) → IsNo a → Returns IsAllMadeText (Ok a) (make_parts given repertoire) → HasNone given.key_names (no_keys given) repertoire
    by (Yes text) n r = absurd n
    by (No text) n r = impossible given repertoire r.0 r.1 (why r.0 (string_bytes text) r.2)
    by (Invalid fault) n r = absurd r.2
    by (FreshNotAllowed keysym) n r = absurd r.2
no_made false given repertoire answered answer e is_no h = by answer is_no (subst (λ (a : Result Answer Refusal). Returns IsMadeText a (make_parts given repertoire)) e h)
  where
    why : (needs : Needs) (bytes : List ℕ) → ReportsLeast needs.move.names needs.fresh needs.move.old needs.move.new bytes ⊎ ReportsUnreachable needs bytes → Fails needs
    why needs bytes (inl x) = inl x.differs
    why needs bytes (inr x) = inr (x.character, x.unreachable)

    by : (a : Answer) → IsNo a → Returns IsMadeText (Ok a) (make_parts given repertoire) → HasNone given.key_names (no_keys given) repertoire
    by (Yes text) n r = absurd n
    by (No text) n r = impossible given repertoire r.0 r.1 (why r.0 (string_bytes text) r.2)
    by (Invalid fault) n r = absurd r.2
    by (FreshNotAllowed keysym) n r = absurd r.2

yes_made : (all : Bool) (given : GivenMigration) (repertoire : List ℕ) (answered : Result Answer Refusal) (text : String Global) → answered ≡ Ok (Yes text) → AnswersMake all answered given repertoire
    → IsCertified given.key_names (no_keys given) repertoire (string_bytes text)
yes_made true given repertoire answered text e h = by (subst (λ (a : Result Answer Refusal). Returns IsAllMadeText a (make_parts given repertoire)) e h)
  where
    by : Returns IsAllMadeText (Ok (Yes text)) (make_parts given repertoire) → IsCertified given.key_names (no_keys given) repertoire (string_bytes text)
    by r = certified given repertoire (string_bytes text) r.0 r.1 r.2
yes_made false given repertoire answered text e h = by (subst (λ (a : Result Answer Refusal). Returns IsMadeText a (make_parts given repertoire)) e h)
  where
    by : Returns IsMadeText (Ok (Yes text)) (make_parts given repertoire) → IsCertified given.key_names (no_keys given) repertoire (string_bytes text)
    by r = certified given repertoire (string_bytes text) r.0 r.1 r.2

-- the same for equal names of keys, and for what is printed
moved_to : (names fresh : List (List ℕ)) (given : GivenMigration) (repertoire bytes printed : List ℕ) → names ≡ fresh → printed ≡ bytes → IsCertified names given repertoire bytes
    → IsCertified fresh given repertoire printed
moved_to names fresh given repertoire bytes printed e p h =
    subst (λ (b : List ℕ). IsCertified fresh given repertoire b) (sym p) (subst (λ (n : List (List ℕ)). IsCertified n given repertoire bytes) e h)

pub makes : (run : Run) (tables : BothTables) (fresh : Vec (Bor (List ℕ)) Global) (all : Bool) (repertoire : Bor (List ℕ)) (output : Option (Bor (List ℕ))) (outcome : Outcome)
    → EndsWith 0 run (Make tables fresh all repertoire output) outcome
    → (given : GivenMigration) × DefinesTables run tables [] given × (bytes : List ℕ) × IsHeld run.folder repertoire.now (File bytes) × IsCertified (words fresh.items) given bytes (string_bytes outcome.output)
makes run (Manifests paths) fresh all repertoire output outcome h =
    let a = answers run (Make (Manifests paths) fresh all repertoire output) outcome h in
    let r = a.5 in
    let is_yes = yes_worded true run.options.verbose r.is.given r.is.answered r.printed r.is.reported (ap status_of (sym r.written.ended) ∙ h.1) in
    let made = yes_made a.0.all (migration_given r.files (words a.0.fresh.now)) r.repertoire r.is.answered is_yes.0 is_yes.1 r.is.is in (
      migration_given r.files [],
      (r.files, r.read, refl),
      r.repertoire,
      subst (λ (path : Bor (List ℕ)). IsHeld run.folder path.now (File r.repertoire)) a.3 r.is_repertoire,
      moved_to (words a.0.fresh.now) (words fresh.items) (migration_given r.files []) r.repertoire (string_bytes is_yes.0) (string_bytes outcome.output) a.1 (ap string_bytes r.written.output ∙ is_yes.2) made,
    )
makes run (Files pair) fresh all repertoire output outcome h =
    let a = answers run (Make (Files pair) fresh all repertoire output) outcome h in
    let r = a.5 in
    let is_yes = yes_noted r.is.answered r.is.reported.is.given r.is.reported.printed r.printed r.is.reported.is.reported r.is.reported.noted (ap status_of (sym r.written.ended) ∙ h.1) in
    let made = yes_made a.0.all (migration_given r.files (words a.0.fresh.now)) r.repertoire r.is.answered is_yes.0 is_yes.1 r.is.is in (
      migration_given r.files [],
      (r.files, r.read, refl),
      r.repertoire,
      subst (λ (path : Bor (List ℕ)). IsHeld run.folder path.now (File r.repertoire)) a.3 r.is_repertoire,
      moved_to (words a.0.fresh.now) (words fresh.items) (migration_given r.files []) r.repertoire (string_bytes is_yes.0) (string_bytes outcome.output) a.1 (ap string_bytes r.written.output ∙ is_yes.2) made,
    )

pub makes_none : (run : Run) (tables : BothTables) (fresh : Vec (Bor (List ℕ)) Global) (all : Bool) (repertoire : Bor (List ℕ)) (output : Option (Bor (List ℕ))) (outcome : Outcome)
    → EndsWith 1 run (Make tables fresh all repertoire output) outcome
    → (given : GivenMigration) × DefinesTables run tables [] given × (bytes : List ℕ) × IsHeld run.folder repertoire.now (File bytes) × HasNone (words fresh.items) given bytes
makes_none run (Manifests paths) fresh all repertoire output outcome h =
    let a = answers_no run (Make (Manifests paths) fresh all repertoire output) outcome h in
    let r = a.5 in
    let is_no = no_worded r.is.answered r.printed r.is.reported (ap status_of (sym r.written.ended) ∙ h.1) in
    let none = no_made a.0.all (migration_given r.files (words a.0.fresh.now)) r.repertoire r.is.answered is_no.0 is_no.1 is_no.2 r.is.is in (
      migration_given r.files [],
      (r.files, r.read, refl),
      r.repertoire,
      subst (λ (path : Bor (List ℕ)). IsHeld run.folder path.now (File r.repertoire)) a.3 r.is_repertoire,
      subst (λ (names : List (List ℕ)). HasNone names (migration_given r.files []) r.repertoire) a.1 none,
    )
makes_none run (Files pair) fresh all repertoire output outcome h =
    let a = answers_no run (Make (Files pair) fresh all repertoire output) outcome h in
    let r = a.5 in
    let is_no = no_worded r.is.answered r.is.reported.printed r.is.reported.is.reported (ap status_of (sym r.is.reported.noted.ended) ∙ (ap status_of (sym r.written.ended) ∙ h.1)) in
    let none = no_made a.0.all (migration_given r.files (words a.0.fresh.now)) r.repertoire r.is.answered is_no.0 is_no.1 is_no.2 r.is.is in (
      migration_given r.files [],
      (r.files, r.read, refl),
      r.repertoire,
      subst (λ (path : Bor (List ℕ)). IsHeld run.folder path.now (File r.repertoire)) a.3 r.is_repertoire,
      subst (λ (names : List (List ℕ)). HasNone names (migration_given r.files []) r.repertoire) a.1 none,
    )
