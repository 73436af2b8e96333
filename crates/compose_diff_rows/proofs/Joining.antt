-- The steps of `diff`, one after another.
use Rattle.std.proofs.Common.{◌≡◌, ℕ, List, sym, ◌∙◌, ap, subst, nat_cmp}
use Rattle.std.specs.Prelude.{not, nat_eq, Option, Some, None, Result, Ok, Err}
use Rattle.std.specs.Option.{option_map_or}
use Rattle.std.specs.List.{find, dedup}
use Rattle.std.specs.Result.{IsErrAnd}
use Rattle.std.specs.List.Sorted.{IsPermutation, IsSorted}
use Rattle.compose_answer.proofs.Rising.{rising_is}
use Rattle.compose_text.specs.Lines.{lines_of}
use Rattle.compose_text.specs.Results.{◌>>=◌}
use Rattle.compose_model.specs.Nodes.{rising}
use Rattle.compose_fresh.specs.Conditions.{first_unmet}
use Rattle.compose_fresh.specs.Fresh.{fresh_conditions}
use Rattle.compose_fresh.specs.declared.fault.CheckFault.{CheckFault}
use Rattle.compose_migration.specs.Migration.{GivenMigration, Parts, migration_of, NoAnswer, no_fresh}
use Rattle.compose_answer.specs.Parts.{Explainable}
use Rattle.compose_migration.specs.Refused.{IsRefused}
use Rattle.compose_answer.specs.declared.answer.Answer.{Answer}
use Rattle.compose_migration.specs.declared.refusal.Refusal.{Refusal}
use Rattle.compose_migration.proofs.Steps.{step_refused}
use Rattle.compose_diff.specs.Accepted.{Line, list_lines_from, accepted_of, is_in_form, Returns}
use Rattle.compose_diff.specs.declared.accepted.AcceptFault.{AcceptFault}
use Rattle.compose_diff.specs.declared.accepted.AcceptFault.TheVariants.{Stale, BadLine, NoMemory}
use Rattle.compose_diff_rows.specs.Answers.{Asked, compared, compared_parts, AnswersDiff}
use Rattle.compose_diff_rows.specs.Steps.{accept_raised, AnswersCompared}
use Rattle.compose_diff_rows.specs.declared.asking.DiffFault.{DiffFault}
use Rattle.compose_diff_rows.specs.declared.asking.DiffFault.TheVariants.{Input, Accept}

-- ---- what is compared

module _ (given : GivenMigration) where
  -- a refusal of the migration is that of what is compared
  pub unread_refused : (refusal : Refusal) → IsRefused refusal (migration_of given) → IsRefused refusal (compared_parts given)
  unread_refused refusal h = step_refused refusal (migration_of given) compared h

  module _ (expected move : Parts) (was : migration_of given ≡ Ok expected) (is : expected ≡ move) where
    -- once the migration is read, what is compared depends on it
    pub after_read : compared_parts given ≡ compared move
    after_read = ap (λ r. r >>= compared) was ∙ ap compared is

-- ---- the fresh keysyms

-- a copy of keysyms that is sorted, each kept once, has the rising ones
pub rising_of : (keys copied items sorted fresh : List ℕ) → copied ≡ keys → items ≡ copied → IsPermutation items sorted → IsSorted nat_cmp sorted → fresh ≡ dedup nat_eq sorted
    → fresh ≡ rising nat_cmp keys
rising_of keys copied items sorted fresh from same moved in_order is = rising_is keys sorted fresh (subst (λ (xs : List ℕ). IsPermutation xs sorted) (same ∙ from) moved) in_order is

module _ (move : Parts) (fresh seen : List ℕ) (is : fresh ≡ rising nat_cmp move.keys) (same : seen ≡ fresh) where
  abbrev compared_by : List ℕ → List ℕ → Result Explainable NoAnswer
  compared_by checked kept = option_map_or (λ fault. Err (no_fresh fault)) (first_unmet (fresh_conditions move.old checked)) (Ok (record { move = move; fresh = kept }))

  given_fresh : compared move ≡ compared_by seen fresh
  given_fresh = ap (λ (xs : List ℕ). compared_by xs xs) (sym is) ∙ ap (λ (xs : List ℕ). compared_by xs fresh) (sym same)

  abbrev by_fault : Option CheckFault → Result Explainable NoAnswer
  by_fault unmet = option_map_or (λ fault. Err (no_fresh fault)) unmet (Ok (record { move = move; fresh = fresh }))

  -- rising keysyms that meet all conditions are compared
  pub fresh_met : None ≡ first_unmet (fresh_conditions move.old seen) → compared move ≡ Ok (record { move = move; fresh = fresh })
  fresh_met h = given_fresh ∙ ap by_fault (sym h)

  -- the first condition that they do not meet is the refusal
  pub fresh_unmet : (fault : CheckFault) → Some fault ≡ first_unmet (fresh_conditions move.old seen) → compared move ≡ Err (no_fresh fault)
  fresh_unmet fault h = given_fresh ∙ ap by_fault (sym h)

-- ---- the list of intended changes

-- if the list is read, no line is stale
not_stale : (bytes : List ℕ) (n : ℕ) → accepted_of bytes ≡ Err (Stale n) → ⊥
not_stale bytes n h = go (list_lines_from 1 (lines_of bytes)) (find (λ line. not (is_in_form line)) (list_lines_from 1 (lines_of bytes))) h
  where
    go : (lines : List Line) (found : Option Line) → (let r : Result (List Line) AcceptFault = option_map_or (λ (line : Line). Err (BadLine line.number)) found (Ok lines) in r) ≡ Err (Stale n) → ⊥
    go lines None h = cc
    go lines (Some line) h = cc

-- ---- the whole

module _ (asked : Asked) (e : Explainable) (is : compared_parts asked.migration ≡ Ok e) where
  -- for what is compared, the first line that is not in the required form is refused; or memory ran
  -- out
  pub accept_refused : (fault : AcceptFault) → Returns {A = List Line} (Err fault) (accepted_of asked.accepted) → AnswersDiff asked (Err (accept_raised fault))
  accept_refused (Stale n) h = absurd (not_stale asked.accepted n h)
  accept_refused (BadLine n) h = (e, is, h)
  accept_refused NoMemory h = tt

  -- the answer on both tables, if the lines of the list are read
  pub reported_of : (lines : List Line) → accepted_of asked.accepted ≡ Ok lines → (r : Result Answer DiffFault) → AnswersCompared asked e lines r → AnswersDiff asked r
  reported_of lines read (Ok answer) h = let matches_text = h.3 in (e, is, record { lines = lines; rows = h.0; left = matches_text.0; tables = h.1; read = read; are = h.2; leaves = matches_text.1; reported = matches_text.2 })
  reported_of lines read (Err (Input refusal)) h = subst (λ (x : Refusal). IsRefused x (compared_parts asked.migration)) (sym h) tt
  reported_of lines read (Err (Accept (Stale n))) h = (e, is, record { lines = lines; rows = h.0; read = read; are = h.1; stale = h.2 })
  reported_of lines read (Err (Accept (BadLine n))) h = absurd h.2
  reported_of lines read (Err (Accept NoMemory)) h = absurd h.2

-- a fault that is passed on is that of the whole
pub handed_on : (asked : Asked) (r : Result Answer DiffFault) (fault : DiffFault) → IsErrAnd r (λ e. e ≡ fault) → AnswersDiff asked (Err fault) → AnswersDiff asked r
handed_on asked (Ok answer) fault h g = absurd h
handed_on asked (Err e) fault h g = subst (λ (x : DiffFault). AnswersDiff asked (Err x)) (sym h) g
