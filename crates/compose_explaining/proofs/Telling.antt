-- What `explain` tells, from what the walk found.
use Rattle.std.proofs.Common.{◌≡◌, refl, ℕ, List, [], ◌∷◌, ap, sym, subst, ◌∙◌, string_bytes}
use Rattle.std.specs.Prelude.{Bool, true, false, Option, Some, None, Result, Ok, Err}
use Rattle.std.specs.Option.{option_map_or}
use Rattle.keysym_core.specs.Names.{KeysymNames}
use Rattle.compose_model.specs.Table.{Definition}
use Rattle.compose_model.specs.Follows as model
use Rattle.compose_read.specs.Lines.{Source}
use Rattle.compose_migration.specs.Migration.{NoAnswer, Parts}
use Rattle.compose_migration.specs.Refused.{Returns}
use Rattle.compose_migration.specs.declared.refusal.Refusal.{Refusal}
use Rattle.compose_places.specs.Placed.{HasLines}
use Rattle.compose_places.specs.declared.placed.PlacedTable.{PlacedTable}
use Rattle.compose_walk.specs.Evidence.{Evidence, IsLeast, AreDifferences}
use Rattle.compose_walk.specs.Explained.{explained, all_explained}
use Rattle.compose_answer.specs.Parts.{Explainable, explainable, accepted, fresh_fault}
use Rattle.compose_answer.specs.declared.answer.Answer.{Answer}
use Rattle.compose_answer.specs.declared.answer.Answer.TheVariants.{Yes, No, Invalid, FreshNotAllowed}
use Rattle.compose_tool.specs.Answers.{IsExplained, IsAllExplained}
use Rattle.compose_explaining.specs.Sides.{Lined, hinted_texts, lined, lined_of}
use Rattle.compose_explaining.specs.Told.{IsBelow, IsExplainedBy, SaysFollows, SaysNo, TellsOf}
use Rattle.compose_report.specs.declared.told.Told.{Told}
use Rattle.compose_explaining.specs.declared.sides.Side.{Side}

module _ (e : Explainable) (old new : Lined) where
  pub least_is : (x : Evidence) (answer : Answer) (details : List ℕ) → (model.Follows e.move.names e.fresh e.move.old e.move.new → ⊥) → IsLeast e.move.names e.fresh e.move.old e.move.new x
      → SaysNo (explained e.move.names x) answer → details ≡ hinted_texts e.move.names old new (x ∷ []) → IsExplained e answer × IsBelow false old new e answer details
  least_is x (No text) details differs least says is = (record { differs = differs; evidence = x; least = least; is = says }, (x ∷ [], (refl, least), is))
  least_is x (Yes text) details differs least says is = absurd says
  least_is x (Invalid fault) details differs least says is = absurd says
  least_is x (FreshNotAllowed k) details differs least says is = absurd says

  pub all_are : (xs : List Evidence) (answer : Answer) (details : List ℕ) → AreDifferences e.move.names e.fresh e.move.old e.move.new xs → (xs ≡ [] → ⊥)
      → SaysNo (all_explained e.move.names xs) answer → details ≡ hinted_texts e.move.names old new xs → IsAllExplained e answer × IsBelow true old new e answer details
  all_are xs (No text) details are some says is = (record { differences = xs; are = are; some = some; is = says }, (xs, are, is))
  all_are xs (Yes text) details are some says is = absurd says
  all_are xs (Invalid fault) details are some says is = absurd says
  all_are xs (FreshNotAllowed k) details are some says is = absurd says

  pub follows_least : (answer : Answer) (details : List ℕ) → model.Follows e.move.names e.fresh e.move.old e.move.new → SaysFollows answer → details ≡ []
      → IsExplained e answer × IsBelow false old new e answer details
  follows_least (Yes text) details follows says nothing = ((follows, says), nothing)
  follows_least (No text) details follows says nothing = absurd says
  follows_least (Invalid fault) details follows says nothing = absurd says
  follows_least (FreshNotAllowed k) details follows says nothing = absurd says

  pub follows_all : (answer : Answer) (details : List ℕ) → AreDifferences e.move.names e.fresh e.move.old e.move.new [] → SaysFollows answer → details ≡ []
      → IsAllExplained e answer × IsBelow true old new e answer details
  follows_all (Yes text) details follows says nothing = ((follows, says), nothing)
  follows_all (No text) details follows says nothing = absurd says
  follows_all (Invalid fault) details follows says nothing = absurd says
  follows_all (FreshNotAllowed k) details follows says nothing = absurd says

-- ---- the lines are those of the sources

pub lined_is : {T : Type 0} (view : T → List Definition) (names : KeysymNames) (sources : List Source) (side : Side) (placed : PlacedTable T)
    → HasLines view names sources placed → lined view side placed ≡ lined_of names side sources (view placed.table)
lined_is view names sources side placed has =
    ap (λ ls. (let l : Lined = record { path = side.path.now; paths = (lined view side placed).paths; table = view placed.table; lines = ls } in l)) has.lines

-- another word for an answer
pub returns_as : {P A : Type 0} (says says' : P → A → Type 0) (result : Result A Refusal) (expected : Result P NoAnswer)
    → ((p : P) (a : A) → expected ≡ Ok p → says p a → says' p a) → Returns says result expected → Returns says' result expected
returns_as says says' (Ok a) expected turn (p, is, said) = (p, is, turn p a is said)
returns_as says says' (Err refusal) expected turn refused = refused

-- the parts of an accepted input are these
is_ok : {P : Type 0} (fault : Option NoAnswer) (parts p : P) → option_map_or (λ why. Err why) fault (Ok parts) ≡ Ok p → parts ≡ p
is_ok None parts p e = cc
is_ok (Some why) parts p e = cc

pub accepted_is : (move : Parts) (fresh : List ℕ) (e : Explainable) → explainable move fresh ≡ Ok e → (let parts : Explainable = record { move = move; fresh = fresh } in parts) ≡ e
accepted_is move fresh e is = is_ok (fresh_fault move.old fresh) (record { move = move; fresh = fresh }) e is

pub tells : (all : Bool) (old new : Lined) (e : Explainable) (told : Told) → IsExplainedBy all e told.answer × IsBelow all old new e told.answer (string_bytes told.details) → TellsOf all old new e told
tells all old new e told (answered, below) = record { answered = answered; below = below }
