-- What `explain` tells: its answer, and with `-v` what stands below it (defined by this project).
use Rattle.std.specs.Prelude.{◌≡◌, ℕ, Bool, true, false, List, [], ◌∷◌, MatchBool, string_bytes, codes}
use Rattle.compose_read.specs.Lines.{Source}
use Rattle.compose_migration.specs.declared.migration.MigrationInput.{MigrationInput}
use Rattle.compose_walk.specs.Evidence.{Evidence, IsLeast, AreDifferences}
use Rattle.compose_answer.specs.Parts.{Explainable}
use Rattle.compose_answer.specs.declared.answer.Answer.{Answer}
use Rattle.compose_answer.specs.declared.answer.Answer.TheVariants.{Yes, No}
use Rattle.compose_tool.specs.Answers.{IsExplained, IsAllExplained, one_line}
use Rattle.compose_explaining.specs.Sides.{Lined, hinted_texts, lined_of}
use Rattle.compose_explaining.specs.declared.sides.Side.{Side}
use Rattle.compose_report.specs.declared.told.Told.{Told}

-- the first difference is explained, or with `all` each of them
abbrev pub IsExplainedBy : Bool → Explainable → Answer → Type 0
IsExplainedBy true e answer = IsAllExplained e answer
IsExplainedBy false e answer = IsExplained e answer

-- the differences whose places are shown: the least, or all of them
abbrev pub AreShown : Bool → Explainable → List Evidence → Type 0
AreShown true e xs = AreDifferences e.move.names e.fresh e.move.old e.move.new xs
AreShown false e [] = ⊥
AreShown false e (x ∷ xs) = (xs ≡ []) × IsLeast e.move.names e.fresh e.move.old e.move.new x

-- the text below `no`: the places of the shown differences, and a hint if one helps; nothing below
-- `yes`
abbrev pub IsBelow : Bool → Lined → Lined → Explainable → Answer → List ℕ → Type 0
IsBelow all old new e (No text) details = (xs : List Evidence) × AreShown all e xs × (details ≡ hinted_texts e.move.names old new xs)
IsBelow all old new e answer details = details ≡ []

-- of two tables with these lines, the answer and the text below it
pub record TellsOf (all : Bool) (old new : Lined) (e : Explainable) (told : Told) : Type 0 where
  pub answered : IsExplainedBy all e told.answer
  pub below : IsBelow all old new e told.answer (string_bytes told.details)

-- the same of the sources from which the tables are read
abbrev pub TellsInFull : Bool → Side → Side → MigrationInput → Explainable → Told → Type 0
TellsInFull all old new input e told =
    TellsOf all (lined_of e.move.names old input.old.sources.now e.move.old) (lined_of e.move.names new input.new.sources.now e.move.new) e told

-- the answer alone
pub record TellsBriefly (all : Bool) (e : Explainable) (told : Told) : Type 0 where
  pub answered : IsExplainedBy all e told.answer
  pub nothing : string_bytes told.details ≡ []

abbrev pub Tells : Bool → Bool → Side → Side → MigrationInput → Explainable → Told → Type 0
Tells true all old new input e told = TellsInFull all old new input e told
Tells false all old new input e told = TellsBriefly all e told

-- ---- definitions for private functions

abbrev pub SaysNo : List ℕ → Answer → Type 0
SaysNo words (No text) = string_bytes text ≡ words
SaysNo words answer = ⊥

abbrev pub SaysFollows : Answer → Type 0
SaysFollows (Yes text) = string_bytes text ≡ one_line (codes "follows")
SaysFollows answer = ⊥
