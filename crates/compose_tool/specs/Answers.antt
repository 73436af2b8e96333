-- The answer of each command on its parts.
use Rattle.std.specs.Prelude.{◌≡◌, ◌≢◌, ◌⊎◌, ℕ, List, [], ◌∷◌, ◌++◌, length, filter, flat_map, if◌then◌else◌, Option, Some, None, Result, Ok, Err, string_bytes, codes, true, not}
use Rattle.std.specs.List.{find}
use Rattle.std.specs.Fmt.{decimal, digits}
use Rattle.std.specs.Ordering.{nat_cmp}
use Rattle.compose_text.specs.Results.{◌>>=◌}
use Rattle.keysym_core.specs.Names.{KeysymNames}
use Rattle.keysym_core.specs.Printed.{at_least_four}
use Rattle.compose_model.specs.Table.{Definition, has_key}
use Rattle.compose_model.specs.Nodes.{rising}
use Rattle.compose_model.specs.Follows as model
use Rattle.compose_model.specs.Certificate as certificates
use Rattle.compose_cert.specs.Repertoire.{repertoire_of}
use Rattle.compose_cert.specs.Spelling.{Spells}
use Rattle.compose_read.specs.Lines.{Source}
use Rattle.compose_read.specs.Read.{definitions_of}
use Rattle.compose_read.specs.declared.ReadFault.{ReadFault}
use Rattle.compose_read.specs.declared.ReadFault.TheVariants.{MissingRoot}
use Rattle.compose_check.specs.Input as checks
use Rattle.compose_check.specs.Input.{verdict_on}
use Rattle.compose_check.specs.declared.verdict.Verdict.TheVariants as verdicts
use Rattle.compose_walk.specs.Evidence.{Evidence, IsLeast, AreDifferences}
use Rattle.compose_walk.specs.Explained.{explained, all_explained}
use Rattle.compose_make.specs.Least.{AreUntypable, IsUnreachable}
use Rattle.compose_make.specs.IsMade.{IsMadeFor}
use Rattle.compose_migration.specs.Migration.{NoAnswer, Parts, no_repertoire, or_because}
use Rattle.compose_answer.specs.Parts.{TypedParts, Explainable, Needs, makeable}
use Rattle.compose_tool.specs.Typed.{typed_lines, typed_lists}
use Rattle.compose_answer.specs.declared.answer.Answer.{Answer}
use Rattle.compose_answer.specs.declared.answer.Answer.TheVariants.{Yes, No, Invalid, FreshNotAllowed}

-- the text is these words and a newline
abbrev pub one_line : List ℕ → List ℕ
one_line words = words ++ 10 ∷ []

-- ---- type

-- a line for each key
abbrev pub IsTyped : TypedParts → Answer → Type 0
IsTyped p (Yes text) = string_bytes text ≡ typed_lines p.names p.table p.keys
IsTyped p (No text) = ⊥
IsTyped p (Invalid fault) = ⊥
IsTyped p (FreshNotAllowed keysym) = ⊥

-- the definitions that are read from the first source, before they are settled
abbrev pub first_definitions : KeysymNames → List Source → Result (List Definition) ReadFault
first_definitions names [] = Err MissingRoot
first_definitions names (s ∷ sources) = definitions_of names (s ∷ sources) s.name

-- the same names and keys over these definitions
abbrev pub with_definitions : List Definition → TypedParts → TypedParts
with_definitions table p = record { names = p.names; keys = p.keys; table = table }

-- a line for each key of each list, and an empty line after each list
abbrev pub AreListsTyped : List ℕ → TypedParts → Answer → Type 0
AreListsTyped counts p (Yes text) = string_bytes text ≡ typed_lists p.names p.table p.keys counts
AreListsTyped counts p (No text) = ⊥
AreListsTyped counts p (Invalid fault) = ⊥
AreListsTyped counts p (FreshNotAllowed keysym) = ⊥

-- ---- check

-- the verdict on the certificate: `yes`, or the first condition that it does not meet
abbrev pub IsChecked : checks.Parts → Answer → Type 0
IsChecked p (Yes text) = (verdict_on p ≡ verdicts.Yes) × (string_bytes text ≡ one_line (codes "yes"))
IsChecked p (No text) = ⊥
IsChecked p (Invalid fault) = verdict_on p ≡ verdicts.No fault
IsChecked p (FreshNotAllowed keysym) = ⊥

-- the first of the keysyms that is not among the allowed ones
abbrev pub first_not_among : List ℕ → List ℕ → Option ℕ
first_not_among allowed keysyms = find (λ k. not (has_key allowed k)) keysyms

-- the verdict; and if it is yes, the first fresh keysym of the certificate that is not allowed, if
-- there is one
abbrev pub IsCheckedFor : checks.Parts → Answer → Type 0
IsCheckedFor p (FreshNotAllowed keysym) = (verdict_on p ≡ verdicts.Yes) × (first_not_among p.keys p.certificate.fresh ≡ Some keysym)
IsCheckedFor p (Yes text) = IsChecked p (Yes text) × (first_not_among p.keys p.certificate.fresh ≡ None)
IsCheckedFor p answer = IsChecked p answer

-- ---- explain

-- the new table does not follow, and the bytes are the four lines of the least of the shortest
-- counterexamples
pub record ReportsLeast (names : KeysymNames) (fresh : List ℕ) (old new : List Definition) (bytes : List ℕ) : Type 0 where
  pub differs : model.Follows names fresh old new → ⊥
  pub evidence : Evidence
  pub least : IsLeast names fresh old new evidence
  pub is : bytes ≡ explained names evidence

-- `follows`, or the four lines
abbrev pub IsExplained : Explainable → Answer → Type 0
IsExplained e (Yes text) = model.Follows e.move.names e.fresh e.move.old e.move.new × (string_bytes text ≡ one_line (codes "follows"))
IsExplained e (No text) = ReportsLeast e.move.names e.fresh e.move.old e.move.new (string_bytes text)
IsExplained e (Invalid fault) = ⊥
IsExplained e (FreshNotAllowed keysym) = ⊥

-- the tables differ, and the bytes list all their differences and count them
pub record ReportsAll (names : KeysymNames) (fresh : List ℕ) (old new : List Definition) (bytes : List ℕ) : Type 0 where
  pub differences : List Evidence
  pub are : AreDifferences names fresh old new differences
  pub some : differences ≢ []
  pub is : bytes ≡ all_explained names differences

-- `follows` if there are no differences; otherwise all of them
abbrev pub IsAllExplained : Explainable → Answer → Type 0
IsAllExplained e (Yes text) = AreDifferences e.move.names e.fresh e.move.old e.move.new [] × (string_bytes text ≡ one_line (codes "follows"))
IsAllExplained e (No text) = ReportsAll e.move.names e.fresh e.move.old e.move.new (string_bytes text)
IsAllExplained e (Invalid fault) = ⊥
IsAllExplained e (FreshNotAllowed keysym) = ⊥

-- ---- make

-- the input from which a certificate is made, once the migration is read
abbrev pub needs_of : Parts → List ℕ → Result Needs NoAnswer
needs_of move repertoire = do
  r ← or_because no_repertoire (repertoire_of repertoire)
  makeable move r (rising nat_cmp move.keys)

-- the bytes are the text of a certificate that is to be made
pub record SpellsMade (needs : Needs) (bytes : List ℕ) : Type 0 where
  pub certificate : certificates.Certificate
  pub made : IsMadeFor needs.move.names needs.fresh needs.move.old needs.move.new needs.repertoire certificate
  pub spells : Spells bytes certificate

-- the new table follows, this character is the least one that no list of keys types, and the bytes
-- name it
pub record ReportsUnreachable (needs : Needs) (bytes : List ℕ) : Type 0 where
  pub follows : model.Follows needs.move.names needs.fresh needs.move.old needs.move.new
  pub character : ℕ
  pub unreachable : IsUnreachable needs.move.names needs.move.new needs.repertoire character
  pub is : bytes ≡ one_line (codes "unreachable U+" ++ at_least_four (digits 16 true character))

-- a certificate's text; or the least counterexample's, if the new table does not follow; or the
-- first character that has no typing
abbrev pub IsMadeText : Needs → Answer → Type 0
IsMadeText needs (Yes text) = SpellsMade needs (string_bytes text)
IsMadeText needs (No text) = ReportsLeast needs.move.names needs.fresh needs.move.old needs.move.new (string_bytes text) ⊎ ReportsUnreachable needs (string_bytes text)
IsMadeText needs (Invalid fault) = ⊥
IsMadeText needs (FreshNotAllowed keysym) = ⊥

-- ---- make --all

-- the words for a character that the old table can't type either
abbrev pub tables_words : List ℕ → ℕ → List ℕ
tables_words old c = if has_key old c then codes " in both tables" else []

-- a character's line
abbrev pub untypable_line : List ℕ → ℕ → List ℕ
untypable_line old c = one_line (codes "unreachable U+" ++ at_least_four (digits 16 true c) ++ tables_words old c)

abbrev pub each_untypable : List ℕ → List ℕ → List ℕ
each_untypable old new = flat_map (untypable_line old) new

-- the number of characters that the old table can type, and of those that it can't
abbrev pub count_alone : List ℕ → List ℕ → ℕ
count_alone old new = length (filter (λ c. not (has_key old c)) new)

abbrev pub count_of_both : List ℕ → List ℕ → ℕ
count_of_both old new = length (filter (λ c. has_key old c) new)

-- such as `3 unreachable: 2 in the new table alone, 1 in both tables`
abbrev pub untypable_count : List ℕ → List ℕ → List ℕ
untypable_count old new =
    one_line (decimal (length new) ++ codes " unreachable: " ++ decimal (count_alone old new) ++ codes " in the new table alone, " ++ decimal (count_of_both old new) ++ codes " in both tables")

-- a line for each character that the new table can't type, and a line that counts them
abbrev pub untypable_lines : List ℕ → List ℕ → List ℕ
untypable_lines old new = each_untypable old new ++ untypable_count old new

-- the bytes list each character that the new table can't type, and mark those that the old table
-- can't type either
pub record IsUntypableText (move : Parts) (repertoire : certificates.Repertoire) (bytes : List ℕ) : Type 0 where
  pub old : List ℕ
  pub are_old : AreUntypable move.names move.old repertoire old
  pub new : List ℕ
  pub are_new : AreUntypable move.names move.new repertoire new
  pub is : bytes ≡ untypable_lines old new

-- the new table follows, no list of keys types some character, and the bytes list all such
-- characters
pub record ReportsUntypable (needs : Needs) (bytes : List ℕ) : Type 0 where
  pub follows : model.Follows needs.move.names needs.fresh needs.move.old needs.move.new
  pub least : ℕ
  pub unreachable : IsUnreachable needs.move.names needs.move.new needs.repertoire least
  pub reports : IsUntypableText needs.move needs.repertoire bytes

-- a certificate's text; or the least counterexample's, if the new table does not follow; or all
-- characters that have no typing
abbrev pub IsAllMadeText : Needs → Answer → Type 0
IsAllMadeText needs (Yes text) = SpellsMade needs (string_bytes text)
IsAllMadeText needs (No text) = ReportsLeast needs.move.names needs.fresh needs.move.old needs.move.new (string_bytes text) ⊎ ReportsUntypable needs (string_bytes text)
IsAllMadeText needs (Invalid fault) = ⊥
IsAllMadeText needs (FreshNotAllowed keysym) = ⊥
