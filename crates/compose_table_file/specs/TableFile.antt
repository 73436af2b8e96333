-- The file of the table in use (this project's profile: docs/FORMATS.md).
use Rattle.std.specs.Prelude.{◌≡◌, ◌&&◌, ℕ, ◌≤◌, List, [], ◌∷◌, flat_map, Option, Some, None, if◌then◌else◌, codes}
use Rattle.std.specs.Int.{to_be_bytes, w32}
use Rattle.std.specs.List.{AllByRecursion}
use Rattle.std.specs.Str.{bytes_eq}
use Rattle.keysym_core.specs.Keysym.{max_keysym}
use Rattle.compose_model.specs.declared.Rule.{Rule}
use Rattle.compose_model.specs.declared.Rule.TheVariants.{Longest, Refuse}
use Rattle.compose_read.specs.Lines.{Source}
use Rattle.compose_bundle.specs.Bundle.{Bundle, IsBundle}

-- what is kept of the table in use: the rule for overlaps, the text of a repertoire, the lines of
-- the files of names (none if the names are the built-in ones), the keysyms that a load may list as
-- fresh, and the payload of the load that brought the table
pub record TableFile : Type 0 where
  pub rule : Rule
  pub repertoire : List ℕ
  pub names : List ℕ
  pub fresh : List ℕ
  pub payload : List ℕ

-- ---- form 2

abbrev pub mark : Rule → List ℕ
mark Longest = codes "composecheck-table 2 longest"
mark Refuse = codes "composecheck-table 2 refuse"

abbrev pub AreKeysyms : List ℕ → Type 0
AreKeysyms keysyms = AllByRecursion (λ k. k ≤ max_keysym) keysyms

-- keysyms one after another, each as a number of four bytes, the highest byte first
abbrev pub fresh_bytes : List ℕ → List ℕ
fresh_bytes fresh = flat_map (to_be_bytes w32) fresh

-- a bundle of three sources: the repertoire, under a name that marks the rule; `names`; and
-- `fresh`. The payload is in the place of the certificate
abbrev pub file_of : TableFile → Bundle
file_of t = record {
  sources =
      record { name = mark t.rule; bytes = t.repertoire } ∷ record { name = codes "names"; bytes = t.names } ∷ record { name = codes "fresh"; bytes = fresh_bytes t.fresh } ∷ [];
  certificate = t.payload;
}

-- ---- earlier forms

abbrev pub first_mark : Rule → List ℕ
first_mark Longest = codes "composecheck-table 1 longest"
first_mark Refuse = codes "composecheck-table 1 refuse"

-- the rule that a name marks, by the marks of the rules
abbrev pub rule_named : (Rule → List ℕ) → List ℕ → Option Rule
rule_named marks name = if bytes_eq name (marks Longest) then Some Longest else if bytes_eq name (marks Refuse) then Some Refuse else None

-- the rule that the name of the first source marks
abbrev pub rule_marked : (Rule → List ℕ) → List Source → Option Rule
rule_marked marks [] = None
rule_marked marks (s ∷ sources) = rule_named marks s.name

abbrev pub first_bytes : List Source → List ℕ
first_bytes [] = []
first_bytes (s ∷ sources) = s.bytes

-- what a bundle of an earlier form keeps, by the rule that it marks and its bytes: in form 1 the
-- repertoire is the content of the first source; a bundle without a mark is itself the payload. The
-- names are the built-in ones, and no load may list a fresh keysym
abbrev pub kept_before : Option Rule → List ℕ → Bundle → TableFile
kept_before (Some rule) bytes b = record { rule = rule; repertoire = first_bytes b.sources; names = []; fresh = []; payload = b.certificate }
kept_before None bytes b = record { rule = Longest; repertoire = []; names = []; fresh = []; payload = bytes }

-- ---- any form

-- a bundle with these bytes keeps the table; the rule is the one that it marks if it is of form 2
abbrev pub Keeps : Option Rule → List ℕ → Bundle → TableFile → Type 0
Keeps (Some rule) bytes b t = AreKeysyms t.fresh × (b ≡ file_of t)
Keeps None bytes b t = t ≡ kept_before (rule_marked first_mark b.sources) bytes b

-- the bytes are those of a file that keeps this table
abbrev pub FileHas : List ℕ → TableFile → Type 0
FileHas bytes t = (b : Bundle) × IsBundle bytes b × Keeps (rule_marked mark b.sources) bytes b t

-- ---- what is wrong with a file of form 2

-- the contents of the sources `names` and `fresh`, if these are the two behind the first
abbrev pub parts : List Source → Option (List ℕ × List ℕ)
parts (r ∷ n ∷ f ∷ []) = if bytes_eq n.name (codes "names") && bytes_eq f.name (codes "fresh") then Some (n.bytes, f.bytes) else None
parts sources = None

-- no keysyms are written as these bytes
abbrev pub AreNoKeysyms : List ℕ → Type 0
AreNoKeysyms bytes = (keysyms : List ℕ) → AreKeysyms keysyms → bytes ≡ fresh_bytes keysyms → ⊥
