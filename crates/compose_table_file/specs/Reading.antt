-- The results of reading and writing the file of a table.
use Rattle.std.specs.Prelude.{◌≡◌, ◌<◌, ℕ, List, length, Some, None, Result, Ok, Err}
use Rattle.std.specs.declared.alloc.Global.{Global}
use Rattle.std.specs.declared.vec.Vec.{Vec}
use Rattle.compose_model.specs.declared.Rule.{Rule}
use Rattle.compose_bundle.specs.Bundle.{Bundle, BundleFits, IsBundle, bundle_bytes}
use Rattle.compose_bundle.specs.Written.{max_payload}
use Rattle.compose_table_file.specs.TableFile.{TableFile, AreNoKeysyms, FileHas, file_of, mark, parts, rule_marked}
use Rattle.compose_table_file.specs.declared.table_file.StoredTable.{StoredTable}
use Rattle.compose_table_file.specs.declared.table_file.TableParts.{TableParts}
use Rattle.compose_table_file.specs.declared.table_file.StoredFault.{StoredFault}
use Rattle.compose_table_file.specs.declared.table_file.StoredFault.TheVariants.{Form, TooLarge, NoMemory, Parts, Fresh}

abbrev pub table_of : StoredTable → TableFile
table_of t = record { rule = t.rule; repertoire = t.repertoire.items; names = t.names.items; fresh = t.fresh.items; payload = t.payload.now }

abbrev pub table_of_parts : TableParts → TableFile
table_of_parts t = record { rule = t.rule; repertoire = t.repertoire.now; names = t.names.now; fresh = t.fresh.now; payload = t.payload.now }

-- a bundle of form 2 in which a source is missing, has another name, or is one too many
pub record LacksParts (bytes : List ℕ) : Type 0 where
  pub bundle : Bundle
  pub is : IsBundle bytes bundle
  pub rule : Rule
  pub marks : rule_marked mark bundle.sources ≡ Some rule
  pub lacks : parts bundle.sources ≡ None

-- a bundle of form 2 whose fresh keysyms are none
pub record HasNoKeysyms (bytes : List ℕ) : Type 0 where
  pub bundle : Bundle
  pub is : IsBundle bytes bundle
  pub rule : Rule
  pub marks : rule_marked mark bundle.sources ≡ Some rule
  pub names : List ℕ
  pub fresh : List ℕ
  pub has : parts bundle.sources ≡ Some (names, fresh)
  pub none : AreNoKeysyms fresh

-- the file keeps the table; or the bytes are no bundle, as those of a file that is cut off; or a
-- part of form 2 is missing or is none; or memory ran out
abbrev pub ReadsTable : List ℕ → Result StoredTable StoredFault → Type 0
ReadsTable bytes (Ok t) = FileHas bytes (table_of t)
ReadsTable bytes (Err Form) = (b : Bundle) → IsBundle bytes b → ⊥
ReadsTable bytes (Err Parts) = LacksParts bytes
ReadsTable bytes (Err Fresh) = HasNoKeysyms bytes
ReadsTable bytes (Err TooLarge) = ⊥
ReadsTable bytes (Err NoMemory) = Unit {0}

-- the bytes are the file of the table; or it is too large; or memory ran out
abbrev pub WritesTable : Result (Vec ℕ Global) StoredFault → TableFile → Type 0
WritesTable (Ok bytes) t = IsBundle bytes.items (file_of t)
WritesTable (Err TooLarge) t = BundleFits (file_of t) → max_payload < length (bundle_bytes (file_of t))
WritesTable (Err NoMemory) t = Unit {0}
WritesTable (Err fault) t = ⊥
