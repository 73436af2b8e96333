-- What a command reads: names, then tables, then other files, in this order (defined by this
-- project).
use Rattle.std.specs.Prelude.{◌≡◌, ◌⊎◌, ℕ, Bool, List, [], ◌∷◌, ◌++◌, map, Option, Result, Ok, Err}
use Rattle.std.specs.declared.alloc.Global.{Global}
use Rattle.std.specs.declared.vec.Vec.{Vec}
use Rattle.compose_folder.specs.Content.{Entry, File, IsHeld}
use Rattle.compose_input.specs.Faults.{FailNames}
use Rattle.compose_input.specs.Names.{AreNames}
use Rattle.compose_input.specs.Texts.{IsRead}
use Rattle.compose_input.specs.declared.fault.Fault.{Fault}
use Rattle.compose_input.specs.declared.fault.Fault.TheVariants.{NoMemory}
use Rattle.compose_input.specs.declared.names.NameFiles.{NameFiles}
use Rattle.compose_given.specs.GivenTable.{FailsGivenTable, HasGivenTable, IsGivenTable}
use Rattle.compose_given.specs.Names.{names_for}
use Rattle.compose_given.specs.declared.environment.Environment.{Environment}
use Rattle.compose_given.specs.declared.chosen.NotedTable.{NotedTable}
use Rattle.compose_given.specs.First.{Read, FailsFirst}
use Rattle.compose_given.specs.declared.wanted.Wanted.{Wanted}
use Rattle.compose_given.specs.declared.wanted.WantedTable.{WantedTable}
use Rattle.compose_given.specs.declared.wanted.ReadParts.{ReadParts}

-- ---- each read

abbrev pub names_read : Option (List Entry) → List (List ℕ) → Read Fault
names_read folder names = record { succeeds = (read : NameFiles) × AreNames folder names read; fails = FailNames folder names }

abbrev pub table_read : Option (List Entry) → Environment → WantedTable → Read Fault
table_read folder environment wanted = record { succeeds = HasGivenTable folder environment wanted.table; fails = FailsGivenTable folder environment wanted.part.now wanted.table }

abbrev pub text_read : Option (List Entry) → List ℕ → Read Fault
text_read folder path = record { succeeds = (bytes : List ℕ) × IsHeld folder path (File bytes); fails = λ fault. IsRead folder path (Err fault) }

-- ---- all of them, in order

abbrev pub text_reads : Option (List Entry) → List (List ℕ) → List (Read Fault)
text_reads folder [] = []
text_reads folder (path ∷ paths) = text_read folder path ∷ text_reads folder paths

-- these tables, and then the other reads
abbrev pub table_reads : Option (List Entry) → Environment → List WantedTable → List (Read Fault) → List (Read Fault)
table_reads folder environment [] others = others
table_reads folder environment (wanted ∷ more) others = table_read folder environment wanted ∷ table_reads folder environment more others

abbrev pub names_of : Wanted → List (List ℕ)
names_of wanted = names_for wanted.are_files (map (λ name. name.now) wanted.names.now)

abbrev pub paths_of : Wanted → List (List ℕ)
paths_of wanted = map (λ path. path.now) wanted.texts.now

abbrev pub reads_of : Option (List Entry) → Environment → Wanted → List (Read Fault)
reads_of folder environment wanted = names_read folder (names_of wanted) ∷ table_reads folder environment wanted.tables.now (text_reads folder (paths_of wanted))

-- memory ran out, or the fault is that of the first read that fails
abbrev pub FailsReads : List (Read Fault) → Fault → Type 0
FailsReads reads fault = (fault ≡ NoMemory) ⊎ FailsFirst reads fault

-- ---- what was read

abbrev pub AreTables : Option (List Entry) → Environment → List WantedTable → List NotedTable → Type 0
AreTables folder environment [] [] = Unit {0}
AreTables folder environment (wanted ∷ more) (table ∷ tables) = IsGivenTable folder environment wanted.table table × AreTables folder environment more tables
AreTables folder environment wanted tables = ⊥

abbrev pub AreTexts : Option (List Entry) → List (List ℕ) → List (List ℕ) → Type 0
AreTexts folder [] [] = Unit {0}
AreTexts folder (path ∷ paths) (text ∷ texts) = IsHeld folder path (File text) × AreTexts folder paths texts
AreTexts folder paths texts = ⊥

abbrev pub texts_of : List (Vec ℕ Global) → List (List ℕ)
texts_of texts = map (λ text. text.items) texts

-- the names, the tables and the other files are what the folder has
pub record AreParts (folder : Option (List Entry)) (environment : Environment) (wanted : Wanted) (read : ReadParts) : Type 0 where
  pub are_names : AreNames folder (names_of wanted) read.names
  pub are_tables : AreTables folder environment wanted.tables.now read.tables.items
  pub are_texts : AreTexts folder (paths_of wanted) (texts_of read.texts.items)

-- one more table, or one more file, was read
pub record AddsTable (folder : Option (List Entry)) (environment : Environment) (wanted : WantedTable) (old new : List NotedTable) : Type 0 where
  pub table : NotedTable
  pub is : IsGivenTable folder environment wanted.table table
  pub added : new ≡ old ++ table ∷ []

pub record AddsText (folder : Option (List Entry)) (path : List ℕ) (old new : List (List ℕ)) : Type 0 where
  pub text : List ℕ
  pub is : IsHeld folder path (File text)
  pub added : new ≡ old ++ text ∷ []
