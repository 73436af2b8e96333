-- The input of a command, as values.
use Rattle.std.specs.Prelude.{◌≡◌, ℕ, List, [], ◌∷◌, map, option_copied, string_bytes}
use Rattle.compose_input.specs.declared.names.NameFiles.{NameFiles}
use Rattle.compose_input.specs.declared.tables.TableFiles.{TableFiles}
use Rattle.compose_details.specs.declared.given.GivenTable.{GivenTable}
use Rattle.compose_details.specs.declared.given.Given.{Given}

-- the names, the arguments that have to name keysyms, and the tables; and the paths and the texts
-- of the repertoire and the certificate
pub record GivenParts : Type 0 where
  pub names : NameFiles
  pub arguments : List (List ℕ)
  pub tables : List TableFiles
  pub repertoire : List ℕ
  pub repertoire_text : List ℕ
  pub certificate : List ℕ
  pub certificate_text : List ℕ

-- names, arguments and tables, and no other files
abbrev pub parts_of : NameFiles → List (List ℕ) → List TableFiles → GivenParts
parts_of names arguments tables = record { names = names; arguments = arguments; tables = tables; repertoire = []; repertoire_text = []; certificate = []; certificate_text = [] }

pub record IsGivenTable (files : TableFiles) (table : GivenTable) : Type 0 where
  pub path : table.manifest.now ≡ string_bytes files.path
  pub paths : table.paths.now ≡ files.paths.items
  pub sources : table.input.sources.now ≡ files.sources
  pub rule : table.input.rule ≡ files.rule
  pub locale : option_copied table.locale ≡ files.locale

abbrev pub AreGivenTables : List TableFiles → List GivenTable → Type 0
AreGivenTables [] [] = Unit {0}
AreGivenTables (f ∷ files) (t ∷ tables) = IsGivenTable f t × AreGivenTables files tables
AreGivenTables files tables = ⊥

-- these parts were given
pub record IsGiven (parts : GivenParts) (given : Given) : Type 0 where
  pub headers : given.headers.now ≡ parts.names.files.items
  pub header : given.header.now ≡ parts.names.lines.items
  pub arguments : map (λ argument. argument.now) given.arguments.now ≡ parts.arguments
  pub tables : AreGivenTables parts.tables given.tables.now
  pub repertoire : given.repertoire.now ≡ parts.repertoire
  pub repertoire_text : given.repertoire_text.now ≡ parts.repertoire_text
  pub certificate : given.certificate.now ≡ parts.certificate
  pub certificate_text : given.certificate_text.now ≡ parts.certificate_text
