-- The effect of an update on the table from which a service starts (this project's profile).
use Rattle.std.specs.Prelude.{◌≡◌, ◌⊎◌, ℕ, ◌<◌, List, [], map, length, Option, Some, None, Result, Ok, Err, string_bytes}
use Rattle.std.specs.Option.{option_map}
use Rattle.std.specs.declared.string.String.{String}
use Rattle.std.specs.declared.alloc.Global.{Global}
use Rattle.compose_model.specs.declared.Rule.{Rule}
use Rattle.compose_model.specs.declared.Rule.TheVariants.{Longest}
use Rattle.compose_read.specs.Lines.{Source}
use Rattle.compose_migration.specs.Migration.{GivenMigration, TableSources}
use Rattle.compose_bundle.specs.Bundle.{Bundle, BundleFits, IsBundle, bundle_bytes}
use Rattle.compose_bundle.specs.Written.{max_payload}
use Rattle.compose_answer.specs.Parts.{Needs, make_parts}
use Rattle.compose_migration.specs.Refused.{IsRefused}
use Rattle.compose_answer.specs.declared.answer.Answer.TheVariants.{No}
use Rattle.compose_migration.specs.declared.refusal.Refusal.{Refusal}
use Rattle.compose_tool.specs.Answers.{SpellsMade, IsMadeText}
use Rattle.compose_update.specs.declared.deciding.UpdateInput.{UpdateInput}
use Rattle.compose_update.specs.declared.deciding.Update.{Update}
use Rattle.compose_update.specs.declared.deciding.Update.TheVariants.{Replaced, Refused}
use Rattle.compose_update.specs.declared.deciding.UpdateFault.{UpdateFault}
use Rattle.compose_update.specs.declared.deciding.UpdateFault.TheVariants.{Input, TooLarge}

-- names, the key names of fresh keysyms, the sources of the table in use, if there is one, those of
-- the new table, and a repertoire
pub record GivenUpdate : Type 0 where
  pub header : List ℕ
  pub fresh : List (List ℕ)
  pub current : Option (List Source)
  pub new : List Source
  pub repertoire : List ℕ

abbrev pub given_update : UpdateInput → GivenUpdate
given_update input = record {
  header = input.header.now;
  fresh = map (λ name. name.now) input.fresh.now;
  current = option_map (λ sources. sources.now) input.current;
  new = input.new.now;
  repertoire = input.repertoire.now;
}

-- ---- moves: the longest of overlapping sequences counts

abbrev pub whole : List Source → TableSources
whole sources = record { sources = sources; rule = Longest }

-- from a table that is in use to the new one
abbrev pub move_from : GivenUpdate → List Source → GivenMigration
move_from given old = record { header = given.header; key_names = given.fresh; old = whole old; new = whole given.new }

-- from the new table to itself, without fresh keysyms
abbrev pub itself : GivenUpdate → GivenMigration
itself given = record { header = given.header; key_names = []; old = whole given.new; new = whole given.new }

-- the text is that of a certificate that is made for a move: the new table follows the old one
abbrev pub IsCertificate : GivenMigration → List ℕ → List ℕ → Type 0
IsCertificate move repertoire text = (needs : Needs) × (make_parts move repertoire ≡ Ok needs) × SpellsMade needs text

-- there is none, and the text is what `make` prints instead
abbrev pub HasNoCertificate : GivenMigration → List ℕ → String Global → Type 0
HasNoCertificate move repertoire text = (needs : Needs) × (make_parts move repertoire ≡ Ok needs) × IsMadeText needs (No text)

-- ---- what is stored

-- the bytes are the bundle of the new table's sources and of a certificate of the table against
-- itself
abbrev pub IsStored : GivenUpdate → List ℕ → Type 0
IsStored given bytes =
    (text : List ℕ) × IsBundle bytes (record { sources = given.new; certificate = text }) × IsCertificate (itself given) given.repertoire text

-- a certificate for the move from the table in use; none exactly if no table is in use
abbrev pub IsMove : GivenUpdate → Option (List ℕ) → Type 0
IsMove given None = given.current ≡ None
IsMove given (Some text) = (old : List Source) × (given.current ≡ Some old) × IsCertificate (move_from given old) given.repertoire text

-- these bytes are stored, and a running service takes the new table with this certificate
abbrev pub Replaces : GivenUpdate → List ℕ → Option (List ℕ) → Type 0
Replaces given stored certificate = IsMove given certificate × IsStored given stored

-- no load can carry the new table and its certificate
abbrev pub IsTooLarge : GivenUpdate → Type 0
IsTooLarge given =
    (text : List ℕ) × IsCertificate (itself given) given.repertoire text
    × (BundleFits (record { sources = given.new; certificate = text }) → max_payload < length (bundle_bytes (record { sources = given.new; certificate = text })))

-- ---- the outcome of an update, for one move or the other

-- it is true of the move from a table that is in use, or of the one from the new table to itself
abbrev pub OfEither : GivenUpdate → (GivenMigration → Type 0) → Type 0
OfEither given P = P (itself given) ⊎ ((old : List Source) × (given.current ≡ Some old) × P (move_from given old))

abbrev pub Updates : GivenUpdate → Result Update UpdateFault → Type 0
Updates given (Ok (Replaced stored certificate)) = Replaces given stored.items (option_map string_bytes certificate)
Updates given (Ok (Refused text)) = OfEither given (λ move. HasNoCertificate move given.repertoire text)
Updates given (Err (Input refusal)) = OfEither given (λ move. IsRefused refusal (make_parts move given.repertoire))
Updates given (Err TooLarge) = IsTooLarge given

-- ---- definitions for private functions

-- the same once the certificate of the move is made, if there is one
abbrev pub StoresWith : GivenUpdate → Option (List ℕ) → Result Update UpdateFault → Type 0
StoresWith given certificate result = IsMove given certificate → Updates given result
