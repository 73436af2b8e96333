-- The input of a migration, by its parts.
use Rattle.std.proofs.Common.{◌≡◌, ◌∙◌, ap, ℕ, List}
use Rattle.compose_migration.specs.Migration.{TableSources, GivenMigration}

abbrev pub migration : List (List ℕ) → List ℕ → TableSources → TableSources → GivenMigration
migration names header old new = record { header = header; key_names = names; old = old; new = new }

-- a migration of equal parts
pub same_migration : (names : List (List ℕ)) (header header' : List ℕ) (old old' new new' : TableSources) → header ≡ header' → old ≡ old' → new ≡ new'
    → migration names header old new ≡ migration names header' old' new'
same_migration names header header' old old' new new' h o n =
    ap (λ x. migration names x old new) h ∙ ap (λ x. migration names header' x new) o ∙ ap (λ x. migration names header' old' x) n
