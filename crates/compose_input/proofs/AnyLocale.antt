-- Each system has a table of the locale, or none; a table that is found without it is the one that
-- is found with it.
use Rattle.std.proofs.Common.{◌≡◌, ℕ, List, [], ◌∷◌, ◌++◌, Option, Some, None, refl, inl, inr}
use Rattle.std.specs.Prelude.{option_copied, codes}
use Rattle.compose_folder.specs.Content.{Entry, Content, File, Unreadable, held}
use Rattle.compose_find.specs.Locales.{locale_file}
use Rattle.compose_find.specs.Sources.{FindsWithAny}
use Rattle.compose_find.specs.declared.table.FoundTable.{FoundTable}
use Rattle.compose_input.specs.Texts.{IsFound}
use Rattle.compose_input.specs.Places.{words_with, IsFirstFound, listing_paths, IsLocaleTableOf}
use Rattle.compose_input.specs.Search.{IsTable, IsSystemTable}
use Rattle.compose_input.specs.declared.places.Places.{Places}

-- a path has a file, or none that can be read
what_is_found : (folder : Option (List Entry)) (path : List ℕ) → (bytes : Option (List ℕ)) × IsFound folder path bytes
what_is_found None path = (None, tt)
what_is_found (Some entries) path = go (held entries path) refl
  where
    go : (content : Content) → held entries path ≡ content → (bytes : Option (List ℕ)) × IsFound (Some entries) path bytes
    go (File bytes) h = (Some bytes, h)
    go (Unreadable kind) h = (None, (kind, h))

first_found : (folder : Option (List Entry)) (paths : List (List ℕ)) → (bytes : List ℕ) × IsFirstFound folder paths bytes
first_found folder [] = ([], refl)
first_found folder (path ∷ paths) = go (what_is_found folder path) (first_found folder paths)
  where
    go : (bytes : Option (List ℕ)) × IsFound folder path bytes → (bytes : List ℕ) × IsFirstFound folder paths bytes
        → (bytes : List ℕ) × IsFirstFound folder (path ∷ paths) bytes
    go (Some bytes, h) rest = (bytes, inl h)
    go (None, h) rest = (rest.0, inr (h, rest.1))

locale_table : (folder : Option (List Entry)) (places : Places) (locale : Option (List ℕ)) → (table : Option (List ℕ)) × IsLocaleTableOf folder places locale table
locale_table folder places None = (None, refl)
locale_table folder places (Some locale) =
    let compose_dir = first_found folder (listing_paths places (places.system.now ++ codes "/compose.dir")) in
    let aliases = first_found folder (listing_paths places (places.system.now ++ codes "/locale.alias")) in
    (locale_file places.system.now compose_dir.0 aliases.0 locale, (compose_dir.0, aliases.0, compose_dir.1, aliases.1, refl))

pub with_its_locale : FindsWithAny → (folder : Option (List Entry)) (places : Places) (path : List ℕ) (table : FoundTable)
    → IsTable folder (words_with places None) path table → IsSystemTable folder places path table
with_its_locale finds folder places path table without =
    let listed = locale_table folder places (option_copied places.locale) in
    record {
      locale = listed.0;
      listed = listed.1;
      is = record {
        files = without.files;
        looked = without.looked;
        found = finds without.files (words_with places None) path listed.0 table.files.items without.found;
        held = without.held;
      };
    }
