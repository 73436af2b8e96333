-- The line that counts for a sequence of a table that is read: a definition is written at its
-- place.
use Rattle.std.proofs.Common.{◌≡◌, ◌∙◌, ℕ, List, [], ◌∷◌, Bool, true, false, cond, ◌&&◌, map, take, length, nat_lt, refl, ap}
use Rattle.std.specs.Prelude.{Option, Some, None, is_some, Result, Ok, Err, filter, option_map, slice_get}
use Rattle.std.specs.Option.{option_or, option_map_or, option_and_then}
use Rattle.std.specs.List.{list_all, All}
use Rattle.std.specs.Str.{is_utf8}
use Rattle.std.proofs.lemmas.Bool.{and_parts}
use Rattle.std.proofs.lemmas.List.Elements.{All-nil, All-cons}
use Rattle.std.proofs.lemmas.Option.{slice_get-map}
use Rattle.keysym_core.specs.Names.{KeysymNames, value}
use Rattle.compose_model.specs.Table.{Definition, same}
use Rattle.compose_model.specs.Nodes.{leaves}
use Rattle.compose_model.specs.declared.Rule.{Rule}
use Rattle.compose_lex.specs.Line.{Reading, blank, include, production}
use Rattle.compose_lex.specs.Fault.{reading_of}
use Rattle.compose_lex.specs.declared.LexFault.{LexFault}
use Rattle.compose_read.specs.Lines.{Source, Visit, source_named, source_lines, visits}
use Rattle.compose_read.specs.Read.{definitions_of, max_lines}
use Rattle.compose_read.specs.declared.ReadFault.{ReadFault}
use Rattle.compose_places.specs.Counting.{WrittenLine, sequence_named, defines, written_line, counting_line, read_lines}
use Rattle.compose_places.specs.Events.{numbered_from_one, line_at, events_of, line_events, written_events}
use Rattle.compose_places.specs.Places.{is_production, is_definition_line, place_of, definition_places}
use Rattle.compose_places.specs.declared.places.DefinitionPlace.{DefinitionPlace}
use Rattle.compose_places.proofs.WrittenEvents.{events_written}
use Rattle.compose_tree.specs.TableReturns.{table_of, settled_by}
use Rattle.compose_results.specs.SourceLines.{all_lines, line_in, stands}

-- ---- a line at a place

-- the line at a place, and its events
pub record WrittenAt (sources : List Source) (place : DefinitionPlace) : Type 0 where
  pub line : List ℕ
  pub events : List (List ℕ)
  pub at : line_at sources place ≡ Some line
  pub are : line_events line ≡ Some events

pub written_at : (sources : List Source) (place : DefinitionPlace) → is_some (written_events sources place) ≡ true → WrittenAt sources place
written_at sources place h = by_line (line_at sources place) refl h
  where
    by_events : (line : List ℕ) (events : Option (List (List ℕ))) → line_at sources place ≡ Some line → line_events line ≡ events → is_some events ≡ true → WrittenAt sources place
    by_events line None at are h = cc
    by_events line (Some events) at are h = record { line = line; events = events; at = at; are = are }

    by_line : (line : Option (List ℕ)) → line_at sources place ≡ line → is_some (option_and_then line_events line) ≡ true → WrittenAt sources place
    by_line None at h = cc
    by_line (Some line) at h = by_events line (line_events line) at refl h

-- the line among those of each source
pub same_line : (sources : List Source) (place : DefinitionPlace) → line_in (all_lines sources) place ≡ line_at sources place
same_line sources place = ap (option_and_then (λ lines. numbered_from_one lines place.line)) (slice_get-map (λ (s : Source). source_lines s.bytes) sources place.source) ∙ go (slice_get sources place.source)
  where
    go : (o : Option Source) → option_and_then (λ lines. numbered_from_one lines place.line) (option_map (λ (s : Source). source_lines s.bytes) o)
        ≡ option_and_then (λ (s : Source). numbered_from_one (source_lines s.bytes) place.line) o
    go None = refl
    go (Some s) = refl

-- ---- the line that counts

module _ (names : KeysymNames) (sources : List Source) where
  abbrev is_there : DefinitionPlace → Bool
  is_there place = is_some (written_events sources place)

  all_there : (places : List DefinitionPlace) (table : List Definition)
      → map (λ place. option_map (λ events. map (value names) events) (written_events sources place)) places ≡ map (λ (d : Definition). Some (map (λ k. Some k) d.sequence)) table
      → list_all is_there places ≡ true
  all_there [] table h = refl
  all_there (place ∷ places) [] h = cc
  all_there (place ∷ places) (d ∷ table) h = go (written_events sources place) (ap heads h) (all_there places table (ap tails h))
    where
      heads : List (Option (List (Option ℕ))) → Option (List (Option ℕ))
      heads [] = None
      heads (x ∷ xs) = x

      tails : List (Option (List (Option ℕ))) → List (Option (List (Option ℕ)))
      tails [] = []
      tails (x ∷ xs) = xs

      go : (o : Option (List (List ℕ))) → option_map (λ events. map (value names) events) o ≡ Some (map (λ k. Some k) d.sequence) → list_all is_there places ≡ true
          → is_some o && list_all is_there places ≡ true
      go None e others = cc
      go (Some events) e others = others

  -- lines that are no definitions count for nothing
  no_definition : (s bytes : List ℕ) → is_definition_line bytes ≡ false → defines names s bytes ≡ false
  no_definition s bytes = go (is_utf8 bytes) (reading_of bytes)
    where
      go : (text : Bool) (r : Result Reading LexFault) → text && is_production r ≡ false
          → option_map_or (same s) (option_and_then (sequence_named names) (cond text (events_of r) None)) false ≡ false
      go false r h = refl
      go true (Err fault) h = refl
      go true (Ok blank) h = refl
      go true (Ok (include file)) h = refl
      go true (Ok (production events raw name)) h = cc

  counted : (s : List ℕ) (lines : List Visit) → list_all is_there (map place_of (filter (λ (v : Visit). is_definition_line v.bytes) lines)) ≡ true
      → stands sources (counting_line names lines s) ≡ true
  counted s [] h = refl
  counted s (v ∷ lines) h = go (is_definition_line v.bytes) refl h (counted s lines)
    where
      last : (o : Option WrittenLine) (b : Bool) → stands sources o ≡ true → (b ≡ true → is_there (place_of v) ≡ true) → stands sources (option_or o (cond b (Some (written_line v)) None)) ≡ true
      last (Some l) b before here = before
      last None true before here = here refl
      last None false before here = refl

      go : (is : Bool) → is_definition_line v.bytes ≡ is
          → list_all is_there (map place_of (cond is (v ∷ filter (λ (v : Visit). is_definition_line v.bytes) lines) (filter (λ (v : Visit). is_definition_line v.bytes) lines))) ≡ true
          → (list_all is_there (map place_of (filter (λ (v : Visit). is_definition_line v.bytes) lines)) ≡ true → stands sources (counting_line names lines s) ≡ true)
          → stands sources (counting_line names (v ∷ lines) s) ≡ true
      go true e h others =
          let parts = and_parts (is_there (place_of v)) (list_all is_there (map place_of (filter (λ (v : Visit). is_definition_line v.bytes) lines))) h in
          last (counting_line names lines s) (defines names s v.bytes) (others parts.1) (λ _. parts.0)
      go false e h others = last (counting_line names lines s) (defines names s v.bytes) (others h) (λ is. let none = no_definition s v.bytes e in cc)

  read_counted : (root s : List ℕ) → list_all is_there (definition_places sources root) ≡ true → stands sources (counting_line names (read_lines sources root) s) ≡ true
  read_counted root s = go (nat_lt (source_named sources root) (length sources))
    where
      all : List Visit
      all = take max_lines (visits sources (source_named sources root))

      go : (there : Bool) → list_all is_there (map place_of (cond there (filter (λ (v : Visit). is_definition_line v.bytes) all) [])) ≡ true
          → stands sources (counting_line names (cond there all []) s) ≡ true
      go true h = counted s all h
      go false h = refl

  -- a definition is written at the place of each line that counts
  pub lines_stand : (root : List ℕ) (rule : Rule) (table : List Definition) → table_of names sources root rule ≡ Ok table
      → All (λ line. stands sources line ≡ true) (map (counting_line names (read_lines sources root)) (leaves table))
  lines_stand root rule table read = by_definitions (definitions_of names sources root) refl read
    where
      each : list_all is_there (definition_places sources root) ≡ true → (xs : List (List ℕ)) → All (λ line. stands sources line ≡ true) (map (counting_line names (read_lines sources root)) xs)
      each there [] = All-nil (λ line. stands sources line ≡ true)
      each there (s ∷ xs) =
          All-cons (λ line. stands sources line ≡ true) (counting_line names (read_lines sources root) s) (map (counting_line names (read_lines sources root)) xs) (read_counted root s there) (each there xs)

      by_definitions : (r : Result (List Definition) ReadFault) → definitions_of names sources root ≡ r → settled_by rule r ≡ Ok table
          → All (λ line. stands sources line ≡ true) (map (counting_line names (read_lines sources root)) (leaves table))
      by_definitions (Err fault) e h = cc
      by_definitions (Ok ds) e h = each (all_there (definition_places sources root) ds (events_written names sources root ds e)) (leaves table)
