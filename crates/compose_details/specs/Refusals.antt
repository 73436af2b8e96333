-- What `-v` prints of a refusal (this project's profile).
use Rattle.std.specs.Prelude.{◌≡◌, ℕ, Bool, not, if◌then◌else◌, List, [], ◌∷◌, ◌++◌, map, slice_get, string_bytes, bytes_eq, option_copied, Option, Some, None, Result, Ok, Err, codes}
use Rattle.std.specs.Option.{option_map, option_map_or, option_and_then}
use Rattle.keysym_core.specs.Names.{KeysymNames}
use Rattle.keysym_core.specs.Header.{names_of}
use Rattle.keysym_core.specs.Printed.{printed}
use Rattle.keysym_core.specs.declared.fault.NameFault.{NameFault}
use Rattle.compose_read.specs.declared.settling.SettleFault.TheVariants as settle_faults
use Rattle.compose_tree.specs.declared.reading.TableFault.{TableFault}
use Rattle.compose_tree.specs.declared.reading.TableFault.TheVariants.{Read, Settle, Build}
use Rattle.compose_migration.specs.declared.refusal.Side.TheVariants.{Old, New}
use Rattle.compose_fresh.specs.declared.fault.CheckFault.{CheckFault}
use Rattle.compose_fresh.specs.declared.fault.CheckFault.TheVariants.{FreshIgnored, FreshUsed}
use Rattle.compose_migration.specs.declared.refusal.Refusal.{Refusal}
use Rattle.compose_migration.specs.declared.refusal.Refusal.TheVariants.{Names, Key, Table, Side, Repertoire, Certificate, Fresh, TooManyFresh}
use Rattle.compose_messages.specs.Faults.{name_line, name_message, certificate_line, certificate_message, repertoire_line, repertoire_message}
use Rattle.compose_messages.specs.Hints.{certificate_hint, header_hint, hint_text, locale_hint, name_hint, repertoire_hint, source_not_utf8, table_hint}
use Rattle.compose_messages.specs.Characters.{IsKeyOfText, character_hint, text_in_place}
use Rattle.compose_messages.specs.Messages.{naming}
use Rattle.compose_messages.specs.Overlaps.{events}
use Rattle.compose_messages.specs.declared.hints.Hint.{Hint}
use Rattle.compose_details.specs.Lines.{line, remark, whole_line, header_line, is_empty}
use Rattle.compose_details.specs.Faulty.{lines_of_table}
use Rattle.compose_details.specs.Definitions.{overlap_lines}
use Rattle.compose_input.specs.declared.names.Header.{Header}
use Rattle.compose_input.specs.declared.tables.LocaleTable.{LocaleTable}
use Rattle.compose_details.specs.declared.given.GivenTable.{GivenTable}
use Rattle.compose_details.specs.declared.given.Given.{Given}

-- a hint, if there is one
abbrev pub hint_line : Option Hint → List ℕ
hint_line hint = option_map_or (λ h. hint_text h ++ 10 ∷ []) hint []

-- the message for a line of a file, or for the whole file
abbrev pub words_line : List ℕ → Option ℕ → List ℕ → List ℕ
words_line path number sentence = line path (option_and_then whole_line number) sentence

-- ---- names and arguments

-- the message for a line of the names, at its file
abbrev pub name_lines : List Header → NameFault → List ℕ
name_lines headers fault =
    option_map_or (λ (at : Header × ℕ). line at.0.path.now (whole_line at.1) (name_message fault)) (option_and_then (header_line headers) (name_line fault)) (remark (name_message fault))

-- no names were given
abbrev pub is_unnamed : Given → Bool
is_unnamed given = is_empty given.headers.now

-- the argument that names no keysym
abbrev pub argument_line : List (List ℕ) → ℕ → List ℕ
argument_line arguments index = option_map_or (λ argument. remark (naming (codes "no keysym has the name ") argument)) (slice_get arguments index) []

-- the hint for the argument with this index; `are_given` is whether files of names are given
abbrev pub key_hint : Bool → List (List ℕ) → ℕ → Option Hint
key_hint are_given arguments index = option_map (name_hint are_given) (slice_get arguments index)

-- the argument with this index; empty if there is none
abbrev pub argument_text : List (List ℕ) → ℕ → List ℕ
argument_text arguments index = option_map_or (λ argument. argument) (slice_get arguments index) []

-- ---- tables

abbrev pub fault_lines : KeysymNames → GivenTable → TableFault → List ℕ
fault_lines names table (Read fault) = lines_of_table names table fault
fault_lines names table (Settle (settle_faults.Overlap short long)) = overlap_lines names table short.0.items long.0.items
fault_lines names table (Build fault) = line table.manifest.now None (codes "the sequences have more than 1,048,576 nodes")
fault_lines names table fault = []

-- the lines of a fault of a table, which is read with the names of a header, if these can be read
abbrev pub lines_by : GivenTable → TableFault → Result KeysymNames NameFault → List ℕ
lines_by table fault (Ok names) = fault_lines names table fault
lines_by table fault (Err why) = []

-- for the table with this index
abbrev pub numbered_lines : Given → ℕ → TableFault → List ℕ
numbered_lines given index fault = option_map_or (λ table. lines_by table fault (names_of given.header.now)) (slice_get given.tables.now index) []

-- the hint for the fault of the table with this index; `are_given` is whether files of names are
-- given
abbrev pub numbered_hint : Bool → List GivenTable → ℕ → TableFault → Option Hint
numbered_hint are_given tables index fault = option_and_then (λ (table : GivenTable). table_hint table.input.sources.now are_given fault) (slice_get tables index)

-- the text that was written instead of a keysym's name, at the fault of the table with this index
abbrev pub numbered_text : Given → ℕ → TableFault → List ℕ
numbered_text given index fault = option_map_or (λ (table : GivenTable). text_in_place table.input.sources.now fault) (slice_get given.tables.now index) []

-- ---- fresh keysyms

-- these words, and the keysyms as a table writes events; empty if there are no keysyms
abbrev pub named_line : KeysymNames → List ℕ → List ℕ → List ℕ
named_line names sentence [] = []
named_line names sentence (k ∷ ks) = codes "composecheck: " ++ (sentence ++ (events names (k ∷ ks) ++ codes "\n"))

abbrev pub keysyms_line : List ℕ → List ℕ → Result KeysymNames NameFault → List ℕ
keysyms_line sentence ks (Ok names) = named_line names sentence ks
keysyms_line sentence ks (Err why) = []

abbrev pub fresh_lines : Given → CheckFault → List ℕ
fresh_lines given (FreshIgnored k) = keysyms_line (codes "a compose state ignores the keysym") (k ∷ []) (names_of given.header.now)
fresh_lines given (FreshUsed k) = keysyms_line (codes "a sequence of the old table has the keysym") (k ∷ []) (names_of given.header.now)
fresh_lines given fault = []

-- ---- all but the hint

abbrev pub refusal_lines : Given → Refusal → List ℕ
refusal_lines given (Names fault) = name_lines given.headers.now fault
refusal_lines given (Key index) = argument_line (map (λ a. a.now) given.arguments.now) index
refusal_lines given (Table fault) = numbered_lines given 0 fault
refusal_lines given (Side Old fault) = numbered_lines given 0 fault
refusal_lines given (Side New fault) = numbered_lines given 1 fault
refusal_lines given (Repertoire fault) = words_line given.repertoire.now (repertoire_line fault) (repertoire_message fault)
refusal_lines given (Certificate fault) = words_line given.certificate.now (certificate_line fault) (certificate_message fault)
refusal_lines given (Fresh fault) = fresh_lines given fault
refusal_lines given TooManyFresh = remark (codes "there are more than 1,048,576 fresh keysyms")
refusal_lines given refusal = []

-- ---- the hint, which comes last

-- the hint for a refusal, if one helps, except for the hint with the name of a key
abbrev pub refusal_hint : Given → Refusal → Option Hint
refusal_hint given (Names fault) = header_hint fault
refusal_hint given (Key index) = key_hint (not (is_unnamed given)) (map (λ a. a.now) given.arguments.now) index
refusal_hint given (Table fault) = numbered_hint (not (is_unnamed given)) given.tables.now 0 fault
refusal_hint given (Side Old fault) = numbered_hint (not (is_unnamed given)) given.tables.now 0 fault
refusal_hint given (Side New fault) = numbered_hint (not (is_unnamed given)) given.tables.now 1 fault
refusal_hint given (Repertoire fault) = repertoire_hint given.repertoire_text.now fault
refusal_hint given (Certificate fault) = certificate_hint given.certificate_text.now fault
refusal_hint given refusal = None

-- the text that was written instead of a keysym's name, if the refusal is about one
abbrev pub refused_text : Given → Refusal → List ℕ
refused_text given (Key index) = argument_text (map (λ a. a.now) given.arguments.now) index
refused_text given (Table fault) = numbered_text given 0 fault
refused_text given (Side Old fault) = numbered_text given 0 fault
refused_text given (Side New fault) = numbered_text given 1 fault
refused_text given refusal = []

-- the name of the locale, if its table is at this path
abbrev pub locale_at : List ℕ → Option LocaleTable → Option (List ℕ)
locale_at path None = None
locale_at path (Some locale) = if bytes_eq (string_bytes locale.path) path then Some (string_bytes locale.name) else None

-- the locale whose table the source with this index is
abbrev pub locale_of_source : GivenTable → ℕ → Option (List ℕ)
locale_of_source table source = option_and_then (λ path. locale_at (string_bytes path) (option_copied table.locale)) (slice_get table.paths.now source)

-- the locale whose table has a text that is not UTF-8, if that is the fault
abbrev pub table_locale : GivenTable → TableFault → Option (List ℕ)
table_locale table fault = option_and_then (locale_of_source table) (source_not_utf8 fault)

-- for the table with this index
abbrev pub numbered_locale : List GivenTable → ℕ → TableFault → Option (List ℕ)
numbered_locale tables index fault = option_and_then (λ (table : GivenTable). table_locale table fault) (slice_get tables index)

abbrev pub refused_locale : Given → Refusal → Option (List ℕ)
refused_locale given (Table fault) = numbered_locale given.tables.now 0 fault
refused_locale given (Side Old fault) = numbered_locale given.tables.now 0 fault
refused_locale given (Side New fault) = numbered_locale given.tables.now 1 fault
refused_locale given refusal = None

-- the name of the key of a character, if the text is one, by these names; none if it is no
-- character, or if no key has it
pub record IsCalled (names : KeysymNames) (text : List ℕ) (called : Option (List ℕ)) : Type 0 where
  pub key : Option ℕ
  pub is_key : IsKeyOfText names text key
  pub is : called ≡ option_map (printed names) key

-- by the names of a header, if these can be read
abbrev pub CallsKey : Result KeysymNames NameFault → List ℕ → Option (List ℕ) → Type 0
CallsKey (Ok names) text called = IsCalled names text called
CallsKey (Err why) text called = called ≡ None

-- the hint with the name of a key
abbrev pub character_line : List ℕ → List ℕ
character_line name = character_hint name ++ 10 ∷ []

-- the hint with the locale whose table is not in UTF-8
abbrev pub locale_line : List ℕ → List ℕ
locale_line name = locale_hint name ++ 10 ∷ []

-- the hint with the locale whose table is not in UTF-8 if that is the fault, and otherwise the
-- other hint
abbrev pub other_hint : Option (List ℕ) → Option Hint → List ℕ
other_hint (Some name) hint = locale_line name
other_hint None hint = hint_line hint

-- the hint with the name of a character's key if it has one, and otherwise the other hint
abbrev pub last_hint : Option (List ℕ) → Option (List ℕ) → Option Hint → List ℕ
last_hint (Some name) locale hint = character_line name
last_hint None locale hint = other_hint locale hint

-- the lines of a refusal, and then the hint
pub record IsRefusalDetails (given : Given) (refusal : Refusal) (details : List ℕ) : Type 0 where
  pub called : Option (List ℕ)
  pub is_called : CallsKey (names_of given.header.now) (refused_text given refusal) called
  pub lines : details ≡ refusal_lines given refusal ++ last_hint called (refused_locale given refusal) (refusal_hint given refusal)
