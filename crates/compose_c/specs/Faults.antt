-- Why a call refuses its arguments, and the numbers that report it to C.
use Rattle.std.specs.Prelude.{◌≡◌, ℕ, List, [], ◌∷◌, Ok, Err}
use Rattle.std.specs.Option.{option_map_or}
use Rattle.keysym_core.specs.Names.{KeysymNames}
use Rattle.keysym_core.specs.Header.{names_of, NamesReturns}
use Rattle.keysym_core.specs.declared.fault.NameFault.{NameFault}
use Rattle.keysym_core.specs.declared.fault.NameFault.TheVariants as names
use Rattle.compose_model.specs.Table.{Definition}
use Rattle.compose_model.specs.declared.Rule.{Rule}
use Rattle.compose_lex.specs.declared.LexFault.{LexFault}
use Rattle.compose_lex.specs.declared.LexFault.TheVariants as lexical
use Rattle.compose_read.specs.Lines.{Source}
use Rattle.compose_read.specs.declared.ReadFault.{ReadFault}
use Rattle.compose_read.specs.declared.ReadFault.TheVariants as reading
use Rattle.compose_bundle.specs.Bundle.{Bundle, IsBundle}
use Rattle.compose_bundle.specs.Written.{NotRead}
use Rattle.compose_bundle.specs.declared.BundleFault.{BundleFault}
use Rattle.compose_bundle.specs.declared.BundleFault.TheVariants as bundle
use Rattle.compose_cert.specs.declared.CertFault.{CertFault}
use Rattle.compose_cert.specs.declared.CertFault.TheVariants as certificate
use Rattle.compose_cert.specs.declared.RepertoireFault.{RepertoireFault}
use Rattle.compose_cert.specs.declared.RepertoireFault.TheVariants as repertoire
use Rattle.compose_fresh.specs.declared.fault.CheckFault.{CheckFault}
use Rattle.compose_fresh.specs.declared.fault.CheckFault.TheVariants as condition
use Rattle.compose_tree.specs.TableReturns.{TableReturns, first_table}
use Rattle.compose_tree.specs.declared.reading.TableFault.{TableFault}
use Rattle.compose_tree.specs.declared.reading.TableFault.TheVariants as table
use Rattle.compose_messages.specs.Places.{position_of}
use Rattle.compose_c.specs.declared.fault.FaultRecord.{FaultRecord}
use Rattle.compose_c.specs.declared.fault.LoadRefusal.{LoadRefusal}
use Rattle.compose_c.specs.declared.fault.LoadRefusal.TheVariants.{Names, Bundled, Table, Repertoire, Certificate, Unmet}

-- ---- the numbers

abbrev pub of_part : ℕ → ℕ → FaultRecord
of_part part code = record { part = part; code = code; lexical = 0; value = 0; source = 0; line = 0; column = 0; at = 0; reserved = 0 ∷ 0 ∷ [] }

abbrev pub of_file : ℕ → ℕ → ℕ → FaultRecord
of_file part code line = record { part = part; code = code; lexical = 0; value = 0; source = 0; line = line; column = 0; at = 0; reserved = 0 ∷ 0 ∷ [] }

-- a fault of a source
abbrev pub in_source : ℕ → ℕ → ℕ → ℕ → ℕ → FaultRecord
in_source code lexical source line at = record { part = 3; code = code; lexical = lexical; value = 0; source = source; line = line; column = 0; at = at; reserved = 0 ∷ 0 ∷ [] }

abbrev pub of_line : ℕ → ℕ → ℕ → ℕ → FaultRecord
of_line code source line at = in_source code 0 source line at

-- a condition that a certificate does not meet
abbrev pub of_condition : ℕ → ℕ → ℕ → FaultRecord
of_condition code at value = record { part = 9; code = code; lexical = 0; value = value; source = 0; line = 0; column = 0; at = at; reserved = 0 ∷ 0 ∷ [] }

abbrev pub of_names : NameFault → FaultRecord
of_names (names.NotUtf8 line) = of_file 1 1 line
of_names (names.BadLine line) = of_file 1 2 line
of_names (names.ValueTooLarge line) = of_file 1 3 line
of_names (names.NameConflict line) = of_file 1 4 line
of_names names.TooManyNames = of_part 1 5
of_names names.NoMemory = of_part 6 0

abbrev pub of_bundle : BundleFault → FaultRecord
of_bundle bundle.Form = of_part 2 1
of_bundle bundle.TooLarge = of_part 2 2
of_bundle bundle.NoMemory = of_part 6 0

abbrev pub lexical_number : LexFault → ℕ
lexical_number (lexical.BadToken at) = 1
lexical_number (lexical.ModifierList at) = 2
lexical_number (lexical.UnclosedString at) = 3
lexical_number (lexical.UnknownEscape at) = 4
lexical_number (lexical.BadCode at) = 5
lexical_number lexical.NoResult = 6
lexical_number lexical.TooManyKeysyms = 7
lexical_number lexical.EmptyText = 8
lexical_number lexical.TextTooLong = 9
lexical_number lexical.TextNotUtf8 = 10
lexical_number lexical.NoMemory = 11

abbrev pub lexical_place : LexFault → ℕ
lexical_place (lexical.BadToken at) = at
lexical_place (lexical.ModifierList at) = at
lexical_place (lexical.UnclosedString at) = at
lexical_place (lexical.UnknownEscape at) = at
lexical_place (lexical.BadCode at) = at
lexical_place fault = 0

abbrev pub of_reading : ReadFault → FaultRecord
of_reading reading.MissingRoot = of_part 3 1
of_reading (reading.NotUtf8 source line) = of_line 2 source line 0
of_reading (reading.Lex source line fault) = in_source 3 (lexical_number fault) source line (lexical_place fault)
of_reading (reading.UnknownKeysym source line index) = of_line 4 source line index
of_reading (reading.IgnoredKeysym source line index) = of_line 5 source line index
of_reading (reading.MissingInclude source line) = of_line 6 source line 0
of_reading (reading.IncludeDepth source line) = of_line 7 source line 0
of_reading (reading.TooManyLines source line) = of_line 8 source line 0
of_reading (reading.TooManyDefinitions source line) = of_line 9 source line 0
of_reading reading.NoMemory = of_part 6 0

abbrev pub of_table : TableFault → FaultRecord
of_table (table.Read fault) = of_reading fault
of_table (table.Settle fault) = of_part 4 1
of_table (table.Build fault) = of_part 5 1
of_table table.NoMemory = of_part 6 0

abbrev pub of_repertoire : RepertoireFault → FaultRecord
of_repertoire (repertoire.BadLine line) = of_file 7 1 line
of_repertoire (repertoire.NotRising line) = of_file 7 2 line
of_repertoire repertoire.TooMany = of_part 7 3
of_repertoire repertoire.NoMemory = of_part 6 0

abbrev pub of_certificate : CertFault → FaultRecord
of_certificate (certificate.NotText line) = of_file 8 1 line
of_certificate certificate.TooLarge = of_part 8 2
of_certificate certificate.NoMemory = of_part 6 0

abbrev pub of_check : CheckFault → FaultRecord
of_check condition.PairsNotRising = of_part 9 1
of_check condition.NodeOutOfRange = of_part 9 2
of_check condition.RootPairMissing = of_part 9 3
of_check condition.RestBroken = of_part 9 4
of_check (condition.NewStart keysym) = of_condition 5 0 keysym
of_check (condition.Cancels pair keysym) = of_condition 6 pair keysym
of_check (condition.TextDiffers pair keysym) = of_condition 7 pair keysym
of_check (condition.PairMissing pair keysym) = of_condition 8 pair keysym
of_check (condition.BoundExceeded node) = of_condition 9 node 0
of_check (condition.TypingMissing character) = of_condition 10 0 character
of_check (condition.TypingWrong character) = of_condition 11 0 character
of_check (condition.TypingUnasked character) = of_condition 12 0 character
of_check condition.FreshNotRising = of_part 9 13
of_check (condition.FreshIgnored keysym) = of_condition 14 0 keysym
of_check (condition.FreshUsed keysym) = of_condition 15 0 keysym

-- the column of a fault of these sources; 0 if the fault is not on a line
abbrev pub column_of : List Source → TableFault → ℕ
column_of sources (table.Read fault) = option_map_or (λ p. p.1.column) (position_of sources fault) 0
column_of sources fault = 0

abbrev pub fault_of : LoadRefusal → FaultRecord
fault_of (Names fault) = of_names fault
fault_of (Bundled fault) = of_bundle fault
fault_of (Table fault column) = record (of_table fault) { column = column }
fault_of (Repertoire fault) = of_repertoire fault
fault_of (Certificate fault) = of_certificate fault
fault_of (Unmet fault) = of_check fault

-- ---- what is refused

-- the names are read and the payload is a bundle, but its first source defines no table: this fault
-- is in this column
pub record ReturnsNoTable (header payload : List ℕ) (rule : Rule) (fault : TableFault) (column : ℕ) : Type 0 where
  pub names : KeysymNames
  pub sources : Bundle
  pub named : names_of header ≡ Ok names
  pub bundled : IsBundle payload sources
  pub is : TableReturns (λ (t : List Definition). t) (Err fault) (first_table names sources.sources rule)
  pub placed : column ≡ column_of sources.sources fault

abbrev pub IsRefused : List ℕ → List ℕ → Rule → LoadRefusal → Type 0
IsRefused header payload rule (Names fault) = NamesReturns (Err fault) (names_of header)
IsRefused header payload rule (Bundled fault) = NotRead fault payload
IsRefused header payload rule (Table fault column) = ReturnsNoTable header payload rule fault column
IsRefused header payload rule (Repertoire fault) = ⊥
IsRefused header payload rule (Certificate fault) = ⊥
IsRefused header payload rule (Unmet fault) = ⊥

-- this fault reports to C why the sources are refused
abbrev pub Reports : List ℕ → List ℕ → Rule → FaultRecord → Type 0
Reports header payload rule reported = (r : LoadRefusal) × IsRefused header payload rule r × (reported ≡ fault_of r)
