-- The message why sources define no table.
use Rattle.std.specs.Prelude.{◌≡◌, ◌⊎◌, ℕ, List, [], Ok, Err, codes}
use Rattle.keysym_core.specs.Names.{KeysymNames}
use Rattle.keysym_core.specs.Header.{names_of, NamesReturns}
use Rattle.keysym_core.specs.declared.fault.NameFault.{NameFault}
use Rattle.compose_model.specs.Table.{Definition}
use Rattle.compose_model.specs.declared.Rule.{Rule}
use Rattle.compose_read.specs.Lines.{Source}
use Rattle.compose_read.specs.declared.settling.SettleFault.TheVariants as settling
use Rattle.compose_bundle.specs.Bundle.{Bundle, IsBundle}
use Rattle.compose_bundle.specs.Written.{NotRead}
use Rattle.compose_bundle.specs.declared.BundleFault.{BundleFault}
use Rattle.compose_bundle.specs.declared.BundleFault.TheVariants.{Form, TooLarge, NoMemory}
use Rattle.compose_tree.specs.TableReturns.{TableReturns, first_table}
use Rattle.compose_tree.specs.declared.table.BuildFault.TheVariants as building
use Rattle.compose_tree.specs.declared.reading.TableFault.{TableFault}
use Rattle.compose_tree.specs.declared.reading.TableFault.TheVariants as table
use Rattle.compose_messages.specs.Faults.{name_message}
use Rattle.compose_messages.specs.Messages.{read_message_text}
use Rattle.compose_messages.specs.Overlaps.{overlap_message}
use Rattle.compose_c.specs.Compiled.{IsRead}

abbrev pub bundle_message : BundleFault → List ℕ
bundle_message Form = codes "the bytes are no bundle of sources"
bundle_message TooLarge = codes "the bundle is too large"
bundle_message NoMemory = codes "out of memory"

abbrev pub table_message : KeysymNames → List Source → TableFault → List ℕ
table_message names sources (table.Read fault) = read_message_text sources fault
table_message names sources (table.Settle (settling.Overlap short long)) = overlap_message names short.0.items long.0.items
table_message names sources (table.Settle settling.NoMemory) = codes "out of memory"
table_message names sources (table.Build building.TooManyNodes) = codes "the sequences have more than 1,048,576 nodes"
table_message names sources (table.Build building.NoMemory) = codes "out of memory"
table_message names sources table.NoMemory = codes "out of memory"

-- the names are refused for this fault
pub record OfNames (header : List ℕ) (text : List ℕ) : Type 0 where
  pub fault : NameFault
  pub is : NamesReturns (Err fault) (names_of header)
  pub reason : text ≡ name_message fault

-- the payload is refused as a bundle for this fault
pub record OfBundle (payload : List ℕ) (text : List ℕ) : Type 0 where
  pub fault : BundleFault
  pub is : NotRead fault payload
  pub reason : text ≡ bundle_message fault

-- the names are read and the payload is a bundle, but its first source defines no table, for this
-- fault
pub record OfTable (header payload : List ℕ) (rule : Rule) (text : List ℕ) : Type 0 where
  pub names : KeysymNames
  pub sources : Bundle
  pub fault : TableFault
  pub named : names_of header ≡ Ok names
  pub bundled : IsBundle payload sources
  pub is : TableReturns (λ (t : List Definition). t) (Err fault) (first_table names sources.sources rule)
  pub reason : text ≡ table_message names sources.sources fault

-- a table is read, and the message is empty
pub record OfNothing (header payload : List ℕ) (rule : Rule) (text : List ℕ) : Type 0 where
  pub table : List Definition
  pub is : IsRead header payload rule table
  pub reason : text ≡ []

-- the text is the message why the sources define no table; it is empty if they define one
abbrev pub IsSentence : List ℕ → List ℕ → Rule → List ℕ → Type 0
IsSentence header payload rule text = OfNothing header payload rule text ⊎ (OfNames header text ⊎ (OfBundle payload text ⊎ OfTable header payload rule text))
