-- The table of a Compose file, with notes on where its files lie (defined by this project).
use Rattle.std.specs.Prelude.{◌≡◌, Bool, true, false, List, ◌++◌, Option, option_copied, string_bytes}
use Rattle.compose_folder.specs.Content.{Entry}
use Rattle.compose_model.specs.declared.Rule.{Rule}
use Rattle.compose_model.specs.declared.Rule.TheVariants.{Refuse, Longest}
use Rattle.compose_arguments.specs.declared.table_arguments.TableArguments.{TableArguments}
use Rattle.compose_input.specs.Tables.{IsFoundOnSystem}
use Rattle.compose_input.specs.declared.places.Places.{Places}
use Rattle.compose_given.specs.Own.{IsChosen}
use Rattle.compose_given.specs.declared.chosen.ChosenFile.{ChosenFile}
use Rattle.compose_given.specs.declared.chosen.NotedTable.{NotedTable}
use Rattle.compose_given.specs.declared.environment.Environment.{Environment}
use Rattle.compose_given.specs.declared.environment.PlaceArguments.{PlaceArguments}

-- overlapping sequences are refused if that is asked for
abbrev pub rule_unless : Bool → Rule
rule_unless true = Refuse
rule_unless false = Longest

abbrev pub table_places : TableArguments → PlaceArguments
table_places arguments = record { system = arguments.system; locale = arguments.locale; root = arguments.root }

-- the given Compose file, or otherwise the user's, with notes on where its files lie
pub record IsNotedTable (folder : Option (List Entry)) (environment : Environment) (places : Places) (arguments : TableArguments) (read : NotedTable) : Type 0 where
  pub file : ChosenFile
  pub is_file : IsChosen folder environment places (option_copied arguments.file) file
  pub is_table : IsFoundOnSystem folder places (string_bytes file.path) (rule_unless arguments.refuse_overlaps) read.table
  pub noted : string_bytes read.notes ≡ string_bytes file.note ++ string_bytes read.table.note
