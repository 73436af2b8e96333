-- The failed check of a certificate, with the names and the bundle that were read.
use Rattle.std.proofs.Common.{◌≡◌, ℕ, List, Ok}
use Rattle.keysym_core.specs.Names.{KeysymNames}
use Rattle.keysym_core.specs.Header.{names_of}
use Rattle.compose_model.specs.Table.{Definition}
use Rattle.compose_model.specs.declared.Rule.{Rule}
use Rattle.compose_bundle.specs.Bundle.{Bundle, IsBundle}
use Rattle.compose_tree.specs.TableReturns.{first_table}
use Rattle.compose_c.specs.Loads.{Misses, IsNotLoaded}
use Rattle.compose_c.specs.declared.fault.LoadRefusal.{LoadRefusal}
use Rattle.compose_c.specs.declared.fault.LoadRefusal.TheVariants.{Names, Bundled, Table, Repertoire, Certificate, Unmet}

pub missed : (header : List ℕ) (old : List Definition) (repertoire bundle : List ℕ) (rule : Rule) (names : KeysymNames) (sources : Bundle) (new : List Definition) (refusal : LoadRefusal)
    → names_of header ≡ Ok names → IsBundle bundle sources → first_table names sources.sources rule ≡ Ok new
    → Misses names old new repertoire sources.certificate refusal → IsNotLoaded header old repertoire bundle rule refusal
missed header old repertoire bundle rule names sources new (Names fault) named bundled is h = absurd h
missed header old repertoire bundle rule names sources new (Bundled fault) named bundled is h = absurd h
missed header old repertoire bundle rule names sources new (Table fault column) named bundled is h = absurd h
missed header old repertoire bundle rule names sources new (Repertoire fault) named bundled is h =
    record { names = names; sources = sources; new = new; named = named; bundled = bundled; is = is; misses = h }
missed header old repertoire bundle rule names sources new (Certificate fault) named bundled is h =
    record { names = names; sources = sources; new = new; named = named; bundled = bundled; is = is; misses = h }
missed header old repertoire bundle rule names sources new (Unmet fault) named bundled is h =
    record { names = names; sources = sources; new = new; named = named; bundled = bundled; is = is; misses = h }
