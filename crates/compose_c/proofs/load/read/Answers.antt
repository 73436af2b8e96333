use Rattle.std.proofs.Common.{◌≡◌, Ok, rules}
use Rattle.keysym_core.specs.Header.{names_of}
use Rattle.compose_bundle.specs.Bundle.{Bundle, IsBundle}
use Rattle.compose_tree.specs.TableReturns.{first_table}
use Rattle.compose_c.specs.Compiled.{rule_of}
use Rattle.compose_c.proofs.Loads.{missed}
use Rattle.compose_c.proofs.load.read.Goals as goal

pub returns : goal.returns
returns g c =
    let sources : Bundle = record { sources = c.in_ok-bundle.bundle.sources; certificate = c.in_ok-bundle.bundle.certificate.now } in
    let named : names_of c.args.header.now ≡ Ok c.in_ok-names.names = search rules in
    let bundled : IsBundle c.args.bundle.now sources = search rules in
    let is : first_table c.in_ok-names.names sources.sources (rule_of c.args.longest) ≡ Ok c.in-Ok.table = search rules in
    missed c.args.header.now (g.T.ComposeTable.definitions c.args.old.now) c.args.repertoire.now c.args.bundle.now (rule_of c.args.longest) c.in_ok-names.names sources c.in-Ok.table
    c.in-Err-meet.refusal named bundled is c.in-Err-meet.ensures
