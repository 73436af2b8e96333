use Rattle.std.proofs.Common.{◌≡◌, drop}
use Rattle.compose_fresh.specs.Conditions.{first_unmet}
use Rattle.compose_check.specs.Conditions.{typing_conditions}
use Rattle.compose_check.proofs.typings.check_typings.Given as goal

-- the conditions on the rest have the same first fault as those on all of it
abbrev pub invariant-loop-index : goal.invariant-loop-index
invariant-loop-index g l =
    first_unmet (typing_conditions l.names (g.U.ComposeTable.definitions l.new) l.repertoire (drop l.index l.repertoire.characters) (drop l.index l.certificate.typings))
    ≡ first_unmet (typing_conditions l.names (g.U.ComposeTable.definitions l.new) l.repertoire l.repertoire.characters l.certificate.typings)
