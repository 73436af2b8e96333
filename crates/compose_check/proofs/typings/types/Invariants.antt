use Rattle.std.proofs.Common.{◌≡◌, [], ◌∷◌, ◌++◌, drop}
use Rattle.compose_check.specs.Conditions.{types}
use Rattle.compose_check.proofs.TypingConditions.{types_from}
use Rattle.compose_check.proofs.typings.types.Given as goal

-- the remaining keys type the character from here exactly if all of them do from rest
abbrev pub invariant-loop-keysym : goal.invariant-loop-keysym
invariant-loop-keysym g l =
    types_from l.names (g.U.ComposeTable.definitions l.new) l.state.pending (drop l.keysym-index l.earlier ++ l.last ∷ []) l.character
    ≡ types l.names (g.U.ComposeTable.definitions l.new) l.keys l.character
