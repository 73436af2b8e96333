use Rattle.std.proofs.Common.{◌≡◌, ◌-◌, length}
use Rattle.compose_xkbcommon.specs.Grammar.{behind_modifiers}
use Rattle.compose_xkbcommon.proofs.grammar.behind_modifiers.Given as goal

-- what follows the modifiers of the rest follows all of them
abbrev pub invariant-loop-index : goal.invariant-loop-index
invariant-loop-index l = behind_modifiers (length l.list - l._index) l.rest ≡ behind_modifiers (length l.list) l.list
