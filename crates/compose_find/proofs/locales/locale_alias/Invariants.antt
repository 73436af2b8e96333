use Rattle.std.proofs.Common.{◌≡◌, length}
use Rattle.compose_find.specs.Locales.{locale_alias}
use Rattle.compose_find.proofs.locales.locale_alias.Given as goal

-- the remaining lines have the same entry for it as all lines
abbrev pub invariant-loop-line : goal.invariant-loop-line
invariant-loop-line l = locale_alias l.rest l.alias ≡ locale_alias l.locale_alias l.alias

abbrev pub decreases-loop-line : goal.decreases-loop-line
decreases-loop-line l = length l.rest
