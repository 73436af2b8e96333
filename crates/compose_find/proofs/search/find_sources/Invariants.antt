use Rattle.std.proofs.Common.{◌≡◌, ◌≤◌, ◌-◌, length}
use Rattle.compose_find.specs.Found as found
use Rattle.compose_find.specs.FindReturns.{words}
use Rattle.compose_find.proofs.search.find_sources.Given as goal

-- the remaining sources lead from the sources so far to the same result as all of them
abbrev pub invariant-loop-index : goal.invariant-loop-index
invariant-loop-index l =
    (found.search_from l.files (words l.meanings) (64 - l.index) l.index l.sources.items ≡ found.found l.files (words l.meanings) l.root)
    × (length l.sources.items ≤ 64)

abbrev pub decreases-loop-index : goal.decreases-loop-index
decreases-loop-index l = 64 - l.index
