use Rattle.std.proofs.Common.{◌≡◌, ◌≤◌, length, drop}
use Rattle.compose_find.specs.Found as found
use Rattle.compose_find.specs.FindReturns.{words}
use Rattle.compose_find.proofs.search.add_includes.Given as goal

-- the remaining includes lead from the sources so far to the same result as all of them
abbrev pub invariant-loop-include : goal.invariant-loop-include
invariant-loop-include l =
    (found.with_includes l.files (words l.meanings) l.from (drop l.include-index l.includes) l.sources.items ≡ found.with_includes l.files (words l.meanings) l.from l.includes l.fn.sources.items)
    × (length l.sources.items ≤ 64)
