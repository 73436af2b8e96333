use Rattle.std.proofs.Common.{◌≡◌, ◌++◌, [], map, drop}
use Rattle.compose_readers.specs.Entries.{entries, entries_from}
use Rattle.compose_readers.specs.Walks.{entries_of}
use Rattle.compose_readers.proofs.settling.entries_of.Given as goal

-- what is taken so far, and then what is taken of the rest
abbrev pub invariant-loop-one : goal.invariant-loop-one
invariant-loop-one l = l.entries.items ++ entries_from l.most_nodes (map (λ k. k.now) l.nodes.keys) (entries_of (drop l.one-index l.told)) ≡ entries l.most_nodes (entries_of l.told)
