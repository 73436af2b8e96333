use Rattle.std.proofs.Common.{◌≡◌, ◌≤◌, ◌<◌, ℕ, map, take, length, get_or}
use Rattle.compose_find.specs.Found.{FoundSource, held, held_at}
use Rattle.compose_find.proofs.table.FoundTable.new.Given as goal

-- the sources so far have the bytes of their files, and the files of the others are still there
abbrev pub invariant-loop-index : goal.invariant-loop-index
invariant-loop-index l = record {
  sources : l.sources ≡ map (held l.fn.files) (take l.index l.found.items);
  left : (k : ℕ) (d : FoundSource) → l.index ≤ k → k < length l.found.items → held_at l.files (get_or l.found.items k d).path ≡ held_at l.fn.files (get_or l.found.items k d).path;
}
