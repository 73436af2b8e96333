use Rattle.std.proofs.Common.{◌≡◌, ◌++◌, map, take}
use Rattle.compose_readers.specs.Walks.{told_in, defines}
use Rattle.compose_readers.proofs.walking.push_definitions.Given as goal

-- the definitions so far are told
abbrev pub invariant-loop-definition : goal.invariant-loop-definition
invariant-loop-definition l = l.told.items ≡ l.fn.told.items ++ told_in l.file l.line (map defines (take l.definition-index l.definitions))
