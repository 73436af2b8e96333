use Rattle.std.proofs.Common.{◌≡◌, ◌++◌, length}
use Rattle.compose_table_file.specs.TableFile.{AreKeysyms, fresh_bytes}
use Rattle.compose_table_file.proofs.fresh.read_fresh.Given as goal

-- the bytes are those of the keysyms so far, and the remaining ones
abbrev pub invariant-loop-rest : goal.invariant-loop-rest
invariant-loop-rest l = record {
  read : l.fn.bytes ≡ fresh_bytes l.keysyms.items ++ l.rest;
  keysyms : AreKeysyms l.keysyms.items;
}

abbrev pub decreases-loop-rest : goal.decreases-loop-rest
decreases-loop-rest l = length l.rest
