use Rattle.std.proofs.Common.{◌≡◌, drop}
use Rattle.std.specs.List.{list_all}
use Rattle.compose_skip.specs.Libxkbcommon.{is_key}
use Rattle.compose_skip.proofs.Keys.{named}
use Rattle.compose_skip.proofs.written.are_keys.Given as goal

abbrev pub invariant-loop-key : goal.invariant-loop-key
invariant-loop-key l = list_all (is_key l.names) (drop l.key-index (named l.keys)) ≡ list_all (is_key l.names) (named l.keys)
