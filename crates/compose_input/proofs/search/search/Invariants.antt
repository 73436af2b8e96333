use Rattle.std.proofs.Common.{◌≡◌}
use Rattle.compose_input.specs.Search.{AreSearched}
use Rattle.compose_input.proofs.search.search.Given as goal

abbrev pub invariant-loop : goal.invariant-loop
invariant-loop g l = record {
  kept : l.files.holds ≡ l.fn.files.holds;
  looked : AreSearched l.fn.files.holds l.root l.looked;
}
