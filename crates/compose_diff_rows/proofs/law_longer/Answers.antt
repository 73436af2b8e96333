use Rattle.std.proofs.Common.{ap}
use Rattle.std.specs.Prelude.{not}
use Rattle.compose_model.specs.Table.{is_proper_prefix}
use Rattle.compose_lookup.proofs.FirstOne.{first_is_least, none_first}
use Rattle.compose_diff_rows.proofs.law_longer.Goals as goal

pub returns : goal.returns
returns c = record {
  found = λ table s longer h e.
      (let it = first_is_least table h (is_proper_prefix s) longer e in record {
        there = it.there;
        goes_on = it.passes;
        shortest = it.shortest;
        first = λ t is goes_on as_long. ap not (it.first t is goes_on as_long);
      });
  none = λ table s h e t is goes_on. none_first table h (is_proper_prefix s) e t is goes_on;
}
