use Rattle.std.proofs.Common.{List, map, subst}
use Rattle.std.specs.List.Sorted.{IsPermutation}
use Rattle.std.proofs.lemmas.List.Sorted.{IsPermutation-map}
use Rattle.compose_diff_rows.specs.Rows.{ReportedRow, reported_row}
use Rattle.compose_diff_rows.proofs.answering.sorted_rows.Goals as goal

pub returns : goal.returns
returns g c = record {
  same = subst (λ (reported : List ReportedRow). IsPermutation reported (map reported_row c.sort_rows.new.rows.items)) c.in_ok-rows.ensures
      (IsPermutation-map reported_row c.in_ok-rows.rows.items c.sort_rows.new.rows.items c.sort_rows.ensures.same);
  sorted = c.in_ok-sort_rows.ensures.sorted;
}
