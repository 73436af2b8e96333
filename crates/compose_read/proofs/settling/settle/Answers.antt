use Rattle.std.proofs.Common.{◌≡◌, List, Vec, Global, sym, ◌∙◌, ap, subst, string_bytes, rules, arith}
use Rattle.std.specs.Prelude.{Result, Ok, Err}
use Rattle.compose_model.specs.Table.{Definition}
use Rattle.compose_read.specs.Settle.{settled, Overlap}
use Rattle.compose_read.specs.Neighbours.{settled_neighbours}
use Rattle.compose_read.specs.ReadReturns.{SettleReturns}
use Rattle.compose_read.specs.Rows.{rows_of, ArePlaced}
use Rattle.compose_read.specs.declared.rows.RowSpan.{RowSpan}
use Rattle.compose_read.proofs.Settled.{settled_runs}
use Rattle.compose_read.proofs.SettledRows.{sorted_placed, sorted_settle}
use Rattle.compose_read.proofs.SettledTable.{settled_is, settled_few}
use Rattle.compose_read.proofs.Turns.{fault_says}
use Rattle.compose_read.proofs.settling.settle.Goals as goal

abbrev reading_result : List Definition → Result (List Definition) Overlap
reading_result rows = Ok rows

pub settle_sorted-requires : goal.settle_sorted-requires
settle_sorted-requires c =
    let ks = c.rows.inside.keysyms.items in let ts = string_bytes c.rows.inside.texts in let ps = c.rows.inside.spans.items in let sorted = c.in_ok-sorted.sorted.items in
    λ k d l. (sorted_placed c.args.rule c.args.definitions ks c.deref.result.now ts ps sorted c.deref.ensures.value (c.in_ok-sorted.ensures.placed ts) c.rows.invariant k d l).few

pub returns-in_err-spans-clause-exact : goal.returns-in_err-spans-clause-exact
returns-in_err-spans-clause-exact c =
    let ks = c.rows.inside.keysyms.items in let ts = string_bytes c.rows.inside.texts in let ps = c.rows.inside.spans.items in let sorted = c.in_ok-sorted.sorted.items in
    let fault = c.in_err-spans.field-0.0 in
    let is : c.from_residual-in_err-spans.result ≡ Err fault = search rules in
    let given = λ (v : Vec RowSpan Global). rows_of c.deref-2.result.now ts v.items in
    let same =
    ap (λ k. settled_neighbours c.args.rule (rows_of k ts sorted)) c.deref-2.ensures.value
    ∙ sorted_settle c.args.rule c.args.definitions ks c.deref.result.now ts ps sorted c.deref.ensures.value (c.in_ok-sorted.ensures.ascend ts) (c.in_ok-sorted.ensures.same ts)
    (c.rows.view_is ∙ c.into_rows-rows.ensures.same) in
    subst (λ r. SettleReturns (λ (rows : List Definition). rows) r (settled c.args.rule c.args.definitions)) (sym is)
    (fault_says given (λ (rows : List Definition). rows) fault (settled c.args.rule c.args.definitions) (subst (SettleReturns given (Err fault)) same (c.in_err-spans.ensures.settled ts)))

pub invariant_of-from_rows : goal.invariant_of-from_rows
invariant_of-from_rows c =
    let ks = c.rows.inside.keysyms.items in let ts = string_bytes c.rows.inside.texts in let ps = c.rows.inside.spans.items in let sorted = c.in_ok-sorted.sorted.items in
    let placed = sorted_placed c.args.rule c.args.definitions ks c.deref.result.now ts ps sorted c.deref.ensures.value (c.in_ok-sorted.ensures.placed ts) c.rows.invariant in
    subst (λ k. ArePlaced k ts c.in_ok-spans.spans.items) c.deref-2.ensures.value (c.in_ok-spans.ensures.placed ts (subst (λ k. ArePlaced k ts sorted) (sym c.deref-2.ensures.value) placed))

pub from_rows-requires : goal.from_rows-requires
from_rows-requires c =
    let ks = c.rows.inside.keysyms.items in let ts = string_bytes c.rows.inside.texts in let ps = c.rows.inside.spans.items in let sorted = c.in_ok-sorted.sorted.items in
    let same =
    sorted_settle c.args.rule c.args.definitions ks c.deref.result.now ts ps sorted c.deref.ensures.value (c.in_ok-sorted.ensures.ascend ts) (c.in_ok-sorted.ensures.same ts)
    (c.rows.view_is ∙ c.into_rows-rows.ensures.same) in
    let kept = subst (λ k. settled_neighbours c.args.rule (rows_of k ts sorted) ≡ reading_result (rows_of k ts c.in_ok-spans.spans.items)) c.deref-2.ensures.value (c.in_ok-spans.ensures.settled ts) in
    let rows = rows_of ks ts c.in_ok-spans.spans.items in record {
      settled = settled_is c.args.rule c.args.definitions rows c.into_rows-rows.ensures.table (sym same ∙ kept);
      few = (let fewer = settled_few c.args.rule c.args.definitions rows (sym same ∙ kept) in let few = c.into_rows-rows.ensures.few in omega arith);
    }

pub returns-clause-exact : goal.returns-clause-exact
returns-clause-exact c =
    let ks = c.rows.inside.keysyms.items in let ts = string_bytes c.rows.inside.texts in let ps = c.rows.inside.spans.items in let sorted = c.in_ok-sorted.sorted.items in
    let same =
    sorted_settle c.args.rule c.args.definitions ks c.deref.result.now ts ps sorted c.deref.ensures.value (c.in_ok-sorted.ensures.ascend ts) (c.in_ok-sorted.ensures.same ts)
    (c.rows.view_is ∙ c.into_rows-rows.ensures.same) in
    let kept = subst (λ k. settled_neighbours c.args.rule (rows_of k ts sorted) ≡ reading_result (rows_of k ts c.in_ok-spans.spans.items)) c.deref-2.ensures.value (c.in_ok-spans.ensures.settled ts) in
    sym same ∙ kept ∙ ap reading_result (sym c.from_rows.ensures)

pub returns-clause-runs : goal.returns-clause-runs
returns-clause-runs c = λ names keys.
    settled_runs names c.args.rule c.args.definitions c.from_rows.result keys (returns-clause-exact c)
