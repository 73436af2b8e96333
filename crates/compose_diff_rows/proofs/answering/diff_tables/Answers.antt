use Rattle.std.proofs.Common.{◌≡◌, ◌∙◌, List, ℕ, sym, ap, rules}
use Rattle.std.specs.Prelude.{Ok}
use Rattle.compose_answer.specs.Parts.{Explainable}
use Rattle.compose_diff_rows.specs.Answers.{asked, compared_parts}
use Rattle.compose_diff_rows.specs.Steps.{accept_raised, placed_parts}
use Rattle.compose_diff_rows.proofs.Joining.{after_read, accept_refused, reported_of, handed_on}
use Rattle.compose_diff_rows.proofs.answering.diff_tables.Goals as goal

pub returns-in_err-accepted : goal.returns-in_err-accepted
returns-in_err-accepted g c =
    let input = asked c.args.input.now in
    let move = placed_parts g.T.ComposeTable.definitions c.args.migration.now in
    let placed = c.requires in
    let e : Explainable = record { move = move; fresh = c.in_ok-fresh.fresh.items } in
    let is : compared_parts input.migration ≡ Ok e = after_read input.migration placed.expected move placed.read placed.is ∙ c.in_ok-fresh.ensures.0 in
    let fault = c.in_err-accepted.field-0.0 in
    handed_on input c.from_residual-in_err-accepted.result (accept_raised fault) (search rules) (accept_refused input e is fault c.in_err-accepted.ensures)

pub returns : goal.returns
returns g c =
    let input = asked c.args.input.now in
    let move = placed_parts g.T.ComposeTable.definitions c.args.migration.now in
    let placed = c.requires in
    let with : List ℕ → Explainable = (λ fresh. record { move = move; fresh = fresh }) in
    let given : compared_parts input.migration ≡ Ok (with c.in_ok-fresh.fresh.items) = after_read input.migration placed.expected move placed.read placed.is ∙ c.in_ok-fresh.ensures.0 in
    let is : compared_parts input.migration ≡ Ok (with c.deref.result.now) = given ∙ ap (λ (xs : List ℕ). Ok (with xs)) (sym c.deref.ensures.value) in
    reported_of input (with c.deref.result.now) is c.in_ok-accepted.accepted c.in_ok-accepted.ensures c.answer_tables.result c.answer_tables.ensures
