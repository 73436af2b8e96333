use Rattle.std.proofs.Common.{◌∙◌, ◌+◌, cond, drop, sym, ap}
use Rattle.std.specs.Prelude.{Some}
use Rattle.std.specs.Option.{option_or}
use Rattle.compose_places.specs.Last.{last_from}
use Rattle.compose_details.proofs.LastSoFar.{one_back}
use Rattle.compose_details.proofs.definitions.last_with.Goals as goal

pub loop-index-preserved : goal.loop-index-preserved
loop-index-preserved c =
    let table = c.args.definitions.now in let v = c.args.sequence.now in let i = c.loop-index.index in
    ap (option_or (last_from (i + 1) (drop (i + 1) table) v)) (c.later-last.ensures ∙ ap (λ b. cond b (Some i) c.loop-index.last) c.eq.ensures)
    ∙ sym (one_back table v i c.sequence.result.now c.loop-index.last c.sequence.ensures) ∙ c.loop-index.invariant
