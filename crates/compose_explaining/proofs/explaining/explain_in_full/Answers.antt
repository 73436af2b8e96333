use Rattle.std.proofs.Common.{rules, ◌≡◌, sym, ◌∙◌, ap, subst, nat_cmp}
use Rattle.std.specs.Prelude.{Result}
use Rattle.compose_model.specs.Nodes.{rising}
use Rattle.compose_migration.specs.Values.{given_of, parts}
use Rattle.compose_migration.specs.Migration.{NoAnswer}
use Rattle.compose_migration.specs.Refused.{Returns}
use Rattle.compose_answer.specs.Parts.{Explainable, explain_parts, explainable}
use Rattle.compose_tool.proofs.Steps.{explain_read}
use Rattle.compose_explaining.specs.Sides.{lined, lined_of}
use Rattle.compose_explaining.specs.Told.{TellsInFull, TellsOf}
use Rattle.compose_explaining.proofs.Telling.{accepted_is, lined_is, returns_as}
use Rattle.compose_explaining.proofs.explaining.explain_in_full.Goals as goal

pub returns : goal.returns
returns g c =
    let view = g.T.ComposeTable.definitions in
    let input = c.args.input.now in let all = c.args.all in
    let m = c.in_ok-migration.migration in
    let move = parts (λ placed. view placed.table) m in
    let fresh = c.deref-2.result.now in
    let old = lined_of m.names c.args.old_side input.old.sources.now (view m.old.table) in let new = lined_of m.names c.args.new_side input.new.sources.now (view m.new.table) in
    subst (λ (s : Result Explainable NoAnswer). Returns (TellsInFull all c.args.old_side c.args.new_side input) c.tell.result s)
    (sym (explain_read (given_of input) move c.in_ok-migration.ensures.parts fresh (c.deref-2.ensures.value ∙ c.in_ok-fresh.ensures ∙ ap (rising nat_cmp) c.deref.ensures.value)))
    (returns_as (TellsOf all (lined view c.args.old_side m.old) (lined view c.args.new_side m.new)) (TellsInFull all c.args.old_side c.args.new_side input) c.tell.result (explainable move fresh)
    (λ e told is said. subst (λ (e : Explainable). TellsInFull all c.args.old_side c.args.new_side input e told) (accepted_is move fresh e is)
    (subst (λ o. TellsOf all o new (record { move = move; fresh = fresh }) told) (lined_is view m.names input.old.sources.now c.args.old_side m.old c.in_ok-migration.ensures.old)
    (subst (λ n. TellsOf all (lined view c.args.old_side m.old) n (record { move = move; fresh = fresh }) told) (lined_is view m.names input.new.sources.now c.args.new_side m.new c.in_ok-migration.ensures.new)
    (subst (λ (e : Explainable). TellsOf all (lined view c.args.old_side m.old) (lined view c.args.new_side m.new) e told) (sym (accepted_is move fresh e is)) said))))
    c.tell.ensures)
