use Rattle.std.proofs.Common.{◌≡◌, ◌∙◌, ◌<◌, ℕ, List, length, sym, ap, subst, false}
use Rattle.std.specs.Prelude.{Option, Some}
use Rattle.std.specs.Option.{option_map_or}
use Rattle.compose_model.specs.Nodes.{leaves}
use Rattle.compose_model.specs.Table.{same, text_at}
use Rattle.compose_tree.specs.Targets.{leaf_text}
use Rattle.compose_tree.proofs.Steps.{leaf_below, text_of_leaf}
use Rattle.compose_merge.proofs.Texts.{no_text}
use Rattle.compose_merging.proofs.treatment.has_text.Goals as goal

pub text-requires : goal.text-requires
text-requires g c =
    let table = g.T.ComposeTable.definitions c.args.table.now in
    subst (λ (n : ℕ). n < length (leaves table)) c.in-Some.ensures.1 (leaf_below table c.args.sequence.now c.in-Some.ensures.0)

pub returns-in-Some : goal.returns-in-Some
returns-in-Some g c =
    let table = g.T.ComposeTable.definitions c.args.table.now in let sequence = c.args.sequence.now in
    let at : text_at table sequence ≡ Some c.text.result.now =
    sym (text_of_leaf table sequence c.in-Some.ensures.0) ∙ ap (leaf_text table) c.in-Some.ensures.1 ∙ c.text.ensures.value in
    c.eq.ensures ∙ ap (λ (o : Option (List ℕ)). option_map_or (same c.args.text.now) o false) (sym at)

pub returns-in-None : goal.returns-in-None
returns-in-None g c =
    ap (λ (o : Option (List ℕ)). option_map_or (same c.args.text.now) o false) (sym (no_text (g.T.ComposeTable.definitions c.args.table.now) c.args.sequence.now c.in-None.ensures))
