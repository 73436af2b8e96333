use Rattle.std.proofs.Common.{◌∙◌, ap, subst, []}
use Rattle.std.specs.Prelude.{Some}
use Rattle.compose_check.specs.Landing.{IsOf}
use Rattle.compose_check.proofs.Landed.{landing_is_of}
use Rattle.compose_check.proofs.StartConditions.{node_types_not, leaf_types}
use Rattle.compose_check.proofs.starts.types_itself.Goals as goal

pub text-requires : goal.text-requires
text-requires g c =
    let new = g.U.ComposeTable.definitions c.args.new.now in
    subst (IsOf new) c.in-Leaf.is (landing_is_of c.args.names.now new [] c.args.keysym (Some c.args.target) c.requires.leads)

pub returns-in-Node : goal.returns-in-Node
returns-in-Node g c =
    let new = g.U.ComposeTable.definitions c.args.new.now in
    node_types_not c.args.names.now new c.args.keysym c.in-Node.field-0 c.requires.prefix_free (c.requires.leads ∙ ap (λ t. Some t) c.in-Node.is)

pub returns-in-Leaf : goal.returns-in-Leaf
returns-in-Leaf g c =
    let new = g.U.ComposeTable.definitions c.args.new.now in
    c.is_own_text.ensures ∙ leaf_types c.args.names.now new c.args.keysym c.in-Leaf.leaf c.text.result.now (c.requires.leads ∙ ap (λ t. Some t) c.in-Leaf.is) c.text.ensures.value
