use Rattle.std.proofs.Common.{◌∙◌, ap, sym, subst, arith, length}
use Rattle.std.specs.Prelude.{option_map, slice_get}
use Rattle.compose_model.specs.Table.{Definition}
use Rattle.compose_model.specs.Nodes.{leaves}
use Rattle.compose_read.specs.Settle.{IsSettled}
use Rattle.compose_tree.proofs.Lookups.{leaves_count, text_is}
use Rattle.compose_tree.proofs.list_table.ListTableComposeTable.text.Goals as goal

pub text-requires : goal.text-requires
text-requires c =
    let n = leaves_count c.self.inside.sequences c.self.invariant.0 in
    let e = ap (λ t. length (leaves t)) c.self.view_is in
    omega arith

pub returns-clause-value : goal.returns-clause-value
returns-clause-value c =
    (text_is c.args.self.now c.args.leaf.0 c.text.result.now (subst IsSettled c.self.view_is c.self.invariant.0) c.requires
    (ap (λ t. option_map (λ (d : Definition). d.text) (slice_get t c.args.leaf.0)) (sym c.self.view_is) ∙ c.text.ensures)).0

pub returns-clause-few : goal.returns-clause-few
returns-clause-few c =
    (text_is c.args.self.now c.args.leaf.0 c.text.result.now (subst IsSettled c.self.view_is c.self.invariant.0) c.requires
    (ap (λ t. option_map (λ (d : Definition). d.text) (slice_get t c.args.leaf.0)) (sym c.self.view_is) ∙ c.text.ensures)).1
