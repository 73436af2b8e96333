use Rattle.std.proofs.Common.{length, set, refl, ◌∙◌, ap, Some, None, Option}
use Rattle.compose_model.specs.Nodes.{nodes}
use Rattle.compose_walk.specs.declared.pass.Partner.{Partner}
use Rattle.compose_walk.proofs.Nodes.{nodes_begun, filled}
use Rattle.compose_walk.proofs.pass.Pass.begin.Goals as goal

pub returns-clause-stands : goal.returns-clause-stands
returns-clause-stands g c =
    let old = g.T.ComposeTable.definitions c.args.old.now in
    let s : Partner = record { new_node = record { 0 = 0 }; parent = record { 0 = 0 }; keysym = c.default.result } in
    ap (λ xs. set xs 0 (Some s))
    (filled {X = Option Partner} None c.resize.new.self.items c.new-stands.result.items c.node_count.result
    (length (nodes old)) _ c.in_ok-resize.ensures.items c.new-stands.ensures.items c.new-stands.ensures.len c.node_count.ensures.count)
    ∙ nodes_begun c.args.names.now old (g.U.ComposeTable.definitions c.args.new.now) c.requires.table s refl refl c.default.ensures
