use Rattle.std.proofs.Common.{◌≡◌, ◌∷◌, [], ◌++◌, length, sym, ◌∙◌, ap, arith}
use Rattle.std.specs.Prelude.{is_some}
use Rattle.std.proofs.lemmas.Bool.{ne_eqb}
use Rattle.std.proofs.lemmas.List.{length-map}
use Rattle.compose_model.specs.Nodes.{nodes, node}
use Rattle.compose_walk.proofs.NodeNumbers.{node_is_node, root_at_zero}
use Rattle.compose_walk.proofs.Traces.{some_partner, is_there, parent_below, parent_in_range, parent_agrees, one_back, room}
use Rattle.compose_walk.proofs.pass.Pass.keys_to.Goals as goal

pub loop-node-init : goal.loop-node-init
loop-node-init g c = record {
  in_range = c.requires.in_range;
  agree = c.requires.agree;
  keys = ap (λ ks. node (g.T.ComposeTable.definitions c.args._old.now) c.args.number ++ ks) (sym (c.push.ensures.items ∙ ap (λ ks. ks ++ c.args.keysym ∷ []) c.new-keys.ensures));
}

pub index-slot-requires : goal.index-slot-requires
index-slot-requires g c =
    let n : length c.args.self.now.stands.items ≡ length (nodes (g.T.ComposeTable.definitions c.args._old.now)) =
    ap length c.requires.stands ∙ length-map (nodes (g.T.ComposeTable.definitions c.args._old.now)) _ in
    let below = c.loop-node.invariant.in_range in
    omega (arith, c.args.self.now.stands.ok.0)

pub unwrap-stand-requires : goal.unwrap-stand-requires
unwrap-stand-requires g c =
    let old = g.T.ComposeTable.definitions c.args._old.now in
    let new = g.U.ComposeTable.definitions c.args._new.now in
    ap is_some
    (some_partner c.args._names.now old new c.requires.table c.loop-node.node c.loop-node.invariant.in_range
    c.loop-node.invariant.agree c.args.self.now.stands.items c.requires.stands c.index-slot.result.now c.index-slot.ensures)
    ∙ is_there c.args._names.now old new c.requires.table c.loop-node.node c.loop-node.invariant.in_range c.loop-node.invariant.agree

pub insert-requires : goal.insert-requires
insert-requires g c =
    let names = c.args._names.now in
    let old = g.T.ComposeTable.definitions c.args._old.now in
    let new = g.U.ComposeTable.definitions c.args._new.now in
    let at =
    sym
    (some_partner names old new c.requires.table c.loop-node.node c.loop-node.invariant.in_range
    c.loop-node.invariant.agree c.args.self.now.stands.items c.requires.stands c.index-slot.result.now c.index-slot.ensures)
    ∙ c.unwrap-stand.ensures in
    let fits =
    room names old new c.requires.table c.loop-node.node c.loop-node.invariant.in_range c.loop-node.invariant.agree c.unwrap-stand.result at (ne_eqb c.loop-node.node 0 c.loop-node-test.true)
    (node old c.args.number) c.args.keysym c.loop-node.keys.items (node_is_node old c.args.number c.requires.in_range) c.loop-node.invariant.keys in
    omega arith

pub loop-node-smaller : goal.loop-node-smaller
loop-node-smaller g c =
    let names = c.args._names.now in
    let old = g.T.ComposeTable.definitions c.args._old.now in
    let new = g.U.ComposeTable.definitions c.args._new.now in
    let at =
    sym
    (some_partner names old new c.requires.table c.loop-node.node c.loop-node.invariant.in_range
    c.loop-node.invariant.agree c.args.self.now.stands.items c.requires.stands c.index-slot.result.now c.index-slot.ensures)
    ∙ c.unwrap-stand.ensures in
    parent_below names old new c.requires.table c.loop-node.node c.loop-node.invariant.in_range c.loop-node.invariant.agree c.unwrap-stand.result at (ne_eqb c.loop-node.node 0 c.loop-node-test.true)

pub loop-node-preserved : goal.loop-node-preserved
loop-node-preserved g c =
    let names = c.args._names.now in
    let old = g.T.ComposeTable.definitions c.args._old.now in
    let new = g.U.ComposeTable.definitions c.args._new.now in
    let at =
    sym
    (some_partner names old new c.requires.table c.loop-node.node c.loop-node.invariant.in_range
    c.loop-node.invariant.agree c.args.self.now.stands.items c.requires.stands c.index-slot.result.now c.index-slot.ensures)
    ∙ c.unwrap-stand.ensures in
    let other = ne_eqb c.loop-node.node 0 c.loop-node-test.true in
    record {
      in_range = parent_in_range names old new c.requires.table c.loop-node.node c.loop-node.invariant.in_range c.loop-node.invariant.agree c.unwrap-stand.result at other;
      agree = parent_agrees names old new c.requires.table c.loop-node.node c.loop-node.invariant.in_range c.loop-node.invariant.agree c.unwrap-stand.result at other;
      keys = one_back names old new c.requires.table c.loop-node.node c.loop-node.invariant.in_range c.loop-node.invariant.agree c.unwrap-stand.result at other
          (node old c.args.number ++ c.args.keysym ∷ []) c.loop-node.keys.items c.loop-node.invariant.keys ∙ ap (λ ks. node old c.unwrap-stand.result.parent.0 ++ ks) (sym c.insert.ensures.items);
    }

pub returns : goal.returns
returns g c =
    let old = g.T.ComposeTable.definitions c.args._old.now in
    sym (c.loop-node.invariant.keys ∙ ap (λ p. p ++ c.loop-node.keys.items) (root_at_zero old c.loop-node.node c.loop-node-test.false))
