use Rattle.std.proofs.Common.{◌≡◌, ◌∙◌, ◌<◌, ◌+◌, [], ◌∷◌, ap, refl, sym, subst, rules, Some, Option, length, arith}
use Rattle.std.proofs.lemmas.List.{length-append}
use Rattle.compose_model.specs.Session.{Session, fed}
use Rattle.compose_tree.specs.declared.table.Target.{Target}
use Rattle.compose_tree.specs.declared.table.Target.TheVariants.{Node, Leaf}
use Rattle.compose_tree.specs.Targets.{target_of}
use Rattle.compose_state.proofs.PathNodes.{to_leaf}
use Rattle.compose_state.proofs.Feeding.{session_after, answered, leaf_commits, node_room}
use Rattle.compose_state.proofs.state.ComposeState.follow.Goals as goal

pub bounds-self-inside-len : goal.bounds-self-inside-len
bounds-self-inside-len g c =
    let table = g.T.ComposeTable.definitions c.args.table.now in
    let leads : target_of table c.self.inside.pending c.args.keysym ≡ Some (Node c.in-Node.field-0) = search rules in
    subst (λ n. n < 31) (sym c.len.ensures.value) (node_room table c.self.inside.pending c.args.keysym c.in-Node.field-0 c.node_count-nodes.ensures.settled.definitions leads)

pub push-requires : goal.push-requires
push-requires g c =
    let table = g.T.ComposeTable.definitions c.args.table.now in
    let leads : target_of table c.self.inside.pending c.args.keysym ≡ Some (Node c.in-Node.field-0) = search rules in
    node_room table c.self.inside.pending c.args.keysym c.in-Node.field-0 c.node_count-nodes.ensures.settled.definitions leads

pub invariant_of-self : goal.invariant_of-self
invariant_of-self g c =
    let table = g.T.ComposeTable.definitions c.args.table.now in
    let leads : target_of table c.self.inside.pending c.args.keysym ≡ Some (Node c.in-Node.field-0) = search rules in
    let room : length c.self.inside.pending < 31 = node_room table c.self.inside.pending c.args.keysym c.in-Node.field-0 c.node_count-nodes.ensures.settled.definitions leads in
    let longer : length c.push.new.self ≡ length c.self.inside.pending + 1 = ap length c.push.ensures ∙ length-append c.self.inside.pending (c.args.keysym ∷ []) in
    omega arith

pub text-requires : goal.text-requires
text-requires g c =
    let table = g.T.ComposeTable.definitions c.args.table.now in
    let leads : target_of table c.args.self.now.pending c.args.keysym ≡ Some (Leaf c.in-Leaf.leaf) = search rules in
    (to_leaf table c.args.self.now.pending c.args.keysym c.in-Leaf.leaf leads).in_range

pub returns-in-Node-clause-state : goal.returns-in-Node-clause-state
returns-in-Node-clause-state g c =
    let table = g.T.ComposeTable.definitions c.args.table.now in
    let s : Session = record { pending = c.self.inside.pending; status = c.self.inside.status } in
    let t : Option Target = Some (Node c.in-Node.field-0) in
    let leads : target_of table s.pending c.args.keysym ≡ t = search rules in
    session_after table s c.args.keysym t c.requires.accepted leads c.push.new.self _ c.push.ensures refl ∙ ap (λ x. fed table x c.args.keysym) c.self.view_is

pub returns-in-Node-clause-reported : goal.returns-in-Node-clause-reported
returns-in-Node-clause-reported g c names =
    let table = g.T.ComposeTable.definitions c.args.table.now in
    let s : Session = record { pending = c.self.inside.pending; status = c.self.inside.status } in
    let t : Option Target = Some (Node c.in-Node.field-0) in
    let leads : target_of table s.pending c.args.keysym ≡ t = search rules in
    answered table s c.args.keysym t c.requires.accepted leads c.args.self.now c.self.view_is names _ refl refl refl (λ e. cc)

pub returns-in-Leaf-clause-state : goal.returns-in-Leaf-clause-state
returns-in-Leaf-clause-state g c =
    let table = g.T.ComposeTable.definitions c.args.table.now in
    let s : Session = c.args.self.now in
    let t : Option Target = Some (Leaf c.in-Leaf.leaf) in
    let leads : target_of table s.pending c.args.keysym ≡ t = search rules in
    c.end.ensures ∙ session_after table s c.args.keysym t c.requires.accepted leads [] _ refl refl

pub returns-in-Leaf-clause-reported : goal.returns-in-Leaf-clause-reported
returns-in-Leaf-clause-reported g c names =
    let table = g.T.ComposeTable.definitions c.args.table.now in
    let s : Session = c.args.self.now in
    let t : Option Target = Some (Leaf c.in-Leaf.leaf) in
    let leads : target_of table s.pending c.args.keysym ≡ t = search rules in
    answered table s c.args.keysym t c.requires.accepted leads s refl names _ refl refl
    (leaf_commits table s.pending c.args.keysym c.in-Leaf.leaf c.text.result.now leads c.text.ensures.value) refl
