use Rattle.std.proofs.Common.{◌≡◌, ◌∙◌, ◌++◌, ◌∷◌, [], ◌/◌, ◌<◌, ℕ, List, true, length, get_or, take, eq-eqb, lt-ltb, refl, sym, ap, subst, arith}
use Rattle.compose_model.specs.Table.{Definition}
use Rattle.compose_model.specs.Nodes.{is_node, number_of, nodes, edges}
use Rattle.compose_model.proofs.NodeLemmas.{number_below}
use Rattle.compose_tree.proofs.Lookups.{node_few}
use Rattle.compose_c.specs.Arrays.{AreFirst}
use Rattle.compose_c.specs.declared.loose.LooseEdge.{LooseEdge}
use Rattle.compose_c.proofs.NextDefinition.{leaf_added}
use Rattle.compose_c.proofs.EdgeTargets.{even_leads}
use Rattle.compose_c.proofs.NextEdge.{without_last, edge_at, edge_added, edges_added, more_added}
use Rattle.compose_c.proofs.SequencesFrom.{from_node}
use Rattle.compose_c.proofs.loose.+add_from.Goals as goal

pub returns-then-target-eq1-clause-added : goal.returns-then-target-eq1-clause-added
returns-then-target-eq1-clause-added t c =
    leaf_added c.args.arrays.now c.args.draft.now.table c.add_leaf.new.draft.table c.deref.result.now c.args.path.now.items c.args.target c.add_leaf.result c.deref.ensures.value c.if-target-eq1.true
    c.add_leaf.ensures

pub returns-in_default-clause-added : goal.returns-in_default-clause-added
returns-in_default-clause-added t c table others is leads first =
    let even = even_leads table c.args.path.now.items c.args.target leads c.if-target-eq1.false in
    absurd (c.in_default.ensures table is (let below = number_below table c.args.path.now.items even.0 in let e = even.1 in omega arith))

pub returns-then-depth-ge-MOST_KEYSYMS-clause-added : goal.returns-then-depth-ge-MOST_KEYSYMS-clause-added
returns-then-depth-ge-MOST_KEYSYMS-clause-added t c table others is leads first =
    let even = even_leads table c.args.path.now.items c.args.target leads c.if-target-eq1.false in
    let few = node_few table c.args.path.now.items is.settled.definitions even.0 in
    absurd (omega (arith, few, c.len-depth.ensures, c.if-depth-ge-MOST_KEYSYMS.true))

pub loop-edge-init : goal.loop-edge-init
loop-edge-init t c = record {
  path = refl;
  added = λ table others is leads first.
      (let even = even_leads table c.args.path.now.items c.args.target leads c.if-target-eq1.false in
      subst (λ xs. AreFirst table c.args.draft.now.table (xs ++ others)) (from_node table is.settled c.args.path.now.items even.0) first);
}

below : (table : List Definition) (q : List ℕ) (n : ℕ) → is_node table q ≡ true → n ≡ number_of table q → n < length (nodes table)
below table q n h e = let b = number_below table q h in omega arith

pub returns-in_default-new-clause-added : goal.returns-in_default-new-clause-added
returns-in_default-new-clause-added t c table others is leads first =
    let q = c.args.path.now.items in
    let even = even_leads table q c.args.target leads c.if-target-eq1.false in
    let own = c.in-Some.ensures table is (below table q (c.args.target / 2) even.0 even.1) in
    let edge = edge_at table is.settled q even.0 (c.args.target / 2) even.1 c.in-Some.edges.now own c.loop-edge.edge-index (record { keysym = 0; target = 0 }) c.loop-edge-test.true in
    absurd (let fits = edge.fits in let e = c.in_default-new.ensures.some (omega arith) in cc)

pub returns-then-not-branch-clause-added : goal.returns-then-not-branch-clause-added
returns-then-not-branch-clause-added t c table others is leads first =
    let q = c.args.path.now.items in
    let even = even_leads table q c.args.target leads c.if-target-eq1.false in
    let own = c.in-Some.ensures table is (below table q (c.args.target / 2) even.0 even.1) in
    let none : LooseEdge = record { keysym = 0; target = 0 } in
    let edge = edge_at table is.settled q even.0 (c.args.target / 2) even.1 c.in-Some.edges.now own c.loop-edge.edge-index none c.loop-edge-test.true in
    let key : c.in-Some-new.keysym ≡ (get_or c.in-Some.edges.now c.loop-edge.edge-index none).keysym = (let fits = edge.fits in let e = c.in-Some-new.ensures.some (omega arith) in cc) in
    let path = c.in_ok-push.ensures.items ∙ (λ i. c.loop-edge.invariant.path i ++ key i ∷ []) in
    let x =
    edge_added table is.settled q even.0 (c.args.target / 2) even.1 c.in-Some.edges.now own c.loop-edge.edge-index none c.push.new.self.items c.loop-edge.draft.table c.add_from.new.draft.table
    c.in_ok-add_from.field-0 others c.loop-edge-test.true path (λ later to start. c.in_ok-add_from.ensures.added table later is to start) (c.loop-edge.invariant.added table others is leads first) in
    absurd (let e = x.0 in let f = c.if-not-branch.true in cc)

pub loop-edge-preserved : goal.loop-edge-preserved
loop-edge-preserved t c =
    let q = c.args.path.now.items in
    let value : c.in_ok-add_from.field-0 ≡ true = c.if-not-branch.false in
    record {
      path = c.truncate.ensures.items
          ∙ ap (take c.len-depth.result) (c.in_ok-add_from.ensures.path value ∙ c.in_ok-push.ensures.items ∙ ap (λ xs. xs ++ c.in-Some-new.keysym ∷ []) c.loop-edge.invariant.path)
          ∙ without_last c.len-depth.result q (c.in-Some-new.keysym ∷ []) (omega (arith, c.len-depth.ensures));
      added = λ table others is leads first.
          (let even = even_leads table q c.args.target leads c.if-target-eq1.false in
          let own = c.in-Some.ensures table is (below table q (c.args.target / 2) even.0 even.1) in
          let none : LooseEdge = record { keysym = 0; target = 0 } in
          let edge = edge_at table is.settled q even.0 (c.args.target / 2) even.1 c.in-Some.edges.now own c.loop-edge.edge-index none c.loop-edge-test.true in
          let key : c.in-Some-new.keysym ≡ (get_or c.in-Some.edges.now c.loop-edge.edge-index none).keysym = (let fits = edge.fits in let e = c.in-Some-new.ensures.some (omega arith) in cc) in
          let path = c.in_ok-push.ensures.items ∙ (λ i. c.loop-edge.invariant.path i ++ key i ∷ []) in
          (edge_added table is.settled q even.0 (c.args.target / 2) even.1 c.in-Some.edges.now own c.loop-edge.edge-index none c.push.new.self.items c.loop-edge.draft.table c.add_from.new.draft.table
          c.in_ok-add_from.field-0 others c.loop-edge-test.true path (λ later to start. c.in_ok-add_from.ensures.added table later is to start) (c.loop-edge.invariant.added table others is leads first)).1);
    }

pub returns-then-depth-eq0-clause-added : goal.returns-then-depth-eq0-clause-added
returns-then-depth-eq0-clause-added t c table others is leads first =
    let q = c.args.path.now.items in
    let even = even_leads table q c.args.target leads c.if-target-eq1.false in
    let own = c.in-Some.ensures table is (below table q (c.args.target / 2) even.0 even.1) in (
      eq-eqb c.len-depth.result 0 c.if-depth-eq0.true,
      edges_added table is.settled q even.0 (c.args.target / 2) even.1 c.in-Some.edges.now own c.loop-edge.edge-index c.loop-edge.draft.table others (omega (arith, c.loop-edge-test.false))
          (c.loop-edge.invariant.added table others is leads first),
    )

pub returns-else-depth-eq0-clause-added : goal.returns-else-depth-eq0-clause-added
returns-else-depth-eq0-clause-added t c table others is leads first =
    let q = c.args.path.now.items in
    let even = even_leads table q c.args.target leads c.if-target-eq1.false in
    let own = c.in-Some.ensures table is (below table q (c.args.target / 2) even.0 even.1) in
    let last =
    edges_added table is.settled q even.0 (c.args.target / 2) even.1 c.in-Some.edges.now own c.loop-edge.edge-index c.loop-edge.draft.table others (omega (arith, c.loop-edge-test.false))
    (c.loop-edge.invariant.added table others is leads first) in
    let more =
    more_added table is.settled q even.0 (c.args.target / 2) even.1 c.in-Some.edges.now own c.args.draft.now.table c.loop-edge.draft.table others
    (omega (arith, c.len-depth.ensures, c.if-depth-eq0.false)) first last in
    (lt-ltb c.len-before.result c.len.result (omega (arith, more, c.len-before.ensures, c.len.ensures)), last)
