use Rattle.std.proofs.Common.{◌+◌, take, arith, ◌∙◌}
use Rattle.std.proofs.lemmas.List.{get_or_default}
use Rattle.compose_tree.proofs.Adding.{adds_here, rows_after, path_after, count_after, prefix_nodes}
use Rattle.compose_tree.proofs.rows.add_sequence.Goals as goal

pub returns-then-opened-len-clause-many : goal.returns-then-opened-len-clause-many
returns-then-opened-len-clause-many c =
    let a =
    adds_here c.args.sequences.now c.args.index c.args.rows.now c.args.path.now.items c.args.sequence.now c.args.shared
    c.requires.settled c.requires.in_range c.requires.rows c.requires.path c.requires.sequence c.requires.shared in
    λ e. omega (arith, a.nodes_count, prefix_nodes c.args.sequences.now (c.args.index + 1) c.requires.settled)

pub index-requires : goal.index-requires
index-requires c =
    let a =
    adds_here c.args.sequences.now c.args.index c.args.rows.now c.args.path.now.items c.args.sequence.now c.args.shared
    c.requires.settled c.requires.in_range c.requires.rows c.requires.path c.requires.sequence c.requires.shared in
    omega (arith, a.way)

pub push_edge-requires : goal.push_edge-requires
push_edge-requires c =
    let a =
    adds_here c.args.sequences.now c.args.index c.args.rows.now c.args.path.now.items c.args.sequence.now c.args.shared
    c.requires.settled c.requires.in_range c.requires.rows c.requires.path c.requires.sequence c.requires.shared in
    omega (arith, a.parent, c.index.ensures ∙ get_or_default c.args.path.now.items c.args.shared c.index.result.now 0 a.way)

pub returns-clause-rows : goal.returns-clause-rows
returns-clause-rows c =
    let a =
    adds_here c.args.sequences.now c.args.index c.args.rows.now c.args.path.now.items c.args.sequence.now c.args.shared
    c.requires.settled c.requires.in_range c.requires.rows c.requires.path c.requires.sequence c.requires.shared in
    rows_after c.args.rows.now c.args.path.now.items c.args.sequence.now c.args.index c.args.shared
    (take
    (c.args.index
    + 1) c.args.sequences.now) a c.index-sequence-shared.result c.index.result.now c.len-2.result
    c.target_at.result c.push_edge.new.self c.open_nodes.new.rows c.index-sequence-shared.is c.index.ensures
    (omega arith) c.target_at.ensures c.in_ok-push_edge.ensures c.in_ok-open_nodes.ensures.rows

pub returns-clause-path : goal.returns-clause-path
returns-clause-path c =
    let a =
    adds_here c.args.sequences.now c.args.index c.args.rows.now c.args.path.now.items c.args.sequence.now c.args.shared
    c.requires.settled c.requires.in_range c.requires.rows c.requires.path c.requires.sequence c.requires.shared in
    path_after c.args.rows.now c.args.path.now.items c.args.sequence.now c.args.index c.args.shared (take (c.args.index + 1) c.args.sequences.now) a c.index.result.now
    (record {
      keysym = c.index-sequence-shared.result;
      target =
          c.target_at.result;
    }) c.push_edge.new.self c.truncate.new.self.items c.open_nodes.new.path.items c.in_ok-push_edge.ensures c.truncate.ensures.items c.in_ok-open_nodes.ensures.path

pub returns-clause-few : goal.returns-clause-few
returns-clause-few c =
    let a =
    adds_here c.args.sequences.now c.args.index c.args.rows.now c.args.path.now.items c.args.sequence.now c.args.shared
    c.requires.settled c.requires.in_range c.requires.rows c.requires.path c.requires.sequence c.requires.shared in
    let n =
    count_after c.args.rows.now c.args.path.now.items c.args.sequence.now c.args.index c.args.shared (take (c.args.index + 1) c.args.sequences.now) a c.open_nodes.new.rows
    (rows_after c.args.rows.now c.args.path.now.items c.args.sequence.now c.args.index c.args.shared
    (take
    (c.args.index
    + 1) c.args.sequences.now) a c.index-sequence-shared.result c.index.result.now c.len-2.result
    c.target_at.result c.push_edge.new.self c.open_nodes.new.rows c.index-sequence-shared.is c.index.ensures
    (omega arith) c.target_at.ensures c.in_ok-push_edge.ensures c.in_ok-open_nodes.ensures.rows) in
    omega (arith, n)
