use Rattle.std.proofs.Common.{◌≡◌, ◌∙◌, ◌++◌, [], List, ℕ, map, ap, subst, rules, string_bytes}
use Rattle.std.specs.Prelude.{flat_map, option_copied}
use Rattle.compose_tree.specs.declared.table.LeafId.{LeafId}
use Rattle.compose_lookup.specs.TextIndex.{sequence_at, IsLeaf}
use Rattle.compose_listing.specs.Chosen.{AreInOrder}
use Rattle.compose_listing.specs.Leaves.{leaf_line}
use Rattle.compose_listing.proofs.Lines.{leaves_are}
use Rattle.compose_listing.proofs.list.lines_of.Goals as goal

pub put_in_order-requires : goal.put_in_order-requires
put_in_order-requires g c = c.in_ok-leaves.ensures.in_table

pub returns : goal.returns
returns g c =
    let table = g.T.ComposeTable.definitions c.args.listed.now.table.now in
    let lines = c.args.listed.now.lines.now in
    let paths = map (λ path. path.now) c.args.listed.now.paths.now in
    let wanted = c.args.wanted in
    let after : List LeafId = c.put_in_order.new.leaves.items in
    let empty : string_bytes c.new-lines.result ≡ [] = search rules in
    λ visits are. record {
      sequences = map (sequence_at table) after;
      in_order =
          subst (λ (xs : List (List ℕ)). AreInOrder wanted.order c.args.listed.now.names.now visits table xs (map (sequence_at table) after)) c.in_ok-leaves.ensures.sequences
          (c.in_ok-put_in_order.ensures.ordered visits are);
      lines =
          c.in_ok-push_leaves.ensures ∙ ap (λ t. t ++ flat_map (leaf_line wanted.form table lines paths) c.deref.result.now) empty
          ∙ ap (flat_map (leaf_line wanted.form table lines paths)) c.deref.ensures.value
          ∙ leaves_are wanted.form c.args.listed.now.names.now visits paths table lines are after c.in_ok-put_in_order.ensures.in_table;
    }
