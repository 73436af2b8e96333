use Rattle.std.proofs.Common.{◌≡◌, ◌∙◌, ◌-◌, List, ℕ, length, drop, subst, arith, rules}
use Rattle.std.proofs.lemmas.List.{take_at}
use Rattle.compose_model.specs.Table.{is_proper_prefix}
use Rattle.compose_model.proofs.NodeLemmas.{node_zero}
use Rattle.compose_compare.specs.declared.Change.{Change}
use Rattle.compose_compare.specs.declared.Change.TheVariants.{Removed}
use Rattle.compose_compare.specs.Change.{change, old_changes}
use Rattle.compose_compare.specs.Passes.{IsWritten}
use Rattle.compose_compare.proofs.Placed.{root_position, root_same}
use Rattle.compose_compare.proofs.Written.{whole_table}
use Rattle.compose_compare.proofs.comparison.all_old.Goals as goal

pub visit_old-requires-clause-stand : goal.visit_old-requires-clause-stand
visit_old-requires-clause-stand g c = root_position c.args.names.now (g.T.ComposeTable.definitions c.args.old.now) (g.U.ComposeTable.definitions c.args.new.now)

pub visit_old-requires-clause-same : goal.visit_old-requires-clause-same
visit_old-requires-clause-same g c = root_same (g.U.ComposeTable.definitions c.args.new.now) (g.T.ComposeTable.definitions c.args.old.now)

pub returns : goal.returns
returns g c = λ fresh.
    (let names = c.args.names.now in
    let old = g.T.ComposeTable.definitions c.args.old.now in
    let new = g.U.ComposeTable.definitions c.args.new.now in
    let after : List Change = c.visit_old.new.changes in
    let whole : after ≡ old_changes names fresh old new = whole_table Removed (change names fresh old new) old c.node_count.ensures.settled c.deref_mut.result.now after c.visit_old.ensures.fits
    (subst (λ (p : List ℕ). IsWritten Removed (change names fresh old new) old (is_proper_prefix p) c.deref_mut.result.now after) (node_zero old) (c.visit_old.ensures.written fresh)) in
    let long : length after ≡ c.resize.new.self.len = first_of (omega arith, search rules) in
    take_at after (drop (length after) c.resize.new.self.items) c.resize.new.self.len long ∙ whole)
