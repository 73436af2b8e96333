use Rattle.std.proofs.Common.{◌≡◌, ◌<◌, ℕ, List, length, subst, ◌∙◌, ap}
use Rattle.compose_model.specs.Table.{Definition, is_prefix_free}
use Rattle.compose_model.specs.Nodes.{nodes}
use Rattle.compose_tree.specs.Targets.{max_nodes}
use Rattle.compose_tree.specs.declared.table.BuildFault.TheVariants.{TooManyNodes}
use Rattle.compose_merge.specs.Merged.{kept, listed_keys}
use Rattle.compose_merge.specs.declared.merging.MergeFault.{MergeFault}
use Rattle.compose_merge.specs.declared.merging.MergeFault.TheVariants.{TooLarge}
use Rattle.compose_merge.proofs.Same.{settled_nodes, fault_gives}
use Rattle.compose_merge.proofs.Whole.{kept_free}
use Rattle.compose_merge.proofs.merging.build_kept.Goals as goal

pub returns-in_err-table-clause-large : goal.returns-in_err-table-clause-large
returns-in_err-table-clause-large g c =
    let rows = kept (listed_keys c.args.accepted.now) c.args.old.now in
    let same : nodes c.in_ok-rows.rows ≡ nodes rows =
    settled_nodes c.into_definitions.result c.in_ok-rows.rows c.in_ok-rows.ensures.exact ∙ ap (λ (t : List Definition). nodes t) (c.into_definitions.ensures.same ∙ c.in_ok-draft.ensures.kept) in
    fault_gives (λ (f : MergeFault). f ≡ TooLarge → c.in_err-table.field-0.0 ≡ TooManyNodes) (λ (f : MergeFault). f ≡ TooLarge → max_nodes < length (nodes rows)) c.from_residual-in_err-table.result
    c.from_residual-in_err-table.ensures.1 (λ f gives large. subst (λ (ns : List (List ℕ)). max_nodes < length ns) same (c.in_err-table.ensures.many (gives large)))

pub settle_apart-requires : goal.settle_apart-requires
settle_apart-requires g c =
    ap is_prefix_free (c.into_definitions.ensures.same ∙ c.in_ok-draft.ensures.kept) ∙ kept_free (listed_keys c.args.accepted.now) c.args.old.now c.len.ensures.settled.prefix_free
