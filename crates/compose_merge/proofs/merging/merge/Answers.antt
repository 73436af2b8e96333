use Rattle.std.proofs.Common.{◌≡◌, ◌<◌, ◌⊎◌, ◌++◌, List, length, filter, inl, subst, sym, ◌∙◌, ap, ap₂}
use Rattle.compose_model.specs.Table.{Definition, is_prefix_free}
use Rattle.compose_model.specs.Step.{run}
use Rattle.compose_model.specs.declared.Rule.TheVariants.{Refuse}
use Rattle.compose_read.specs.Settle.{settled}
use Rattle.compose_merge.specs.Merged.{free_keys, is_taken, kept, merged, listed_keys}
use Rattle.compose_model.specs.Nodes.{nodes}
use Rattle.compose_read.specs.Read.{max_definitions}
use Rattle.compose_tree.specs.Targets.{max_nodes}
use Rattle.compose_merge.specs.declared.merging.MergeFault.{MergeFault}
use Rattle.compose_merge.specs.declared.merging.MergeFault.TheVariants.{TooLarge}
use Rattle.compose_merge.proofs.Same.{onto_settled, rows_follow, fault_gives}
use Rattle.compose_merge.proofs.Whole.{merged_free}
use Rattle.compose_merge.proofs.merging.merge.Goals as goal

pub returns-clause-exact : goal.returns-clause-exact
returns-clause-exact g c =
    let names = c.args.names.now in
    let fresh = c.args.fresh.now in
    let accepted = listed_keys c.args.accepted.now in
    let old = c.args.old.now in
    let new = c.args.new.now in
    let base = g.T.ComposeTable.definitions c.in_ok-base.base in
    let e : c.into_definitions.result ≡ merged names fresh accepted old new =
    c.into_definitions.ensures.same ∙ c.in_ok-add_taken.ensures.added
    ∙ ap₂ (λ rows keys. rows ++ filter (λ (d : Definition). is_taken names (free_keys fresh keys base) base new d.sequence) new) c.in_ok-draft.ensures.kept (c.deref.ensures.value ∙ c.in_ok-given_up.ensures)
    ∙ onto_settled names fresh accepted old new base c.in_ok-base.ensures.built in
    ap (settled Refuse) (sym e) ∙ c.in_ok-rows.ensures.exact

pub returns-clause-runs : goal.returns-clause-runs
returns-clause-runs g c =
    let names = c.args.names.now in
    let fresh = c.args.fresh.now in
    let accepted = listed_keys c.args.accepted.now in
    let old = c.args.old.now in
    let new = c.args.new.now in
    let base = g.T.ComposeTable.definitions c.in_ok-base.base in
    let e : c.into_definitions.result ≡ merged names fresh accepted old new =
    c.into_definitions.ensures.same ∙ c.in_ok-add_taken.ensures.added
    ∙ ap₂ (λ rows keys. rows ++ filter (λ (d : Definition). is_taken names (free_keys fresh keys base) base new d.sequence) new) c.in_ok-draft.ensures.kept (c.deref.ensures.value ∙ c.in_ok-given_up.ensures)
    ∙ onto_settled names fresh accepted old new base c.in_ok-base.ensures.built in
    λ keys. c.in_ok-rows.ensures.runs names keys ∙ ap (λ (t : List Definition). run names t keys) e

pub returns-clause-follows : goal.returns-clause-follows
returns-clause-follows g c =
    let names = c.args.names.now in
    let fresh = c.args.fresh.now in
    let accepted = listed_keys c.args.accepted.now in
    let old = c.args.old.now in
    let new = c.args.new.now in
    let base = g.T.ComposeTable.definitions c.in_ok-base.base in
    let e : c.into_definitions.result ≡ merged names fresh accepted old new =
    c.into_definitions.ensures.same ∙ c.in_ok-add_taken.ensures.added
    ∙ ap₂ (λ rows keys. rows ++ filter (λ (d : Definition). is_taken names (free_keys fresh keys base) base new d.sequence) new) c.in_ok-draft.ensures.kept (c.deref.ensures.value ∙ c.in_ok-given_up.ensures)
    ∙ onto_settled names fresh accepted old new base c.in_ok-base.ensures.built in
    λ none. rows_follow names fresh accepted old new c.in_ok-rows.rows c.len.ensures.settled c.len-2.ensures.settled (ap listed_keys none) (ap (settled Refuse) (sym e) ∙ c.in_ok-rows.ensures.exact)

pub returns-in_err-add_taken-clause-large : goal.returns-in_err-add_taken-clause-large
returns-in_err-add_taken-clause-large g c =
    let names = c.args.names.now in
    let fresh = c.args.fresh.now in
    let accepted = listed_keys c.args.accepted.now in
    let old = c.args.old.now in
    let new = c.args.new.now in
    let base = g.T.ComposeTable.definitions c.in_ok-base.base in
    let e = ap₂ (λ rows keys. rows ++ filter (λ (d : Definition). is_taken names (free_keys fresh keys base) base new d.sequence) new) c.in_ok-draft.ensures.kept (c.deref.ensures.value ∙ c.in_ok-given_up.ensures)
    ∙ onto_settled names fresh accepted old new base c.in_ok-base.ensures.built in
    fault_gives (λ (f : MergeFault). f ≡ c.in_err-add_taken.field-0.0)
    (λ (f : MergeFault). f ≡ TooLarge → (max_definitions < length (merged names fresh accepted old new)) ⊎ (max_nodes < length (nodes (kept accepted old)))) c.from_residual-in_err-add_taken.result
    c.from_residual-in_err-add_taken.ensures.1 (λ f is large. inl (subst (λ (ds : List Definition). max_definitions < length ds) e (c.in_err-add_taken.ensures.full (sym is ∙ large))))

pub settle_apart-requires : goal.settle_apart-requires
settle_apart-requires g c =
    let names = c.args.names.now in
    let fresh = c.args.fresh.now in
    let accepted = listed_keys c.args.accepted.now in
    let old = c.args.old.now in
    let new = c.args.new.now in
    let base = g.T.ComposeTable.definitions c.in_ok-base.base in
    let e : c.into_definitions.result ≡ merged names fresh accepted old new =
    c.into_definitions.ensures.same ∙ c.in_ok-add_taken.ensures.added
    ∙ ap₂ (λ rows keys. rows ++ filter (λ (d : Definition). is_taken names (free_keys fresh keys base) base new d.sequence) new) c.in_ok-draft.ensures.kept (c.deref.ensures.value ∙ c.in_ok-given_up.ensures)
    ∙ onto_settled names fresh accepted old new base c.in_ok-base.ensures.built in
    ap is_prefix_free e ∙ merged_free names fresh accepted old new c.len.ensures.settled.prefix_free c.len-2.ensures.settled.prefix_free
