use Rattle.std.proofs.Common.{◌≡◌, List, ℕ, true, false, sym, ◌∙◌, subst}
use Rattle.std.specs.Prelude.{Err}
use Rattle.keysym_core.specs.declared.KeyList.{KeyList}
use Rattle.compose_model.specs.Table.{Definition, is_prefix_free}
use Rattle.compose_model.specs.declared.Rule.TheVariants.{Refuse}
use Rattle.compose_model.proofs.Lift.{not_extended}
use Rattle.compose_model.proofs.SameTable.{extended_from}
use Rattle.compose_read.specs.ReadReturns.{SettleReturns}
use Rattle.compose_read.specs.Settle.{Overlap, settled}
use Rattle.compose_read.specs.declared.settling.SettleFault.{SettleFault}
use Rattle.compose_read.specs.declared.settling.SettleFault.TheVariants as faults
use Rattle.compose_read.proofs.Overlaps.{refused_least}
use Rattle.compose_merge.proofs.merging.settle_apart.Goals as goal

-- where no sequence is a prefix of another one, none is reported as one
never : (table : List Definition) (o : Overlap) → is_prefix_free table ≡ true → settled Refuse table ≡ Err o → ⊥
never table o free h =
    let least = refused_least table o h in
    let clash : true ≡ false = sym (extended_from table o.short o.long least.is_prefix least.long) ∙ not_extended table o.short free least.short in
    cc

never_refused : (table : List Definition) (f : SettleFault) (short long : KeyList) → is_prefix_free table ≡ true → f ≡ faults.Overlap short long
    → SettleReturns (λ (rows : List Definition). rows) (Err f) (settled Refuse table) → ⊥
never_refused table f short long free is h =
    never table (record { short = short.0.items; long = long.0.items }) free (subst (λ (e : SettleFault). SettleReturns (λ (rows : List Definition). rows) (Err e) (settled Refuse table)) is h)

pub unreachable-requires : goal.unreachable-requires
unreachable-requires c = never_refused c.args.definitions c.in-Err-Overlap.field-0 c.in-Err-Overlap.field-0-0 c.in-Err-Overlap.field-0-1 c.requires c.in-Err-Overlap.field-0-is c.in-Err-Overlap.ensures.exact
