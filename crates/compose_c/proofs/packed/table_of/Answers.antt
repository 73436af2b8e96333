use Rattle.std.proofs.Common.{◌≡◌, ◌∙◌, List, length, ap, subst, arith}
use Rattle.std.specs.Prelude.{Ok, Err}
use Rattle.compose_model.specs.Nodes.{nodes}
use Rattle.compose_model.specs.Table.{Definition}
use Rattle.compose_read.specs.Settle.{IsSettled, Overlap, settled}
use Rattle.compose_model.specs.declared.Rule.TheVariants.{Refuse}
use Rattle.keysym_core.specs.declared.KeyList.{KeyList}
use Rattle.compose_read.specs.ReadReturns.{SettleReturns}
use Rattle.compose_read.specs.declared.settling.SettleFault.{SettleFault}
use Rattle.compose_read.specs.declared.settling.SettleFault.TheVariants as faults
use Rattle.compose_c.proofs.SettledAgain.{settled_again}
use Rattle.compose_c.proofs.packed.table_of.Goals as goal

same : (table rows : List Definition) → IsSettled table → settled Refuse table ≡ Ok rows → rows ≡ table
same table rows s e = let f = settled_again table s in cc

no_overlap : (table : List Definition) (o : Overlap) → IsSettled table → settled Refuse table ≡ Err o → ⊥
no_overlap table o s e = let f = settled_again table s in cc

refused : (table : List Definition) (fault : SettleFault) (short long : KeyList) → IsSettled table → fault ≡ faults.Overlap short long
    → SettleReturns {X = List Definition} (λ rows. rows) (Err fault) (settled Refuse table) → ⊥
refused table fault short long s is e = no_overlap table _ s (subst (λ f. SettleReturns {X = List Definition} (λ rows. rows) (Err f) (settled Refuse table)) is e)

pub returns-in-Err-Overlap : goal.returns-in-Err-Overlap
returns-in-Err-Overlap c is few = absurd (refused c.args.definitions c.in-Err-Overlap.field-0 c.in-Err-Overlap.field-0-0 c.in-Err-Overlap.field-0-1 is c.in-Err-Overlap.field-0-is c.in-Err-Overlap.ensures.exact)

pub returns-in-Ok-build : goal.returns-in-Ok-build
returns-in-Ok-build c is few = c.in-Ok-build.ensures.ok ∙ same c.args.definitions c.in-Ok.sequences is c.in-Ok.ensures.exact

pub returns-in-Err-TooManyNodes : goal.returns-in-Err-TooManyNodes
returns-in-Err-TooManyNodes c is few =
    let many = c.in-Err-TooManyNodes.ensures.many c.in-Err-TooManyNodes.field-0-is in
    let e = ap (λ (t : List Definition). length (nodes t)) (same c.args.definitions c.in-Ok.sequences is c.in-Ok.ensures.exact) in omega (arith, many, e, few)
