-- If a walk or a maker has an answer, the fresh keysyms have no fault.
use Rattle.std.proofs.Common.{◌≡◌, ◌<◌, ◌≤◌, ℕ, List, cond, length, ◌∙◌, ap}
use Rattle.std.specs.Prelude.{Some, None, Result, Ok, Err, nat_lt}
use Rattle.std.specs.Option.{option_map_or}
use Rattle.std.proofs.lemmas.Bool.{le-ltb}
use Rattle.compose_model.specs.Table.{Definition}
use Rattle.compose_fresh.specs.Fresh.{fresh_conditions}
use Rattle.compose_fresh.specs.Conditions.{first_unmet}
use Rattle.compose_fresh.specs.declared.fault.CheckFault.{CheckFault}
use Rattle.compose_walk.specs.declared.fault.MakeFault.{MakeFault}
use Rattle.compose_walk.specs.declared.fault.MakeFault.TheVariants.{BadFresh, TooManyFresh}
use Rattle.compose_make.proofs.Certified as certified
use Rattle.compose_migration.specs.Migration.{no_fresh, too_many_fresh}
use Rattle.compose_answer.specs.Parts.{accepted}

-- if a walk or a maker has an answer, they have no fault
pub taken : {W P : Type 0} (IsAnswer : W → Type 0) (old : List Definition) (fresh : List ℕ) (parts : P) (r : Result W MakeFault) (w : W) → r ≡ Ok w
    → ((fault : CheckFault) → first_unmet (fresh_conditions old fresh) ≡ Some fault → r ≡ Err (BadFresh fault))
    → (first_unmet (fresh_conditions old fresh) ≡ None → 1048576 < length fresh → r ≡ Err TooManyFresh)
    → (first_unmet (fresh_conditions old fresh) ≡ None → length fresh ≤ 1048576 → IsAnswer w)
    → (accepted fresh old parts ≡ Ok parts) × IsAnswer w
taken IsAnswer old fresh parts r w was bad many answer =
    let ok = certified.accepted old fresh r w was bad many in (
      ap (λ o. option_map_or (λ why. Err why) (option_map_or (λ f. Some (no_fresh f)) o (cond (nat_lt 1048576 (length fresh)) (Some too_many_fresh) None)) (Ok parts)) ok.0
          ∙ ap (λ b. option_map_or (λ why. Err why) (cond b (Some too_many_fresh) None) (Ok parts)) (le-ltb 1048576 (length fresh) ok.1),
      answer ok.0 ok.1,
    )
