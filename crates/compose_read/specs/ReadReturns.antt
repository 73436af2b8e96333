-- The results of functions, unless memory runs out.
use Rattle.std.specs.Prelude.{◌≡◌, Result, Ok, Err}
use Rattle.compose_read.specs.Settle.{Overlap}
use Rattle.compose_read.specs.declared.ReadFault.{ReadFault}
use Rattle.compose_read.specs.declared.ReadFault.TheVariants as read_faults
use Rattle.compose_read.specs.declared.settling.SettleFault.{SettleFault}
use Rattle.compose_read.specs.declared.settling.SettleFault.TheVariants as faults

-- the value of the definition, or its overlap
abbrev pub SettleReturns : {X Y : Type 0} → (X → Y) → Result X SettleFault → Result Y Overlap → Type 0
SettleReturns view (Ok x) reading_result = reading_result ≡ Ok (view x)
SettleReturns view (Err (faults.Overlap short long)) reading_result = reading_result ≡ Err (record { short = short.0.items; long = long.0.items })
SettleReturns view (Err faults.NoMemory) reading_result = Unit {0}

-- the value of the definition, or its fault
abbrev pub ReadReturns : {X Y : Type 0} → (X → Y) → Result X ReadFault → Result Y ReadFault → Type 0
ReadReturns view (Ok x) reading_result = reading_result ≡ Ok (view x)
ReadReturns view (Err read_faults.NoMemory) reading_result = Unit {0}
ReadReturns view (Err e) reading_result = reading_result ≡ Err e
