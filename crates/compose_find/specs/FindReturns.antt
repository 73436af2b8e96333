-- What the calls return, unless memory runs out.
use Rattle.std.specs.Prelude.{◌≡◌, ◌<◌, ℕ, List, ◌++◌, length, Result, Ok, Err, option_copied, string_bytes}
use Rattle.std.proofs.Common.{Bor}
use Rattle.compose_find.specs.Expand.{Words, path_of}
use Rattle.compose_find.specs.Found.{Stop, wanted, missing_root, missing_file, refused}
use Rattle.compose_find.specs.declared.found_source.FindFault.{FindFault}
use Rattle.compose_find.specs.declared.found_source.FindFault.TheVariants.{Wanted, MissingRoot, MissingFile, Include, NoMemory as FindNoMemory}
use Rattle.compose_find.specs.declared.percent.Meanings.{Meanings}
use Rattle.compose_find.specs.declared.fault.IncludeFault.{IncludeFault}
use Rattle.compose_find.specs.declared.fault.IncludeFault.TheVariants.{NoMemory}

abbrev pub words : Meanings → Words
words m = record { system = m.system.now; locale = option_copied m.locale; home = option_copied m.home; root = option_copied m.root }

-- the specified value, or the specified fault
abbrev pub Returns : {X Y : Type 0} → (X → Y) → Result X IncludeFault → Result Y IncludeFault → Type 0
Returns view (Ok x) expected = expected ≡ Ok (view x)
Returns view (Err NoMemory) expected = Unit {0}
Returns view (Err e) expected = expected ≡ Err e

-- a path with bytes before it
abbrev pub onto : List ℕ → Result (List ℕ) IncludeFault → Result (List ℕ) IncludeFault
onto prefix (Ok path) = Ok (prefix ++ path)
onto prefix (Err e) = Err e

-- the text expands to the piece, followed by what the rest expands to, and the rest is shorter; or
-- it has this fault
abbrev pub IsPiece : Words → List ℕ → Result (Bor (List ℕ) × Bor (List ℕ)) IncludeFault → Type 0
IsPiece words text (Ok x) = (path_of words text ≡ onto x.0.now (path_of words x.1.now)) × (length x.1.now < length text)
IsPiece words text (Err NoMemory) = Unit {0}
IsPiece words text (Err e) = path_of words text ≡ Err e

-- the fault is the reason why the search ends, unless memory ran out
abbrev pub IsStop : Stop → FindFault → Type 0
IsStop stop FindNoMemory = Unit {0}
IsStop stop (Wanted path) = stop ≡ wanted (string_bytes path)
IsStop stop (MissingRoot path) = stop ≡ missing_root (string_bytes path)
IsStop stop (MissingFile from line path) = stop ≡ missing_file (string_bytes from) line (string_bytes path)
IsStop stop (Include from line fault) = stop ≡ refused (string_bytes from) line fault

-- the specified value, or the reason why there is none
abbrev pub FindReturns : {X Y : Type 0} → (X → Y) → Result X FindFault → Result Y Stop → Type 0
FindReturns view (Ok x) expected = expected ≡ Ok (view x)
FindReturns view (Err FindNoMemory) expected = Unit {0}
FindReturns view (Err (Wanted path)) expected = expected ≡ Err (wanted (string_bytes path))
FindReturns view (Err (MissingRoot path)) expected = expected ≡ Err (missing_root (string_bytes path))
FindReturns view (Err (MissingFile from line path)) expected = expected ≡ Err (missing_file (string_bytes from) line (string_bytes path))
FindReturns view (Err (Include from line fault)) expected = expected ≡ Err (refused (string_bytes from) line fault)
