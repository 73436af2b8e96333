-- Why a reader refuses the whole table: the first thing from the root on for which it does.
use Rattle.std.specs.Prelude.{ℕ, zero, suc, ◌+◌, Bool, true, false, nat_lt, if◌then◌else◌, List, [], ◌∷◌, Option, Some, None, slice_get}
use Rattle.std.specs.Option.{option_map_or, option_or, option_and_then}
use Rattle.compose_readers.specs.Files.{LineEnd, nothing, left_out, includes, LineRead, FileRead}
use Rattle.compose_readers.specs.Walks.{lines_at, index_of}
use Rattle.compose_readers.specs.declared.cause.Cause.{Cause}
use Rattle.compose_readers.specs.declared.cause.Cause.TheVariants.{TooManyKeys, NoKey, TwoStrings, LongText, NoResult}
use Rattle.compose_readers.specs.declared.walking.Refusal.{Refusal}
use Rattle.compose_readers.specs.declared.walking.Refusal.TheVariants.{Unread, Depth, Faults}

-- ---- faulty lines

-- other lines that are left out are no faults
abbrev pub is_fault : Cause → Bool
is_fault TooManyKeys = false
is_fault NoKey = false
is_fault TwoStrings = false
is_fault LongText = false
is_fault NoResult = false
is_fault cause = true

abbrev pub faults_at : LineEnd → ℕ
faults_at nothing = 0
faults_at (left_out cause) = if is_fault cause then 1 else 0
faults_at (includes path) = 0

-- ---- files

-- of these lines of a file in which so many were faulty, of at most `most`; `inside` is that of a
-- file that one of them includes
abbrev pub refusal_of : ℕ → (LineEnd → Option Refusal) → ℕ → List LineRead → Option Refusal
refusal_of most inside faults [] = None
refusal_of most inside faults (r ∷ rs) =
    if nat_lt most (faults + faults_at r.end) then Some Faults else option_or (inside r.end) (refusal_of most inside (faults + faults_at r.end) rs)

-- of a file: its own, or that of its lines
abbrev pub refusal_at : List FileRead → ℕ → Option Refusal
refusal_at files index = option_and_then (λ f. f.refusal) (slice_get files index)

abbrev pub refusal_file : List FileRead → ℕ → (LineEnd → Option Refusal) → ℕ → Option Refusal
refusal_file files most inside index = option_or (refusal_at files index) (refusal_of most inside 0 (lines_at files index))

-- ---- includes

-- of an include, where no further one may lead on
abbrev pub refusal_deep : LineEnd → Option Refusal
refusal_deep nothing = None
refusal_deep (left_out cause) = None
refusal_deep (includes path) = Some Depth

abbrev pub refusal_included : List FileRead → ℕ → (LineEnd → Option Refusal) → LineEnd → Option Refusal
refusal_included files most inside nothing = None
refusal_included files most inside (left_out cause) = None
refusal_included files most inside (includes path) = option_map_or (refusal_file files most inside) (index_of files path) (Some Unread)

-- of a file that the end of a line includes, if `left` includes may lead on from there
abbrev pub refusal_below : List FileRead → ℕ → ℕ → LineEnd → Option Refusal
refusal_below files most zero end = refusal_deep end
refusal_below files most (suc left) end = refusal_included files most (refusal_below files most left) end

-- of a table from a file on
abbrev pub refusal_from : List FileRead → ℕ → ℕ → ℕ → Option Refusal
refusal_from files most depth index = refusal_file files most (refusal_below files most depth) index
