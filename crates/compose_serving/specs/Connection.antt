-- The lines that are printed for connections (this project's profile).
use Rattle.std.specs.Prelude.{ℕ, ◌+◌, ◌-◌, ◌^◌, ◌==◌, min, Bool, false, if◌then◌else◌, List, [], ◌∷◌, ◌++◌, Result, Ok, Err, codes}
use Rattle.std.specs.Fmt.{digits}
use Rattle.compose_serve.specs.declared.ends.StreamEnd.TheVariants.{InputEnd, Malformed}
use Rattle.compose_serve.specs.declared.ends.ServeFault.TheVariants.{Read, Write, Cut, TooManyFrames, NoMemory}
use Rattle.compose_hub.specs.declared.ends.ConnectionEnd.{ConnectionEnd}
use Rattle.compose_hub.specs.declared.ends.ConnectionEnd.TheVariants.{Served, Stalled, Idle}

-- how a connection ended; a fault has its number
abbrev pub end_words : ConnectionEnd → List ℕ
end_words (Served (Ok InputEnd)) = codes "ended"
end_words (Served (Ok Malformed)) = codes "malformed"
end_words (Served (Err Read)) = codes "fault 1 Read"
end_words (Served (Err Write)) = codes "fault 2 Write"
end_words (Served (Err Cut)) = codes "fault 3 Cut"
end_words (Served (Err TooManyFrames)) = codes "fault 4 TooManyFrames"
end_words (Served (Err NoMemory)) = codes "fault 5 NoMemory"
end_words Stalled = codes "fault 3 Cut"
end_words Idle = codes "idle"

abbrev pub connection_line : ℕ → ConnectionEnd → List ℕ
connection_line number how = codes "connection " ++ (digits 10 false number ++ (codes ": " ++ (end_words how ++ (10 ∷ []))))

-- the number of ends that could not be printed
abbrev pub unprinted_line : ℕ → List ℕ
unprinted_line unprinted = codes "ends not printed: " ++ (digits 10 false unprinted ++ (10 ∷ []))

-- the same, if there are any
abbrev pub unprinted_text : ℕ → List ℕ
unprinted_text unprinted = if unprinted == 0 then [] else unprinted_line unprinted

-- 0 after an end that is printed, since the number of unprinted ends is printed before it;
-- otherwise one more, up to 64 bits
abbrev pub unprinted_after : ℕ → Bool → ℕ
unprinted_after unprinted is_printed = if is_printed then 0 else min (unprinted + 1) (2 ^ 64 - 1)
