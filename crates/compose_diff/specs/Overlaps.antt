-- The line that counts overlaps: sequences that are a prefix of another one, of which the longer
-- one counts (this project's profile).
use Rattle.std.specs.Prelude.{ℕ, ◌==◌, ◌&&◌, if◌then◌else◌, List, [], ◌++◌, codes}
use Rattle.std.specs.Fmt.{decimal}
use Rattle.compose_diff.specs.declared.overlaps.Overlaps.{Overlaps}

-- none if there are no overlaps
abbrev pub overlaps_line : Overlaps → List ℕ
overlaps_line overlaps =
    if overlaps.old == 0 && overlaps.new == 0 then [] else
    codes "overlaps: " ++ (decimal overlaps.old ++ (codes " in the old table, " ++ (decimal overlaps.new ++ codes " in the new one; the longer sequences count\n")))
