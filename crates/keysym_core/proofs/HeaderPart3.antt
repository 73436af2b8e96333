-- The header of the built-in names, read part by part: written by `make names`.
use Rattle.std.proofs.Common.{refl}
use Rattle.std.specs.Str.{is_utf8, chars}
use Rattle.std.specs.Char.{encode_utf8}
use Rattle.keysym_core.specs.BuiltIn.{built_in_rows, built_in_characters}
use Rattle.keysym_core.proofs.HeaderParts.{Part, some_of}

pub part-21 : Part 45719 2575 1281 64 (some_of 1281 872) (some_of 1345 934)
unfolding built_in_rows built_in_characters is_utf8 chars encode_utf8
part-21 = record { ends = refl; count = refl; read = refl }

pub part-22 : Part 48294 2594 1345 64 (some_of 1345 934) (some_of 1409 982)
unfolding built_in_rows built_in_characters is_utf8 chars encode_utf8
part-22 = record { ends = refl; count = refl; read = refl }

pub part-23 : Part 50888 2762 1409 64 (some_of 1409 982) (some_of 1473 1046)
unfolding built_in_rows built_in_characters is_utf8 chars encode_utf8
part-23 = record { ends = refl; count = refl; read = refl }

pub part-24 : Part 53650 2869 1473 64 (some_of 1473 1046) (some_of 1537 1104)
unfolding built_in_rows built_in_characters is_utf8 chars encode_utf8
part-24 = record { ends = refl; count = refl; read = refl }

pub part-25 : Part 56519 2877 1537 64 (some_of 1537 1104) (some_of 1601 1168)
unfolding built_in_rows built_in_characters is_utf8 chars encode_utf8
part-25 = record { ends = refl; count = refl; read = refl }

pub part-26 : Part 59396 2794 1601 64 (some_of 1601 1168) (some_of 1665 1232)
unfolding built_in_rows built_in_characters is_utf8 chars encode_utf8
part-26 = record { ends = refl; count = refl; read = refl }

pub part-27 : Part 62190 2777 1665 64 (some_of 1665 1232) (some_of 1729 1296)
unfolding built_in_rows built_in_characters is_utf8 chars encode_utf8
part-27 = record { ends = refl; count = refl; read = refl }

pub part-28 : Part 64967 2767 1729 64 (some_of 1729 1296) (some_of 1793 1350)
unfolding built_in_rows built_in_characters is_utf8 chars encode_utf8
part-28 = record { ends = refl; count = refl; read = refl }

pub part-29 : Part 67734 3154 1793 64 (some_of 1793 1350) (some_of 1857 1414)
unfolding built_in_rows built_in_characters is_utf8 chars encode_utf8
part-29 = record { ends = refl; count = refl; read = refl }

pub part-30 : Part 70888 3200 1857 64 (some_of 1857 1414) (some_of 1921 1478)
unfolding built_in_rows built_in_characters is_utf8 chars encode_utf8
part-30 = record { ends = refl; count = refl; read = refl }
