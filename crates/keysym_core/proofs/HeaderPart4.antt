-- The header of the built-in names, read part by part: written by `make names`.
use Rattle.std.proofs.Common.{refl}
use Rattle.std.specs.Str.{is_utf8, chars}
use Rattle.std.specs.Char.{encode_utf8}
use Rattle.keysym_core.specs.BuiltIn.{built_in_rows, built_in_characters}
use Rattle.keysym_core.proofs.HeaderParts.{Part, some_of}

pub part-31 : Part 74088 3218 1921 64 (some_of 1921 1478) (some_of 1985 1542)
unfolding built_in_rows built_in_characters is_utf8 chars encode_utf8
part-31 = record { ends = refl; count = refl; read = refl }

pub part-32 : Part 77306 3083 1985 64 (some_of 1985 1542) (some_of 2049 1606)
unfolding built_in_rows built_in_characters is_utf8 chars encode_utf8
part-32 = record { ends = refl; count = refl; read = refl }

pub part-33 : Part 80389 2615 2049 64 (some_of 2049 1606) (some_of 2113 1668)
unfolding built_in_rows built_in_characters is_utf8 chars encode_utf8
part-33 = record { ends = refl; count = refl; read = refl }

pub part-34 : Part 83004 2294 2113 64 (some_of 2113 1668) (some_of 2177 1668)
unfolding built_in_rows built_in_characters is_utf8 chars encode_utf8
part-34 = record { ends = refl; count = refl; read = refl }

pub part-35 : Part 85298 2148 2177 64 (some_of 2177 1668) (some_of 2241 1668)
unfolding built_in_rows built_in_characters is_utf8 chars encode_utf8
part-35 = record { ends = refl; count = refl; read = refl }

pub part-36 : Part 87446 2308 2241 64 (some_of 2241 1668) (some_of 2305 1668)
unfolding built_in_rows built_in_characters is_utf8 chars encode_utf8
part-36 = record { ends = refl; count = refl; read = refl }

pub part-37 : Part 89754 2394 2305 64 (some_of 2305 1668) (some_of 2369 1668)
unfolding built_in_rows built_in_characters is_utf8 chars encode_utf8
part-37 = record { ends = refl; count = refl; read = refl }

pub part-38 : Part 92148 2377 2369 64 (some_of 2369 1668) (some_of 2433 1668)
unfolding built_in_rows built_in_characters is_utf8 chars encode_utf8
part-38 = record { ends = refl; count = refl; read = refl }

pub part-39 : Part 94525 747 2433 20 (some_of 2433 1668) (some_of 2453 1670)
unfolding built_in_rows built_in_characters is_utf8 chars encode_utf8
part-39 = record { ends = refl; count = refl; read = refl }
