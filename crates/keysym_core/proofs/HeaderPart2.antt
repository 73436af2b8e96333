-- The header of the built-in names, read part by part: written by `make names`.
use Rattle.std.proofs.Common.{refl}
use Rattle.std.specs.Str.{is_utf8, chars}
use Rattle.std.specs.Char.{encode_utf8}
use Rattle.keysym_core.specs.BuiltIn.{built_in_rows, built_in_characters}
use Rattle.keysym_core.proofs.HeaderParts.{Part, some_of}

pub part-11 : Part 20049 2482 641 64 (some_of 641 281) (some_of 705 344)
unfolding built_in_rows built_in_characters is_utf8 chars encode_utf8
part-11 = record { ends = refl; count = refl; read = refl }

pub part-12 : Part 22531 2289 705 64 (some_of 705 344) (some_of 769 403)
unfolding built_in_rows built_in_characters is_utf8 chars encode_utf8
part-12 = record { ends = refl; count = refl; read = refl }

pub part-13 : Part 24820 2660 769 64 (some_of 769 403) (some_of 833 466)
unfolding built_in_rows built_in_characters is_utf8 chars encode_utf8
part-13 = record { ends = refl; count = refl; read = refl }

pub part-14 : Part 27480 2980 833 64 (some_of 833 466) (some_of 897 524)
unfolding built_in_rows built_in_characters is_utf8 chars encode_utf8
part-14 = record { ends = refl; count = refl; read = refl }

pub part-15 : Part 30460 2526 897 64 (some_of 897 524) (some_of 961 578)
unfolding built_in_rows built_in_characters is_utf8 chars encode_utf8
part-15 = record { ends = refl; count = refl; read = refl }

pub part-16 : Part 32986 2747 961 64 (some_of 961 578) (some_of 1025 641)
unfolding built_in_rows built_in_characters is_utf8 chars encode_utf8
part-16 = record { ends = refl; count = refl; read = refl }

pub part-17 : Part 35733 2554 1025 64 (some_of 1025 641) (some_of 1089 698)
unfolding built_in_rows built_in_characters is_utf8 chars encode_utf8
part-17 = record { ends = refl; count = refl; read = refl }

pub part-18 : Part 38287 2403 1089 64 (some_of 1089 698) (some_of 1153 758)
unfolding built_in_rows built_in_characters is_utf8 chars encode_utf8
part-18 = record { ends = refl; count = refl; read = refl }

pub part-19 : Part 40690 2607 1153 64 (some_of 1153 758) (some_of 1217 819)
unfolding built_in_rows built_in_characters is_utf8 chars encode_utf8
part-19 = record { ends = refl; count = refl; read = refl }

pub part-20 : Part 43297 2422 1217 64 (some_of 1217 819) (some_of 1281 872)
unfolding built_in_rows built_in_characters is_utf8 chars encode_utf8
part-20 = record { ends = refl; count = refl; read = refl }
