-- The header of the built-in names, read part by part: written by `make names`.
use Rattle.std.proofs.Common.{refl}
use Rattle.std.specs.Str.{is_utf8, chars}
use Rattle.std.specs.Char.{encode_utf8}
use Rattle.keysym_core.specs.BuiltIn.{built_in_rows, built_in_characters}
use Rattle.keysym_core.proofs.HeaderParts.{Part, some_of}

pub part-1 : Part 0 1701 1 64 (some_of 243 0) (some_of 299 0)
unfolding built_in_rows built_in_characters is_utf8 chars encode_utf8
part-1 = record { ends = refl; count = refl; read = refl }

pub part-2 : Part 1701 1518 65 64 (some_of 299 0) (some_of 353 0)
unfolding built_in_rows built_in_characters is_utf8 chars encode_utf8
part-2 = record { ends = refl; count = refl; read = refl }

pub part-3 : Part 3219 1706 129 64 (some_of 353 0) (some_of 403 0)
unfolding built_in_rows built_in_characters is_utf8 chars encode_utf8
part-3 = record { ends = refl; count = refl; read = refl }

pub part-4 : Part 4925 2203 193 64 (some_of 403 0) (some_of 454 0)
unfolding built_in_rows built_in_characters is_utf8 chars encode_utf8
part-4 = record { ends = refl; count = refl; read = refl }

pub part-5 : Part 7128 2096 257 64 (some_of 454 0) (some_of 518 0)
unfolding built_in_rows built_in_characters is_utf8 chars encode_utf8
part-5 = record { ends = refl; count = refl; read = refl }

pub part-6 : Part 9224 2028 321 64 (some_of 518 0) (some_of 547 34)
unfolding built_in_rows built_in_characters is_utf8 chars encode_utf8
part-6 = record { ends = refl; count = refl; read = refl }

pub part-7 : Part 11252 1953 385 64 (some_of 547 34) (some_of 547 97)
unfolding built_in_rows built_in_characters is_utf8 chars encode_utf8
part-7 = record { ends = refl; count = refl; read = refl }

pub part-8 : Part 13205 2264 449 64 (some_of 547 97) (some_of 550 156)
unfolding built_in_rows built_in_characters is_utf8 chars encode_utf8
part-8 = record { ends = refl; count = refl; read = refl }

pub part-9 : Part 15469 2242 513 64 (some_of 550 156) (some_of 577 218)
unfolding built_in_rows built_in_characters is_utf8 chars encode_utf8
part-9 = record { ends = refl; count = refl; read = refl }

pub part-10 : Part 17711 2338 577 64 (some_of 577 218) (some_of 641 281)
unfolding built_in_rows built_in_characters is_utf8 chars encode_utf8
part-10 = record { ends = refl; count = refl; read = refl }
