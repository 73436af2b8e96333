-- The header of the built-in names gives the names and characters of the tables: written by `make
-- names`.
use Rattle.std.proofs.Common.{◌≡◌, ◌∙◌}
use Rattle.std.specs.Prelude.{Ok}
use Rattle.keysym_core.specs.Header.{names_of}
use Rattle.keysym_core.specs.BuiltIn.{built_in, built_in_rows, built_in_characters}
use Rattle.keysym_core.proofs.HeaderParts.{after_part}
use Rattle.keysym_core.proofs.HeaderPart1.{part-1, part-2, part-3, part-4, part-5, part-6, part-7, part-8, part-9, part-10}
use Rattle.keysym_core.proofs.HeaderPart2.{part-11, part-12, part-13, part-14, part-15, part-16, part-17, part-18, part-19, part-20}
use Rattle.keysym_core.proofs.HeaderPart3.{part-21, part-22, part-23, part-24, part-25, part-26, part-27, part-28, part-29, part-30}
use Rattle.keysym_core.proofs.HeaderPart4.{part-31, part-32, part-33, part-34, part-35, part-36, part-37, part-38, part-39}
use Rattle.builtin_names.specs.declared.lines.TheConstants.{LINES}

-- reading the header gives the names and characters of the tables
pub header_is_read : names_of LINES.now ≡ Ok built_in
unfolding built_in_rows built_in_characters
header_is_read =
    after_part part-1
    ∙ after_part part-2
    ∙ after_part part-3
    ∙ after_part part-4
    ∙ after_part part-5
    ∙ after_part part-6
    ∙ after_part part-7
    ∙ after_part part-8
    ∙ after_part part-9
    ∙ after_part part-10
    ∙ after_part part-11
    ∙ after_part part-12
    ∙ after_part part-13
    ∙ after_part part-14
    ∙ after_part part-15
    ∙ after_part part-16
    ∙ after_part part-17
    ∙ after_part part-18
    ∙ after_part part-19
    ∙ after_part part-20
    ∙ after_part part-21
    ∙ after_part part-22
    ∙ after_part part-23
    ∙ after_part part-24
    ∙ after_part part-25
    ∙ after_part part-26
    ∙ after_part part-27
    ∙ after_part part-28
    ∙ after_part part-29
    ∙ after_part part-30
    ∙ after_part part-31
    ∙ after_part part-32
    ∙ after_part part-33
    ∙ after_part part-34
    ∙ after_part part-35
    ∙ after_part part-36
    ∙ after_part part-37
    ∙ after_part part-38
    ∙ after_part part-39
