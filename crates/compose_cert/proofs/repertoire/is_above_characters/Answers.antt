use Rattle.std.proofs.Common.{◌∙◌, ap, sym, length, arith}
use Rattle.std.specs.Prelude.{nat_lt}
use Rattle.std.proofs.lemmas.List.{get_or_read}
use Rattle.compose_cert.proofs.Numerals.{positive}
use Rattle.compose_cert.proofs.Rising.{above_characters}
use Rattle.compose_cert.proofs.repertoire.is_above_characters.Goals as goal

pub returns : goal.returns
returns c =
    let some = positive (length c.args.characters.now) (sym c.if-is_empty.ensures) in
    ap (λ d. nat_lt d c.args.character) (get_or_read c.args.characters.now _ _ (omega arith) c.index-characters-characters.is 0)
    ∙ above_characters c.args.characters.now c.args.character c.requires some
