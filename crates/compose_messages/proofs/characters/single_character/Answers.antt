use Rattle.std.proofs.Common.{◌≡◌, ◌++◌, [], length, sym, ◌∙◌, ap, append-nil, encode_utf8}
use Rattle.std.proofs.lemmas.Str.{encode_same}
use Rattle.std.proofs.lemmas.List.{nil_from_length}
use Rattle.std.specs.Str.Iter.{chars_rest}
use Rattle.compose_messages.proofs.OneCharacter.{never_silent, never_prefix}
use Rattle.compose_messages.proofs.characters.single_character.Goals as goal

pub returns-in_default : goal.returns-in_default
returns-in_default c d e =
    never_silent d (sym (nil_from_length c.args.text.now (ap length (sym c.chars-characters.ensures.rest) ∙ c.in_default.ensures.steps.0.0)) ∙ e)

pub returns-in-Some-next : goal.returns-in-Some-next
returns-in-Some-next c d e =
    let first = c.in-Some.first in
    let rest = chars_rest c.next.new.self in
    let whole : encode_utf8 d ++ [] ≡ encode_utf8 first ++ rest = append-nil (encode_utf8 d) ∙ sym e ∙ sym c.chars-characters.ensures.rest ∙ c.in-Some.ensures.steps.0 in
    let none : rest ≡ [] = sym (encode_same d first [] rest whole).1 in
    let more : rest ≡ encode_utf8 c.in-Some-next.field-0 ++ chars_rest c.next-2.new.self = c.in-Some-next.ensures.steps.0 in
    never_prefix (encode_utf8 c.in-Some-next.field-0) (chars_rest c.next-2.new.self) (never_silent c.in-Some-next.field-0) (sym none ∙ more)
