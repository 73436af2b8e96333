use Rattle.std.proofs.Common.{◌∙◌, ◌++◌, ap, string_bytes}
use Rattle.std.specs.Prelude.{encode_utf8}
use Rattle.std.proofs.lemmas.Str.{IsUtf8-encode}
use Rattle.compose_read.specs.Rows.{DraftRows, with_row}
use Rattle.compose_read.proofs.Pools.{with_text, draft_text}
use Rattle.compose_read.proofs.draft.Draft.push_character.Goals as goal

pub invariant_of-self-2 : goal.invariant_of-self-2
invariant_of-self-2 c =
    with_text c.self.inside.keysyms.items (string_bytes c.self.inside.texts) c.self.inside.spans.items c.self.inside.first_keysym c.self.inside.first_byte c.self.invariant
    (string_bytes c.push.new.self) (encode_utf8 c.args.character) c.in_ok-push.ensures.bytes (IsUtf8-encode c.args.character c.ranges.character.0)

pub returns-clause-pushed : goal.returns-clause-pushed
returns-clause-pushed c =
    draft_text c.self.inside.keysyms.items (string_bytes c.self.inside.texts) c.self.inside.spans.items c.self.inside.first_keysym c.self.inside.first_byte c.self.invariant
    (string_bytes c.push.new.self) (encode_utf8 c.args.character) c.in_ok-push.ensures.bytes (IsUtf8-encode c.args.character c.ranges.character.0)
    ∙ ap (λ (d : DraftRows). with_row d (record { sequence = d.row.sequence; text = d.row.text ++ encode_utf8 c.args.character })) c.self.view_is
