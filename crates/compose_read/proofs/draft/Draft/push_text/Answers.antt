use Rattle.std.proofs.Common.{◌∙◌, ◌++◌, ap, string_bytes}
use Rattle.compose_read.specs.Rows.{DraftRows, with_row}
use Rattle.compose_read.proofs.Pools.{with_text, draft_text}
use Rattle.compose_read.proofs.draft.Draft.push_text.Goals as goal

pub invariant_of-self-2 : goal.invariant_of-self-2
invariant_of-self-2 c =
    with_text c.self.inside.keysyms.items (string_bytes c.self.inside.texts) c.self.inside.spans.items c.self.inside.first_keysym c.self.inside.first_byte c.self.invariant
    (string_bytes c.push_str.new.self) c.args.text.now c.in_ok-push_str.ensures.bytes c.utf8.text

pub returns-clause-pushed : goal.returns-clause-pushed
returns-clause-pushed c =
    draft_text c.self.inside.keysyms.items (string_bytes c.self.inside.texts) c.self.inside.spans.items c.self.inside.first_keysym c.self.inside.first_byte c.self.invariant
    (string_bytes c.push_str.new.self) c.args.text.now c.in_ok-push_str.ensures.bytes c.utf8.text
    ∙ ap (λ (d : DraftRows). with_row d (record { sequence = d.row.sequence; text = d.row.text ++ c.args.text.now })) c.self.view_is
