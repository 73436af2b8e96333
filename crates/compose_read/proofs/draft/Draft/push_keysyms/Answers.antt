use Rattle.std.proofs.Common.{◌∙◌, ◌++◌, ap, string_bytes}
use Rattle.compose_read.specs.Rows.{DraftRows, with_row}
use Rattle.compose_read.proofs.Pools.{with_keysyms, draft_keysyms}
use Rattle.compose_read.proofs.draft.Draft.push_keysyms.Goals as goal

pub invariant_of-self-2 : goal.invariant_of-self-2
invariant_of-self-2 c =
    with_keysyms c.self.inside.keysyms.items (string_bytes c.self.inside.texts) c.self.inside.spans.items c.self.inside.first_keysym c.self.inside.first_byte c.self.invariant
    c.extend_from_slice.new.self.items c.args.keysyms.now c.in_ok-extend_from_slice.ensures.items

pub returns-clause-pushed : goal.returns-clause-pushed
returns-clause-pushed c =
    draft_keysyms c.self.inside.keysyms.items (string_bytes c.self.inside.texts) c.self.inside.spans.items c.self.inside.first_keysym c.self.inside.first_byte c.self.invariant
    c.extend_from_slice.new.self.items c.args.keysyms.now c.in_ok-extend_from_slice.ensures.items
    ∙ ap (λ (d : DraftRows). with_row d (record { sequence = d.row.sequence ++ c.args.keysyms.now; text = d.row.text })) c.self.view_is
