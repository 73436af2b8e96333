use Rattle.std.proofs.Common.{◌∙◌, ap, string_bytes}
use Rattle.compose_read.specs.Rows.{DraftRows, no_row, with_row}
use Rattle.compose_read.proofs.Pools.{begun, draft_begun}
use Rattle.compose_read.proofs.draft.Draft.begin.Goals as goal

pub invariant_of-self : goal.invariant_of-self
invariant_of-self c =
    begun c.self.inside.keysyms.items (string_bytes c.self.inside.texts) c.self.inside.spans.items c.self.inside.first_keysym c.self.inside.first_byte c.self.invariant
    c.truncate.new.self.items (string_bytes c.truncate-2.new.self) c.truncate.ensures.items c.truncate-2.ensures.bytes

pub returns : goal.returns
returns c =
    draft_begun c.self.inside.keysyms.items (string_bytes c.self.inside.texts) c.self.inside.spans.items c.self.inside.first_keysym c.self.inside.first_byte c.self.invariant
    c.truncate.new.self.items (string_bytes c.truncate-2.new.self) c.truncate.ensures.items c.truncate-2.ensures.bytes
    ∙ ap (λ (d : DraftRows). with_row d no_row) c.self.view_is
