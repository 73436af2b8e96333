use Rattle.std.proofs.Common.{◌∙◌, ◌++◌, ◌≡◌, ◌≤◌, ◌+◌, ◌-◌, sym, ap, subst, length, take, drop, string_bytes, arith}
use Rattle.compose_read.specs.Read.{max_definitions}
use Rattle.compose_read.specs.Rows.{DraftRows}
use Rattle.compose_read.proofs.Pools.{repeated, rows_repeated}
use Rattle.compose_read.proofs.draft.Draft.repeat.Goals as goal

pub invariant_of-self-2 : goal.invariant_of-self-2
invariant_of-self-2 c =
    let n : (c.args.first + c.args.count) - c.args.first ≡ c.args.count = omega arith in
    repeated c.self.inside.keysyms.items (string_bytes c.self.inside.texts) c.self.inside.spans.items c.self.inside.first_keysym c.self.inside.first_byte c.self.invariant c.args.first c.args.count
    (subst (λ (d : DraftRows). length d.table + c.args.count ≤ max_definitions) (sym c.self.view_is) c.requires.room) c.extend_from_within.new.self.items
    (c.in_ok-extend_from_within.ensures.items ∙ ap (λ m. c.self.inside.spans.items ++ take m (drop c.args.first c.self.inside.spans.items)) n)

pub returns-clause-repeated : goal.returns-clause-repeated
returns-clause-repeated c =
    let n : (c.args.first + c.args.count) - c.args.first ≡ c.args.count = omega arith in
    rows_repeated c.self.inside.keysyms.items
    (string_bytes c.self.inside.texts) c.self.inside.spans.items c.self.inside.first_keysym c.self.inside.first_byte c.self.invariant c.args.first c.args.count
    (subst (λ (d : DraftRows). length d.table + c.args.count ≤ max_definitions) (sym c.self.view_is) c.requires.room) c.extend_from_within.new.self.items
    (c.in_ok-extend_from_within.ensures.items ∙ ap (λ m. c.self.inside.spans.items ++ take m (drop c.args.first c.self.inside.spans.items)) n)
    ∙ ap (λ (d : DraftRows). d.table ++ take c.args.count (drop c.args.first d.table)) c.self.view_is
