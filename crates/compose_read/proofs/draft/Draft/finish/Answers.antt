use Rattle.std.proofs.Common.{◌≡◌, ◌<◌, true, length, drop, sym, subst, arith, rules, string_bytes}
use Rattle.std.proofs.lemmas.List.{length-drop}
use Rattle.compose_model.specs.Table.{Definition, is_definition}
use Rattle.compose_model.proofs.Definitions.{sequence_few, text_few}
use Rattle.compose_read.specs.Read.{max_definitions}
use Rattle.compose_read.specs.Rows.{DraftRows}
use Rattle.compose_read.proofs.Pools.{finished_with}
use Rattle.compose_read.proofs.draft.Draft.finish.Goals as goal

pub invariant_of-self-2 : goal.invariant_of-self-2
invariant_of-self-2 c =
    let ks = c.self.inside.keysyms.items in let ts = string_bytes c.self.inside.texts in
    let definition = subst (λ (d : DraftRows). is_definition d.row ≡ true) (sym c.self.view_is) c.requires.definition in
    let row : Definition = record { sequence = drop c.self.inside.first_keysym ks; text = drop c.self.inside.first_byte ts } in
    let few = sequence_few row definition in let short = text_few row definition in
    let keysyms = length-drop c.self.inside.first_keysym ks in let bytes = length-drop c.self.inside.first_byte ts in
    finished_with c.self.inside.keysyms.items (string_bytes c.self.inside.texts) c.self.inside.spans.items c.self.inside.first_keysym c.self.inside.first_byte c.self.invariant _
    (omega arith) (omega arith) (omega (arith, few, keysyms, c.self.invariant.1, c.len.ensures)) (omega (arith, short, bytes, c.self.invariant.2.0, c.len-2.ensures)) definition
    c.push.new.self.items c.in_ok-push.ensures.items (subst (λ (d : DraftRows). length d.table < max_definitions) (sym c.self.view_is) c.requires.room)
    c.len-self-inside.result c.len-self-inside-2.result (search rules) (search rules)
