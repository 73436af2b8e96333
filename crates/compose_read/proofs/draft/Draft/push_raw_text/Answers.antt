use Rattle.std.proofs.Common.{◌∙◌, ◌++◌, ap, ◌≡◌, List, ℕ, subst, drop, string_bytes}
use Rattle.std.specs.Prelude.{OnOk}
use Rattle.compose_lex.specs.Escape.{text_of, Unescapes, IsText}
use Rattle.compose_lex.specs.Lexed.{PushReturns}
use Rattle.compose_read.specs.Rows.{DraftRows}
use Rattle.compose_read.proofs.Pools.{with_raw_text, table_stays, text_given, text_found}
use Rattle.compose_read.proofs.draft.Draft.push_raw_text.Goals as goal

pub invariant_of-self : goal.invariant_of-self
invariant_of-self c =
    with_raw_text c.self.inside.keysyms.items (string_bytes c.self.inside.texts) c.self.inside.spans.items c.self.inside.first_keysym c.self.inside.first_byte c.self.invariant
    c.args.raw.now (string_bytes c.push_text.new.text) c.push_text.result (text_of c.args.raw.now) c.push_text.ensures.exact c.push_text.ensures.found

pub returns-clause-exact : goal.returns-clause-exact
returns-clause-exact c =
    subst (λ (d : DraftRows). PushReturns d.row.text (drop c.self.inside.first_byte (string_bytes c.push_text.new.text)) c.push_text.result (text_of c.args.raw.now)) c.self.view_is
    (text_given c.self.inside.keysyms.items (string_bytes c.self.inside.texts) c.self.inside.spans.items c.self.inside.first_keysym c.self.inside.first_byte c.self.invariant
    c.args.raw.now (string_bytes c.push_text.new.text) c.push_text.result (text_of c.args.raw.now) c.push_text.ensures.exact c.push_text.ensures.found)

pub returns-clause-found : goal.returns-clause-found
returns-clause-found c =
    subst
    (λ (d : DraftRows). OnOk c.push_text.result
    ((bytes : List ℕ) × (drop c.self.inside.first_byte (string_bytes c.push_text.new.text) ≡ d.row.text ++ bytes) × Unescapes c.args.raw.now bytes × IsText bytes)) c.self.view_is
    (text_found c.self.inside.keysyms.items (string_bytes c.self.inside.texts) c.self.inside.spans.items c.self.inside.first_keysym c.self.inside.first_byte c.self.invariant
    c.args.raw.now (string_bytes c.push_text.new.text) c.push_text.result (text_of c.args.raw.now) c.push_text.ensures.exact c.push_text.ensures.found)

pub returns-clause-others : goal.returns-clause-others
returns-clause-others c = (
  table_stays c.self.inside.keysyms.items (string_bytes c.self.inside.texts) c.self.inside.spans.items c.self.inside.first_keysym c.self.inside.first_byte c.self.invariant
      c.args.raw.now (string_bytes c.push_text.new.text) c.push_text.result (text_of c.args.raw.now) c.push_text.ensures.exact c.push_text.ensures.found
      ∙ ap (λ (d : DraftRows). d.table) c.self.view_is,
  ap (λ (d : DraftRows). d.row.sequence) c.self.view_is,
)
