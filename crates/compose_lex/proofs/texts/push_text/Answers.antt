use Rattle.std.proofs.Common.{◌∙◌, subst, sym, string_bytes}
use Rattle.compose_lex.specs.Escape.{text_of}
use Rattle.compose_lex.specs.Lexed.{PushReturns}
use Rattle.compose_lex.proofs.TextChecks.{text_without_escapes, found_pushed}
use Rattle.compose_lex.proofs.texts.push_text.Goals as goal

pub returns-then-has_escapes-clause-found : goal.returns-then-has_escapes-clause-found
returns-then-has_escapes-clause-found c = found_pushed (string_bytes c.args.text.now) (string_bytes c.push_unescaped.new.text) c.args.raw.now c.push_unescaped.result c.push_unescaped.ensures

-- without a backslash the raw text is appended
plain : (c : goal.After-push_plain) → PushReturns (string_bytes c.args.text.now) (string_bytes c.push_plain.new.text) c.push_plain.result (text_of c.args.raw.now)
plain c =
    let none = sym c.has_escapes.ensures ∙ c.if-has_escapes.false in
    subst (PushReturns (string_bytes c.args.text.now) (string_bytes c.push_plain.new.text) c.push_plain.result) (sym (text_without_escapes c.args.raw.now none)) c.push_plain.ensures

pub returns-else-has_escapes-clause-exact : goal.returns-else-has_escapes-clause-exact
returns-else-has_escapes-clause-exact c = plain c

pub returns-else-has_escapes-clause-found : goal.returns-else-has_escapes-clause-found
returns-else-has_escapes-clause-found c = found_pushed (string_bytes c.args.text.now) (string_bytes c.push_plain.new.text) c.args.raw.now c.push_plain.result (plain c)
