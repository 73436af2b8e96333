use Rattle.std.proofs.Common.{◌≡◌, ◌∙◌, map, refl, sym, ap, inl, inr}
use Rattle.std.specs.Prelude.{Ok}
use Rattle.std.specs.Str.{is_utf8}
use Rattle.std.proofs.lemmas.Bool.{cases_Bool}
use Rattle.std.proofs.lemmas.Str.{is_utf8-from_IsUtf8, IsUtf8-from_is_utf8}
use Rattle.compose_lex.specs.Line.{blank, include}
use Rattle.compose_lex.specs.Fault.{reading_of}
use Rattle.compose_lex.specs.Lexed.{content_reading}
use Rattle.compose_lint.specs.Faults.{is_clean_reading}
use Rattle.compose_lint.proofs.faultless.is_clean_text.Goals as goal

pub returns-in_default : goal.returns-in_default
returns-in_default c = elim (cases_Bool (is_utf8 c.args.bytes.now)) [ inl e ↦ absurd (c.in_default.ensures.cases.0 (IsUtf8-from_is_utf8 c.args.bytes.now e)) | inr e ↦ rw e refl ]

pub returns-in-Ok-Include : goal.returns-in-Ok-Include
returns-in-Ok-Include c =
    let bytes = c.args.bytes.now in let cases = c.in-Ok.ensures.cases in
    let read : reading_of bytes ≡ Ok (include c.in-Ok-Include.name.now) =
    ap reading_of (sym cases.0) ∙ c.in-Ok-Include.ensures.exact ∙ ap (λ s. Ok (content_reading (map (λ e. e.now) c.lex_line_into.new.events.items) s)) c.in-Ok-Include.field-0-is in
    rw (is_utf8-from_IsUtf8 bytes cases.1) (c.is_later.ensures ∙ sym (ap (is_clean_reading c.args.sources.now c.args.source) read))

pub returns-in-Ok-Blank : goal.returns-in-Ok-Blank
returns-in-Ok-Blank c =
    let bytes = c.args.bytes.now in let cases = c.in-Ok.ensures.cases in
    let read : reading_of bytes ≡ Ok blank =
    ap reading_of (sym cases.0) ∙ c.in-Ok-Blank.ensures.exact ∙ ap (λ s. Ok (content_reading (map (λ e. e.now) c.lex_line_into.new.events.items) s)) c.in-Ok-Blank.field-0-is in
    rw (is_utf8-from_IsUtf8 bytes cases.1) (sym (ap (is_clean_reading c.args.sources.now c.args.source) read))
