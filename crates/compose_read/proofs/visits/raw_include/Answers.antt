use Rattle.std.proofs.Common.{◌≡◌, sym, refl, ◌∙◌, ap, map, inl, inr}
use Rattle.std.specs.Prelude.{Ok}
use Rattle.std.specs.Str.{is_utf8}
use Rattle.std.proofs.lemmas.Bool.{cases_Bool}
use Rattle.std.proofs.lemmas.Str.{is_utf8-from_IsUtf8, IsUtf8-from_is_utf8}
use Rattle.compose_lex.specs.Line.{include}
use Rattle.compose_lex.specs.Fault.{reading_of}
use Rattle.compose_lex.specs.Lexed.{content_reading}
use Rattle.compose_read.specs.Visits.{include_text}
use Rattle.compose_read.proofs.visits.raw_include.Goals as goal

pub returns-in_default : goal.returns-in_default
returns-in_default c = elim (cases_Bool (is_utf8 c.args.line.now)) [ inl e ↦ absurd (c.in_default.ensures.cases.0 (IsUtf8-from_is_utf8 c.args.line.now e)) | inr e ↦ rw e refl ]

pub returns-in-Ok-Include : goal.returns-in-Ok-Include
returns-in-Ok-Include c =
    let cases = c.in-Ok.ensures.cases in
    let read : reading_of c.args.line.now ≡ Ok (include c.in-Ok-Include.name.now) =
    ap reading_of (sym cases.0) ∙ c.in-Ok-Include.ensures.exact ∙ ap (λ s. Ok (content_reading (map (λ e. e.now) c.lex_line_into.new.events.items) s)) c.in-Ok-Include.field-0-is in
    rw (is_utf8-from_IsUtf8 c.args.line.now cases.1) (sym (ap include_text read))
