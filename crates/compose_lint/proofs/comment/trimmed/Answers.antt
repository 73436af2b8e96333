use Rattle.std.proofs.Common.{◌∙◌, refl, ap, inl, inr}
use Rattle.std.specs.Prelude.{Some}
use Rattle.std.specs.Str.{is_utf8, trim}
use Rattle.std.proofs.lemmas.Bool.{cases_Bool}
use Rattle.std.proofs.lemmas.Str.{is_utf8-from_IsUtf8, IsUtf8-from_is_utf8}
use Rattle.compose_lint.proofs.comment.trimmed.Goals as goal

pub returns-in-Ok : goal.returns-in-Ok
returns-in-Ok c =
    let cases = c.in-Ok.ensures.cases in
    rw (is_utf8-from_IsUtf8 c.args.bytes.now cases.1) (ap (λ t. Some t) (c.trim.ensures.trim ∙ ap trim cases.0))

pub returns-in-Err : goal.returns-in-Err
returns-in-Err c = elim (cases_Bool (is_utf8 c.args.bytes.now)) [ inl e ↦ absurd (c.in-Err.ensures.cases.0 (IsUtf8-from_is_utf8 c.args.bytes.now e)) | inr e ↦ rw e refl ]
