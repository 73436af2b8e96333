use Rattle.std.proofs.Common.{◌≡◌, sym, refl, ◌∙◌, ap, subst, inl, inr}
use Rattle.std.specs.Str.{is_utf8}
use Rattle.std.proofs.lemmas.Bool.{cases_Bool}
use Rattle.std.proofs.lemmas.Str.{is_utf8-from_IsUtf8, IsUtf8-from_is_utf8}
use Rattle.compose_manifest.specs.Manifest.{with_line, with_text, without_return}
use Rattle.compose_manifest.specs.ManifestReturns.{AddReturns}
use Rattle.compose_manifest.proofs.manifest.Manifest.add_line.Goals as goal

pub returns-in-Ok : goal.returns-in-Ok
returns-in-Ok c =
    let text = c.without_return.result.now in
    let cases = c.in-Ok.ensures.cases in
    let is : text ≡ without_return c.args.line.now = c.without_return.ensures ∙ ap without_return cases.0 in
    let expected : with_line c.args.number c.args.self.now c.args.line.now ≡ with_text c.args.number c.args.self.now text =
    rw (is_utf8-from_IsUtf8 c.args.line.now cases.1) (ap (with_text c.args.number c.args.self.now) (sym is)) in
    subst (λ x. AddReturns x c.add_text.result c.add_text.new.self) (sym expected) c.add_text.ensures

pub returns-in-Err : goal.returns-in-Err
returns-in-Err c = elim (cases_Bool (is_utf8 c.args.line.now)) [ inl e ↦ absurd (c.in-Err.ensures.cases.0 (IsUtf8-from_is_utf8 c.args.line.now e)) | inr e ↦ rw e refl ]
