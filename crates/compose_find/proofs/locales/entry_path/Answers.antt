use Rattle.std.proofs.Common.{refl, ◌∙◌, ap, Some, inl, inr}
use Rattle.std.specs.Str.{is_utf8}
use Rattle.std.proofs.lemmas.Bool.{cases_Bool}
use Rattle.std.proofs.lemmas.Str.{is_utf8-from_IsUtf8, IsUtf8-from_is_utf8}
use Rattle.compose_find.specs.Expand.{in_folder}
use Rattle.compose_find.proofs.locales.entry_path.Goals as goal

pub returns-in_ok-in_folder-in-Ok : goal.returns-in_ok-in_folder-in-Ok
returns-in_ok-in_folder-in-Ok c =
    let cases = c.in-Ok.ensures.cases in
    rw (is_utf8-from_IsUtf8 c.args.entry.now cases.1) (ap Some (c.in_ok-in_folder-in-Ok.ensures ∙ ap (in_folder c.args.folder.now) cases.0))

pub returns-in-Err : goal.returns-in-Err
returns-in-Err c = elim (cases_Bool (is_utf8 c.args.entry.now)) [ inl e ↦ absurd (c.in-Err.ensures.cases.0 (IsUtf8-from_is_utf8 c.args.entry.now e)) | inr e ↦ rw e refl ]
