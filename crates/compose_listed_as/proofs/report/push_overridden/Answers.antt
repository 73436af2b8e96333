use Rattle.std.proofs.Common.{◌≡◌, ◌∙◌, ◌++◌, ℕ, List, ap, subst, append_assoc, string_bytes, OnOk}
use Rattle.std.specs.Prelude.{codes}
use Rattle.compose_listed_as.specs.Report.{by_text}
use Rattle.compose_listed_as.proofs.report.push_overridden.Goals as goal

pub returns : goal.returns
returns c =
    let x = by_text c.args.files.now c.args.all.now c.args.definition.now c.args.by in
    subst (λ (b : List ℕ). OnOk c.push_by.result (string_bytes c.push_by.new.text ≡ b))
    (ap (λ (b : List ℕ). b ++ x) c.in_ok-push_str.ensures.bytes ∙ append_assoc (string_bytes c.args.text.now) (codes "overridden by ") x) c.push_by.ensures
