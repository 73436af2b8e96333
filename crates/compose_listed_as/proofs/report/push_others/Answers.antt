use Rattle.std.proofs.Common.{◌∙◌, ◌<◌, ◌++◌, ◌∷◌, [], ℕ, List, Bor, length, take, sym, ap, arith, string_bytes}
use Rattle.std.specs.Prelude.{flat_map}
use Rattle.std.proofs.lemmas.List.{take_more, flat_map_more}
use Rattle.compose_listed_as.specs.Judged.{Judged}
use Rattle.compose_listed_as.specs.Report.{other_line}
use Rattle.compose_listed_as.proofs.report.push_others.Goals as goal

pub loop-one-preserved : goal.loop-one-preserved
loop-one-preserved c =
    let line : Bor Judged → List ℕ = λ j. other_line c.args.files.now c.args.all.now j.now in let js = c.args.others.now in let i = c.loop-one.one-index in
    let within : i < length js = omega (arith, c.loop-one-test.true) in
    c.in_ok-push_other.ensures ∙ ap (λ t. t ++ line c.one-item.result) c.loop-one.invariant
    ∙ flat_map_more line (string_bytes c.args.text.now) (take i js) c.one-item.result
    ∙ ap (λ xs. string_bytes c.args.text.now ++ flat_map line xs) (ap (λ x. take i js ++ x ∷ []) c.one-item.is ∙ sym (take_more js i c.one-item.result within))
