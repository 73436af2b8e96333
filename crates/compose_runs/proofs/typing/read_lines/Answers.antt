use Rattle.std.proofs.Common.{◌≡◌, ℕ, List, [], Bor, inr, map, subst, sym, eqb-true}
use Rattle.std.proofs.lemmas.List.{nil_from_length}
use Rattle.compose_given.proofs.Failing.{handed}
use Rattle.compose_runs.specs.Faults.{FailsLines, FailsText}
use Rattle.compose_runs.proofs.typing.read_lines.Goals as goal

pub returns-in_err-text_of-clause-fault : goal.returns-in_err-text_of-clause-fault
returns-in_err-text_of-clause-fault g c =
    let folder = c.args.files.now.holds in let fault = c.in_err-text_of.field-0.0 in let bytes = c.in_ok-bytes.bytes.items in
    let none : c.args.words.now ≡ [] = nil_from_length c.args.words.now (eqb-true _ 0 (sym c.if-is_empty.ensures)) in
    let fails : FailsText bytes fault = subst (λ b. FailsText b fault) c.deref.ensures.value c.in_err-text_of.ensures.fault in
    handed (FailsLines folder (map (λ word. word.now) c.args.words.now)) c.from_residual-in_err-text_of.result fault c.from_residual-in_err-text_of.ensures.1
    (subst (λ (words : List (Bor (List ℕ))). FailsLines folder (map (λ word. word.now) words) fault) (sym none) (inr (inr (bytes, c.in_ok-bytes.ensures.reads, fails))))
