use Rattle.std.proofs.Common.{◌≡◌, ◌∙◌, ◌<◌, ◌-◌, ◌+◌, sym, ap, arith, get_or, length, take}
use Rattle.std.specs.Prelude.{◌==◌, true}
use Rattle.std.proofs.lemmas.Bool.{eqb-true}
use Rattle.std.proofs.lemmas.Str.{IsCharBoundary-after_ascii}
use Rattle.compose_find.proofs.Folders.{folder_none, folder_some}
use Rattle.compose_find.proofs.paths.folder_of.Goals as goal

pub range-requires-clause-end_boundary : goal.range-requires-clause-end_boundary
range-requires-clause-end_boundary c =
    let found = c.in-Some.ensures in
    let same = ap (λ xs. get_or xs c.in-Some.at 0) c.as_bytes.ensures.value in
    let slash = eqb-true _ 47 found.1 in
    let less : c.in-Some.at < length c.args.path.now = omega (arith, found.0.high, ap length c.as_bytes.ensures.value) in
    IsCharBoundary-after_ascii c.args.path.now c.in-Some.at c.utf8.path less (omega (arith, same, slash))

pub returns-in-Some : goal.returns-in-Some
returns-in-Some c =
    let path = c.args.path.now in
    let at = c.in-Some.at in
    let found = c.in-Some.ensures in
    let less : at < length path = omega (arith, found.0.high, ap length c.as_bytes.ensures.value) in
    let is : get_or path at 0 == 47 ≡ true = ap (λ xs. get_or xs at 0 == 47) (sym c.as_bytes.ensures.value) ∙ found.1 in
    let whole : (at + 1) - 0 ≡ at + 1 = omega arith in
    c.range.ensures.value ∙ ap (λ n. take n path) whole
    ∙ sym (folder_some path at less is (λ i low within yes. found.0.after i low (omega (arith, ap length c.as_bytes.ensures.value)) (ap (λ xs. get_or xs i 0 == 47) c.as_bytes.ensures.value ∙ yes)))

pub returns-in-None : goal.returns-in-None
returns-in-None c =
    sym
    (folder_none c.args.path.now
    (λ i within yes. c.in-None.ensures i (omega arith) (omega (arith, ap length c.as_bytes.ensures.value)) (ap (λ xs. get_or xs i 0 == 47) c.as_bytes.ensures.value ∙ yes)))
