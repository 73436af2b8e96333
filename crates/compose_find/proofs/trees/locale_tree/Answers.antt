use Rattle.std.proofs.Common.{◌≡◌, ◌∙◌, ◌++◌, ◌+◌, ◌-◌, ◌<◌, ap, sym, subst, arith, length, take, get_or, true, List, ℕ}
use Rattle.std.specs.Prelude.{◌==◌, codes, MatchOption}
use Rattle.compose_find.specs.Trees.{IsTableOf}
use Rattle.compose_find.proofs.TablePaths.{no_slash_no_tree, no_locale_no_tree, tree_there}
use Rattle.compose_find.proofs.trees.locale_tree.Goals as goal

pub returns-in_err-slash : goal.returns-in_err-slash
returns-in_err-slash c =
    let path = c.args.path.now in
    let folder = c.in_ok-folder.folder.now in
    let cases = c.in_ok-folder.ensures.cases in
    let is : path ≡ folder ++ codes "/Compose" = cases.1.1 ∙ ap (λ xs. xs ++ codes "/Compose") (sym cases.2) in
    let bytes = c.as_bytes.ensures.value in
    let none = no_slash_no_tree path folder is (λ i less slash. c.in_err-slash.ensures i (omega arith) (omega (arith, ap length bytes)) (ap (λ xs. get_or xs i 0 == 47) bytes ∙ slash)) in
    subst (λ r. MatchOption r ((tree : List ℕ) → ¬ (IsTableOf tree path)) (λ tree. IsTableOf tree.now path)) (sym c.from_residual-in_err-slash.ensures) none

pub returns-then-slash-folder : goal.returns-then-slash-folder
returns-then-slash-folder c =
    let path = c.args.path.now in
    let folder = c.in_ok-folder.folder.now in
    let cases = c.in_ok-folder.ensures.cases in
    let is : path ≡ folder ++ codes "/Compose" = cases.1.1 ∙ ap (λ xs. xs ++ codes "/Compose") (sym cases.2) in
    let at = c.in_ok-slash.slash in
    let slash : get_or folder at 0 == 47 ≡ true = ap (λ xs. get_or xs at 0 == 47) (sym c.as_bytes.ensures.value) ∙ c.in_ok-slash.ensures.1 in
    no_locale_no_tree path folder at is c.if-slash-folder.true slash

pub returns : goal.returns
returns c =
    let path = c.args.path.now in
    let folder = c.in_ok-folder.folder.now in
    let cases = c.in_ok-folder.ensures.cases in
    let is : path ≡ folder ++ codes "/Compose" = cases.1.1 ∙ ap (λ xs. xs ++ codes "/Compose") (sym cases.2) in
    let bytes = c.as_bytes.ensures.value in
    let at = c.in_ok-slash.slash in
    let found = c.in_ok-slash.ensures in
    let slash : get_or folder at 0 == 47 ≡ true = ap (λ xs. get_or xs at 0 == 47) (sym bytes) ∙ found.1 in
    let within : at < length folder = omega (arith, found.0.high, ap length bytes) in
    let more : at + 1 < length folder = omega (arith, within, c.if-slash-folder.false) in
    let tree : c.range.result.now ≡ take at folder = c.range.ensures.value ∙ (let whole : at - 0 ≡ at = omega arith in ap (λ n. take n folder) whole) in
    subst (λ t. IsTableOf t path) (sym tree) (tree_there path folder at is within more slash (λ i low less yes. found.0.after i low (omega (arith, ap length bytes)) (ap (λ xs. get_or xs i 0 == 47) bytes ∙ yes)))
