use Rattle.std.proofs.Common.{rules, ◌≡◌, ◌⊎◌, refl, subst, inr, string_bytes}
use Rattle.std.specs.Prelude.{Err}
use Rattle.compose_find.specs.FindReturns.{words}
use Rattle.compose_find.specs.Found.{found, wanted, missing_root, missing_file, refused}
use Rattle.compose_c.specs.Faults.{of_part}
use Rattle.compose_c.specs.Finds as finds
use Rattle.compose_c.specs.Finds.{search_by}
use Rattle.compose_c.proofs.Searched.{stopped, wants}
use Rattle.compose_c.proofs.find.search_over.Goals as goal

pub returns-in-Err-Wanted : goal.returns-in-Err-Wanted
returns-in-Err-Wanted c =
    let path = string_bytes c.in-Err-Wanted.path in
    let e : found c.args.answers.now (words c.args.meanings) c.args.root.now ≡ Err (wanted path) = search rules in
    wants (search_by c.args.answers.now (words c.args.meanings) c.args.root.now) c.args.certificate.now path e

pub returns-in-Err-MissingRoot : goal.returns-in-Err-MissingRoot
returns-in-Err-MissingRoot c =
    let path = string_bytes c.in-Err-MissingRoot.path in
    let e : found c.args.answers.now (words c.args.meanings) c.args.root.now ≡ Err (missing_root path) = search rules in
    let is : c.of_missing_root.result ≡ finds.of_missing_root c.args.answers.now path = search rules in
    stopped (search_by c.args.answers.now (words c.args.meanings) c.args.root.now) c.args.certificate.now (missing_root path) (finds.of_missing_root c.args.answers.now path)
    c.of_missing_root.result e refl (inr is)

pub returns-in-Err-MissingFile : goal.returns-in-Err-MissingFile
returns-in-Err-MissingFile c =
    let from = string_bytes c.in-Err-MissingFile.from in
    let line = c.in-Err-MissingFile.line in
    let path = string_bytes c.in-Err-MissingFile.field-0-2 in
    let e : found c.args.answers.now (words c.args.meanings) c.args.root.now ≡ Err (missing_file from line path) = search rules in
    let same : c.deref-in-Err-MissingFile.result.now ≡ from = search rules in
    stopped (search_by c.args.answers.now (words c.args.meanings) c.args.root.now) c.args.certificate.now (missing_file from line path) (finds.of_missing_file c.args.answers.now from line)
    c.of_missing_file.result e refl
    (subst (λ f. (c.of_missing_file.result ≡ of_part 6 0) ⊎ (c.of_missing_file.result ≡ finds.of_missing_file c.args.answers.now f line)) same c.of_missing_file.ensures)

pub returns-in-Err-Include : goal.returns-in-Err-Include
returns-in-Err-Include c =
    let from = string_bytes c.in-Err-Include.from in
    let line = c.in-Err-Include.line in
    let fault = c.in-Err-Include.fault in
    let e : found c.args.answers.now (words c.args.meanings) c.args.root.now ≡ Err (refused from line fault) = search rules in
    let same : c.deref-in-Err-Include.result.now ≡ from = search rules in
    stopped (search_by c.args.answers.now (words c.args.meanings) c.args.root.now) c.args.certificate.now (refused from line fault) (finds.of_include c.args.answers.now from line fault)
    c.of_include.result e refl
    (subst (λ f. (c.of_include.result ≡ of_part 6 0) ⊎ (c.of_include.result ≡ finds.of_include c.args.answers.now f line fault)) same c.of_include.ensures)
