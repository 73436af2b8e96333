use Rattle.std.proofs.Common.{◌≡◌, ◌∙◌, ap, sym, subst, rules, [], ◌∷◌, string_bytes}
use Rattle.std.specs.Prelude.{option_copied, Err, Ok, Some, None}
use Rattle.compose_find.specs.Found as found
use Rattle.compose_find.specs.Expand as paths
use Rattle.compose_find.specs.FindReturns.{words, FindReturns}
use Rattle.compose_find.proofs.Places.{place_stops, place_taken, place_passed, places_by}
use Rattle.compose_find.proofs.Searches.{passed}
use Rattle.compose_find.proofs.search.located.Goals.{in-Some+in_ok-found_includes+else-is_some, in_default}
use Rattle.compose_find.proofs.search.located.Goals as goal

pub returns-in_err-found_includes : goal.returns-in_err-found_includes
returns-in_err-found_includes c =
    let files = c.args.files.now in
    let from = c.args.from.now.path in
    let path = string_bytes c.args.path in
    let root = option_copied c.args.meanings.root in
    let missing = found.missing_file from c.args.include.now.line path in
    let behind = path ∷ paths.beside from path ∷ [] in
    let place = string_bytes c.in-Some.below in
    let below : paths.below_root root path ≡ Some place = search rules in
    let by = ap (found.first_place files missing) (places_by root from path (Some place) below) in
    let looked : found.found_includes files c.deref-in-Some.result.now ≡ found.found_includes files place = search rules in
    let is : c.from_residual-in_err-found_includes.result ≡ Err c.in_err-found_includes.field-0.0 = search rules in
    passed option_copied string_bytes c.in_err-found_includes.field-0.0 _ (found.found_includes files c.deref-in-Some.result.now) _ is
    (λ stop e. by ∙ place_stops files missing place behind stop (sym looked ∙ e)) c.in_err-found_includes.ensures

pub returns-then-is_some : goal.returns-then-is_some
returns-then-is_some c =
    let files = c.args.files.now in
    let from = c.args.from.now.path in
    let path = string_bytes c.args.path in
    let root = option_copied c.args.meanings.root in
    let missing = found.missing_file from c.args.include.now.line path in
    let behind = path ∷ paths.beside from path ∷ [] in
    let place = string_bytes c.in-Some.below in
    let below : paths.below_root root path ≡ Some place = search rules in
    let by = ap (found.first_place files missing) (places_by root from path (Some place) below) in
    let there : found.found_includes files place ≡ Ok (option_copied c.in_ok-found_includes.field-0) = search rules in
    by ∙ place_taken files missing place behind c.in_ok-found_includes.field-0 there (search rules)

pub returns : goal.returns
returns c =
    let files = c.args.files.now in
    let from = c.args.from.now.path in
    let path = string_bytes c.args.path in
    let root = option_copied c.args.meanings.root in
    let missing = found.missing_file from c.args.include.now.line path in
    let behind = path ∷ paths.beside from path ∷ [] in
    let is : found.located files (words c.args.meanings) c.args.from.now c.args.include.now path ≡ found.first_place files missing behind =
    elim c.match-branch-2.branch [
      | in-Some+in_ok-found_includes+else-is_some w ↦ (
          let place = string_bytes w.in-Some.below in
          let below : paths.below_root root path ≡ Some place = search rules in
          let there : found.found_includes files place ≡ Ok (option_copied w.in_ok-found_includes.field-0) = search rules in
          ap (found.first_place files missing) (places_by root from path (Some place) below) ∙ place_passed files missing place behind w.in_ok-found_includes.field-0 there (search rules))
      | in_default w ↦ (
          let below : paths.below_root root path ≡ None = search rules in
          ap (found.first_place files missing) (places_by root from path None below))
    ] in
    subst (FindReturns string_bytes c.located_here.result) (sym is) c.located_here.ensures
