use Rattle.std.proofs.Common.{◌≡◌, ◌∙◌, ap, sym, rules, [], ◌∷◌, Global, string_bytes}
use Rattle.std.specs.Prelude.{option_copied, Err, Ok}
use Rattle.compose_find.specs.Found as found
use Rattle.compose_find.specs.Expand as paths
use Rattle.compose_find.proofs.Places.{place_stops, place_taken, place_passed, no_place}
use Rattle.compose_find.proofs.Searches.{passed, stopped}
use Rattle.compose_find.proofs.search.located_here.Goals as goal

pub returns-in_err-found_includes : goal.returns-in_err-found_includes
returns-in_err-found_includes c =
    let files = c.args.files.now in
    let from = c.args.from.now.path in
    let path = string_bytes c.args.path in
    let missing = found.missing_file from c.args.include.now.line path in
    let behind = paths.beside from path ∷ [] in
    let looked : found.found_includes files c.deref.result.now ≡ found.found_includes files path = search rules in
    let is : c.from_residual.result ≡ Err c.in_err-found_includes.field-0.0 = search rules in
    passed option_copied string_bytes c.in_err-found_includes.field-0.0 _ (found.found_includes files c.deref.result.now) _ is
    (λ stop e. place_stops files missing path behind stop (sym looked ∙ e)) c.in_err-found_includes.ensures

pub returns-then-is_some : goal.returns-then-is_some
returns-then-is_some c =
    let files = c.args.files.now in
    let from = c.args.from.now.path in
    let path = string_bytes c.args.path in
    let missing = found.missing_file from c.args.include.now.line path in
    let behind = paths.beside from path ∷ [] in
    let here : found.found_includes files path ≡ Ok (option_copied c.in_ok-found_includes.field-0) = search rules in
    place_taken files missing path behind c.in_ok-found_includes.field-0 here (search rules)

pub returns-in_err-found_includes-2 : goal.returns-in_err-found_includes-2
returns-in_err-found_includes-2 c =
    let files = c.args.files.now in
    let from = c.args.from.now.path in
    let path = string_bytes c.args.path in
    let missing = found.missing_file from c.args.include.now.line path in
    let behind = paths.beside from path ∷ [] in
    let here : found.found_includes files path ≡ Ok (option_copied c.in_ok-found_includes.field-0) = search rules in
    let passed_here = place_passed files missing path behind c.in_ok-found_includes.field-0 here (search rules) in
    let place = paths.beside from path in
    let looked : found.found_includes files c.deref-4.result.now ≡ found.found_includes files place = search rules in
    let is : c.from_residual-in_err-found_includes-2.result ≡ Err c.in_err-found_includes-2.field-0.0 = search rules in
    passed option_copied string_bytes c.in_err-found_includes-2.field-0.0 _ (found.found_includes files c.deref-4.result.now) _ is
    (λ stop e. passed_here ∙ place_stops files missing place [] stop (sym looked ∙ e)) c.in_err-found_includes-2.ensures

pub returns-then-is_some-2 : goal.returns-then-is_some-2
returns-then-is_some-2 c =
    let files = c.args.files.now in
    let from = c.args.from.now.path in
    let path = string_bytes c.args.path in
    let missing = found.missing_file from c.args.include.now.line path in
    let behind = paths.beside from path ∷ [] in
    let here : found.found_includes files path ≡ Ok (option_copied c.in_ok-found_includes.field-0) = search rules in
    let passed_here = place_passed files missing path behind c.in_ok-found_includes.field-0 here (search rules) in
    let place = paths.beside from path in
    let there : found.found_includes files place ≡ Ok (option_copied c.in_ok-found_includes-2.field-0) = search rules in
    passed_here ∙ place_taken files missing place [] c.in_ok-found_includes-2.field-0 there (search rules) ∙ ap Ok (search rules)

pub returns : goal.returns
returns c =
    let files = c.args.files.now in
    let from = c.args.from.now.path in
    let path = string_bytes c.args.path in
    let missing = found.missing_file from c.args.include.now.line path in
    let behind = paths.beside from path ∷ [] in
    let here : found.found_includes files path ≡ Ok (option_copied c.in_ok-found_includes.field-0) = search rules in
    let passed_here = place_passed files missing path behind c.in_ok-found_includes.field-0 here (search rules) in
    let place = paths.beside from path in
    let there : found.found_includes files place ≡ Ok (option_copied c.in_ok-found_includes-2.field-0) = search rules in
    stopped (string_bytes {Z = Global}) c.missing_file.result missing _ c.missing_file.ensures
    (passed_here ∙ place_passed files missing place [] c.in_ok-found_includes-2.field-0 there (search rules) ∙ no_place files missing)
