use Rattle.std.proofs.Common.{◌≡◌, ◌∙◌, ap, sym, subst, map, string_bytes, ℕ, List, Bor}
use Rattle.keysym_core.specs.Header.{names_of}
use Rattle.compose_report.proofs.Results.{ok_map}
use Rattle.compose_runs.specs.WrittenKeys.{AreKeyNames}
use Rattle.compose_service_runs.specs.Clients.{IsSessionBy, IsSessionOf}
use Rattle.compose_service_runs.proofs.client.session_of.Goals as goal

abbrev now_of : Bor (List ℕ) → List ℕ
now_of b = b.now

pub returns : goal.returns
returns g c =
    let verbose = c.args.verbose in let names = c.args.names.now in let arguments = c.args.arguments.now in let files = arguments.files in let header = names.lines.items in
    let words = map now_of arguments.keys.items in let written = map string_bytes c.in_ok-written.written.items in let keys = map now_of c.in_ok-keys.keys.items in
    let same : keys ≡ written = c.in_ok-keys.ensures ∙ ap (map string_bytes) c.deref-3.ensures.value in
    ok_map (IsSessionBy verbose names arguments (map now_of c.deref-4.result.now)) (IsSessionOf verbose names arguments) c.session_by.result
    (λ started is. record {
      keys = keys;
      are_keys = subst (AreKeyNames files (names_of header) words) (sym same)
          (subst (λ k. AreKeyNames files (names_of header) (map now_of k) written) c.deref-2.ensures.value
          (subst (λ h. AreKeyNames files (names_of h) (map now_of c.deref-2.result.now) written) c.deref.ensures.value c.in_ok-written.ensures));
      is = subst (λ k. IsSessionBy verbose names arguments (map now_of k) started) c.deref-4.ensures.value is;
    }) c.session_by.ensures
