use Rattle.std.proofs.Common.{◌≡◌, ◌∙◌, ap, sym, subst, map, take, string_bytes, ◌+◌, ◌++◌, ◌∷◌, []}
use Rattle.std.proofs.lemmas.List.{map-append, take_more, take_all}
use Rattle.compose_input.specs.Faults.{AreUnopened, IsUnopened}
use Rattle.compose_input.proofs.Failing.{one_more_unopened}
use Rattle.compose_input.proofs.search.all_unopened.Goals as goal

pub loop-path-preserved : goal.loop-path-preserved
loop-path-preserved g c =
    let folder = c.args.files.now.holds in let root = c.args.root.now in let paths = c.args.paths.now in let i = c.loop-path.path-index in
    let inv = c.loop-path.invariant in let path = c.path-item.result in let u = c.in_ok-unopened.field-0 in
    let is = subst (λ f. IsUnopened f root c.deref.result.now u) inv.kept c.in_ok-unopened.ensures.is in
    let more : map string_bytes (take (i + 1) paths) ≡ map string_bytes (take i paths) ++ string_bytes path ∷ [] =
    ap (map string_bytes) (take_more paths i path c.loop-path-test.true ∙ ap (λ x. take i paths ++ x ∷ []) (sym c.path-item.is)) ∙ map-append string_bytes (take i paths) (path ∷ []) in
    record {
      kept = c.in_ok-unopened.ensures.kept ∙ inv.kept;
      tried = subst (λ ps. AreUnopened folder root ps c.push.new.self.items) (sym more) (subst (λ us. AreUnopened folder root (map string_bytes (take i paths) ++ string_bytes path ∷ []) us) (sym c.in_ok-push.ensures.items)
          (one_more_unopened folder root (map string_bytes (take i paths)) c.loop-path.tried.items (string_bytes path) u inv.tried (subst (λ p. IsUnopened folder root p u) c.deref.ensures is)));
    }

pub returns-clause-are : goal.returns-clause-are
returns-clause-are g c =
    subst (λ ps. AreUnopened c.args.files.now.holds c.args.root.now (map string_bytes ps) c.loop-path.tried.items) (take_all c.loop-path.path-index c.args.paths.now c.loop-path-test.false) c.loop-path.invariant.tried
