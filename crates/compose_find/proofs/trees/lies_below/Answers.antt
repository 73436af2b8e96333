use Rattle.std.proofs.Common.{◌≡◌, ◌∙◌, ◌++◌, ap, sym, rules, Some, None}
use Rattle.std.specs.Prelude.{◌==◌}
use Rattle.std.proofs.lemmas.Bool.Decides.{Decides-eqb}
use Rattle.std.proofs.lemmas.Slice.Eq.{strip_prefix_is}
use Rattle.compose_text.specs.Bytes.{begins}
use Rattle.compose_find.proofs.Below.{below_by_rest, not_below}
use Rattle.compose_find.proofs.trees.lies_below.Goals as goal

pub returns-in-Some : goal.returns-in-Some
returns-in-Some c =
    let folder = c.args.folder.now in
    let path = c.args.path.now in
    let rest = c.in-Some.rest.now in
    let is = strip_prefix_is Decides-eqb c.as_bytes.result.now c.as_bytes-2.result.now (Some c.in-Some.rest) c.in-Some.ensures.cases in
    let whole : path ≡ folder ++ rest = sym c.as_bytes.ensures.value ∙ is ∙ ap (λ f. f ++ rest) c.as_bytes-2.ensures.value in
    let slash : c.eq.result ≡ begins (λ b. b == 47) rest = search rules in
    slash ∙ below_by_rest folder path rest whole

pub returns-in-None : goal.returns-in-None
returns-in-None c =
    let lacks = strip_prefix_is Decides-eqb c.as_bytes.result.now c.as_bytes-2.result.now None c.in-None.ensures.cases in
    not_below c.args.folder.now c.args.path.now (λ rest e. lacks rest (c.as_bytes.ensures.value ∙ e ∙ ap (λ f. f ++ rest) (sym c.as_bytes-2.ensures.value)))
