use Rattle.std.proofs.Common.{◌≡◌, ◌∙◌, sym, ap, subst, ℕ, List, [], ◌∷◌, ◌++◌, None, rules, inl, inr}
use Rattle.std.proofs.lemmas.Str.{is_utf8-from_IsUtf8, IsUtf8-from_is_utf8}
use Rattle.std.proofs.lemmas.Bool.{cases_Bool}
use Rattle.std.specs.Str.{is_utf8}
use Rattle.compose_read.specs.Sources.{add_fault}
use Rattle.compose_bundle.proofs.Bundled.{no_text, one_more}
use Rattle.compose_bundle.proofs.read.read_source.Goals as goal

pub returns-in_default-from_utf8 : goal.returns-in_default-from_utf8
returns-in_default-from_utf8 c = elim (cases_Bool (is_utf8 c.in-Some.name.now)) [
  | inl t ↦ absurd (c.in_default-from_utf8.ensures.cases.0 (IsUtf8-from_is_utf8 c.in-Some.name.now t))
  | inr f ↦ no_text c.args.bytes.now c.in-Some.name.now c.in-Some.rest.now (sym c.in-Some.ensures) c.args.sources.now f
]

pub returns-in-Ok-add_borrowed : goal.returns-in-Ok-add_borrowed
returns-in-Ok-add_borrowed c =
    let text = c.in-Ok.ensures.cases in
    let added = c.in-Ok-add_borrowed.ensures.ok in
    one_more c.args.bytes.now c.in-Some.name.now c.in-Some.rest.now (sym c.in-Some.ensures)
    (is_utf8-from_IsUtf8 c.in-Some.name.now text.1) c.in-Some-split_by_4.content.now c.in-Some-split_by_4.rest.now (sym c.in-Some-split_by_4.ensures)
    c.args.sources.now c.add_borrowed.new.self (subst (λ (n : List ℕ). add_fault c.args.sources.now n ≡ None) text.0 added.0)
    (added.1 ∙ ap (λ (n : List ℕ). c.args.sources.now ++ record { name = n; bytes = c.in-Some-split_by_4.content.now } ∷ []) text.0)
