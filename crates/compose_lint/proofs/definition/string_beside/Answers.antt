use Rattle.std.proofs.Common.{◌≡◌, ◌∙◌, ℕ, List, true, false, refl, sym, subst}
use Rattle.std.specs.Prelude.{IfOk, Option, Some, None, is_some, option_copied, unwrap_or}
use Rattle.std.specs.Option.{option_map, option_and_then}
use Rattle.std.specs.Cow.{cow_str_bytes}
use Rattle.std.specs.Result.{result_ok}
use Rattle.compose_lex.specs.Escape.{text_of}
use Rattle.compose_lint.specs.Productions.{name_given}
use Rattle.compose_lint.proofs.definition.string_beside.Goals as goal

-- the text beside a known name, and none beside another
beside : (r : Option (List ℕ)) (other : Option (List ℕ)) → is_some other ≡ true → option_and_then (λ s. option_map (λ o. unwrap_or s o) other) (option_map (λ t. Some t) r) ≡ r
beside None None e = refl
beside None (Some o) e = refl
beside (Some t) None e = cc
beside (Some t) (Some o) e = refl

unknown : (r : Option (List ℕ)) (other : Option (List ℕ)) → is_some other ≡ false → option_and_then (λ s. option_map (λ o. unwrap_or s o) other) (option_map (λ t. Some t) r) ≡ None
unknown None other e = refl
unknown (Some t) None e = refl
unknown (Some t) (Some o) e = cc

pub returns-then-is_named : goal.returns-then-is_named
returns-then-is_named c =
    subst (λ given. IfOk c.string_text.result (λ text. option_map cow_str_bytes text ≡ given))
    (sym (beside (result_ok (text_of c.args.raw.now)) (name_given c.args.names.now (option_copied c.args.name)) (sym c.is_named.ensures ∙ c.if-is_named.true)))
    c.string_text.ensures

pub returns : goal.returns
returns c = sym (unknown (result_ok (text_of c.args.raw.now)) (name_given c.args.names.now (option_copied c.args.name)) (sym c.is_named.ensures ∙ c.if-is_named.false))
