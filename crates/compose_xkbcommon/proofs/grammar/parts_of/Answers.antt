use Rattle.std.proofs.Common.{◌≡◌, List, ℕ, Bor, map, length, sym, ap, ◌∙◌, rules, false}
use Rattle.std.specs.Prelude.{◌==◌, option_copied}
use Rattle.std.proofs.lemmas.List.{length-map}
use Rattle.compose_xkbcommon.specs.Grammar.{keys_at, result_at}
use Rattle.compose_xkbcommon.proofs.Lists.{parts_made}
use Rattle.compose_xkbcommon.proofs.grammar.parts_of.Goals as goal

pub returns : goal.returns
returns c =
    let items = c.in_ok-keys.keys.items in
    let some : (length items == 0) ≡ false = search rules in
    let mapped : (length (map (λ (k : Bor (List ℕ)). k.now) items) == 0) ≡ false = ap (λ n. n == 0) (length-map items (λ (k : Bor (List ℕ)). k.now)) ∙ some in
    sym (parts_made c.args.line.now c.in_ok-keys.behind.now (map (λ (k : Bor (List ℕ)). k.now) items) (option_copied c.in_ok-string.string) (option_copied c.in_ok-string.name)
    (ap (keys_at 10) (sym c.skip_spaces.ensures) ∙ sym c.in_ok-keys.ensures) (ap result_at (sym c.skip_spaces-2.ensures) ∙ sym c.in_ok-string.ensures) mapped)
