use Rattle.std.proofs.Common.{◌≡◌, rules, subst, sym, Some, ◌⊎◌}
use Rattle.keysym_core.specs.Names.{character_of, keysym_of_character}
use Rattle.keysym_core.specs.GivenCharacters.{keypad_keysym}
use Rattle.keysym_core.specs.Next.{IsLeastFrom, from_above}
use Rattle.keysym_core.proofs.NextOf.{next-of_both}
use Rattle.keysym_core.proofs.names.Names.next_of.Goals as goal

pub returns : goal.returns
returns c =
    let low : c.map_or-low.result ≡ from_above c.args.after = search rules in
    let fixed = subst (λ n. IsLeastFrom c.map_or-low.result (λ k. (keysym_of_character n ≡ Some k) ⊎ (keypad_keysym n ≡ Some k)) c.next_fixed-fixed.result) c.from.ensures c.next_fixed-fixed.ensures in
    let both = next-of_both c.args.self.now c.args.character c.map_or-low.result c.next_fixed-fixed.result c.next_given.result fixed c.next_given.ensures in
    subst (λ n. IsLeastFrom n (λ k. character_of c.args.self.now k ≡ Some c.args.character) c.lesser.result) low
    (subst (IsLeastFrom c.map_or-low.result (λ k. character_of c.args.self.now k ≡ Some c.args.character)) (sym c.lesser.ensures) both)
