use Rattle.std.proofs.Common.{◌≡◌, Bool, true, false, sym, ◌∙◌, drop, refl, MatchOption}
use Rattle.std.specs.Prelude.{codes}
use Rattle.std.specs.Bool.{then_some}
use Rattle.std.proofs.lemmas.Bool.{both_ways}
use Rattle.std.specs.Cmp.Lexicographic.{bytes_decides}
use Rattle.compose_lex.specs.Fault.{is_include}
use Rattle.compose_lex.proofs.IncludeWord.{include_here, no_include}
use Rattle.compose_lex.proofs.lexer.after_include.Goals as goal

pub returns : goal.returns
returns c = rw c.then_some.ensures (go c.eq.result refl)
  where
    word : (c.split_name.result.0.now ≡ codes "include") → c.eq.result ≡ true
    word same = c.eq.ensures ∙ (bytes_decides c.split_name.result.0.now (codes "include")).1 same

    go : (b : Bool) → c.eq.result ≡ b
        → MatchOption (then_some b c.split_name.result.1) (is_include c.args.rest.now ≡ false) (λ behind. (is_include c.args.rest.now ≡ true) × (behind.now ≡ drop 7 c.args.rest.now))
    go false e = no_include c.args.rest.now (λ same. both_ways c.eq.result e (word (c.split_name.ensures.name ∙ same)))
    go true e =
        let here = include_here c.args.rest.now (sym c.split_name.ensures.name ∙ (bytes_decides c.split_name.result.0.now (codes "include")).0 (sym c.eq.ensures ∙ e)) in
        (here.0, c.split_name.ensures.rest ∙ here.1)
