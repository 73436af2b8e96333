use Rattle.std.proofs.Common.{◌-◌, ◌<◌, List, ℕ, Bor, map, length, sym, ap, ◌∙◌, rules}
use Rattle.std.specs.Prelude.{option_map}
use Rattle.compose_xkbcommon.proofs.Lists.{keys_done, keys_next, keys_none}
use Rattle.compose_xkbcommon.proofs.grammar.keys_at.Goals as goal

pub returns-in-Some : goal.returns-in-Some
returns-in-Some c =
    let items = c.loop-behind.keys.items in
    keys_done (10 - length items) (map (λ (k : Bor (List ℕ)). k.now) items) c.loop-behind.rest.now c.in-Some.behind.now _ c.in-Some.ensures.0 c.in-Some.ensures.1 c.loop-behind.invariant

pub returns-in_err-key : goal.returns-in_err-key
returns-in_err-key c =
    let items = c.loop-behind.keys.items in
    ap (option_map _) c.from_residual.ensures
    ∙ keys_none (10 - length items) (map (λ (k : Bor (List ℕ)). k.now) items) c.loop-behind.rest.now _ c.in_default.ensures (sym c.in_err-key.ensures) c.loop-behind.invariant

pub loop-behind-preserved : goal.loop-behind-preserved
loop-behind-preserved c =
    let items = c.loop-behind.keys.items in
    let few : length items < 10 = search rules in
    keys_next items _ c.in_ok-key.key c.loop-behind.rest.now c.in_ok-key.behind.now _ _ c.push.ensures.items few c.in_default.ensures (sym c.in_ok-key.ensures) c.skip_spaces-rest.ensures c.loop-behind.invariant
