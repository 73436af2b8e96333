use Rattle.std.proofs.Common.{◌≡◌, ◌-◌, ◌+◌, suc, length, sym, ap, ◌∙◌, arith}
use Rattle.compose_xkbcommon.specs.Grammar.{behind_modifiers}
use Rattle.compose_xkbcommon.specs.Scanned.{left}
use Rattle.compose_xkbcommon.proofs.Lists.{modifier_more, modifier_none, modifiers_done, modifiers_end}
use Rattle.compose_xkbcommon.proofs.grammar.behind_modifiers.Goals as goal

pub returns-then-not-begins_modifier : goal.returns-then-not-begins_modifier
returns-then-not-begins_modifier c =
    modifiers_end (length c.args.list.now - c.loop-index._index) c.loop-index.rest.now _ (sym c.begins_modifier.ensures ∙ c.if-not-begins_modifier.true) c.loop-index.invariant

pub returns-in_err-behind_modifier : goal.returns-in_err-behind_modifier
returns-in_err-behind_modifier c =
    let len = length c.args.list.now in let index = c.loop-index._index in
    let one : len - index ≡ suc (len - (index + 1)) = (let t = c.loop-index-test.true in omega (arith, t)) in
    ap left c.from_residual.ensures
    ∙ modifier_none (len - index) (len - (index + 1)) c.loop-index.rest.now _ one (sym c.begins_modifier.ensures ∙ c.if-not-begins_modifier.false) (sym c.in_err-behind_modifier.ensures) c.loop-index.invariant

pub returns : goal.returns
returns c =
    let len = length c.args.list.now in let index = c.loop-index._index in
    let none : len - index ≡ 0 = (let t = c.loop-index-test.false in omega (arith, t)) in
    modifiers_done (len - index) c.loop-index.rest.now _ none c.loop-index.invariant

pub loop-index-preserved : goal.loop-index-preserved
loop-index-preserved c =
    let len = length c.args.list.now in let index = c.loop-index._index in
    let one : len - index ≡ suc (len - (index + 1)) = (let t = c.loop-index-test.true in omega (arith, t)) in
    ap (behind_modifiers (len - (index + 1))) c.skip_spaces-rest.ensures
    ∙ modifier_more (len - index) (len - (index + 1)) c.loop-index.rest.now c.in_ok-behind_modifier.field-0.now _ one (sym c.begins_modifier.ensures ∙ c.if-not-begins_modifier.false)
    (sym c.in_ok-behind_modifier.ensures) c.loop-index.invariant
