use Rattle.std.proofs.Common.{◌≡◌, ◌<◌, ◌++◌, ◌∷◌, [], length, sym, ◌∙◌, arith, rules}
use Rattle.std.proofs.lemmas.List.{take_all, take_at, length_push}
use Rattle.compose_lex.proofs.escapes.keep.Goals as goal

pub returns-then-not-is_full : goal.returns-then-not-is_full
returns-then-not-is_full c =
    let kept = c.args.kept.now.items in
    let few : length kept < 255 = search rules in
    c.push.ensures.items ∙ sym (take_all 255 (kept ++ c.args.byte ∷ []) (omega (arith, length_push kept c.args.byte)))

pub returns-else-not-is_full : goal.returns-else-not-is_full
returns-else-not-is_full c =
    let kept = c.args.kept.now.items in
    let full : length kept ≡ 255 = search rules in
    sym (take_at kept (c.args.byte ∷ []) 255 full)
