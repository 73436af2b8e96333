use Rattle.std.proofs.Common.{rules, List, [], ◌∷◌, ◌++◌, ℕ, flat_map, sym, ap, ◌∙◌, subst}
use Rattle.std.specs.Fmt.{HasWritten}
use Rattle.std.proofs.lemmas.Grind.{put_two, flat_map-append}
use Rattle.std.proofs.lemmas.List.{map-id, append-nil}
use Rattle.std.proofs.lemmas.Iterator.{YieldsList-from_chars}
use Rattle.std.proofs.lemmas.Iterator.Consumers.{YieldsList-end}
use Rattle.compose_shown.specs.Shown.{shown_in_lines}
use Rattle.compose_shown.proofs.shown.write_lines.Goals as goal

pub returns : goal.returns
returns g c = λ plain ok.
    let t = YieldsList-end (YieldsList-from_chars c.args.text.now c.utf8.text cc) c.loop-character.yielded _ c.loop-character.yielded_by _ _ c.in-None.is c.next.ensures.steps in
    subst (λ (cs : List ℕ). HasWritten g.W.Write.write_str_gives c.args.f.now (flat_map shown_in_lines cs) c.loop-character.f) (sym (map-id c.loop-character.yielded) ∙ t.0)
    (c.loop-character.invariant plain)

pub loop-character-preserved : goal.loop-character-preserved
loop-character-preserved g c = λ plain.
    let before = c.loop-character.invariant plain in
    put_two g.W.Write.write_str_gives c.args.f.now c.loop-character.f c.write.new.self (flat_map shown_in_lines c.loop-character.yielded) (shown_in_lines c.in-Some.character) _ before (search rules)
    (sym
    (flat_map-append shown_in_lines c.loop-character.yielded (c.in-Some.character ∷ [])
    ∙ ap (λ (bs : List ℕ). flat_map shown_in_lines c.loop-character.yielded ++ bs) (append-nil (shown_in_lines c.in-Some.character))))
