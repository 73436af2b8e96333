use Rattle.std.specs.Prelude.{slice_set}
use Rattle.compose_make.specs.Wanted.{WantedCharacter, better}
use Rattle.compose_make.proofs.Rows.{no_character, not_wanted, taken}
use Rattle.std.proofs.Common.{◌∙◌, sym, ap}
use Rattle.compose_make.proofs.wanted.offer_text.Goals as goal

pub returns-in_default : goal.returns-in_default
returns-in_default c = no_character c.args.text.now c.args.keys.now c.args.rows.now c.in_default.ensures

pub returns-in_default-index_of : goal.returns-in_default-index_of
returns-in_default-index_of c = not_wanted c.args.text.now c.args.keys.now c.in-Some.character c.args.rows.now c.in-Some.ensures c.in_default-index_of.ensures

pub returns-in-Some-index_of : goal.returns-in-Some-index_of
returns-in-Some-index_of c =
    ap (λ r. slice_set c.args.rows.now c.in-Some-index_of.index r) (c.offer.ensures ∙ ap (λ (x : WantedCharacter). record x { keys = better x.keys c.args.keys.now }) (sym c.index-rows-index.is))
    ∙ taken c.args.text.now c.args.keys.now c.in-Some.character c.in-Some-index_of.index c.args.rows.now c.index-rows-index.result
    c.requires.rise c.in-Some.ensures c.in-Some-index_of.ensures.0 c.in-Some-index_of.ensures.1 c.index-rows-index.is
