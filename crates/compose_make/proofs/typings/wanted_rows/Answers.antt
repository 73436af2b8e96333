use Rattle.std.proofs.Common.{◌∙◌, ◌∷◌, ◌++◌, [], sym, ap, subst, arith}
use Rattle.std.specs.Option.{option_map}
use Rattle.std.proofs.lemmas.List.{take_all, map_push}
use Rattle.compose_make.specs.Candidates.{is_plain}
use Rattle.compose_make.specs.Wanted.{WantedCharacter, AreLeast, characters_of}
use Rattle.compose_walk.proofs.Edges.{taken_more}
use Rattle.compose_make.proofs.FoundRows.{are_joined}
use Rattle.compose_make.proofs.typings.wanted_rows.Goals as goal

pub loop-index-preserved : goal.loop-index-preserved
loop-index-preserved g c =
    let passes = is_plain c.args.names.now (g.U.ComposeTable.definitions c.args.new.now) c.args.repertoire.now in
    let row : WantedCharacter = record { character = c.char_at-character.result; keys = option_map (λ k. k ∷ []) c.plain_key-key.result } in
    let pushed = c.in_ok-push.ensures.items ∙ ap (λ r. c.loop-index.rows.items ++ r ∷ []) c.new.ensures in
    record {
      characters =
          ap characters_of pushed ∙ map_push (λ (r : WantedCharacter). r.character) c.loop-index.rows.items row ∙ ap (λ cs. cs ++ c.char_at-character.result ∷ []) c.loop-index.invariant.characters
          ∙ sym (taken_more c.args.repertoire.now.characters c.loop-index.index c.char_at-character.result c.char_at-character.ensures);
      least = subst (AreLeast passes) (sym pushed) (are_joined passes c.loop-index.rows.items row c.loop-index.invariant.least c.plain_key-key.ensures);
    }

pub returns-clause-characters : goal.returns-clause-characters
returns-clause-characters g c = c.loop-index.invariant.characters ∙ take_all c.loop-index.index c.args.repertoire.now.characters (omega (arith, c.count-index-end.ensures.count))
