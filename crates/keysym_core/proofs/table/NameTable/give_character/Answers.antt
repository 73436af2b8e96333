use Rattle.std.proofs.Common.{◌≡◌, ◌∙◌, ap, sym, None, rules, arith, ◌++◌, ◌∷◌, []}
use Rattle.std.proofs.lemmas.Grind.{common_steps}
use Rattle.keysym_core.specs.Names.{KeysymNames, CharacterRow, first_character}
use Rattle.keysym_core.specs.Table.{character_rows, name_rows}
use Rattle.keysym_core.proofs.Rows.{same_names}
use Rattle.keysym_core.proofs.Characters.{table_with_character, character_rows-insert, with_character-new}
use Rattle.keysym_core.proofs.table.NameTable.give_character.Goals as goal

pub invariant_of-self-2 : goal.invariant_of-self-2
invariant_of-self-2 c =
    let row : CharacterRow = record { value = c.args.keysym; character = c.args.character } in
    let old : character_rows c.self.inside.characters.entries ≡ c.args.self.now.characters = ap (λ (t : KeysymNames). t.characters) c.self.view_is in
    let absent : first_character c.args.self.now.characters c.args.keysym ≡ None = grind (arith, common_steps) in
    let new : first_character (character_rows c.self.inside.characters.entries) row.value ≡ None = ap (λ rows. first_character rows c.args.keysym) old ∙ absent in
    let grown = ap character_rows c.in_ok-insert.ensures.entries ∙ character_rows-insert c.self.inside.characters row new in
    table_with_character row c.self.invariant new (search rules) grown

pub returns : goal.returns
returns c =
    let row : CharacterRow = record { value = c.args.keysym; character = c.args.character } in
    let names : name_rows c.self.inside.names.entries ≡ c.args.self.now.names = ap (λ (t : KeysymNames). t.names) c.self.view_is in
    let old : character_rows c.self.inside.characters.entries ≡ c.args.self.now.characters = ap (λ (t : KeysymNames). t.characters) c.self.view_is in
    let absent : first_character c.args.self.now.characters c.args.keysym ≡ None = grind (arith, common_steps) in
    let new : first_character (character_rows c.self.inside.characters.entries) row.value ≡ None = ap (λ rows. first_character rows c.args.keysym) old ∙ absent in
    let grown = ap character_rows c.in_ok-insert.ensures.entries ∙ character_rows-insert c.self.inside.characters row new in
    same_names names (grown ∙ ap (λ rows. rows ++ row ∷ []) old ∙ sym (with_character-new c.args.self.now.characters c.args.keysym c.args.character absent))
