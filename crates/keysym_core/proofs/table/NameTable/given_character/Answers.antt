use Rattle.std.proofs.Common.{◌∙◌, ap}
use Rattle.keysym_core.specs.Names.{first_character, KeysymNames}
use Rattle.keysym_core.proofs.Rows.{first_character-character_rows}
use Rattle.keysym_core.proofs.table.NameTable.given_character.Goals as goal

pub returns : goal.returns
returns c =
    c.copied.ensures ∙ c.get.ensures.value ∙ first_character-character_rows c.args.keysym c.self.inside.characters.entries
    ∙ ap (λ (t : KeysymNames). first_character t.characters c.args.keysym) c.self.view_is
