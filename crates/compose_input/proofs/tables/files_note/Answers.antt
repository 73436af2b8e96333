use Rattle.std.proofs.Common.{◌∙◌, sym}
use Rattle.compose_input.proofs.Trees.{is_tree, is_note}
use Rattle.compose_input.proofs.tables.files_note.Goals as goal

pub returns-in-Some : goal.returns-in-Some
returns-in-Some c =
    is_note c.args.places c.args.path.now c.args.found.now c.in-Some.tree.now c.outside_text.result
    (is_tree c.args.places.tree c.locale_tree.result c.in-Some.tree c.args.path.now (sym c.in-Some.is ∙ c.or.ensures) c.locale_tree.ensures) c.outside_text.ensures
