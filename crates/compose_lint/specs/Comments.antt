-- The comments of lines, and their texts.
use Rattle.std.specs.Prelude.{Bool, false, ◌&&◌, List, map, flat_map, Option, option_to_list}
use Rattle.std.specs.Option.{option_map, option_map_or, option_and_then}
use Rattle.compose_lint.specs.Lines.{LintLine}
use Rattle.compose_lint.specs.Commonest.{Note, has_other}

-- the comment of a line, and the text that the line produces
abbrev pub comment_note : LintLine → Option Note
comment_note l = option_and_then (λ c. option_map (λ d. record { key = c; value = d.text }) l.definition) l.comment

-- the comments of these lines, each with the text of its line
abbrev pub comments_in : List LintLine → List Note
comments_in lines = flat_map (λ l. option_to_list (comment_note l)) lines

abbrev pub turned : Note → Note
turned n = record { key = n.value; value = n.key }

-- the comment occurs most often with another text, and the text with another comment
abbrev pub is_misplaced : List Note → Note → Bool
is_misplaced notes n = has_other notes n.key n.value && has_other (map turned notes) n.value n.key

abbrev pub has_misplaced_comment : List LintLine → LintLine → Bool
has_misplaced_comment lines l = option_map_or (is_misplaced (comments_in lines)) (comment_note l) false
