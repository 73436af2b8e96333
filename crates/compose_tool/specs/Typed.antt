-- The lines printed for typed keys: at each key the word for what happened, and the text that was
-- committed (this project's profile).
use Rattle.std.specs.Prelude.{ℕ, List, [], ◌∷◌, ◌++◌, drop, flat_map, take, codes}
use Rattle.keysym_core.specs.Names.{KeysymNames}
use Rattle.compose_model.specs.Table.{Definition}
use Rattle.compose_model.specs.Step.{Effect, ignores, extends, completes, passes, cancels, Step, run}
use Rattle.compose_lex.specs.Escape.{quote}
use Rattle.compose_state.specs.declared.fed.Fed.{Fed}
use Rattle.compose_state.specs.Texts.{text_bytes}
use Rattle.compose_state.specs.Answers.{fed_word}

abbrev pub effect_word : Effect → List ℕ
effect_word ignores = codes "ignored"
effect_word extends = codes "composing"
effect_word completes = codes "composed"
effect_word passes = codes "nothing"
effect_word cancels = codes "cancelled"

-- the word, a blank, the text in quotes, and a newline
abbrev pub typed_line : Step → List ℕ
typed_line s = effect_word s.effect ++ (32 ∷ (quote s.text ++ (10 ∷ [])))

-- a line for each key
abbrev pub typed_lines : KeysymNames → List Definition → List ℕ → List ℕ
typed_lines names table keys = flat_map typed_line (run names table keys)

-- the same for a list of keys among others, and an empty line after it (code 10 ends a line)
abbrev pub typed_list : KeysymNames → List Definition → List ℕ → List ℕ
typed_list names table keys = typed_lines names table keys ++ 10 ∷ []

-- the lists of keys, one after another, each with this number of keys; each list is typed from rest
abbrev pub typed_lists : KeysymNames → List Definition → List ℕ → List ℕ → List ℕ
typed_lists names table keys [] = []
typed_lists names table keys (count ∷ counts) = typed_list names table (take count keys) ++ typed_lists names table (drop count keys) counts

-- the same for an answer of a compose state
abbrev pub fed_line : Fed → List ℕ
fed_line answer = fed_word answer ++ (32 ∷ (quote (text_bytes answer.text) ++ (10 ∷ [])))
