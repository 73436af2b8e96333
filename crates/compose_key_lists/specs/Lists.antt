-- The line of standard input that has a refused key (this project's profile).
use Rattle.std.specs.Prelude.{ℕ, ◌+◌, ◌-◌, nat_lt, if◌then◌else◌, List, [], ◌∷◌, ◌++◌, Result, Err, codes}
use Rattle.std.specs.Fmt.{decimal}
use Rattle.compose_answer.specs.declared.answer.Answer.{Answer}
use Rattle.compose_migration.specs.declared.refusal.Refusal.{Refusal}
use Rattle.compose_migration.specs.declared.refusal.Refusal.TheVariants.{Key}

-- the number of the line that has the key with this index, by the number of keys in each line
abbrev pub line_from : ℕ → List ℕ → ℕ → ℕ
line_from line [] index = line
line_from line (count ∷ counts) index = if nat_lt index count then line else line_from (1 + line) counts (index - count)

abbrev pub line_of : List ℕ → ℕ → ℕ
line_of counts index = line_from 1 counts index

-- the message about the line of a key that has no keysym (code 10 ends it)
abbrev pub refused_line : List ℕ → Result Answer Refusal → List ℕ
refused_line counts (Err (Key index)) = codes "composecheck: the key is in line " ++ (decimal (line_of counts index) ++ codes " of standard input\n")
refused_line counts answered = []
