use Rattle.compose_diff_rows.proofs.FirstTyping.{first_typing_least, none_gives}
use Rattle.compose_diff_rows.proofs.law_typing.Goals as goal

pub returns : goal.returns
returns c = record {
  found = λ table text s h. first_typing_least table h text s;
  none = λ table text h. none_gives table h text;
}
