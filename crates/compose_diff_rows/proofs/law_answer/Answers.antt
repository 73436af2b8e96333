use Rattle.compose_diff_rows.proofs.Following.{follows_is, meant_is}
use Rattle.compose_diff_rows.proofs.law_answer.Goals as goal

pub returns : goal.returns
returns c = record {
  follows = follows_is;
  meant = λ asked e answer lines. meant_is asked e answer lines;
}
