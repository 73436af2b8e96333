use Rattle.compose_skip.proofs.Reading.{kept_is_right, kept_result, none_faulty, table_of_others}
use Rattle.compose_skip.proofs.law_other_lines.Goals as goal

pub returns-clause-table : goal.returns-clause-table
returns-clause-table c = λ names sources others root table are h. table_of_others names sources others are root table h

pub returns-clause-lines : goal.returns-clause-lines
returns-clause-lines c = λ names sources others v are. kept_result names sources others are v

pub returns-clause-right : goal.returns-clause-right
returns-clause-right c = λ names v. kept_is_right names v

pub returns-clause-faultless : goal.returns-clause-faultless
returns-clause-faultless c = λ names sources others are. none_faulty names sources others are
