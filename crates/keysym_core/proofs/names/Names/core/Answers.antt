use Rattle.std.proofs.Common.{◌∙◌}
use Rattle.keysym_core.proofs.Rows.{same_names}
use Rattle.keysym_core.proofs.names.Names.core.Goals as goal
use Rattle.std.proofs.Common.{refl}

pub returns-clause-ok : goal.returns-clause-ok
returns-clause-ok c = c.in_ok-of_table.ensures ∙ c.in_ok-table.ensures ∙ same_names c.law_core_names.ensures refl
