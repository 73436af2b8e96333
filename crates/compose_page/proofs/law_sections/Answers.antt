use Rattle.compose_page.proofs.Parted.{each_in_one}
use Rattle.compose_page.proofs.law_sections.Goals as goal

pub returns : goal.returns
returns c = each_in_one
