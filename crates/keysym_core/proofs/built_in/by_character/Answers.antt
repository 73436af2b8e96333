use Rattle.keysym_core.proofs.BuiltInCharacters.{index_counts, index_of_keysyms, index_is_sorted}
use Rattle.keysym_core.proofs.built_in.by_character.Goals as goal

pub returns-clause-counting : goal.returns-clause-counting
returns-clause-counting c = index_counts

pub returns-clause-keysyms : goal.returns-clause-keysyms
returns-clause-keysyms c = index_of_keysyms

pub returns-clause-sorted : goal.returns-clause-sorted
returns-clause-sorted c = index_is_sorted
