use Rattle.keysym_core.proofs.HeaderRead.{line_read, one_entry}
use Rattle.keysym_core.proofs.HeaderSound.{line_sound}
use Rattle.keysym_core.proofs.law_header_line.Goals as goal

pub returns : goal.returns
returns c = record { read = line_read; expected = line_sound; one = one_entry }
