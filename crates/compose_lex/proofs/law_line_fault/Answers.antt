use Rattle.compose_lex.proofs.LineFaults.{line_fault_sound, line_fault_read, one_line_fault}
use Rattle.compose_lex.proofs.law_line_fault.Goals as goal

pub returns : goal.returns
returns c = record { content = line_fault_sound; read = line_fault_read; one = one_line_fault }
