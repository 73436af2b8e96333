use Rattle.compose_lex.proofs.TextFaults.{text_fault_sound, text_fault_read, one_text_fault}
use Rattle.compose_lex.proofs.law_text_fault.Goals as goal

pub returns : goal.returns
returns c = record { content = text_fault_sound; read = text_fault_read; one = one_text_fault }
