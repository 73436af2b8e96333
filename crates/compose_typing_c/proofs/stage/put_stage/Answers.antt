use Rattle.std.proofs.Common.{sym, ap, ◌∙◌}
use Rattle.compose_typing_c.specs.Clients.{answer_of}
use Rattle.compose_typing_c.proofs.Kept.{connecting_kept, opening_kept, feeding_kept, asking_kept}
use Rattle.compose_typing_c.proofs.stage.put_stage.Goals as goal

pub returns-in-Connecting : goal.returns-in-Connecting
returns-in-Connecting c = let e = c.put_waiting.ensures in connecting_kept c.put_waiting.new.fields c.in-Connecting.waiting e.keysym e.waiting e.number ∙ sym c.in-Connecting.is

pub returns-in-Opening : goal.returns-in-Opening
returns-in-Opening c = let e = c.put_waiting-in-Opening.ensures in opening_kept c.put_waiting-in-Opening.new.fields c.in-Opening.waiting e.keysym e.waiting e.number ∙ sym c.in-Opening.is

pub returns-in-Feeding : goal.returns-in-Feeding
returns-in-Feeding c =
    let e = c.put_waiting-in-Feeding.ensures in
    feeding_kept c.put_waiting-in-Feeding.new.fields c.in-Feeding.waiting e.keysym e.waiting c.in-Feeding.left e.number e.left ∙ sym c.in-Feeding.is

pub returns-in-Asking : goal.returns-in-Asking
returns-in-Asking c =
    let e = c.put_waiting-in-Asking.ensures in
    asking_kept c.put_waiting-in-Asking.new.fields c.in-Asking.waiting e.keysym e.waiting c.in-Asking.answer e.number (ap answer_of e.answer ∙ c.put_answer.ensures) ∙ sym c.in-Asking.is
