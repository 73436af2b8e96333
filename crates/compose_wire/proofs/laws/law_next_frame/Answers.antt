use Rattle.compose_wire.proofs.NextFrame.{no_fault, frame_whole, has_frame, begun_short}
use Rattle.compose_wire.proofs.FaultStays.{fault_stays}
use Rattle.compose_wire.proofs.laws.law_next_frame.Goals as goal

pub returns : goal.returns
returns c = record { no_fault = no_fault; whole = frame_whole; stands = has_frame; short = begun_short; stays = fault_stays }
