use denote.Plain.{UInt}
use denote.Param.Send.{IsSend, IsSync, sendable}
use mir.Syntax.{w64}
use Rattle.std.proofs.Crossing.{crosses}
use Rattle.fo_gate.specs.declared.turned.Turned.{Ghosts}
use Rattle.fo_gate.specs.contracts.gate.Gate as Gate
use Rattle.fo_gate.specs.contracts.gate.Seat as Seat
use Rattle.fo_gate.proofs.Sends.{seat_send, gate_sync}
use Rattle.test_gate.specs.contracts.meanwhile.Patient as Patient
use Rattle.test_gate.proofs.meanwhile.read_meanwhile.Goals as goal

-- a seat of a gate round this state, and such a gate, may cross threads: `search` does not find it where the state is not plain
patient_send : IsSend Patient.the_row
patient_send = search (sendable, crosses) depth 40

patient_seat : (t : Ghosts (Patient.the_row).Denot (UInt w64).Denot (UInt w64).Denot) → IsSend (Seat.the_row Patient.the_row (UInt w64) (UInt w64) t)
patient_seat t = seat_send Patient.the_row (UInt w64) (UInt w64) t patient_send

patient_gate : (t : Ghosts (Patient.the_row).Denot (UInt w64).Denot (UInt w64).Denot) → IsSync (Gate.the_row Patient.the_row (UInt w64) (UInt w64) t)
patient_gate t = gate_sync Patient.the_row (UInt w64) (UInt w64) t patient_send

pub join-requires-send-F : goal.join-requires-send-F
join-requires-send-F g c κs within = search (patient_seat, patient_gate, sendable) depth 40

pub join-requires-send-A : goal.join-requires-send-A
join-requires-send-A g c κs within = search (patient_seat, sendable) depth 40
