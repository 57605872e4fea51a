use denote.Param.Send.{sendable}
use Rattle.std.proofs.Crossing.{crosses}
use Rattle.fo_gate.proofs.Sends.{seat_send, gate_sync}
use Rattle.test_gate.proofs.counting.count_in_two.Goals as goal

pub join-seat-requires-send-F : goal.join-seat-requires-send-F
join-seat-requires-send-F g c κs within = search (seat_send, gate_sync, sendable, crosses) depth 40

pub join-seat-requires-send-A : goal.join-seat-requires-send-A
join-seat-requires-send-A g c κs within = search (seat_send, sendable, crosses) depth 40
