use denote.Exit.{no}
use denote.RattleType.{RattleType}
use denote.Param.Send.{IsSend, param_send, arg_send, shr_send}
use denote.Param.SendFields.{declared_send, as_row_send}
use denote.Struct.Field.{row_field}
use denote.Struct.Tuple.{TupleAt, type_at}
use mir.Syntax.{Sym}
use Rattle.std.proofs.Common.{[], ◌∷◌}
use Rattle.fo_gate.specs.contracts.gate.Gate as Gate
use Rattle.fo_gate.specs.contracts.gate.Seat as Seat
use Rattle.fo_gate.proofs.Sends.{seat_send, gate_sync}
use Rattle.test_gate.specs.contracts.shared.epochs_in_two as row
use Rattle.test_gate.proofs.shared.epochs_in_two.Goals as goal

-- a closure that captures two values
two_captured : (ν : Sym) (A B : RattleType) → IsSend A → IsSend B → IsSend (TupleAt ν (A ∷ B ∷ []))
two_captured ν A B a b = declared_send (type_at ν (A ∷ B ∷ [])) (as_row_send (row_field A) a, (as_row_send (row_field B) b, tt))

pub join-seat-requires-send-F : goal.join-seat-requires-send-F
join-seat-requires-send-F g c κs within =
    let S = row.S-row g.row.S g.row.R g.row.S-Event g.row.S-Outcome in
    let E = row.S-Event-row g.row.S g.row.R g.row.S-Event g.row.S-Outcome in
    let O = row.S-Outcome-row g.row.S g.row.R g.row.S-Event g.row.S-Outcome in
    let seat = seat_send S E O g.S.Turned c.type_bounds.send-S in
    let gate = gate_sync S E O g.S.Turned c.type_bounds.send-S in
    param_send 1 _ (arg_send _ no _ (two_captured _ _ (Seat.the_row S E O g.S.Turned) (shr_send _ _ (Gate.the_row S E O g.S.Turned) gate) seat))

pub join-seat-requires-send-A : goal.join-seat-requires-send-A
join-seat-requires-send-A g c κs within =
    let S = row.S-row g.row.S g.row.R g.row.S-Event g.row.S-Outcome in
    let E = row.S-Event-row g.row.S g.row.R g.row.S-Event g.row.S-Outcome in
    let O = row.S-Outcome-row g.row.S g.row.R g.row.S-Event g.row.S-Outcome in
    param_send 3 _ (arg_send _ no _ (seat_send S E O g.S.Turned c.type_bounds.send-S))
