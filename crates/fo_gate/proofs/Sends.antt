-- A seat may cross threads where the state may. `search` does not go so deep by itself.
use denote.RattleType.{RattleType}
use denote.Hole.{as_row}
use denote.Struct.Field.{row_field}
use denote.Param.Send.{IsSend, IsSync, sendable}
use denote.Param.SendFields.{declared_send, declared_sync, variants_send, as_row_send, as_row_sync}
use Rattle.std.proofs.Crossing.{crosses}
use Rattle.std.specs.contracts.snapshot.Snapshot as Snapshot
use Rattle.atomic_table.proofs.shared.Seat.TheSendSync as table
use Rattle.atomic_table.specs.contracts.shared.Seat as Lock
use Rattle.fo_gate.specs.declared.turned.Turned.{Ghosts}
use Rattle.fo_gate.specs.contracts.rule.Slot as Slot
use Rattle.fo_gate.specs.contracts.view.View as View
use Rattle.fo_gate.specs.contracts.gate.Seat as Seat
use Rattle.fo_gate.specs.contracts.gate.Gate as Gate
use Rattle.atomic_table.proofs.send_lease.SendLease.TheSendSync as lease
use Rattle.fo_gate.specs.contracts.rule.Start as Start
use Rattle.fo_gate.specs.contracts.rule.OneHistory as OneHistory
use Rattle.fo_gate.specs.contracts.rule.OneHistoryTableRuleSlotEventOutcomeViewEventOutcomeStart.TheImpl as rule
use Rattle.atomic_table.specs.contracts.owned.Table as Table
use Rattle.atomic_table.specs.declared.shared.TableRule.{Ghosts as Rules}
use Rattle.atomic_table.specs.contracts.shared.Shared as Shared
use Rattle.std.specs.contracts.alloc.Global as Global
use Rattle.std.specs.contracts.impls.GlobalAllocator.TheImpl as heap
use Rattle.atomic_table.proofs.shared.Shared.TheSendSync as shared

note_send : (Y : RattleType) → IsSend (Snapshot.the_row Y)
note_send Y = search crosses

pub slot_send : (S E O : RattleType) → IsSend S → IsSend (Slot.the_row S E O)
slot_send S E O s = variants_send (Slot.enum S E O)
    ((as_row_send (row_field S) s, (search sendable, tt)), (tt, ((as_row_send (Snapshot.the_field E) (note_send E), (as_row_send (Snapshot.the_field O) (note_send O), (as_row_send (Snapshot.the_field S) (note_send S), tt))), tt)))

pub seat_send : (S E O : RattleType) (t : Ghosts S.Denot E.Denot O.Denot) → IsSend S → IsSend (Seat.the_row S E O t)
seat_send S E O t s = declared_send (Seat.the_type S E O t) (as_row_send (Lock.the_field (Slot.the_row S E O) (View.the_row S E O)) (table.the_send (Slot.the_row S E O) (View.the_row S E O) (slot_send S E O s)), (search sendable, tt))

table_sync : (P V K R : RattleType) (h : Rules R.Denot P.Denot V.Denot K.Denot) → IsSend P → IsSync (Table.the_row P V K R Global.the_row h heap.ghosts)
table_sync P V K R h p = declared_sync (Table.the_type P V K R Global.the_row h heap.ghosts)
    (as_row_sync (Shared.the_field P V K R h) (shared.the_sync P V K R h p), (search sendable, (search sendable, (search (sendable, crosses, lease.the_sync, as_row_sync) depth 20, (search (sendable, crosses, lease.the_sync, as_row_sync) depth 20, (search (sendable, crosses) depth 20, tt))))))

table_field_sync : (P V K R : RattleType) (h : Rules R.Denot P.Denot V.Denot K.Denot) → IsSend P → IsSync (as_row (Table.the_field P V K R Global.the_row h heap.ghosts))
table_field_sync P V K R h p = table_sync P V K R h p

pub gate_sync : (S E O : RattleType) (t : Ghosts S.Denot E.Denot O.Denot) → IsSend S → IsSync (Gate.the_row S E O t)
gate_sync S E O t s = declared_sync (Gate.the_type S E O t)
    (table_field_sync (Slot.the_row S E O) (View.the_row S E O) (Start.the_row S) OneHistory.the_row (rule.ghosts S E O t rule.no_dict) (slot_send S E O s), (search sendable, tt))
