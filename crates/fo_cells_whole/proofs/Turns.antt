-- Writes and syncs of the device: memory is as it was.
use Rattle.std.proofs.Common.{◌≡◌, inl, ℕ, ◌<◌, Bool, true, false, not, List, length, set, refl}
use Rattle.std.specs.Prelude.{Result, Ok, Err, is_err}
use Rattle.fo_disk.specs.Disk.{Block}
use Rattle.fo_disk.specs.Disk.{Content as Holds, Writes as DiskWrites, Syncs as DiskSyncs}
use Rattle.fo_image.specs.declared.types.State.TheVariants.{Closed}
use Rattle.fo_crash.specs.Images.{SameContent}
use Rattle.fo_crash.specs.Steps.{AddsNothing}
use Rattle.fo_cells.specs.Safe.{IsCurrent}
use Rattle.fo_cells.specs.Device.{MayWrite, MayWriteLabels, known, wrote}
use Rattle.fo_cells_out.specs.Origins.{Origins}
use Rattle.fo_cells_epochs.specs.Epochs.{IsRead, NamesSet}
use Rattle.fo_cells_all.specs.All.{Kept, Format, kept_write, kept_sync}
use Rattle.fo_cells_steps.specs.Calls.{images}
use Rattle.fo_cells_shown.proofs.of_cells_turns.Turns.{write_turn, labels_turn, sync_turn}
use Rattle.fo_cells_whole.specs.Whole.{HoldsWhole, whole_sync}
use Rattle.fo_cells_whole.proofs.Certain.{KeepsMore, marked_was, none_left, left_made}
use Rattle.fo_cells_whole.proofs.Rest.{SameSlots, slots_rest, whole_by}

pub write_slots : (at : ℕ) (ok is_complete : Bool) (c : Kept) → SameSlots c (kept_write at ok is_complete c)
write_slots at ok is_complete c = record { slots = λ a i. refl; label = refl; low = refl; high = refl; roots = refl; past = refl; queue = λ b ne is. inl is }

write_more : (at : ℕ) (ok is_complete : Bool) (c : Kept) → KeepsMore c (kept_write at ok is_complete c)
write_more at ok is_complete c = record { certain = λ before now. before (marked_was at ok is_complete c.flags now); awaited = λ before. before }

pub sync_slots : {E : Type 0} (result : Result Unit E) (c : Kept) → SameSlots c (whole_sync result c)
sync_slots (Ok x) c = record { slots = λ a i. refl; label = refl; low = refl; high = refl; roots = refl; past = refl; queue = λ b ne is. inl is }
sync_slots (Err e) c = record { slots = λ a i. refl; label = refl; low = refl; high = refl; roots = refl; past = refl; queue = λ b ne is. inl is }

sync_more : {E : Type 0} (result : Result Unit E) (c : Kept) → KeepsMore c (whole_sync result c)
sync_more (Ok x) c = record { certain = λ before now. none_left (record c.flags { wrote = λ b. false }) c.doubts now; awaited = λ before. before }
sync_more (Err e) c = record { certain = λ before now. none_left c.flags c.doubts now; awaited = λ before. before }

pub write_whole_turn : {E : Type 0} (result : Result Unit E) (c : Kept) (f : Format) (Made : ℕ → Type 0) (h : Origins) (unsure : List Bool) (at : ℕ) (bytes : Block) (is_complete : Bool) (old new : Holds) → DiskWrites at bytes result old new → at < length old → MayWrite c.mind old at bytes is_complete → NamesSet at (c.mind.read at bytes) (known c.mind old) (known (wrote at (not (is_err result)) is_complete c.mind) new) → IsCurrent (known c.mind old) c.high at → (at ≡ 1 → SameContent (c.mind.read at bytes) (c.mind.memory 1)) → (Made at → ⊥) → c.buffering.held at ≡ true → c.flags.dirty at ≡ true → ((c.mind.label at).state ≡ Closed → is_complete ≡ true) → IsRead f.high_of → HoldsWhole c f Made h unsure old → AddsNothing (images c old) (images (kept_write at (not (is_err result)) is_complete c) new) × HoldsWhole (kept_write at (not (is_err result)) is_complete c) f Made h (set unsure at (is_err result)) new
write_whole_turn result c f Made h unsure at bytes is_complete old new w within may names current super linked held dirty whole read all = let x = write_turn result c f Made h unsure at bytes is_complete old new w within may names current super linked held dirty whole read all.made in (x.0, whole_by (slots_rest old new (write_slots at (not (is_err result)) is_complete c)) (write_more at (not (is_err result)) is_complete c) x.1 all)

pub labels_whole_turn : {E : Type 0} (result : Result Unit E) (c : Kept) (f : Format) (Made : ℕ → Type 0) (h : Origins) (unsure : List Bool) (at : ℕ) (bytes : Block) (old new : Holds) → DiskWrites at bytes result old new → at < length old → MayWriteLabels c.mind at bytes → c.mind.read at bytes ≡ c.mind.memory at → c.buffering.held at ≡ true → c.flags.dirty at ≡ true → IsRead f.high_of → HoldsWhole c f Made h unsure old → AddsNothing (images c old) (images (kept_write at (not (is_err result)) true c) new) × HoldsWhole (kept_write at (not (is_err result)) true c) f Made h (set unsure at (is_err result)) new
labels_whole_turn result c f Made h unsure at bytes old new w within may blank held dirty read all = let x = labels_turn result c f Made h unsure at bytes old new w within may blank held dirty read all.made in (x.0, whole_by (slots_rest old new (write_slots at (not (is_err result)) true c)) (write_more at (not (is_err result)) true c) x.1 all)

pub sync_whole_turn : {E : Type 0} (result : Result Unit E) (c : Kept) (f : Format) (Made : ℕ → Type 0) (h : Origins) (unsure : List Bool) (old new : Holds) → DiskSyncs unsure result old new → ((b : ℕ) → Made b → b < length old) → IsRead f.high_of → HoldsWhole c f Made h unsure old → AddsNothing (images c old) (images (whole_sync result c) new) × HoldsWhole (whole_sync result c) f Made h unsure new
sync_whole_turn result c f Made h unsure old new y inside read all = let x = sync_turn result c f Made h unsure old new y inside read all.made in (x.0, whole_by (slots_rest old new (sync_slots result c)) (sync_more result c) (left_made (kept_sync result c) x.1) all)
