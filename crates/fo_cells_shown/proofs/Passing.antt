-- Each image of each moment of a write and of a sync is shown.
use Rattle.std.proofs.Common.{◌≡◌, ℕ, ◌<◌, Bool, true, false, not, List, length, sym, subst}
use Rattle.std.specs.Prelude.{Result, Ok, Err, is_err}
use Rattle.std.specs.List.{Contains}
use Rattle.fo_disk.specs.Disk.{Block, IsImage, IsNewest, Passes, Since}
use Rattle.fo_disk.specs.Disk.{Content as Holds, Writes as DiskWrites, Syncs as DiskSyncs}
use Rattle.fo_disk.proofs.Moments.{started, goes_on}
use Rattle.fo_image.specs.declared.types.State.TheVariants.{Closed}
use Rattle.fo_crash.specs.declared.place.Place.{Place}
use Rattle.fo_crash.specs.Images.{Content, SameContent}
use Rattle.fo_crash.specs.Steps.{AddsNothing}
use Rattle.fo_cells.specs.Known.{Remains, Stands}
use Rattle.fo_cells.specs.Laws.{Safe}
use Rattle.fo_cells.specs.Safe.{IsCurrent}
use Rattle.fo_cells.specs.Device.{Clearing, Mind, MayWrite, MayWriteLabels, known, wrote, synced}
use Rattle.fo_cells.proofs.Standing.{stands_top}
use Rattle.fo_cells.proofs.Calls.{known_write, known_sync}
use Rattle.fo_cells.proofs.LabelCalls.{labels_known}
use Rattle.fo_cells_out.specs.Origins.{Origins}
use Rattle.fo_cells_epochs.specs.Epochs.{IsRead, NamesSet}
use Rattle.fo_cells_all.specs.All.{Kept, Format}
use Rattle.fo_cells_steps.specs.Division.{HoldsMade}
use Rattle.fo_cells_turns.specs.Places.{OneStep}
use Rattle.fo_cells_turns.proofs.Places.{fewer_stand}
use Rattle.fo_cells_turns.proofs.Turns.{write_turn, labels_turn, sync_turn}
use Rattle.fo_cells_shown.specs.Shown.{AreTops}
use Rattle.fo_cells_shown.specs.Moments.{IsShown, AreSettledTops}
use Rattle.fo_cells_shown.proofs.Shown.{device_shown, device_labelled}

-- what is known of a device after a call: flags of memory change, and no more
abbrev after : Mind → (ℕ → Bool) → (ℕ → Bool) → List Clearing → Mind
after m born complete clears = record m { newborn = born; complete = complete; clears = clears }

module _ (m : Mind) (born complete : ℕ → Bool) (clears : List Clearing) (high : ℕ) (doubts : List Content) (old new : Holds) (tops : List ℕ) (adds : AddsNothing (Remains (known m old)) (Remains (known (after m born complete clears) new))) (safe : Safe (known (after m born complete clears) new) high doubts) (fewer : (b : ℕ) (q : Place) → Stands (known (after m born complete clears) new) b q → Stands (known m old) b q) (settled : (t : ℕ) → m.newborn t ≡ false → born t ≡ false) (are : AreSettledTops m tops) where
  abbrev N : Mind
  N = after m born complete clears

  stand : AreTops N new tops
  stand t among = let z = are t among in (z.0, stands_top (record { at = t; place = z.0 }) z.1, settled t z.2)

  pub shown_after : (device : List Block) → IsImage new device → IsShown m old tops device
  shown_after device is =
      let o = device_shown high doubts N new device tops safe stand is in record {
        image = record { other = o.other; is = adds.each o.other o.is; same = o.same };
        labels = λ t a i b among r e.
            let l = device_labelled high doubts N new device tops safe stand is t a i b among r e in
            record { place = l.place; stands = fewer b l.place l.stands; other = l.other; kind = l.kind; tag = l.tag; fits = l.fits };
      }

-- and before it
shown_before : (m : Mind) (high : ℕ) (doubts : List Content) (old : Holds) (tops : List ℕ) → Safe (known m old) high doubts → AreSettledTops m tops → (device : List Block) → IsImage old device → IsShown m old tops device
shown_before m high doubts old tops safe are device is = shown_after m m.newborn m.complete m.clears high doubts old old tops (record { each = λ image r. r }) safe (λ b q st. st) (λ t e. e) are device is

-- each image of the moments of one call
passed : {size : ℕ} {old new : Holds} {moments later : List Holds} (m : Mind) (tops : List ℕ) → IsNewest size old moments → Passes old new moments later → ((device : List Block) → IsImage old device → IsShown m old tops device) → ((device : List Block) → IsImage new device → IsShown m old tops device) → Since moments later (IsShown m old tops)
passed {size} {old} {new} m tops newest passes first then = goes_on (started (IsShown m old tops) newest (λ told device is. first device is)) passes (λ told device is. then device is)

pub write_passes : {E : Type 0} (result : Result Unit E) (c : Kept) (f : Format) (Made : ℕ → Type 0) (h : Origins) (unsure : List Bool) (at : ℕ) (bytes : Block) (is_complete : Bool) (old new : Holds) (size : ℕ) (moments later : List Holds) (tops : List ℕ) → IsNewest size old moments → Passes old new moments later → DiskWrites at bytes result old new → at < length old → MayWrite c.mind old at bytes is_complete → NamesSet at (c.mind.read at bytes) (known c.mind old) (known (wrote at (not (is_err result)) is_complete c.mind) new) → IsCurrent (known c.mind old) c.high at → (at ≡ 1 → SameContent (c.mind.read at bytes) (c.mind.memory 1)) → (Made at → ⊥) → c.buffering.held at ≡ true → c.flags.dirty at ≡ true → ((c.mind.label at).state ≡ Closed → is_complete ≡ true) → IsRead f.high_of → HoldsMade c f Made h unsure old → AreSettledTops c.mind tops → Since moments later (IsShown c.mind old tops)
write_passes result c f Made h unsure at bytes is_complete old new size moments later tops newest passes w within may names current super linked held dirty whole read all are =
    let k = known_write result c.mind at bytes is_complete old new w within may in
    let turn = write_turn result c f Made h unsure at bytes is_complete old new w within may names current super linked held dirty whole read all in
    let n = wrote at (not (is_err result)) is_complete c.mind in
    passed c.mind tops newest passes
    (shown_before c.mind c.high c.doubts old tops all.all.epochs.safe are)
    (shown_after c.mind n.newborn n.complete n.clears c.high c.doubts old new tops turn.0 (turn.1).all.epochs.safe (λ b q st. fewer_stand (known c.mind old) (known n new) (OneStep.writes at (c.mind.read at bytes) k) all.all.epochs.safe.kept b q st) (λ t e. e) are)

pub labels_pass : {E : Type 0} (result : Result Unit E) (c : Kept) (f : Format) (Made : ℕ → Type 0) (h : Origins) (unsure : List Bool) (at : ℕ) (bytes : Block) (old new : Holds) (size : ℕ) (moments later : List Holds) (tops : List ℕ) → IsNewest size old moments → Passes old new moments later → DiskWrites at bytes result old new → at < length old → MayWriteLabels c.mind at bytes → c.mind.read at bytes ≡ c.mind.memory at → c.buffering.held at ≡ true → c.flags.dirty at ≡ true → IsRead f.high_of → HoldsMade c f Made h unsure old → AreSettledTops c.mind tops → Since moments later (IsShown c.mind old tops)
labels_pass result c f Made h unsure at bytes old new size moments later tops newest passes w within may blank held dirty read all are =
    let k = labels_known result c.mind at bytes true old new w within (all.all.fits.some at within) may in
    let turn = labels_turn result c f Made h unsure at bytes old new w within may blank held dirty read all in
    let n = wrote at (not (is_err result)) true c.mind in
    passed c.mind tops newest passes
    (shown_before c.mind c.high c.doubts old tops all.all.epochs.safe are)
    (shown_after c.mind n.newborn n.complete n.clears c.high c.doubts old new tops turn.0 (turn.1).all.epochs.safe (λ b q st. fewer_stand (known c.mind old) (known n new) (OneStep.labels k) all.all.epochs.safe.kept b q st) (λ t e. e) are)

-- what was settled whole is so after a sync
still_settled : (x y : Bool) → x ≡ false → Rattle.std.specs.Prelude.◌&&◌ x y ≡ false
still_settled true y e = absurd (cc)
still_settled false y e = Rattle.std.proofs.Common.refl

pub sync_passes : {E : Type 0} (result : Result Unit E) (c : Kept) (f : Format) (Made : ℕ → Type 0) (h : Origins) (unsure : List Bool) (old new : Holds) (size : ℕ) (moments later : List Holds) (tops : List ℕ) → IsNewest size old moments → Passes old new moments later → DiskSyncs unsure result old new → ((b : ℕ) → Made b → b < length old) → IsRead f.high_of → HoldsMade c f Made h unsure old → AreSettledTops c.mind tops → Since moments later (IsShown c.mind old tops)
sync_passes {E} (Ok x) c f Made h unsure old new size moments later tops newest passes y inside read all are =
    let k = known_sync {E = E} (Ok x) c.mind unsure old new y all.all.fits Rattle.std.proofs.Common.refl in
    let turn = sync_turn {E = E} (Ok x) c f Made h unsure old new y inside read all in
    let n = synced c.mind in
    passed c.mind tops newest passes
    (shown_before c.mind c.high c.doubts old tops all.all.epochs.safe are)
    (shown_after c.mind n.newborn n.complete n.clears c.high c.doubts old new tops turn.0 (turn.1).all.epochs.safe (λ b q st. fewer_stand (known c.mind old) (known n new) (OneStep.syncs k) all.all.epochs.safe.kept b q st) (λ t e. still_settled (c.mind.newborn t) (not (c.mind.complete t)) e) are)
sync_passes {E} (Err e) c f Made h unsure old new size moments later tops newest passes y inside read all are =
    let first = shown_before c.mind c.high c.doubts old tops all.all.epochs.safe are in
    passed c.mind tops newest passes first (λ device is. first device (subst (λ (k : Holds). IsImage k device) y is))
