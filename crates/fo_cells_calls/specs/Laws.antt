-- Each method of `Blocks`, as a step of a cache: what it adds to the images.
use Rattle.fo_image.specs.declared.types.Pointer.TheVariants.{Local}
use Rattle.std.specs.Prelude.{◌≡◌, ◌≢◌, ◌⊎◌, ◌↔◌, ◌<◌, ◌≤◌, ℕ, true, false, List}
use Rattle.std.specs.List.{Contains}
use Rattle.fo_image.specs.declared.types.Label.{Label}
use Rattle.fo_crash.specs.declared.slot.Slot.{Slot}
use Rattle.fo_crash.specs.declared.place.Place.{Place}
use Rattle.fo_crash.specs.Images.{Content, SameContent, SameImage, Reaches, to_block, Image, target}
use Rattle.fo_crash.specs.Steps.{AddsNothing, AddsSlot, AddsBytes, AddsBlock, AddsSuper, Brings, Fills, HasBytes, HasSuper, IsSure, IsOneOf, AllAre, PutsBlock, Passes, cleared}
use Rattle.fo_image.specs.declared.types.Kind.TheVariants.{Dir}
use Rattle.fo_image.specs.Usable.{is_usable}
use Rattle.fo_image.specs.declared.types.State.TheVariants.{Live}
use Rattle.fo_crash.specs.Places.{super_place, IsPlaced, OnePlace, RanksFall}
use Rattle.fo_crash.specs.Names.{SameUse}
use Rattle.fo_cells.specs.Known.{Known, Top, IsWait, IsClear, IsLeft, Stands}
use Rattle.fo_cells.specs.Writes.{Writes, WritesLabels, Syncs, Ends, Puts, Gives, Relabels, Fires}
use Rattle.fo_cells.specs.Calls.{PutsInto, Awaits, WaitsMore, IsSetLeaf, TriesSuper, SameButSuper}
use Rattle.fo_cells.specs.Safe.{IsLive, IsCurrent, MayWait, MayClear, IsSet}
use Rattle.fo_cells.specs.Laws.{Safe, IsQuiet, KeepsTop, NoWait}
use Rattle.fo_cells_calls.specs.State.{Rest, Looked, Reads, OthersWait, RaisesLimit, state_of}
use Rattle.fo_ports.specs.State.{Looks, AddsNoWait, KeepsOrder, WasCleared, State, IsPairUsed, none}

-- `get`
abbrev pub GetLooks : Known → Rest → Rest → Type 0
GetLooks k x y = (high : ℕ) (doubts : List Content) → Safe k high doubts → Looked k x y → Looks (state_of k x) (state_of k y)

-- `put_bytes`
abbrev pub PutBytesAdds : Known → Known → Rest → Rest → Type 0
PutBytesAdds old new x y = (y.tells → x.tells) → (at : ℕ) (bytes : List ℕ) (doubts : List Content) → PutsInto at bytes old new → IsCurrent old x.high at → at ≢ 1 → Safe old x.high doubts → AddsBytes (state_of old x).now at bytes (λ image. (on j : ℕ) → (state_of old x).waits at on j → ((state_of old x).clearing on j → ⊥) → SameUse ((image on).slot j) (((state_of old x).now on).slot j)) (state_of old x).may_leave (state_of new y).may_leave

-- `put_slot`, and `remove_slot` at once after nothing
abbrev pub PutSlotAdds : Known → Known → Rest → Rest → Type 0
PutSlotAdds old new x y = (y.tells → x.tells) → (at i : ℕ) (s : Slot) (doubts : List Content) → Puts at i s old new → KeepsTop old new → IsCurrent old x.high at → at ≢ 1 → (old.label at).epoch ≡ x.high → Brings old.memory s (λ b. IsLive x.high (old.label b)) → Safe old x.high doubts → AddsSlot (state_of old x).now at i s (λ image. Unit {0}) (state_of old x).may_leave (state_of new y).may_leave

-- `remove_slot` at once after a leaf that is set
abbrev pub RemoveSlotAdds : Known → Known → Rest → Rest → Type 0
RemoveSlotAdds old new x y = (y.tells → x.tells) → (at i leaf : ℕ) (doubts : List Content) → Puts at i (cleared ((old.memory at).slot i)) old new → IsSetLeaf new leaf → KeepsTop old new → IsCurrent old x.high at → at ≢ 1 → (old.label at).epoch ≡ x.high → Safe old x.high doubts → AddsSlot (state_of old x).now at i (cleared ((old.memory at).slot i)) (λ image. (image leaf).bytes ≡ ((state_of old x).now leaf).bytes) (state_of old x).may_leave (state_of new y).may_leave × HasBytes (state_of old x).now leaf (state_of new y).may_leave

-- `remove_slot` that waits
abbrev pub RemoveSlotWaits : Known → Known → Rest → Rest → Type 0
RemoveSlotWaits old new x y = (y.tells → x.tells) → (at i leaf : ℕ) (doubts : List Content) → Awaits at i leaf old new → MayClear old x.high at leaf → Safe old x.high doubts → AddsSlot (state_of old x).now at i (cleared (((state_of old x).now at).slot i)) (λ image. (image leaf).bytes ≡ ((state_of old x).now leaf).bytes) (state_of old x).may_leave (state_of new y).may_leave

-- `wait_for`
abbrev pub WaitForAdds : Known → Known → Rest → Rest → Type 0
WaitForAdds old new x y = (y.tells → x.tells) → (doubts : List Content) → WaitsMore old new → ((leaf on j : ℕ) → IsWait new.waits leaf on j → IsWait old.waits leaf on j ⊎ MayWait old leaf on) → Safe old x.high doubts → AddsNothing (state_of old x).may_leave (state_of new y).may_leave

-- `new_block` and `copy`: the member `images` of `Gives`
abbrev pub GivesAdds : Known → Known → Rest → Rest → Type 0
GivesAdds old new x y = (y.tells → x.tells) → (at : ℕ) (c : Content) (p : Place) → Gives at c p old new → at ≢ 1 → ((t : ℕ) → x.tops t → (r : Place) × Stands old t r) → PutsBlock at c (state_of old x).now (state_of new y).now × AddsBlock (state_of old x).tops at c (state_of old x).may_leave (state_of new y).may_leave

-- A block that may be given out stands nowhere.
abbrev pub UsableIsNowhere : Known → Type 0
UsableIsNowhere k = (high b : ℕ) (p : Place) (doubts : List Content) → Safe k high doubts → b ≢ 1 → is_usable k.low (k.label b) ≡ true → Stands k b p → ⊥

-- `number`
abbrev pub NumberAdds : Known → Known → Rest → Rest → Type 0
NumberAdds old new x y = (y.tells → x.tells) → (d : Content) → TriesSuper d old new → RaisesLimit d old x y → AddsSuper (state_of old x).now (λ image. ((i : ℕ) → (image 1).slot i ≡ ((state_of old x).now 1).slot i) × (x.limit ((state_of old x).now 1) ≤ y.limit (image 1))) (state_of old x).may_leave (state_of new y).may_leave

-- `reserve`, `settle`, flushing and closing: the members `images` and `fills` of `Rests`
abbrev pub WriteRests : Known → Known → Rest → Rest → Type 0
WriteRests old new x y = (y.tells → x.tells) → (at : ℕ) (f : Content) → Writes at f old new → IsCurrent old x.high at → (at ≡ 1 → SameContent f (old.memory 1)) → NoWait old new → AddsNothing (state_of old x).may_leave (state_of new y).may_leave

abbrev pub DeviceRests : Known → Known → Rest → Rest → Type 0
DeviceRests old new x y = (y.tells → x.tells) → (WritesLabels old new ⊎ (Syncs old new ⊎ Ends old new)) → NoWait old new → AddsNothing (state_of old x).may_leave (state_of new y).may_leave

abbrev pub ClearingRests : Known → Known → Rest → Rest → Type 0
ClearingRests old new x y = (y.tells → x.tells) → (at i leaf : ℕ) → Fires at i leaf old new → at ≢ 1 → NoWait old new → OthersWait at i old new → AddsNothing (state_of old x).may_leave (state_of new y).may_leave × Fills (WasCleared (state_of old x) (state_of new y)) (state_of old x).now (state_of old x).may_leave (state_of new y).may_leave

abbrev pub ClosingRests : Known → Known → Rest → Rest → Type 0
ClosingRests old new x y = (y.tells → x.tells) → (b : ℕ) (l : Label) → Relabels b l old new → (Reaches old.memory (to_block 1) b → ⊥) → ((i leaf : ℕ) → IsClear old.clears b i leaf → ⊥) → AddsNothing (state_of old x).may_leave (state_of new y).may_leave

-- `settle`, answered Ok: the clause `all`
abbrev pub SettleLeaves : Known → Rest → Type 0
SettleLeaves k x = ((b : ℕ) → IsSet k b) → AllAre (state_of k x).now (state_of k x).may_leave

-- WHAT LEAVES BLOCKS AS THEY ARE: memory, images, labels, which blocks are newborn, waits, and slots that wait. (Counts, marks and what is to
-- be closed are no part of what is known of blocks.)
pub record LeavesKnown (old new : State) : Type 0 where
  pub now : SameImage new.now old.now
  pub images : AddsNothing old.may_leave new.may_leave
  pub labels : (b : ℕ) → new.label b ≡ old.label b
  pub newborn : (b : ℕ) → new.newborn b ↔ old.newborn b
  pub no_wait : AddsNoWait none old new
  pub waits : (a on j : ℕ) → old.waits a on j → new.waits a on j
  pub order : KeepsOrder none old new

-- `number_taken` and `fetch` change nothing that is known of blocks; what stood stands.
abbrev pub TakenLeaves : Known → Known → Rest → Rest → Type 0
TakenLeaves old new x y = (y.tells ↔ x.tells) → new ≡ old → LeavesKnown (state_of old x) (state_of new y) × ((b : ℕ) (p : Place) → (state_of old x).stands b p → (state_of new y).stands b p)

-- `retire`: tops become fewer, where the root was made and is queued alone; what hangs from what is left of them stands where it stood.
abbrev pub RetireLeaves : Known → Known → Rest → Rest → Type 0
RetireLeaves old new x y = (y.tells ↔ x.tells) → (high : ℕ) (doubts : List Content) → new ≡ record old { tops = new.tops } → ((t : Top) → Contains new.tops t → Contains old.tops t) → Safe old high doubts → LeavesKnown (state_of old x) (state_of new y) × ((t b : ℕ) (p : Place) → ((r : Place) × Stands new t r) → Reaches old.memory (to_block t) b → (state_of old x).stands b p → (state_of new y).stands b p)

-- MOMENTS: what is known at each of a row of steps of the device, none of which adds an image, or changes tops.
pub data Turns (first : Known) : Known → Type 0 where
  begun : (now : Known) → now ≡ first → Turns first now
  more : (k now : Known) → Turns first k → IsQuiet k now → now.tops ≡ k.tops → ((b : ℕ) → k.newborn b ≡ false → now.newborn b ≡ false) → Turns first now

-- Of each moment within, each image is one of the device after some of these steps; what came before stays.
pub record Passed (old new : Known) (x y : Rest) : Type 0 where
  pub tells : y.tells → x.tells
  pub later : x.moments ≤ y.moments
  pub before : (n : ℕ) (image : Image) → n ≤ x.moments → y.left n image → x.left n image
  pub within : (n : ℕ) (image : Image) → x.moments < n → n ≤ y.moments → y.left n image → x.tells × ((k : Known) × (labels : ℕ → Label) × Turns old k × IsLeft k image labels)
  pub all : Turns old new
  -- these are tops at their places, which were settled whole
  pub tops : (t : ℕ) → x.tops t → (p : Place) × Contains old.tops (record { at = t; place = p }) × (old.newborn t ≡ false)

-- `passes` and `images` of `Rests` and `Looks`: over any number of writes, syncs, ends of waits, clearings and closings, each image of a moment
-- that passed is one of those of before, as far as tops lead.
abbrev pub MomentsPass : Known → Known → Rest → Rest → Type 0
MomentsPass old new x y = (high : ℕ) (doubts : List Content) → Safe old high doubts → Passed old new x y → Passes x.tops (state_of old x).may_leave x.moments y.moments x.left y.left × AddsNothing (state_of old x).may_leave (state_of new y).may_leave × Safe new high doubts

-- THE MOMENTS OF `number`: block 1 is settled as it is (`first`), then another super block is tried (`trial`), and it counts, or stays in doubt.
-- Each image of a moment within is one of the device after some of these steps. From the trial on no other block loses a version: what was
-- written before was settled with block 1.
pub record NumberPassed (d : Content) (old new : Known) (x y : Rest) : Type 0 where
  pub still : x.tells → y.tells
  pub later : x.moments ≤ y.moments
  pub before : (n : ℕ) (image : Image) → n ≤ x.moments → y.left n image → x.left n image
  pub first : Known
  pub trial : Known
  pub settled : Turns old first
  pub tries : TriesSuper d first trial
  pub within : (n : ℕ) (image : Image) → x.moments < n → n ≤ y.moments → y.left n image → x.tells × ((k : Known) × (labels : ℕ → Label) × (Turns old k ⊎ Turns trial k) × IsLeft k image labels)
  pub others : SameButSuper new trial
  pub ends : (new.memory 1 ≡ d) ⊎ Contains (new.versions 1) d
  pub tops : (t : ℕ) → x.tops t → (p : Place) × Contains old.tops (record { at = t; place = p }) × (old.newborn t ≡ false)

-- `passes` of `number`: each image of a moment that passed is one of those of before or of those of after, as far as tops lead.
abbrev pub NumberPasses : Known → Known → Rest → Rest → Type 0
NumberPasses old new x y = (d : Content) (high : ℕ) (doubts : List Content) → Safe old high doubts → NumberPassed d old new x y → Passes x.tops (λ image. (state_of old x).may_leave image ⊎ (state_of new y).may_leave image) x.moments y.moments x.left y.left

-- LAWS of the trait that hold of what is read off a cache
pub record TraitLaws (s : State) : Type 0 where
  pub present : s.tells → s.may_leave s.now
  pub shown : (image : Image) → s.left s.moments image → IsOneOf s.tops s.may_leave image
  pub told : (image : Image) → s.may_leave image → s.tells
  pub one_place : OnePlace s.stands
  pub super_stands : s.tells → s.stands 1 super_place
  pub placed : (image : Image) → s.may_leave image → IsPlaced s.stands image
  pub ranked : (image : Image) → s.may_leave image → RanksFall s.stands image
  pub labelled : (at : ℕ) (p : Place) → s.tells → at ≢ 1 → s.stands at p → s.is_block at × ((s.label at).kind ≡ p.kind) × ((s.label at).tag ≡ p.tag)
  pub live : (at : ℕ) → s.tells → at ≢ 1 → Reaches s.now (to_block 1) at → ((s.label at).state ≡ Live) × ((s.label at).epoch ≤ s.high) × (s.covered at → ⊥)
  pub falls : (t at i below : ℕ) → s.tells → s.tops t → at ≢ 1 → Reaches s.now (to_block t) at → target ((s.now at).slot i) ≡ Local below → (s.label below).epoch ≤ (s.label at).epoch
  pub old_is_sure : (t at : ℕ) → s.tops t → at ≢ 1 → Reaches s.now (to_block t) at → (s.label at).epoch < s.high → IsSure s.now at s.may_leave
  pub sure : (at : ℕ) → s.sure at ⊎ s.fresh at → IsSure s.now at s.may_leave
  pub super_known : HasSuper s.now s.doubt s.may_leave
  pub one_stays : s.tells → s.covered 1 → ⊥
  pub waits_in_use : (a on j : ℕ) → s.waits a on j → IsPairUsed s.now on j
  pub clears_entries : (at j : ℕ) → s.clearing at j → ((s.label at).kind ≡ Dir 0) × ((s.label at).epoch ≡ s.high)

abbrev pub LawsHold : Known → Rest → Type 0
LawsHold k x = (doubts : List Content) → Reads k x doubts → TraitLaws (state_of k x)
