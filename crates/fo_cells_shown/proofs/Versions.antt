-- Which blocks a write and a sync give a version.
use Rattle.std.proofs.Common.{◌≡◌, ◌≢◌, inl, inr, ⊎_elim, ℕ, ◌-◌, ◌<◌, Bool, true, false, if◌then◌else◌, List, length, slice_index_or, refl, sym, ◌∙◌, ap, subst}
use Rattle.std.specs.Prelude.{Result, Ok, Err, OnOk}
use Rattle.std.specs.List.{Contains}
use Rattle.std.proofs.lemmas.Bool.{cases_eq}
use Rattle.fo_disk.specs.Disk.{Block, Versions, Content, DiskState, Writes, Syncs, IsWrite, IsSync, versions_of, newest}
use Rattle.fo_disk.proofs.Images.{adds-other, appends-adds, contains-drop}
use Rattle.fo_cells.specs.Device.{after_sync}
use Rattle.fo_cells.specs.Flags.{FlagsFit, after_sync_flags}
use Rattle.fo_cells.proofs.Flags.{flags_sync, one_latest}
use Rattle.fo_cells_held.specs.Held.{MayGetVersion}
use Rattle.fo_cells_all.specs.All.{Kept, Format}
use Rattle.fo_cells_out.specs.Origins.{Origins}
use Rattle.fo_cells_steps.specs.Division.{HoldsMade}
use Rattle.fo_cells_shown.specs.Versions.{GetsVersions, IsLeftSettled}

other : {E : Type 0} (at : ℕ) (bytes : Block) (result : Result Unit E) (old new : Content) → Writes at bytes result old new → (b : ℕ) → b ≢ at → versions_of new b ≡ versions_of old b
other at bytes (Ok u) old new w b ne = adds-other w b ne
other at bytes (Err e) old new w b ne = ⊎_elim (λ same. ap (λ (c : Content). versions_of c b) same) (λ a. adds-other (appends-adds a) b ne) w

pub writes_live : {E : Type 0} (at : ℕ) (bytes : Block) (result : Result Unit E) (c : Kept) (f : Format) (Made : ℕ → Type 0) (h : Origins) (old new : DiskState) → IsWrite at bytes result old new → c.flags.dirty at ≡ true → HoldsMade c f Made h old.unsure old.holds → GetsVersions at c f old.holds new.holds
writes_live at bytes result c f Made h old new w dirty all b v of_data is = ⊎_elim
    (λ e. inr (e, subst (λ x. MayGetVersion c.mind c.flags c.high x) (sym e) (all.all.dirty.dirty at (subst (λ x. f.is_data x ≡ true) e of_data) dirty)))
    (λ ne. inl (subst (λ (vs : Versions). Contains vs v) (other at bytes result old.holds new.holds w.holds b ne) is))
    (cases_eq b at)

left : (x : Bool) (vs : Versions) (v : Block) → Contains (if x then vs else newest vs) v → Contains vs v
left true vs v is = is
left false vs v is = contains-drop (length vs - 1) vs v is

pub syncs_none : {E : Type 0} (result : Result Unit E) (old new : DiskState) → IsSync result old new → (b : ℕ) (v : Block) → b < length old.holds → Contains (versions_of new.holds b) v → Contains (versions_of old.holds b) v
syncs_none result old new s b v lt is = by result s.holds
  where
    by : {E : Type 0} (r : Result Unit E) → Syncs old.unsure r old.holds new.holds → Contains (versions_of old.holds b) v
    by (Ok u) settles = left (slice_index_or old.unsure b false) (versions_of old.holds b) v (subst (λ (vs : Versions). Contains vs v) (settles.each b lt) is)
    by (Err e) same = subst (λ (c : Content). Contains (versions_of c b) v) same is

-- What is left settled, where flags say what they should.
left_settled : (c : Kept) (unsure : List Bool) (old new : Content) → FlagsFit (after_sync {E = Unit} (Ok tt) c.mind) (after_sync_flags {E = Unit} (Ok tt) c.flags) unsure new → IsLeftSettled c new
left_settled c unsure old new fits = record {
  one = λ b lt sound. fits.settled b lt refl sound;
  clean = λ b v lt sound clean is. ap (λ x. c.mind.read b x) (one_latest (versions_of new b) (fits.settled b lt refl sound) v is) ∙ fits.clean b lt clean;
}

pub syncs_settled : {E : Type 0} (result : Result Unit E) (c : Kept) (f : Format) (Made : ℕ → Type 0) (h : Origins) (old new : DiskState) → IsSync result old new → HoldsMade c f Made h old.unsure old.holds → OnOk result (IsLeftSettled c new.holds)
syncs_settled {E} (Ok x) c f Made h old new s all = left_settled c old.unsure old.holds new.holds (flags_sync {E = E} (Ok x) c.mind c.flags old.unsure old.holds new.holds s.holds all.all.flags)
syncs_settled (Err e) c f Made h old new s all = tt
