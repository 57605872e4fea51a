-- One way to a new block.
use Rattle.std.proofs.Common.{◌≡◌, ◌≢◌, ◌⊎◌, inl, inr, ⊎_elim, ℕ, ◌+◌, ◌-◌, ◌*◌, ◌^◌, ◌<◌, Bool, true, false, zero, suc, List, [], ◌∷◌, refl, sym, ◌∙◌, ap, subst, arith}
use Rattle.fo_image.specs.declared.types.Entry.{Entry}
use Rattle.fo_image.specs.declared.types.Kind.{Kind}
use Rattle.fo_image.specs.declared.types.Kind.TheVariants.{Data, Dir, Root}
use Rattle.fo_image.specs.declared.types.Pointer.{Pointer}
use Rattle.fo_image.specs.declared.types.Pointer.TheVariants.{Nil, Local}
use Rattle.fo_image.specs.Format.{ActiveHolds}
use Rattle.fo_crash.specs.declared.slot.Slot.{Slot}
use Rattle.fo_crash.specs.declared.slot.Slot.TheVariants.{Pointer as To, Entry as Head, Prev}
use Rattle.fo_crash.specs.Images.{Content, Image, Arena, Link, IsArena, from_block, target, note, goes, with_slot, with_bytes, with_block}
use Rattle.fo_crash.specs.Names.{IsInUse, SameUse}
use Rattle.fo_crash.specs.Shows.{Keeps}
use Rattle.fo_crash.specs.Steps.{AddsSlot, AddsBytes, AddsBlock}
use Rattle.fo_crash.proofs.Updates.{slot_other, block_other}
use Rattle.fo_crash.proofs.Reach.{reaches}
use Rattle.fo_crash.proofs.Keeps.{bytes_keeps, goes_aside, goes_bytes}
use Rattle.fo_ports.specs.Blocks.{SlotFits, IsPointer, IsEntry, slot_count}
use Rattle.fo_ports.specs.State.{IsPairUsed}
use Rattle.fo_ports_clients.specs.Own.{led, HasOneWay, MovesOne, IsOtherLeaf}

pub led_note : (s : Slot) (to : ℕ) → note (led s to) ≡ note s
led_note (To p) to = refl
led_note (Head e) to = refl
led_note (Prev epoch at) to = refl

pub led_target : (s : Slot) (below to : ℕ) → target s ≡ Local below → target (led s to) ≡ Local to
led_target (To p) below to e = refl
led_target (Head x) below to e = refl
led_target (Prev epoch at) below to e = let both : Nil ≡ Local below = e in absurd (cc)

-- what fits still fits with another target
led_active : (active : Bool) (e : Entry) (below to : ℕ) → e.top ≡ Local below → to < 2 ^ 32 - 1 → ActiveHolds active e → ActiveHolds active (record e { top = Local to })
led_active true e below to is small holds = (holds.0, small)
led_active false e below to is small holds = let both : Nil ≡ Local below = sym holds.4 ∙ is in absurd (cc)

led_pointer : (s : Slot) (below to : ℕ) → target s ≡ Local below → to < 2 ^ 32 - 1 → IsPointer s → IsPointer (led s to)
led_pointer (To p) below to is small fits = small
led_pointer (Head e) below to is small fits = absurd fits
led_pointer (Prev epoch at) below to is small fits = absurd fits

led_entry : (s : Slot) (below to : ℕ) → target s ≡ Local below → to < 2 ^ 32 - 1 → IsEntry s → IsEntry (led s to)
led_entry (Head e) below to is small fits = (record { active_holds = led_active e.active e below to is small fits.0.active_holds }, fits.1)
led_entry (To p) below to is small fits = absurd fits
led_entry (Prev epoch at) below to is small fits = absurd fits

pub led_fits : (kind : Kind) (i : ℕ) (s : Slot) (below to : ℕ) → target s ≡ Local below → to < 2 ^ 32 - 1 → SlotFits kind i s → SlotFits kind i (led s to)
led_fits (Data level) i s below to is small fits = led_pointer s below to is small fits
led_fits (Dir zero) i s below to is small fits = led_entry s below to is small fits
led_fits (Dir (suc level)) i s below to is small fits = led_pointer s below to is small fits
led_fits Root zero s below to is small fits = led_entry s below to is small fits
led_fits Root (suc zero) s below to is small fits = led_entry s below to is small fits
led_fits Root (suc (suc i)) (Prev x y) below to is small fits = fits
led_fits Root (suc (suc i)) (To p) below to is small fits = absurd fits
led_fits Root (suc (suc i)) (Head e) below to is small fits = absurd fits

pub one_way : {tops : ℕ → Type 0} {at i b : ℕ} {c : Content} {s : Slot} {now : Image} {beside : Image → Type 0} {old mid new : Image → Type 0} → tops 1 → AddsBlock tops b c old mid → AddsSlot now at i s beside mid new → HasOneWay at i b new
one_way {tops} {at} {i} {b} {c} {s} {now} top add link = record {
  each = λ image is arena is_arena path aside leads. ⊎_elim
      (λ before. add.apart image before 1 top (reaches (from_block 1) path is_arena leads))
      (λ h. add.apart (with_slot image at i ((now at).slot i)) h.1 1 top (reaches (from_block 1) path is_arena (ap (λ (w : Link). target w.slot) (sym (goes_aside arena image at i ((now at).slot i) path (from_block 1) aside)) ∙ leads)))
      (link.each image is);
}

pub moves_one : {tops : ℕ → Type 0} {at i b : ℕ} {c : Content} {s : Slot} {now : Image} {beside : Image → Type 0} {old mid new : Image → Type 0} → AddsBlock tops b c old mid → AddsSlot now at i s beside mid new → MovesOne at i b old new
moves_one {tops} {at} {i} {b} {c} {s} {now} {beside} {old} {mid} {new} add link = record {
  each = λ image is. ⊎_elim
      (λ in_mid. back image image in_mid (λ x j ne. refl))
      (λ h. back image (with_slot image at i ((now at).slot i)) h.1 (λ x j ne. sym (slot_other image at i ((now at).slot i) x j ne)))
      (link.each image is);
}
  where
    back : (image between : Image) → mid between → ((x j : ℕ) → (x ≢ at) ⊎ (j ≢ i) → (image x).slot j ≡ (between x).slot j) → (other : Image) × old other × ((x j : ℕ) → x ≢ b → (x ≢ at) ⊎ (j ≢ i) → (image x).slot j ≡ (other x).slot j)
    back image between in_mid same =
        let (d, in_old) = add.before between in_mid in
        (with_block between b d, in_old, λ x j ne h. same x j h ∙ ap (λ (k : Content). k.slot j) (sym (block_other between b d x ne)))

pub apart_by : {X : Type 0} (f : ℕ → X) (a b : ℕ) → (f a ≡ f b → ⊥) → a ≢ b
apart_by f a b h e = h (ap f e)

pub older_apart : (epoch : ℕ → ℕ) (a b high : ℕ) → epoch a ≡ high → epoch b < high → a ≢ b
older_apart epoch a b high current older e =
    let same : epoch a ≡ epoch b = ap epoch e in
    omega (arith, same, current, older)

local_eq : {a b : ℕ} → Local a ≡ Local b → a ≡ b
local_eq e = cc

pub other_leaf : {arena : Arena} {root top leaf k : ℕ} {now : Image} {bytes : List ℕ} {beside : Image → Type 0} {mid last new : Image → Type 0} → IsArena arena → 1 ≢ root → 1 ≢ top → 1 ≢ leaf → HasOneWay root 0 top mid → MovesOne top k leaf mid last → HasOneWay top k leaf last → AddsBytes now leaf bytes beside last new → Keeps arena (from_block 1) (IsOtherLeaf k) last new
other_leaf {arena} {root} {top} {leaf} {k} {now} {bytes} {beside} {mid} {last} {new} is_arena not_root not_top not_leaf way moves lone add = bytes_keeps (from_block 1) (IsOtherLeaf k) add (λ image is path (j, ne, path_is) leads. ⊎_elim
    (λ in_last. apart image in_last j ne (subst (λ (p : List ℕ). target ((goes arena image (from_block 1) p).slot) ≡ Local leaf) path_is leads))
    (λ h. apart (with_bytes image leaf ((now leaf).bytes)) h.1 j ne (subst (λ (p : List ℕ). target ((goes arena (with_bytes image leaf ((now leaf).bytes)) (from_block 1) p).slot) ≡ Local leaf) path_is (ap (λ (w : Link). target w.slot) (sym (goes_bytes arena image leaf ((now leaf).bytes) path (from_block 1))) ∙ leads)))
    (add.each image is))
  where
    apart : (image : Image) → last image → (j : ℕ) → j ≢ k → target ((goes arena image (from_block 1) (0 ∷ 0 ∷ j ∷ [])).slot) ≡ Local leaf → ⊥
    apart image is j ne =
        let (before, is_mid, same) = moves.each image is in
        let root_slot : (image 1).slot 0 ≡ (before 1).slot 0 = same 1 0 not_leaf (inl not_top) in
        lone.each image is arena is_arena (0 ∷ 0 ∷ j ∷ []) (
          inl (λ e. not_top (local_eq e)),
          (
            inl (λ e. way.each before is_mid arena is_arena (0 ∷ []) (inl (λ r. not_root (local_eq r)), tt) (ap target (sym root_slot) ∙ e)),
            (inr ne, tt),
          ),
        )

-- What is led elsewhere is in the same use where it is no bare pointer.
pub led_use : (s : Slot) (to : ℕ) → ((p : Pointer) → s ≢ To p) → SameUse (led s to) s
led_use (To p) to not = absurd (not p refl)
led_use (Head e) to not = (refl, refl, refl, refl)
led_use (Prev epoch at) to not = refl

used_points_not : (s : Slot) (g : ℕ) → IsInUse s g → IsPointer s → ⊥
used_points_not (To p) g used fits = used
used_points_not (Head e) g used fits = fits
used_points_not (Prev epoch at) g used fits = used

entry_points_not : (s : Slot) → IsEntry s → (p : Pointer) → s ≢ To p
entry_points_not (To q) fits p e = fits
entry_points_not (Head x) fits p e = cc
entry_points_not (Prev epoch at) fits p e = fits

-- an entry of a root block stands in one of its first two slots
root_entry : (n g : ℕ) (s : Slot) → SlotFits Root n s → IsInUse s g → n < 2
root_entry zero g s fits used = omega arith
root_entry (suc zero) g s fits used = omega arith
root_entry (suc (suc n)) g (To p) fits used = absurd used
root_entry (suc (suc n)) g (Head e) fits used = absurd fits
root_entry (suc (suc n)) g (Prev epoch at) fits used = absurd used

-- The second slot of a pair whose first is in use is an entry, too.
second_entry : (kind : Kind) (i k g : ℕ) (s first : Slot) → i ≡ 2 * k + 1 → SlotFits kind i s → SlotFits kind (2 * k) first → IsInUse first g → (p : Pointer) → s ≢ To p
second_entry (Data level) i k g s first is fits before used = absurd (used_points_not first g used before)
second_entry (Dir zero) i k g s first is fits before used = entry_points_not s fits
second_entry (Dir (suc level)) i k g s first is fits before used = absurd (used_points_not first g used before)
second_entry Root i k g s first is fits before used =
    let low : 2 * k < 2 = root_entry (2 * k) g first before used in
    let one : i ≡ 1 = omega (arith, is, low) in
    let there : SlotFits Root 1 s = subst (λ n. SlotFits Root n s) one fits in
    entry_points_not s there

-- What is waited for is an entry.
pub waited_entry : (now : Image) (kind : Kind) (at i : ℕ) → i < slot_count kind → ((j : ℕ) → j < slot_count kind → SlotFits kind j ((now at).slot j)) → IsPairUsed now at i → (p : Pointer) → (now at).slot i ≢ To p
waited_entry now kind at i lt fits used = ⊎_elim
    (λ own p e. subst (λ (s : Slot). IsInUse s own.0) e own.1)
    (λ pair. let is = pair.1 in second_entry kind i pair.0 pair.2.0 ((now at).slot i) ((now at).slot (2 * pair.0)) is (fits i lt) (fits (2 * pair.0) (omega (arith, is, lt))) pair.2.1)
    used
