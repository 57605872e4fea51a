-- A slot begins to wait for a leaf, and leaves wait for more.
use Rattle.std.proofs.Common.{◌≡◌, inl, inr, ⊎_elim, ℕ, List, sym, ◌∙◌, ap, subst}
use Rattle.std.specs.List.{Contains}
use Rattle.fo_image.specs.declared.types.Label.{Label}
use Rattle.fo_image.specs.declared.types.Pointer.TheVariants.{Local}
use Rattle.fo_crash.specs.declared.slot.Slot.{Slot}
use Rattle.fo_crash.specs.declared.slot.Slot.TheVariants.{Pointer as To, Entry as Head, Prev}
use Rattle.fo_crash.specs.Images.{Content, Image, target}
use Rattle.fo_crash.specs.Steps.{AddsNothing, AddsSlot, HasBytes as AllHave, cleared}
use Rattle.fo_crash.specs.Forms.{MayLeave, Begins}
use Rattle.fo_crash.proofs.Forms.{begins_form}
use Rattle.fo_crash.proofs.Equal.{bool_cases}
use Rattle.fo_cells.specs.Known.{Known, Wait, Clear, Top, HasSlot, HasBytes, IsWait, IsClear, IsSince, MaySlot, Images, IsKept, seen, waiting}
use Rattle.fo_cells.specs.Calls.{Awaits, WaitsMore, IsSetLeaf}
use Rattle.fo_cells.proofs.Standing.{at_b, stands_by, stands_top, stands_below}
use Rattle.fo_cells.proofs.Keeping.{Steps, kept_by, may_name_still}
use Rattle.fo_cells.proofs.Settling.{Fewer, fewer_adds, Settles, settles_keeps, same_seen, same_written}

-- a cleared slot leads nowhere
pub cleared_leads : (s : Slot) (b : ℕ) → target (cleared s) ≡ Local b → ⊥
cleared_leads (To p) b e = absurd (cc)
cleared_leads (Head x) b e = absurd (cc)
cleared_leads (Prev epoch at) b e = absurd (cc)

module _ {at i leaf : ℕ} {old new : Known} (w : Awaits at i leaf old new) where
  await_seen : (b : ℕ) → seen new b ≡ seen old b
  await_seen b = same_seen old new w.same.memory w.device.newborn w.device.late w.device.versions b

  -- The images grow by the cleared slot, with the leaf's bytes of now.
  pub await_adds : AddsSlot old.memory at i (cleared ((old.memory at).slot i)) (λ image. (image leaf).bytes ≡ (old.memory leaf).bytes) (Images old) (Images new)
  await_adds =
      let begins : Begins at i leaf old.memory (waiting old) (waiting new) = record {
        slots = λ b j s h. subst (λ (cs : List Content). HasSlot cs j s) (await_seen b) h;
        bytes = λ b x h. subst (λ (cs : List Content). HasBytes cs x) (await_seen b) h;
        waits = λ a on j h. subst (λ (ws : List Wait). IsWait ws a on j) (sym w.waits) h;
        clearing = w.clears;
        none = w.none;
        since = w.since;
        begins = w.begins;
      } in
      let grows = begins_form begins in
      record { each = λ image m. grows.each image (subst (λ x. MayLeave x (waiting new) image) w.same.memory m) }

  -- a slot that may be there was, or leads nowhere
  pub may_await : (a j : ℕ) (s : Slot) (b : ℕ) → MaySlot new a j s → target s ≡ Local b → MaySlot old a j s
  may_await a j s b may e = ⊎_elim
      (λ has. inl (subst (λ (cs : List Content). HasSlot cs j s) (await_seen a) has))
      (λ x. inr (⊎_elim
      (λ is. inl (is ∙ ap (λ (m : Image). (m a).slot j) w.same.memory))
      (λ c. absurd (cleared_leads ((new.memory a).slot j) b (ap target (sym c.2) ∙ e)))
      x))
      may

  pub await_keeps : IsKept old → IsKept new
  await_keeps kept =
      let steps : Steps old new = record {
        stands = stands_by (λ t h. stands_top t (subst (λ (ts : List Top). Contains ts t) w.same.tops h)) (λ a j s p b st may e. stands_below j s b st (may_await a j s b may e) e);
        falls = λ a j b s p st may e. kept.falls a j b s p st (may_await a j s b may e) e;
        label = w.same.label;
        low = w.same.low;
        named = λ a j t c p st h e.
            let n = kept.named a j t c p st (subst (λ (cs : List Content). Contains cs c) (same_written old new w.device.newborn w.device.late w.device.versions a) h) e in (
              n.0,
              may_name_still old new t w.same.label w.same.low (at_b t w.device.newborn ∙ n.1.settled) (λ l is. n.1.labels l (subst (λ (g : ℕ → List Label). Contains (g t) l) w.device.labels is)),
            );
      } in
      kept_by kept steps

-- MORE WAITS
module _ {old new : Known} (w : WaitsMore old new) where
  pub more_fewer : Fewer old new
  more_fewer = record {
    memory = w.same.memory;
    stood = λ b c h. subst (λ (cs : List Content). Contains cs c) (same_seen old new w.same.memory w.device.newborn w.device.late w.device.versions b) h;
    waits = λ leaf on j h. inl (w.waits leaf on j h);
    clears = λ b j leaf h. subst (λ (cs : List Clear). IsClear cs b j leaf) w.clears h;
    since = λ b j leaf bytes h. subst (λ (cs : List Clear). IsSince cs b j leaf bytes) w.clears h;
  }

  pub more_adds : AddsNothing (Images old) (Images new)
  more_adds = fewer_adds more_fewer

  pub more_keeps : IsKept old → IsKept new
  more_keeps kept =
      let settles : Settles old new = record {
        fewer = more_fewer;
        same = w.same;
        writes = λ a c h. subst (λ (cs : List Content). Contains cs c) (same_written old new w.device.newborn w.device.late w.device.versions a) h;
        names = λ a j t c p st h e n. may_name_still old new t w.same.label w.same.low (at_b t w.device.newborn ∙ n.settled) (λ l is. n.labels l (subst (λ (g : ℕ → List Label). Contains (g t) l) w.device.labels is));
      } in
      settles_keeps kept settles

-- Every image has the bytes of a leaf that is set.
pub leaf_set : {k : Known} {leaf : ℕ} → IsSetLeaf k leaf → AllHave k.memory leaf (Images k)
leaf_set {k} {leaf} set = record {
  each = λ image m. ⊎_elim (λ fresh. m.new_bytes leaf fresh) (λ old. set.each ((image leaf).bytes) (m.old_bytes leaf old)) (bool_cases (m.fresh leaf));
}
