-- Only blocks that are live and of the high epoch are changed.
use Rattle.std.proofs.Common.{◌≡◌, ◌≢◌, ⊎_elim, ℕ, ◌≤◌, Bool, true, false, cond, Option, Some, None, refl, sym, ap, ◌∙◌, subst}
use Rattle.std.specs.Option.{option_map_or}
use Rattle.std.proofs.lemmas.Bool.{cases_eq}
use Rattle.fo_disk.specs.Disk.{Content as Holds}
use Rattle.fo_image.specs.declared.types.Kind.{Kind}
use Rattle.fo_image.specs.declared.types.Label.{Label}
use Rattle.fo_image.specs.declared.types.State.TheVariants.{Live}
use Rattle.fo_buffers.specs.declared.block.Buffer.{Buffer}
use Rattle.fo_buffers.specs.Held.{Held, buffer_of, held_at, put, settled, unlisted, used}
use Rattle.fo_bring.specs.Holds.{Others, Brought}
use Rattle.fo_bring.proofs.Bringing.{loaded_here}
use Rattle.fo_bring.proofs.Buffering.{put_other}
use Rattle.fo_order.specs.Keeps.{Turns}
use Rattle.fo_order.specs.Turns.{flag_at}
use Rattle.fo_labels.specs.Region.{IsDataBlock, Region, relabeled}
use Rattle.fo_rooms.specs.Grown.{GrownHeld}
use Rattle.fo_mind.specs.Opened.{no_buffers}
use Rattle.fo_mind.specs.Parts.{label_at}
use Rattle.fo_mind.specs.Sound.{Changing, IsCurrent}
use Rattle.fo_mind.specs.Turning.{Turning, is_changed}
use Rattle.fo_mind.proofs.Giving.{label_here, label_other}
use Rattle.fo_mind.proofs.Keeping.{MayBring}
use Rattle.fo_mind.proofs.Refilling.{Refills}
use Rattle.fo_mind.proofs.Starting.{none}
use Rattle.fo_mind.proofs.Turning.{Settles}

same_some : (x y : Buffer) → Some x ≡ Some y → x ≡ y
same_some x y e = cc

no_some : {A : Type 0} (x : Buffer) → None ≡ Some x → A
no_some x e = cc

no_change : {A : Type 0} → false ≡ true → A
no_change e = cc

-- what is held now was held, and was changed where it is
pub changing_like : {high : ℕ} {region : Region} {old new : Held} → ((b : ℕ) (x : Buffer) → held_at new b ≡ Some x → (y : Buffer) × (held_at old b ≡ Some y) × (x.dirty ≡ true → y.dirty ≡ true)) → Changing high region old → Changing high region new
changing_like was c = record {
  live = λ b x is. let w = was b x is in c.live b w.0 w.1;
  changed = λ b x is dirty. let w = was b x is in c.changed b w.0 w.1 (w.2 dirty);
}

pub changing_same : {high : ℕ} {region : Region} {old new : Held} → ((q : ℕ) → held_at new q ≡ held_at old q) → Changing high region old → Changing high region new
changing_same {high} {region} {old} {new} same c = changing_like {high = high} {region = region} {old = old} {new = new} (λ b x is. (x, sym (same b) ∙ is, λ d. d)) c

pub changing_grown : {high : ℕ} {region : Region} {h g : Held} → GrownHeld h g → Changing high region h → Changing high region g
changing_grown {high} {region} {h} {g} grown c = changing_same {high = high} {region = region} {old = h} {new = g} (λ q. ap (λ (x : Held). held_at x q) grown.same) c

module _ {at : ℕ} {old new : Held} (others : (q : ℕ) → q ≢ at → held_at new q ≡ held_at old q) where
  -- one block is held with another buffer
  pub changing_here : {high : ℕ} {region : Region} (y : Buffer) → held_at new at ≡ Some y → ((label_at region at).epoch ≡ high → (label_at region at).state ≡ Live) → (y.dirty ≡ true → (label_at region at).epoch ≡ high) → Changing high region old → Changing high region new
  changing_here {high} {region} y here live changed c = record {
    live = λ b x is. ⊎_elim
        (λ e. subst (λ n. (label_at region n).epoch ≡ high → (label_at region n).state ≡ Live) (sym e) live)
        (λ ne. c.live b x (sym (others b ne) ∙ is))
        (cases_eq b at);
    changed = λ b x is dirty. ⊎_elim
        (λ e.
        let same : y ≡ x = same_some y x (sym here ∙ ap (held_at new) (sym e) ∙ is) in
        ap (λ n. (label_at region n).epoch) e ∙ changed (ap (λ (z : Buffer). z.dirty) same ∙ dirty))
        (λ ne. c.changed b x (sym (others b ne) ∙ is) dirty)
        (cases_eq b at);
  }

  -- one that was held is changed no more than it was
  pub changing_kept : {high : ℕ} {region : Region} (was y : Buffer) → held_at old at ≡ Some was → held_at new at ≡ Some y → (y.dirty ≡ true → was.dirty ≡ true) → Changing high region old → Changing high region new
  changing_kept {high} {region} was y held here dirty c = changing_here {high = high} {region = region} y here (c.live at was held) (λ d. c.changed at was held (dirty d)) c

  -- one is held no more
  pub changing_gone : {high : ℕ} {region : Region} → held_at new at ≡ None → Changing high region old → Changing high region new
  changing_gone {high} {region} none c = changing_like {high = high} {region = region} {old = old} {new = new} (λ b x is. ⊎_elim
      (λ e. no_some x (sym none ∙ ap (held_at new) (sym e) ∙ is))
      (λ ne. (x, sym (others b ne) ∙ is, λ d. d))
      (cases_eq b at)) c

-- a block of the high epoch is changed
pub changing_refilled : {high at : ℕ} {bytes : _} {region : Region} {old new : Held} → Refills at bytes old new → (label_at region at).epoch ≡ high → Changing high region old → Changing high region new
changing_refilled {high} {at} {bytes} {region} {old} {new} r current c = changing_here {at = at} {old = old} {new = new} r.others {high = high} {region = region} (record { block = bytes; dirty = true; pinned = r.was.pinned }) r.here (c.live at r.was r.held) (λ d. current) c

-- a block that isn't changed is brought
pub changing_brought : {high first count : ℕ} {kind : Kind} {disk : Holds} {region : Region} {at : ℕ} {old new : Held} → ((label_at region at).epoch ≡ high → (label_at region at).state ≡ Live) → Others at old new → MayBring first count kind disk at old new → Changing high region old → Changing high region new
changing_brought {high} {first} {count} {kind} {disk} {region} {at} {old} {new} live o m c = ⊎_elim
    (λ (b : Brought first count kind disk at old new). changing_here {at = at} {old = old} {new = new} o.held {high = high} {region = region} (buffer_of b.loaded.bytes false true) (loaded_here b.loaded) live (λ d. no_change d) c)
    (λ none. changing_gone {at = at} {old = old} {new = new} o.held {high = high} {region = region} none c)
    m

-- a block is given out, with a label that is live and of the high epoch
pub changing_given : {high : ℕ} (r : Region) (at : ℕ) (l : Label) → IsDataBlock r at → l.state ≡ Live → l.epoch ≡ high → (bytes : _) (h : Held) → Changing high r h → Changing high (relabeled r at l) (used (put (unlisted h at) at (buffer_of bytes true true)))
changing_given {high} r at l is live epoch bytes h c = record {
  live = λ b x held. ⊎_elim
      (λ e. λ current. ap (λ n. (label_at (relabeled r at l) n).state) e ∙ ap (λ (z : Label). z.state) (label_here r at l is) ∙ live)
      (λ ne. λ current. ap (λ (z : Label). z.state) (label_other r at l b is ne) ∙ c.live b x (sym (put_other (unlisted h at) at (buffer_of bytes true true) b ne) ∙ held) (ap (λ (z : Label). z.epoch) (sym (label_other r at l b is ne)) ∙ current))
      (cases_eq b at);
  changed = λ b x held dirty. ⊎_elim
      (λ e. ap (λ n. (label_at (relabeled r at l) n).epoch) e ∙ ap (λ (z : Label). z.epoch) (label_here r at l is) ∙ epoch)
      (λ ne. ap (λ (z : Label). z.epoch) (label_other r at l b is ne) ∙ c.changed b x (sym (put_other (unlisted h at) at (buffer_of bytes true true) b ne) ∙ held) dirty)
      (cases_eq b at);
}

-- the label of a block that isn't held changes
pub changing_relabeled : {high : ℕ} (r : Region) (at : ℕ) (l : Label) → IsDataBlock r at → {held : Held} → held_at held at ≡ None → Changing high r held → Changing high (relabeled r at l) held
changing_relabeled {high} r at l is {held} none c = record {
  live = λ b x h current. ap (λ (z : Label). z.state) (other b x h) ∙ c.live b x h (ap (λ (z : Label). z.epoch) (sym (other b x h)) ∙ current);
  changed = λ b x h dirty. ap (λ (z : Label). z.epoch) (other b x h) ∙ c.changed b x h dirty;
}
  where
    other : (b : ℕ) (x : Buffer) → held_at held b ≡ Some x → label_at (relabeled r at l) b ≡ label_at r b
    other b x h = label_other r at l b is (λ e. no_some x (sym none ∙ ap (held_at held) (sym e) ∙ h))

-- a block is changed no more
pub changing_settles : {high at : ℕ} {linked : Bool} {region : Region} {old new : Held} → Settles at linked old new → Changing high region old → Changing high region new
changing_settles {high} {at} {linked} {region} {old} {new} s c = changing_like {high = high} {region = region} {old = old} {new = new} (λ b x is. ⊎_elim
    (λ e. let w = was linked (held_at old at) x (sym s.here ∙ ap (held_at new) (sym e) ∙ is) in (w.0, ap (held_at old) e ∙ w.1, w.2))
    (λ ne. (x, sym (s.others b ne) ∙ is, λ d. d))
    (cases_eq b at)) c
  where
    was : (l : Bool) (o : Option Buffer) (x : Buffer) → cond l (option_map_or (λ (y : Buffer). Some (settled y)) o None) o ≡ Some x → (y : Buffer) × (o ≡ Some y) × (x.dirty ≡ true → y.dirty ≡ true)
    was true (Some y) x e = (y, refl, λ d. no_change (ap (λ (z : Buffer). z.dirty) (same_some (settled y) x e) ∙ d))
    was true None x e = absurd (cc)
    was false o x e = (x, e, λ d. d)

-- nothing is held
pub changing_opened : (high : ℕ) (r : Region) → Changing high r no_buffers
changing_opened high r = record { live = λ b x is. no_some x (sym (none b) ∙ is); changed = λ b x is. no_some x (sym (none b) ∙ is) }

-- ---- what it says of turns

held_changed : (o : Option Buffer) → is_changed o ≡ true → (x : Buffer) × (o ≡ Some x) × (x.dirty ≡ true)
held_changed (Some x) e = (x, refl, e)
held_changed None e = no_change e

-- a data block that has a turn is live, and of the high epoch
pub turn_current : {high first at : ℕ} {region : Region} {held : Held} {turns : Turns} (facts : _) → Changing high region held → Turning first held turns facts → first ≤ at → (flag_at turns at).dirty ≡ true → IsCurrent high (label_at region at)
turn_current {high} {first} {at} {region} {held} {turns} facts c t le dirty =
    let x = held_changed (held_at held at) ((t.each at).held dirty le) in
    let epoch = c.changed at x.0 x.1 x.2 in
    record { live = c.live at x.0 x.1 epoch; epoch = epoch }
