-- A slot is put into the bytes of a pinned block.
use Rattle.std.proofs.Common.{◌≡◌, ⊎_elim, ℕ, zero, suc, ◌*◌, ◌<◌, ◌≤◌, true, false, List, length, Option, Some, None, sym, ap, ◌∙◌, subst}
use Rattle.std.specs.Option.{option_map, option_map_or}
use Rattle.std.proofs.lemmas.Bool.{cases_eq}
use Rattle.fo_image.specs.declared.types.Kind.{Kind}
use Rattle.fo_image.specs.declared.types.Kind.TheVariants.{Data, Dir, Root}
use Rattle.fo_image.specs.declared.types.Pointer.TheVariants.{Local}
use Rattle.fo_buffers.specs.declared.block.Buffer.{Buffer}
use Rattle.fo_buffers.specs.Held.{Held, block_in, held_at}
use Rattle.fo_labels.specs.Region.{Region}
use Rattle.fo_crash.specs.declared.slot.Slot.{Slot}
use Rattle.fo_crash.specs.Images.{Content, target}
use Rattle.fo_ports.specs.Blocks.{AreZeros, SlotFits, slot_count, slots_from, slots_to}
use Rattle.fo_slots.specs.Read.{KeepsBeside, PutsInto, read}
use Rattle.fo_bring.specs.Blocks.{Good, HasZeros, IsData}
use Rattle.fo_waits.specs.declared.listed.Wait.{Wait}
use Rattle.fo_waits.specs.Listed.{Listed, is_active}
use Rattle.fo_mind.specs.Laws.{held_content, some_held}
use Rattle.fo_mind.specs.Parts.{Parts, IsHeld, count_of, label_at, memory}
use Rattle.fo_mind.specs.Sound.{Holding, Placed, Waiting}

-- the bytes are good still
pub good_slot : (first count i : ℕ) (kind : Kind) (slot : Slot) (old new : List ℕ) → Good first count kind old → PutsInto kind i slot old new → ((b : ℕ) → target slot ≡ Local b → IsData first count b) → length new ≡ 8192 → Good first count kind new
good_slot first count i kind slot old new good puts within long = record {
  long = long;
  slots = puts.slots good.slots;
  within = record {
    each = λ j b e. ⊎_elim
        (λ same. within b (sym (ap target puts.here) ∙ ap (λ n. target ((read kind new).slot n)) (sym same) ∙ e))
        (λ ne. good.within.each j b (ap target (sym (puts.others j ne)) ∙ e))
        (cases_eq j i);
  };
  zeros = none kind puts.beside good.zeros;
}
  where
    none : (k : Kind) → KeepsBeside (slots_from k) (slots_to k) old new → HasZeros k old → HasZeros k new
    none (Data zero) b z = tt
    none (Data (suc level)) b z = subst AreZeros (sym b.behind) z
    none (Dir level) b z = subst AreZeros (sym b.behind) z
    none Root b z = tt

-- what is waited for is in use still
pub used_slot : {region : Region} {held : Held} {waits : List Wait} (at i : ℕ) (kind : Kind) (slot : Slot) (old new : List ℕ) → kind ≡ (label_at region at).kind → Some old ≡ option_map block_in (held_at held at) → PutsInto kind i slot old new → ((a k : ℕ) → Listed waits a at k → i ≡ 2 * k → is_active slot ≡ true) → Waiting region held waits → (a k : ℕ) → Listed waits a at k → is_active ((read (label_at region at).kind new).slot (2 * k)) ≡ true
used_slot {region} {held} {waits} at i kind slot old new is_kind is puts used waiting a k w =
    subst (λ (z : Kind). is_active ((read z new).slot (2 * k)) ≡ true) is_kind (⊎_elim
    (λ e. ap (λ n. is_active ((read kind new).slot n)) (sym e) ∙ ap is_active puts.here ∙ used a k w e)
    (λ ne. ap is_active (puts.others (2 * k) (λ e. ne (sym e))) ∙ by (held_at held at) is (waiting.used a at k w))
    (cases_eq i (2 * k)))
  where
    by : (o : Option Buffer) → Some old ≡ option_map block_in o → option_map_or (λ (x : Buffer). is_active ((read (label_at region at).kind x.block).slot (2 * k))) o false ≡ true → is_active ((read kind old).slot (2 * k)) ≡ true
    by (Some x) e h = let it : x.block ≡ old = cc in subst (λ (z : Kind). is_active ((read z old).slot (2 * k)) ≡ true) (sym is_kind) (subst (λ (b : List ℕ). is_active ((read (label_at region at).kind b).slot (2 * k)) ≡ true) it h)
    by None e h = absurd (cc)

-- the slot that was there fits
pub fits_old : (p : Parts) (first count at i : ℕ) (kind : Kind) (old : Slot) → Placed p.region p.turns p.facts first count → Holding p.one.low first count p.region p.held → IsHeld p.held at → kind ≡ (label_at p.region at).kind → old ≡ (memory p at).slot i → i < slot_count (label_at p.region at).kind → SlotFits kind i old
fits_old p first count at i kind old placed holding some is_kind is_old lt =
    let x = some_held (held_at p.held at) some in
    subst (λ (s : Slot). SlotFits kind i s) (sym is_old) (subst (λ (k : Kind). SlotFits k i ((memory p at).slot i)) (sym is_kind)
    (subst (λ (c : Content). SlotFits (label_at p.region at).kind i (c.slot i)) (sym (held_content p first count at x.0 placed holding x.1)) ((holding.good at x.0 x.1).slots.fit i lt)))

-- a data block is one still, after a step that keeps labels
pub data_moves : (p q : Parts) {first count first2 count2 : ℕ} {b : ℕ} → Placed p.region p.turns p.facts first count → Placed q.region q.turns q.facts first2 count2 → q.region ≡ p.region → IsData first count b → IsData first2 count2 b
data_moves p q {b = b} here there same is =
    let first = sym here.is_first ∙ ap (λ (r : Region). r.first) (sym same) ∙ there.is_first in
    let count = sym here.is_count ∙ ap count_of (sym same) ∙ there.is_count in
    (subst (λ n. n ≤ b) first is.0, subst (λ n. b < n) count is.1)
