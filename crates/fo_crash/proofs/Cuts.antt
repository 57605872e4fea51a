-- Cuts keep the clauses of the calls.
use Rattle.std.proofs.Common.{◌≡◌, ◌≢◌, ◌⊎◌, inl, inr, ⊎_elim, ℕ, ◌+◌, ◌<◌, ◌≤◌, min, List, refl, sym, ◌∙◌, ap, subst, arith}
use Rattle.std.proofs.lemmas.Bool.{cases_eq, cases_lt}
use Rattle.fo_crash.specs.declared.slot.Slot.{Slot}
use Rattle.fo_crash.specs.Images.{Content, Image, to_block, Reaches, with_slot, with_bytes, with_block}
use Rattle.fo_crash.specs.Steps.{AddsSlot, AddsBytes, AddsBlock, AddsNothing, AllAre, PutsSlot, PutsBytes, PutsBlock}
use Rattle.fo_crash.specs.Names.{SameUse}
use Rattle.fo_crash.specs.Cuts.{Order, IsUpTo, IsStricter, IsCut}
use Rattle.fo_crash.proofs.Updates.{slot_bytes, slot_other, slot_here, bytes_other, bytes_slot, bytes_here, block_other, block_here}

-- Flushing, settling and waiting only make the order stricter: no image is added.
pub stricter_adds : (memory : ℕ → Image) (n : ℕ) (new old : Order) → IsStricter new old → AddsNothing (IsCut memory n old) (IsCut memory n new)
stricter_adds memory n new old s = record {
  each = λ image c. record {
    slot_at = c.slot_at;
    bytes_at = c.bytes_at;
    slots = c.slots;
    bytes = c.bytes;
    slots_up_to = c.slots_up_to;
    bytes_up_to = c.bytes_up_to;
    slots_from = λ b i. omega (arith, s.slots b i, c.slots_from b i);
    bytes_from = λ b. omega (arith, s.bytes b, c.bytes_from b);
    waits = λ leaf t on j u w. c.waits leaf t on j u (s.waits leaf t on j u w);
    after = λ at i t leaf u w. c.after at i t leaf u (s.after at i t leaf u w);
  };
}

-- With all settled there is what memory has alone.
pub settled_cut : (memory : ℕ → Image) (n : ℕ) (o : Order) → ((b i : ℕ) → o.slot_from b i ≡ n) → ((b : ℕ) → o.bytes_from b ≡ n) → AllAre (memory n) (IsCut memory n o)
settled_cut memory n o slots bytes = record {
  each = λ image c. record {
    each = λ b. record {
      bytes =
          let e : c.bytes_at b ≡ n = omega (arith, c.bytes_up_to b, c.bytes_from b, bytes b) in
          c.bytes b ∙ ap (λ m. (memory m b).bytes) e;
      slots = λ i.
          let e : c.slot_at b i ≡ n = omega (arith, c.slots_up_to b i, c.slots_from b i, slots b i) in
          c.slots b i ∙ ap (λ m. (memory m b).slot i) e;
    };
  };
}

-- A slot is put as moment n + 1. `fit` is the order after it, which may have one more order for this very slot.
pub slot_cut : {memory : ℕ → Image} {n at i : ℕ} {s : Slot} {old new : Order} {beside : Image → Type 0} → IsUpTo n old → IsStricter new old → PutsSlot at i s (memory n) (memory (n + 1)) → ((image : Image) (c : IsCut memory (n + 1) new image) → n < c.slot_at at i → beside image) → AddsSlot (memory n) at i s beside (IsCut memory n old) (IsCut memory (n + 1) new)
slot_cut {memory} {n} {at} {i} {s} {old} {new} {beside} up stricter puts besides = record {
  each = λ image c. ⊎_elim
      (λ late. inr (c.slots at i ∙ ap (λ m. (memory m at).slot i) (last c late) ∙ puts.here, before image c late, besides image c late))
      (λ early. inl (still image c early))
      (cases_lt n (c.slot_at at i));
}
  where
    last : {image : Image} (c : IsCut memory (n + 1) new image) → n < c.slot_at at i → c.slot_at at i ≡ n + 1
    last c late = omega (arith, c.slots_up_to at i)

    -- a slot other than the one that was put is at moment n what it is at n + 1
    slot_min : (b j m : ℕ) → (b ≢ at) ⊎ (j ≢ i) → m ≤ n + 1 → (memory m b).slot j ≡ (memory (min m n) b).slot j
    slot_min b j m other le = ⊎_elim
        (λ lt. let e : m ≡ n + 1 = omega arith in let f : min m n ≡ n = omega arith in ap (λ x. (memory x b).slot j) e ∙ puts.others b j other ∙ ap (λ x. (memory x b).slot j) (sym f))
        (λ small. let f : m ≡ min m n = omega arith in ap (λ x. (memory x b).slot j) f)
        (cases_lt n m)

    bytes_min : (b m : ℕ) → m ≤ n + 1 → (memory m b).bytes ≡ (memory (min m n) b).bytes
    bytes_min b m le = ⊎_elim
        (λ lt. let e : m ≡ n + 1 = omega arith in let f : min m n ≡ n = omega arith in ap (λ x. (memory x b).bytes) e ∙ puts.bytes b ∙ ap (λ x. (memory x b).bytes) (sym f))
        (λ small. let f : m ≡ min m n = omega arith in ap (λ x. (memory x b).bytes) f)
        (cases_lt n m)

    cut : (image other : Image) (c : IsCut memory (n + 1) new image) → ((b j : ℕ) → (other b).slot j ≡ (memory (min (c.slot_at b j) n) b).slot j) → ((b : ℕ) → (other b).bytes ≡ (image b).bytes) → IsCut memory n old other
    cut image other c slots bytes = record {
      slot_at = λ b j. min (c.slot_at b j) n;
      bytes_at = λ b. min (c.bytes_at b) n;
      slots = slots;
      bytes = λ b. bytes b ∙ c.bytes b ∙ bytes_min b (c.bytes_at b) (c.bytes_up_to b);
      slots_up_to = λ b j. omega arith;
      bytes_up_to = λ b. omega arith;
      slots_from = λ b j. omega (arith, stricter.slots b j, c.slots_from b j, up.slots b j);
      bytes_from = λ b. omega (arith, stricter.bytes b, c.bytes_from b, up.bytes b);
      waits = λ leaf t on j u w le. let h : u ≤ c.slot_at on j = c.waits leaf t on j u (stricter.waits leaf t on j u w) (omega (arith, le)) in omega (arith, h, up.waits leaf t on j u w);
      after = λ a j t leaf u w le. let h : u ≤ c.bytes_at leaf = c.after a j t leaf u (stricter.after a j t leaf u w) (omega (arith, le)) in omega (arith, h, up.after a j t leaf u w);
    }

    still : (image : Image) (c : IsCut memory (n + 1) new image) → c.slot_at at i ≤ n → IsCut memory n old image
    still image c early = cut image image c (λ b j. c.slots b j ∙ kept b j) (λ b. refl)
      where
        kept : (b j : ℕ) → (memory (c.slot_at b j) b).slot j ≡ (memory (min (c.slot_at b j) n) b).slot j
        kept b j = ⊎_elim
            (λ b_is. ⊎_elim
            (λ j_is. let e : c.slot_at b j ≡ c.slot_at at i = ap (λ x. c.slot_at x j) b_is ∙ ap (λ x. c.slot_at at x) j_is in let f : c.slot_at b j ≡ min (c.slot_at b j) n = omega (arith, e, early) in ap (λ x. (memory x b).slot j) f)
            (λ ne. slot_min b j (c.slot_at b j) (inr ne) (c.slots_up_to b j))
            (cases_eq j i))
            (λ ne. slot_min b j (c.slot_at b j) (inl ne) (c.slots_up_to b j))
            (cases_eq b at)

    before : (image : Image) (c : IsCut memory (n + 1) new image) → n < c.slot_at at i → IsCut memory n old (with_slot image at i ((memory n at).slot i))
    before image c late = cut image (with_slot image at i ((memory n at).slot i)) c back (λ b. slot_bytes image at i ((memory n at).slot i) b)
      where
        back : (b j : ℕ) → (with_slot image at i ((memory n at).slot i) b).slot j ≡ (memory (min (c.slot_at b j) n) b).slot j
        back b j = ⊎_elim
            (λ b_is. ⊎_elim
            (λ j_is. let e : c.slot_at b j ≡ c.slot_at at i = ap (λ x. c.slot_at x j) b_is ∙ ap (λ x. c.slot_at at x) j_is in let f : n ≡ min (c.slot_at b j) n = omega (arith, e, late) in ap (λ x. (with_slot image at i ((memory n at).slot i) x).slot j) b_is ∙ ap (λ k. (with_slot image at i ((memory n at).slot i) at).slot k) j_is ∙ slot_here image at i ((memory n at).slot i) ∙ ap (λ k. (memory n at).slot k) (sym j_is) ∙ ap (λ x. (memory n x).slot j) (sym b_is) ∙ ap (λ x. (memory x b).slot j) f)
            (λ ne. slot_other image at i ((memory n at).slot i) b j (inr ne) ∙ c.slots b j ∙ slot_min b j (c.slot_at b j) (inr ne) (c.slots_up_to b j))
            (cases_eq j i))
            (λ ne. slot_other image at i ((memory n at).slot i) b j (inl ne) ∙ c.slots b j ∙ slot_min b j (c.slot_at b j) (inl ne) (c.slots_up_to b j))
            (cases_eq b at)

-- A slot is cleared after a leaf: an image with the cleared slot has the leaf's bytes as they are.
pub cleared_cut : {memory : ℕ → Image} {n at i leaf : ℕ} {s : Slot} {old new : Order} → IsUpTo n old → IsStricter new old → new.After at i (n + 1) leaf n → PutsSlot at i s (memory n) (memory (n + 1)) → AddsSlot (memory n) at i s (λ image. (image leaf).bytes ≡ (memory n leaf).bytes) (IsCut memory n old) (IsCut memory (n + 1) new)
cleared_cut {memory} {n} {at} {i} {leaf} up stricter order puts = slot_cut up stricter puts (λ image c late.
    let from : n ≤ c.bytes_at leaf = c.after at i (n + 1) leaf n order (omega (arith, late)) in
    c.bytes leaf ∙ ⊎_elim
    (λ e. ap (λ m. (memory m leaf).bytes) e)
    (λ ne. let f : c.bytes_at leaf ≡ n + 1 = omega (arith, from, ne, c.bytes_up_to leaf) in ap (λ m. (memory m leaf).bytes) f ∙ puts.bytes leaf)
    (cases_eq (c.bytes_at leaf) n))

-- The bytes of a block are put as moment n + 1.
pub bytes_cut : {memory : ℕ → Image} {n at : ℕ} {bytes : List ℕ} {old new : Order} {beside : Image → Type 0} → IsUpTo n old → IsStricter new old → PutsBytes at bytes (memory n) (memory (n + 1)) → ((image : Image) (c : IsCut memory (n + 1) new image) → n < c.bytes_at at → beside image) → AddsBytes (memory n) at ((memory (n + 1) at).bytes) beside (IsCut memory n old) (IsCut memory (n + 1) new)
bytes_cut {memory} {n} {at} {bytes} {old} {new} {beside} up stricter puts besides = record {
  each = λ image c. ⊎_elim
      (λ late. inr (c.bytes at ∙ ap (λ m. (memory m at).bytes) (last c late), before image c late, besides image c late))
      (λ early. inl (still image c early))
      (cases_lt n (c.bytes_at at));
}
  where
    last : {image : Image} (c : IsCut memory (n + 1) new image) → n < c.bytes_at at → c.bytes_at at ≡ n + 1
    last c late = omega (arith, c.bytes_up_to at)

    slot_min : (b j m : ℕ) → m ≤ n + 1 → (memory m b).slot j ≡ (memory (min m n) b).slot j
    slot_min b j m le = ⊎_elim
        (λ lt. let e : m ≡ n + 1 = omega arith in let f : min m n ≡ n = omega arith in ap (λ x. (memory x b).slot j) e ∙ puts.slots b j ∙ ap (λ x. (memory x b).slot j) (sym f))
        (λ small. let f : m ≡ min m n = omega arith in ap (λ x. (memory x b).slot j) f)
        (cases_lt n m)

    bytes_min : (b m : ℕ) → b ≢ at → m ≤ n + 1 → (memory m b).bytes ≡ (memory (min m n) b).bytes
    bytes_min b m other le = ⊎_elim
        (λ lt. let e : m ≡ n + 1 = omega arith in let f : min m n ≡ n = omega arith in ap (λ x. (memory x b).bytes) e ∙ puts.others b other ∙ ap (λ x. (memory x b).bytes) (sym f))
        (λ small. let f : m ≡ min m n = omega arith in ap (λ x. (memory x b).bytes) f)
        (cases_lt n m)

    cut : (image other : Image) (c : IsCut memory (n + 1) new image) → ((b j : ℕ) → (other b).slot j ≡ (image b).slot j) → ((b : ℕ) → (other b).bytes ≡ (memory (min (c.bytes_at b) n) b).bytes) → IsCut memory n old other
    cut image other c slots bytes = record {
      slot_at = λ b j. min (c.slot_at b j) n;
      bytes_at = λ b. min (c.bytes_at b) n;
      slots = λ b j. slots b j ∙ c.slots b j ∙ slot_min b j (c.slot_at b j) (c.slots_up_to b j);
      bytes = bytes;
      slots_up_to = λ b j. omega arith;
      bytes_up_to = λ b. omega arith;
      slots_from = λ b j. omega (arith, stricter.slots b j, c.slots_from b j, up.slots b j);
      bytes_from = λ b. omega (arith, stricter.bytes b, c.bytes_from b, up.bytes b);
      waits = λ leaf t on j u w le. let h : u ≤ c.slot_at on j = c.waits leaf t on j u (stricter.waits leaf t on j u w) (omega (arith, le)) in omega (arith, h, up.waits leaf t on j u w);
      after = λ a j t leaf u w le. let h : u ≤ c.bytes_at leaf = c.after a j t leaf u (stricter.after a j t leaf u w) (omega (arith, le)) in omega (arith, h, up.after a j t leaf u w);
    }

    still : (image : Image) (c : IsCut memory (n + 1) new image) → c.bytes_at at ≤ n → IsCut memory n old image
    still image c early = cut image image c (λ b j. refl) (λ b. c.bytes b ∙ ⊎_elim
        (λ b_is. let e : c.bytes_at b ≡ c.bytes_at at = ap (λ x. c.bytes_at x) b_is in let f : c.bytes_at b ≡ min (c.bytes_at b) n = omega (arith, e, early) in ap (λ x. (memory x b).bytes) f)
        (λ ne. bytes_min b (c.bytes_at b) ne (c.bytes_up_to b))
        (cases_eq b at))

    before : (image : Image) (c : IsCut memory (n + 1) new image) → n < c.bytes_at at → IsCut memory n old (with_bytes image at ((memory n at).bytes))
    before image c late = cut image (with_bytes image at ((memory n at).bytes)) c (λ b j. bytes_slot image at ((memory n at).bytes) b j) (λ b. ⊎_elim
        (λ b_is. let e : c.bytes_at b ≡ c.bytes_at at = ap (λ x. c.bytes_at x) b_is in let f : n ≡ min (c.bytes_at b) n = omega (arith, e, late) in ap (λ x. (with_bytes image at ((memory n at).bytes) x).bytes) b_is ∙ bytes_here image at ((memory n at).bytes) ∙ ap (λ x. (memory n x).bytes) (sym b_is) ∙ ap (λ x. (memory x b).bytes) f)
        (λ ne. ap (λ (k : Content). k.bytes) (bytes_other image at ((memory n at).bytes) b ne) ∙ c.bytes b ∙ bytes_min b (c.bytes_at b) ne (c.bytes_up_to b))
        (cases_eq b at))

-- The bytes are put into a leaf that waits: an image with them has the entries in use as memory has them.
pub waited_cut : {memory : ℕ → Image} {n leaf : ℕ} {bytes : List ℕ} {old new : Order} (waits : ℕ → ℕ → Type 0) → IsUpTo n old → IsStricter new old → ((on j : ℕ) → waits on j → (t : ℕ) × (u : ℕ) × (t ≤ n + 1) × new.Waits leaf t on j u × ((m : ℕ) → u ≤ m → m ≤ n + 1 → SameUse ((memory m on).slot j) ((memory n on).slot j))) → PutsBytes leaf bytes (memory n) (memory (n + 1)) → AddsBytes (memory n) leaf ((memory (n + 1) leaf).bytes) (λ image. (on j : ℕ) → waits on j → SameUse ((image on).slot j) ((memory n on).slot j)) (IsCut memory n old) (IsCut memory (n + 1) new)
waited_cut {memory} {n} {leaf} waits up stricter orders puts = bytes_cut up stricter puts (λ image c late on j w.
    let (t, u, le, order, alike) = orders on j w in
    let from : u ≤ c.slot_at on j = c.waits leaf t on j u order (omega (arith, le, late)) in
    subst (λ (x : Slot). SameUse x ((memory n on).slot j)) (sym (c.slots on j)) (alike (c.slot_at on j) from (c.slots_up_to on j)))

-- A block is given out as moment n + 1: from then on an image has it as it was given out. That no image leads to it is the cache's own.
pub block_cut : {memory : ℕ → Image} {n at : ℕ} {c : Content} {old new : Order} {tops : ℕ → Type 0} → IsUpTo n old → IsStricter new old → ((i : ℕ) → new.slot_from at i ≡ n + 1) → new.bytes_from at ≡ n + 1 → PutsBlock at c (memory n) (memory (n + 1)) → ((image : Image) → IsCut memory (n + 1) new image → (t : ℕ) → tops t → Reaches image (to_block t) at → ⊥) → AddsBlock tops at c (IsCut memory n old) (IsCut memory (n + 1) new)
block_cut {memory} {n} {at} {c} {old} {new} {tops} up stricter born_slots born_bytes puts apart = record {
  apart = apart;
  holds = λ image k. record {
    bytes = let e : k.bytes_at at ≡ n + 1 = omega (arith, k.bytes_up_to at, k.bytes_from at, born_bytes) in k.bytes at ∙ ap (λ m. (memory m at).bytes) e ∙ puts.here.bytes;
    slots = λ i. let e : k.slot_at at i ≡ n + 1 = omega (arith, k.slots_up_to at i, k.slots_from at i, born_slots i) in k.slots at i ∙ ap (λ m. (memory m at).slot i) e ∙ puts.here.slots i;
  };
  before = λ image k. (
    memory n at,
    record {
      slot_at = λ b j. min (k.slot_at b j) n;
      bytes_at = λ b. min (k.bytes_at b) n;
      slots = λ b j. ⊎_elim (λ e. slot_here_is image k b j e) (λ ne. ap (λ (x : Content). x.slot j) (block_other image at (memory n at) b ne) ∙ k.slots b j ∙ slot_min b j (k.slot_at b j) ne (k.slots_up_to b j)) (cases_eq b at);
      bytes = λ b. ⊎_elim (λ e. bytes_here_is image k b e) (λ ne. ap (λ (x : Content). x.bytes) (block_other image at (memory n at) b ne) ∙ k.bytes b ∙ bytes_min b (k.bytes_at b) ne (k.bytes_up_to b)) (cases_eq b at);
      slots_up_to = λ b j. omega arith;
      bytes_up_to = λ b. omega arith;
      slots_from = λ b j. omega (arith, stricter.slots b j, k.slots_from b j, up.slots b j);
      bytes_from = λ b. omega (arith, stricter.bytes b, k.bytes_from b, up.bytes b);
      waits = λ leaf t on j u w le. let h : u ≤ k.slot_at on j = k.waits leaf t on j u (stricter.waits leaf t on j u w) (omega (arith, le)) in omega (arith, h, up.waits leaf t on j u w);
      after = λ a j t leaf u w le. let h : u ≤ k.bytes_at leaf = k.after a j t leaf u (stricter.after a j t leaf u w) (omega (arith, le)) in omega (arith, h, up.after a j t leaf u w);
    },
  );
}
  where
    slot_min : (b j m : ℕ) → b ≢ at → m ≤ n + 1 → (memory m b).slot j ≡ (memory (min m n) b).slot j
    slot_min b j m other le = ⊎_elim
        (λ lt. let e : m ≡ n + 1 = omega arith in let f : min m n ≡ n = omega arith in ap (λ x. (memory x b).slot j) e ∙ (puts.others b other).slots j ∙ ap (λ x. (memory x b).slot j) (sym f))
        (λ small. let f : m ≡ min m n = omega arith in ap (λ x. (memory x b).slot j) f)
        (cases_lt n m)

    bytes_min : (b m : ℕ) → b ≢ at → m ≤ n + 1 → (memory m b).bytes ≡ (memory (min m n) b).bytes
    bytes_min b m other le = ⊎_elim
        (λ lt. let e : m ≡ n + 1 = omega arith in let f : min m n ≡ n = omega arith in ap (λ x. (memory x b).bytes) e ∙ (puts.others b other).bytes ∙ ap (λ x. (memory x b).bytes) (sym f))
        (λ small. let f : m ≡ min m n = omega arith in ap (λ x. (memory x b).bytes) f)
        (cases_lt n m)

    here : (image : Image) → with_block image at (memory n at) at ≡ memory n at
    here image = block_here image at (memory n at)

    slot_here_is : (image : Image) (k : IsCut memory (n + 1) new image) (b j : ℕ) → b ≡ at → (with_block image at (memory n at) b).slot j ≡ (memory (min (k.slot_at b j) n) b).slot j
    slot_here_is image k b j e =
        let late : k.slot_at at j ≡ n + 1 = omega (arith, k.slots_up_to at j, k.slots_from at j, born_slots j) in
        let same : k.slot_at b j ≡ k.slot_at at j = ap (λ x. k.slot_at x j) e in
        let f : n ≡ min (k.slot_at b j) n = omega (arith, late, same) in
        ap (λ x. (with_block image at (memory n at) x).slot j) e ∙ ap (λ (x : Content). x.slot j) (here image) ∙ ap (λ x. (memory n x).slot j) (sym e) ∙ ap (λ x. (memory x b).slot j) f

    bytes_here_is : (image : Image) (k : IsCut memory (n + 1) new image) (b : ℕ) → b ≡ at → (with_block image at (memory n at) b).bytes ≡ (memory (min (k.bytes_at b) n) b).bytes
    bytes_here_is image k b e =
        let late : k.bytes_at at ≡ n + 1 = omega (arith, k.bytes_up_to at, k.bytes_from at, born_bytes) in
        let same : k.bytes_at b ≡ k.bytes_at at = ap (λ x. k.bytes_at x) e in
        let f : n ≡ min (k.bytes_at b) n = omega (arith, late, same) in
        ap (λ x. (with_block image at (memory n at) x).bytes) e ∙ ap (λ (x : Content). x.bytes) (here image) ∙ ap (λ x. (memory n x).bytes) (sym e) ∙ ap (λ x. (memory x b).bytes) f
