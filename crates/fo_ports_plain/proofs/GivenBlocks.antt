-- Blocks that may be given out: one of zeros, and a copy.
use Rattle.std.proofs.Common.{◌≡◌, inl, inr, ℕ, zero, suc, ◌-◌, ◌^◌, ◌<◌, Bool, true, false, cond, List, [], drop, replicate, refl, sym, ◌∙◌, ap, subst, arith}
use Rattle.std.proofs.lemmas.Bool.{lt-ltb}
use Rattle.fo_image.specs.declared.types.Kind.{Kind}
use Rattle.fo_image.specs.declared.types.Kind.TheVariants.{Data, Dir, Root}
use Rattle.fo_crash.specs.declared.slot.Slot.TheVariants.{Pointer as To, Entry as Head}
use Rattle.fo_crash.specs.declared.place.Place.{Place}
use Rattle.fo_image.specs.declared.types.Pointer.TheVariants.{Nil}
use Rattle.fo_image.specs.declared.types.State.TheVariants.{Live}
use Rattle.fo_crash.specs.Images.{SameContent, target, to_block, Reaches}
use Rattle.fo_meta.specs.Leaf.{IsLeaf}
use Rattle.fo_image.specs.Field.{zeros}
use Rattle.fo_ports.specs.Blocks.{blank, blank_slot, no_entry, zero_bytes, slot_count, slots_to, SlotFits, IsEntry, AreZeros, IsFormed, IsLevel}
use Rattle.fo_ports.proofs.Lengths.{length_zero_bytes}
use Rattle.fo_ports_plain.specs.declared.home.Home.{Home}
use Rattle.fo_ports_plain.specs.declared.block.PlainBlock.{PlainBlock}
use Rattle.fo_ports_plain.specs.Plain.{block_at, content_of, memory, label_of, label_at, nowhere}
use Rattle.fo_ports_plain.specs.Sound.{Sound, Formed}
use Rattle.fo_ports_plain.specs.Meaning.{Plain}
use Rattle.fo_ports_plain.specs.Laws.{formed_at, label_kind, apart_hangs}
use Rattle.fo_ports_plain.proofs.Made.{MayMake, copied_links}
use Rattle.fo_ports_plain.proofs.Memory.{blank_nowhere}

-- a block of zeros spells slots
pub blank_fits : (kind : Kind) (i : ℕ) → i < slot_count kind → SlotFits kind i (blank_slot kind i)
blank_fits (Data level) i lt = tt
blank_fits (Dir zero) i lt = subst (λ t. IsEntry (cond t (Head no_entry) (To Nil))) (sym (lt-ltb i 204 lt)) (record { active_holds = (refl, refl, refl, refl, refl) }, omega arith)
blank_fits (Dir (suc level)) i lt = tt
blank_fits Root zero lt = (record { active_holds = (refl, refl, refl, refl, refl) }, omega arith)
blank_fits Root (suc zero) lt = (record { active_holds = (refl, refl, refl, refl, refl) }, omega arith)
blank_fits Root (suc (suc zero)) lt = tt
blank_fits Root (suc (suc (suc i))) lt = absurd (omega (arith, lt))

zero_leaf : IsLeaf zero_bytes
unfolding zero_bytes zeros
zero_leaf = record { records = []; spells = record { each = tt; room = omega arith; bytes_are = refl } }

-- a part of zeros is one
zeros_behind : (n m : ℕ) → AreZeros (drop m (replicate n 0))
zeros_behind zero zero = refl
zeros_behind zero (suc m) = refl
zeros_behind (suc n) zero = zeros_behind n zero
zeros_behind (suc n) (suc m) = zeros_behind n m

no_tail : (m : ℕ) → AreZeros (drop m zero_bytes)
unfolding zero_bytes
no_tail m = zeros_behind 8192 m

-- zeros are a leaf without records, and have zeros behind what spells slots
pub blank_formed : (kind : Kind) (rank : ℕ) → IsLevel kind → IsFormed kind rank zero_bytes
blank_formed (Data zero) rank is = (length_zero_bytes, λ _. zero_leaf)
blank_formed (Data (suc level)) rank is = (length_zero_bytes, no_tail (slots_to (Data (suc level))))
blank_formed (Dir level) rank is = (length_zero_bytes, no_tail (slots_to (Dir level)))
blank_formed Root rank is = absurd is

pub blank_may : (blocks : List PlainBlock) (made high : ℕ) (place : Place) {block : PlainBlock} → IsLevel place.kind → (block.place ≡ place) × (block.epoch ≡ high) × (block.source ≡ made) → (block.apart ≡ true) × (block.origin ≡ 0) × (block.taken ≡ false) × (block.kept ≡ false) × (block.home ≡ nowhere) × (block.retired ≡ false) → SameContent (content_of block) (blank place.kind) → block.bytes ≡ zero_bytes → MayMake blocks made high block
blank_may blocks made high place {block} level at marks content bytes = record {
  links = λ i b e. absurd (blank_nowhere place.kind i b (ap target (sym (content.slots i)) ∙ e));
  spelled = λ i lt. subst (λ s. SlotFits block.place.kind i s) (sym (content.slots i)) (subst (λ (x : Place). SlotFits x.kind i (blank_slot place.kind i)) (sym at.0) (blank_fits place.kind i (subst (λ (x : Place). i < slot_count x.kind) at.0 lt)));
  epoch = at.1;
  apart = marks.0;
  taken = marks.2;
  retired = marks.5;
  kept = marks.3;
  home = ap (λ (h : Home). h.hangs) marks.4;
  source = inl (record { origin = marks.1; source = at.2 });
  formed = subst (λ bs. IsFormed block.place.kind block.place.rank bs) (sym bytes) (subst (λ (x : Place). IsFormed x.kind x.rank zero_bytes) (sym at.0) (blank_formed place.kind place.rank level));
}

-- a copy of a block, to come in its place
abbrev pub copied : (high at : ℕ) → PlainBlock → PlainBlock
copied high at block = record block { epoch = high; apart = true; origin = at; home = nowhere; taken = false; retired = false; kept = false }

pub copy_may : {blocks : List PlainBlock} {made high root at : ℕ} → Sound blocks made high root → Formed blocks made → 1 < at → at < made → (block_at blocks at).apart ≡ false → MayMake blocks made high (copied high at (block_at blocks at))
copy_may {blocks} {made} {high} {root} {at} sound formed past lt joined = record {
  links = copied_links {at = at} (copied high at (block_at blocks at)) sound past refl refl (λ i. refl) refl;
  spelled = sound.spelled at past;
  epoch = refl;
  apart = refl;
  taken = refl;
  retired = refl;
  kept = refl;
  home = refl;
  source = inr (record { some = λ e. omega (arith, past, e); was_made = lt; joined = joined; source = refl; numbered = sound.sources.numbered at past lt });
  formed = formed_at blocks made at (block_at blocks at).place formed past (record { above = omega (arith, past); was_made = lt; is = refl });
}

-- a copy has the label of its block, but for its epoch
pub copied_label : (blocks : List PlainBlock) (made high at : ℕ) → label_of Live high (2 ^ 32 - 1) (copied high at (block_at blocks at)) ≡ record (label_at blocks made at) { state = Live; epoch = high; closing = 2 ^ 32 - 1 }
copied_label blocks made high at =
    let same = label_kind blocks made at in
    ap (λ k. record { state = Live; kind = k; tag = (block_at blocks at).place.tag; epoch = high; closing = 2 ^ 32 - 1 }) (sym same.0)
    ∙ ap (λ t. record { state = Live; kind = (label_at blocks made at).kind; tag = t; epoch = high; closing = 2 ^ 32 - 1 }) (sym same.1)

-- what hangs from block 1 is apart no more
pub joined_of : (p : Plain) {at : ℕ} → 2 < p.made → Sound p.blocks p.made p.high p.root → Reaches (memory p.blocks) (to_block 1) at → (block_at p.blocks at).apart ≡ false
joined_of p {at} three sound r = by (block_at p.blocks at).apart refl
  where
    by : (t : Bool) → (block_at p.blocks at).apart ≡ t → (block_at p.blocks at).apart ≡ false
    by false e = e
    by true e = absurd (apart_hangs p three sound (memory p.blocks) 1 at e (record { each = λ b. record { bytes = refl; slots = λ i. refl } }) (inl refl) r)
