-- What each step keeps at which paths, in every image.
use Rattle.std.proofs.Common.{◌≡◌, ◌≢◌, ◌⊎◌, inl, inr, ⊎_elim, ℕ, List, [], ◌∷◌, refl, sym, ◌∙◌, ap, subst}
use Rattle.std.proofs.lemmas.Bool.{cases_eq}
use Rattle.fo_image.specs.declared.types.Kind.{Kind}
use Rattle.fo_image.specs.declared.types.Kind.TheVariants.{Root}
use Rattle.fo_image.specs.declared.types.Score.{Score}
use Rattle.fo_image.specs.declared.types.Pointer.{Pointer}
use Rattle.fo_image.specs.declared.types.Pointer.TheVariants.{Nil, Local, Score as Held}
use Rattle.fo_crash.specs.declared.slot.Slot.{Slot}
use Rattle.fo_crash.specs.Images.{Content, Image, Arena, Link, to_block, from_block, target, note, kind_below, goes, step, meant, found, bytes_at, Same, SameTree, SameContent, Reaches, IsArena, with_slot, with_bytes, with_block}
use Rattle.fo_crash.specs.Steps.{AddsSlot, AddsBytes, AddsBlock, AddsNothing, AddsSuper, IsSure}
use Rattle.fo_crash.specs.Shows.{Keeps, Plain, AllShow, AllHold, Avoids, Everywhere, FromRoot, BelowRoot, SameTarget, SameSlot, SameBlock, Matches}
use Rattle.fo_crash.proofs.Updates.{slot_bytes, slot_other, slot_here, bytes_other, bytes_slot, block_other, block_here}
use Rattle.fo_crash.proofs.Reach.{reaches}
use Rattle.fo_crash.proofs.Match.{same_tree}

-- ONE THING AFTER ANOTHER
pub same_at_once : (arena : Arena) (image : Image) (w : Link) (path : List ℕ) → Same arena image w image w path
same_at_once arena image w path = record { notes = refl; bytes = refl }

-- the links that a path comes to are the same, and so is what they lead to
same_by : (arena : Arena) (image other : Image) (w : Link) (path : List ℕ) → goes arena image w path ≡ goes arena other w path → (found arena image (goes arena image w path)).bytes ≡ (found arena other (goes arena image w path)).bytes → Same arena image w other w path
same_by arena image other w path e b = record {
  notes = ap (λ (v : Link). note v.slot) e;
  bytes = b ∙ ap (λ (v : Link). (found arena other v).bytes) e;
}

pub keeps_at_once : (arena : Arena) (top : Link) (paths : List ℕ → Type 0) (images : Image → Type 0) → Keeps arena top paths images images
keeps_at_once arena top paths images = record { from = λ image is. (image, is, λ path _. same_at_once arena image top path) }

pub keeps_joins : {arena : Arena} {top : Link} {paths : List ℕ → Type 0} {a b c : Image → Type 0} → Keeps arena top paths a b → Keeps arena top paths b c → Keeps arena top paths a c
keeps_joins first second = record {
  from = λ image is.
      let (mid, is_mid, same_mid) = second.from image is in
      let (start, is_start, same_start) = first.from mid is_mid in (
        start,
        is_start,
        λ path h. record {
          notes = (same_mid path h).notes ∙ (same_start path h).notes;
          bytes = (same_mid path h).bytes ∙ (same_start path h).bytes;
        },
      );
}

pub keeps_fewer : {arena : Arena} {top : Link} {paths fewer : List ℕ → Type 0} {a b : Image → Type 0} → Keeps arena top paths a b → ((path : List ℕ) → fewer path → paths path) → Keeps arena top fewer a b
keeps_fewer k fewer = record {
  from = λ image is. let (other, is_other, same) = k.from image is in (other, is_other, λ path h. same path (fewer path h));
}

-- What all images show or hold at paths that are kept, they do afterwards.
pub all_show_still : {arena : Arena} {top : Link} {paths : List ℕ → Type 0} {plain : Plain} {a b : Image → Type 0} → AllShow arena top paths plain a → Keeps arena top paths a b → AllShow arena top paths plain b
all_show_still show k = record {
  each = λ image is path h.
      let (other, is_other, same) = k.from image is in
      let shown = show.each other is_other path h in
      ((same path h).notes ∙ shown.0, (same path h).bytes ∙ shown.1);
}

pub all_hold_still : {arena : Arena} {top : Link} {paths : List ℕ → Type 0} {fact : List ℕ → Slot → List ℕ → Type 0} {a b : Image → Type 0} → AllHold arena top paths fact a → Keeps arena top paths a b → AllHold arena top paths fact b
all_hold_still {arena} {top} {paths} {fact} hold k = record {
  each = λ image is path h.
      let (other, is_other, same) = k.from image is in
      subst (λ (s : Slot). fact path s (bytes_at arena image top path)) (sym (same path h).notes) (subst (λ (bs : List ℕ). fact path (note ((goes arena other top path).slot)) bs) (sym (same path h).bytes) (hold.each other is_other path h));
}

-- A flush, an unlinking, and a sync that failed or did not.
pub nothing_keeps : {old new : Image → Type 0} (arena : Arena) (top : Link) (paths : List ℕ → Type 0) → AddsNothing old new → Keeps arena top paths old new
nothing_keeps arena top paths a = record { from = λ image is. (image, a.each image is, λ path _. same_at_once arena image top path) }

-- SLOTS OF RELATED ADDRESSES
self_slot : (B : ℕ → ℕ → Type 0) (s : Slot) → ((a : ℕ) → target s ≡ Local a → B a a) → SameSlot B s s
self_slot B s h = record { notes = refl; targets = self (target s) h }
  where
    self : (p : Pointer) → ((a : ℕ) → p ≡ Local a → B a a) → SameTarget B p p
    self Nil h = tt
    self (Local a) h = h a refl
    self (Held x) h = refl

equal_slot : (B : ℕ → ℕ → Type 0) (s t : Slot) → s ≡ t → ((a : ℕ) → target s ≡ Local a → B a a) → SameSlot B s t
equal_slot B s t e h = subst (λ (x : Slot). SameSlot B s x) e (self_slot B s h)

held_blocks : (B : ℕ → ℕ → Type 0) (arena : Arena) → IsArena arena → (kind : Kind) (score : Score) → SameBlock B (arena kind score) (arena kind score)
held_blocks B arena is kind score = record {
  bytes = refl;
  slots = λ i. self_slot B ((arena kind score).slot i) (λ a e. absurd (is.apart kind score i a e));
}

-- A BLOCK THAT NO PATH COMES TO
meant_block : (arena : Arena) (image : Image) (at : ℕ) (d : Content) (kind : Kind) (p : Pointer) → p ≢ Local at → meant arena image kind p ≡ meant arena (with_block image at d) kind p
meant_block arena image at d kind Nil h = refl
meant_block arena image at d kind (Held x) h = refl
meant_block arena image at d kind (Local b) h = sym (block_other image at d b (λ e. h (ap Local e)))

-- slot i of a content, below a link
abbrev after : Kind → Content → ℕ → Link
after kind c i = record { kind = kind_below kind (c.slot i); slot = c.slot i }

pub goes_block : (arena : Arena) (image : Image) (at : ℕ) (d : Content) (path : List ℕ) (w : Link) → ((front : List ℕ) → target ((goes arena image w front).slot) ≢ Local at) → goes arena image w path ≡ goes arena (with_block image at d) w path
goes_block arena image at d [] w h = refl
goes_block arena image at d (i ∷ path) w h =
    goes_block arena image at d path (step arena image w i) (λ front. h (i ∷ front))
    ∙ ap (λ (k : Content). goes arena (with_block image at d) (after w.kind k i) path) (meant_block arena image at d w.kind (target w.slot) (h []))

pub same_aside : (arena : Arena) (image : Image) (at : ℕ) (d : Content) (w : Link) → ((path : List ℕ) → target ((goes arena image w path).slot) ≢ Local at) → (path : List ℕ) → Same arena image w (with_block image at d) w path
same_aside arena image at d w apart path = same_by arena image (with_block image at d) w path
    (goes_block arena image at d path w apart)
    (ap (λ (k : Content). k.bytes) (meant_block arena image at d (goes arena image w path).kind (target ((goes arena image w path).slot)) (apart path)))

-- A block was given out: every image shows what one of before shows.
pub block_keeps : {arena : Arena} {tops : ℕ → Type 0} {at : ℕ} {c : Content} {old new : Image → Type 0} (t : ℕ) → IsArena arena → tops t → AddsBlock tops at c old new → Keeps arena (from_block t) Everywhere old new
block_keeps {arena} {tops} {at} {c} {old} {new} t is_arena is_top a = record {
  from = λ image is.
      let (d, is_old) = a.before image is in
      (with_block image at d, is_old, λ path _. same_aside arena image at d (from_block t) (λ p e. a.apart image is t is_top (reaches (from_block t) p is_arena e)) path);
}

-- A SLOT THAT LEADS TO A COPY
-- A slot is led to another block, which has in every image the same content as the block that it led to.
pub relink_keeps : {arena : Arena} {now : Image} {at i : ℕ} {s : Slot} {beside : Image → Type 0} {old new : Image → Type 0} (top : Link) (a b : ℕ) → IsArena arena → AddsSlot now at i s beside old new → note s ≡ note ((now at).slot i) → target ((now at).slot i) ≡ Local a → target s ≡ Local b → at ≢ a → at ≢ b → ((image : Image) → old image → SameContent (image a) (image b)) → Keeps arena top Everywhere old new
relink_keeps {arena} {now} {at} {i} {s} {beside} {old} {new} top a b is_arena add notes to_a to_b not_a not_b copies = record {
  from = λ image is. ⊎_elim
      (λ is_old. (image, is_old, λ path _. same_at_once arena image top path))
      (λ h. (with_slot image at i ((now at).slot i), h.1, λ path _. (same_tree (matches image h.0 h.1) top top (record { kinds = refl; slots = self_slot B top.slot (λ x _. inl refl) })).each path))
      (add.each image is);
}
  where
    B : ℕ → ℕ → Type 0
    B = λ x y. (x ≡ y) ⊎ ((x ≡ b) × (y ≡ a))

    new_slot : SameSlot B s ((now at).slot i)
    new_slot = record { notes = notes; targets = subst (λ (p : Pointer). SameTarget B p (target ((now at).slot i))) (sym to_b) (subst (λ (q : Pointer). SameTarget B (Local b) q) (sym to_a) (inr (refl, refl))) }

    moved_slot : {t u v w : Slot} → t ≡ v → u ≡ w → SameSlot B t u → SameSlot B v w
    moved_slot {t} {u} {v} {w} e f h = subst (λ (x : Slot). SameSlot B x w) e (subst (λ (x : Slot). SameSlot B t x) f h)

    same_slot : {t u : Slot} → t ≡ u → SameSlot B t u
    same_slot {t} {u} e = equal_slot B t u e (λ x _. inl refl)

    same_block : (image : Image) → (image at).slot i ≡ s → (x : ℕ) → SameBlock B (image x) (with_slot image at i ((now at).slot i) x)
    same_block image here x = record {
      bytes = sym (slot_bytes image at i ((now at).slot i) x);
      slots = λ j. ⊎_elim
          (λ x_is. ⊎_elim
          (λ j_is. moved_slot (sym (ap (λ y. (image y).slot j) x_is ∙ ap (λ k. (image at).slot k) j_is ∙ here)) (sym (ap (λ y. (with_slot image at i ((now at).slot i) y).slot j) x_is ∙ ap (λ k. (with_slot image at i ((now at).slot i) at).slot k) j_is ∙ slot_here image at i ((now at).slot i))) new_slot)
          (λ ne. same_slot (sym (slot_other image at i ((now at).slot i) x j (inr ne))))
          (cases_eq j i))
          (λ ne. same_slot (sym (slot_other image at i ((now at).slot i) x j (inl ne))))
          (cases_eq x at);
    }

    copied : (image : Image) → SameContent (with_slot image at i ((now at).slot i) a) (with_slot image at i ((now at).slot i) b) → SameBlock B (image b) (with_slot image at i ((now at).slot i) a)
    copied image c = record {
      bytes = sym (slot_bytes image at i ((now at).slot i) b) ∙ sym c.bytes;
      slots = λ j. same_slot (sym (slot_other image at i ((now at).slot i) b j (inl (λ e. not_b (sym e)))) ∙ sym (c.slots j));
    }

    matches : (image : Image) → (image at).slot i ≡ s → old (with_slot image at i ((now at).slot i)) → Matches B arena image (with_slot image at i ((now at).slot i))
    matches image here is_old = record {
      blocks = λ x y h. ⊎_elim
          (λ same. subst (λ z. SameBlock B (image x) (with_slot image at i ((now at).slot i) z)) same (same_block image here x))
          (λ moved. subst (λ z. SameBlock B (image z) (with_slot image at i ((now at).slot i) y)) (sym moved.0) (subst (λ z. SameBlock B (image b) (with_slot image at i ((now at).slot i) z)) (sym moved.1) (copied image (copies (with_slot image at i ((now at).slot i)) is_old))))
          h;
      held = held_blocks B arena is_arena;
    }

-- a block that is in every image what memory has, and its copy
pub copy_is_same : {tops : ℕ → Type 0} {a b : ℕ} {now : Image} {old new : Image → Type 0} → AddsBlock tops b (now a) old new → IsSure now a old → a ≢ b → (image : Image) → new image → SameContent (image a) (image b)
copy_is_same {tops} {a} {b} {now} add sure ne image is =
    let (d, is_old) = add.before image is in
    let e : with_block image b d a ≡ image a = block_other image b d a ne in
    let at_a = sure.each (with_block image b d) is_old in
    let at_b = add.holds image is in
    record {
      bytes = ap (λ (k : Content). k.bytes) (sym e) ∙ at_a.bytes ∙ sym at_b.bytes;
      slots = λ i. ap (λ (k : Content). k.slot i) (sym e) ∙ at_a.slots i ∙ sym (at_b.slots i);
    }

-- COPY ON WRITE. A block that is sure is copied and its parent's slot led to the copy: at every path every image shows what one of
-- before shows.
pub copy_keeps : {arena : Arena} {tops : ℕ → Type 0} {now mid_now : Image} {at i a b : ℕ} {s : Slot} {beside : Image → Type 0} {old mid new : Image → Type 0} (t : ℕ) → IsArena arena → tops t → AddsBlock tops b (now a) old mid → IsSure now a old → a ≢ b → AddsSlot mid_now at i s beside mid new → note s ≡ note ((mid_now at).slot i) → target ((mid_now at).slot i) ≡ Local a → target s ≡ Local b → at ≢ a → at ≢ b → Keeps arena (from_block t) Everywhere old new
copy_keeps {a = a} {b = b} t is_arena is_top add sure ne link notes to_a to_b not_a not_b =
    keeps_joins (block_keeps t is_arena is_top add) (relink_keeps (from_block t) a b is_arena link notes to_a to_b not_a not_b (copy_is_same add sure ne))

-- A SLOT OR BYTES BESIDE THE PATHS
meant_slot : (arena : Arena) (image : Image) (at i : ℕ) (u : Slot) (j : ℕ) (kind : Kind) (p : Pointer) → (p ≢ Local at) ⊎ (j ≢ i) → (meant arena image kind p).slot j ≡ (meant arena (with_slot image at i u) kind p).slot j
meant_slot arena image at i u j kind Nil h = refl
meant_slot arena image at i u j kind (Held x) h = refl
meant_slot arena image at i u j kind (Local b) h = sym (slot_other image at i u b j (⊎_elim (λ ne. inl (λ e. ne (ap Local e))) (λ ne. inr ne) h))

meant_bytes : (arena : Arena) (image : Image) (at i : ℕ) (u : Slot) (kind : Kind) (p : Pointer) → (meant arena image kind p).bytes ≡ (meant arena (with_slot image at i u) kind p).bytes
meant_bytes arena image at i u kind Nil = refl
meant_bytes arena image at i u kind (Held x) = refl
meant_bytes arena image at i u kind (Local b) = sym (slot_bytes image at i u b)

abbrev with_link : Kind → Slot → Link
with_link kind s = record { kind = kind_below kind s; slot = s }

pub goes_aside : (arena : Arena) (image : Image) (at i : ℕ) (u : Slot) (path : List ℕ) (w : Link) → Avoids arena image w at i path → goes arena image w path ≡ goes arena (with_slot image at i u) w path
goes_aside arena image at i u [] w h = refl
goes_aside arena image at i u (j ∷ path) w h =
    goes_aside arena image at i u path (step arena image w j) h.1
    ∙ ap (λ (x : Slot). goes arena (with_slot image at i u) (with_link w.kind x) path) (meant_slot arena image at i u j w.kind (target w.slot) h.0)

-- A slot was put that these paths make no use of.
pub slot_keeps : {arena : Arena} {now : Image} {at i : ℕ} {s : Slot} {beside : Image → Type 0} {old new : Image → Type 0} (top : Link) (paths : List ℕ → Type 0) → AddsSlot now at i s beside old new → ((image : Image) → new image → (path : List ℕ) → paths path → Avoids arena image top at i path) → Keeps arena top paths old new
slot_keeps {arena} {now} {at} {i} {s} {beside} {old} {new} top paths add aside = record {
  from = λ image is. ⊎_elim
      (λ is_old. (image, is_old, λ path _. same_at_once arena image top path))
      (λ h. (
        with_slot image at i ((now at).slot i),
        h.1,
        λ path p. same_by arena image (with_slot image at i ((now at).slot i)) top path
            (goes_aside arena image at i ((now at).slot i) path top (aside image is path p))
            (meant_bytes arena image at i ((now at).slot i) (goes arena image top path).kind (target ((goes arena image top path).slot))),
      ))
      (add.each image is);
}

pub goes_bytes : (arena : Arena) (image : Image) (at : ℕ) (bytes : List ℕ) (path : List ℕ) (w : Link) → goes arena image w path ≡ goes arena (with_bytes image at bytes) w path
goes_bytes arena image at bytes [] w = refl
goes_bytes arena image at bytes (j ∷ path) w =
    goes_bytes arena image at bytes path (step arena image w j)
    ∙ ap (λ (x : Slot). goes arena (with_bytes image at bytes) (with_link w.kind x) path) (here w.kind (target w.slot))
  where
    here : (kind : Kind) (p : Pointer) → (meant arena image kind p).slot j ≡ (meant arena (with_bytes image at bytes) kind p).slot j
    here kind Nil = refl
    here kind (Held x) = refl
    here kind (Local b) = sym (bytes_slot image at bytes b j)

meant_elsewhere : (arena : Arena) (image : Image) (at : ℕ) (bytes : List ℕ) (kind : Kind) (p : Pointer) → p ≢ Local at → (meant arena image kind p).bytes ≡ (meant arena (with_bytes image at bytes) kind p).bytes
meant_elsewhere arena image at bytes kind Nil h = refl
meant_elsewhere arena image at bytes kind (Held x) h = refl
meant_elsewhere arena image at bytes kind (Local b) h = ap (λ (k : Content). k.bytes) (sym (bytes_other image at bytes b (λ e. h (ap Local e))))

-- Bytes were put into a block in which none of these paths ends.
pub bytes_keeps : {arena : Arena} {now : Image} {at : ℕ} {bytes : List ℕ} {beside : Image → Type 0} {old new : Image → Type 0} (top : Link) (paths : List ℕ → Type 0) → AddsBytes now at bytes beside old new → ((image : Image) → new image → (path : List ℕ) → paths path → target ((goes arena image top path).slot) ≢ Local at) → Keeps arena top paths old new
bytes_keeps {arena} {now} {at} {bytes} {beside} {old} {new} top paths add aside = record {
  from = λ image is. ⊎_elim
      (λ is_old. (image, is_old, λ path _. same_at_once arena image top path))
      (λ h. (
        with_bytes image at ((now at).bytes),
        h.1,
        λ path p. same_by arena image (with_bytes image at ((now at).bytes)) top path
            (goes_bytes arena image at ((now at).bytes) path top)
            (meant_elsewhere arena image at ((now at).bytes) (goes arena image top path).kind (target ((goes arena image top path).slot)) (aside image is path p)),
      ))
      (add.each image is);
}

-- SNAPSHOTS
-- every path leads only to blocks of Q where every slot does
pub goes_within : (Q : ℕ → Type 0) (arena : Arena) (image : Image) → IsArena arena → ((a i b : ℕ) → target ((image a).slot i) ≡ Local b → Q b) → (path : List ℕ) (w : Link) → ((b : ℕ) → target w.slot ≡ Local b → Q b) → (b : ℕ) → target ((goes arena image w path).slot) ≡ Local b → Q b
goes_within Q arena image is_arena slots [] w h b e = h b e
goes_within Q arena image is_arena slots (i ∷ path) w h b e = goes_within Q arena image is_arena slots path (step arena image w i) (next (target w.slot)) b e
  where
    next : (p : Pointer) (b : ℕ) → target ((meant arena image w.kind p).slot i) ≡ Local b → Q b
    next Nil b e = absurd cc
    next (Held x) b e = absurd (is_arena.apart w.kind x i b e)
    next (Local a) b e = slots a i b e

-- A tree of which every block is sure, as that of a snapshot, is the same in every image.
pub sure_tree : (arena : Arena) (now : Image) (images : Image → Type 0) (w : Link) → ((at : ℕ) (path : List ℕ) → target ((goes arena now w path).slot) ≡ Local at → IsSure now at images) → (image : Image) → images image → SameTree arena image w now w
sure_tree arena now images w sure image is = record {
  each = λ path. same_by arena image now w path (along path w sure)
      (ap (λ (v : Link). (found arena image v).bytes) (along path w sure) ∙ bytes (goes arena now w path).kind (target ((goes arena now w path).slot)) (λ at h. sure at path h) ∙ ap (λ (v : Link). (found arena now v).bytes) (sym (along path w sure)));
}
  where
    bytes : (kind : Kind) (p : Pointer) → ((at : ℕ) → p ≡ Local at → IsSure now at images) → (meant arena image kind p).bytes ≡ (meant arena now kind p).bytes
    bytes kind Nil h = refl
    bytes kind (Held x) h = refl
    bytes kind (Local a) h = ((h a refl).each image is).bytes

    slot : (kind : Kind) (p : Pointer) (i : ℕ) → ((at : ℕ) → p ≡ Local at → IsSure now at images) → (meant arena image kind p).slot i ≡ (meant arena now kind p).slot i
    slot kind Nil i h = refl
    slot kind (Held x) i h = refl
    slot kind (Local a) i h = ((h a refl).each image is).slots i

    along : (path : List ℕ) (w : Link) → ((at : ℕ) (front : List ℕ) → target ((goes arena now w front).slot) ≡ Local at → IsSure now at images) → goes arena image w path ≡ goes arena now w path
    along [] w h = refl
    along (i ∷ path) w h =
        ap (λ (x : Slot). goes arena image (with_link w.kind x) path) (slot w.kind (target w.slot) i (λ at e. h at [] e))
        ∙ along path (step arena now w i) (λ at front e. h at (i ∷ front) e)

-- THE COPIED ROOT. Block 1 is led from one root block to another that has the same slots but for the root before: the tree is kept.
pub root_keeps : {arena : Arena} {now : Image} {beside : Image → Type 0} {old new : Image → Type 0} (a b : ℕ) → IsArena arena → AddsSuper now beside old new → (now 1).slot 0 ≡ to_block a → ((image : Image) → beside image → (image 1).slot 0 ≡ to_block b) → 1 ≢ a → 1 ≢ b → ((image : Image) → old image → (j : ℕ) → j ≢ 2 → (image a).slot j ≡ (image b).slot j) → ((image : Image) → new image → Reaches image (to_block b) 1 → ⊥) → Keeps arena (from_block 1) BelowRoot old new
root_keeps {arena} {now} {beside} {old} {new} a b is_arena add to_a to_b not_a not_b copied apart = record {
  from = λ image is. ⊎_elim
      (λ is_old. (image, is_old, λ path _. same_at_once arena image (from_block 1) path))
      (λ h. (with_block image 1 (now 1), h.0, λ path p. below image is h.0 (to_b image h.1) path p))
      (add.each image is);
}
  where
    first : (image : Image) (c j : ℕ) (path : List ℕ) → (image 1).slot 0 ≡ to_block c → goes arena image (from_block 1) (0 ∷ j ∷ path) ≡ goes arena image (from_block c) (j ∷ path)
    first image c j path e = ap (λ (s : Slot). goes arena image (with_link Root s) (j ∷ path)) e

    other_first : (image : Image) → (with_block image 1 (now 1) 1).slot 0 ≡ to_block a
    other_first image = ap (λ (c : Content). c.slot 0) (block_here image 1 (now 1)) ∙ to_a

    in_tree : (image : Image) → new image → old (with_block image 1 (now 1)) → (image 1).slot 0 ≡ to_block b → (j : ℕ) → j ≢ 2 → (path : List ℕ) → Same arena image (from_block 1) (with_block image 1 (now 1)) (from_block 1) (0 ∷ j ∷ path)
    in_tree image is is_old e j ne path =
        let s = same_aside arena image 1 (now 1) (from_block b) (λ front leads. apart image is (reaches (from_block b) front is_arena leads)) (j ∷ path) in
        let back = ap (λ (x : Slot). goes arena (with_block image 1 (now 1)) (with_link Root x) path) (sym (copied (with_block image 1 (now 1)) is_old j ne)) ∙ sym (first (with_block image 1 (now 1)) a j path (other_first image)) in
        record {
          notes = ap (λ (v : Link). note v.slot) (first image b j path e) ∙ s.notes ∙ ap (λ (v : Link). note v.slot) back;
          bytes = ap (λ (v : Link). (found arena image v).bytes) (first image b j path e) ∙ s.bytes ∙ ap (λ (v : Link). (found arena (with_block image 1 (now 1)) v).bytes) back;
        }

    below : (image : Image) → new image → old (with_block image 1 (now 1)) → (image 1).slot 0 ≡ to_block b → (path : List ℕ) → BelowRoot path → Same arena image (from_block 1) (with_block image 1 (now 1)) (from_block 1) path
    below image is is_old e [] p = absurd p
    below image is is_old e (i ∷ []) p = absurd p
    below image is is_old e (i ∷ j ∷ path) p = subst (λ k. Same arena image (from_block 1) (with_block image 1 (now 1)) (from_block 1) (k ∷ j ∷ path)) (sym p.0) (in_tree image is is_old e j p.1 path)

-- The super block was written with other values and the same root: all but its own bytes is kept.
pub super_keeps : {arena : Arena} {now : Image} {beside : Image → Type 0} {old new : Image → Type 0} (a : ℕ) → IsArena arena → AddsSuper now beside old new → (now 1).slot 0 ≡ to_block a → ((image : Image) → beside image → (image 1).slot 0 ≡ to_block a) → ((image : Image) → new image → Reaches image (to_block a) 1 → ⊥) → Keeps arena (from_block 1) FromRoot old new
super_keeps {arena} {now} {beside} {old} {new} a is_arena add to_a stays apart = record {
  from = λ image is. ⊎_elim
      (λ is_old. (image, is_old, λ path _. same_at_once arena image (from_block 1) path))
      (λ h. (with_block image 1 (now 1), h.0, λ path p. below image is (stays image h.1) path p))
      (add.each image is);
}
  where
    first : (image : Image) (path : List ℕ) → (image 1).slot 0 ≡ to_block a → goes arena image (from_block 1) (0 ∷ path) ≡ goes arena image (from_block a) path
    first image path e = ap (λ (s : Slot). goes arena image (with_link Root s) path) e

    other_first : (image : Image) → (with_block image 1 (now 1) 1).slot 0 ≡ to_block a
    other_first image = ap (λ (c : Content). c.slot 0) (block_here image 1 (now 1)) ∙ to_a

    in_tree : (image : Image) → new image → (image 1).slot 0 ≡ to_block a → (path : List ℕ) → Same arena image (from_block 1) (with_block image 1 (now 1)) (from_block 1) (0 ∷ path)
    in_tree image is e path =
        let s = same_aside arena image 1 (now 1) (from_block a) (λ front leads. apart image is (reaches (from_block a) front is_arena leads)) path in
        let back = sym (first (with_block image 1 (now 1)) path (other_first image)) in
        record {
          notes = ap (λ (v : Link). note v.slot) (first image path e) ∙ s.notes ∙ ap (λ (v : Link). note v.slot) back;
          bytes = ap (λ (v : Link). (found arena image v).bytes) (first image path e) ∙ s.bytes ∙ ap (λ (v : Link). (found arena (with_block image 1 (now 1)) v).bytes) back;
        }

    below : (image : Image) → new image → (image 1).slot 0 ≡ to_block a → (path : List ℕ) → FromRoot path → Same arena image (from_block 1) (with_block image 1 (now 1)) (from_block 1) path
    below image is e [] p = absurd p
    below image is e (i ∷ path) p = subst (λ k. Same arena image (from_block 1) (with_block image 1 (now 1)) (from_block 1) (k ∷ path)) (sym p) (in_tree image is e path)
