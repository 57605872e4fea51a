-- Which blocks paths reach.
use Rattle.std.proofs.Common.{◌≡◌, ◌≢◌, ℕ, List, [], ◌∷◌, ◌++◌, refl, sym, ◌∙◌, ap}
use Rattle.fo_image.specs.declared.types.Pointer.{Pointer}
use Rattle.fo_image.specs.declared.types.Pointer.TheVariants.{Nil, Local, Score as Held}
use Rattle.fo_crash.specs.declared.slot.Slot.{Slot}
use Rattle.fo_crash.specs.declared.slot.Slot.TheVariants.{Pointer as To}
use Rattle.fo_crash.specs.Images.{Image, Arena, Link, target, goes, step, meant, local, walk, to_block, Reaches, IsArena}

-- a path that leaves the device does not come back
pub lost : (image : Image) (path : List ℕ) (s : Slot) → ((c : ℕ) → target s ≢ Local c) → (b : ℕ) → target (walk image s path) ≢ Local b
lost image [] s h b = h b
lost image (i ∷ path) s h b = lost image path ((local image (target s)).slot i) (next (target s) h) b
  where
    next : (p : Pointer) → ((c : ℕ) → p ≢ Local c) → (c : ℕ) → target ((local image p).slot i) ≢ Local c
    next Nil h c = λ e. cc
    next (Local x) h c = absurd (h x refl)
    next (Held x) h c = λ e. cc

-- A path that comes to a block of the device went through blocks of the device alone.
pub walks : (arena : Arena) (image : Image) → IsArena arena → (path : List ℕ) (w : Link) (at : ℕ) → target ((goes arena image w path).slot) ≡ Local at → target (walk image w.slot path) ≡ Local at
walks arena image is [] w at e = e
walks arena image is (i ∷ path) w at e = go (target w.slot) (walks arena image is path (step arena image w i) at e)
  where
    go : (p : Pointer) → target (walk image ((meant arena image w.kind p).slot i) path) ≡ Local at → target (walk image ((local image p).slot i) path) ≡ Local at
    go Nil e = e
    go (Local a) e = e
    go (Held x) e = absurd (lost image path ((arena w.kind x).slot i) (is.apart w.kind x i) at e)

pub reaches : {arena : Arena} {image : Image} (w : Link) (path : List ℕ) {at : ℕ} → IsArena arena → target ((goes arena image w path).slot) ≡ Local at → Reaches image w.slot at
reaches {arena} {image} w path {at} is e = record { path = path; leads = walks arena image is path w at e }

-- A path through blocks of the device is a path.
pub goes_walk : (arena : Arena) (image : Image) (path : List ℕ) (w : Link) (at : ℕ) → target (walk image w.slot path) ≡ Local at → target ((goes arena image w path).slot) ≡ Local at
goes_walk arena image [] w at e = e
goes_walk arena image (i ∷ path) w at e = goes_walk arena image path (step arena image w i) at (go (target w.slot) e)
  where
    go : (p : Pointer) → target (walk image ((local image p).slot i) path) ≡ Local at → target (walk image ((meant arena image w.kind p).slot i) path) ≡ Local at
    go Nil e = e
    go (Local a) e = e
    go (Held x) e = absurd (lost image path (To Nil) (λ c h. cc) at e)

-- What every slot leads to has Q, and so has all that is reached from a slot whose own target has it.
pub reaches_within : (Q : ℕ → Type 0) (image : Image) → ((a i b : ℕ) → target ((image a).slot i) ≡ Local b → Q b) → {s : Slot} {at : ℕ} → ((b : ℕ) → target s ≡ Local b → Q b) → Reaches image s at → Q at
reaches_within Q image slots {s} {at} h r = along r.path s h r.leads
  where
    along : (path : List ℕ) (s : Slot) → ((b : ℕ) → target s ≡ Local b → Q b) → target (walk image s path) ≡ Local at → Q at
    along [] s h e = h at e
    along (i ∷ path) s h e = along path ((local image (target s)).slot i) (next (target s)) e
      where
        next : (p : Pointer) (b : ℕ) → target ((local image p).slot i) ≡ Local b → Q b
        next Nil b e = absurd (cc)
        next (Held x) b e = absurd (cc)
        next (Local a) b e = slots a i b e

-- Two images with the same slots are walked alike.
pub same_walk : (image other : Image) → ((a i : ℕ) → (image a).slot i ≡ (other a).slot i) → (path : List ℕ) (s : Slot) → walk image s path ≡ walk other s path
same_walk image other same [] s = refl
same_walk image other same (i ∷ path) s = ap (λ x. walk image x path) (one (target s)) ∙ same_walk image other same path ((local other (target s)).slot i)
  where
    one : (p : Pointer) → (local image p).slot i ≡ (local other p).slot i
    one Nil = refl
    one (Held x) = refl
    one (Local a) = same a i

-- one slot further, and from one slot on
pub walk_joins : (image : Image) (s : Slot) (path rest : List ℕ) → walk image s (path ++ rest) ≡ walk image (walk image s path) rest
walk_joins image s [] rest = refl
walk_joins image s (i ∷ path) rest = walk_joins image ((local image (target s)).slot i) path rest

pub reaches_on : {image : Image} {s : Slot} {a b : ℕ} (i : ℕ) → Reaches image s a → target ((image a).slot i) ≡ Local b → Reaches image s b
reaches_on {image} {s} {a} {b} i r e = record {
  path = r.path ++ i ∷ [];
  leads = ap target (walk_joins image s r.path (i ∷ [])) ∙ ap (λ p. target ((local image p).slot i)) r.leads ∙ e;
}

pub reaches_from : {image : Image} {a b : ℕ} (i : ℕ) → Reaches image ((image a).slot i) b → Reaches image (to_block a) b
reaches_from i r = record { path = i ∷ r.path; leads = r.leads }

pub reaches_itself : (image : Image) (a : ℕ) → Reaches image (to_block a) a
reaches_itself image a = record { path = []; leads = refl }

pub reaches_joins : {image : Image} {s : Slot} {a b : ℕ} → Reaches image s a → Reaches image (to_block a) b → Reaches image s b
reaches_joins {image} {s} {a} {b} r q = record {
  path = r.path ++ q.path;
  leads = ap target (walk_joins image s r.path q.path) ∙ go q.path q.leads;
}
  where
    go : (path : List ℕ) → target (walk image (to_block a) path) ≡ Local b → target (walk image (walk image s r.path) path) ≡ Local b
    go [] e = r.leads ∙ e
    go (i ∷ path) e = ap (λ p. target (walk image ((local image p).slot i) path)) r.leads ∙ e

-- two slots with one target
pub reaches_same : {image : Image} {s t : Slot} {b : ℕ} → target s ≡ target t → Reaches image s b → Reaches image t b
reaches_same {image} {s} {t} {b} same r = record { path = r.path; leads = go r.path r.leads }
  where
    go : (path : List ℕ) → target (walk image s path) ≡ Local b → target (walk image t path) ≡ Local b
    go [] e = sym same ∙ e
    go (i ∷ path) e = ap (λ p. target (walk image ((local image p).slot i) path)) (sym same) ∙ e

-- Two images with the same slots but in some blocks are walked alike by paths that lead to none of these in the first.
walk_aside : (x y : Image) (made : ℕ → Type 0) → ((b j : ℕ) → (made b → ⊥) → (x b).slot j ≡ (y b).slot j) → (path : List ℕ) (s : Slot) → ((front : List ℕ) (b : ℕ) → made b → target (walk x s front) ≢ Local b) → walk x s path ≡ walk y s path
walk_aside x y made same [] s away = refl
walk_aside x y made same (i ∷ path) s away =
    walk_aside x y made same path ((local x (target s)).slot i) (λ front b m. away (i ∷ front) b m) ∙ ap (λ u. walk y u path) (one (target s) (λ b m. away [] b m))
  where
    one : (p : Pointer) → ((b : ℕ) → made b → p ≢ Local b) → (local x p).slot i ≡ (local y p).slot i
    one Nil h = refl
    one (Local at) h = same at i (λ m. h at m refl)
    one (Held score) h = refl

pub reach_aside : (x y : Image) (made : ℕ → Type 0) (t : ℕ) → ((b j : ℕ) → (made b → ⊥) → (x b).slot j ≡ (y b).slot j) → ((b : ℕ) → made b → Reaches x (to_block t) b → ⊥) → (b : ℕ) → Reaches x (to_block t) b → Reaches y (to_block t) b
reach_aside x y made t same apart b r = record { path = r.path; leads = ap target (sym (walk_aside x y made same r.path (to_block t) (λ front c m e. apart c m (record { path = front; leads = e })))) ∙ r.leads }

pub reach_into : (x y : Image) (made : ℕ → Type 0) (t : ℕ) → ((b j : ℕ) → (made b → ⊥) → (x b).slot j ≡ (y b).slot j) → ((b : ℕ) → made b → Reaches x (to_block t) b → ⊥) → (b : ℕ) → Reaches y (to_block t) b → Reaches x (to_block t) b
reach_into x y made t same apart b r = record { path = r.path; leads = ap target (walk_aside x y made same r.path (to_block t) (λ front c m e. apart c m (record { path = front; leads = e }))) ∙ r.leads }
