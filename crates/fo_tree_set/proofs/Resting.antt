-- All is settled where no slot waits to be cleared.
use Rattle.std.proofs.Common.{◌≡◌, ◌⊎◌, ◌-◌, ◌/◌, ◌%◌, ◌<◌, ◌≤◌, ℕ, zero, suc, List, ⊎_elim, refl, sym, ◌∙◌, ap, subst, arith}
use Rattle.std.proofs.lemmas.Bool.{cases_eq}
use Rattle.fo_image.specs.declared.types.Pointer.{Pointer}
use Rattle.fo_image.specs.declared.types.Pointer.TheVariants.{Nil, Local, Score as Held}
use Rattle.fo_image.specs.Format.{kind_code}
use Rattle.fo_crash.specs.declared.slot.Slot.{Slot}
use Rattle.fo_crash.specs.Images.{Reaches, target, to_block}
use Rattle.fo_ports.specs.State.{State, KeepsAll, Rests, IsDoomed}
use Rattle.fo_ports.specs.Sources.{source_bytes}
use Rattle.fo_tree_read.specs.declared.tree.Tree.{Tree}
use Rattle.fo_tree_read.specs.Tree.{kind_down, score_in, below, block_at}
use Rattle.fo_tree_look.specs.declared.ways.Kept.{Kept}
use Rattle.fo_tree_look.specs.Source.{HasBlock, Over, WayReady, address_here, held_here}
use Rattle.fo_tree_look.proofs.Shown.{held_on}
use Rattle.fo_tree_down.proofs.of_tree_own.Link.{Laws}
use Rattle.fo_tree_down.specs.Clear.{last_leaf}
use Rattle.fo_tree_down.specs.Way.{WayCurrent}
use Rattle.fo_tree_link.specs.Change.{HangsInTree}
use Rattle.fo_tree_trim.specs.Trim.{IsEndCurrent}
use Rattle.fo_tree_trim.proofs.Fronts.{bytes_same}
use Rattle.fo_tree_shorten.proofs.Settling.{Settles, current_settled}

-- nothing of a source that hangs from its entry is doomed then
module _ {s : State} {t : Tree} {at i : ℕ} (laws : Laws s) (one : s.covered 1 → ⊥) (told : s.tells) (linked : HangsInTree s t at i) (calm : (b j : ℕ) → s.clearing b j → ⊥) where
  free : (b : ℕ) → Reaches s.now (to_block 1) b → s.covered b → ⊥
  free b r = ⊎_elim
      (λ e h. one (subst (λ y. s.covered y) e h))
      (λ ne. (laws.live b told ne r).2)
      (cases_eq b 1)

  reached : (b : ℕ) → (b ≡ at) ⊎ HasBlock s t b → Reaches s.now (to_block 1) b
  reached b own = ⊎_elim
      (λ e. subst (λ y. Reaches s.now (to_block 1) y) (sym e) linked.in_tree)
      (λ has. linked.owned b has)
      own

  pub undoomed : (b : ℕ) → (b ≡ at) ⊎ HasBlock s t b → IsDoomed s b → ⊥
  undoomed b own doomed = ⊎_elim
      (λ covered. free b (reached b own) covered)
      (λ waits. calm waits.0 waits.1 waits.2)
      doomed

-- and the source has the bytes that it had
module _ {s u : State} {t : Tree} (told : s.tells) (all : KeepsAll s u) (rests : Rests s u) (calm : (b j : ℕ) → s.clearing b j → ⊥) (safe : (b : ℕ) → HasBlock s t b → IsDoomed s b → ⊥) where
  own_slot : (b : ℕ) → HasBlock s t b → (j : ℕ) → (u.now b).slot j ≡ (s.now b).slot j
  own_slot b has j = ⊎_elim
      (λ same. same.0)
      (λ gone. absurd (calm b j gone.0))
      ((rests.blocks told b (safe b has)).slots j)

  step : (n : ℕ) (p : Pointer) (j : ℕ) → ((b : ℕ) → p ≡ Local b → HasBlock s t b) → below u (kind_down t n) p j ≡ below s (kind_down t n) p j
  step n Nil j own = refl
  step n (Local b) j own = ap (λ (q : Slot). target q) (own_slot b (own b refl) j)
  step n (Held score) j own = ap (λ h. score_in h j) (all.same_held score (kind_code (kind_down t n)))

  block_on : (n k : ℕ) → n ≤ t.depth → block_at u t n k ≡ block_at s t n k
  block_on zero k le = refl
  block_on (suc n) k le =
      ap (λ (p : Pointer). below u (kind_down t n) p (k % 409)) (block_on n (k / 409) (omega (arith, le)))
      ∙ step n (block_at s t n (k / 409)) (k % 409) (λ b e. record { down = n; index = k / 409; within = omega (arith, le); is = e })

  pub bytes_settled : {kept : List Kept} {limit : ℕ} → Over s t kept limit → source_bytes (address_here u t) (held_here u t kept) u.now t.size ≡ source_bytes (address_here s t) (held_here s t kept) s.now t.size
  bytes_settled {kept = kept} over = bytes_same {s = s} {u = u} {t = t} {new = t} {kept = kept} (record {
    told = told;
    now = all.still_tells.1 told;
    held = over.held;
    held_now = held_on all kept over.held;
    same_held = all.same_held;
    dir = refl;
    within = omega arith;
    room = over.hangs.room;
    room_now = over.hangs.room;
    each = λ i lt. block_on t.depth i (omega arith);
    content = λ i b lt e. (rests.blocks told b (safe b (record { down = t.depth; index = i; within = omega arith; is = e }))).bytes;
  }) refl

-- the blocks above the last leaf are current still
pub current_after : {s u : State} {t : Tree} {kept : List Kept} {limit generation at j : ℕ} → Settles s u t kept limit generation at j → 0 < t.depth → WayReady s t kept t.depth (last_leaf t.size) → IsEndCurrent s t → WayCurrent u t (t.depth - 1) (last_leaf t.size / 409)
current_after {s = s} {t = t} {kept = kept} x deep way current =
    let level : t.depth ≡ suc (t.depth - 1) = omega (arith, deep) in
    let whole : WayReady s t kept (suc (t.depth - 1)) (last_leaf t.size) = subst (λ d. WayReady s t kept d (last_leaf t.size)) level way in
    current_settled x (t.depth - 1) (last_leaf t.size / 409) (omega arith) whole.0 (current deep)
