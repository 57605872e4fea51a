-- What a source has over two states whose slots are the same.
use Rattle.std.proofs.Common.{◌≡◌, ◌*◌, ◌/◌, ◌%◌, ◌^◌, ℕ, zero, suc, cond, nat_lt, List, Option, None, inl, inr, ⊎_elim, refl, sym, ap, ◌∙◌}
use Rattle.fo_image.specs.declared.types.Kind.{Kind}
use Rattle.fo_image.specs.declared.types.Label.{Label}
use Rattle.fo_image.specs.declared.types.Score.{Score}
use Rattle.fo_image.specs.declared.types.Pointer.{Pointer}
use Rattle.fo_image.specs.declared.types.Pointer.TheVariants.{Nil, Local, Score as Held}
use Rattle.fo_image.specs.Format.{kind_code}
use Rattle.fo_ports.specs.of_crash.declared.slot.Slot.{Slot}
use Rattle.fo_ports.specs.of_crash.Images.{target}
use Rattle.fo_ports.specs.State.{State}
use Rattle.fo_tree_leaf.specs.of_tree_read.declared.tree.Tree.{Tree}
use Rattle.fo_tree_leaf.specs.of_tree_read.Tree.{kind_at, kind_down, score_in, below, block_at, leaf_at, address_of, held_of, held_leaf}
use Rattle.fo_tree_leaf.specs.of_tree_look.declared.ways.Kept.{Kept}
use Rattle.fo_tree_leaf.specs.of_tree_down.Way.{OnWay, WayCurrent}
use Rattle.fo_tree_leaf.specs.of_tree_look.Source.{HasBlock, address_here, held_here, find_kept, or_held, seen}

-- All slots are the same, and the same is held.
pub record SameSlots (a b : State) : Type 0 where
  pub slots : (x j : ℕ) → (b.now x).slot j ≡ (a.now x).slot j
  pub held : (score : Score) (kind : ℕ) → b.held score kind ≡ a.held score kind

pub same_seen : {a b : State} → SameSlots a b → (kept : List Kept) → SameSlots (seen a kept) (seen b kept)
same_seen x kept = record { slots = x.slots; held = λ score kind. ap (λ h. or_held (find_kept kept score kind) h) (x.held score kind) }

module _ {a b : State} (x : SameSlots a b) where
  below_same : (kind : Kind) (p : Pointer) (i : ℕ) → below b kind p i ≡ below a kind p i
  below_same kind Nil i = refl
  below_same kind (Local at) i = ap (λ (s : Slot). target s) (x.slots at i)
  below_same kind (Held score) i = ap (λ h. score_in h i) (x.held score (kind_code kind))

  pub block_same : (t : Tree) (n k : ℕ) → block_at b t n k ≡ block_at a t n k
  block_same t zero k = refl
  block_same t (suc n) k = ap (λ (p : Pointer). below b (kind_down t n) p (k % 409)) (block_same t n (k / 409)) ∙ below_same (kind_down t n) (block_at a t n (k / 409)) (k % 409)

  leaf_same : (t : Tree) (i : ℕ) → leaf_at b t i ≡ leaf_at a t i
  leaf_same t i = ap (λ (p : Pointer). cond (nat_lt i (409 ^ t.depth)) p Nil) (block_same t t.depth i)

  pub address_same : (t : Tree) (i : ℕ) → address_here b t i ≡ address_here a t i
  address_same t i = ap (λ (p : Pointer). cond (nat_lt (8192 * i) t.size) (address_of p) None) (leaf_same t i)

  held_of_same : (kind : Kind) (p : Pointer) → held_of b kind p ≡ held_of a kind p
  held_of_same kind Nil = refl
  held_of_same kind (Local at) = refl
  held_of_same kind (Held score) = x.held score (kind_code kind)

  pub held_leaf_same : (t : Tree) (i : ℕ) → held_leaf b t i ≡ held_leaf a t i
  held_leaf_same t i = ap (λ (p : Pointer). held_of b (kind_at t.dir 0) p) (leaf_same t i) ∙ held_of_same (kind_at t.dir 0) (leaf_at a t i)

  pub has_back : (t : Tree) (at : ℕ) → HasBlock b t at → HasBlock a t at
  has_back t at has = record { down = has.down; index = has.index; within = has.within; is = sym (block_same t has.down has.index) ∙ has.is }

  pub has_on : (t : Tree) (at : ℕ) → HasBlock a t at → HasBlock b t at
  has_on t at has = record { down = has.down; index = has.index; within = has.within; is = block_same t has.down has.index ∙ has.is }

  pub way_back : (t : Tree) (n k at : ℕ) → OnWay b t n k at → OnWay a t n k at
  way_back t zero k at on = on
  way_back t (suc n) k at on = ⊎_elim (λ above. inl (way_back t n (k / 409) at above)) (λ e. inr (sym (block_same t (suc n) k) ∙ e)) on

  pub current_on : ((at : ℕ) → b.label at ≡ a.label at) → b.high ≡ a.high → (t : Tree) (n k : ℕ) → WayCurrent a t n k → WayCurrent b t n k
  current_on labels high t zero k way = (way.0, way.1, ap (λ (l : Label). l.epoch) (labels way.0) ∙ way.2 ∙ sym high)
  current_on labels high t (suc n) k way = (current_on labels high t n (k / 409) way.0, (way.1.0, block_same t (suc n) k ∙ way.1.1, ap (λ (l : Label). l.epoch) (labels way.1.0) ∙ way.1.2 ∙ sym high))

pub held_here_same : {a b : State} → SameSlots a b → (t : Tree) (kept : List Kept) (i : ℕ) → held_here b t kept i ≡ held_here a t kept i
held_here_same x t kept i = ap (λ (h : Option (List ℕ)). cond (nat_lt (8192 * i) t.size) h None) (held_leaf_same (same_seen x kept) t i)
