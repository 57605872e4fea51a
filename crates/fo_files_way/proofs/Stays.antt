-- A leaf that is prepared stays where it is, while blocks that are prepared stay so.
use Rattle.std.proofs.Common.{◌≡◌, ◌*◌, ◌-◌, ◌/◌, ◌%◌, ◌^◌, ◌<◌, ◌≤◌, ℕ, zero, suc, Bool, true, false, List, Some, None, Option, ⊎_elim, refl, sym, ap, subst, ◌∙◌, cond, arith}
use Rattle.std.specs.Prelude.{nat_lt}
use Rattle.fo_image.specs.declared.types.Kind.{Kind}
use Rattle.fo_image.specs.declared.types.Kind.TheVariants.{Dir}
use Rattle.fo_image.specs.declared.types.Pointer.{Pointer}
use Rattle.fo_image.specs.declared.types.Pointer.TheVariants.{Nil, Local, Score as Held}
use Rattle.fo_image.specs.declared.types.Score.{Score}
use Rattle.fo_image.specs.Format.{kind_code}
use Rattle.fo_crash.specs.declared.slot.Slot.{Slot}
use Rattle.fo_crash.specs.Images.{target}
use Rattle.fo_ports.specs.State.{State, KeepsAll}
use Rattle.fo_ports.specs.Sources.{IsReady, StaysReady}
use Rattle.fo_tree_read.specs.declared.tree.Tree.{Tree}
use Rattle.fo_tree_read.specs.Tree.{kind_at, kind_down, block_at, address_of, below, score_in}
use Rattle.fo_tree_look.specs.declared.ways.Kept.{Kept}
use Rattle.fo_tree_look.specs.Source.{Prepared, IsPrepared, Ready, WayReady, address_here, seen, or_held, find_kept}
use Rattle.fo_tree_look.proofs.Held.{seen_address}
use Rattle.fo_tree_look.proofs.Places.{is_here}
use Rattle.fo_tree_look.proofs.Shown.{top_ready}
use Rattle.fo_files_way.proofs.Prepared.{leaf_way}

-- where a block leads whose slots stay
below_stays : (a b : State) (kind : Kind) (p : Pointer) (i : ℕ) → ((score : Score) (k : ℕ) → b.held score k ≡ a.held score k) → ((at : ℕ) → p ≡ Local at → (j : ℕ) → (b.now at).slot j ≡ (a.now at).slot j) → below b kind p i ≡ below a kind p i
below_stays a b kind Nil i held known = refl
below_stays a b kind (Local at) i held known = ap (λ (s : Slot). target s) (known at refl i)
below_stays a b kind (Held score) i held known = ap (λ h. score_in h i) (held score (kind_code kind))

inner_apart : (dir : Bool) (level : ℕ) → 0 < level → kind_at dir level ≡ Dir 0 → ⊥
inner_apart true (suc level) lt e = cc
inner_apart true zero lt e = absurd (omega (arith, lt))
inner_apart false level lt e = cc

address_cond : (few : Bool) (p q : Pointer) → address_of p ≡ address_of q → address_of (cond few p Nil) ≡ address_of (cond few q Nil)
address_cond true p q e = e
address_cond false p q e = refl

module _ (t : Tree) (kept : List Kept) (a b : State) (all : KeepsAll a b)
    (stays : (at : ℕ) → IsReady t.tag a at → StaysReady a b at) where
  slots_stay : (at down : ℕ) → down < t.depth → IsPrepared a (kind_down t down) t.tag at → (j : ℕ) → (b.now at).slot j ≡ (a.now at).slot j
  slots_stay at down lt was = ⊎_elim
      (λ leaf. absurd (inner_apart t.dir (t.depth - down) (omega (arith, lt)) (sym was.has_kind ∙ leaf)))
      (λ same. same)
      (stays at (record { is_pinned = was.is_pinned; live = was.live; tagged = was.tagged })).same_slots

  ready_known : (down : ℕ) (p : Pointer) → down < t.depth → Ready a t kept down p → (at : ℕ) → p ≡ Local at → (j : ℕ) → (b.now at).slot j ≡ (a.now at).slot j
  ready_known down p lt was at e = slots_stay at down lt (subst (λ (q : Pointer). Ready a t kept down q) e was)

  way_same : (n k : ℕ) → n ≤ t.depth → WayReady a t kept n k → block_at (seen b kept) t n k ≡ block_at (seen a kept) t n k
  way_same zero k le way = refl
  way_same (suc n) k le way =
      ap (λ (x : Pointer). below (seen b kept) (kind_down t n) x (k % 409)) (way_same n (k / 409) (omega (arith, le)) way.0)
      ∙ below_stays (seen a kept) (seen b kept) (kind_down t n) (block_at (seen a kept) t n (k / 409)) (k % 409) (λ score kind. ap (λ h. or_held (find_kept kept score kind) h) (all.same_held score kind)) (ready_known n (block_at (seen a kept) t n (k / 409)) (omega (arith, le)) (top_ready a t kept n (k / 409) way.0))

  -- a leaf that is prepared stays at its address
  pub address_stays : (limit i at : ℕ) → Prepared a t kept limit (8192 * i) 8192 → address_here a t i ≡ Some at → address_here b t i ≡ Some at
  address_stays limit i at was there =
      let here = is_here a t i at there in
      let same : block_at (seen b kept) t t.depth i ≡ block_at (seen a kept) t t.depth i = way_same t.depth i (omega arith) (leaf_way a t kept limit i was here.inside) in
      let both : address_of (block_at b t t.depth i) ≡ address_of (block_at a t t.depth i) = sym (seen_address b kept t t.depth i) ∙ ap (λ p. address_of p) same ∙ seen_address a kept t t.depth i in
      ap (λ (x : Option ℕ). cond (nat_lt (8192 * i) t.size) x None) (address_cond (nat_lt i (409 ^ t.depth)) (block_at b t t.depth i) (block_at a t t.depth i) both) ∙ there
