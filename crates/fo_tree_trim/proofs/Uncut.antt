-- Up to the way to a leaf no slot was cleared.
use Rattle.std.proofs.Common.{◌≡◌, ◌⊎◌, ◌*◌, ◌/◌, ◌%◌, ◌^◌, ◌<◌, ◌≤◌, ℕ, zero, suc, ⊎_elim, refl, ◌∙◌, ap, subst, arith}
use Rattle.std.proofs.Math.Nat.{pow-succ'}
use Rattle.fo_image.specs.declared.types.Score.{Score}
use Rattle.fo_image.specs.declared.types.Pointer.{Pointer}
use Rattle.fo_image.specs.declared.types.Pointer.TheVariants.{Nil, Local, Score as Held}
use Rattle.fo_image.specs.Format.{kind_code}
use Rattle.fo_crash.specs.declared.slot.Slot.{Slot}
use Rattle.fo_crash.specs.Images.{SameContent, target}
use Rattle.fo_ports.specs.State.{State}
use Rattle.fo_tree_read.specs.declared.tree.Tree.{Tree}
use Rattle.fo_tree_read.specs.Tree.{kind_down, score_in, below, block_at}
use Rattle.fo_tree_down.specs.Way.{IsWayIndex}
use Rattle.fo_tree_down.proofs.Beside.{index_last, index_within}
use Rattle.fo_tree_down.proofs.Stilling.{index_one}
use Rattle.fo_tree_trim.specs.Cut.{CutSlot}
use Rattle.fo_tree_trim.specs.Trim.{LeavesStay}
use Rattle.fo_tree_trim.proofs.Past.{Said, index_above, index_few, one_index}

-- Blocks are as they were, but for slots behind the way to a leaf.
pub record Uncut (s w : State) (t : Tree) (last : ℕ) : Type 0 where
  pub said : Said s t last
  pub slots : (b j : ℕ) → ((w.now b).slot j ≡ (s.now b).slot j) ⊎ CutSlot s t last (409 * t.depth) b j
  pub same_held : (score : Score) (kind : ℕ) → w.held score kind ≡ s.held score kind
  pub bytes : (b : ℕ) → (w.now b).bytes ≡ (s.now b).bytes

module _ {s w : State} {t : Tree} {last : ℕ} (x : Uncut s w t last) where
  never_cut : (n a v : ℕ) → IsWayIndex t.depth last n v → a ≤ v → a < 409 ^ n → block_at w t n a ≡ block_at s t n a
  never_cut zero a v is le few = refl
  never_cut (suc n) a v is le few =
      let more : 409 ^ suc n ≡ 409 * 409 ^ n = pow-succ' 409 n in
      let room : a / 409 < 409 ^ n = omega (arith, few, more) in
      let deep = index_within t.depth last (suc n) v is in
      ap (λ (p : Pointer). below w (kind_down t n) p (a % 409)) (never_cut n (a / 409) (v / 409) (index_above t.depth last n v is) (omega (arith, le)) room)
      ∙ step n a v is le room deep (block_at s t n (a / 409)) refl
    where
      step : (n a v : ℕ) → IsWayIndex t.depth last (suc n) v → a ≤ v → a / 409 < 409 ^ n → suc n ≤ t.depth → (p : Pointer) → block_at s t n (a / 409) ≡ p → below w (kind_down t n) p (a % 409) ≡ below s (kind_down t n) p (a % 409)
      step n a v is le room deep Nil e = refl
      step n a v is le room deep (Local b) e = ⊎_elim
          (λ same. ap (λ (q : Slot). target q) same)
          (λ c.
          let p = c in
          let within = p.within in
          let same = one_index x.said p.down (p.way / 409) n (a / 409) b (omega (arith, within)) (index_few t.depth last p.down (p.way / 409) x.said.few (index_above t.depth last p.down p.way p.is_way)) p.is (omega (arith, deep)) room e in
          let way : p.way ≡ v = index_one t.depth last (suc n) p.way v (subst (λ y. IsWayIndex t.depth last (suc y) p.way) same.0 p.is_way) is in
          let behind = p.behind in
          let index = same.1 in
          absurd (omega (arith, behind, index, way, le)))
          (x.slots b (a % 409))
      step n a v is le room deep (Held score) e = ap (λ h. score_in h (a % 409)) (x.same_held score (kind_code (kind_down t n)))

  leaf_same : (i : ℕ) → i ≤ last → block_at w t t.depth i ≡ block_at s t t.depth i
  leaf_same i le = let few = x.said.few in never_cut t.depth i last (index_last t.depth last) le (omega (arith, le, few))

  leaf_content : (i b : ℕ) → i ≤ last → block_at s t t.depth i ≡ Local b → SameContent (w.now b) (s.now b)
  leaf_content i b le e =
      let few = x.said.few in
      let room : i < 409 ^ t.depth = omega (arith, le, few) in
      record {
        bytes = x.bytes b;
        slots = λ j. ⊎_elim
            (λ same. same)
            (λ c.
            let p = c in
            let within = p.within in
            let same = (one_index x.said p.down (p.way / 409) t.depth i b (omega (arith, within)) (index_few t.depth last p.down (p.way / 409) few (index_above t.depth last p.down p.way p.is_way)) p.is (omega arith) room e).0 in
            absurd (omega (arith, within, same)))
            (x.slots b j);
      }

  pub uncut_leaves : LeavesStay s w t t last
  uncut_leaves = record { each = leaf_same; content = leaf_content }
