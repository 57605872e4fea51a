-- The blocks above the last leaf were made current.
use Rattle.std.proofs.Common.{◌≡◌, ◌-◌, ◌*◌, ◌/◌, ◌^◌, ◌<◌, ◌≤◌, ℕ, suc, List, inr, ⊎_elim, sym, ◌∙◌, ap, subst, arith}
use Rattle.std.proofs.Math.Nat.{pow-succ'}
use Rattle.fo_image.specs.declared.types.Pointer.TheVariants.{Local}
use Rattle.fo_crash.specs.Images.{SameContent}
use Rattle.fo_ports.specs.State.{State}
use Rattle.fo_ports.specs.Sources.{Made, depth_for}
use Rattle.fo_tree_read.specs.declared.tree.Tree.{Tree}
use Rattle.fo_tree_read.specs.Tree.{block_at}
use Rattle.fo_tree_look.specs.declared.ways.Kept.{Kept}
use Rattle.fo_tree_look.specs.Source.{HasBlock, IsTold, Prepared, WayReady}
use Rattle.fo_tree_down.specs.Way.{OnWay, Descends, IsWayIndex, StaysBeside, with_top}
use Rattle.fo_tree_down.proofs.Beside.{index_within, way_block}
use Rattle.fo_tree_down.proofs.Stilling.{index_one}
use Rattle.fo_tree_trim.specs.Behind.{IsPast}
use Rattle.fo_tree_trim.specs.Trim.{LeavesStay}
use Rattle.fo_tree_trim.proofs.Least.{least_for}
use Rattle.fo_tree_trim.proofs.Past.{Said, one_index}

-- more than one leaf has more bytes than one
pub deep_size : (t : Tree) → t.depth ≡ depth_for t.size → t.size ≤ 2 ^ 47 → 0 < t.depth → 8192 < t.size
deep_size t least low deep = let past = (least_for t.size low).least 0 (omega (arith, least, deep)) in omega (arith, past)

-- the way to a leaf was prepared, as a piece of one byte
pub way_piece : {s : State} {t : Tree} {kept : List Kept} {limit : ℕ} (last : ℕ) → 8192 * last < t.size → t.size ≤ limit → WayReady s t kept t.depth last → Prepared s t kept limit (8192 * last) 1
way_piece {s = s} {t = t} {kept = kept} last inside within way = record {
  each = λ k from to lt. let e : last ≡ k / 8192 = omega (arith, from, to) in subst (λ y. WayReady s t kept t.depth y) e way;
  last = λ past some. absurd (omega (arith, past, inside));
  end = omega (arith, inside, within);
}

pub piece_way : {s : State} {t : Tree} {kept : List Kept} {limit : ℕ} (last : ℕ) → 8192 * last < t.size → Prepared s t kept limit (8192 * last) 1 → WayReady s t kept t.depth last
piece_way {s = s} {t = t} {kept = kept} last inside p = let e : 8192 * last / 8192 ≡ last = omega arith in subst (λ y. WayReady s t kept t.depth y) e (p.each (8192 * last) (omega arith) (omega arith) inside)

-- The blocks above a leaf were made current.
pub record Above (s m : State) (t : Tree) (last top : ℕ) : Type 0 where
  pub descends : Descends t (OnWay s t (t.depth - 1) (last / 409)) (t.depth - (t.depth - 1)) s m
  pub deep : 0 < t.depth
  pub few : last < 409 ^ t.depth
  pub beside : StaysBeside s m t (with_top t top) (t.depth - 1) (last / 409)
  pub said : Said s t last
  pub told : (b : ℕ) → HasBlock s t b → IsTold s t.top b

module _ {s m : State} {t : Tree} {last top : ℕ} (x : Above s m t last top) where
  leaf_off : (i : ℕ) → IsWayIndex (t.depth - 1) (last / 409) t.depth i → ⊥
  leaf_off i is = let le = index_within (t.depth - 1) (last / 409) t.depth i is in let deep = x.deep in omega (arith, le, deep)

  leaf_same : (i : ℕ) → i ≤ last → block_at m (with_top t top) t.depth i ≡ block_at s t t.depth i
  leaf_same i le = let few = x.few in x.beside.each t.depth i (omega arith) (omega (arith, le, few)) (leaf_off i)

  leaf_content : (i b : ℕ) → i ≤ last → block_at s t t.depth i ≡ Local b → SameContent (m.now b) (s.now b)
  leaf_content i b le e =
      let few = x.few in
      let deep = x.deep in
      let room : i < 409 ^ t.depth = omega (arith, le, few) in
      let has : HasBlock s t b = record { down = t.depth; index = i; within = omega arith; is = e } in
      let old : Made s m b → ⊥ = λ made. made.0 (x.told b has).live in
      record {
        bytes = x.descends.bytes b old;
        slots = λ j. ⊎_elim
            (λ same. same)
            (λ put.
            let level : 409 ^ t.depth ≡ 409 * 409 ^ (t.depth - 1) = ap (λ d. 409 ^ d) (let l : t.depth ≡ suc (t.depth - 1) = omega (arith, deep) in l) ∙ pow-succ' 409 (t.depth - 1) in
            let w = way_block s t (t.depth - 1) (last / 409) b (omega (arith, level, few)) put.is_mine in
            let low = index_within (t.depth - 1) (last / 409) w.down w.index w.is_way in
            let same = (one_index x.said w.down w.index t.depth i b (omega (arith, low)) w.few w.is (omega arith) room e).0 in
            absurd (omega (arith, low, same, deep)))
            (x.descends.slots b j old);
      }

  pub own_leaves : LeavesStay s m t (with_top t top) last
  own_leaves = record { each = leaf_same; content = leaf_content }

  -- what stands behind the way stays
  off_way : (n a b : ℕ) → IsWayIndex t.depth last n a → a < b → IsWayIndex (t.depth - 1) (last / 409) n b → ⊥
  off_way n a b is lt on =
      let deep = x.deep in
      let level : t.depth ≡ suc (t.depth - 1) = omega (arith, deep) in
      let same = index_one t.depth last n a b is (subst (λ d. IsWayIndex d last n b) (sym level) (inr on)) in
      omega (arith, lt, same)

  pub past_on : (b : ℕ) → IsPast s t last b → IsPast m (with_top t top) last b
  past_on b p = record {
    down = p.down;
    index = p.index;
    way = p.way;
    within = p.within;
    few = p.few;
    is_way = p.is_way;
    behind = p.behind;
    is = x.beside.each p.down p.index p.within p.few (off_way p.down p.way p.index p.is_way p.behind) ∙ p.is;
  }
