-- Nothing stands behind the end of a source.
use Rattle.std.proofs.Common.{◌≡◌, ◌*◌, ◌^◌, ◌<◌, ◌≤◌, List, ap, subst, sym, arith}
use Rattle.fo_tree_trim.proofs.Keeping.{index_room}
use Rattle.fo_ports.specs.State.{State}
use Rattle.fo_image.specs.declared.types.Pointer.TheVariants.{Nil}
use Rattle.fo_tree_read.specs.declared.tree.Tree.{Tree}
use Rattle.fo_tree_look.specs.declared.ways.Kept.{Kept}
use Rattle.fo_tree_look.specs.Source.{WayReady}
use Rattle.fo_tree_down.specs.Clear.{EndsClear, last_leaf}
use Rattle.fo_tree_trim.specs.Behind.{IsClearTo}

-- the last leaf has a number of its level
pub end_few : (t : Tree) → t.size ≤ 8192 * 409 ^ t.depth → last_leaf t.size < 409 ^ t.depth
end_few t room = let some = index_room t.depth 0 in omega (arith, room, some)

module _ (s : State) (t : Tree) (kept : List Kept) (empty : t.size ≡ 0 → t.top ≡ Nil) (way : 0 < t.size → WayReady s t kept t.depth (last_leaf t.size)) where
  pub ends_clear : IsClearTo s t kept t.depth (last_leaf t.size) → EndsClear s t kept
  ends_clear clear = record { empty = empty; way = way; behind = λ some n a b is lt few. clear n a b is lt few }

  -- one leaf alone has nothing behind it
  pub clear_flat : t.depth ≡ 0 → EndsClear s t kept
  clear_flat flat = ends_clear (subst (λ d. IsClearTo s t kept d (last_leaf t.size)) (sym flat) (λ n a b is lt few. let e : 409 ^ n ≡ 1 = ap (λ x. 409 ^ x) is.0 in absurd (omega (arith, lt, few, e))))
