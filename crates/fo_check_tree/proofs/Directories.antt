-- The directories of a tree, once nothing is left to be followed: no name stands twice in any.
use Rattle.std.proofs.Common.{◌≡◌, ℕ, zero, suc, ◌+◌, ◌/◌, ◌%◌, Bool, List, [], ◌∷◌, ◌++◌, refl, sym, ap, ◌∙◌, subst, arith}
use Rattle.std.specs.Prelude.{cond}
use Rattle.fo_image.specs.declared.types.Kind.{Kind}
use Rattle.fo_image.specs.declared.types.Kind.TheVariants.{Data, Dir}
use Rattle.fo_image.specs.declared.types.Score.{Score}
use Rattle.fo_image.specs.declared.types.Pointer.{Pointer}
use Rattle.fo_image.specs.declared.types.Pointer.TheVariants.{Nil, Local, Score as Held}
use Rattle.fo_crash.specs.declared.slot.Slot.{Slot}
use Rattle.fo_crash.specs.declared.slot.Slot.TheVariants.{Pointer as To, Entry as Head, Prev}
use Rattle.fo_crash.specs.Images.{Content, Image, Arena, Link, target, meant, found, step, goes, way, leaf_path, depth_of, entry_of, from_block, kind_below, kind_of_top, nothing}
use Rattle.fo_crash.proofs.Places.{goes_way}
use Rattle.fo_good.specs.Trees.{IsEntries, IsRecords, InTree, at_path}
use Rattle.fo_good.specs.Trees.InTree.{top as tree_top, below as tree_below}
use Rattle.fo_check_tree.proofs.Leaves.{goes_join}
use Rattle.fo_check_tree.proofs.Paths.{goes_end}

module _ (arena : Arena) (image : Image) (empty : (kind : Kind) (score : Score) → arena kind score ≡ nothing) where
  -- ---- kinds on the way to a leaf of entries

  kind_down : (d e n : ℕ) (v : Link) → v.kind ≡ Dir (d + e) → (goes arena image v (way d n [])).kind ≡ Dir e
  kind_down zero e n v is = let same : 0 + e ≡ e = omega arith in is ∙ ap (λ (x : ℕ). Dir x) same
  kind_down (suc d) e n v is =
      let same : suc d + e ≡ d + suc e = omega arith in
      let up : (goes arena image v (way d (n / 409) [])).kind ≡ Dir (suc e) = kind_down d (suc e) (n / 409) v (is ∙ ap (λ (x : ℕ). Dir x) same) in
      ap (λ (u : Link). u.kind) (goes_way arena image v d (n / 409) (n % 409 ∷ []))
      ∙ ap (λ (x : Kind). kind_below x ((found arena image (goes arena image v (way d (n / 409) []))).slot (n % 409))) up

  pub leaf_kind : (n : ℕ) (v : Link) → v.kind ≡ Dir (depth_of v.slot) → (goes arena image v (leaf_path v.slot n)).kind ≡ Dir zero
  leaf_kind n v is = let same : depth_of v.slot ≡ depth_of v.slot + 0 = omega arith in kind_down (depth_of v.slot) 0 n v (is ∙ ap (λ (x : ℕ). Dir x) same)

  top_kind : (s : Slot) → IsEntries s → kind_of_top s ≡ Dir (depth_of s)
  top_kind (Head e) h = ap (λ (d : Bool). cond d (Dir e.depth) (Data e.depth)) h.1
  top_kind (To p) h = absurd h
  top_kind (Prev epoch at) h = absurd h

  entry_kind : (v : Link) (j : ℕ) → v.kind ≡ Dir (depth_of v.slot) → IsEntries (entry_of arena image v j).slot → (entry_of arena image v j).kind ≡ Dir (depth_of (entry_of arena image v j).slot)
  entry_kind v j is h =
      let w : Link = goes arena image v (leaf_path v.slot (j / 204)) in
      let here : entry_of arena image v j ≡ step arena image w (j % 204) = goes_end arena image (leaf_path v.slot (j / 204)) v (j % 204) in
      let kind : (step arena image w (j % 204)).kind ≡ kind_of_top (step arena image w (j % 204)).slot = ap (λ (x : Kind). kind_below x ((found arena image w).slot (j % 204))) (leaf_kind (j / 204) v is) in
      let own : (step arena image w (j % 204)).kind ≡ Dir (depth_of (step arena image w (j % 204)).slot) = kind ∙ top_kind (step arena image w (j % 204)).slot (subst (λ (u : Link). IsEntries u.slot) here h) in
      subst (λ (u : Link). u.kind ≡ Dir (depth_of u.slot)) (sym here) own

  -- ---- a source of entries of the tree

  pub record Source (root : ℕ) (w : Link) : Type 0 where
    pub path : List ℕ
    pub is : at_path arena image root path ≡ w
    pub kind : w.kind ≡ Dir (depth_of w.slot)

  pub source_of : (root depth : ℕ) (w : Link) → (step arena image (from_block root) 0).kind ≡ Dir (depth_of (step arena image (from_block root) 0).slot) → InTree arena image root depth w → Source root w
  source_of root depth w first tree_top = record { path = 0 ∷ []; is = refl; kind = first }
  source_of root depth w first (tree_below d v j above entries) =
      let s = source_of root d v first above in
      let rest : List ℕ = leaf_path v.slot (j / 204) ++ j % 204 ∷ [] in
      record {
        path = s.path ++ rest;
        is = goes_join arena image empty s.path rest (from_block root) ∙ ap (λ (u : Link). goes arena image u rest) s.is;
        kind = entry_kind v j s.kind entries;
      }

  -- the block that holds an entry
  pub block_of_entry : (w : Link) (i : ℕ) → IsEntries ((found arena image w).slot i) → (at : ℕ) × (target w.slot ≡ Local at)
  block_of_entry w i h = by (target w.slot) refl
    where
      lose : (c : Content) → found arena image w ≡ c → c ≡ nothing → ⊥
      lose c is none' = subst (λ (x : Content). IsEntries (x.slot i)) (is ∙ none') h

      by : (p : Pointer) → target w.slot ≡ p → (at : ℕ) × (target w.slot ≡ Local at)
      by Nil e = absurd (lose (found arena image w) refl (ap (λ (p : Pointer). meant arena image w.kind p) e))
      by (Held x) e = absurd (lose (found arena image w) refl (ap (λ (p : Pointer). meant arena image w.kind p) e ∙ empty w.kind x))
      by (Local a) e = (a, e)

  -- the same of an entry of records
  pub block_of_records : (w : Link) (i : ℕ) → IsRecords ((found arena image w).slot i) → (at : ℕ) × (target w.slot ≡ Local at)
  block_of_records w i h = by (target w.slot) refl
    where
      lose : (c : Content) → found arena image w ≡ c → c ≡ nothing → ⊥
      lose c is none' = subst (λ (x : Content). IsRecords (x.slot i)) (is ∙ none') h

      by : (p : Pointer) → target w.slot ≡ p → (at : ℕ) × (target w.slot ≡ Local at)
      by Nil e = absurd (lose (found arena image w) refl (ap (λ (p : Pointer). meant arena image w.kind p) e))
      by (Held x) e = absurd (lose (found arena image w) refl (ap (λ (p : Pointer). meant arena image w.kind p) e ∙ empty w.kind x))
      by (Local a) e = (a, e)
