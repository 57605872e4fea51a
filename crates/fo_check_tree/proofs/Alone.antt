-- Blocks at one place, and what is behind a block at two.
use Rattle.std.proofs.Common.{◌≡◌, ℕ, List, [], ◌∷◌, ◌++◌, append-nil, append_assoc, refl, sym, ap, ◌∙◌}
use Rattle.fo_image.specs.declared.types.Kind.{Kind}
use Rattle.fo_image.specs.declared.types.Score.{Score}
use Rattle.fo_image.specs.declared.types.Pointer.{Pointer}
use Rattle.fo_image.specs.declared.types.Pointer.TheVariants.{Nil, Local, Score as Held}
use Rattle.fo_crash.specs.Images.{Content, Image, Arena, Link, target, meant, step, goes, nothing, from_block}
use Rattle.fo_good.specs.Trees.{IsTree, LeadsTo, at_path}
use Rattle.fo_good.specs.Sound.{Kept}
use Rattle.fo_check_tree.specs.Answer.{BreaksOnce, IsAlone}
use Rattle.fo_check_tree.specs.Answer.BreaksOnce.{twice}
use Rattle.fo_check_tree.proofs.Leaves.{goes_join}
use Rattle.fo_check_tree.proofs.Paths.{same_ends}

pub same_fronts : (r p q : List ℕ) → p ++ r ≡ q ++ r → p ≡ q
same_fronts [] p q e = sym (append-nil p) ∙ e ∙ append-nil q
same_fronts (x ∷ r) p q e = (same_ends p q x x (same_fronts r (p ++ x ∷ []) (q ++ x ∷ []) (append_assoc p (x ∷ []) r ∙ e ∙ sym (append_assoc q (x ∷ []) r)))).0

pub alone_in : (arena : Arena) (image : Image) (k : Kept) → IsTree arena image k.at → (at : ℕ) → IsAlone arena image k at
alone_in arena image k tree at = record { once = λ p q a b. tree.once p q at a b }

pub not_once : (arena : Arena) (image : Image) (k : Kept) (at : ℕ) → BreaksOnce arena image k at → IsTree arena image k.at → ⊥
not_once arena image k at (twice p q b lp lq apart) tree = apart (tree.once p q b lp lq)

pub not_alone : (arena : Arena) (image : Image) (k : Kept) (at : ℕ) → BreaksOnce arena image k at → IsAlone arena image k at → ⊥
not_alone arena image k at (twice p q b lp lq apart) alone = apart (alone.once p q lp lq)

module _ (arena : Arena) (image : Image) (empty : (kind : Kind) (score : Score) → arena kind score ≡ nothing) where
  -- What a slot leads to doesn't depend on the kind as which its block is read.
  same_meant : (a b : Kind) (p : Pointer) (i : ℕ) → target ((meant arena image a p).slot i) ≡ target ((meant arena image b p).slot i)
  same_meant a b Nil i = refl
  same_meant a b (Local at) i = refl
  same_meant a b (Held x) i = ap (λ (c : Content). target (c.slot i)) (empty a x ∙ sym (empty b x))

  pub same_behind : (rest : List ℕ) (u w : Link) → target u.slot ≡ target w.slot → target ((goes arena image u rest).slot) ≡ target ((goes arena image w rest).slot)
  same_behind [] u w e = e
  same_behind (i ∷ rest) u w e = same_behind rest (step arena image u i) (step arena image w i) (same_meant u.kind w.kind (target u.slot) i ∙ ap (λ (p : Pointer). target ((meant arena image w.kind p).slot i)) e)

  -- Behind a block at two places none is at one.
  pub twice_behind : (k : Kept) (at : ℕ) → BreaksOnce arena image k at → (w : Link) → target w.slot ≡ Local at → (rest : List ℕ) (b : ℕ) → target ((goes arena image w rest).slot) ≡ Local b → IsAlone arena image k b → ⊥
  twice_behind k at (twice p q c lp lq apart) w is rest b leads alone = apart (same_fronts rest p q (alone.once (p ++ rest) (q ++ rest) (on p lp) (on q lq)))
    where
      on : (p : List ℕ) → LeadsTo arena image k.at p at → LeadsTo arena image k.at (p ++ rest) b
      on p l = ap (λ (v : Link). target v.slot) (goes_join arena image empty p rest (from_block k.at)) ∙ same_behind rest (at_path arena image k.at p) w (l ∙ sym is) ∙ leads
