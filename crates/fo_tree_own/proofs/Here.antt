-- A block below a slot of a current block is current already; and what is told of one that is owned.
use Rattle.std.proofs.Common.{◌≡◌, ◌+◌, ◌*◌, ℕ, suc, inl, inr, ⊎_elim, subst, arith}
use Rattle.fo_image.specs.declared.types.Pointer.TheVariants.{Local}
use Rattle.fo_crash.specs.Images.{target}
use Rattle.fo_crash.specs.Places.{place}
use Rattle.fo_crash.proofs.Reach.{reaches_on}
use Rattle.fo_tree_look.specs.of_ports.State.{State}
use Rattle.fo_tree_look.specs.of_ports.Sources.{IsHung}
use Rattle.fo_tree_look.specs.of_tree_read.declared.tree.Tree.{Tree}
use Rattle.fo_tree_look.specs.of_tree_read.Tree.{kind_at}
use Rattle.fo_tree_look.specs.Source.{IsPrepared, IsTold}
use Rattle.fo_tree_own.specs.Step.{IsOwn}
use Rattle.fo_tree_own.proofs.Link.{Laws, inner_below}

-- what a block leads to that hangs somewhere hangs there
pub hung_below : (s : State) (at i b : ℕ) → IsHung s at → target ((s.now at).slot i) ≡ Local b → IsHung s b
hung_below s at i b hung leads = ⊎_elim
    (λ r. inl (reaches_on i r leads))
    (λ h. inr (record { top = h.top; is_apart = h.is_apart; place = h.place; stands = h.stands; uncovered = h.uncovered; reaches = reaches_on i h.reaches leads }))
    hung

pub here_own : (s : State) (t : Tree) (level k at i below : ℕ) → Laws s → IsOwn s t (suc level) k at → target ((s.now at).slot i) ≡ Local below → IsPrepared s (kind_at t.dir level) t.tag below → (s.tells → IsTold s t.top below) → (s.label below).epoch ≡ s.high → IsOwn s t level (409 * k + i) below
here_own s t level k at i below laws above leads is told current = record {
  is_pinned = is.is_pinned;
  live = is.live;
  has_kind = is.has_kind;
  tagged = is.tagged;
  current = current;
  long = is.long;
  told = λ now. record {
    stands = subst (λ q. s.stands below q) (inner_below t.dir level t.tag k t.rank i ((s.now at).slot i)) ((laws.placed now).each at i below (place (kind_at t.dir (suc level)) t.tag k (t.rank + suc level)) (above.told now).stands leads);
    uncovered = (told now).uncovered;
    hung = hung_below s at i below (above.told now).hung leads;
    alone = λ y h. ((told now).alone y h).0;
  };
}

-- what is told of a current block of a source
pub own_told : {s : State} {t : Tree} {level k at : ℕ} → IsOwn s t level k at → s.tells → IsTold s t.top at
own_told {s = s} {at = at} own told = record {
  live = own.live;
  up_to = let current = own.current in omega (arith, current);
  uncovered = (own.told told).uncovered;
  in_tree = λ older. let current = own.current in absurd (omega (arith, current, older));
  hung = (own.told told).hung;
  alone = λ y h. ((own.told told).alone y h, own.current);
}
