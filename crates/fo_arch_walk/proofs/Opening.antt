-- Blocks that a walk comes to and that aren't stored.
use Rattle.std.proofs.Common.{◌≡◌, ◌<◌, ℕ, refl, arith, lit<}
use Rattle.std.specs.Prelude.{None}
use Rattle.fo_image.specs.declared.types.Kind.TheVariants.{Root}
use Rattle.fo_crash.specs.Places.{root_place}
use Rattle.fo_ports.specs.State.{State, KeepsAll, Looks}
use Rattle.fo_arch_form.specs.declared.stored.Stored.{Stored}
use Rattle.fo_arch_form.specs.Stored.{found}
use Rattle.fo_arch_walk.specs.declared.spot.Spot.{Spot}
use Rattle.fo_arch_walk.specs.Reached.{top}
use Rattle.fo_arch_walk.specs.Spots.{IsSnapshot, IsOfSnapshot, NamesNext, IsOpen}
use Rattle.fo_arch_walk.proofs.Steps.{reached_next, reached_looks}

abbrev pub root_spot : ℕ → Spot
root_spot root = record { at = root; kind = Root; rank = 2144 }

pub open_root : (done : Stored) (s : State) (root : ℕ) → s.is_block root → found done root 17 ≡ None → IsOpen done s root (root_spot root)
open_root done s root is_one none = record {
  is_one = is_one;
  holds = tt;
  low = lit< tt;
  none = none;
  told = λ tells. record { there = root_place; comes = top; kind_is = refl; rank_is = refl };
}

pub open_looks : {a b : State} (done : Stored) (root : ℕ) (spot : Spot) → KeepsAll a b → Looks a b → IsOpen done a root spot → IsOpen done b root spot
open_looks done root spot keeps looks o = record {
  is_one = (keeps.same_blocks spot.at).1 o.is_one;
  holds = o.holds;
  low = o.low;
  none = o.none;
  told = λ tells. let told = keeps.still_tells.0 tells in reached_looks root spot looks told (o.told told);
}

pub open_next : {s : State} (done : Stored) (root : ℕ) (spot next : Spot) → IsOpen done s root spot → NamesNext done (s.now spot.at) spot next → next.rank < spot.rank → s.is_block next.at → IsOpen done s root next
open_next done root spot next o n lower is_one = record {
  is_one = is_one;
  holds = n.holds;
  low = omega (arith, lower, o.low);
  none = n.none;
  told = λ tells. reached_next root spot next n (o.told tells);
}

pub open_told : {s : State} {done : Stored} (root : ℕ) (spot : Spot) → IsSnapshot s root → IsOpen done s root spot → s.tells → IsOfSnapshot s spot
open_told root spot kept o tells = record { root = root; kept = kept; reached = o.told tells }
