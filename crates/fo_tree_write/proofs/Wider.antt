-- More blocks may be those that a call changes.
use Rattle.std.proofs.Common.{ℕ, inl, inr, ⊎_elim, arith}
use Rattle.fo_ports.specs.State.{State}
use Rattle.fo_ports.specs.Sources.{Touched, Changes}
use Rattle.fo_tree_read.specs.declared.tree.Tree.{Tree}
use Rattle.fo_tree_clear.specs.of_tree_look.Source.{HasBlock}
use Rattle.fo_tree_clear.proofs.of_tree_down.Beside.{on_way_block}
use Rattle.fo_tree_write.specs.Write.{OnWays}

touched_wider : (tag : ℕ) (inner outer : ℕ → Type 0) (old new : State) → ((b : ℕ) → inner b → outer b) → (b : ℕ) → Touched old new tag inner b → Touched old new tag outer b
touched_wider tag inner outer old new wider b t = ⊎_elim (λ made. inl made) (λ own. inr (wider b own.0, own.1, own.2)) t

pub changes_wider : {tag : ℕ} {mine inner outer : ℕ → Type 0} {old new : State} → ((b : ℕ) → inner b → outer b) → Changes tag mine inner old new → Changes tag mine outer old new
changes_wider {tag = tag} {inner = inner} {outer = outer} {old = old} {new = new} wider x = record {
  memory = λ b not. x.memory b (λ t. not (touched_wider tag inner outer old new wider b t));
  images = λ image is. let e = x.images image is in record {
    other = e.other;
    was = e.was;
    same = λ b not. e.same b (λ t. not (touched_wider tag inner outer old new wider b t));
    slots = e.slots;
    apart = e.apart;
  };
  made = x.made;
  others = x.others;
  apart = x.apart;
  places = x.places;
  rooted = x.rooted;
  instead = x.instead;
  covers = x.covers;
  leaves = x.leaves;
  in_tree = x.in_tree;
  waits = x.waits;
  no_wait = x.no_wait;
  clearing = x.clearing;
  goes_on = x.goes_on;
  dirty = x.dirty;
  moments = x.moments;
  left = x.left;
  pins = x.pins;
  usable = x.usable;
  numbers = x.numbers;
}

-- what is on these ways is the source's
pub ways_own : (s : State) (t : Tree) (offset n b : ℕ) → OnWays s t offset n b → HasBlock s t b
ways_own s t offset n b is = on_way_block s t t.depth is.leaf b (omega arith) is.on
