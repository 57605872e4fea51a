-- Leaves that every image has as memory has them, over one look after another.
use Rattle.std.proofs.Common.{◌≡◌, ◌⊎◌, ◌+◌, ◌*◌, ◌<◌, ◌≤◌, ℕ, Some, ⊎_elim, sym, ap, ◌∙◌, arith}
use Rattle.fo_crash.specs.Images.{Content, SameContent}
use Rattle.fo_ports.specs.State.{State, Looks}
use Rattle.fo_ports.specs.Sources.{Leaves}
use Rattle.fo_dir_sure.specs.Sure.{AreSureBut, IsSettledLeaf}

-- what equals one content equals what that equals
same_as : {a b c : Content} → SameContent a b → SameContent c b → SameContent a c
same_as p q = record { bytes = p.bytes ∙ sym q.bytes; slots = λ i. p.slots i ∙ sym (q.slots i) }

last : (j i : ℕ) → j < i + 1 → (j < i) ⊎ (j ≡ i)
last j i lt = grind (arith, lt)

-- what such a block was before a look it is after it
settled_on : (a b : State) (at : ℕ) → a.tells → Looks a b → IsSettledLeaf a at → IsSettledLeaf b at
settled_on a b at told looks h = (record { each = λ image is. same_as (h.0.each image (looks.images.each image is)) ((looks.memory told).each at) }, (looks.stays.marks at (λ n. n)).1 h.1)

-- after a look at one more leaf, which stands in such a block, too
pub one_more : (a b : State) {x y : Leaves} {i but : ℕ} → a.tells → Looks a b → ((j : ℕ) → y.at j ≡ x.at j) → AreSureBut a x i but → (at : ℕ) × (y.at i ≡ Some at) × IsSettledLeaf b at → AreSureBut b y (i + 1) but
one_more a b {y = y} {i = i} told looks there before here = record {
  each = λ j lt other. ⊎_elim
      (λ early. let one = before.each j early other in (one.0, there j ∙ one.1, settled_on a b one.0 told looks one.2))
      (λ late. (here.0, ap (λ k. y.at k) late ∙ here.1, here.2))
      (last j i lt);
}

-- the leaf that is left out owes nothing
pub but_one : {s : State} {x : Leaves} {i but : ℕ} → i ≡ but → AreSureBut s x i but → AreSureBut s x (i + 1) but
but_one {i = i} is before = record { each = λ j lt other. before.each j (⊎_elim (λ early. early) (λ late. absurd (other (late ∙ is))) (last j i lt)) other }

-- and takes no pins
pub pins_idle : (i most before after : ℕ) → before ≤ after + i * most → before ≤ after + (i + 1) * most
pins_idle i most before after first = omega (arith, first)
