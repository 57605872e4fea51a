-- Calls that only look, one after another.
use Rattle.std.proofs.Common.{◌≡◌, ◌↔◌, Option, ◌+◌, ◌-◌, ◌^◌, ◌≤◌, ℕ, length, List, min, inl, inr, ⊎_elim, sym, ap, ◌∙◌, arith}
use Rattle.std.proofs.lemmas.Bool.{cases_lt}
use Rattle.fo_ports.specs.of_base.Cause.{Rose}
use Rattle.fo_ports.specs.of_crash.Images.{Image, Content, SameContent, SameImage, Reaches, to_block, target}
use Rattle.fo_ports.specs.of_crash.Steps.{Passes, IsOneOf}
use Rattle.fo_ports.proofs.of_crash.Reach.{same_walk, reaches_itself, reaches_joins}
use Rattle.fo_ports.specs.State.{State, KeepsAll, Looks, IsRooted}
use Rattle.fo_ports.specs.Sources.{Leaves, SameLeaves, IsHung, StaysInPlace, Undisturbed, IsReady, StaysReady, source_bytes}

content_joins : {a b c : Content} → SameContent a b → SameContent b c → SameContent a c
content_joins p q = record { bytes = p.bytes ∙ q.bytes; slots = λ i. p.slots i ∙ q.slots i }

passes_joins : (a b : State) {first mid last : ℕ} {old then new : ℕ → Image → Type 0} → ((t : ℕ) → a.tops t → b.tops t) → ((image : Image) → b.may_leave image → a.may_leave image) → Passes a.tops a.may_leave first mid old then → Passes b.tops b.may_leave mid last then new → Passes a.tops a.may_leave first last old new
passes_joins a b {first = first} {mid = mid} {last = last} tops wider p q = record {
  later = omega (arith, p.later, q.later);
  before = λ k image le h. p.before k image le (q.before k image (omega (arith, le, p.later)) h);
  within = λ k image lt le h. ⊎_elim
      (λ late. one (q.within k image late le h))
      (λ early. p.within k image lt early (q.before k image early h))
      (cases_lt mid k);
}
  where
    one : {image : Image} → IsOneOf b.tops b.may_leave image → IsOneOf a.tops a.may_leave image
    one is = record { other = is.other; is = wider is.other is.is; same = record { each = λ t x top r. is.same.each t x (tops t top) r } }

-- what is put into no slot yet hangs from itself; and so does what hangs from something that hangs
pub rooted_of_apart : (s : State) (at : ℕ) → s.apart at → IsRooted s at
rooted_of_apart s at is_apart = (at, inr is_apart, reaches_itself s.now at)

pub rooted_below : (s : State) {at below : ℕ} → IsRooted s at → Reaches s.now (to_block at) below → IsRooted s below
rooted_below s r q = (r.0, r.1, reaches_joins r.2 q)

-- what may be put into hangs from block 1, or from what is put into no slot yet
pub rooted_of_hung : (s : State) {at : ℕ} → s.tops 1 → IsHung s at → IsRooted s at
rooted_of_hung s active hung = ⊎_elim (λ r. (1, inl active, r)) (λ h. (h.top, inr h.is_apart, h.reaches)) hung

-- a look after a look is a look
pub looks_joins : {a b c : State} → KeepsAll a b → Looks a b → Looks b c → Looks a c
looks_joins {a = a} {b = b} all first second = record {
  holds = second.holds ∙ first.holds;
  memory = λ is. record { each = λ x. content_joins ((second.memory (all.still_tells.1 is)).each x) ((first.memory is).each x) };
  known = λ x h. content_joins (second.known x ((first.stays.marks x (λ n. n)).0 h)) (first.known x h);
  images = record { each = λ image is. first.images.each image (second.images.each image is) };
  passes = passes_joins a b (λ t. (all.same_tops t).1) (λ image is. first.images.each image is) first.passes second.passes;
  stays = record {
    labels = λ x h. second.stays.labels x h ∙ first.stays.labels x h;
    marks = λ x h. let p = first.stays.marks x h in let q = second.stays.marks x h in (λ y. q.0 (p.0 y), λ y. q.1 (p.1 y), λ y. q.2 (p.2 y));
    places = λ told x p h i spared r s. second.stays.places (all.still_tells.1 told) x p h i spared r (first.stays.places told x p h i (λ u. spared ((second.covered.covered x).1 u)) (second.stays.rooted (all.still_tells.1 told) x h r) s);
    rooted = λ told x h r. first.stays.rooted told x h (second.stays.rooted (all.still_tells.1 told) x h r);
    newborn = λ x h n. first.stays.newborn x h (second.stays.newborn x h n);
    apart = λ x h i. (λ y. (first.stays.apart x h i).0 ((second.stays.apart x h i).0 y), λ y. (second.stays.apart x h i).1 ((first.stays.apart x h i).1 y));
    instead = λ x z h i. (λ y. (first.stays.instead x z h i).0 ((second.stays.instead x z h i).0 y), λ y. (second.stays.instead x z h i).1 ((first.stays.instead x z h i).1 y));
    waits = λ x on j h i k w. second.stays.waits x on j h i k (first.stays.waits x on j h i k w);
  };
  order = record { clearing = λ x j h. first.order.clearing x j (second.order.clearing x j h).1; goes_on = λ x j n h. second.order.goes_on x j n (first.order.goes_on x j n h) };
  covered = record { covered = λ x. (λ h. (first.covered.covered x).0 ((second.covered.covered x).0 h), λ h. (second.covered.covered x).1 ((first.covered.covered x).1 h)) };
  newborn = λ x n. second.newborn x (first.newborn x n);
  no_wait = record { each = λ x on j h w. first.no_wait.each x on j h (second.no_wait.each x on j h w) };
  dirty = λ x d. first.dirty x (second.dirty x d);
  room = (second.room.0 ∙ first.room.0, second.room.1 ∙ first.room.1);
  usable = (second.usable.0 ∙ first.usable.0, second.usable.1 ∙ first.usable.1);
  no_removal = record { each = λ x e w h. first.no_removal.each x e w (second.no_removal.each x e w h) };
  numbers = record { next = second.numbers.next ∙ first.numbers.next; grants = λ h. second.numbers.grants (first.numbers.grants h) };
}

-- a fault that a later call had
pub rose_later : (a b c : ℕ) → a ≤ b → Rose b c → Rose a c
rose_later a b c le r = let r' : min (b + 1) (2 ^ 64 - 1) ≤ c = r in omega (arith, le, r')

-- what hung somewhere hangs there in the same image
same_reaches : {image other : Image} → SameImage other image → {t at : ℕ} → Reaches image (to_block t) at → Reaches other (to_block t) at
same_reaches {image = image} {other = other} same {t = t} r = record { path = r.path; leads = ap target (same_walk other image (λ x i. (same.each x).slots i) r.path (to_block t)) ∙ r.leads }

-- so does what hangs from a top, or from a block that is apart
pub rooted_looks : {a b : State} → KeepsAll a b → Looks a b → a.tells → (at : ℕ) → IsRooted a at → IsRooted b at
rooted_looks all looks told at r = (r.0, ⊎_elim (λ t. inl ((all.same_tops r.0).1 t)) (λ h. inr ((looks.stays.apart r.0 (λ n. n) (λ n. n)).1 h)) r.1, same_reaches (looks.memory told) r.2)

-- and what may be put into
pub hung_looks : {a b : State} → Looks a b → a.tells → (at : ℕ) → IsHung a at → IsHung b at
hung_looks {b = b} looks told at hung = ⊎_elim
    (λ r. inl (same_reaches (looks.memory told) r))
    (λ h. let clear : b.covered h.top → ⊥ = λ c. h.uncovered ((looks.covered.covered h.top).0 c) in let apart : b.apart h.top = (looks.stays.apart h.top (λ n. n) (λ n. n)).1 h.is_apart in inr (record {
      top = h.top;
      is_apart = apart;
      place = h.place;
      stands = looks.stays.places told h.top h.place (λ n. n) (λ n. n) clear (rooted_of_apart b h.top apart) h.stands;
      uncovered = clear;
      reaches = same_reaches (looks.memory told) h.reaches;
    }))
    hung

-- A source whose blocks are not to be closed is undisturbed by a look.
pub looks_undisturbed : {a b : State} {leaves : Leaves} {size : ℕ} → Looks a b → b.tops 1 → a.tells → ((at : ℕ) → leaves.owns at → a.covered at → ⊥) → Undisturbed leaves size a b
looks_undisturbed {a = a} {b = b} {leaves = leaves} looks active told spared = record { each = λ at own. (in_place at own, inl ((looks.memory told).each at).bytes) }
  where
    in_place : (at : ℕ) → leaves.owns at → StaysInPlace a b at
    in_place at own = record {
      same_slots = inr (λ j. ((looks.memory told).each at).slots j);
      same_length = ap (λ (x : List ℕ). length x) (((looks.memory told).each at).bytes);
      same_label = looks.stays.labels at (λ n. n);
      same_places = λ hung p h. looks.stays.places told at p (λ n. n) (λ n. n) (λ c. spared at own ((looks.covered.covered at).0 c)) (rooted_of_hung b active (hung_looks looks told at hung)) h;
      in_tree = λ r. same_reaches (looks.memory told) r;
      hung = hung_looks looks told at;
      linked = λ h. inl ((looks.stays.apart at (λ n. n) (λ n. n)).1 h);
      uncovered = λ clear c. clear ((looks.covered.covered at).0 c);
      instead = λ x h. (looks.stays.instead x at (λ n. n) (λ n. n)).0 h;
    }

-- two looks at a source, one after another
pub same_leaves_joins : {tells told : Type 0} {x y z : Leaves} → (tells → told) → SameLeaves tells x y → SameLeaves told y z → SameLeaves tells x z
same_leaves_joins on first second = record {
  bytes = λ is. second.bytes (on is) ∙ first.bytes is;
  leaves = λ is i. ((second.leaves (on is) i).0 ∙ (first.leaves is i).0, (second.leaves (on is) i).1 ∙ (first.leaves is i).1);
  owns = λ is b. (λ h. (first.owns is b).0 ((second.owns (on is) b).0 h), λ h. (second.owns (on is) b).1 ((first.owns is b).1 h));
  still = λ o n h. second.still o n (first.still o n h);
  current = λ h. second.current (first.current h);
}

-- a block that is prepared stays so over a look, over any device
pub ready_looks : {tag : ℕ} {a b : State} → Looks a b → (at : ℕ) → IsReady tag a at → StaysReady a b at
ready_looks looks at ready = record {
  is_pinned = (looks.stays.marks at (λ n. n)).0 ready.is_pinned;
  same_label = looks.stays.labels at (λ n. n);
  same_slots = inr (λ j. (looks.known at ready.is_pinned).slots j);
  same_length = ap (λ (x : List ℕ). length x) ((looks.known at ready.is_pinned).bytes);
}

source_bytes_same : {now other : Image} {leaf new_leaf : ℕ → Option ℕ} {held new_held : ℕ → Option (List ℕ)} (size : ℕ) → SameImage other now → ((i : ℕ) → new_leaf i ≡ leaf i) → ((i : ℕ) → new_held i ≡ held i)
    → source_bytes new_leaf new_held other size ≡ source_bytes leaf held now size
source_bytes_same size same leaf_is held_is = λ k. source_bytes (λ j. leaf_is j k) (λ j. held_is j k) (λ b. record { bytes = (same.each b).bytes k; slot = λ j. (same.each b).slots j k }) size

-- A source that stays over a look at other blocks was only looked at.
pub source_looks : {a b : State} {x y : Leaves} (size : ℕ) → Looks a b → x.bytes ≡ source_bytes x.at x.held a.now size → y.bytes ≡ source_bytes y.at y.held b.now size
    → (a.tells → ((i : ℕ) → (y.at i ≡ x.at i) × (y.held i ≡ x.held i)) × ((at : ℕ) → y.owns at ↔ x.owns at)) → ((o n : ℕ) → x.prepared o n → y.prepared o n) → (x.current → y.current) → SameLeaves a.tells x y
source_looks size looks was is same still current = record {
  bytes = λ told. is ∙ source_bytes_same size (looks.memory told) (λ i. ((same told).0 i).0) (λ i. ((same told).0 i).1) ∙ sym was;
  leaves = λ told. (same told).0;
  owns = λ told. (same told).1;
  still = still;
  current = current;
}
