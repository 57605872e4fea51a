-- Calls that only look, one after another, and why they are refused.
use Rattle.std.proofs.Common.{◌≡◌, ◌⊎◌, ◌+◌, ◌-◌, ◌/◌, ◌%◌, ◌^◌, ◌≤◌, ℕ, List, length, min, Option, Some, inl, inr, ⊎_elim, refl, ap, ◌∙◌, arith}
use Rattle.std.proofs.lemmas.Bool.{cases_lt}
use Rattle.fo_base.specs.Cause.{Rose}
use Rattle.fo_image.specs.declared.types.Kind.{Kind}
use Rattle.fo_crash.specs.Images.{Image, Reaches, to_block}
use Rattle.fo_crash.specs.Steps.{Passes, IsOneOf}
use Rattle.fo_ports.specs.declared.error.BlockError.{BlockError}
use Rattle.fo_ports.specs.declared.error.BlockError.TheVariants.{Full, Damaged, Fault, Arena, Memory}
use Rattle.fo_ports.specs.Causes.{Caused}
use Rattle.fo_ports.specs.State.{State, KeepsAll, Looks}
use Rattle.fo_ports.specs.Sources.{HangsApart, IsHung, SameLeaves}
use Rattle.fo_ports_source.specs.Source.{leaf_of, leaves_of, byte_of, Over, IsHeld, Prepared}
use Rattle.fo_ports_source.specs.SourceLaws.{still_labelled, still_epoch, was_older}
use Rattle.fo_ports_source.proofs.Leaves.{byte_kept}
use Rattle.fo_crash.proofs.Reach.{reach_into, reaches_itself}
use Rattle.fo_ports_source.proofs.Steps.{content_joins, hung_rooted}
use Rattle.fo_ports_source.proofs.Values.{values_same}

-- A refusal after calls that looked has its cause, too.
pub cause_after : (damaged earlier : ℕ → Type 0) (first mid last : ℕ) (e : BlockError) → ((b : ℕ) → damaged b → earlier b) → first ≤ mid → Caused ⊥ damaged (Rose mid last) ⊥ e → Caused ⊥ earlier (Rose first last) ⊥ e
cause_after damaged earlier first mid last Full wider le cause = cause
cause_after damaged earlier first mid last (Damaged at) wider le cause = wider at cause
cause_after damaged earlier first mid last (Fault which) wider le cause = rose first mid last le cause
  where
    rose : (a b c : ℕ) → a ≤ b → Rose b c → Rose a c
    rose a b c le r = let r' : min (b + 1) (2 ^ 64 - 1) ≤ c = r in omega (arith, le, r')
cause_after damaged earlier first mid last (Arena which) wider le cause = cause
cause_after damaged earlier first mid last Memory wider le cause = cause

passes_joins : (a b : State) {first mid last : ℕ} {old then new : ℕ → Image → Type 0} → ((t : ℕ) → a.tops t → b.tops t) → ((image : Image) → b.may_leave image → a.may_leave image) → Passes a.tops a.may_leave first mid old then → Passes b.tops b.may_leave mid last then new → Passes a.tops a.may_leave first last old new
passes_joins a b {first = first} {mid = mid} {last = last} tops wider p q = record {
  later = omega (arith, p.later, q.later);
  before = λ k image le h. p.before k image le (q.before k image (omega (arith, le, p.later)) h);
  within = λ k image lt le h. ⊎_elim
      (λ late. one (q.within k image late le h))
      (λ early. p.within k image lt early (q.before k image early h))
      (cases_lt mid k);
}
  where
    one : {image : Image} → IsOneOf b.tops b.may_leave image → IsOneOf a.tops a.may_leave image
    one is = record { other = is.other; is = wider is.other is.is; same = record { each = λ t x top r. is.same.each t x (tops t top) r } }

pub looks_joins : {a b c : State} → KeepsAll a b → Looks a b → Looks b c → Looks a c
looks_joins {a = a} {b = b} all first second = record {
  holds = second.holds ∙ first.holds;
  memory = λ is. record { each = λ x. content_joins ((second.memory (all.still_tells.1 is)).each x) ((first.memory is).each x) };
  known = λ x h. content_joins (second.known x ((first.stays.marks x (λ n. n)).0 h)) (first.known x h);
  images = record { each = λ image is. first.images.each image (second.images.each image is) };
  passes = passes_joins a b (λ t. (all.same_tops t).1) (λ image is. first.images.each image is) first.passes second.passes;
  stays = record {
    labels = λ x h. second.stays.labels x h ∙ first.stays.labels x h;
    marks = λ x h. let p = first.stays.marks x h in let q = second.stays.marks x h in (λ y. q.0 (p.0 y), λ y. q.1 (p.1 y), λ y. q.2 (p.2 y));
    places = λ told x p h i spared r s.
        let mid = all.still_tells.1 told in
        second.stays.places mid x p h i spared r (first.stays.places told x p h i (λ u. spared ((second.covered.covered x).1 u)) (second.stays.rooted mid x h r) s);
    rooted = λ told x h r. first.stays.rooted told x h (second.stays.rooted (all.still_tells.1 told) x h r);
    newborn = λ x h n. first.stays.newborn x h (second.stays.newborn x h n);
    apart = λ x h i. (λ y. (first.stays.apart x h i).0 ((second.stays.apart x h i).0 y), λ y. (second.stays.apart x h i).1 ((first.stays.apart x h i).1 y));
    instead = λ x z h i. (λ y. (first.stays.instead x z h i).0 ((second.stays.instead x z h i).0 y), λ y. (second.stays.instead x z h i).1 ((first.stays.instead x z h i).1 y));
    waits = λ x on j h i k w. second.stays.waits x on j h i k (first.stays.waits x on j h i k w);
  };
  order = record {
    clearing = λ x j h. first.order.clearing x j (second.order.clearing x j h).1;
    goes_on = λ x j n h. second.order.goes_on x j n (first.order.goes_on x j n h);
  };
  covered = record { covered = λ x. (λ h. (first.covered.covered x).0 ((second.covered.covered x).0 h), λ h. (second.covered.covered x).1 ((first.covered.covered x).1 h)) };
  newborn = λ x n. second.newborn x (first.newborn x n);
  no_wait = record { each = λ x on j h w. first.no_wait.each x on j h (second.no_wait.each x on j h w) };
  dirty = λ x d. first.dirty x (second.dirty x d);
  room = (second.room.0 ∙ first.room.0, second.room.1 ∙ first.room.1);
  usable = (second.usable.0 ∙ first.usable.0, second.usable.1 ∙ first.usable.1);
  no_removal = record { each = λ x e w h. first.no_removal.each x e w (second.no_removal.each x e w h) };
  numbers = record { next = second.numbers.next ∙ first.numbers.next; grants = λ h. second.numbers.grants (first.numbers.grants h) };
}

-- a leaf that is known keeps its bytes
pub known_bytes : {old new : State} → Looks old new → (at : ℕ) → old.tells ⊎ old.pinned at → (new.now at).bytes ≡ (old.now at).bytes
known_bytes looks at = ⊎_elim (λ told. ((looks.memory told).each at).bytes) (λ held. (looks.known at held).bytes)

pub still_known : {old new : State} → Looks old new → KeepsAll old new → (at : ℕ) → old.tells ⊎ old.pinned at → new.tells ⊎ new.pinned at
still_known looks all at = ⊎_elim (λ h. inl (all.still_tells.1 h)) (λ h. inr ((looks.stays.marks at (λ n. n)).0 h))

pub byte_looks : {old new : State} → Looks old new → (leaves : List (Option ℕ)) (k : ℕ) → ((at : ℕ) → leaf_of leaves (k / 8192) ≡ Some at → old.tells ⊎ old.pinned at) → byte_of (leaf_of leaves) new.now k ≡ byte_of (leaf_of leaves) old.now k
byte_looks {old = old} {new = new} looks leaves k known = byte_kept old.now new.now (leaf_of leaves (k / 8192)) (k % 8192) (λ at e. known_bytes looks at (known at e))

-- one that is held stays so
pub held_looks : {old new : State} {kind : Kind} {tag : ℕ} → Looks old new → KeepsAll old new → (at : ℕ) → IsHeld old kind tag at → IsHeld new kind tag at
held_looks looks all at was = record {
  labelled = still_labelled all.same_high (looks.stays.labels at (λ n. n)) was.labelled;
  is_pinned = (looks.stays.marks at (λ n. n)).0 was.is_pinned;
  long = ap length (looks.known at was.is_pinned).bytes ∙ was.long;
}

pub prepared_looks : {old new : State} {kind : Kind} {tag size : ℕ} {leaves : List (Option ℕ)} {o n : ℕ} → Looks old new → KeepsAll old new → Prepared old kind tag size leaves o n → Prepared new kind tag size leaves o n
prepared_looks looks all prepared = record {
  each = λ k at from to e. held_looks looks all at (prepared.each k at from to e);
  last = λ at past e. held_looks looks all at (prepared.last at past e);
  limit = prepared.limit;
}

-- what was reached is reached, and what may be put into still may be
led_looks : {old new : State} → Looks old new → old.tells → (t b : ℕ) → Reaches old.now (to_block t) b → Reaches new.now (to_block t) b
led_looks {old = old} {new = new} looks told t = reach_into new.now old.now (λ x. ⊥) t (λ x j h. ((looks.memory told).each x).slots j) (λ x h. absurd h)

hung_looks : {old new : State} → Looks old new → old.tells → (at : ℕ) → IsHung old at → IsHung new at
hung_looks {old = old} {new = new} looks told at = ⊎_elim (λ r. inl (led_looks looks told 1 at r)) (λ w. inr (apart_looks w))
  where
    apart_looks : HangsApart old at → HangsApart new at
    apart_looks w =
        let is_apart = (looks.stays.apart w.top (λ n. n) (λ n. n)).1 w.is_apart in
        let clear : new.covered w.top → ⊥ = λ h. w.uncovered ((looks.covered.covered w.top).0 h) in
        record {
          top = w.top;
          is_apart = is_apart;
          place = w.place;
          stands = looks.stays.places told w.top w.place (λ n. n) (λ n. n) clear (w.top, inr is_apart, reaches_itself new.now w.top) w.stands;
          uncovered = clear;
          reaches = led_looks looks told w.top at w.reaches;
        }

pub over_looks : {old new : State} {kind : Kind} {tag rank size : ℕ} {leaves : List (Option ℕ)} → Looks old new → KeepsAll old new → Over old kind tag rank size leaves → Over new kind tag rank size leaves
over_looks {old = old} {new = new} {leaves = leaves} looks all over = record {
  leaf = λ i at e. record {
    is_one = (all.same_blocks at).1 (over.leaf i at e).is_one;
    told = λ is.
        let before = all.still_tells.0 is in
        let was = (over.leaf i at e).told before in
        let spared : new.covered at → ⊥ = λ h. was.uncovered ((looks.covered.covered at).0 h) in
        let active = (all.same_tops 1).1 was.active in
        let hung = hung_looks looks before at was.hung in
        record {
          labelled = still_labelled all.same_high (looks.stays.labels at (λ n. n)) was.labelled;
          there = looks.stays.places before at _ (λ n. n) (λ n. n) spared (hung_rooted new at active hung) was.there;
          uncovered = spared;
          active = active;
          hung = hung;
          in_tree = λ older. led_looks looks before 1 at (was.in_tree (was_older all.same_high (looks.stays.labels at (λ n. n)) older));
        };
  };
  apart = λ is. over.apart (all.still_tells.0 is);
  none = over.none;
  tail = λ is k le. byte_looks looks leaves k (λ at e. inl (all.still_tells.0 is)) ∙ over.tail (all.still_tells.0 is) k le;
  within = over.within;
  few = over.few;
  leaf_kind = over.leaf_kind;
}

-- a source that was only looked at has what it had
pub same_looks : {old new : State} {kind : Kind} {tag size : ℕ} {leaves : List (Option ℕ)} → Looks old new → KeepsAll old new → SameLeaves old.tells (leaves_of old kind tag size leaves) (leaves_of new kind tag size leaves)
same_looks {old = old} {new = new} {size = size} {leaves = leaves} looks all = record {
  bytes = λ told. values_same (byte_of (leaf_of leaves) old.now) (byte_of (leaf_of leaves) new.now) size (λ k. byte_looks looks leaves k (λ at e. inl told));
  leaves = λ told i. (refl, refl);
  owns = λ told b. (λ h. h, λ h. h);
  still = λ o n prepared. prepared_looks looks all prepared;
  current = λ top. ⊎_elim (λ long. inl long) (λ leaf. inr (record { at = leaf.at; is = leaf.is; current = still_epoch all.same_high (looks.stays.labels leaf.at (λ n. n)) leaf.current })) top;
}
