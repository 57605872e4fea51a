-- What a put queues: the slot that was there leads to it, through what memory has.
use Rattle.std.proofs.Common.{◌≡◌, ◌⊎◌, inl, inr, ⊎_elim, ℕ, zero, suc, ◌+◌, ◌-◌, ◌==◌, Bool, true, false, cond, nat_lt, if◌then◌else◌, List, [], ◌∷◌, ◌++◌, drop, Option, Some, None, slice_get, refl, sym, ap, subst, arith}
use Rattle.std.specs.List.{All, Contains}
use Rattle.std.proofs.lemmas.List.Elements.{All-nil, All-head, All-drop, All-push, Contains-append_cases}
use Rattle.fo_image.specs.declared.types.Kind.{Kind}
use Rattle.fo_image.specs.declared.types.Pointer.{Pointer}
use Rattle.fo_image.specs.declared.types.Pointer.TheVariants.{Nil, Local, Score as Stored}
use Rattle.fo_mind.specs.of_buffers.Held.{Held}
use Rattle.fo_mind.specs.of_labels.Region.{Region}
use Rattle.fo_crash.specs.declared.slot.Slot.{Slot}
use Rattle.fo_crash.specs.Images.{Image, Reaches, kind_below, target}
use Rattle.fo_crash.proofs.Reach.{reaches_on}
use Rattle.fo_facts.specs.declared.fact.Fact.{Fact}
use Rattle.fo_mind.specs.of_linking.Joined.{IsReached}
use Rattle.fo_mind.specs.of_linking.Joined.IsReached.{top, below}
use Rattle.fo_mind.specs.of_takeout.declared.pair.Below.{Below}
use Rattle.fo_mind.specs.of_takeout.declared.pair.Pair.{Pair}
use Rattle.fo_mind.specs.of_takeout.declared.pair.Change.{Change}
use Rattle.fo_mind.specs.of_takeout.declared.pair.Change.TheVariants.{Copied, Gained, Lost, Apart}
use Rattle.fo_mind.specs.of_takeout.declared.pair.Met.{Met}
use Rattle.fo_mind.specs.of_takeout.declared.pair.Met.TheVariants.{Nothing, Alone, Whole, Follows}
use Rattle.fo_mind.specs.of_takeout.Meeting.{change, item, item_of, items, led_at, led_to, meeting}
use Rattle.fo_mind.specs.of_takeout.Walking.{Walking, added, answer, first_pair, given, item_in, next_in, passed, removals_of}
use Rattle.fo_mind.specs.of_taking.Taken.{TakesOut, begun, met}
use Rattle.fo_mind.specs.of_unlink.declared.removal.Removal.{Removal}

none_among : {A : Type 0} (r : Removal) → Contains [] r → A
none_among r (k, lt, is) = absurd (omega (arith, lt))

one_among : (x r : Removal) → Contains (x ∷ []) r → x ≡ r
one_among x r (zero, lt, is) = is
one_among x r (suc k, lt, is) = absurd (omega (arith, lt))

same_below : {x z : Below} → Some x ≡ Some z → x ≡ z
same_below e = cc

none_some : {A : Type 0} {z : Below} → None ≡ Some z → A
none_some e = absurd (cc)

-- ---- what is met

-- The block that is met first is reached from this slot.
abbrev IsMetReached : Image → Slot → Met → Type 0
IsMetReached now s Nothing = Unit {0}
IsMetReached now s (Alone x) = Reaches now s x.at
IsMetReached now s (Whole x) = Reaches now s x.at
IsMetReached now s (Follows p) = Reaches now s p.old.at

meeting_reached : (now : Image) (s : Slot) (x y : Option Below) → ((z : Below) → x ≡ Some z → Reaches now s z.at) → IsMetReached now s (meeting x y)
meeting_reached now s None y reached = tt
meeting_reached now s (Some x) None reached = reached x refl
meeting_reached now s (Some x) (Some y) reached = by (x.at == y.at)
  where
    by : (b : Bool) → IsMetReached now s (if b then Nothing else Follows (record { old = x; new = y }))
    by true = tt
    by false = reached x refl

led_reached : (now : Image) (s : Slot) (kind : Kind) (t : Slot) → ((b : ℕ) → target t ≡ Local b → Reaches now s b) → (z : Below) → led_to kind t ≡ Some z → Reaches now s z.at
led_reached now s kind t reached z = by (target t) refl
  where
    by : (q : Pointer) → target t ≡ q → led_at (kind_below kind t) q ≡ Some z → Reaches now s z.at
    by Nil e is = none_some is
    by (Stored score) e is = none_some is
    by (Local b) e is = subst (λ (y : Below). Reaches now s y.at) (same_below is) (reached b e)

item_reached : (now : Image) (s : Slot) (p : Pair) (n : ℕ) → Reaches now s p.old.at → IsMetReached now s (item p (now p.old.at) (now p.new.at) n)
item_reached now s p n reached = by (change p)
  where
    down : (y : Option Below) → IsMetReached now s (meeting (led_to p.old.kind ((now p.old.at).slot (n - 1))) y)
    down y = meeting_reached now s (led_to p.old.kind ((now p.old.at).slot (n - 1))) y (led_reached now s p.old.kind ((now p.old.at).slot (n - 1)) (λ b to. reaches_on (n - 1) reached to))

    first : (b : Bool) (m : Met) → IsMetReached now s m → IsMetReached now s (if b then Alone p.old else m)
    first true m h = reached
    first false m h = h

    by : (c : Change) → IsMetReached now s (item_of c p (now p.old.at) (now p.new.at) n)
    by Copied = first (n == 0) (meeting (led_to p.old.kind ((now p.old.at).slot (n - 1))) (led_to p.new.kind ((now p.new.at).slot (n - 1)))) (down (led_to p.new.kind ((now p.new.at).slot (n - 1))))
    by Lost = first (n == 0) (meeting (led_to p.old.kind ((now p.old.at).slot (n - 1))) (if n == 1 then Some p.new else None)) (down (if n == 1 then Some p.new else None))
    by Gained = meeting_reached now s (Some p.old) (led_to p.new.kind ((now p.new.at).slot 0)) (λ z e. subst (λ (y : Below). Reaches now s y.at) (same_below e) reached)
    by Apart = reached

-- ---- a walk

-- The old block of each pair is reached from this slot, and what leaves is to be closed at this epoch.
record Reaching (now : Image) (s : Slot) (epoch : ℕ) (w : Walking) : Type 0 where
  pairs : All (λ (p : Pair). Reaches now s p.old.at) w.pairs
  epoch_is : w.epoch ≡ epoch

abbrev Reached : Image → Slot → ℕ → Removal → Type 0
Reached now s epoch r = Reaches now s r.at × (r.epoch ≡ epoch)

module _ (now : Image) (s : Slot) (epoch : ℕ) where
  passed_reaching : (w : Walking) (p : Pair) → Reaching now s epoch w → Reaching now s epoch (passed w p)
  passed_reaching w p h = by (nat_lt (w.done + 1) (items p))
    where
      by : (b : Bool) → Reaching now s epoch (cond b (record w { done = w.done + 1 }) (record w { pairs = drop 1 w.pairs; done = 0 }))
      by true = record { pairs = h.pairs; epoch_is = h.epoch_is }
      by false = record { pairs = All-drop (λ (x : Pair). Reaches now s x.old.at) 1 w.pairs h.pairs; epoch_is = h.epoch_is }

  added_reaching : (w : Walking) (m : Met) → IsMetReached now s m → Reaching now s epoch w → Reaching now s epoch (added w m)
  added_reaching w Nothing is h = h
  added_reaching w (Alone x) is h = h
  added_reaching w (Whole x) is h = h
  added_reaching w (Follows p) is h = by (nat_lt 0 w.room)
    where
      by : (b : Bool) → Reaching now s epoch (cond b (record w { pairs = w.pairs ++ p ∷ []; room = w.room - 1 }) w)
      by true = record { pairs = All-push (λ (x : Pair). Reaches now s x.old.at) w.pairs p h.pairs is; epoch_is = h.epoch_is }
      by false = h

  answer_reached : (w : Walking) (m : Met) → w.epoch ≡ epoch → IsMetReached now s m → (r : Removal) → Contains (removals_of (answer w m)) r → Reached now s epoch r
  answer_reached w Nothing e is r c = none_among r c
  answer_reached w (Follows p) e is r c = none_among r c
  answer_reached w (Alone x) e is r c = subst (Reached now s epoch) (one_among _ r c) (is, e)
  answer_reached w (Whole x) e is r c = subst (Reached now s epoch) (one_among _ r c) (is, e)

  first_reached : (ps : List Pair) → All (λ (p : Pair). Reaches now s p.old.at) ps → (p : Pair) → slice_get ps 0 ≡ Some p → Reaches now s p.old.at
  first_reached [] all p e = absurd (clash e)
    where
      clash : None ≡ Some p → ⊥
      clash h = cc
  first_reached (x ∷ ps) all p e = subst (λ (y : Pair). Reaches now s y.old.at) (same e) (All-head (λ (y : Pair). Reaches now s y.old.at) x ps all)
    where
      same : Some x ≡ Some p → x ≡ p
      same h = cc

  step_reached : (w : Walking) → Reaching now s epoch w → ((r : Removal) → Contains ((next_in now w (first_pair w)).0) r → Reached now s epoch r) × Reaching now s epoch ((next_in now w (first_pair w)).1)
  step_reached w h = by (first_pair w) (first_reached w.pairs h.pairs)
    where
      by : (o : Option Pair) → ((p : Pair) → o ≡ Some p → Reaches now s p.old.at) → ((r : Removal) → Contains ((next_in now w o).0) r → Reached now s epoch r) × Reaching now s epoch ((next_in now w o).1)
      by None reached = (λ r c. none_among r c, h)
      by (Some p) reached =
          let is = item_reached now s p w.done (reached p refl) in
          (answer_reached w (item_in now w p) h.epoch_is is, added_reaching (passed w p) (item_in now w p) is (passed_reaching w p h))

  given_reached : (n : ℕ) (w : Walking) → Reaching now s epoch w → (r : Removal) → Contains (given now n w) r → Reached now s epoch r
  given_reached zero w h r c = none_among r c
  given_reached (suc n) w h r c =
      let one = step_reached w h in
      ⊎_elim
      (λ here. one.0 r here)
      (λ later. given_reached n ((next_in now w (first_pair w)).1) one.1 r later)
      (Contains-append_cases ((next_in now w (first_pair w)).0) (given now n ((next_in now w (first_pair w)).1)) r c)

-- a walk with no pair gives nothing
given_none : (now : Image) (n : ℕ) (w : Walking) → w.pairs ≡ [] → (r : Removal) → Contains (given now n w) r → ⊥
given_none now zero w none r c = none_among r c
given_none now (suc n) w none r c = ⊎_elim
    (λ here. none_among r (subst (λ (rs : List Removal). Contains rs r) (ap (λ (x : List Removal × Walking). x.0) is) here))
    (λ later. given_none now n w none r (subst (λ (v : Walking). Contains (given now n v) r) (ap (λ (x : List Removal × Walking). x.1) is) later))
    (Contains-append_cases ((next_in now w (first_pair w)).0) (given now n ((next_in now w (first_pair w)).1)) r c)
  where
    is : next_in now w (first_pair w) ≡ ([], w)
    is = ap (λ (ps : List Pair). next_in now w (slice_get ps 0)) none

-- ---- a put

-- where no slot leads, what was there is met alone
abbrev IsLed : Slot → Met → Type 0
IsLed s Nothing = Unit {0}
IsLed s (Alone x) = ⊥
IsLed s (Whole x) = target s ≡ Local x.at
IsLed s (Follows p) = ⊥

led_alone : (kind : Kind) (old new : Slot) → ((b : ℕ) → target new ≡ Local b → ⊥) → IsLed old (met kind old new)
led_alone kind old new nowhere = by (target old) (target new) refl refl
  where
    by : (p q : Pointer) → target old ≡ p → target new ≡ q → IsLed old (meeting (led_at (kind_below kind old) p) (led_at (kind_below kind new) q))
    by Nil q e f = tt
    by (Stored score) q e f = tt
    by (Local b) Nil e f = e
    by (Local b) (Stored score) e f = e
    by (Local b) (Local c) e f = absurd (nowhere c f)

module _ {now : Image} {region : Region} {held : Held} {w over : Walking} {at epoch : ℕ} {kind : Kind} {old new : Slot} {before queued : List Removal} {budget : ℕ}
    (none : w.pairs ≡ []) (t : TakesOut now region held w over at epoch kind old new before queued budget) where
  first_is : IsMetReached now old (met kind old new)
  first_is = meeting_reached now old (led_to kind old) (led_to kind new) (led_reached now old kind old (λ b to. record { path = []; leads = to }))

  begins : Reaching now old epoch (begun w at epoch)
  begins = record { pairs = subst (All (λ (p : Pair). Reaches now old p.old.at)) (sym none) (All-nil (λ (p : Pair). Reaches now old p.old.at)); epoch_is = refl }

  -- in which part of the list a removal is
  parts_of : (r : Removal) → Contains queued r → (Contains before r ⊎ Contains (removals_of (answer (begun w at epoch) (met kind old new))) r) ⊎ Contains (given now t.ends.taking.steps (added (begun w at epoch) (met kind old new))) r
  parts_of r c = ⊎_elim
      (λ early. inl (Contains-append_cases before (removals_of (answer (begun w at epoch) (met kind old new))) r early))
      (λ late. inr late)
      (Contains-append_cases (before ++ removals_of (answer (begun w at epoch) (met kind old new))) (given now t.ends.taking.steps (added (begun w at epoch) (met kind old new))) r
      (subst (λ (rs : List Removal). Contains rs r) t.ends.taking.gives c))

  -- what is queued was, or the slot led there
  pub takes_reached : (r : Removal) → Contains queued r → Contains before r ⊎ (Reaches now old r.at × (r.epoch ≡ epoch))
  takes_reached r c = ⊎_elim
      (λ early. ⊎_elim (λ was. inl was) (λ one. inr (answer_reached now old epoch (begun w at epoch) (met kind old new) refl first_is r one)) early)
      (λ late. inr (given_reached now old epoch t.ends.taking.steps (added (begun w at epoch) (met kind old new)) (added_reaching now old epoch (begun w at epoch) (met kind old new) first_is begins) r late))
      (parts_of r c)

  alone_cases : (m : Met) → IsLed old m → (n : ℕ) (r : Removal) → Contains (removals_of (answer (begun w at epoch) m)) r ⊎ Contains (given now n (added (begun w at epoch) m)) r → (target old ≡ Local r.at) × (r.epoch ≡ epoch)
  alone_cases Nothing is n r c = ⊎_elim (λ one. none_among r one) (λ more. absurd (given_none now n (begun w at epoch) none r more)) c
  alone_cases (Alone x) is n r c = absurd is
  alone_cases (Whole x) is n r c = ⊎_elim
      (λ one. subst (λ (y : Removal). (target old ≡ Local y.at) × (y.epoch ≡ epoch)) (one_among _ r one) (is, refl))
      (λ more. absurd (given_none now n (begun w at epoch) none r more))
      c
  alone_cases (Follows p) is n r c = absurd is

  -- where nothing is put, that is what the slot led to
  pub takes_alone : ((b : ℕ) → target new ≡ Local b → ⊥) → (r : Removal) → Contains queued r → Contains before r ⊎ ((target old ≡ Local r.at) × (r.epoch ≡ epoch))
  takes_alone nowhere r c = ⊎_elim
      (λ early. ⊎_elim (λ was. inl was) (λ one. inr (alone_cases (met kind old new) (led_alone kind old new nowhere) t.ends.taking.steps r (inl one))) early)
      (λ late. inr (alone_cases (met kind old new) (led_alone kind old new nowhere) t.ends.taking.steps r (inr late)))
      (parts_of r c)

-- ---- where nothing is put, nothing comes into the tree

pub unreached : (held : Held) (region : Region) (facts : List Fact) (to : Pointer) → ((b : ℕ) → to ≡ Local b → ⊥) → (b : ℕ) → IsReached held region facts to b → ⊥
unreached held region facts to none _ (top b e) = none b e
unreached held region facts to none _ (below a x j b r l h e) = unreached held region facts to none a r
