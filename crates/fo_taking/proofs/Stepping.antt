-- A walk over what memory has.
use Rattle.std.proofs.Common.{◌≡◌, ◌≢◌, inl, inr, ℕ, zero, suc, ◌+◌, ◌-◌, ◌<◌, ◌≤◌, ◌==◌, Bool, true, false, if◌then◌else◌, List, [], ◌++◌, length, Option, Some, None, MatchOption, refl, sym, ap, ◌∙◌, subst, arith}
use Rattle.std.proofs.lemmas.List.{append_assoc, append-nil, length-append}
use Rattle.fo_image.specs.declared.types.Kind.{Kind}
use Rattle.fo_image.specs.declared.types.Pointer.{Pointer}
use Rattle.fo_image.specs.declared.types.Pointer.TheVariants.{Nil, Local, Score as Stored}
use Rattle.fo_buffers.specs.declared.block.Buffer.{Buffer}
use Rattle.fo_buffers.specs.Held.{Held, block_in, held_at}
use Rattle.std.specs.Option.{option_map}
use Rattle.fo_labels.specs.Region.{IsDataBlock, Region, label_of}
use Rattle.fo_buffers.specs.of_crash.declared.slot.Slot.{Slot}
use Rattle.fo_buffers.specs.of_crash.Images.{Content, Image, target, kind_below}
use Rattle.fo_buffers.specs.of_ports.Blocks.{ReadsSlots, ends}
use Rattle.fo_buffers.specs.of_slots.Read.{read}
use Rattle.fo_takeout.specs.declared.pair.Below.{Below}
use Rattle.fo_takeout.specs.declared.pair.Pair.{Pair}
use Rattle.fo_takeout.specs.declared.pair.Met.{Met}
use Rattle.fo_takeout.specs.declared.pair.Met.TheVariants.{Nothing, Alone, Whole, Follows}
use Rattle.fo_takeout.specs.declared.pair.Change.{Change}
use Rattle.fo_takeout.specs.declared.pair.Change.TheVariants.{Copied, Gained, Lost, Apart}
use Rattle.fo_takeout.specs.declared.walk.Answer.{Answer}
use Rattle.fo_takeout.specs.declared.walk.Answer.TheVariants.{Queues, Goes, Over}
use Rattle.fo_takeout.specs.Meeting.{AreGiven, IsContent, change, item, item_of, led_at, led_to, meeting}
use Rattle.fo_takeout.specs.Walking.{Walking, Asked, IsQueued, Steps, added, answer, first_pair, given, item_in, later, next_in, passed, removals_of, work}
use Rattle.fo_unlink.specs.declared.removal.Removal.{Removal}
use Rattle.fo_unlink.specs.Pending.{Pending}
use Rattle.fo_taking.specs.Shown.{AreGood, IsHeldAs, IsMissing, Shows}
use Rattle.fo_taking.specs.Taken.{Ends, Lacks, LacksFor, Pushed, StepsIf, TakesOut, Taking, Took, begun, met}

not_over : (w : Walking) (m : Met) → answer w m ≢ Over
not_over w Nothing e = cc
not_over w (Alone x) e = cc
not_over w (Whole x) e = cc
not_over w (Follows p) e = cc

pub one_at_most : (a : Answer) → length (removals_of a) ≤ 1
one_at_most (Queues r) = omega arith
one_at_most Goes = omega arith
one_at_most Over = omega arith

-- the item of a pair is that of what memory has, where the blocks are that the item is of
lost_same : (p : Pair) (c d e : Content) (n : ℕ) → change p ≡ Lost → item p c d n ≡ item p c e n
lost_same p c d e n is = subst (λ (k : Change). item_of k p c d n ≡ item_of k p c e n) (sym is) refl

gained_same : (p : Pair) (c d e : Content) (n : ℕ) → change p ≡ Gained → item p c d n ≡ item p e d n
gained_same p c d e n is = subst (λ (k : Change). item_of k p c d n ≡ item_of k p e d n) (sym is) refl

apart_same : (p : Pair) (c d e f : Content) (n : ℕ) → change p ≡ Apart → item p c d n ≡ item p e f n
apart_same p c d e f n is = subst (λ (k : Change). item_of k p c d n ≡ item_of k p e f n) (sym is) refl

-- memory has the bytes that are held
pub is_read : {now : Image} {region : Region} {held : Held} (x : Below) (bytes : List ℕ) → Shows now region held → IsHeldAs region held x bytes → read x.kind bytes ≡ now x.at
is_read {now} {region} {held} x bytes shows h = ap (λ (k : Kind). read k bytes) (sym h.kind) ∙ ap (read (label_of region x.at).kind) (sym h.bytes_are) ∙ sym (shows.each x.at h.buffer h.held)

none_step : {region : Region} {held : Held} (w new : Walking) → new ≡ w → Lacks region held (first_pair w) → StepsIf region held w new None
none_step w new same lacks = record { steps = λ now shows. (same, lacks); queued = tt; lowers = tt }

pub lacks_step : {region : Region} {held : Held} (w new : Walking) (p : Pair) (c : Change) → new ≡ w → first_pair w ≡ Some p → change p ≡ c → LacksFor region held c p → StepsIf region held w new None
lacks_step {region} {held} w new p c same is how lacks = none_step w new same (subst (Lacks region held) (sym is) (subst (λ (k : Change). LacksFor region held k p) (sym how) lacks))

pub over_step : {region : Region} {held : Held} (w new : Walking) → new ≡ w → first_pair w ≡ None → StepsIf region held w new None
over_step {region} {held} w new same is = none_step w new same (subst (Lacks region held) (sym is) tt)

pub some_step : {region : Region} {held : Held} (w new : Walking) (p : Pair) (a : Answer) (ob nb : List ℕ) → first_pair w ≡ Some p → Steps w (first_pair w) ob nb new a → IsQueued a → (a ≢ Over → work new < work w)
    → ((now : Image) → Shows now region held → item p (read p.old.kind ob) (read p.new.kind nb) w.done ≡ item_in now w p) → StepsIf region held w new (Some a)
some_step {region} {held} w new p a ob nb is steps queued lowers same =
    let m = subst (λ (f : Option Pair). Steps w f ob nb new a) is steps in
    record {
      steps = λ now shows.
          let e = same now shows in
          record {
            gives = ap removals_of (m.answers ∙ ap (answer w) e) ∙ sym (ap (λ (f : Option Pair). (next_in now w f).0) is);
            moves = m.moves ∙ ap (added (passed w p)) e ∙ sym (ap (λ (f : Option Pair). (next_in now w f).1) is);
          };
      queued = queued;
      lowers = lowers (λ over. not_over w (item p (read p.old.kind ob) (read p.new.kind nb) w.done) (sym m.answers ∙ over));
    }

module _ {region : Region} {held : Held} (p : Pair) (w : Walking) (now : Image) (shows : Shows now region held) where
  pub copied_item : (ob nb : List ℕ) → IsHeldAs region held p.old ob → IsHeldAs region held p.new nb
      → item p (read p.old.kind ob) (read p.new.kind nb) w.done ≡ item_in now w p
  copied_item ob nb ho hn = ap (λ (c : Content). item p c (read p.new.kind nb) w.done) (is_read p.old ob shows ho) ∙ ap (λ (c : Content). item p (now p.old.at) c w.done) (is_read p.new nb shows hn)

  pub lost_item : (ob nb : List ℕ) → change p ≡ Lost → IsHeldAs region held p.old ob → item p (read p.old.kind ob) (read p.new.kind nb) w.done ≡ item_in now w p
  lost_item ob nb how ho = ap (λ (c : Content). item p c (read p.new.kind nb) w.done) (is_read p.old ob shows ho) ∙ lost_same p (now p.old.at) (read p.new.kind nb) (now p.new.at) w.done how

  pub gained_item : (ob nb : List ℕ) → change p ≡ Gained → IsHeldAs region held p.new nb → item p (read p.old.kind ob) (read p.new.kind nb) w.done ≡ item_in now w p
  gained_item ob nb how hn = ap (λ (c : Content). item p (read p.old.kind ob) c w.done) (is_read p.new nb shows hn) ∙ gained_same p (read p.old.kind ob) (now p.new.at) (now p.old.at) w.done how

  pub apart_item : (ob nb : List ℕ) → change p ≡ Apart → item p (read p.old.kind ob) (read p.new.kind nb) w.done ≡ item_in now w p
  apart_item ob nb how = apart_same p (read p.old.kind ob) (read p.new.kind nb) (now p.old.at) (now p.new.at) w.done how

-- ---- one step more

pub step_of : {region : Region} {held : Held} {w new : Walking} (r : Option Answer) (a : Answer) → r ≡ Some a → StepsIf region held w new r → (now : Image) → Shows now region held → Took now w new a
step_of {region} {held} {w} {new} r a is s = (subst (StepsIf region held w new) is s).steps

given_more : (now : Image) (n : ℕ) (w : Walking) → given now (suc n) w ≡ given now n w ++ (next_in now (later now n w) (first_pair (later now n w))).0
given_more now zero w = append-nil ((next_in now w (first_pair w)).0)
given_more now (suc n) w =
    let v = (next_in now w (first_pair w)).1 in
    ap (λ (rs : List Removal). (next_in now w (first_pair w)).0 ++ rs) (given_more now n v)
    ∙ sym (append_assoc ((next_in now w (first_pair w)).0) (given now n v) ((next_in now (later now n v) (first_pair (later now n v))).0))

later_more : (now : Image) (n : ℕ) (w : Walking) → later now (suc n) w ≡ (next_in now (later now n w) (first_pair (later now n w))).1
later_more now zero w = refl
later_more now (suc n) w = later_more now n ((next_in now w (first_pair w)).1)

pub taking_none : (now : Image) (w : Walking) (before : List Removal) (budget : ℕ) → Taking now w w before before budget budget
taking_none now w before budget =
    let e : length (given now 0 w) ≡ 0 = refl in
    record { steps = 0; gives = sym (append-nil before); moves = refl; count = omega (arith, e) }

pub taking_more : {now : Image} {w v u : Walking} {before queued more : List Removal} {budget left less : ℕ} (a : Answer) → Took now v u a → more ≡ queued ++ removals_of a → less + length (removals_of a) ≡ left → Taking now w v before queued budget left → Taking now w u before more budget less
taking_more {now} {w} {v} {u} {before} {queued} {more} {budget} {left} {less} a took is count t =
    let n = t.steps in
    let here : removals_of a ≡ (next_in now (later now n w) (first_pair (later now n w))).0 = took.gives ∙ ap (λ (x : Walking). (next_in now x (first_pair x)).0) t.moves in
    let gives : more ≡ before ++ given now (suc n) w =
    is ∙ ap (λ (rs : List Removal). rs ++ removals_of a) t.gives ∙ append_assoc before (given now n w) (removals_of a)
    ∙ ap (λ (rs : List Removal). before ++ (given now n w ++ rs)) here ∙ ap (λ (rs : List Removal). before ++ rs) (sym (given_more now n w)) in
    let long : length (given now (suc n) w) ≡ length (given now n w) + length (removals_of a) = ap length (given_more now n w) ∙ length-append (given now n w) ((next_in now (later now n w) (first_pair (later now n w))).0) ∙ ap (λ (rs : List Removal). length (given now n w) + length rs) (sym here) in
    let c = t.count in
    record {
      steps = suc n;
      gives = gives;
      moves = took.moves ∙ ap (λ (x : Walking). (next_in now x (first_pair x)).1) t.moves ∙ sym (later_more now n w);
      count = omega (arith, long, count, c);
    }

-- ---- the first answer

pub first_count : (w : Walking) (k : Kind) (s v : Slot) → length (removals_of (answer w (meeting (led_to k s) (led_to k v)))) ≤ ends (target s) (target v)
first_count w k s v = by (kind_below k s) (kind_below k v) (target s) (target v)
  where
    either : (b : Bool) (a c : Met) → length (removals_of (answer w a)) ≡ 0 → length (removals_of (answer w c)) ≡ 0 → length (removals_of (answer w (if b then a else c))) ≡ 0
    either true a c e f = e
    either false a c e f = f

    by : (i j : Kind) (p q : Pointer) → length (removals_of (answer w (meeting (led_at i p) (led_at j q)))) ≤ ends p q
    by i j Nil q = omega arith
    by i j (Stored score) q = omega arith
    by i j (Local x) Nil = omega arith
    by i j (Local x) (Stored score) = omega arith
    by i j (Local x) (Local y) = let e = either (x == y) Nothing (Follows (record { old = record { at = x; kind = i }; new = record { at = y; kind = j } })) refl refl in omega (arith, e)

-- ---- what is held

some_held : (bytes : List ℕ) (o : Option Buffer) → Some bytes ≡ option_map block_in o → (y : Buffer) × (o ≡ Some y) × (y.block ≡ bytes)
some_held bytes (Some y) e = let it : y.block ≡ bytes = cc in (y, refl, it)
some_held bytes None e = absurd (clash e)
  where
    clash : Some bytes ≡ None → ⊥
    clash h = cc

pub none_held : (region : Region) (held : Held) (x : Below) → None ≡ option_map block_in (held_at held x.at) → IsMissing region held x
none_held region held x e = λ y is kind. clash y.block (e ∙ ap (option_map block_in) is)
  where
    clash : (b : List ℕ) → None ≡ Some b → ⊥
    clash b h = cc

pub block_of : (region : Region) (held : Held) (x : ℕ) (bytes : List ℕ) → Some bytes ≡ option_map block_in (held_at held x) → AreGood region held → IsDataBlock region x
block_of region held x bytes e good = let y = some_held bytes (held_at held x) e in (good.each x y.0 y.1).block

pub held_kind : {A : Type 0} (region : Region) (held : Held) (seen : A → List ℕ) (x : Below) (bytes : List ℕ) (is : Kind) (o : Option A) → AreGood region held → Some bytes ≡ option_map block_in (held_at held x.at) → is ≡ (label_of region x.at).kind
    → MatchOption o (is ≢ x.kind) (λ b. (seen b ≡ bytes) × (is ≡ x.kind)) → MatchOption o (IsMissing region held x) (λ b. IsHeldAs region held x (seen b))
held_kind region held seen x bytes is None good e k m = λ y held kind. m (k ∙ kind)
held_kind region held seen x bytes is (Some b) good e k m =
    let y = some_held bytes (held_at held x.at) e in
    let g = good.each x.at y.0 y.1 in
    let same : y.0.block ≡ seen b = y.2 ∙ sym m.0 in
    let kind : (label_of region x.at).kind ≡ x.kind = sym k ∙ m.1 in
    record {
      content = record { whole = ap length (sym same) ∙ g.long; slots = subst (λ (z : Kind). ReadsSlots z (read z (seen b)) (seen b)) kind (subst (λ (bs : List ℕ). ReadsSlots (label_of region x.at).kind (read (label_of region x.at).kind bs) bs) same g.slots) };
      buffer = y.0;
      held = y.1;
      bytes_are = same;
      kind = kind;
    }

-- ---- the queue

pub pushed_none : (q : Pending) → Pushed 0 q q
pushed_none q = record { room = omega arith; rest = refl }

pub pushed_self : (q : Pending) (n : ℕ) → Pushed (n - n) q q
pushed_self q n = record { room = omega arith; rest = refl }

pub pushed_more : {q r s : Pending} {m n : ℕ} → Pushed m q r → Pushed n r s → Pushed (m + n) q s
pushed_more {q} {r} {s} {m} {n} f g =
    let x = f.room in
    let y = g.room in
    record {
      room = omega (arith, x, y);
      rest = g.rest ∙ ap (λ (z : Pending). record z { removals = s.removals; room = s.room }) f.rest;
    }

pub pushed_by : {q r : Pending} {m n : ℕ} → m ≡ n → Pushed m q r → Pushed n q r
pushed_by {q} {r} e p = subst (λ k. Pushed k q r) e p

-- ---- what a step asks for

module _ (w : Walking) (p : Pair) (is : first_pair w ≡ Some p) (ob nb : List ℕ) where
  asked : (c : Change) → change p ≡ c → AreGiven c p ob nb → Asked (first_pair w) ob nb
  asked c how are = subst (λ (f : Option Pair). Asked f ob nb) (sym is) (subst (λ (k : Change). AreGiven k p ob nb) (sym how) are)

  pub asked_copied : change p ≡ Copied → IsContent p.old ob → IsContent p.new nb → Asked (first_pair w) ob nb
  asked_copied how o n = asked Copied how (o, n)

  pub asked_lost : change p ≡ Lost → IsContent p.old ob → Asked (first_pair w) ob nb
  asked_lost how o = asked Lost how o

  pub asked_gained : change p ≡ Gained → IsContent p.new nb → Asked (first_pair w) ob nb
  asked_gained how n = asked Gained how n

  pub asked_apart : change p ≡ Apart → Asked (first_pair w) ob nb
  asked_apart how = asked Apart how tt

-- ---- a whole walk

pub ends_spent : {now : Image} {region : Region} {held : Held} {w new : Walking} {before queued : List Removal} {budget left : ℕ} → left ≡ 0 → Taking now w new before queued budget left → Ends now region held w new before queued budget
ends_spent {now} {region} {held} {w} {new} {before} {queued} {budget} {left} none t = record { left = left; taking = t; why = inl none }

-- the walk is as it was, and lacks what it needs
lacks_of : {region : Region} {held : Held} {w new : Walking} (r : Option Answer) → ((a : Answer) → r ≡ Some a → ⊥) → StepsIf region held w new r → (now : Image) → Shows now region held → (new ≡ w) × Lacks region held (first_pair w)
lacks_of None none s now shows = s.steps now shows
lacks_of (Some a) none s now shows = absurd (none a refl)

pub ends_lacks : {now : Image} {region : Region} {held : Held} {w mid new : Walking} {before queued : List Removal} {budget left : ℕ} (r : Option Answer) → ((a : Answer) → r ≡ Some a → ⊥) → StepsIf region held mid new r → Shows now region held → Taking now w mid before queued budget left → Ends now region held w new before queued budget
ends_lacks {now} {region} {held} {w} {mid} {new} {before} {queued} {budget} {left} r none s shows t =
    let l = lacks_of r none s now shows in
    record { left = left; taking = subst (λ (v : Walking). Taking now w v before queued budget left) (sym l.0) t; why = inr (subst (λ (v : Walking). Lacks region held (first_pair v)) (sym l.0) l.1) }

-- a put, from its first answer and its walk
pub takes_put : {now : Image} {region : Region} {held : Held} {w begun_walk last over : Walking} {at epoch : ℕ} {kind : Kind} {old new : Slot} {before first queued : List Removal} {budget left : ℕ} (a : Answer)
    → begun_walk ≡ added (begun w at epoch) (met kind old new) → a ≡ answer (begun w at epoch) (met kind old new) → first ≡ before ++ removals_of a → length (removals_of a) + left ≡ budget
    → over ≡ record last { pairs = []; done = 0 } → Ends now region held begun_walk last first queued left → TakesOut now region held w over at epoch kind old new before queued budget
takes_put {now} {region} {held} {w} {begun_walk} {last} {over} {at} {epoch} {kind} {old} {new} {before} {first} {queued} {budget} {left} a begins is first_is count stops walked = record {
  left = left;
  first = ap (λ (x : Answer). length (removals_of x) + left) (sym is) ∙ count;
  last = last;
  ends = subst (λ (x : Walking). Ends now region held x last (before ++ removals_of (answer (begun w at epoch) (met kind old new))) queued left) begins (subst (λ (rs : List Removal). Ends now region held begun_walk last rs queued left) (first_is ∙ ap (λ (x : Answer). before ++ removals_of x) is) walked);
  stops = stops;
}
