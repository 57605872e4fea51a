-- Bytes are put into a block, and all slots stay.
use Rattle.std.proofs.Common.{◌≡◌, ◌≢◌, ◌⊎◌, ◌+◌, ◌-◌, ◌/◌, ℕ, List, length, inl, inr, ⊎_elim, refl, sym, ap, ◌∙◌, subst, arith}
use Rattle.std.proofs.lemmas.Bool.{cases_eq}
use Rattle.fo_image.specs.declared.types.Label.{Label}
use Rattle.fo_image.specs.declared.types.Pointer.{Pointer}
use Rattle.fo_ports.specs.of_crash.declared.slot.Slot.{Slot}
use Rattle.fo_ports.specs.of_crash.declared.place.Place.{Place}
use Rattle.fo_ports.specs.of_crash.Images.{Content, Image, SameContent, Reaches, target, to_block, with_bytes}
use Rattle.fo_ports.specs.of_crash.Steps.{PutsBytes, AddsBytes}
use Rattle.fo_ports.specs.of_crash.Places.{place}
use Rattle.fo_ports.proofs.of_crash.Reach.{same_walk}
use Rattle.fo_ports.proofs.of_crash.Updates.{bytes_other, bytes_slot}
use Rattle.fo_ports.specs.State.{State, IsRooted, KeepsAll, Calm, AddsNoWait, none}
use Rattle.fo_ports.specs.Sources.{IsHung, Made, Touched, IsMade, StaysMarked, Undone, Changes, IsInstead, ComesFor}
use Rattle.fo_tree_leaf.proofs.of_looks.Looks.{rooted_of_apart}
use Rattle.fo_tree_leaf.specs.of_tree_read.declared.tree.Tree.{Tree}
use Rattle.fo_tree_leaf.specs.of_tree_read.Tree.{kind_at}
use Rattle.fo_tree_leaf.specs.of_tree_look.declared.ways.Kept.{Kept}
use Rattle.fo_tree_leaf.specs.of_tree_look.Source.{IsTold, Over, Prepared, WayReady}
use Rattle.fo_tree_leaf.proofs.of_tree_look.Still.{source_prepared}
use Rattle.fo_tree_leaf.proofs.of_tree_look.Shown.{held_on}
use Rattle.fo_tree_leaf.specs.of_tree_down.Clear.{EndsClear}
use Rattle.fo_tree_clear.proofs.Same.{SameSlots, same_seen, block_same, has_back}

-- Bytes were put into a block, as long as those that were there.
pub record BytesPut (at : ℕ) (bytes : List ℕ) (beside : Image → Type 0) (u v : State) : Type 0 where
  pub puts : PutsBytes at bytes u.now v.now
  pub images : AddsBytes u.now at bytes beside u.may_leave v.may_leave
  pub calm : Calm (λ b. b ≡ at) 0 u v
  pub no_wait : AddsNoWait none u v
  pub all : KeepsAll u v
  pub long : length bytes ≡ length ((u.now at).bytes)

same_content : {a b : Content} → a ≡ b → SameContent a b
same_content e = record { bytes = ap (λ (c : Content). c.bytes) e; slots = λ i. ap (λ (c : Content). c.slot i) e }

content_joins : {a b c : Content} → SameContent a b → SameContent b c → SameContent a c
content_joins p q = record { bytes = p.bytes ∙ q.bytes; slots = λ i. p.slots i ∙ q.slots i }

module _ {at : ℕ} {bytes : List ℕ} {beside : Image → Type 0} {u v : State} (x : BytesPut at bytes beside u v) where
  pub same_slots : SameSlots u v
  same_slots = record { slots = x.puts.slots; held = x.all.same_held }

  pub label_same : (b : ℕ) → v.label b ≡ u.label b
  label_same b = x.calm.frame.stays.labels b (λ h. h)

  pub reaches_on : (s : Slot) (b : ℕ) → Reaches u.now s b → Reaches v.now s b
  reaches_on s b r = record { path = r.path; leads = ap (λ (q : Slot). target q) (same_walk v.now u.now x.puts.slots r.path s) ∙ r.leads }

  rooted_on : (b : ℕ) → IsRooted u b → IsRooted v b
  rooted_on b r = (r.0, ⊎_elim (λ top. inl ((x.all.same_tops r.0).1 top)) (λ h. inr ((x.calm.frame.stays.apart r.0 (λ z. z) (λ z. z)).1 h)) r.1, reaches_on (to_block r.0) b r.2)

  stands_on : u.tells → (b : ℕ) (p : Place) → (u.covered b → ⊥) → IsRooted v b → u.stands b p → v.stands b p
  stands_on told b p free r stands = x.calm.frame.stays.places told b p (λ z. z) (λ z. z) (λ c. free ((x.calm.covered.covered b).0 c)) r stands

  -- what a source may come in the place of stays
  instead_on : u.tells → (from : Pointer) (top : ℕ) → IsInstead u from top → IsInstead v from top
  instead_on told from top i =
      let apart = x.calm.frame.stays.apart top (λ z. z) (λ z. z) in
      record {
        is_apart = apart.1 i.is_apart;
        place = i.place;
        stands = stands_on told top i.place i.uncovered (rooted_of_apart v top (apart.1 i.is_apart)) i.stands;
        uncovered = λ h. i.uncovered ((x.calm.covered.covered top).0 h);
        instead = λ y. let same = x.calm.frame.stays.instead top y (λ z. z) (λ z. z) in (λ h. (i.instead y).0 (same.0 h), λ e. same.1 ((i.instead y).1 e));
        live = λ y e. ap (λ (l : Label). l.state) (label_same y) ∙ i.live y e;
        keeps = λ y e.
            let label : (v.label y).epoch ≡ (u.label y).epoch = ap (λ (l : Label). l.epoch) (label_same y) in
            let high = x.all.same_high in
            ⊎_elim (λ older. inl (omega (arith, label, high, older))) (λ r. inr (reaches_on (to_block top) y r)) (i.keeps y e);
      }

  pub comes_on : u.tells → (top from : Pointer) → ComesFor u top from → ComesFor v top from
  comes_on told top from (inl h) = inl (h.0, λ b e apart. h.1 b e ((x.calm.frame.stays.apart b (λ z. z) (λ z. z)).0 apart))
  comes_on told top from (inr h) = inr (h.0, h.1, instead_on told from h.0 h.2)

  pub only_on : (y z : ℕ) → v.instead y z → u.instead y z
  only_on y z h = (x.calm.frame.stays.instead y z (λ n. n) (λ n. n)).0 h

  hung_on : u.tells → (b : ℕ) → IsHung u b → IsHung v b
  hung_on told b h = ⊎_elim
      (λ r. inl (reaches_on (to_block 1) b r))
      (λ h. inr (record {
        top = h.top;
        is_apart = (x.calm.frame.stays.apart h.top (λ z. z) (λ z. z)).1 h.is_apart;
        place = h.place;
        stands = stands_on told h.top h.place h.uncovered (rooted_on h.top (rooted_of_apart u h.top h.is_apart)) h.stands;
        uncovered = λ c. h.uncovered ((x.calm.covered.covered h.top).0 c);
        reaches = reaches_on (to_block h.top) b h.reaches;
      }))
      h

  long_same : (b : ℕ) → length ((v.now b).bytes) ≡ length ((u.now b).bytes)
  long_same b = ⊎_elim
      (λ e. subst (λ y. length ((v.now y).bytes) ≡ length ((u.now y).bytes)) (sym e) (ap length x.puts.here ∙ x.long))
      (λ ne. ap length (x.puts.others b ne))
      (cases_eq b at)

  told_on : (top : Pointer) → u.tells → (b : ℕ) → IsTold u top b → IsTold v top b
  told_on top told b was =
      let epoch : (v.label b).epoch ≡ (u.label b).epoch = ap (λ (l : Label). l.epoch) (label_same b) in
      let high = x.all.same_high in
      let up = was.up_to in
      record {
        live = ap (λ (l : Label). l.state) (label_same b) ∙ was.live;
        up_to = omega (arith, epoch, high, up);
        uncovered = λ c. was.uncovered ((x.calm.covered.covered b).0 c);
        in_tree = λ older. reaches_on (to_block 1) b (was.in_tree (omega (arith, epoch, high, older)));
        hung = hung_on told b was.hung;
        alone = λ y h. let a = was.alone y ((x.calm.frame.stays.instead y b (λ z. z) (λ z. z)).0 h) in (a.0, epoch ∙ a.1 ∙ sym high);
      }

  pub over_put : (t : Tree) (kept : List Kept) (limit : ℕ) → Over u t kept limit → Over v t kept limit
  over_put t kept limit over = record {
    hangs = record {
      few = over.hangs.few;
      room = over.hangs.room;
      low = over.hangs.low;
      is_one = λ b e. (x.all.same_blocks b).1 (over.hangs.is_one b e);
      told = λ now b e. let was = over.hangs.told (x.all.still_tells.0 now) b e in (stands_on (x.all.still_tells.0 now) b (place (kind_at t.dir t.depth) t.tag 0 (t.rank + t.depth)) was.1 (rooted_on b (over.hangs.rooted (x.all.still_tells.0 now) b e)) was.0, λ h. was.1 ((x.calm.covered.covered b).0 h));
      rooted = λ now b e. rooted_on b (over.hangs.rooted (x.all.still_tells.0 now) b e);
    };
    least = over.least;
    within = over.within;
    low = over.low;
    empty = over.empty;
    holds = over.holds;
    free = λ now b e. ⊎_elim (λ h. inl ((x.calm.frame.stays.apart b (λ z. z) (λ z. z)).1 h)) (λ r. inr (reaches_on (to_block 1) b r)) (over.free (x.all.still_tells.0 now) b e);
    told = λ now b has. told_on t.top (x.all.still_tells.0 now) b (over.told (x.all.still_tells.0 now) b (has_back same_slots t b has));
    unheld = λ now other i score e. over.unheld (x.all.still_tells.0 now) other i score (sym (block_same same_slots t t.depth i) ∙ e);
    held = held_on x.all kept over.held;
  }

  pub prepared_put : (t : Tree) (kept : List Kept) (limit o n : ℕ) → Prepared u t kept limit o n → Prepared v t kept limit o n
  prepared_put t kept limit o n was = source_prepared t kept u v x.all
      (λ b ready. record {
        is_pinned = (x.calm.frame.stays.marks b (λ z. z)).0 ready.is_pinned;
        same_label = label_same b;
        same_slots = inr (x.puts.slots b);
        same_length = long_same b;
      })
      limit o n was

  -- nothing stands behind an end
  pub clear_put : (t : Tree) (kept : List Kept) → EndsClear u t kept → EndsClear v t kept
  clear_put t kept was = record {
    empty = was.empty;
    way = λ some.
        let last : Prepared u t kept t.size (t.size - 1) 1 = record {
          each = λ i from to below. let e : t.size - 1 ≡ i = omega (arith, from, to, some) in subst (λ y. WayReady u t kept t.depth (y / 8192)) e (was.way some);
          last = λ past less. was.way less;
          end = omega (arith, some);
        } in
        (prepared_put t kept t.size (t.size - 1) 1 last).each (t.size - 1) (omega arith) (omega (arith, some)) (omega (arith, some));
    behind = λ some n a b is lt few. block_same (same_seen same_slots kept) t n b ∙ was.behind some n a b is lt few;
  }

-- ---- what a call changed, with the bytes that were put then

module _ {tag at : ℕ} {mine inner outer : ℕ → Type 0} {bytes : List ℕ} {beside : Image → Type 0} {s u v : State}
    (all : KeepsAll s u) (c : Changes tag mine inner s u) (x : BytesPut at bytes beside u v)
    (further : (b : ℕ) → inner b → outer b)
    (hit : Made s u at ⊎ (outer at × mine at × ((s.label at).epoch ≡ s.high) × ((s.label at).tag ≡ tag))) where
  made_on : (b : ℕ) → Made s u b → Made s v b
  made_on b made = (made.0, ap (λ (l : Label). l.state) (label_same x b) ∙ made.1)

  made_back : (b : ℕ) → Made s v b → Made s u b
  made_back b made = (made.0, ap (λ (l : Label). l.state) (sym (label_same x b)) ∙ made.1)

  touched_on : (b : ℕ) → Touched s u tag inner b → Touched s v tag outer b
  touched_on b t = ⊎_elim (λ made. inl (made_on b made)) (λ h. inr (further b h.0, h.1, h.2)) t

  mine_on : (b : ℕ) → Touched s u tag mine b → Touched s v tag mine b
  mine_on b t = ⊎_elim (λ made. inl (made_on b made)) (λ h. inr h) t

  touched_at : Touched s v tag outer at
  touched_at = ⊎_elim (λ made. inl (made_on at made)) (λ h. inr (h.0, h.2, h.3)) hit

  mine_at : Touched s v tag mine at
  mine_at = ⊎_elim (λ made. inl (made_on at made)) (λ h. inr (h.1, h.2, h.3)) hit

  aside : (b : ℕ) → (Touched s v tag outer b → ⊥) → b ≢ at
  aside b not e = not (subst (λ y. Touched s v tag outer y) (sym e) touched_at)

  image_end : (image : Image) → v.may_leave image → Undone (Touched s v tag outer) s v image
  image_end image is = ⊎_elim
      (λ was. let e = c.images image was in record {
        other = e.other;
        was = e.was;
        same = λ b not. e.same b (λ t. not (touched_on b t));
        slots = λ b j not. ⊎_elim (λ same. inl same) (λ new. inr (new ∙ sym (x.puts.slots b j))) (e.slots b j (λ made. not (made_on b made)));
        apart = λ t b top made r. e.apart t b top (made_back b made) r;
      })
      (λ put. let e = c.images (with_bytes image at ((u.now at).bytes)) put.1 in record {
        other = e.other;
        was = e.was;
        same = λ b not. content_joins (same_content (sym (bytes_other image at ((u.now at).bytes) b (aside b not)))) (e.same b (λ t. not (touched_on b t)));
        slots = λ b j not. let first = sym (bytes_slot image at ((u.now at).bytes) b j) in ⊎_elim (λ same. inl (first ∙ same)) (λ new. inr (first ∙ new ∙ sym (x.puts.slots b j))) (e.slots b j (λ made. not (made_on b made)));
        apart = λ t b top made r. e.apart t b top (made_back b made) r;
      })
      (x.images.each image is)

  made_end : (b : ℕ) → Made s v b → IsMade tag s v b
  made_end b made = let is = c.made b (made_back b made) in record {
    free = is.free;
    was = is.was;
    labelled = (ap (λ (l : Label). l.epoch) (label_same x b) ∙ is.labelled.0, ap (λ (l : Label). l.tag) (label_same x b) ∙ is.labelled.1);
    is_one = (x.all.same_blocks b).1 is.is_one;
    is_pinned = (x.calm.frame.stays.marks b (λ z. z)).0 is.is_pinned;
    is_fresh = (x.calm.frame.stays.marks b (λ z. z)).2 is.is_fresh;
  }

  others_end : (b : ℕ) → (Made s v b → ⊥) → StaysMarked s v b
  others_end b not =
      let p = c.others b (λ made. not (made_on b made)) in
      let q = x.calm.frame.stays.marks b (λ z. z) in
      record {
        label = label_same x b ∙ p.label;
        marks = (λ h. q.0 (p.marks.0 h), λ h. q.1 (p.marks.1 h), λ h. q.2 (p.marks.2 h));
      }

  apart_end : (b : ℕ) → (Made s v b → ⊥) → (v.apart b → s.apart b) × (s.apart b → v.apart b ⊎ mine b)
  apart_end b not =
      let p = c.apart b (λ made. not (made_on b made)) in
      let r = x.calm.frame.stays.apart b (λ z. z) (λ z. z) in
      (λ h. p.0 (r.0 h), λ h. ⊎_elim (λ still. inl (r.1 still)) (λ own. inr own) (p.1 h))

  dirty_end : (b : ℕ) → v.dirty b → s.dirty b ⊎ (Touched s v tag mine b ⊎ ((y : ℕ) × Made s v y × (b ≡ v.label_block y)))
  dirty_end b d = ⊎_elim
      (λ mid. ⊎_elim
      (λ old. inl old)
      (λ h. inr (⊎_elim (λ t. inl (mine_on b t)) (λ label. inr (label.0, made_on label.0 label.1, label.2 ∙ sym (x.all.same_label_blocks label.0))) h))
      (c.dirty b mid))
      (λ e. inr (inl (subst (λ y. Touched s v tag mine y) (sym e) mine_at)))
      (x.calm.frame.dirty b d)

  pub changes_put : Changes tag mine outer s v
  changes_put = record {
    memory = λ b not. content_joins (record { bytes = x.puts.others b (aside b not); slots = x.puts.slots b }) (c.memory b (λ t. not (touched_on b t)));
    images = image_end;
    made = made_end;
    others = others_end;
    apart = apart_end;
    places = λ told b p not other free r stands. let mid = all.still_tells.1 told in x.calm.frame.stays.places mid b p (λ z. z) (λ z. z) free r
        (c.places told b p (λ made. not (made_on b made)) other (λ h. free ((x.calm.covered.covered b).1 h)) (x.calm.frame.stays.rooted mid b (λ z. z) r) stands);
    rooted = λ told b not r. c.rooted told b (λ made. not (made_on b made)) (x.calm.frame.stays.rooted (all.still_tells.1 told) b (λ z. z) r);
    instead = λ b y h. ⊎_elim (λ old. inl old) (λ new. inr (made_on b new.0, new.1)) (c.instead b y ((x.calm.frame.stays.instead b y (λ z. z) (λ z. z)).0 h));
    covers = λ b. (λ h. (x.calm.covered.covered b).1 ((c.covers b).0 h), λ no other h. (c.covers b).1 no other ((x.calm.covered.covered b).0 h));
    leaves = λ told b r away. (x.calm.covered.covered b).1 (c.leaves told b r (λ q. away (reaches_on x (to_block 1) b q)));
    in_tree = λ told b other r. reaches_on x (to_block 1) b (c.in_tree told b other r);
    waits = λ a b j not_a not_b w. x.calm.frame.stays.waits a b j (λ z. z) (λ z. z) (λ z. z) (c.waits a b j (λ made. not_a (made_on a made)) (λ made. not_b (made_on b made)) w);
    no_wait = record { each = λ a b j h w. c.no_wait.each a b j h (x.no_wait.each a b j h w) };
    clearing = λ b j h. let old = c.clearing b j (x.calm.order.clearing b j h).1 in (λ made. old.0 (made_back b made), old.1);
    goes_on = λ b j not h. x.calm.order.goes_on b j (λ z. z) (c.goes_on b j (λ made. not (made_on b made)) h);
    dirty = dirty_end;
    moments = x.calm.frame.uses.moments ∙ c.moments;
    left = λ n image h. c.left n image (x.calm.frame.uses.left n image h);
    pins = x.calm.frame.uses.pins ∙ c.pins;
    usable = let first = c.usable in let last = x.calm.frame.uses.usable in let spare = x.calm.frame.uses.spare in omega (arith, first, last, spare);
    numbers = record { next = x.calm.frame.numbers.next ∙ c.numbers.next; grants = λ h. x.calm.frame.numbers.grants (c.numbers.grants h) };
  }

-- ---- fewer blocks, and none

pub changes_wider : {tag : ℕ} {mine inner outer : ℕ → Type 0} {s u : State} → ((b : ℕ) → inner b → outer b) → Changes tag mine inner s u → Changes tag mine outer s u
changes_wider {tag = tag} {inner = inner} {outer = outer} {s = s} {u = u} further c = record {
  memory = λ b not. c.memory b (λ t. not (on b t));
  images = λ image is. let e = c.images image is in record { other = e.other; was = e.was; same = λ b not. e.same b (λ t. not (on b t)); slots = e.slots; apart = e.apart };
  made = c.made;
  others = c.others;
  apart = c.apart;
  places = c.places;
  rooted = c.rooted;
  instead = c.instead;
  covers = c.covers;
  leaves = c.leaves;
  in_tree = c.in_tree;
  waits = c.waits;
  no_wait = c.no_wait;
  clearing = c.clearing;
  goes_on = c.goes_on;
  dirty = c.dirty;
  moments = c.moments;
  left = c.left;
  pins = c.pins;
  usable = c.usable;
  numbers = c.numbers;
}
  where
    on : (b : ℕ) → Touched s u tag inner b → Touched s u tag outer b
    on b t = ⊎_elim (λ made. inl made) (λ h. inr (further b h.0, h.1, h.2)) t

pub changes_none : (tag : ℕ) (mine inner : ℕ → Type 0) (s : State) → Changes tag mine inner s s
changes_none tag mine inner s = record {
  memory = λ b not. record { bytes = refl; slots = λ j. refl };
  images = λ image is. record { other = image; was = is; same = λ b not. record { bytes = refl; slots = λ j. refl }; slots = λ b j not. inl refl; apart = λ t b top made r. made.0 made.1 };
  made = λ b made. absurd (made.0 made.1);
  others = λ b not. record { label = refl; marks = (λ h. h, λ h. h, λ h. h) };
  apart = λ b not. (λ h. h, λ h. inl h);
  places = λ told b p not other free r stands. stands;
  rooted = λ told b not r. r;
  instead = λ b x h. inl h;
  covers = λ b. (λ h. h, λ no other h. no h);
  leaves = λ told b r away. absurd (away r);
  in_tree = λ told b other r. r;
  waits = λ a on j not_a not_on w. w;
  no_wait = record { each = λ a on j h w. w };
  clearing = λ b j h. (λ made. made.0 made.1, h);
  goes_on = λ b j not h. h;
  dirty = λ b d. inl d;
  moments = refl;
  left = λ k image h. h;
  pins = refl;
  usable = refl;
  numbers = record { next = refl; grants = λ h. h };
}
