-- The calls of a plain source, one by one and one after another.
use Rattle.std.proofs.Common.{◌≡◌, ◌≢◌, ◌⊎◌, ◌↔◌, ◌<◌, ℕ, true, List, inl, inr, ⊎_elim, sym, refl, ap, ◌∙◌, subst, arith}
use Rattle.std.proofs.lemmas.Bool.{cases_eq}
use Rattle.fo_image.specs.declared.types.Label.{Label}
use Rattle.fo_image.specs.declared.types.State.{State as BlockState}
use Rattle.fo_image.specs.declared.types.State.TheVariants.{Free, Live, Closed}
use Rattle.fo_image.specs.Usable.{is_usable}
use Rattle.fo_crash.specs.declared.place.Place.{Place}
use Rattle.fo_crash.specs.Images.{Content, Image, SameContent, Reaches, to_block, with_bytes, with_block}
use Rattle.fo_crash.specs.Steps.{PutsBytes, AddsBytes}
use Rattle.fo_crash.specs.Places.{IsPlaced, RanksFall}
use Rattle.fo_crash.proofs.Places.{stands_below}
use Rattle.fo_crash.proofs.Reach.{reach_aside, reach_into, reaches_itself}
use Rattle.fo_crash.proofs.Updates.{block_other, bytes_other, bytes_slot}
use Rattle.fo_ports.specs.State.{State, KeepsAll, Gives, Calm, AddsNoWait, IsRooted, none}
use Rattle.fo_ports.specs.Sources.{HangsApart, IsHung, Made, Touched, IsMade, StaysMarked, Changes}
use Rattle.fo_ports_source.specs.Steps.{Steps, Behind}

same_state : (s : BlockState) → (s ≡ Live) ⊎ (s ≢ Live)
same_state Live = inl refl
same_state Free = inr (λ e. (cc))
same_state Closed = inr (λ e. (cc))

pub cases_made : (old new : State) (at : ℕ) → Made old new at ⊎ (Made old new at → ⊥)
cases_made old new at = ⊎_elim (λ was. inr (λ m. m.0 was)) (λ no. ⊎_elim (λ is. inl (no, is)) (λ not. inr (λ m. not m.1)) (same_state (new.label at).state)) (same_state (old.label at).state)

-- what may be put into hangs
pub hung_rooted : (s : State) (b : ℕ) → s.tops 1 → IsHung s b → IsRooted s b
hung_rooted s b active = ⊎_elim (λ r. (1, inl active, r)) (λ w. (w.top, inr w.is_apart, w.reaches))

pub content_once : (c : Content) → SameContent c c
content_once c = record { bytes = refl; slots = λ i. refl }

pub content_joins : {a b c : Content} → SameContent a b → SameContent b c → SameContent a c
content_joins p q = record { bytes = p.bytes ∙ q.bytes; slots = λ i. p.slots i ∙ q.slots i }

content_at : {a b : Content} → a ≡ b → SameContent a b
content_at e = record { bytes = ap (λ (c : Content). c.bytes) e; slots = λ i. ap (λ (c : Content). c.slot i) e }

-- What a call says that gives out a block.
pub record GivesOut (tag : ℕ) (mine : ℕ → Type 0) (at : ℕ) (content : Content) (l : Label) (old new : State) : Type 0 where
  pub gives : Gives at content l old new
  pub live : l.state ≡ Live
  pub epoch : l.epoch ≡ old.high
  pub tagged : l.tag ≡ tag
  pub instead : (x : ℕ) → new.instead at x → mine x × ((old.label x).epoch < old.high)
  pub all : KeepsAll old new
  pub present : new.tells → new.may_leave new.now
  pub active : old.tops 1
  pub placed : old.tells → IsPlaced old.stands old.now
  pub falls : old.tells → RanksFall old.stands old.now

-- What a call says that puts bytes into a block of the current epoch.
pub record PutsInto (tag at : ℕ) (bytes : List ℕ) (beside : Image → Type 0) (old new : State) : Type 0 where
  pub puts : PutsBytes at bytes old.now new.now
  pub adds : AddsBytes old.now at bytes beside old.may_leave new.may_leave
  pub calm : Calm (λ b. b ≡ at) 0 old new
  pub no_wait : AddsNoWait none old new
  pub current : (old.label at).epoch ≡ old.high
  pub tagged : (old.label at).tag ≡ tag
  pub all : KeepsAll old new

abbrev behind_once : (T : ℕ → Type 0) {old new : State} (image : Image) → old.may_leave image → ((b : ℕ) → Made old new b → ⊥) → Behind T old new image
behind_once T image is none_made = record { other = image; was = is; same = λ b h. content_once (image b); same_slots = λ b j h. refl; apart = λ t b top m. absurd (none_made b m) }

module _ {tag : ℕ} where
  pub steps_wider : {mine more inner outer : ℕ → Type 0} {old new : State} → ((b : ℕ) → mine b → more b) → ((b : ℕ) → inner b → outer b) → Steps tag mine inner old new → Steps tag more outer old new
  steps_wider {mine = mine} {more = more} {inner = inner} {outer = outer} {old = old} {new = new} wider further s =
      let all : (b : ℕ) → Touched old new tag inner b → Touched old new tag outer b = λ b. ⊎_elim (λ m. inl m) (λ h. inr (further b h.0, h.1, h.2)) in
      let own : (b : ℕ) → Touched old new tag mine b → Touched old new tag more b = λ b. ⊎_elim (λ m. inl m) (λ h. inr (wider b h.0, h.1, h.2)) in
      record {
        memory = λ b h. s.memory b (λ t. h (all b t));
        images = λ image is. let i = s.images image is in record { other = i.other; was = i.was; same = λ b h. i.same b (λ t. h (all b t)); same_slots = i.same_slots; apart = i.apart };
        made = s.made;
        others = s.others;
        apart = s.apart;
        places = s.places;
        rooted = s.rooted;
        hung = s.hung;
        instead = λ b x i. ⊎_elim (λ h. inl h) (λ h. inr (h.0, wider x h.1, h.2)) (s.instead b x i);
        covered = s.covered;
        uncovered = s.uncovered;
        reaches = s.reaches;
        waits = s.waits;
        no_wait = s.no_wait;
        clearing = s.clearing;
        goes_on = s.goes_on;
        dirty = λ b d. ⊎_elim (λ h. inl h) (λ h. inr (⊎_elim (λ t. inl (own b t)) (λ x. inr x) h)) (s.dirty b d);
        moments = s.moments;
        left = s.left;
        pins = s.pins;
        room = s.room;
        usable = s.usable;
        numbers = s.numbers;
        all = s.all;
      }

  pub steps_changes : {mine inner : ℕ → Type 0} {old new : State} → Steps tag mine inner old new → Changes tag mine inner old new
  steps_changes {old = old} s = record {
    memory = s.memory;
    images = λ image is. let i = s.images image is in record { other = i.other; was = i.was; same = i.same; slots = λ b j h. inl (i.same_slots b j h); apart = i.apart };
    made = s.made;
    others = s.others;
    apart = λ b h. ((s.apart b h).0, λ was. inl ((s.apart b h).1 was));
    places = λ told b p not_made not_mine. s.places told b p not_made;
    rooted = s.rooted;
    instead = λ b x i. ⊎_elim (λ h. inl h) (λ h. inr (h.0, inl h.1)) (s.instead b x i);
    covers = λ b. ((s.covered b).1, λ no mine is. no ((s.covered b).0 is));
    leaves = λ told b r away. absurd (away (s.reaches told b r));
    in_tree = λ told b not_mine r. s.reaches told b r;
    waits = s.waits;
    no_wait = s.no_wait;
    clearing = s.clearing;
    goes_on = s.goes_on;
    dirty = s.dirty;
    moments = s.moments;
    left = s.left;
    pins = s.pins;
    usable = s.usable;
    numbers = s.numbers;
  }

  pub steps_none : {mine inner : ℕ → Type 0} (a : State) → KeepsAll a a → Steps tag mine inner a a
  steps_none {inner = inner} a all = record {
    memory = λ b h. content_once (a.now b);
    images = λ image is. behind_once (Touched a a tag inner) image is (λ b m. m.0 m.1);
    made = λ b m. absurd (m.0 m.1);
    others = λ b h. record { label = refl; marks = (λ h. h, λ h. h, λ h. h) };
    apart = λ b h. (λ h. h, λ h. h);
    places = λ told b p h u r s. s;
    rooted = λ told b h r. r;
    hung = λ told b r. r;
    instead = λ b x i. inl i;
    covered = λ b. (λ h. h, λ h. h);
    uncovered = λ b m. absurd (m.0 m.1);
    reaches = λ told b r. r;
    waits = λ x on j m n w. w;
    no_wait = record { each = λ x on j h w. w };
    clearing = λ b j h. (λ m. m.0 m.1, h);
    goes_on = λ b j n h. h;
    dirty = λ b d. inl d;
    moments = refl;
    left = λ k image h. h;
    pins = refl;
    room = refl;
    usable = refl;
    numbers = record { next = refl; grants = λ h. h };
    all = all;
  }

  module _ {mine inner more outer : ℕ → Type 0} {a b c : State} (all : KeepsAll a c) (first : Steps tag mine inner a b) (second : Steps tag more outer b c)
      (of : (at : ℕ) → more at → mine at ⊎ Made a b at) (within : (at : ℕ) → outer at → inner at ⊎ Made a b at) where
    pub made_first : (at : ℕ) → Made a b at → Made a c at
    made_first at m = (m.0, ap (λ (l : Label). l.state) (second.others at (λ n. n.0 m.1)).label ∙ m.1)

    pub made_second : (at : ℕ) → Made b c at → Made a c at
    made_second at n = (λ e. n.0 (ap (λ (l : Label). l.state) (first.others at (λ m. m.0 e)).label ∙ e), n.1)

    pub made_either : (at : ℕ) → Made a c at → Made a b at ⊎ Made b c at
    made_either at m = ⊎_elim (λ e. inl (m.0, e)) (λ n. inr (n, m.1)) (same_state (b.label at).state)

    -- what the second call touches, both touch
    touched : (here there : ℕ → Type 0) → ((at : ℕ) → there at → here at ⊎ Made a b at) → (at : ℕ) → Touched b c tag there at → Touched a c tag here at
    touched here there from at = ⊎_elim (λ n. inl (made_second at n))
        (λ h. ⊎_elim
        (λ m. inl (made_first at m))
        (λ no. let same = sym (first.others at no).label in ⊎_elim
        (λ own. inr (own, ap (λ (l : Label). l.epoch) same ∙ h.1 ∙ first.all.same_high, ap (λ (l : Label). l.tag) same ∙ h.2))
        (λ m. inl (made_first at m))
        (from at h.0))
        (cases_made a b at))

    touched_first : (here : ℕ → Type 0) (at : ℕ) → Touched a b tag here at → Touched a c tag here at
    touched_first here at = ⊎_elim (λ m. inl (made_first at m)) (λ h. inr h)

    marked : (at : ℕ) → (Made a c at → ⊥) → StaysMarked a c at
    marked at h =
        let p = first.others at (λ m. h (made_first at m)) in
        let q = second.others at (λ n. h (made_second at n)) in
        record {
          label = q.label ∙ p.label;
          marks = (λ x. q.marks.0 (p.marks.0 x), λ x. q.marks.1 (p.marks.1 x), λ x. q.marks.2 (p.marks.2 x));
        }

    apart_end : (at : ℕ) → (Made a c at → ⊥) → c.apart at ↔ a.apart at
    apart_end at h =
        let p = first.apart at (λ m. h (made_first at m)) in
        let q = second.apart at (λ n. h (made_second at n)) in
        (λ x. p.0 (q.0 x), λ x. q.1 (p.1 x))

    is_made : (at : ℕ) → Made a c at → IsMade tag a c at
    is_made at m = ⊎_elim
        (λ m.
        let was = first.made at m in
        let q = second.others at (λ n. n.0 m.1) in
        record {
          free = was.free;
          was = was.was;
          labelled = (ap (λ (l : Label). l.epoch) q.label ∙ was.labelled.0, ap (λ (l : Label). l.tag) q.label ∙ was.labelled.1);
          is_one = (second.all.same_blocks at).1 was.is_one;
          is_pinned = q.marks.0 was.is_pinned;
          is_fresh = q.marks.2 was.is_fresh;
        })
        (λ n.
        let is = second.made at n in
        record {
          free = subst (λ (l : Label). is_usable a.low l ≡ true) (first.others at (λ m. n.0 m.1)).label (subst (λ low. is_usable low (b.label at) ≡ true) first.all.same_low is.free);
          was = (is.was.0, λ told top. is.was.1 (first.all.still_tells.1 told) ((first.all.same_tops at).1 top));
          labelled = (is.labelled.0 ∙ first.all.same_high, is.labelled.1);
          is_one = is.is_one;
          is_pinned = is.is_pinned;
          is_fresh = is.is_fresh;
        })
        (made_either at m)

    pub steps_joins : Steps tag mine inner a c
    steps_joins = record {
      memory = λ at h. content_joins (second.memory at (λ t. h (touched inner outer within at t))) (first.memory at (λ t. h (touched_first inner at t)));
      images = λ image is.
          let last = second.images image is in
          let before = first.images last.other last.was in
          record {
            other = before.other;
            was = before.was;
            same = λ at h. content_joins (last.same at (λ u. h (touched inner outer within at u))) (before.same at (λ u. h (touched_first inner at u)));
            same_slots = λ at j h. last.same_slots at j (λ n. h (made_second at n)) ∙ before.same_slots at j (λ m. h (made_first at m));
            apart = λ t at top m r. ⊎_elim
                (λ m. before.apart t at top m r)
                (λ n. last.apart t at ((first.all.same_tops t).1 top) n (reach_aside before.other last.other (Made a b) t (λ x j h. sym (before.same_slots x j h)) (λ x m. before.apart t x top m) at r))
                (made_either at m);
          };
      made = is_made;
      others = marked;
      apart = apart_end;
      places = λ told at p h spared r s.
          let mid = first.all.still_tells.1 told in
          second.places mid at p (λ n. h (made_second at n)) spared r (first.places told at p (λ m. h (made_first at m)) (λ u. spared ((second.covered at).1 u)) (second.rooted mid at (λ n. h (made_second at n)) r) s);
      rooted = λ told at h r. first.rooted told at (λ m. h (made_first at m)) (second.rooted (first.all.still_tells.1 told) at (λ n. h (made_second at n)) r);
      hung = λ told at r. second.hung (first.all.still_tells.1 told) at (first.hung told at r);
      instead = λ at x i. ⊎_elim
          (λ mid. ⊎_elim (λ was. inl was) (λ h. inr (made_first at h.0, h.1, h.2)) (first.instead at x mid))
          (λ h. let own = by_older x h.1 h.2 in inr (made_second at h.0, own.0, own.1))
          (second.instead at x i);
      uncovered = λ at m. ⊎_elim (λ m. first.uncovered at m) (λ n h. second.uncovered at n ((first.covered at).1 h)) (made_either at m);
      covered = λ at. (λ h. (first.covered at).0 ((second.covered at).0 h), λ h. (second.covered at).1 ((first.covered at).1 h));
      reaches = λ told at r. second.reaches (first.all.still_tells.1 told) at (first.reaches told at r);
      waits = λ x on j m n w. second.waits x on j (λ h. m (made_second x h)) (λ h. n (made_second on h)) (first.waits x on j (λ h. m (made_first x h)) (λ h. n (made_first on h)) w);
      no_wait = record { each = λ x on j h w. first.no_wait.each x on j h (second.no_wait.each x on j h w) };
      clearing = λ at j h. let mid = second.clearing at j h in let old = first.clearing at j mid.1 in (λ m. ⊎_elim old.0 mid.0 (made_either at m), old.1);
      goes_on = λ at j h was. second.goes_on at j (λ n. h (made_second at n)) (first.goes_on at j (λ m. h (made_first at m)) was);
      dirty = λ at d. ⊎_elim
          (λ mid. ⊎_elim
          (λ was. inl was)
          (λ h. inr (⊎_elim (λ t. inl (touched_first mine at t)) (λ x. inr (x.0, made_first x.0 x.1, x.2 ∙ sym (second.all.same_label_blocks x.0))) h))
          (first.dirty at mid))
          (λ h. inr (⊎_elim (λ t. inl (touched mine more of at t)) (λ x. inr (x.0, made_second x.0 x.1, x.2)) h))
          (second.dirty at d);
      moments = second.moments ∙ first.moments;
      left = λ k image h. first.left k image (second.left k image h);
      pins = second.pins ∙ first.pins;
      room = second.room ∙ first.room;
      usable = let p = first.usable in let q = second.usable in omega (arith, p, q);
      numbers = record { next = second.numbers.next ∙ first.numbers.next; grants = λ h. second.numbers.grants (first.numbers.grants h) };
      all = all;
    }
      where
        by_older : (x : ℕ) → more x → (b.label x).epoch < b.high → mine x × ((a.label x).epoch < a.high)
        by_older x is older = ⊎_elim
            (λ m. let now : (b.label x).epoch ≡ a.high = (first.made x m).labelled.0 in let high = first.all.same_high in absurd (omega (arith, older, now, high)))
            (λ no. (⊎_elim (λ own. own) (λ m. absurd (no m)) (of x is), subst (λ n. (a.label x).epoch < n) first.all.same_high (subst (λ (l : Label). l.epoch < b.high) (first.others x no).label older)))
            (cases_made a b x)

  module _ {mine : ℕ → Type 0} {old new : State} {at : ℕ} {content : Content} {l : Label} (g : GivesOut tag mine at content l old new) where
    at_made : Made old new at
    at_made = (g.gives.was.0, ap (λ (l : Label). l.state) g.gives.label ∙ g.live)

    pub made_is : (b : ℕ) → Made old new b → b ≡ at
    made_is b m = ⊎_elim (λ e. e) (λ ne. absurd (m.0 (ap (λ (l : Label). l.state) (sym (g.gives.stays.labels b ne)) ∙ m.1))) (cases_eq b at)

    not_at : (b : ℕ) → (Made old new b → ⊥) → b ≢ at
    not_at b h e = h (subst (λ x. Made old new x) (sym e) at_made)

    at_is : IsMade tag old new at
    at_is = record {
      free = g.gives.free;
      was = (g.gives.was.1, λ told. (g.gives.was.3 told).0);
      labelled = (ap (λ (l : Label). l.epoch) g.gives.label ∙ g.epoch, ap (λ (l : Label). l.tag) g.gives.label ∙ g.tagged);
      is_one = g.gives.is.0;
      is_pinned = g.gives.is.1;
      is_fresh = g.gives.is.2;
    }

    at_covered : new.covered at ↔ old.covered at
    at_covered = (λ h. absurd (g.gives.is.4 h), λ h. absurd (g.gives.was.2 h))

    same_slot : (x y : Image) → ((b : ℕ) → b ≢ at → SameContent (x b) (y b)) → (b j : ℕ) → (b ≡ at → ⊥) → (x b).slot j ≡ (y b).slot j
    same_slot x y same b j ne = (same b ne).slots j

    still_reached : old.tells → (b : ℕ) → Reaches old.now (to_block 1) b → Reaches new.now (to_block 1) b
    still_reached told b r = reach_into new.now old.now (λ x. x ≡ at) 1 (same_slot new.now old.now g.gives.memory.others)
        (λ x e far. g.gives.images.apart new.now (g.present (g.all.still_tells.1 told)) 1 g.active (subst (λ y. Reaches new.now (to_block 1) y) e far)) b r

    -- what was given out stood nowhere, so no block that stands led to it
    still_apart : old.tells → (b : ℕ) → HangsApart old b → HangsApart new b
    still_apart told b w = record {
      top = w.top;
      is_apart = is_apart;
      place = w.place;
      stands = g.gives.stays.places told w.top w.place ne (λ n. n) clear (w.top, inr is_apart, reaches_itself new.now w.top) w.stands;
      uncovered = clear;
      reaches = reach_aside old.now new.now (λ x. x ≡ at) w.top (λ x j off. sym (same_slot new.now old.now g.gives.memory.others x j off)) never b w.reaches;
    }
      where
        stood : (p : Place) → old.stands at p → ⊥
        stood = (g.gives.was.3 told).1

        ne : w.top ≢ at
        ne e = stood w.place (subst (λ x. old.stands x w.place) e w.stands)

        is_apart : new.apart w.top
        is_apart = (g.gives.stays.apart w.top ne (λ n. n)).1 w.is_apart

        clear : new.covered w.top → ⊥
        clear h = w.uncovered ((g.gives.covered w.top ne).0 h)

        never : (x : ℕ) → x ≡ at → Reaches old.now (to_block w.top) x → ⊥
        never x e far =
            let below = stands_below w.place (g.placed told) (g.falls told) w.stands far in
            stood below.0 (subst (λ y. old.stands y below.0) e below.1)

    pub given_out : Steps tag mine (λ b. ⊥) old new
    given_out = record {
      memory = λ b h. g.gives.memory.others b (not_at b (λ m. h (inl m)));
      images = λ image is. let before = g.gives.images.before image is in record {
        other = with_block image at before.0;
        was = before.1;
        same = λ b h. content_at (sym (block_other image at before.0 b (not_at b (λ m. h (inl m)))));
        same_slots = λ b j h. ap (λ (c : Content). c.slot j) (sym (block_other image at before.0 b (not_at b h)));
        apart = λ t b top m r. g.gives.images.apart image is t top (subst (λ x. Reaches image (to_block t) x) (made_is b m) (reach_into image (with_block image at before.0) (λ x. x ≡ at) t
            (λ x j ne. ap (λ (c : Content). c.slot j) (sym (block_other image at before.0 x ne)))
            (λ x e far. g.gives.images.apart image is t top (subst (λ y. Reaches image (to_block t) y) e far)) b r));
      };
      made = λ b m. subst (λ x. IsMade tag old new x) (sym (made_is b m)) at_is;
      others = λ b h. let ne = not_at b h in record { label = g.gives.stays.labels b ne; marks = g.gives.stays.marks b ne };
      apart = λ b h. g.gives.stays.apart b (not_at b h) (λ n. n);
      places = λ told b p h spared r s. g.gives.stays.places told b p (not_at b h) (λ n. n) spared r s;
      rooted = λ told b h r. g.gives.stays.rooted told b (not_at b h) r;
      hung = λ told b. ⊎_elim (λ r. inl (still_reached told b r)) (λ w. inr (still_apart told b w));
      instead = λ b x i. ⊎_elim
          (λ e. let own = g.instead x (subst (λ y. new.instead y x) e i) in inr (subst (λ y. Made old new y) (sym e) at_made, own.0, own.1))
          (λ ne. inl ((g.gives.stays.instead b x ne (λ n. n)).0 i))
          (cases_eq b at);
      uncovered = λ b m h. g.gives.was.2 (subst (λ x. old.covered x) (made_is b m) h);
      covered = λ b. ⊎_elim (λ e. subst (λ x. new.covered x ↔ old.covered x) (sym e) at_covered) (λ ne. g.gives.covered b ne) (cases_eq b at);
      reaches = still_reached;
      waits = λ x on j m n w. g.gives.stays.waits x on j (not_at x m) (not_at on n) (λ z. z) w;
      no_wait = g.gives.no_wait;
      clearing = λ b j h. let was = g.gives.order.clearing b j h in (λ m. was.0 (made_is b m), was.1);
      goes_on = λ b j h was. g.gives.order.goes_on b j (not_at b h) was;
      dirty = λ b d. ⊎_elim
          (λ h. inl h)
          (λ h. inr (⊎_elim (λ e. inl (inl (subst (λ x. Made old new x) (sym e) at_made))) (λ e. inr (at, at_made, e)) h))
          (g.gives.dirty b d);
      moments = g.gives.uses.moments;
      left = g.gives.uses.left;
      pins = g.gives.uses.pins;
      room = let is = g.gives.uses.room in omega (arith, is);
      usable = let less = g.gives.uses.spare in let fewer = g.gives.uses.usable in omega (arith, less, fewer);
      numbers = g.gives.numbers;
      all = g.all;
    }

  module _ {old new : State} {at : ℕ} {bytes : List ℕ} {beside : Image → Type 0} (g : PutsInto tag at bytes beside old new) where
    none_made : (b : ℕ) → Made old new b → ⊥
    none_made b m = m.0 (ap (λ (l : Label). l.state) (sym (g.calm.frame.stays.labels b (λ n. n))) ∙ m.1)

    aside : (b : ℕ) → (Touched old new tag (λ x. x ≡ at) b → ⊥) → b ≢ at
    aside b h e = h (inr (e, ap (λ x. (old.label x).epoch) e ∙ g.current, ap (λ x. (old.label x).tag) e ∙ g.tagged))

    still_led : (t b : ℕ) → Reaches old.now (to_block t) b → Reaches new.now (to_block t) b
    still_led t = reach_into new.now old.now (λ x. ⊥) t (λ x j h. g.puts.slots x j) (λ x h. absurd h)

    still_hung : old.tells → (b : ℕ) → HangsApart old b → HangsApart new b
    still_hung told b w = record {
      top = w.top;
      is_apart = is_apart;
      place = w.place;
      stands = g.calm.frame.stays.places told w.top w.place (λ n. n) (λ n. n) clear (w.top, inr is_apart, reaches_itself new.now w.top) w.stands;
      uncovered = clear;
      reaches = still_led w.top b w.reaches;
    }
      where
        is_apart : new.apart w.top
        is_apart = (g.calm.frame.stays.apart w.top (λ n. n) (λ n. n)).1 w.is_apart

        clear : new.covered w.top → ⊥
        clear h = w.uncovered ((g.calm.covered.covered w.top).0 h)

    pub bytes_put : Steps tag (λ b. b ≡ at) (λ b. b ≡ at) old new
    bytes_put = record {
      memory = λ b h. record { bytes = g.puts.others b (aside b h); slots = g.puts.slots b };
      images = λ image is. ⊎_elim
          (λ was. behind_once (Touched old new tag (λ b. b ≡ at)) image was none_made)
          (λ put. record {
            other = with_bytes image at ((old.now at).bytes);
            was = put.1;
            same = λ b h. content_at (sym (bytes_other image at ((old.now at).bytes) b (aside b h)));
            same_slots = λ b j h. sym (bytes_slot image at ((old.now at).bytes) b j);
            apart = λ t b top m. absurd (none_made b m);
          })
          (g.adds.each image is);
      made = λ b m. absurd (none_made b m);
      others = λ b h. let s = g.calm.frame.stays in record { label = s.labels b (λ n. n); marks = s.marks b (λ n. n) };
      apart = λ b h. g.calm.frame.stays.apart b (λ n. n) (λ n. n);
      places = λ told b p h spared r s. g.calm.frame.stays.places told b p (λ n. n) (λ n. n) spared r s;
      rooted = λ told b h r. g.calm.frame.stays.rooted told b (λ n. n) r;
      hung = λ told b. ⊎_elim (λ r. inl (still_led 1 b r)) (λ w. inr (still_hung told b w));
      instead = λ b x i. inl ((g.calm.frame.stays.instead b x (λ n. n) (λ n. n)).0 i);
      covered = g.calm.covered.covered;
      uncovered = λ b m. absurd (none_made b m);
      reaches = λ told b r. still_led 1 b r;
      waits = λ x on j m n w. g.calm.frame.stays.waits x on j (λ z. z) (λ z. z) (λ z. z) w;
      no_wait = g.no_wait;
      clearing = λ b j h. (none_made b, (g.calm.order.clearing b j h).1);
      goes_on = λ b j n was. g.calm.order.goes_on b j (λ z. z) was;
      dirty = λ b d. ⊎_elim (λ h. inl h) (λ e. inr (inl (inr (e, ap (λ x. (old.label x).epoch) e ∙ g.current, ap (λ x. (old.label x).tag) e ∙ g.tagged)))) (g.calm.frame.dirty b d);
      moments = g.calm.frame.uses.moments;
      left = g.calm.frame.uses.left;
      pins = g.calm.frame.uses.pins;
      room = let is = g.calm.frame.uses.room in omega (arith, is);
      usable = let less = g.calm.frame.uses.spare in let fewer = g.calm.frame.uses.usable in omega (arith, less, fewer);
      numbers = g.calm.frame.numbers;
      all = g.all;
    }
