-- What stays of the facts of a cache when a block is brought and pinned.
use Rattle.std.proofs.Common.{◌≡◌, ◌≢◌, ◌⊎◌, inl, inr, ⊎_elim, ℕ, ◌+◌, ◌-◌, ◌*◌, ◌<◌, ◌≤◌, ◌||◌, Bool, true, false, not, cond, List, length, set, count_by, Option, Some, None, is_some, Result, Ok, Err, refl, sym, ap, ◌∙◌, subst, arith}
use Rattle.std.specs.Option.{option_map_or}
use Rattle.std.specs.Result.{OnOk, OnErr}
use Rattle.std.proofs.lemmas.Bool.{cases_eq}
use Rattle.std.proofs.lemmas.List.{length-set, get_or-set_same, get_or-set_other}
use Rattle.std.proofs.lemmas.List.Sums.{sum_by-set}
use Rattle.fo_disk.specs.Disk.{Content as Holds}
use Rattle.fo_image.specs.declared.types.Kind.{Kind}
use Rattle.fo_image.specs.Usable.{is_usable}
use Rattle.fo_buffers.specs.declared.block.Buffer.{Buffer}
use Rattle.fo_buffers.specs.Held.{Held, held_at, buffer_of, is_free, is_pinned, pinned_as, put, updated, used}
use Rattle.fo_order.specs.Keeps.{Turns}
use Rattle.fo_order.specs.Turns.{flag_at}
use Rattle.fo_labels.specs.Region.{Region}
use Rattle.fo_slots.specs.Read.{read}
use Rattle.fo_facts.specs.Known.{fact_at, no_fact, owing_as}
use Rattle.fo_facts.specs.Counts.{owes}
use Rattle.fo_bring.specs.Blocks.{IsData, Good}
use Rattle.fo_bring.specs.Holds.{Others, Brought}
use Rattle.fo_bring.proofs.Bringing.{loaded_here}
use Rattle.fo_bring.proofs.Buffering.{put_same, put_other}
use Rattle.fo_facts.specs.declared.fact.Fact.{Fact}
use Rattle.fo_waits.specs.declared.listed.Wait.{Wait}
use Rattle.fo_waits.specs.Listed.{is_active}
use Rattle.fo_mind.specs.Parts.{label_at, IsPinned}
use Rattle.fo_mind.specs.Sound.{Placed, Holding, Waiting, Owing, Roomy}

same_some : (x y : Buffer) → Some x ≡ Some y → x ≡ y
same_some x y e = cc

no_some : {A : Type 0} (x : Buffer) → None ≡ Some x → A
no_some x e = cc

either : (a b : Bool) → a ≡ true → (a || b) ≡ true
either true b e = refl
either false b e = absurd (cc)

module _ {at : ℕ} {old new : Held} (others : (q : ℕ) → q ≢ at → held_at new q ≡ held_at old q) where
  -- where one block is held now that has good bytes, each has
  pub holding_more : {low first count : ℕ} {region : Region} (y : Buffer) → held_at new at ≡ Some y → IsData first count at → Good first count (label_at region at).kind y.block → is_usable low (label_at region at) ≡ false → Holding low first count region old → Holding low first count region new
  holding_more {low} {first} {count} {region} y here block good kept holding = record {
    kept = λ b x is. ⊎_elim
        (λ e. ap (λ n. is_usable low (label_at region n)) e ∙ kept)
        (λ ne. holding.kept b x (sym (others b ne) ∙ is))
        (cases_eq b at);
    block = λ b x is. ⊎_elim
        (λ e. subst (IsData first count) (sym e) block)
        (λ ne. holding.block b x (sym (others b ne) ∙ is))
        (cases_eq b at);
    good = λ b x is. ⊎_elim
        (λ e.
        let same : y ≡ x = same_some y x (sym here ∙ ap (held_at new) (sym e) ∙ is) in
        subst (λ n. Good first count (label_at region n).kind x.block) (sym e) (subst (λ (z : Buffer). Good first count (label_at region at).kind z.block) same good))
        (λ ne. holding.good b x (sym (others b ne) ∙ is))
        (cases_eq b at);
  }

  -- where one block is held no more
  pub holding_less : {low first count : ℕ} {region : Region} → held_at new at ≡ None → Holding low first count region old → Holding low first count region new
  holding_less none holding = record {
    kept = λ b x is. ⊎_elim
        (λ e. no_some x (sym none ∙ ap (held_at new) (sym e) ∙ is))
        (λ ne. holding.kept b x (sym (others b ne) ∙ is))
        (cases_eq b at);
    block = λ b x is. ⊎_elim
        (λ e. no_some x (sym none ∙ ap (held_at new) (sym e) ∙ is))
        (λ ne. holding.block b x (sym (others b ne) ∙ is))
        (cases_eq b at);
    good = λ b x is. ⊎_elim
        (λ e. no_some x (sym none ∙ ap (held_at new) (sym e) ∙ is))
        (λ ne. holding.good b x (sym (others b ne) ∙ is))
        (cases_eq b at);
  }

  -- what is waited for stays, where this block has the bytes that it had
  pub waiting_like : {region : Region} {waits : List Wait} → ((kind : Kind) (n : ℕ) → option_map_or (λ (x : Buffer). is_active ((read kind x.block).slot n)) (held_at old at) false ≡ true → option_map_or (λ (x : Buffer). is_active ((read kind x.block).slot n)) (held_at new at) false ≡ true) → Waiting region old waits → Waiting region new waits
  waiting_like {region} {waits} same waiting = record {
    within = waiting.within;
    used = λ a on k w. ⊎_elim
        (λ e. subst (λ b. option_map_or (λ (x : Buffer). is_active ((read (label_at region b).kind x.block).slot (2 * k))) (held_at new b) false ≡ true) (sym e)
        (same (label_at region at).kind (2 * k) (subst (λ b. option_map_or (λ (x : Buffer). is_active ((read (label_at region b).kind x.block).slot (2 * k))) (held_at old b) false ≡ true) e (waiting.used a on k w))))
        (λ ne. ap (λ (o : Option Buffer). option_map_or (λ (x : Buffer). is_active ((read (label_at region on).kind x.block).slot (2 * k))) o false) (others on ne) ∙ waiting.used a on k w)
        (cases_eq on at);
  }

  -- a block for which a unit of room is kept from now on may be pinned
  pub owing_more : {turns : Turns} (facts : List Fact) (rank : ℕ) → at < length facts → Owing old turns facts → Owing new turns (set facts at (owing_as rank (fact_at facts at)))
  owing_more {turns} facts rank lt owing =
      let f = owing_as rank (fact_at facts at) in
      record {
        each = λ b x is pinned. ⊎_elim
            (λ e. subst (λ n. ((fact_at (set facts at f) n).owes || (flag_at turns n).dirty) ≡ true) (sym e)
            (either (fact_at (set facts at f) at).owes (flag_at turns at).dirty (ap (λ (z : Fact). z.owes) (get_or-set_same facts at f no_fact lt))))
            (λ ne. ap (λ (z : Fact). z.owes || (flag_at turns b).dirty) (get_or-set_other facts at b f no_fact ne) ∙ owing.each b x (sym (others b ne) ∙ is) pinned)
            (cases_eq b at);
      }

-- the same blocks are held
pub waiting_same : {region : Region} {old new : Held} {waits : List Wait} → ((q : ℕ) → held_at new q ≡ held_at old q) → Waiting region old waits → Waiting region new waits
waiting_same {region} same waiting = record {
  within = waiting.within;
  used = λ a on k w. ap (λ (o : Option Buffer). option_map_or (λ (x : Buffer). is_active ((read (label_at region on).kind x.block).slot (2 * k))) o false) (same on) ∙ waiting.used a on k w;
}

pub holding_same : {low first count : ℕ} {region : Region} {old new : Held} → ((q : ℕ) → held_at new q ≡ held_at old q) → Holding low first count region old → Holding low first count region new
holding_same same holding = record {
  kept = λ b x is. holding.kept b x (sym (same b) ∙ is);
  block = λ b x is. holding.block b x (sym (same b) ∙ is);
  good = λ b x is. holding.good b x (sym (same b) ∙ is);
}

pub owing_same : {turns : Turns} {facts : List Fact} {old new : Held} → ((q : ℕ) → held_at new q ≡ held_at old q) → Owing old turns facts → Owing new turns facts
owing_same same owing = record { each = λ b x is pinned. owing.each b x (sym (same b) ∙ is) pinned }

pub roomy_same : {old new : Held} {turns : Turns} {region : Region} {facts : List Fact} {low spare pins more : ℕ} → new.room ≡ old.room → Roomy old turns region facts low spare pins more → Roomy new turns region facts low spare pins more
roomy_same same roomy = record { buffer_room = let r = roomy.buffer_room in omega (arith, r, same); turn_room = roomy.turn_room; usable = roomy.usable }

-- what was not held was not waited for
none_active : (o n : Option Buffer) (f : Buffer → Bool) → o ≡ None → option_map_or f o false ≡ true → option_map_or f n false ≡ true
none_active None n f e h = absurd (cc)
none_active (Some x) n f e h = absurd (cc)

pub owed_more : (facts : List Fact) (at : ℕ) (f : Fact) → at < length facts → count_by owes (set facts at f) ≤ count_by owes facts + 1
owed_more facts at f lt =
    let e = sum_by-set (λ (x : Fact). cond (owes x) 1 0) facts at f no_fact lt in
    let le = most (owes f) in
    omega (arith, e, le)
  where
    most : (b : Bool) → cond {A = ℕ} b 1 0 ≤ 1
    most true = omega arith
    most false = omega arith

-- one pin is taken: a buffer and a turn
pub roomy_less : {old new : Held} {turns : Turns} {region : Region} (facts : List Fact) (at : ℕ) (f : Fact) {low spare pins more : ℕ} → at < length facts → 0 < pins → old.room ≤ new.room + 1 → Roomy old turns region facts low spare pins more → Roomy new turns region (set facts at f) low spare (pins - 1) more
roomy_less facts at f lt some room roomy =
    let r = roomy.buffer_room in
    let t = roomy.turn_room in
    let o = owed_more facts at f lt in
    record { buffer_room = omega (arith, r, some, room); turn_room = omega (arith, t, some, o); usable = roomy.usable }

pub placed_set : {region : Region} {turns : Turns} (facts : List Fact) (at : ℕ) (f : Fact) {first count : ℕ} → Placed region turns facts first count → Placed region turns (set facts at f) first count
placed_set facts at f placed = record {
  is_first = placed.is_first;
  is_count = placed.is_count;
  is_place = placed.is_place;
  begins = placed.begins;
  small = placed.small;
  flag_count = placed.flag_count;
  fact_count = length-set facts at f ∙ placed.fact_count;
}

-- ---- a held block is pinned

pub record Pins (at : ℕ) (old new : Held) : Type 0 where
  pub was : Buffer
  pub held : held_at old at ≡ Some was
  pub here : held_at new at ≡ Some (pinned_as true was)
  pub others : (q : ℕ) → q ≢ at → held_at new q ≡ held_at old q
  pub clean : new.clean ≡ old.clean
  pub room : old.room ≤ new.room + 1

pub pins_of : (at : ℕ) (old new : Held) → is_some (held_at old at) ≡ true
    → (option_map_or is_free (held_at old at) false ≡ true → new ≡ used (updated old at (pinned_as true)))
    → (option_map_or is_free (held_at old at) false ≡ false → new ≡ old) → Pins at old new
pins_of at old new some free same = by (held_at old at) refl some
  where
    by : (o : Option Buffer) → held_at old at ≡ o → is_some o ≡ true → Pins at old new
    by None is t = absurd (cc)
    by (Some x) is t = it x.pinned refl
      where
        it : (p : Bool) → x.pinned ≡ p → Pins at old new
        it true e =
            let e2 : new ≡ old = same (ap (λ (o : Option Buffer). option_map_or is_free o false) is ∙ ap not e) in
            record {
              was = x;
              held = is;
              here = ap (λ (h : Held). held_at h at) e2 ∙ is ∙ ap (λ (p : Bool). Some (pinned_as p x)) e;
              others = λ q ne. ap (λ (h : Held). held_at h q) e2;
              clean = ap (λ (h : Held). h.clean) e2;
              room = let r = ap (λ (h : Held). h.room) e2 in omega (arith, r);
            }
        it false e =
            let put_it : updated old at (pinned_as true) ≡ put old at (pinned_as true x) = ap (λ (o : Option Buffer). option_map_or (λ b. put old at (pinned_as true b)) o old) is in
            let e2 : new ≡ used (put old at (pinned_as true x)) = free (ap (λ (o : Option Buffer). option_map_or is_free o false) is ∙ ap not e) ∙ ap used put_it in
            record {
              was = x;
              held = is;
              here = ap (λ (h : Held). held_at h at) e2 ∙ put_same old at (pinned_as true x);
              others = λ q ne. ap (λ (h : Held). held_at h q) e2 ∙ put_other old at (pinned_as true x) q ne;
              clean = ap (λ (h : Held). h.clean) e2;
              room = let r = ap (λ (h : Held). h.room) e2 in omega (arith, r);
            }

module _ {at : ℕ} {old new : Held} (p : Pins at old new) where
  pub holding_pins : {low first count : ℕ} {region : Region} → Holding low first count region old → Holding low first count region new
  holding_pins h = holding_more p.others (pinned_as true p.was) p.here (h.block at p.was p.held) (h.good at p.was p.held) (h.kept at p.was p.held) h

  pub waiting_pins : {region : Region} {waits : List Wait} → Waiting region old waits → Waiting region new waits
  waiting_pins w = waiting_like p.others (λ kind n t. ap (λ (o : Option Buffer). option_map_or (λ (x : Buffer). is_active ((read kind x.block).slot n)) o false) p.here ∙ (sym (ap (λ (o : Option Buffer). option_map_or (λ (x : Buffer). is_active ((read kind x.block).slot n)) o false) p.held) ∙ t)) w

  pub is_pinned_now : IsPinned new at
  is_pinned_now = ap (λ (o : Option Buffer). option_map_or is_pinned o false) p.here

-- ---- a block is brought

-- It is held now, or it isn't.
abbrev pub MayBring : (first count : ℕ) → Kind → Holds → ℕ → Held → Held → Type 0
MayBring first count kind disk at old new = Brought first count kind disk at old new ⊎ (held_at new at ≡ None)

pub may_bring : {T E : Type 0} {first count : ℕ} {kind : Kind} {disk : Holds} {at : ℕ} {old new : Held} (r : Result T E) → OnOk r (Brought first count kind disk at old new) → OnErr r (held_at new at ≡ None) → MayBring first count kind disk at old new
may_bring (Ok x) a b = inl a
may_bring (Err e) a b = inr b

pub holding_brought : {low first count : ℕ} {kind : Kind} {disk : Holds} {region : Region} {at : ℕ} {old new : Held} → IsData first count at → (label_at region at).kind ≡ kind → is_usable low (label_at region at) ≡ false → Others at old new → MayBring first count kind disk at old new → Holding low first count region old → Holding low first count region new
holding_brought {low} {first} {count} {kind} {disk} {region} {at} {old} {new} block is_kind kept o m h = ⊎_elim
    (λ (b : Brought first count kind disk at old new). holding_more o.held (buffer_of b.loaded.bytes false true) (loaded_here b.loaded) block (subst (λ (k : Kind). Good first count k b.loaded.bytes) (sym is_kind) b.good) kept h)
    (λ none. holding_less o.held none h)
    m

pub waiting_brought : {region : Region} {at : ℕ} {old new : Held} {waits : List Wait} → held_at old at ≡ None → Others at old new → Waiting region old waits → Waiting region new waits
waiting_brought {region} {at} {old} {new} none o w = waiting_like o.held (λ kind n t. none_active (held_at old at) (held_at new at) (λ (x : Buffer). is_active ((read kind x.block).slot n)) none t) w

pub none_held : (o : Option Buffer) → is_some o ≡ false → o ≡ None
none_held None e = refl
none_held (Some x) e = absurd (cc)

-- ---- facts that owe from now on, as a list that is equal to that one

module _ {region : Region} {turns : Turns} (facts new : List Fact) (at rank : ℕ) (lt : at < length facts) (is : new ≡ set facts at (owing_as rank (fact_at facts at))) where
  pub placed_owed : {first count : ℕ} → Placed region turns facts first count → Placed region turns new first count
  placed_owed {first} {count} placed = subst (λ (fs : List Fact). Placed region turns fs first count) (sym is) (placed_set facts at (owing_as rank (fact_at facts at)) placed)

  pub roomy_owed : {h g : Held} {low spare pins more : ℕ} → 0 < pins → h.room ≤ g.room + 1 → Roomy h turns region facts low spare pins more → Roomy g turns region new low spare (pins - 1) more
  roomy_owed {h} {g} {low} {spare} {pins} {more} some room roomy = subst (λ (fs : List Fact). Roomy g turns region fs low spare (pins - 1) more) (sym is) (roomy_less facts at (owing_as rank (fact_at facts at)) lt some room roomy)

pub owing_owed : {turns : Turns} (facts new : List Fact) (at rank : ℕ) → at < length facts → new ≡ set facts at (owing_as rank (fact_at facts at)) → {h g : Held} → ((q : ℕ) → q ≢ at → held_at g q ≡ held_at h q) → Owing h turns facts → Owing g turns new
owing_owed {turns} facts new at rank lt is {h} {g} others owing = subst (λ (fs : List Fact). Owing g turns fs) (sym is) (owing_more others facts rank lt owing)

pub roomy_fewer : {held : Held} {turns : Turns} {region : Region} {facts : List Fact} {low spare pins more less : ℕ} → less ≤ more → Roomy held turns region facts low spare pins more → Roomy held turns region facts low spare pins less
roomy_fewer le roomy = record { buffer_room = roomy.buffer_room; turn_room = let r = roomy.turn_room in omega (arith, r, le); usable = roomy.usable }
