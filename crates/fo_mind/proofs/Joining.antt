-- What holds of the fields of a cache stays when a slot hangs, and when blocks are linked.
use Rattle.std.proofs.Common.{◌≡◌, inl, inr, ⊎_elim, ℕ, ◌+◌, ◌-◌, ◌<◌, ◌≤◌, ◌&&◌, ◌||◌, Bool, true, false, not, List, [], ◌∷◌, length, count_by, Option, Some, None, refl, sym, ap, ◌∙◌, subst, arith}
use Rattle.std.specs.Option.{option_map_or}
use Rattle.fo_buffers.specs.declared.block.Buffer.{Buffer}
use Rattle.fo_buffers.specs.Held.{Held, held_at, is_dirty}
use Rattle.fo_order.specs.declared.marks.Flags.{Flags}
use Rattle.fo_order.specs.Keeps.{Turns}
use Rattle.fo_order.specs.Turns.{flag_at}
use Rattle.fo_labels.specs.Region.{Region}
use Rattle.fo_image.specs.declared.types.Label.{Label}
use Rattle.fo_ports.specs.Blocks.{ReadsSlots}
use Rattle.fo_slots.specs.Read.{read}
use Rattle.fo_unlink.specs.Pending.{Pending}
use Rattle.fo_facts.specs.declared.fact.Fact.{Fact}
use Rattle.fo_facts.specs.Counts.{is_made}
use Rattle.fo_facts.specs.Known.{fact_at, linked_as}
use Rattle.fo_rooms.specs.of_linking.Joined.{AreGood, IsLinked, IsReady, Joins, is_changed}
use Rattle.fo_raising.specs.Raised.{KeepsCounts}
use Rattle.fo_rooms.specs.of_takeout.declared.pair.Pair.{Pair}
use Rattle.fo_taking.specs.Shown as shown
use Rattle.fo_taking.specs.Taken.{Pushed}
use Rattle.fo_mind.specs.Laws.{held_content}
use Rattle.fo_mind.specs.Parts.{Parts, IsDirty, memory}
use Rattle.fo_mind.specs.Sound.{Holding, Making, Owing, Placed, Roomy}
use Rattle.fo_mind.specs.Turning.{Turning, TurnsAt}
use Rattle.fo_mind.proofs.Giving.{data_label}
use Rattle.fo_mind.proofs.Making.{unlike}

-- ---- what is held

pub held_good : {region : Region} {held : Held} {facts : List Fact} {t : Turns} {low first count : ℕ} → Placed region t facts first count → Holding low first count region held → AreGood region held
held_good {region = region} placed holding = record {
  each = λ b x is.
      let block = holding.block b x is in
      let good = holding.good b x is in
      let lo = block.0 in
      let hi = block.1 in
      let f = placed.is_first in
      let n = placed.is_count in
      let from : region.first ≤ b = omega (arith, lo, f) in
      record {
        block = record { from = from; to = omega (arith, hi, n) };
        long = good.long;
        slots = subst (λ (l : Label). ReadsSlots l.kind (read l.kind x.block) x.block) (data_label region b from) good.slots;
      };
}

pub held_taken : {region : Region} {held : Held} {facts : List Fact} {t : Turns} {low first count : ℕ} → Placed region t facts first count → Holding low first count region held → shown.AreGood region held
held_taken placed holding = record {
  each = λ b x is. let g = (held_good placed holding).each b x is in record { block = g.block; long = g.long; slots = g.slots };
}

pub shows_memory : (p : Parts) (first count : ℕ) → Placed p.region p.turns p.facts first count → Holding p.one.low first count p.region p.held → shown.Shows (memory p) p.region p.held
shows_memory p first count placed holding = record {
  each = λ b x is.
      let lo = (holding.block b x is).0 in
      let f = placed.is_first in
      let from : p.region.first ≤ b = omega (arith, lo, f) in
      held_content p first count b x placed holding is ∙ ap (λ (l : Label). read l.kind x.block) (data_label p.region b from);
}

pub ready : {held : Held} {region : Region} {facts : List Fact} {t : Turns} {first count low spare pins more links removals : ℕ} → Placed region t facts first count → Roomy held t region facts low spare pins more → Making facts spare more links removals → IsReady facts t links
ready placed roomy making =
    let r = roomy.turn_room in
    let l = making.places in
    record { same = placed.flag_count ∙ sym placed.fact_count; owing = making.owing; turns_left = omega (arith, r); places = omega (arith, l) }

pub no_pairs : (pairs : List Pair) → length pairs ≡ 0 → pairs ≡ []
no_pairs [] e = refl
no_pairs (x ∷ xs) e = absurd (omega (arith, e))

-- ---- a slot hangs

module _ {old new : List Fact} (k : KeepsCounts old new) where
  pub placed_hung : {region : Region} {t : Turns} {first count : ℕ} → Placed region t old first count → Placed region t new first count
  placed_hung placed = record {
    is_first = placed.is_first;
    is_count = placed.is_count;
    is_place = placed.is_place;
    begins = placed.begins;
    small = placed.small;
    flag_count = placed.flag_count;
    fact_count = k.as_long ∙ placed.fact_count;
  }

  pub owing_hung : {held : Held} {t : Turns} → Owing held t old → Owing held t new
  owing_hung {held} {t} owing = record { each = λ b x is pinned. ap (λ (o : Bool). o || (flag_at t b).dirty) (k.each b).0 ∙ owing.each b x is pinned }

  pub roomy_hung : {held : Held} {t : Turns} {region : Region} {low spare pins more : ℕ} → Roomy held t region old low spare pins more → Roomy held t region new low spare pins more
  roomy_hung roomy = let o = k.owed in let r = roomy.turn_room in record { buffer_room = roomy.buffer_room; turn_room = omega (arith, o, r); usable = roomy.usable }

  pub making_hung : {spare more links removals : ℕ} → Making old spare more links removals → Making new spare more links removals
  making_hung making =
      let m = k.made in
      let r = making.left in
      let l = making.places in
      record { owing = λ b e. (k.each b).0 ∙ making.owing b (sym (k.each b).1 ∙ e); places = omega (arith, m, l); left = omega (arith, m, r) }

  pub turning_hung : {first : ℕ} {held : Held} {t : Turns} → Turning first held t old → Turning first held t new
  turning_hung {first} {held} {t} turning = record { each = λ b. subst (λ (l : Bool). TurnsAt first b (held_at held b) (flag_at t b) l) (sym (k.each b).1) (turning.each b) }

-- ---- blocks are linked

module _ {held : Held} {old new : List Fact} {t u : Turns} (l : Joins held old new t u) where
  pub placed_joins : {region : Region} {first count : ℕ} → Placed region t old first count → Placed region u new first count
  placed_joins placed = record {
    is_first = placed.is_first;
    is_count = placed.is_count;
    is_place = placed.is_place;
    begins = placed.begins;
    small = placed.small;
    flag_count = l.flag_count ∙ placed.flag_count;
    fact_count = l.as_long ∙ placed.fact_count;
  }

  pub owing_joins : {spare more links removals : ℕ} → Making old spare more links removals → Owing held t old → Owing held u new
  owing_joins making owing = record {
    each = λ b x is pinned. ⊎_elim
        (λ same. calm b same (owing.each b x is pinned))
        (λ h. moved b (is_changed held b) refl h.0 h.2)
        (l.facts b);
  }
    where
      or_right : (a b : Bool) → b ≡ true → (a || b) ≡ true
      or_right true b e = refl
      or_right false b e = e

      or_left : (a b : Bool) → a ≡ true → (a || b) ≡ true
      or_left true b e = refl
      or_left false b e = absurd (cc)

      calm : (b : ℕ) → fact_at new b ≡ fact_at old b → ((fact_at old b).owes || (flag_at t b).dirty) ≡ true → ((fact_at new b).owes || (flag_at u b).dirty) ≡ true
      calm b same was = ⊎_elim
          (λ flag. ap (λ (f : Fact). f.owes || (flag_at u b).dirty) same ∙ ap (λ (f : Flags). (fact_at old b).owes || f.dirty) flag ∙ was)
          (λ h. unlike (sym h.0.1 ∙ ap (λ (f : Fact). f.linked) same ∙ h.0.0))
          (l.flags b)

      moved : (b : ℕ) (d : Bool) → is_changed held b ≡ d → IsLinked old new b → fact_at new b ≡ linked_as (is_changed held b) (fact_at old b) → ((fact_at new b).owes || (flag_at u b).dirty) ≡ true
      moved b true e linked is = or_right (fact_at new b).owes (flag_at u b).dirty (l.turn b linked e).0
      moved b false e linked is = or_left (fact_at new b).owes (flag_at u b).dirty
          (ap (λ (f : Fact). f.owes) is ∙ ap (λ (d : Bool). (fact_at old b).owes && not d) e ∙ ap (λ (o : Bool). o && true) (making.owing b linked.0))

  pub roomy_joins : {region : Region} {low spare pins more less : ℕ} → less ≤ more → Roomy held t region old low spare pins more → Roomy held u region new low spare pins less
  roomy_joins le roomy = let o = l.owed in let r = roomy.turn_room in record { buffer_room = roomy.buffer_room; turn_room = omega (arith, o, r, le); usable = roomy.usable }

  -- with what the put costs, and as many removals as blocks were linked
  pub making_joins : {spare more less links budget n : ℕ} {queue after : Pending} (price : ℕ) → less + price ≡ more → budget ≡ price + (count_by is_made old - count_by is_made new) → n ≤ budget → Pushed n queue after → Making old spare more links queue.room → Making new spare less links after.room
  making_joins price paid is le pushed making =
      let m = l.made in
      let r = making.left in
      let k = making.places in
      let q = pushed.room in
      record {
        owing = λ b e. ⊎_elim
            (λ same. ap (λ (f : Fact). f.owes) same ∙ making.owing b (ap (λ (f : Fact). f.linked) (sym same) ∙ e))
            (λ h. unlike (sym h.0.1 ∙ e))
            (l.facts b);
        places = omega (arith, m, k);
        left = omega (arith, m, r, is, paid, le, q);
      }

  pub turning_joins : {region : Region} {low first count : ℕ} → 1 < first → Holding low first count region held → Turning first held t old → Turning first held u new
  turning_joins {region} {low} {first} {count} begins holding turning = record {
    each = λ b. ⊎_elim (λ same. calm b same (turning.each b)) (λ h. moved b h.0 h.1) (l.flags b);
  }
    where
      calm : (b : ℕ) → flag_at u b ≡ flag_at t b → TurnsAt first b (held_at held b) (flag_at t b) (fact_at old b).linked → TurnsAt first b (held_at held b) (flag_at u b) (fact_at new b).linked
      calm b same was = record {
        begins = λ d. was.begins (sym (ap (λ (f : Flags). f.dirty) same) ∙ d);
        held = λ d le. was.held (sym (ap (λ (f : Flags). f.dirty) same) ∙ d) le;
        turn = λ c linked. ⊎_elim
            (λ fact. ap (λ (f : Flags). f.dirty) same ∙ was.turn c (sym (ap (λ (f : Fact). f.linked) fact) ∙ linked))
            (λ h. (l.turn b h.0 c).0)
            (l.facts b);
        unheld = λ le none. ap (λ (f : Flags). f.tried) same ∙ was.unheld le none;
      }

      some : (o : Option Buffer) → option_map_or is_dirty o false ≡ true → (x : Buffer) × (o ≡ Some x)
      some (Some x) e = (x, refl)
      some None e = unlike (sym e)

      moved : (b : ℕ) → IsLinked old new b → is_changed held b ≡ true → TurnsAt first b (held_at held b) (flag_at u b) (fact_at new b).linked
      moved b linked changed =
          let x = some (held_at held b) changed in
          let lo = (holding.block b x.0 x.1).0 in
          record {
            begins = λ d. omega (arith, lo, begins);
            held = λ d le. changed;
            turn = λ c is. (l.turn b linked changed).0;
            unheld = λ le none. unlike (sym changed ∙ ap (λ (o : Option Buffer). option_map_or is_dirty o false) none);
          }

  -- what no linking changes
  pub field_joins : {X : Type 0} (g : Fact → X) → ((d : Bool) (f : Fact) → g (linked_as d f) ≡ g f) → (b : ℕ) → g (fact_at new b) ≡ g (fact_at old b)
  field_joins g same b = ⊎_elim
      (λ e. ap g e)
      (λ h. ap g h.2 ∙ same (is_changed held b) (fact_at old b))
      (l.facts b)

  pub dirty_joins : (b : ℕ) → IsDirty u held b → IsDirty t held b
  dirty_joins b d = ⊎_elim
      (λ turn. ⊎_elim (λ same. inl (ap (λ (f : Flags). f.dirty) (sym same) ∙ turn)) (λ h. inr h.1) (l.flags b))
      (λ h. inr h)
      d
