-- More room is made.
use Rattle.std.proofs.Common.{◌≡◌, ℕ, ◌+◌, ◌≤◌, List, refl, sym, ap, ◌∙◌, subst, arith}
use Rattle.fo_buffers.specs.Held.{Held, held_at}
use Rattle.fo_order.specs.Keeps.{Turns}
use Rattle.fo_labels.specs.Region.{Region, usable_count}
use Rattle.fo_unlink.specs.Pending.{Pending}
use Rattle.fo_rooms.specs.of_takeout.Walking.{Walking}
use Rattle.fo_facts.specs.declared.fact.Fact.{Fact}
use Rattle.fo_rooms.specs.declared.rooms.Rooms.{Rooms}
use Rattle.fo_rooms.specs.declared.rooms.Wants.{Wants}
use Rattle.fo_rooms.specs.Grown.{GrownHeld, GrownQueue, GrownTurns, HasRooms}
use Rattle.fo_rooms.specs.Needed.{IsEnough}
use Rattle.fo_waits.specs.declared.listed.Clearing.{Clearing}
use Rattle.fo_waits.specs.declared.listed.Wait.{Wait}
use Rattle.fo_mind.specs.Parts.{Parts}
use Rattle.fo_mind.specs.Roomed.{Grown, Roomed}
use Rattle.fo_mind.specs.Sound.{Holding, Making, Owing, Placed, Roomy, Standing, Waiting}
use Rattle.fo_mind.proofs.Standing.{standing_same}
use Rattle.fo_mind.specs.Turning.{Turning}
use Rattle.fo_mind.proofs.Keeping.{holding_same, waiting_same}
use Rattle.fo_mind.proofs.Turning.{same_held}

module _ {h g : Held} (grown : GrownHeld h g) where
  same : (q : ℕ) → held_at g q ≡ held_at h q
  same q = ap (λ (x : Held). held_at x q) grown.same

  pub holding_grown : {low first count : ℕ} {region : Region} → Holding low first count region h → Holding low first count region g
  holding_grown holding = holding_same same holding

  pub standing_grown : {facts : List Fact} {clears : List Clearing} → Standing h facts clears → Standing g facts clears
  standing_grown standing = standing_same same standing

  pub waiting_grown : {region : Region} {waits : List Wait} → Waiting region h waits → Waiting region g waits
  waiting_grown waiting = waiting_same same waiting

  pub owing_grown : {t u : Turns} {facts : List Fact} → GrownTurns t u → Owing h t facts → Owing g u facts
  owing_grown {t} {u} {facts} turns owing = subst (λ (x : Turns). Owing g x facts) (sym turns.same) (record { each = λ b x is pinned. owing.each b x (sym (same b) ∙ is) pinned })

  pub roomy_grown : {t u : Turns} {region : Region} {facts : List Fact} {low spare pins more : ℕ} → GrownTurns t u → Roomy h t region facts low spare pins more → Roomy g u region facts low spare pins more
  roomy_grown turns roomy =
      let b = roomy.buffer_room in
      let r = roomy.turn_room in
      let hl = grown.more in
      let tl = turns.more in
      record { buffer_room = omega (arith, hl, b); turn_room = omega (arith, tl, r); usable = roomy.usable }

  pub turning_grown : {t u : Turns} {facts : List Fact} {first : ℕ} → GrownTurns t u → Turning first h t facts → Turning first g u facts
  turning_grown {t} {u} {facts} {first} turns turning = subst (λ (x : Turns). Turning first g x facts) (sym turns.same) (record { each = λ b. let k = (same_held {g = g} same turning).each b in record { begins = k.begins; held = k.held; turn = k.turn; unheld = k.unheld } })

pub placed_grown : {region : Region} {t u : Turns} {facts : List Fact} {first count : ℕ} → GrownTurns t u → Placed region t facts first count → Placed region u facts first count
placed_grown {region} {t} {u} {facts} {first} {count} turns placed = subst (λ (x : Turns). Placed region x facts first count) (sym turns.same) (record {
  is_first = placed.is_first;
  is_count = placed.is_count;
  is_place = placed.is_place;
  begins = placed.begins;
  small = placed.small;
  flag_count = placed.flag_count;
  fact_count = placed.fact_count;
})

pub making_grown : {facts : List Fact} {spare more links longer : ℕ} {q r : Pending} → links ≤ longer → GrownQueue q r → Making facts spare more links q.room → Making facts spare more longer r.room
making_grown le grown making =
    let p = making.places in
    let l = making.left in
    let k = grown.more in
    record { owing = making.owing; places = omega (arith, p, le); left = omega (arith, l, k) }

-- ---- as much room as is asked for

module _ (facts : List Fact) (waiting : ℕ) (w : Wants) (rooms : Rooms) (enough : IsEnough facts waiting w rooms) {held : Held} {turns : Turns} {queue : Pending} {walk : Walking} {links : ℕ} (has : HasRooms rooms held turns queue walk links) where
  pub roomy_enough : (region : Region) (low more : ℕ) → w.blocks ≤ usable_count low region → more ≡ w.removals + waiting → Roomy held turns region facts low w.blocks w.pins more
  roomy_enough region low more usable is =
      let h = has.held_room in
      let t = has.turn_room in
      let a = enough.held in
      let b = enough.turns in
      record { buffer_room = omega (arith, h, a); turn_room = omega (arith, t, b, is); usable = usable }

  pub making_enough : {spare more links2 removals : ℕ} (now : ℕ) → now ≡ w.removals + waiting → Making facts spare more links2 removals → Making facts w.blocks now links queue.room
  making_enough now is making =
      let q = has.queue_room in
      let l = has.link_room in
      let a = enough.removals in
      let b = enough.linked in
      record { owing = making.owing; places = omega (arith, l, b); left = omega (arith, q, a, is) }

-- ---- what was made

pub grown_none : (p q : Parts) → q ≡ p → Grown p q
grown_none p q is = subst (Grown p) (sym is) (record {
  held = record { same = refl; more = omega arith };
  turns = record { same = refl; more = omega arith };
  walk = record { same = refl; more = omega arith };
  links = omega arith;
  rest = refl;
})

pub roomed : (p m : Parts) (blocks pins removals : ℕ) → Grown p m → Roomed blocks pins removals p (record m { spare = blocks; pins = pins; room = removals })
roomed p m blocks pins removals g = record {
  grown = subst (Grown p) (ap (λ (q : Parts). record m { spare = q.spare; pins = q.pins; room = q.room }) g.rest) g;
  spare = refl;
  pins_are = refl;
  room = refl;
}
