-- A block is pinned no more.
use Rattle.std.proofs.Common.{◌≡◌, ◌≢◌, ⊎_elim, ℕ, ◌<◌, ◌≤◌, ◌&&◌, ◌||◌, Bool, true, false, not, cond, List, length, set, Option, Some, None, refl, sym, ap, ◌∙◌, subst, arith}
use Rattle.std.specs.Option.{option_map_or}
use Rattle.std.proofs.lemmas.Bool.{cases_eq}
use Rattle.std.proofs.lemmas.List.{get_or-set_same, get_or-set_other}
use Rattle.std.proofs.lemmas.List.Sums.{sum_by-set}
use Rattle.fo_buffers.specs.declared.block.Buffer.{Buffer}
use Rattle.fo_buffers.specs.Held.{Held, held_at, pinned_as, put, updated}
use Rattle.fo_buffers.specs.Held.{IsPinned as Pinned}
use Rattle.fo_order.specs.Keeps.{Turns}
use Rattle.fo_order.specs.Turns.{flag_at}
use Rattle.fo_labels.specs.Region.{Region}
use Rattle.fo_slots.specs.Read.{read}
use Rattle.fo_facts.specs.Known.{fact_at, no_fact}
use Rattle.fo_facts.specs.Counts.{owes}
use Rattle.fo_bring.proofs.Buffering.{put_same, put_other}
use Rattle.fo_facts.specs.declared.fact.Fact.{Fact}
use Rattle.fo_waits.specs.declared.listed.Wait.{Wait}
use Rattle.fo_waits.specs.Listed.{is_active}
use Rattle.fo_mind.specs.Laws.{pinned_held}
use Rattle.fo_mind.specs.Sound.{Placed, Holding, Waiting, Owing, Roomy}
use Rattle.fo_mind.specs.Turning.{Turning, is_changed, unpinned_fact}
use Rattle.fo_mind.proofs.Keeping.{holding_more, placed_set, waiting_like}
use Rattle.fo_mind.proofs.Turning.{one_differs}

pub record Unpins (at : ℕ) (old new : Held) : Type 0 where
  pub was : Buffer
  pub held : held_at old at ≡ Some was
  pub here : held_at new at ≡ Some (pinned_as false was)
  pub others : (q : ℕ) → q ≢ at → held_at new q ≡ held_at old q
  pub clean : new.clean ≡ old.clean
  pub room : new.room ≡ old.room

pub unpins_of : (at : ℕ) (old new : Held) → Pinned old at → new ≡ updated old at (pinned_as false) → Unpins at old new
unpins_of at old new pinned is =
    let x = pinned_held (held_at old at) pinned.is in
    let put_it : updated old at (pinned_as false) ≡ put old at (pinned_as false x.0) = ap (λ (o : Option Buffer). option_map_or (λ b. put old at (pinned_as false b)) o old) x.1 in
    let all : new ≡ put old at (pinned_as false x.0) = is ∙ put_it in
    record {
      was = x.0;
      held = x.1;
      here = ap (λ (h : Held). held_at h at) all ∙ put_same old at (pinned_as false x.0);
      others = λ q ne. ap (λ (h : Held). held_at h q) all ∙ put_other old at (pinned_as false x.0) q ne;
      clean = ap (λ (h : Held). h.clean) all;
      room = ap (λ (h : Held). h.room) all;
    }

same_some : (x y : Buffer) → Some x ≡ Some y → x ≡ y
same_some x y e = cc

some_none : {A : Type 0} (x : Buffer) → Some x ≡ None → A
some_none x e = cc

never : {A : Type 0} → false ≡ true → A
never e = cc

module _ {at : ℕ} {old new : Held} (p : Unpins at old new) where
  pub holding_unpins : {low first count : ℕ} {region : Region} → Holding low first count region old → Holding low first count region new
  holding_unpins h = holding_more p.others (pinned_as false p.was) p.here (h.block at p.was p.held) (h.good at p.was p.held) (h.kept at p.was p.held) h

  pub waiting_unpins : {region : Region} {waits : List Wait} → Waiting region old waits → Waiting region new waits
  waiting_unpins w = waiting_like p.others (λ kind n t. ap (λ (o : Option Buffer). option_map_or (λ (x : Buffer). is_active ((read kind x.block).slot n)) o false) p.here ∙ (sym (ap (λ (o : Option Buffer). option_map_or (λ (x : Buffer). is_active ((read kind x.block).slot n)) o false) p.held) ∙ t)) w

  -- facts of a block that owes only while it isn't linked, as a list that is equal to that one
  module _ {turns : Turns} (facts fs : List Fact) (lt : at < length facts) (is : fs ≡ set facts at (unpinned_fact (fact_at facts at))) where
    pub owing_unpins : Owing old turns facts → Owing new turns fs
    owing_unpins owing = subst (λ (z : List Fact). Owing new turns z) (sym is) (record {
      each = λ b x held pinned. ⊎_elim
          (λ e. never (ap (λ (z : Buffer). z.pinned) (same_some (pinned_as false p.was) x (sym p.here ∙ ap (held_at new) (sym e) ∙ held)) ∙ pinned))
          (λ ne. ap (λ (z : Fact). z.owes || (flag_at turns b).dirty) (get_or-set_other facts at b (unpinned_fact (fact_at facts at)) no_fact ne) ∙ owing.each b x (sym (p.others b ne) ∙ held) pinned)
          (cases_eq b at);
    })

    pub roomy_unpins : {region : Region} {low spare pins more : ℕ} → Roomy old turns region facts low spare pins more → Roomy new turns region fs low spare pins more
    roomy_unpins {region} {low} {spare} {pins} {more} roomy = subst (λ (z : List Fact). Roomy new turns region z low spare pins more) (sym is) (
        let e = sum_by-set (λ (f : Fact). cond (owes f) 1 0) facts at (unpinned_fact (fact_at facts at)) no_fact lt in
        let le = fewer (fact_at facts at).owes (fact_at facts at).linked in
        let b = roomy.buffer_room in
        let r = p.room in
        let t = roomy.turn_room in
        record { buffer_room = omega (arith, b, r); turn_room = omega (arith, e, le, t); usable = roomy.usable })
      where
        fewer : (o l : Bool) → cond {A = ℕ} (o && not l) 1 0 ≤ cond o 1 0
        fewer true true = omega arith
        fewer true false = omega arith
        fewer false l = omega arith

    pub turning_unpins : {first : ℕ} → Turning first old turns facts → Turning first new turns fs
    turning_unpins {first} turning = subst (λ (z : List Fact). Turning first new turns z) (sym is) (
        let f = unpinned_fact (fact_at facts at) in
        let was = turning.each at in
        let link = ap (λ (x : Fact). x.linked) (get_or-set_same facts at f no_fact lt) in
        one_differs at p.others (λ q ne. refl) (λ q ne. get_or-set_other facts at q f no_fact ne)
        (record {
          begins = was.begins;
          held = λ d le. ap is_changed p.here ∙ sym (ap is_changed p.held) ∙ was.held d le;
          turn = λ c l. was.turn (ap is_changed p.held ∙ sym (ap is_changed p.here) ∙ c) (sym link ∙ l);
          unheld = λ le e. some_none (pinned_as false p.was) (sym p.here ∙ e);
        }) turning)

pub placed_unpins : {region : Region} {turns : Turns} (facts fs : List Fact) (at : ℕ) {first count : ℕ} → fs ≡ set facts at (unpinned_fact (fact_at facts at)) → Placed region turns facts first count → Placed region turns fs first count
placed_unpins {region} {turns} facts fs at {first} {count} is placed = subst (λ (z : List Fact). Placed region turns z first count) (sym is) (placed_set facts at (unpinned_fact (fact_at facts at)) placed)
