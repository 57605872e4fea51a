-- What holds of a cache stays when a block is closed.
use Rattle.std.proofs.Common.{◌≡◌, ◌≢◌, inl, inr, ⊎_elim, ℕ, ◌+◌, ◌-◌, ◌*◌, ◌<◌, ◌≤◌, ◌&&◌, ◌||◌, ◌==◌, Bool, true, false, not, cond, List, [], ◌∷◌, length, count_by, Option, Some, None, is_some, refl, sym, ap, ◌∙◌, subst, arith}
use Rattle.std.specs.Cmp.{nat_eq_equiv}
use Rattle.std.specs.List.{filter}
use Rattle.std.specs.Option.{option_map_or}
use Rattle.std.proofs.lemmas.List.{length-set}
use Rattle.std.proofs.lemmas.List.Sums.{sum_by-set}
use Rattle.fo_image.specs.declared.types.Label.{Label}
use Rattle.fo_image.specs.declared.types.State.{State}
use Rattle.fo_image.specs.declared.types.State.TheVariants.{Live}
use Rattle.fo_image.specs.Format.{LabelHolds, StateHolds}
use Rattle.fo_image.specs.Place.{label_block}
use Rattle.fo_image.specs.Usable.{free_label, is_usable, is_usable_in}
use Rattle.fo_buffers.specs.declared.block.Buffer.{Buffer}
use Rattle.fo_buffers.specs.Held.{Held, cut, held_at, unlisted}
use Rattle.fo_order.specs.Keeps.{Turns}
use Rattle.fo_order.specs.Turns.{changed, flag_at}
use Rattle.fo_labels.specs.Region.{IsDataBlock, Region, closed_label, label_of, relabeled, usable_count}
use Rattle.fo_buffers.specs.of_slots.Read.{read}
use Rattle.fo_facts.specs.declared.fact.Fact.{Fact}
use Rattle.fo_facts.specs.Counts.{owes}
use Rattle.fo_facts.specs.Known.{fact_at}
use Rattle.fo_bring.specs.Blocks.{Good}
use Rattle.fo_bring.proofs.Buffering.{cut_other, cut_same}
use Rattle.fo_waits.specs.declared.listed.Clearing.{Clearing}
use Rattle.fo_waits.specs.declared.listed.Wait.{Wait}
use Rattle.fo_waits.specs.Listed.{Clears, Listed, is_active}
use Rattle.fo_mind.specs.Parts.{label_at}
use Rattle.fo_mind.specs.Sound.{Placed, Holding, Waiting, Clearable, Owing, RootIn, Roomy, Standing}
use Rattle.fo_mind.specs.Turning.{Turning, is_changed}
use Rattle.fo_mind.proofs.Giving.{change_count, change_dirty, change_other, change_room, label_other}
use Rattle.fo_mind.proofs.Releasing.{Cuts}
use Rattle.fo_mind.proofs.Turning.{one_differs}
use Rattle.fo_closing.specs.Closed.{is_apart}

never : {A : Type 0} → false ≡ true → A
never e = cc

no_some : {A : Type 0} (x : Buffer) → None ≡ Some x → A
no_some x e = cc

-- ---- the list of waits

-- a wait that stays was there, and is none for the closed block
pub listed_apart : (at : ℕ) (waits : List Wait) (a on k : ℕ) → Listed (filter (is_apart at) waits) a on k → Listed waits a on k × (on ≢ at)
listed_apart at [] a on k l = absurd l
listed_apart at (w ∷ ws) a on k l = by (is_apart at w) refl (λ later. listed_apart at ws a on k later)
  where
    apart : (b c : Bool) → (not b && not c) ≡ true → c ≡ false
    apart false false e = refl
    apart false true e = never e
    apart true c e = never e

    here : is_apart at w ≡ true → (w.at ≡ a) × (w.on ≡ on) × (w.pair ≡ k) → on ≢ at
    here e is same = never (sym (apart (w.at == at) (w.on == at) e) ∙ ap (λ n. n == at) (is.1 ∙ same) ∙ nat_eq_equiv.refl at)

    by : (b : Bool) → is_apart at w ≡ b → (Listed (filter (is_apart at) ws) a on k → Listed ws a on k × (on ≢ at)) → Listed (w ∷ ws) a on k × (on ≢ at)
    by true e rest =
        let f : filter (is_apart at) (w ∷ ws) ≡ w ∷ filter (is_apart at) ws = ap (λ (t : Bool). cond t (w ∷ filter (is_apart at) ws) (filter (is_apart at) ws)) e in
        ⊎_elim
        (λ is. (inl is, here e is))
        (λ later. let r = rest later in (inr r.0, r.1))
        (subst (λ (z : List Wait). Listed z a on k) f l)
    by false e rest =
        let f : filter (is_apart at) (w ∷ ws) ≡ filter (is_apart at) ws = ap (λ (t : Bool). cond t (w ∷ filter (is_apart at) ws) (filter (is_apart at) ws)) e in
        let r = rest (subst (λ (z : List Wait). Listed z a on k) f l) in
        (inr r.0, r.1)

-- ---- what is held

pub cuts : (at : ℕ) (h : Held) → Cuts at h (cut (unlisted h at) at)
cuts at h = record {
  here = cut_same (unlisted h at) at;
  others = λ q ne. cut_other (unlisted h at) at q ne;
  room = refl;
}

-- ---- labels

module _ (r : Region) (at : ℕ) (l : Label) (is : IsDataBlock r at) where
  -- what is held stays good where the block of the label isn't
  pub holding_relabeled : {low first count : ℕ} {h : Held} → held_at h at ≡ None → Holding low first count r h → Holding low first count (relabeled r at l) h
  holding_relabeled {low} {first} {count} {h} none holding = record {
    block = holding.block;
    good = λ b x held. subst (λ (z : Label). Good first count z.kind x.block) (sym (other b x held)) (holding.good b x held);
    kept = λ b x held. ap (is_usable low) (other b x held) ∙ holding.kept b x held;
  }
    where
      other : (b : ℕ) (x : Buffer) → held_at h b ≡ Some x → label_at (relabeled r at l) b ≡ label_at r b
      other b x held = label_other r at l b is (λ e. no_some x (sym none ∙ ap (held_at h) (sym e) ∙ held))

  pub waiting_closed : {h g : Held} (waits : List Wait) → Cuts at h g → Waiting r h waits → Waiting (relabeled r at l) g (filter (is_apart at) waits)
  waiting_closed {h} {g} waits c waiting = record {
    within = λ a on k w.
        let was = listed_apart at waits a on k w in
        ap (λ (z : Label). z.kind) (label_other r at l on is was.1) ∙ waiting.within a on k was.0;
    used = λ a on k w.
        let was = listed_apart at waits a on k w in
        ap (λ (z : Label). option_map_or (λ (x : Buffer). is_active ((read z.kind x.block).slot (2 * k))) (held_at g on) false) (label_other r at l on is was.1)
        ∙ ap (λ (o : Option Buffer). option_map_or (λ (x : Buffer). is_active ((read (label_at r on).kind x.block).slot (2 * k))) o false) (c.others on was.1)
        ∙ waiting.used a on k was.0;
  }

  pub clearable_closed : {low high : ℕ} {clears : List Clearing} → ((j : ℕ) → Clears clears at j → ⊥) → Clearable r low high clears → Clearable (relabeled r at l) low high clears
  clearable_closed {low} {high} {clears} free clearable = record {
    each = λ b j c. let k = clearable.each b j c in let o = other b j c in (ap (λ (z : Label). z.kind) o ∙ k.0, ap (λ (z : Label). z.epoch) o ∙ k.1);
    within = clearable.within;
    kept = λ b j c. ap (is_usable low) (other b j c) ∙ clearable.kept b j c;
  }
    where
      other : (b j : ℕ) → Clears clears b j → label_at (relabeled r at l) b ≡ label_at r b
      other b j c = label_other r at l b is (λ e. free j (subst (λ n. Clears clears n j) e c))

  -- how many are usable, where the block wasn't
  pub usable_closed : (low : ℕ) → is_usable low (label_of r at) ≡ false → usable_count low (relabeled r at l) ≡ usable_count low r + cond (is_usable low l) 1 0
  usable_closed low not_yet =
      let from = is.from in
      let to = is.to in
      let lt : at - r.first < length r.labels = omega (arith, from, to) in
      let e = sum_by-set (λ (x : Label). cond {A = ℕ} (is_usable low x) 1 0) r.labels (at - r.first) l free_label lt in
      let was : cond {A = ℕ} (is_usable low (label_of r at)) 1 0 ≡ 0 = ap (λ (b : Bool). cond {A = ℕ} b 1 0) not_yet in
      omega (arith, e, was)

pub placed_closed : {r : Region} {t : Turns} {facts : List Fact} {first count : ℕ} (at turn rank : ℕ) (l : Label) → Placed r t facts first count → Placed (relabeled r at l) (changed t turn rank) facts first count
placed_closed {r} {t} {facts} {first} {count} at turn rank l placed =
    let n = length-set r.labels (at - r.first) l in
    let is = placed.is_count in
    record {
      is_first = placed.is_first;
      is_count = omega (arith, n, is);
      is_place = placed.is_place;
      begins = placed.begins;
      small = placed.small;
      flag_count = change_count t turn rank ∙ placed.flag_count;
      fact_count = placed.fact_count;
    }

-- a live block is not usable
pub live_kept : (low : ℕ) (l : Label) → l.state ≡ Live → is_usable low l ≡ false
live_kept low l live = ap (λ (s : State). is_usable_in s low l) live

-- the label of a closed block is one
pub closed_holds : (l : Label) (epoch : ℕ) → l.state ≡ Live → l.epoch ≤ epoch → epoch < 2147483648 → LabelHolds l → LabelHolds (closed_label l epoch)
closed_holds l epoch live begun small holds =
    let h = subst (λ (s : State). StateHolds s l) live holds.state_holds in
    record { state_holds = (h.0, h.1, begun, small) }

-- ---- turns

pub owing_closed : {h : Held} {t : Turns} {facts : List Fact} (place : ℕ) → place < length t.flags → Owing h t facts → Owing h (changed t place 0) facts
owing_closed {h} {t} {facts} place within owing = record {
  each = λ b x held pinned. more (fact_at facts b).owes (flag_at t b).dirty (flag_at (changed t place 0) b).dirty (owing.each b x held pinned) (change_dirty t place 0 b within);
}
  where
    more : (a d e : Bool) → (a || d) ≡ true → (d ≡ true → e ≡ true) → (a || e) ≡ true
    more true d e h k = refl
    more false d e h k = k h

pub turning_labels : {region : Region} {t : Turns} {facts : List Fact} {first count low : ℕ} {h : Held} (at place : ℕ) → at < count → place ≡ label_block at → Placed region t facts first count → Holding low first count region h → Turning first h t facts → Turning first h (changed t place 0) facts
turning_labels {region} {t} {facts} {first} {count} {low} {h} at place lt is placed holding turning =
    let p = placed.is_place in
    let before : place < first = omega (arith, is, p, lt) in
    one_differs place (λ q ne. refl) (λ q ne. change_other t place 0 q ne) (λ q ne. refl)
    (record {
      begins = λ d. omega (arith, is);
      held = λ d le. absurd (omega (arith, le, before));
      turn = λ c l. absurd (unheld (held_at h place) refl c before);
      unheld = λ le e. absurd (omega (arith, le, before));
    }) turning
  where
    unheld : (o : Option Buffer) → held_at h place ≡ o → is_changed (held_at h place) ≡ true → place < first → ⊥
    unheld (Some x) e c lt = let le = (holding.block place x e).0 in omega (arith, le, lt)
    unheld None e c lt = never (sym (ap is_changed e) ∙ c)

pub roomy_closed : {h g : Held} {t : Turns} {r s : Region} {facts : List Fact} {low spare pins more : ℕ} (place : ℕ) → g.room ≡ h.room → usable_count low r ≤ usable_count low s → count_by owes facts + (2 * spare + pins + more) < t.room → Roomy h t r facts low spare pins more → Roomy g (changed t place 0) s facts low spare pins more
roomy_closed {h} {g} {t} {r} {s} {facts} {low} {spare} {pins} {more} place room usable turn roomy =
    let b = roomy.buffer_room in
    let u = roomy.usable in
    let c = change_room t place 0 in
    record { buffer_room = omega (arith, b, room); turn_room = omega (arith, turn, c); usable = omega (arith, u, usable) }

-- ---- what was given out, and the root

pub standing_closed : {at : ℕ} {h g : Held} {facts : List Fact} {clears : List Clearing} → Cuts at h g → (fact_at facts at).linked ≡ true → ((j : ℕ) → Clears clears at j → ⊥) → Standing h facts clears → Standing g facts clears
standing_closed {at} {h} {g} {facts} {clears} c linked free s = record {
  still = λ b j l. ap is_some (c.others b (λ e. free j (subst (λ n. Clears clears n j) e l))) ∙ s.still b j l;
  newborn = λ b e. ap is_some (c.others b (λ is. never (sym e ∙ ap (λ n. (fact_at facts n).linked) is ∙ linked))) ∙ s.newborn b e;
}

pub root_in_closed : {low root : ℕ} {facts : List Fact} (r : Region) (at : ℕ) (l : Label) → IsDataBlock r at → at ≢ root → RootIn low r facts root → RootIn low (relabeled r at l) facts root
root_in_closed {low} {root} {facts} r at l is ne root_in = record {
  linked = root_in.linked;
  kept = ap (is_usable low) (label_other r at l root is (λ e. ne (sym e))) ∙ root_in.kept;
}

-- ---- with room for one turn more

abbrev pub roomier : Turns → Turns
roomier t = record t { room = t.room + 1 }

pub placed_roomier : {r : Region} {t : Turns} {facts : List Fact} {first count : ℕ} → Placed r t facts first count → Placed r (roomier t) facts first count
placed_roomier placed = record {
  is_first = placed.is_first;
  is_count = placed.is_count;
  is_place = placed.is_place;
  begins = placed.begins;
  small = placed.small;
  flag_count = placed.flag_count;
  fact_count = placed.fact_count;
}

pub owing_roomier : {h : Held} {t : Turns} {facts : List Fact} → Owing h t facts → Owing h (roomier t) facts
owing_roomier owing = record { each = owing.each }

pub turning_roomier : {first : ℕ} {h : Held} {t : Turns} {facts : List Fact} → Turning first h t facts → Turning first h (roomier t) facts
turning_roomier turning = record { each = λ b. let e = turning.each b in record { begins = e.begins; held = e.held; turn = e.turn; unheld = e.unheld } }

pub roomy_roomier : {h : Held} {t : Turns} {r : Region} {facts : List Fact} {low spare pins more : ℕ} → Roomy h t r facts low spare pins more → Roomy h (roomier t) r facts low spare pins more
roomy_roomier roomy = let t = roomy.turn_room in record { buffer_room = roomy.buffer_room; turn_room = omega (arith, t); usable = roomy.usable }
