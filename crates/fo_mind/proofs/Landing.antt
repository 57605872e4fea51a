-- What holds of the fields of a cache stays when the device answers.
use Rattle.std.proofs.Common.{◌≡◌, ⊎_elim, ℕ, ◌+◌, ◌*◌, ◌<◌, ◌≤◌, ◌||◌, Bool, true, false, cond, List, length, set, count_by, Option, Some, None, Result, Ok, Err, refl, sym, ap, ◌∙◌, subst, arith}
use Rattle.std.specs.Option.{option_map_or}
use Rattle.std.specs.Result.{OnOk, OnErr}
use Rattle.fo_disk.specs.Disk.{Content as Holds}
use Rattle.std.proofs.lemmas.Bool.{cases_eq}
use Rattle.std.proofs.lemmas.List.{length-set, get_or-set_same}
use Rattle.std.proofs.lemmas.List.Sums.{sum_by-set}
use Rattle.fo_buffers.specs.declared.block.Buffer.{Buffer}
use Rattle.fo_buffers.specs.Held.{Held, held_at, is_pinned, settled, updated}
use Rattle.fo_order.specs.declared.marks.Flags.{Flags}
use Rattle.fo_order.specs.Flags.{flags_of}
use Rattle.fo_order.specs.declared.marks.Tried.TheVariants.{Written, Failed}
use Rattle.fo_order.specs.Keeps.{Turns}
use Rattle.fo_order.specs.Turns.{IsSynced, flag_at, wrote}
use Rattle.fo_order.proofs.Keeping.{in_range}
use Rattle.fo_labels.specs.Region.{Region}
use Rattle.fo_slots.specs.Read.{read}
use Rattle.fo_facts.specs.Known.{fact_at, no_fact, written_as}
use Rattle.fo_facts.specs.Counts.{owes}
use Rattle.fo_bring.specs.Blocks.{Good}
use Rattle.fo_facts.specs.declared.fact.Fact.{Fact}
use Rattle.fo_waits.specs.declared.listed.Wait.{Wait}
use Rattle.fo_waits.specs.Listed.{is_active}
use Rattle.fo_mind.specs.Parts.{Parts, label_at}
use Rattle.fo_mind.specs.Sound.{Placed, Holding, Waiting, Owing, Roomy}
use Rattle.fo_mind.specs.Turning.{KeepsTurn, is_pinned_at}
use Rattle.fo_mind.proofs.Keeping.{waiting_like}
use Rattle.fo_mind.proofs.Turning.{Settles, settles_of, landed_other, missed_here, missed_other, other_written}

same_some : (x y : Buffer) → Some x ≡ Some y → x ≡ y
same_some x y e = cc

-- the block at an address that has a turn is one
pub within_count : {region : Region} {t : Turns} {facts : List Fact} {first count : ℕ} (at : ℕ) → Placed region t facts first count → (flag_at t at).dirty ≡ true → (at < length facts) × (at < length t.flags)
within_count {region} {t} {facts} at placed dirty =
    let lt = in_range t.flags at dirty in
    let m = placed.flag_count in
    let n = placed.fact_count in
    (omega (arith, lt, m, n), lt)

pub placed_wrote : {region : Region} {t : Turns} {first count : ℕ} (facts : List Fact) (at : ℕ) (f : Fact) (ok : Bool) → Placed region t facts first count → Placed region (wrote t at ok) (set facts at f) first count
placed_wrote {region} {t} facts at f ok placed = record {
  is_first = placed.is_first;
  is_count = placed.is_count;
  is_place = placed.is_place;
  begins = placed.begins;
  small = placed.small;
  flag_count = as_long ok ∙ placed.flag_count;
  fact_count = length-set facts at f ∙ placed.fact_count;
}
  where
    as_long : (ok : Bool) → length (wrote t at ok).flags ≡ length t.flags
    as_long true = length-set t.flags at (flags_of false Written (flag_at t at).rank)
    as_long false = length-set t.flags at (flags_of true Failed (flag_at t at).rank)

-- what was held of a block that is held now
pub was_held : (l : Bool) (o : Option Buffer) (x : Buffer) → cond l (option_map_or (λ (x : Buffer). Some (settled x)) o None) o ≡ Some x → (y : Buffer) × (o ≡ Some y) × (x.block ≡ y.block) × (x.pinned ≡ y.pinned)
was_held true (Some y) x e = let s = same_some (settled y) x e in (y, refl, ap (λ (b : Buffer). b.block) (sym s), ap (λ (b : Buffer). b.pinned) (sym s))
was_held true None x e = absurd (cc)
was_held false o x e = (x, e, refl, refl)

module _ {at : ℕ} {linked : Bool} {old new : Held} (s : Settles at linked old new) where
  from_held : (b : ℕ) (x : Buffer) → held_at new b ≡ Some x → (y : Buffer) × (held_at old b ≡ Some y) × (x.block ≡ y.block) × (x.pinned ≡ y.pinned)
  from_held b x is = ⊎_elim
      (λ e. let w = was_held linked (held_at old at) x (sym s.here ∙ ap (held_at new) (sym e) ∙ is) in (w.0, ap (held_at old) e ∙ w.1, w.2, w.3))
      (λ ne. (x, sym (s.others b ne) ∙ is, refl, refl))
      (cases_eq b at)

  pub holding_settles : {low first count : ℕ} {region : Region} → Holding low first count region old → Holding low first count region new
  holding_settles {low} {first} {count} {region} h = record {
    block = λ b x is. let w = from_held b x is in h.block b w.0 w.1;
    good = λ b x is. let w = from_held b x is in subst (λ (bytes : List ℕ). Good first count (label_at region b).kind bytes) (sym w.2) (h.good b w.0 w.1);
    kept = λ b x is. let w = from_held b x is in h.kept b w.0 w.1;
  }

  pub waiting_settles : {region : Region} {waits : List Wait} → Waiting region old waits → Waiting region new waits
  waiting_settles w = waiting_like s.others (λ kind n t. ap (λ (o : Option Buffer). option_map_or (λ (x : Buffer). is_active ((read kind x.block).slot n)) o false) s.here ∙ still linked (held_at old at) (λ (bytes : List ℕ). is_active ((read kind bytes).slot n)) t) w
    where
      still : (l : Bool) (o : Option Buffer) (f : List ℕ → Bool) → option_map_or (λ (x : Buffer). f x.block) o false ≡ true → option_map_or (λ (x : Buffer). f x.block) (cond l (option_map_or (λ (x : Buffer). Some (settled x)) o None) o) false ≡ true
      still true (Some x) f t = t
      still true None f t = t
      still false o f t = t

  -- it is pinned where it was
  pub owing_landed : {t : Turns} (facts : List Fact) → at < length facts → at < length t.flags → Owing old t facts → Owing new (wrote t at true) (set facts at (written_as (is_pinned_at old at) (fact_at facts at)))
  owing_landed {t} facts lt within owing =
      let f = written_as (is_pinned_at old at) (fact_at facts at) in
      record {
        each = λ b x is pinned.
            let w = from_held b x is in
            ⊎_elim
            (λ e. subst (λ n. ((fact_at (set facts at f) n).owes || (flag_at (wrote t at true) n).dirty) ≡ true) (sym e)
            (ap (λ (z : Fact). z.owes || (flag_at (wrote t at true) at).dirty) (get_or-set_same facts at f no_fact lt)
            ∙ kept (fact_at facts at).owes (is_pinned_at old at) (flag_at (wrote t at true) at).dirty (ap (λ (o : Option Buffer). option_map_or is_pinned o false) (ap (held_at old) (sym e) ∙ w.1) ∙ sym w.3 ∙ pinned)))
            (λ ne. ap (λ (z : Fact). z.owes || (flag_at (wrote t at true) b).dirty) (other_written facts at (is_pinned_at old at) lt b ne)
            ∙ ap (λ (z : Flags). (fact_at facts b).owes || z.dirty) (landed_other t at within b ne)
            ∙ owing.each b w.0 w.1 (sym w.3 ∙ pinned))
            (cases_eq b at);
      }
    where
      kept : (o p d : Bool) → p ≡ true → ((o || p) || d) ≡ true
      kept true p d e = refl
      kept false true d e = refl
      kept false false d e = absurd (cc)

pub owing_missed : {at : ℕ} {held : Held} {t : Turns} (facts : List Fact) → at < length facts → at < length t.flags → Owing held t facts → Owing held (wrote t at false) (set facts at (written_as false (fact_at facts at)))
owing_missed {at} {held} {t} facts lt within owing =
    let f = written_as false (fact_at facts at) in
    record {
      each = λ b x is pinned. ⊎_elim
          (λ e. subst (λ n. ((fact_at (set facts at f) n).owes || (flag_at (wrote t at false) n).dirty) ≡ true) (sym e)
          (right (fact_at (set facts at f) at).owes (flag_at (wrote t at false) at).dirty (ap (λ (z : Flags). z.dirty) (missed_here t at within))))
          (λ ne. ap (λ (z : Fact). z.owes || (flag_at (wrote t at false) b).dirty) (other_written facts at false lt b ne)
          ∙ ap (λ (z : Flags). (fact_at facts b).owes || z.dirty) (missed_other t at within b ne)
          ∙ owing.each b x is pinned)
          (cases_eq b at);
    }
  where
    right : (a b : Bool) → b ≡ true → (a || b) ≡ true
    right true b e = refl
    right false b e = e

pub roomy_landed : {h g : Held} {t : Turns} {region : Region} {low spare pins more : ℕ} (facts : List Fact) (at : ℕ) (pinned : Bool) → at < length facts → g.room ≡ h.room → (pinned ≡ true → count_by owes facts + (2 * spare + pins + more) < t.room)
    → Roomy h t region facts low spare pins more → Roomy g (wrote t at true) region (set facts at (written_as pinned (fact_at facts at))) low spare pins more
roomy_landed {h} {g} {t} {region} {low} {spare} {pins} {more} facts at pinned lt same room roomy =
    let b = roomy.buffer_room in
    record { buffer_room = omega (arith, b, same); turn_room = by pinned refl; usable = roomy.usable }
  where
    more_owed : (b p : Bool) → cond {A = ℕ} (b || p) 1 0 ≤ cond b 1 0 + cond p 1 0
    more_owed true true = omega arith
    more_owed true false = omega arith
    more_owed false true = omega arith
    more_owed false false = omega arith

    last : (p : Bool) → pinned ≡ p → count_by owes (set facts at (written_as pinned (fact_at facts at))) + cond {A = ℕ} (owes (fact_at facts at)) 1 0 ≡ count_by owes facts + cond {A = ℕ} (owes (written_as pinned (fact_at facts at))) 1 0
        → cond {A = ℕ} ((fact_at facts at).owes || pinned) 1 0 ≤ cond (fact_at facts at).owes 1 0 + cond pinned 1 0 → cond {A = ℕ} pinned 1 0 ≡ cond p 1 0 → count_by owes facts + (2 * spare + pins + more) ≤ t.room → count_by owes (set facts at (written_as pinned (fact_at facts at))) + (2 * spare + pins + more) ≤ t.room
    last true is e m k r = let n = room is in omega (arith, e, m, k, n)
    last false is e m k r = omega (arith, e, m, k, r)

    by : (p : Bool) → pinned ≡ p → count_by owes (set facts at (written_as pinned (fact_at facts at))) + (2 * spare + pins + more) ≤ t.room
    by p is =
        let r = roomy.turn_room in
        let e = sum_by-set (λ (x : Fact). cond (owes x) 1 0) facts at (written_as pinned (fact_at facts at)) no_fact lt in
        let m = more_owed (fact_at facts at).owes pinned in
        let k : cond {A = ℕ} pinned 1 0 ≡ cond p 1 0 = ap (λ b. cond {A = ℕ} b 1 0) is in
        last p is e m k r

pub roomy_missed : {h : Held} {t : Turns} {region : Region} {low spare pins more : ℕ} (facts : List Fact) (at : ℕ) → at < length facts
    → Roomy h t region facts low spare pins more → Roomy h (wrote t at false) region (set facts at (written_as false (fact_at facts at))) low spare pins more
roomy_missed facts at lt roomy =
    let r = roomy.turn_room in
    let e = sum_by-set (λ (x : Fact). cond (owes x) 1 0) facts at (written_as false (fact_at facts at)) no_fact lt in
    let same = one (fact_at facts at).owes in
    record { buffer_room = roomy.buffer_room; turn_room = omega (arith, r, e, same); usable = roomy.usable }
  where
    one : (b : Bool) → cond {A = ℕ} (b || false) 1 0 ≡ cond b 1 0
    one true = refl
    one false = refl

pub placed_synced : {region : Region} {t u : Turns} {facts : List Fact} {first count : ℕ} → IsSynced t u → Placed region t facts first count → Placed region u facts first count
placed_synced s placed = record {
  is_first = placed.is_first;
  is_count = placed.is_count;
  is_place = placed.is_place;
  begins = placed.begins;
  small = placed.small;
  flag_count = s.count ∙ placed.flag_count;
  fact_count = placed.fact_count;
}

pub owing_synced : {h : Held} {t u : Turns} {facts : List Fact} → IsSynced t u → Owing h t facts → Owing h u facts
owing_synced {h} {t} {u} {facts} s owing = record { each = λ b x is pinned. ap (λ (f : Flags). (fact_at facts b).owes || f.dirty) (s.each b) ∙ owing.each b x is pinned }

pub roomy_synced : {h : Held} {t u : Turns} {region : Region} {facts : List Fact} {low spare pins more : ℕ} → IsSynced t u → Roomy h t region facts low spare pins more → Roomy h u region facts low spare pins more
roomy_synced s roomy = record { buffer_room = roomy.buffer_room; turn_room = let r = roomy.turn_room in let e = s.room in omega (arith, r, e); usable = roomy.usable }

-- what a landing leaves, of calls that say it by their results
pub settles_landed : (facts : List Fact) (at : ℕ) (old new : Held) {linked : Bool} → linked ≡ (fact_at facts at).linked → new ≡ cond linked (updated old at settled) old → Settles at (fact_at facts at).linked old new
settles_landed facts at old new {linked} is e = settles_of at (fact_at facts at).linked old new (e ∙ ap (λ (b : Bool). cond b (updated old at settled) old) is)

pub facts_landed : (facts : List Fact) (at : ℕ) (held : Held) (new : List Fact) {pinned : Bool} → pinned ≡ is_pinned_at held at → new ≡ set facts at (written_as pinned (fact_at facts at)) → new ≡ set facts at (written_as (is_pinned_at held at) (fact_at facts at))
facts_landed facts at held new {pinned} is e = e ∙ ap (λ (b : Bool). set facts at (written_as b (fact_at facts at))) is

-- room was made, or nothing changed
pub same_turn : (p q : Parts) → q ≡ p → KeepsTurn p q
same_turn p q e = record {
  more = let k = ap (λ (x : Parts). x.turns.room) e in omega (arith, k);
  rest = e ∙ ap (λ n. record p { turns = record p.turns { room = n } }) (sym (ap (λ (x : Parts). x.turns.room) e));
}

pub keeps_turn : {T E : Type 0} (r : Result T E) (p q : Holds → ℕ → Parts) → OnOk r ((disk : Holds) (faults : ℕ) → q disk faults ≡ record (p disk faults) { turns = record (p disk faults).turns { room = (p disk faults).turns.room + 1 } }) → OnErr r ((disk : Holds) (faults : ℕ) → q disk faults ≡ p disk faults)
    → (disk : Holds) (faults : ℕ) → KeepsTurn (p disk faults) (q disk faults)
keeps_turn (Ok u) p q e n disk faults =
    let is = e disk faults in
    let k = ap (λ (x : Parts). x.turns.room) is in
    record {
      more = omega (arith, k);
      rest = is ∙ ap (λ m. record (p disk faults) { turns = record (p disk faults).turns { room = m } }) (sym k);
    }
keeps_turn (Err x) p q e n disk faults = same_turn (p disk faults) (q disk faults) (n disk faults)
