-- Which blocks have a turn stays known.
use Rattle.std.proofs.Common.{◌≡◌, ◌≢◌, ⊎_elim, ℕ, ◌<◌, ◌&&◌, Bool, true, false, not, cond, List, length, set, replicate, Option, Some, None, refl, sym, ap, ◌∙◌, subst, arith}
use Rattle.std.specs.Option.{option_map_or}
use Rattle.std.proofs.lemmas.Bool.{cases_eq, cases_lt}
use Rattle.std.proofs.lemmas.List.{length-replicate, get_or-replicate, get_or_past, get_or-set_same, get_or-set_other}
use Rattle.fo_image.specs.Place.{label_block}
use Rattle.fo_disk.specs.Disk.{Content as Holds}
use Rattle.fo_image.specs.declared.types.Kind.{Kind}
use Rattle.fo_buffers.specs.declared.block.Buffer.{Buffer}
use Rattle.fo_buffers.specs.Held.{Held, held_at, buffer_of, pinned_as, put, settled, unlisted, updated, used}
use Rattle.fo_order.specs.declared.marks.Flags.{Flags}
use Rattle.fo_order.specs.Flags.{flags_of, quiet, settled_tried}
use Rattle.fo_order.specs.Keeps.{Turns}
use Rattle.fo_order.specs.Turns.{IsSynced, changed, flag_at, wrote}
use Rattle.fo_order.specs.declared.marks.Tried.TheVariants.{Written, Failed}
use Rattle.fo_labels.specs.Region.{Region}
use Rattle.fo_facts.specs.Known.{fact_at, no_fact, owing_as, written_as}
use Rattle.fo_bring.specs.Blocks.{IsData}
use Rattle.fo_bring.specs.Holds.{Others, Brought}
use Rattle.fo_bring.proofs.Bringing.{loaded_here}
use Rattle.fo_bring.proofs.Buffering.{put_same, put_other}
use Rattle.fo_facts.specs.declared.fact.Fact.{Fact}
use Rattle.fo_mind.specs.Changes.{turned, turned_facts}
use Rattle.fo_mind.specs.Opened.{no_buffers, no_turns}
use Rattle.fo_mind.specs.Sound.{Holding, Placed}
use Rattle.fo_mind.specs.Turning.{Turning, TurnsAt, is_changed}
use Rattle.fo_mind.proofs.Giving.{change_other}
use Rattle.fo_mind.proofs.Keeping.{MayBring, Pins}
use Rattle.fo_mind.proofs.Refilling.{Refills, by_case, dirty_here, flags_turned}
use Rattle.fo_mind.proofs.Results.{three}
use Rattle.fo_mind.proofs.Starting.{none}

never : {A : Type 0} → false ≡ true → A
never e = cc

some_none : {A : Type 0} (x : Buffer) → Some x ≡ None → A
some_none x e = cc

-- one address is looked at alone
pub one_differs : {first : ℕ} (at : ℕ) {h g : Held} {t u : Turns} {facts new : List Fact}
    → ((q : ℕ) → q ≢ at → held_at g q ≡ held_at h q) → ((q : ℕ) → q ≢ at → flag_at u q ≡ flag_at t q) → ((q : ℕ) → q ≢ at → fact_at new q ≡ fact_at facts q)
    → TurnsAt first at (held_at g at) (flag_at u at) (fact_at new at).linked → Turning first h t facts → Turning first g u new
one_differs {first} at {h} {g} {t} {u} {facts} {new} held flags known here turning = record {
  each = λ b. ⊎_elim
      (λ e. subst (λ n. TurnsAt first n (held_at g n) (flag_at u n) (fact_at new n).linked) (sym e) here)
      (λ ne. three (λ (o : Option Buffer) (f : Flags) (x : Fact). TurnsAt first b o f x.linked) (held b ne) (flags b ne) (known b ne) (turning.each b))
      (cases_eq b at);
}

pub same_held : {first : ℕ} {h g : Held} {t : Turns} {facts : List Fact} → ((q : ℕ) → held_at g q ≡ held_at h q) → Turning first h t facts → Turning first g t facts
same_held {first} {h} {g} {t} {facts} same turning = record {
  each = λ b. subst (λ (o : Option Buffer). TurnsAt first b o (flag_at t b) (fact_at facts b).linked) (sym (same b)) (turning.each b);
}

-- ---- nothing is held

pub turning_opened : (first n : ℕ) → Turning first no_buffers (no_turns n) (replicate n no_fact)
turning_opened first n = record {
  each = λ b. record {
    begins = λ d. never (sym (ap (λ (f : Flags). f.dirty) (calm b)) ∙ d);
    held = λ d le. never (sym (ap (λ (f : Flags). f.dirty) (calm b)) ∙ d);
    turn = λ c l. never (sym (ap is_changed (none b)) ∙ c);
    unheld = λ le e. ap (λ (f : Flags). f.tried) (calm b);
  };
}
  where
    calm : (b : ℕ) → flag_at (no_turns n) b ≡ quiet
    calm b = ⊎_elim (λ lt. get_or-replicate n b quiet quiet lt) (λ ge. get_or_past (replicate n quiet) b quiet (let l = length-replicate n quiet in omega (arith, ge, l))) (cases_lt b n)

-- ---- a block is given out

pub turning_given : {region : Region} {t : Turns} {first count low : ℕ} (facts : List Fact) (at place : ℕ) (f : Fact) (bytes : List ℕ) {h : Held}
    → IsData first count at → place ≡ label_block at → f.linked ≡ false → Placed region t facts first count → Holding low first count region h → Turning first h t facts
    → Turning first (used (put (unlisted h at) at (buffer_of bytes true true))) (changed t place 0) (set facts at f)
turning_given {region} {t} {first} {count} facts at place f bytes {h} block is apart placed holding turning =
    let b0 = block.0 in
    let b1 = block.1 in
    let p = placed.is_place in
    let begins = placed.begins in
    let before : place < first = omega (arith, is, p, b1) in
    let lt : at < length facts = let n = placed.fact_count in omega (arith, b1, n) in
    let labels : Turning first h (changed t place 0) facts = one_differs place (λ q ne. refl) (λ q ne. change_other t place 0 q ne) (λ q ne. refl)
    (record {
      begins = λ d. omega (arith, is);
      held = λ d le. absurd (omega (arith, le, before));
      turn = λ c l. absurd (unheld (held_at h place) refl c before);
      unheld = λ le e. absurd (omega (arith, le, before));
    }) turning in
    one_differs at (λ q ne. put_other (unlisted h at) at (buffer_of bytes true true) q ne) (λ q ne. refl) (λ q ne. get_or-set_other facts at q f no_fact ne)
    (record {
      begins = λ d. omega (arith, b0, begins);
      held = λ d le. ap is_changed (put_same (unlisted h at) at (buffer_of bytes true true));
      turn = λ c l. never (sym apart ∙ sym (ap (λ (x : Fact). x.linked) (get_or-set_same facts at f no_fact lt)) ∙ l);
      unheld = λ le e. some_none (buffer_of bytes true true) (sym (put_same (unlisted h at) at (buffer_of bytes true true)) ∙ e);
    }) labels
  where
    unheld : (o : Option Buffer) → held_at h place ≡ o → is_changed (held_at h place) ≡ true → place < first → ⊥
    unheld (Some x) e c lt = let le = (holding.block place x e).0 in omega (arith, le, lt)
    unheld None e c lt = never (sym (ap is_changed e) ∙ c)

-- ---- a pinned block gets other bytes

pub turning_refilled : {first count low : ℕ} {region : Region} (facts : List Fact) (t : Turns) (at : ℕ) {bytes : List ℕ} {old new : Held} → at < length facts → at < length t.flags
    → Refills at bytes old new → Placed region t facts first count → Holding low first count region old → Turning first old t facts → Turning first new (turned facts t at) (turned_facts facts t at)
turning_refilled {first} {count} {low} {region} facts t at {bytes} {old} {new} lt within r placed holding turning =
    one_differs at r.others (flags_turned facts t at lt within)
    (λ q ne. by_case facts t at lt within (λ (x : Turns) (fs : List Fact). fact_at fs q ≡ fact_at facts q) (λ _. refl) (λ _. get_or-set_other facts at q (record (fact_at facts at) { owes = false }) no_fact ne))
    (record {
      begins = λ d. let b0 = (holding.block at r.was r.held).0 in let begins = placed.begins in omega (arith, b0, begins);
      held = λ d le. ap is_changed r.here;
      turn = λ c. by_case facts t at lt within (λ (x : Turns) (fs : List Fact). (fact_at fs at).linked ≡ true → (flag_at x at).dirty ≡ true)
          (λ calm l. still (fact_at facts at).linked (flag_at t at).dirty calm l)
          (λ due l. dirty_here facts t at lt within due);
      unheld = λ le e. some_none (record { block = bytes; dirty = true; pinned = r.was.pinned }) (sym r.here ∙ e);
    }) turning
  where
    still : (l d : Bool) → (l && not d) ≡ false → l ≡ true → d ≡ true
    still true true e h = refl
    still true false e h = absurd (cc)
    still false d e h = never h

-- ---- a block is pinned

pub turning_pins : {first : ℕ} {at : ℕ} {old new : Held} {t : Turns} (facts fs : List Fact) (rank : ℕ) → at < length facts → fs ≡ set facts at (owing_as rank (fact_at facts at)) → Pins at old new → Turning first old t facts → Turning first new t fs
turning_pins {first} {at} {old} {new} {t} facts fs rank lt is p turning = subst (λ (z : List Fact). Turning first new t z) (sym is) (
    let f = owing_as rank (fact_at facts at) in
    let was = turning.each at in
    let link = ap (λ (x : Fact). x.linked) (get_or-set_same facts at f no_fact lt) in
    one_differs at p.others (λ q ne. refl) (λ q ne. get_or-set_other facts at q f no_fact ne)
    (record {
      begins = was.begins;
      held = λ d le. ap is_changed p.here ∙ sym (ap is_changed p.held) ∙ was.held d le;
      turn = λ c l. was.turn (ap is_changed p.held ∙ sym (ap is_changed p.here) ∙ c) (sym link ∙ l);
      unheld = λ le e. some_none (pinned_as true p.was) (sym p.here ∙ e);
    }) turning)

pub turning_brought : {first count : ℕ} {kind : Kind} {disk : Holds} {at : ℕ} {old new : Held} {t : Turns} (facts fs : List Fact) (rank : ℕ) → at < length facts → fs ≡ set facts at (owing_as rank (fact_at facts at))
    → IsData first count at → held_at old at ≡ None → Others at old new → MayBring first count kind disk at old new → Turning first old t facts → Turning first new t fs
turning_brought {first} {count} {kind} {disk} {at} {old} {new} {t} facts fs rank lt is block free o m turning = subst (λ (z : List Fact). Turning first new t z) (sym is) (
    let f = owing_as rank (fact_at facts at) in
    let was = turning.each at in
    one_differs at o.held (λ q ne. refl) (λ q ne. get_or-set_other facts at q f no_fact ne)
    (record {
      begins = was.begins;
      held = λ d le. never (sym (ap is_changed free) ∙ was.held d le);
      turn = λ c l. never (sym (unchanged m) ∙ c);
      unheld = λ le e. was.unheld le free;
    }) turning)
  where
    unchanged : MayBring first count kind disk at old new → is_changed (held_at new at) ≡ false
    unchanged m = ⊎_elim (λ (b : Brought first count kind disk at old new). ap is_changed (loaded_here b.loaded)) (λ e. ap is_changed e) m

-- ---- a write was answered

module _ (facts : List Fact) (at : ℕ) (pinned : Bool) (lt : at < length facts) where
  pub links_written : (fact_at (set facts at (written_as pinned (fact_at facts at))) at).linked ≡ (fact_at facts at).linked
  links_written = ap (λ (x : Fact). x.linked) (get_or-set_same facts at (written_as pinned (fact_at facts at)) no_fact lt)

  pub other_written : (q : ℕ) → q ≢ at → fact_at (set facts at (written_as pinned (fact_at facts at))) q ≡ fact_at facts q
  other_written q ne = get_or-set_other facts at q (written_as pinned (fact_at facts at)) no_fact ne

-- What is held of a block that landed.
pub record Settles (at : ℕ) (linked : Bool) (old new : Held) : Type 0 where
  pub others : (q : ℕ) → q ≢ at → held_at new q ≡ held_at old q
  pub here : held_at new at ≡ cond linked (option_map_or (λ (x : Buffer). Some (settled x)) (held_at old at) None) (held_at old at)
  pub clean : new.clean ≡ old.clean
  pub room : new.room ≡ old.room

pub settles_of : (at : ℕ) (linked : Bool) (old new : Held) → new ≡ cond linked (updated old at settled) old → Settles at linked old new
settles_of at linked old new is = by linked refl
  where
    by : (l : Bool) → linked ≡ l → Settles at linked old new
    by false e = let all : new ≡ old = is ∙ ap (λ b. cond b (updated old at settled) old) e in record {
      others = λ q ne. ap (λ (h : Held). held_at h q) all;
      here = ap (λ (h : Held). held_at h at) all ∙ sym (ap (λ b. cond b (option_map_or (λ (x : Buffer). Some (settled x)) (held_at old at) None) (held_at old at)) e);
      clean = ap (λ (h : Held). h.clean) all;
      room = ap (λ (h : Held). h.room) all;
    }
    by true e = at_held (held_at old at) refl
      where
        put_all : new ≡ updated old at settled
        put_all = is ∙ ap (λ b. cond b (updated old at settled) old) e

        front : (o : Option Buffer) → option_map_or (λ (x : Buffer). Some (settled x)) o None ≡ cond linked (option_map_or (λ (x : Buffer). Some (settled x)) o None) o
        front o = sym (ap (λ b. cond b (option_map_or (λ (x : Buffer). Some (settled x)) o None) o) e)

        at_held : (o : Option Buffer) → held_at old at ≡ o → Settles at linked old new
        at_held None h = let all : new ≡ old = put_all ∙ ap (λ (o : Option Buffer). option_map_or (λ b. put old at (settled b)) o old) h in record {
          others = λ q ne. ap (λ (g : Held). held_at g q) all;
          here = ap (λ (g : Held). held_at g at) all ∙ h ∙ sym (ap (λ (o : Option Buffer). option_map_or (λ (x : Buffer). Some (settled x)) o None) h) ∙ front (held_at old at);
          clean = ap (λ (g : Held). g.clean) all;
          room = ap (λ (g : Held). g.room) all;
        }
        at_held (Some x) h = let all : new ≡ put old at (settled x) = put_all ∙ ap (λ (o : Option Buffer). option_map_or (λ b. put old at (settled b)) o old) h in record {
          others = λ q ne. ap (λ (g : Held). held_at g q) all ∙ put_other old at (settled x) q ne;
          here = ap (λ (g : Held). held_at g at) all ∙ put_same old at (settled x) ∙ sym (ap (λ (o : Option Buffer). option_map_or (λ (x : Buffer). Some (settled x)) o None) h) ∙ front (held_at old at);
          clean = ap (λ (g : Held). g.clean) all;
          room = ap (λ (g : Held). g.room) all;
        }

module _ (t : Turns) (at : ℕ) (within : at < length t.flags) where
  pub landed_here : flag_at (wrote t at true) at ≡ flags_of false Written (flag_at t at).rank
  landed_here = get_or-set_same t.flags at (flags_of false Written (flag_at t at).rank) quiet within

  pub missed_here : flag_at (wrote t at false) at ≡ flags_of true Failed (flag_at t at).rank
  missed_here = get_or-set_same t.flags at (flags_of true Failed (flag_at t at).rank) quiet within

  pub landed_other : (q : ℕ) → q ≢ at → flag_at (wrote t at true) q ≡ flag_at t q
  landed_other q ne = get_or-set_other t.flags at q (flags_of false Written (flag_at t at).rank) quiet ne

  pub missed_other : (q : ℕ) → q ≢ at → flag_at (wrote t at false) q ≡ flag_at t q
  missed_other q ne = get_or-set_other t.flags at q (flags_of true Failed (flag_at t at).rank) quiet ne

pub turning_landed : {first : ℕ} (facts : List Fact) (t : Turns) (at : ℕ) (pinned : Bool) {old new : Held} → at < length facts → at < length t.flags → (flag_at t at).dirty ≡ true
    → Settles at (fact_at facts at).linked old new → Turning first old t facts → Turning first new (wrote t at true) (set facts at (written_as pinned (fact_at facts at)))
turning_landed {first} facts t at pinned {old} {new} lt within dirty s turning =
    let was = turning.each at in
    one_differs at s.others (landed_other t at within) (other_written facts at pinned lt)
    (record {
      begins = λ d. never (sym (ap (λ (f : Flags). f.dirty) (landed_here t at within)) ∙ d);
      held = λ d le. never (sym (ap (λ (f : Flags). f.dirty) (landed_here t at within)) ∙ d);
      turn = λ c l. never (clean (fact_at facts at).linked (held_at old at) (sym (links_written facts at pinned lt) ∙ l) (sym (ap is_changed s.here) ∙ c));
      unheld = λ le e. absurd (gone (fact_at facts at).linked (held_at old at) (was.held dirty le) (sym s.here ∙ e));
    }) turning
  where
    clean : (l : Bool) (o : Option Buffer) → l ≡ true → is_changed (cond l (option_map_or (λ (x : Buffer). Some (settled x)) o None) o) ≡ true → false ≡ true
    clean true (Some x) e c = c
    clean true None e c = c
    clean false o e c = e

    gone : (l : Bool) (o : Option Buffer) → is_changed o ≡ true → cond l (option_map_or (λ (x : Buffer). Some (settled x)) o None) o ≡ None → ⊥
    gone true (Some x) c e = some_none (settled x) e
    gone false (Some x) c e = some_none x e
    gone l None c e = never c

pub turning_missed : {first : ℕ} (facts : List Fact) (t : Turns) (at : ℕ) {held : Held} → at < length facts → at < length t.flags → (flag_at t at).dirty ≡ true
    → Turning first held t facts → Turning first held (wrote t at false) (set facts at (written_as false (fact_at facts at)))
turning_missed {first} facts t at {held} lt within dirty turning =
    let was = turning.each at in
    one_differs at (λ q ne. refl) (missed_other t at within) (other_written facts at false lt)
    (record {
      begins = λ d. was.begins dirty;
      held = λ d le. was.held dirty le;
      turn = λ c l. ap (λ (f : Flags). f.dirty) (missed_here t at within);
      unheld = λ le e. never (sym (ap is_changed e) ∙ was.held dirty le);
    }) turning

pub turning_synced : {first : ℕ} {held : Held} {t u : Turns} {facts : List Fact} → IsSynced t u → Turning first held t facts → Turning first held u facts
turning_synced {first} {held} {t} {u} {facts} s turning = record {
  each = λ b.
      let was = turning.each b in
      let same = ap (λ (f : Flags). f.dirty) (s.each b) in
      record {
        begins = λ d. was.begins (sym same ∙ d);
        held = λ d le. was.held (sym same ∙ d) le;
        turn = λ c l. same ∙ was.turn c l;
        unheld = λ le e. ap (λ (f : Flags). f.tried) (s.each b) ∙ ap settled_tried (was.unheld le e);
      };
}
