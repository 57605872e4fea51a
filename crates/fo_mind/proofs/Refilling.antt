-- A pinned block gets other bytes.
use Rattle.std.proofs.Common.{◌≡◌, ◌≢◌, ◌⊎◌, inl, inr, ⊎_elim, ℕ, zero, suc, ◌+◌, ◌-◌, ◌*◌, ◌<◌, ◌&&◌, ◌||◌, Bool, true, false, not, cond, nat_eq, List, ◌++◌, take, drop, length, set, Option, Some, None, refl, sym, ap, ◌∙◌, subst, arith}
use Rattle.std.specs.Option.{option_map, option_map_or}
use Rattle.std.specs.Map.{lookup}
use Rattle.std.proofs.lemmas.Bool.{cases_eq}
use Rattle.std.proofs.lemmas.List.{append-nil, drop_all, length-set, get_or-set_same, get_or-set_other}
use Rattle.std.proofs.lemmas.List.Sums.{sum_by-set, get_or-le-sum_by}
use Rattle.fo_disk.specs.Disk.{versions_of, latest_of}
use Rattle.fo_image.specs.declared.types.Kind.{Kind}
use Rattle.fo_image.specs.declared.types.Kind.TheVariants.{Data, Dir, Root}
use Rattle.fo_buffers.specs.declared.block.Buffer.{Buffer}
use Rattle.fo_buffers.specs.Held.{Held, held_at, block_in, is_dirty, is_pinned, put, updated, with_bytes}
use Rattle.fo_order.specs.declared.marks.Flags.{Flags}
use Rattle.fo_order.specs.Keeps.{Turns}
use Rattle.fo_order.specs.Flags.{flags_of, quiet}
use Rattle.fo_order.specs.Turns.{flag_at, changed, noted}
use Rattle.fo_labels.specs.Region.{Region}
use Rattle.fo_crash.specs.Images.{Content, target}
use Rattle.fo_crash.specs.Steps.{PutsBytes}
use Rattle.fo_slots.specs.Read.{blanked, read}
use Rattle.fo_ports.specs.Blocks.{ReadsSlots, MayPut, put_at}
use Rattle.fo_ports.specs.State.{AddsNoWait, Calm, none}
use Rattle.fo_facts.specs.Known.{fact_at, no_fact}
use Rattle.fo_facts.specs.Counts.{owes}
use Rattle.fo_bring.specs.Blocks.{Good, HasZeros}
use Rattle.fo_bring.proofs.Buffering.{put_same, put_other}
use Rattle.fo_facts.specs.declared.fact.Fact.{Fact}
use Rattle.fo_waits.specs.declared.listed.Wait.{Wait}
use Rattle.fo_waits.specs.Listed.{Listed, is_active}
use Rattle.fo_mind.specs.Parts.{Parts, state_of, IsDirty, IsHeld, IsPinned, bytes_of, content_at, label_at, memory, one_content}
use Rattle.fo_mind.specs.Sound.{Placed, Holding, Waiting, Owing, Roomy}
use Rattle.fo_mind.specs.Frames.{SameMarks}
use Rattle.fo_mind.specs.Changes.{Refilled, takes_turn, turned, turned_facts}
use Rattle.fo_mind.specs.Laws.{beyond, held_content, held_pinned, pinned_held, some_held}
use Rattle.fo_mind.proofs.Keeping.{holding_more}
use Rattle.fo_mind.proofs.Getting.{same_marks}
use Rattle.fo_mind.proofs.Giving.{change_count, change_other}
use Rattle.fo_mind.proofs.Putting.{blanked_put}

same_some : (x y : Buffer) → Some x ≡ Some y → x ≡ y
same_some x y e = cc

-- ---- the buffer

pub record Refills (at : ℕ) (bytes : List ℕ) (old new : Held) : Type 0 where
  pub was : Buffer
  pub held : held_at old at ≡ Some was
  pub here : held_at new at ≡ Some (record { block = bytes; dirty = true; pinned = was.pinned })
  pub others : (q : ℕ) → q ≢ at → held_at new q ≡ held_at old q
  pub clean : new.clean ≡ old.clean
  pub room : new.room ≡ old.room

whole : (bytes was : List ℕ) → length was ≡ length bytes → take 0 was ++ bytes ++ drop (0 + length bytes) was ≡ bytes
whole bytes was same =
    let e : 0 + length bytes ≡ length was = omega (arith, same) in
    ap (λ (d : List ℕ). bytes ++ d) (drop_all (0 + length bytes) was (omega (arith, e))) ∙ append-nil bytes

pub refills_of : {low first count : ℕ} {region : Region} (at : ℕ) (bytes : List ℕ) (old new : Held) → Holding low first count region old → IsHeld old at → length bytes ≡ 8192 → new ≡ updated old at (with_bytes 0 bytes) → Refills at bytes old new
refills_of at bytes old new holding some long is =
    let x = some_held (held_at old at) some in
    let good = holding.good at x.0 x.1 in
    let l = good.long in
    let e : updated old at (with_bytes 0 bytes) ≡ put old at (with_bytes 0 bytes x.0) = ap (λ (o : Option Buffer). option_map_or (λ b. put old at (with_bytes 0 bytes b)) o old) x.1 in
    let all : new ≡ put old at (with_bytes 0 bytes x.0) = is ∙ e in
    record {
      was = x.0;
      held = x.1;
      here = ap (λ (h : Held). held_at h at) all ∙ put_same old at (with_bytes 0 bytes x.0) ∙ ap (λ (b : List ℕ). Some (record { block = b; dirty = true; pinned = x.0.pinned })) (whole bytes x.0.block (omega (arith, l, long)));
      others = λ q ne. ap (λ (h : Held). held_at h q) all ∙ put_other old at (with_bytes 0 bytes x.0) q ne;
      clean = ap (λ (h : Held). h.clean) all;
      room = ap (λ (h : Held). h.room) all;
    }

module _ {at : ℕ} {bytes : List ℕ} {old new : Held} (r : Refills at bytes old new) where
  pub holding_refilled : {low first count : ℕ} {region : Region} → Good first count (label_at region at).kind bytes → Holding low first count region old → Holding low first count region new
  holding_refilled good h = holding_more r.others (record { block = bytes; dirty = true; pinned = r.was.pinned }) r.here (h.block at r.was r.held) good (h.kept at r.was r.held) h

  pub waiting_refilled : {region : Region} {waits : List Wait} → ((a k : ℕ) → Listed waits a at k → is_active ((read (label_at region at).kind bytes).slot (2 * k)) ≡ true) → Waiting region old waits → Waiting region new waits
  waiting_refilled {region} {waits} used waiting = record {
    within = waiting.within;
    used = λ a on k w. ⊎_elim
        (λ e. subst (λ b. option_map_or (λ (x : Buffer). is_active ((read (label_at region b).kind x.block).slot (2 * k))) (held_at new b) false ≡ true) (sym e)
        (ap (λ (o : Option Buffer). option_map_or (λ (x : Buffer). is_active ((read (label_at region at).kind x.block).slot (2 * k))) o false) r.here ∙ used a k (subst (λ b. Listed waits a b k) e w)))
        (λ ne. ap (λ (o : Option Buffer). option_map_or (λ (x : Buffer). is_active ((read (label_at region on).kind x.block).slot (2 * k))) o false) (r.others on ne) ∙ waiting.used a on k w)
        (cases_eq on at);
  }

-- ---- the turn

-- a block of which memory is known to have a turn, or for which a unit of room is kept
pub turn_room : {held : Held} {turns : Turns} {region : Region} {low spare pins more : ℕ} (facts : List Fact) (at : ℕ) → at < length facts → Roomy held turns region facts low spare pins more → (fact_at facts at).owes ≡ true → 0 < turns.room
turn_room {held} {turns} facts at lt roomy owed =
    let le = get_or-le-sum_by (λ (f : Fact). cond (owes f) 1 0) facts at no_fact lt in
    let one : cond {A = ℕ} (owes (fact_at facts at)) 1 0 ≡ 1 = ap (λ b. cond {A = ℕ} b 1 0) owed in
    let room = roomy.turn_room in
    omega (arith, le, one, room)

-- a pinned block that has no turn owes one
pub owed_pinned : {held : Held} {turns : Turns} (facts : List Fact) (at : ℕ) → IsPinned held at → Owing held turns facts → takes_turn facts turns at ≡ true → (fact_at facts at).owes ≡ true
owed_pinned {held} {turns} facts at pinned owing takes =
    let x = pinned_held (held_at held at) pinned in
    due (fact_at facts at).linked (fact_at facts at).owes (flag_at turns at).dirty takes (owing.each at x.0 x.1 x.2)
  where
    due : (l o d : Bool) → (l && not d) ≡ true → (o || d) ≡ true → o ≡ true
    due true true d e f = refl
    due true false true e f = absurd (cc)
    due true false false e f = absurd (cc)
    due false o d e f = absurd (cc)

module _ (facts : List Fact) (t : Turns) (at : ℕ) (lt : at < length facts) (within : at < length t.flags) where
  abbrev off : Fact
  off = record (fact_at facts at) { owes = false }

  pub by_case : (P : Turns → List Fact → Type 0) → (takes_turn facts t at ≡ false → P t facts) → (takes_turn facts t at ≡ true → P (changed t at (fact_at facts at).rank) (set facts at (record (fact_at facts at) { owes = false }))) → P (turned facts t at) (turned_facts facts t at)
  by_case P calm due = by (takes_turn facts t at) refl
    where
      by : (b : Bool) → takes_turn facts t at ≡ b → P (cond b (changed t at (fact_at facts at).rank) t) (cond b (set facts at (record (fact_at facts at) { owes = false })) facts)
      by true e = due e
      by false e = calm e

  -- the block that took a turn is dirty there
  has_turn : (flag_at t at).dirty ≡ false → changed t at (fact_at facts at).rank ≡ record (noted t at (flags_of true (flag_at t at).tried (fact_at facts at).rank)) { room = t.room - 1 }
  has_turn clean = ap (λ (b : Bool). cond (b && nat_eq (flag_at t at).rank (fact_at facts at).rank) t (record (noted t at (flags_of true (flag_at t at).tried (fact_at facts at).rank)) { room = t.room - 1 })) clean

  not_dirty : takes_turn facts t at ≡ true → (flag_at t at).dirty ≡ false
  not_dirty e = by (fact_at facts at).linked (flag_at t at).dirty e
    where
      by : (l d : Bool) → (l && not d) ≡ true → d ≡ false
      by true false e = refl
      by true true e = absurd (cc)
      by false d e = absurd (cc)

  pub dirty_here : takes_turn facts t at ≡ true → (flag_at (changed t at (fact_at facts at).rank) at).dirty ≡ true
  dirty_here e = ap (λ (x : Turns). (flag_at x at).dirty) (has_turn (not_dirty e)) ∙ ap (λ (f : Flags). f.dirty) (get_or-set_same t.flags at (flags_of true (flag_at t at).tried (fact_at facts at).rank) quiet within)

  pub placed_turned : {region : Region} {first count : ℕ} → Placed region t facts first count → Placed region (turned facts t at) (turned_facts facts t at) first count
  placed_turned {region} {first} {count} placed = by_case (λ (x : Turns) (fs : List Fact). Placed region x fs first count) (λ _. placed) (λ _. record {
    is_first = placed.is_first;
    is_count = placed.is_count;
    is_place = placed.is_place;
    begins = placed.begins;
    small = placed.small;
    flag_count = change_count t at (fact_at facts at).rank ∙ placed.flag_count;
    fact_count = length-set facts at (record (fact_at facts at) { owes = false }) ∙ placed.fact_count;
  })

  pub owing_turned : {held : Held} → Owing held t facts → Owing held (turned facts t at) (turned_facts facts t at)
  owing_turned {held} owing = by_case (λ (x : Turns) (fs : List Fact). Owing held x fs) (λ _. owing) (λ e. record {
    each = λ b x is pinned. ⊎_elim
        (λ same. subst (λ n. ((fact_at (set facts at (record (fact_at facts at) { owes = false })) n).owes || (flag_at (changed t at (fact_at facts at).rank) n).dirty) ≡ true) (sym same) (or_right (fact_at (set facts at (record (fact_at facts at) { owes = false })) at).owes (flag_at (changed t at (fact_at facts at).rank) at).dirty (dirty_here e)))
        (λ ne. ap (λ (z : Fact). z.owes || (flag_at (changed t at (fact_at facts at).rank) b).dirty) (get_or-set_other facts at b (record (fact_at facts at) { owes = false }) no_fact ne)
        ∙ ap (λ (f : Flags). (fact_at facts b).owes || f.dirty) (change_other t at (fact_at facts at).rank b ne)
        ∙ owing.each b x is pinned)
        (cases_eq b at);
  })
    where
      or_right : (a b : Bool) → b ≡ true → (a || b) ≡ true
      or_right true b e = refl
      or_right false b e = e

  pub roomy_turned : {held : Held} {region : Region} {low spare pins more : ℕ} → (takes_turn facts t at ≡ true → (fact_at facts at).owes ≡ true) → Roomy held t region facts low spare pins more → Roomy held (turned facts t at) region (turned_facts facts t at) low spare pins more
  roomy_turned {held} {region} {low} {spare} {pins} {more} owed roomy = by_case (λ (x : Turns) (fs : List Fact). Roomy held x region fs low spare pins more) (λ _. roomy) (λ e.
      let sums = sum_by-set (λ (f : Fact). cond (owes f) 1 0) facts at (record (fact_at facts at) { owes = false }) no_fact lt in
      let one : cond {A = ℕ} (owes (fact_at facts at)) 1 0 ≡ 1 = ap (λ b. cond {A = ℕ} b 1 0) (owed e) in
      let room = ap (λ (z : Turns). z.room) (has_turn (not_dirty e)) in
      let was = roomy.turn_room in
      record { buffer_room = roomy.buffer_room; turn_room = omega (arith, sums, one, room, was); usable = roomy.usable })

  pub marks_turned : SameMarks facts (turned_facts facts t at)
  marks_turned = by_case (λ (x : Turns) (fs : List Fact). SameMarks facts fs) (λ _. same_marks facts facts refl) (λ _. record {
    as_long = length-set facts at off;
    apart = λ b. each b (λ (x : Fact). x.apart) refl;
    origin = λ b. each b (λ (x : Fact). x.origin) refl;
    linked = λ b. each b (λ (x : Fact). x.linked) refl;
    fresh = λ b. each b (λ (x : Fact). x.fresh) refl;
    sealed = λ b. each b (λ (x : Fact). x.sealed) refl;
  })
    where
      each : {X : Type 0} (b : ℕ) (g : Fact → X) → g (record (fact_at facts at) { owes = false }) ≡ g (fact_at facts at) → g (fact_at (set facts at (record (fact_at facts at) { owes = false })) b) ≡ g (fact_at facts b)
      each b g same = ⊎_elim
          (λ e. subst (λ n. g (fact_at (set facts at (record (fact_at facts at) { owes = false })) n) ≡ g (fact_at facts n)) (sym e) (ap g (get_or-set_same facts at (record (fact_at facts at) { owes = false }) no_fact lt) ∙ same))
          (λ ne. ap g (get_or-set_other facts at b (record (fact_at facts at) { owes = false }) no_fact ne))
          (cases_eq b at)

  pub flags_turned : (b : ℕ) → b ≢ at → flag_at (turned facts t at) b ≡ flag_at t b
  flags_turned b ne = by_case (λ (x : Turns) (fs : List Fact). flag_at x b ≡ flag_at t b) (λ _. refl) (λ _. change_other t at (fact_at facts at).rank b ne)

pub owing_refilled : {at : ℕ} {bytes : List ℕ} {old new : Held} {t : Turns} {facts : List Fact} → Refills at bytes old new → Owing old t facts → Owing new t facts
owing_refilled {at} {bytes} {old} {new} {t} {facts} r owing = record {
  each = λ b x is pinned. ⊎_elim
      (λ e. subst (λ n. ((fact_at facts n).owes || (flag_at t n).dirty) ≡ true) (sym e) (owing.each at r.was r.held (ap (λ (z : Buffer). z.pinned) (same_some (record { block = bytes; dirty = true; pinned = r.was.pinned }) x (sym r.here ∙ ap (held_at new) (sym e) ∙ is)) ∙ pinned)))
      (λ ne. owing.each b x (sym (r.others b ne) ∙ is) pinned)
      (cases_eq b at);
}

pub roomy_refilled : {at : ℕ} {bytes : List ℕ} {old new : Held} {t : Turns} {region : Region} {facts : List Fact} {low spare pins more : ℕ} → Refills at bytes old new → Roomy old t region facts low spare pins more → Roomy new t region facts low spare pins more
roomy_refilled r roomy = record { buffer_room = let b = roomy.buffer_room in let e = r.room in omega (arith, b, e); turn_room = roomy.turn_room; usable = roomy.usable }

-- it is pinned still
pub pinned_refilled : {at : ℕ} {bytes : List ℕ} {old new : Held} → Refills at bytes old new → IsPinned old at → IsPinned new at
pinned_refilled r pinned = ap (λ (o : Option Buffer). option_map_or is_pinned o false) r.here ∙ sym (ap (λ (o : Option Buffer). option_map_or is_pinned o false) r.held) ∙ pinned

-- ---- what calls on blocks see

module _ (p : Parts) (first count at : ℕ) (bytes : List ℕ) (g : Held) (t : Turns) (fs : List Fact)
    (placed : Placed p.region p.turns p.facts first count) (holding : Holding p.one.low first count p.region p.held)
    (r : Refills at bytes p.held g) (marks : SameMarks p.facts fs) (turns : (b : ℕ) → b ≢ at → flag_at t b ≡ flag_at p.turns b) where
  far : nat_eq at 1 ≡ false
  far = beyond at first placed.begins (holding.block at r.was r.held).0

  memory_other : (b : ℕ) → b ≢ at → memory (record p { held = g; turns = t; facts = fs }) b ≡ memory p b
  memory_other b ne = ap (cond (nat_eq b 1) (one_content p.one p.one_bytes))
      (ap (λ (o : Option Buffer). read (label_at p.region b).kind (bytes_of o (lookup (nat_eq b) g.clean) (latest_of (versions_of p.disk b)))) (r.others b ne)
      ∙ ap (λ (c : List (ℕ × List ℕ)). read (label_at p.region b).kind (bytes_of (held_at p.held b) (lookup (nat_eq b) c) (latest_of (versions_of p.disk b)))) r.clean)

  memory_here : memory (record p { held = g; turns = t; facts = fs }) at ≡ read (label_at p.region at).kind bytes
  memory_here =
      ap (λ t. cond t (one_content p.one p.one_bytes) (content_at p.region g p.disk at)) far
      ∙ ap (λ (o : Option Buffer). read (label_at p.region at).kind (bytes_of o (lookup (nat_eq at) g.clean) (latest_of (versions_of p.disk at)))) r.here

  memory_was : memory p at ≡ read (label_at p.region at).kind r.was.block
  memory_was = held_content p first count at r.was placed holding r.held

  pub bytes_put : (from : ℕ) (bs : List ℕ) → bytes ≡ put_at from bs r.was.block → MayPut (label_at p.region at).kind from (from + length bs) → ((i : ℕ) → (read (label_at p.region at).kind bytes).slot i ≡ (read (label_at p.region at).kind r.was.block).slot i)
      → PutsBytes at (put_at from bs ((memory p at).bytes)) (memory p) (memory (record p { held = g; turns = t; facts = fs }))
  bytes_put from bs is may same = record {
    slots = λ b j. ⊎_elim
        (λ e. subst (λ n. (memory (record p { held = g; turns = t; facts = fs }) n).slot j ≡ (memory p n).slot j) (sym e)
        (ap (λ (c : Content). c.slot j) memory_here ∙ same j ∙ sym (ap (λ (c : Content). c.slot j) memory_was)))
        (λ ne. ap (λ (c : Content). c.slot j) (memory_other b ne))
        (cases_eq b at);
    here =
        ap (λ (c : Content). c.bytes) memory_here
        ∙ ap (blanked (label_at p.region at).kind) is
        ∙ blanked_put (label_at p.region at).kind from bs r.was.block (holding.good at r.was r.held).long may
        ∙ ap (put_at from bs) (sym (ap (λ (c : Content). c.bytes) memory_was));
    others = λ b ne. ap (λ (c : Content). c.bytes) (memory_other b ne);
  }

  pinned_stays : (b : ℕ) → IsPinned p.held b → IsPinned g b
  pinned_stays b pinned = ⊎_elim
      (λ e. subst (IsPinned g) (sym e) (pinned_refilled r (subst (IsPinned p.held) e pinned)))
      (λ ne. ap (λ (o : Option Buffer). option_map_or is_pinned o false) (r.others b ne) ∙ pinned)
      (cases_eq b at)

  pub dirty_was : (b : ℕ) → IsDirty t g b → IsDirty p.turns p.held b ⊎ (b ≡ at)
  dirty_was b d = ⊎_elim
      (λ e. inr e)
      (λ ne. inl (⊎_elim
      (λ turn. inl (sym (ap (λ (f : Flags). f.dirty) (turns b ne)) ∙ turn))
      (λ h. inr (sym (ap (λ (o : Option Buffer). option_map_or is_dirty o false) (r.others b ne)) ∙ h))
      d))
      (cases_eq b at)

  pub calm_put : Calm (λ b. b ≡ at) 0 (state_of p) (state_of (record p { held = g; turns = t; facts = fs }))
  calm_put = record {
    frame = record {
      stays = record {
        labels = λ b _. refl;
        marks = λ b _. (pinned_stays b, λ h. marks.sealed b ∙ h, λ h. marks.fresh b ∙ h);
        places = λ t. absurd t;
        rooted = λ t. absurd t;
        newborn = λ b _ h. sym (marks.linked b) ∙ h;
        apart = λ b _ _. (λ h. sym (marks.apart b) ∙ h, λ h. marks.apart b ∙ h);
        instead = λ b x _ _. (λ h. (sym (marks.apart b) ∙ h.0, sym (marks.origin b) ∙ h.1), λ h. (marks.apart b ∙ h.0, marks.origin b ∙ h.1));
        waits = λ a on j _ _ _ w. w;
      };
      dirty = dirty_was;
      uses = record { spare = omega arith; usable = omega arith; room = omega arith; pins = refl; moments = refl; left = λ k image h. h };
      numbers = record { next = refl; grants = λ h. h };
    };
    order = record { clearing = λ b j h. (λ none. none, h); goes_on = λ b j _ h. h };
    covered = record { covered = λ b. (λ h. h, λ h. h) };
    newborn = λ b h. marks.linked b ∙ h;
    queued = refl;
    no_removal = record { each = λ x e w h. h };
  }

-- ---- bytes

pub good_put : (first count : ℕ) (kind : Kind) (from end : ℕ) (old new : List ℕ) → Good first count kind old → MayPut kind from end → ((i : ℕ) → (read kind new).slot i ≡ (read kind old).slot i) → (ReadsSlots kind (read kind old) old → ReadsSlots kind (read kind new) new) → length new ≡ 8192 → Good first count kind new
good_put first count kind from end old new good may same slots long = record {
  long = long;
  slots = slots good.slots;
  within = record { each = λ j b e. good.within.each j b (ap target (sym (same j)) ∙ e) };
  zeros = none kind may;
}
  where
    none : (k : Kind) → MayPut k from end → HasZeros k new
    none (Data zero) m = tt
    none (Data (suc level)) m = absurd m
    none (Dir level) m = absurd m
    none Root m = tt

pub used_put : {region : Region} {held : Held} {waits : List Wait} (at : ℕ) (old new : List ℕ) → Some old ≡ option_map block_in (held_at held at) → ((i : ℕ) → (read (label_at region at).kind new).slot i ≡ (read (label_at region at).kind old).slot i) → Waiting region held waits → (a k : ℕ) → Listed waits a at k → is_active ((read (label_at region at).kind new).slot (2 * k)) ≡ true
used_put {region} {held} {waits} at old new is same waiting a k w = ap is_active (same (2 * k)) ∙ by (held_at held at) is (waiting.used a at k w)
  where
    by : (o : Option Buffer) → Some old ≡ option_map block_in o → option_map_or (λ (x : Buffer). is_active ((read (label_at region at).kind x.block).slot (2 * k))) o false ≡ true → is_active ((read (label_at region at).kind old).slot (2 * k)) ≡ true
    by (Some x) e h = let it : x.block ≡ old = cc in subst (λ (b : List ℕ). is_active ((read (label_at region at).kind b).slot (2 * k)) ≡ true) it h
    by None e h = absurd (cc)

pub within_facts : {region : Region} {t : Turns} {facts : List Fact} {held : Held} {low first count : ℕ} (at : ℕ) → Placed region t facts first count → Holding low first count region held → IsHeld held at → (at < length facts) × (at < length t.flags)
within_facts {held = held} at placed holding some =
    let x = some_held (held_at held at) some in
    let lt = (holding.block at x.0 x.1).1 in
    let n = placed.fact_count in
    let m = placed.flag_count in
    (omega (arith, lt, n), omega (arith, lt, m))

pub put_result : (p q : Parts) (first count at from : ℕ) (bs old new : List ℕ) → Placed p.region p.turns p.facts first count → Holding p.one.low first count p.region p.held → IsPinned p.held at → Some old ≡ option_map block_in (held_at p.held at) → length new ≡ 8192 → new ≡ put_at from bs old
    → MayPut (label_at p.region at).kind from (from + length bs) → ((i : ℕ) → (read (label_at p.region at).kind new).slot i ≡ (read (label_at p.region at).kind old).slot i) → Refilled at new p q
    → PutsBytes at (put_at from bs ((memory p at).bytes)) (memory p) (memory q) × Calm (λ b. b ≡ at) 0 (state_of p) (state_of q)
put_result p q first count at from bs old new placed holding pinned copy long is may same g =
    let some = held_pinned p.held at pinned in
    let r = refills_of at new p.held q.held holding some long g.held in
    let it : old ≡ r.was.block = was r.was (copy ∙ ap (option_map block_in) r.held) in
    let w = within_facts at placed holding some in
    let marks = subst (SameMarks p.facts) (sym g.facts) (marks_turned p.facts p.turns at w.0 w.1) in
    let turns : (b : ℕ) → b ≢ at → flag_at q.turns b ≡ flag_at p.turns b = λ b ne. ap (λ (t : Turns). flag_at t b) g.turns ∙ flags_turned p.facts p.turns at w.0 w.1 b ne in
    subst (λ (z : Parts). PutsBytes at (put_at from bs ((memory p at).bytes)) (memory p) (memory z) × Calm (λ b. b ≡ at) 0 (state_of p) (state_of z)) (sym g.rest) (
      bytes_put p first count at new q.held q.turns q.facts placed holding r marks turns from bs (is ∙ ap (put_at from bs) it) may (subst (λ (b : List ℕ). (i : ℕ) → (read (label_at p.region at).kind new).slot i ≡ (read (label_at p.region at).kind b).slot i) it same),
      calm_put p first count at new q.held q.turns q.facts placed holding r marks turns,
    )
  where
    was : (x : Buffer) → Some old ≡ option_map block_in (Some x) → old ≡ x.block
    was x e = cc

pub no_wait_put : {at : ℕ} {bytes : List ℕ} {p q : Parts} → Refilled at bytes p q → AddsNoWait none (state_of p) (state_of q)
no_wait_put {at} {bytes} {p} {q} g = subst (λ (z : Parts). AddsNoWait none (state_of p) (state_of z)) (sym g.rest) (record { each = λ a on j _ w. w })
