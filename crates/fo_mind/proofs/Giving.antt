-- A block that is given out.
use Rattle.std.proofs.Common.{◌≡◌, ◌≢◌, ⊎_elim, ℕ, ◌+◌, ◌-◌, ◌*◌, ◌<◌, ◌≤◌, ◌&&◌, ◌||◌, Bool, true, false, cond, nat_eq, List, length, set, Option, Some, None, refl, sym, ap, ◌∙◌, subst, arith}
use Rattle.std.specs.Option.{option_map_or}
use Rattle.std.proofs.lemmas.Bool.{cases_eq, cases_lt, lt-ltb, le-ltb}
use Rattle.std.proofs.lemmas.List.{length-set, get_or-set_same, get_or-set_other}
use Rattle.fo_image.specs.declared.types.Label.{Label}
use Rattle.fo_image.specs.declared.types.Kind.{Kind}
use Rattle.fo_image.specs.declared.types.State.TheVariants.{Live}
use Rattle.fo_image.specs.Format.{LabelHolds}
use Rattle.fo_image.specs.Usable.{free_label, is_usable, is_usable_in}
use Rattle.fo_buffers.specs.declared.block.Buffer.{Buffer}
use Rattle.fo_buffers.specs.Held.{Held, held_at, buffer_of, put, unlisted, used}
use Rattle.fo_order.specs.declared.marks.Flags.{Flags}
use Rattle.fo_order.specs.Flags.{flags_of, quiet}
use Rattle.fo_order.specs.Keeps.{Turns}
use Rattle.fo_order.specs.Turns.{flag_at, changed, is_ranked, noted}
use Rattle.fo_labels.specs.Region.{Region, IsDataBlock, label_of, relabeled, usable_count}
use Rattle.fo_slots.specs.Read.{read}
use Rattle.fo_facts.specs.Known.{fact_at, no_fact}
use Rattle.fo_bring.specs.Blocks.{IsData, Good}
use Rattle.fo_bring.proofs.Buffering.{put_same, put_other}
use Rattle.fo_facts.specs.declared.fact.Fact.{Fact}
use Rattle.fo_waits.specs.declared.listed.Wait.{Wait}
use Rattle.fo_waits.specs.declared.listed.Clearing.{Clearing}
use Rattle.fo_waits.specs.Listed.{Clears, is_active}
use Rattle.fo_mind.specs.Parts.{label_at}
use Rattle.fo_mind.specs.Sound.{Placed, Labelled, Holding, Waiting, Clearable, Owing, Roomy}
use Rattle.fo_mind.proofs.Keeping.{owed_more}

-- ---- labels

-- the label of a data block
pub data_label : (r : Region) (b : ℕ) → r.first ≤ b → label_at r b ≡ label_of r b
data_label r b le = ap (λ t. cond t free_label (label_of r b)) (le-ltb b r.first le)

pub label_here : (r : Region) (at : ℕ) (l : Label) → IsDataBlock r at → label_at (relabeled r at l) at ≡ l
label_here r at l is =
    let from = is.from in
    let to = is.to in
    data_label (relabeled r at l) at from ∙ get_or-set_same r.labels (at - r.first) l free_label (omega (arith, from, to))

pub label_other : (r : Region) (at : ℕ) (l : Label) (b : ℕ) → IsDataBlock r at → b ≢ at → label_at (relabeled r at l) b ≡ label_at r b
label_other r at l b is ne = ⊎_elim
    (λ lt. ap (λ t. cond t free_label (label_of (relabeled r at l) b)) (lt-ltb b r.first lt) ∙ sym (ap (λ t. cond t free_label (label_of r b)) (lt-ltb b r.first lt)))
    (λ ge.
    let from = is.from in
    data_label (relabeled r at l) b ge ∙ get_or-set_other r.labels (at - r.first) (b - r.first) l free_label (λ e. ne (omega (arith, ge, from, e))) ∙ sym (data_label r b ge))
    (cases_lt b r.first)

-- a usable block is not live
pub not_live : (low : ℕ) (l : Label) → is_usable low l ≡ true → l.state ≢ Live
not_live low l usable live = clash (sym (ap (λ s. is_usable_in s low l) live) ∙ usable)
  where
    clash : false ≡ true → ⊥
    clash h = cc

pub clash : {A : Type 0} → true ≡ false → A
clash e = cc

-- ---- turns

-- a change leaves the flags of others, and what is dirty
pub change_other : (t : Turns) (at rank b : ℕ) → b ≢ at → flag_at (changed t at rank) b ≡ flag_at t b
change_other t at rank b ne = by (is_ranked rank (flag_at t at)) refl
  where
    by : (r : Bool) → is_ranked rank (flag_at t at) ≡ r → flag_at (changed t at rank) b ≡ flag_at t b
    by true e = ap (λ (r : Bool). flag_at (cond r t (record (noted t at (flags_of true (flag_at t at).tried rank)) { room = t.room - 1 })) b) e
    by false e = ap (λ (r : Bool). flag_at (cond r t (record (noted t at (flags_of true (flag_at t at).tried rank)) { room = t.room - 1 })) b) e ∙ get_or-set_other t.flags at b (flags_of true (flag_at t at).tried rank) quiet ne

pub change_dirty : (t : Turns) (at rank b : ℕ) → at < length t.flags → (flag_at t b).dirty ≡ true → (flag_at (changed t at rank) b).dirty ≡ true
change_dirty t at rank b lt dirty = ⊎_elim
    (λ e. subst (λ n. (flag_at (changed t at rank) n).dirty ≡ true) (sym e) (here (is_ranked rank (flag_at t at)) refl))
    (λ ne. ap (λ (f : Flags). f.dirty) (change_other t at rank b ne) ∙ dirty)
    (cases_eq b at)
  where
    here : (r : Bool) → is_ranked rank (flag_at t at) ≡ r → (flag_at (changed t at rank) at).dirty ≡ true
    here true e = ap (λ (r : Bool). (flag_at (cond r t (record (noted t at (flags_of true (flag_at t at).tried rank)) { room = t.room - 1 })) at).dirty) e ∙ ranked (flag_at t at).dirty (nat_eq (flag_at t at).rank rank) e
      where
        ranked : (a c : Bool) → (a && c) ≡ true → a ≡ true
        ranked true c h = refl
        ranked false c h = absurd (cc)
    here false e = ap (λ (r : Bool). (flag_at (cond r t (record (noted t at (flags_of true (flag_at t at).tried rank)) { room = t.room - 1 })) at).dirty) e ∙ ap (λ (f : Flags). f.dirty) (get_or-set_same t.flags at (flags_of true (flag_at t at).tried rank) quiet lt)

pub change_count : (t : Turns) (at rank : ℕ) → length (changed t at rank).flags ≡ length t.flags
change_count t at rank = by (is_ranked rank (flag_at t at)) refl
  where
    by : (r : Bool) → is_ranked rank (flag_at t at) ≡ r → length (changed t at rank).flags ≡ length t.flags
    by true e = ap (λ (r : Bool). length (cond r t (record (noted t at (flags_of true (flag_at t at).tried rank)) { room = t.room - 1 })).flags) e
    by false e = ap (λ (r : Bool). length (cond r t (record (noted t at (flags_of true (flag_at t at).tried rank)) { room = t.room - 1 })).flags) e ∙ length-set t.flags at (flags_of true (flag_at t at).tried rank)

pub change_room : (t : Turns) (at rank : ℕ) → t.room ≤ (changed t at rank).room + 1
change_room t at rank = by (is_ranked rank (flag_at t at)) refl
  where
    by : (r : Bool) → is_ranked rank (flag_at t at) ≡ r → t.room ≤ (changed t at rank).room + 1
    by true e = let h = ap (λ (r : Bool). (cond r t (record (noted t at (flags_of true (flag_at t at).tried rank)) { room = t.room - 1 })).room) e in omega (arith, h)
    by false e = let h = ap (λ (r : Bool). (cond r t (record (noted t at (flags_of true (flag_at t at).tried rank)) { room = t.room - 1 })).room) e in omega (arith, h)

-- ---- what holds of the fields stays

module _ (r : Region) (at : ℕ) (l : Label) (is : IsDataBlock r at) where
  pub labelled_given : LabelHolds l → Labelled r → Labelled (relabeled r at l)
  labelled_given holds labelled = record {
    each = λ b block. ⊎_elim
        (λ e. subst LabelHolds (sym (ap (label_of (relabeled r at l)) e ∙ sym (data_label (relabeled r at l) at is.from) ∙ label_here r at l is)) holds)
        (λ ne.
        let n = length-set r.labels (at - r.first) l in
        let lo = block.0 in
        let hi = block.1 in
        subst LabelHolds (sym (sym (data_label (relabeled r at l) b lo) ∙ label_other r at l b is ne ∙ data_label r b lo)) (labelled.each b (lo, omega (arith, hi, n))))
        (cases_eq b at);
  }

  pub holding_given : {low first count : ℕ} {kind : Kind} {bytes : List ℕ} (h : Held) → l.kind ≡ kind → is_usable low l ≡ false → IsData first count at → Good first count kind bytes
      → Holding low first count r h → Holding low first count (relabeled r at l) (used (put (unlisted h at) at (buffer_of bytes true true)))
  holding_given {low} {first} {count} {kind} {bytes} h is_kind live block good holding = record {
    block = λ b x held. ⊎_elim
        (λ e. subst (IsData first count) (sym e) block)
        (λ ne. holding.block b x (sym (other b ne) ∙ held))
        (cases_eq b at);
    good = λ b x held. ⊎_elim
        (λ e. subst (λ (y : Buffer). Good first count (label_at (relabeled r at l) b).kind y.block) (same b x e held) (subst (λ (k : Kind). Good first count k bytes) (sym (ap (λ n. (label_at (relabeled r at l) n).kind) e ∙ ap (λ (z : Label). z.kind) (label_here r at l is) ∙ is_kind)) good))
        (λ ne. subst (λ (z : Label). Good first count z.kind x.block) (sym (label_other r at l b is ne)) (holding.good b x (sym (other b ne) ∙ held)))
        (cases_eq b at);
    kept = λ b x held. ⊎_elim
        (λ e. ap (λ n. is_usable low (label_at (relabeled r at l) n)) e ∙ ap (is_usable low) (label_here r at l is) ∙ live)
        (λ ne. ap (is_usable low) (label_other r at l b is ne) ∙ holding.kept b x (sym (other b ne) ∙ held))
        (cases_eq b at);
  }
    where
      h2 : Held
      h2 = used (put (unlisted h at) at (buffer_of bytes true true))

      other : (b : ℕ) → b ≢ at → held_at h2 b ≡ held_at h b
      other b ne = put_other (unlisted h at) at (buffer_of bytes true true) b ne

      same_some : (x y : Buffer) → Some x ≡ Some y → x ≡ y
      same_some x y e = cc

      same : (b : ℕ) (x : Buffer) → b ≡ at → held_at h2 b ≡ Some x → buffer_of bytes true true ≡ x
      same b x e held = same_some (buffer_of bytes true true) x (sym (put_same (unlisted h at) at (buffer_of bytes true true)) ∙ ap (held_at h2) (sym e) ∙ held)

  -- a usable block is neither held nor waited for
  pub not_held : {low first count : ℕ} (h : Held) (x : Buffer) → is_usable low (label_of r at) ≡ true → Holding low first count r h → held_at h at ≡ Some x → ⊥
  not_held {low} h x usable holding held = clash (sym usable ∙ ap (is_usable low) (sym (data_label r at is.from)) ∙ holding.kept at x held)

  pub waiting_given : {low first count : ℕ} {waits : List Wait} (bytes : List ℕ) (h : Held) → is_usable low (label_of r at) ≡ true → Holding low first count r h → Waiting r h waits → Waiting (relabeled r at l) (used (put (unlisted h at) at (buffer_of bytes true true))) waits
  waiting_given {low} {first} {count} bytes h usable holding waiting = record {
    within = λ a on k w. ap (λ (z : Label). z.kind) (label_other r at l on is (here on (held_at h on) refl (λ (x : Buffer). is_active ((read (label_at r on).kind x.block).slot (2 * k))) (waiting.used a on k w))) ∙ waiting.within a on k w;
    used = λ a on k w.
        let active = waiting.used a on k w in
        ⊎_elim
        (λ e. absurd (here on (held_at h on) refl (λ (x : Buffer). is_active ((read (label_at r on).kind x.block).slot (2 * k))) active e))
        (λ ne. ap (λ (z : Label). option_map_or (λ (x : Buffer). is_active ((read z.kind x.block).slot (2 * k))) (held_at (used (put (unlisted h at) at (buffer_of bytes true true))) on) false) (label_other r at l on is ne)
        ∙ ap (λ (o : Option Buffer). option_map_or (λ (x : Buffer). is_active ((read (label_at r on).kind x.block).slot (2 * k))) o false) (put_other (unlisted h at) at (buffer_of bytes true true) on ne)
        ∙ active)
        (cases_eq on at);
  }
    where
      here : (on : ℕ) (o : Option Buffer) → held_at h on ≡ o → (f : Buffer → Bool) → option_map_or f o false ≡ true → on ≡ at → ⊥
      here on (Some x) held f active e = not_held h x usable holding (ap (held_at h) (sym e) ∙ held)
      here on None held f active e = clash (sym active)

  pub clearable_given : {low high : ℕ} {clears : List Clearing} → is_usable low (label_of r at) ≡ true → Clearable r low high clears → Clearable (relabeled r at l) low high clears
  clearable_given {low} {high} {clears} usable clearable = record {
    each = λ b j c. let k = clearable.each b j c in let o = other b j c in (ap (λ (z : Label). z.kind) o ∙ k.0, ap (λ (z : Label). z.epoch) o ∙ k.1);
    kept = λ b j c. ap (is_usable low) (other b j c) ∙ clearable.kept b j c;
    within = clearable.within;
  }
    where
      other : (b j : ℕ) → Clears clears b j → label_at (relabeled r at l) b ≡ label_at r b
      other b j c = label_other r at l b is (λ e. clash (sym usable ∙ ap (is_usable low) (sym (data_label r at is.from)) ∙ ap (λ n. is_usable low (label_at r n)) (sym e) ∙ clearable.kept b j c))

pub placed_given : {r : Region} {t : Turns} {first count : ℕ} (facts : List Fact) (at rank turn : ℕ) (l : Label) (f : Fact) → Placed r t facts first count → Placed (relabeled r at l) (changed t turn rank) (set facts at f) first count
placed_given {r} {t} {first} {count} facts at rank turn l f placed =
    let n = length-set r.labels (at - r.first) l in
    let is = placed.is_count in
    record {
      is_first = placed.is_first;
      is_count = omega (arith, n, is);
      is_place = placed.is_place;
      begins = placed.begins;
      small = placed.small;
      flag_count = change_count t turn rank ∙ placed.flag_count;
      fact_count = length-set facts at f ∙ placed.fact_count;
    }

pub owing_given : {t : Turns} (facts : List Fact) (at rank turn : ℕ) (f : Fact) (bytes : List ℕ) {h : Held} → at < length facts → turn < length t.flags → f.owes ≡ true → Owing h t facts → Owing (used (put (unlisted h at) at (buffer_of bytes true true))) (changed t turn rank) (set facts at f)
owing_given {t} facts at rank turn f bytes {h} lt within owed owing = record {
  each = λ b x held pinned. ⊎_elim
      (λ e. ap (λ n. (fact_at (set facts at f) n).owes || (flag_at (changed t turn rank) n).dirty) e ∙ ap (λ (z : Fact). z.owes || (flag_at (changed t turn rank) at).dirty) (get_or-set_same facts at f no_fact lt) ∙ ap (λ b. b || (flag_at (changed t turn rank) at).dirty) owed)
      (λ ne.
      let was = owing.each b x (sym (put_other (unlisted h at) at (buffer_of bytes true true) b ne) ∙ held) pinned in
      ap (λ (z : Fact). z.owes || (flag_at (changed t turn rank) b).dirty) (get_or-set_other facts at b f no_fact ne) ∙ more (fact_at facts b).owes (flag_at t b).dirty (flag_at (changed t turn rank) b).dirty was (change_dirty t turn rank b within))
      (cases_eq b at);
}
  where
    more : (a d e : Bool) → (a || d) ≡ true → (d ≡ true → e ≡ true) → (a || e) ≡ true
    more true d e h k = refl
    more false d e h k = k h

pub roomy_given : {t : Turns} {r : Region} (facts : List Fact) (at rank turn : ℕ) (f : Fact) {h g : Held} {r2 : Region} {low spare pins more : ℕ} → at < length facts → g.room ≡ h.room - 1 → 0 < spare → usable_count low r2 + 1 ≡ usable_count low r → Roomy h t r facts low spare pins more → Roomy g (changed t turn rank) r2 (set facts at f) low (spare - 1) pins more
roomy_given {t} facts at rank turn f lt room some less roomy =
    let b = roomy.buffer_room in
    let u = roomy.turn_room in
    let v = roomy.usable in
    let o = owed_more facts at f lt in
    let c = change_room t turn rank in
    record { buffer_room = omega (arith, b, room, some); turn_room = omega (arith, u, o, c, some); usable = omega (arith, v, less, some) }

-- ---- facts

pub fact_here : (facts : List Fact) (at : ℕ) (f : Fact) → at < length facts → fact_at (set facts at f) at ≡ f
fact_here facts at f lt = get_or-set_same facts at f no_fact lt

pub fact_other : (facts : List Fact) (at : ℕ) (f : Fact) (b : ℕ) → b ≢ at → fact_at (set facts at f) b ≡ fact_at facts b
fact_other facts at f b ne = get_or-set_other facts at b f no_fact ne
