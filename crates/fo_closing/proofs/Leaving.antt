-- What turns of closing leave of memory.
use Rattle.std.proofs.Common.{◌≡◌, ◌≢◌, inl, inr, ⊎_elim, ℕ, ◌-◌, ◌<◌, ◌≤◌, ◌&&◌, Bool, true, false, cond, nat_eq, List, [], ◌∷◌, drop, length, Some, None, slice_get, refl, sym, ap, ◌∙◌, subst, arith}
use Rattle.std.specs.List.{Contains}
use Rattle.std.proofs.lemmas.Bool.{cases_eq}
use Rattle.std.proofs.lemmas.List.{get_or-set_same}
use Rattle.std.proofs.lemmas.List.Elements.{Contains-append_right}
use Rattle.std.proofs.lemmas.Option.{get_or_from_slice_get, same_Some}
use Rattle.fo_disk.specs.Disk.{Content as Holds}
use Rattle.fo_facts.specs.Known.{fact_at}
use Rattle.fo_image.specs.declared.types.Kind.{Kind}
use Rattle.fo_image.specs.declared.types.Label.{Label}
use Rattle.fo_image.specs.declared.types.State.{State}
use Rattle.fo_image.specs.declared.types.State.TheVariants.{Closed as Shut, Live}
use Rattle.fo_image.specs.Place.{label_block}
use Rattle.fo_buffers.specs.Held.{Held, cut, held_at, unlisted}
use Rattle.fo_bring.proofs.Bringing.{clean_at_once, clean_gone, clean_joins}
use Rattle.fo_bring.proofs.Buffering.{cut_other, cut_same}
use Rattle.fo_labels.specs.Region.{IsDataBlock, Region, closed_label, usable_count}
use Rattle.fo_order.specs.declared.marks.Flags.{Flags}
use Rattle.fo_order.specs.Keeps.{Turns}
use Rattle.fo_order.specs.Flags.{flags_of, quiet}
use Rattle.fo_order.specs.Turns.{changed, flag_at, is_ranked, noted}
use Rattle.fo_unlink.specs.declared.removal.Removal.{Removal}
use Rattle.fo_unlink.specs.declared.way.Frame.{Frame}
use Rattle.fo_unlink.specs.Pending.{Pending, remaining}
use Rattle.fo_unlink.specs.Steps.{ClosesNext}
use Rattle.fo_waits.specs.declared.listed.Wait.{Wait}
use Rattle.fo_waits.specs.Listed.{Listed}
use Rattle.fo_mind.specs.Parts.{Parts, label_at}
use Rattle.fo_mind.proofs.Giving.{change_dirty, change_other, label_here, label_other}
use Rattle.fo_closing.specs.declared.turn.Closing.{Closing}
use Rattle.fo_closing.specs.declared.turn.Closing.TheVariants.{Closed as ClosedIs, Reads, Stays, GivenUp, Empty}
use Rattle.fo_closing.specs.Closed.{Closed}
use Rattle.fo_closing.specs.Closings.{Closings, Taken, Takes}
use Rattle.fo_closing.specs.Known.{IsClosable, Looked}
use Rattle.fo_closing.specs.Leaves.{Leaves, ShutBy, Shuts}
use Rattle.fo_closing.specs.Turned.{Goes, Turned}
use Rattle.fo_closing.proofs.Keeping.{listed_apart}

live_shut : {A : Type 0} {s : State} → s ≡ Live → s ≡ Shut → A
live_shut e f = absurd (clash (sym e ∙ f))
  where
    clash : Live ≡ Shut → ⊥
    clash h = cc

-- what was closed was live, and is closed
shuts_of : {removals : List Removal} {p q : Parts} {b : ℕ} → ShutBy removals p q b → Shuts (label_at p.region b) (label_at q.region b)
shuts_of x = (x.live, ap (λ (l : Label). l.state) x.is)

-- ---- one after the other

pub leaves_joins : {disk : Holds} {p q s : Parts} → Leaves disk p q → Leaves disk q s → Leaves disk p s
leaves_joins {disk} {p} {q} {s} l m = record {
  label = λ b. ⊎_elim
      (λ same. ⊎_elim (λ e. inl (same ∙ e)) (λ x. inr (shut_then b same x)) (l.label b))
      (λ shut. ⊎_elim
      (λ e. inr (shut_before b e shut))
      (λ x. live_shut shut.live (shuts_of x).1)
      (l.label b))
      (m.label b);
  held = λ b. ⊎_elim
      (λ same. ⊎_elim (λ e. inl (same ∙ e)) (λ x. inr (same ∙ x.0, stays b x.1)) (l.held b))
      (λ gone. inr (gone.0, first b gone.1))
      (m.held b);
  clean = clean_joins l.clean m.clean;
  dirty = λ b d. ⊎_elim
      (λ was. ⊎_elim (λ e. inl e) (λ x. inr (x.0, stays x.0 x.1, x.2)) (l.dirty b was))
      (λ x. inr (x.0, first x.0 x.1, x.2))
      (m.dirty b d);
  turn = λ b x. ⊎_elim
      (λ e. m.turn b (ap (λ (z : Label). z.state) e ∙ x.0, x.1))
      (λ y. m.still (label_block b) (l.turn b (shuts_of y)))
      (l.label b);
  still = λ b d. m.still b (l.still b d);
  waits = λ a on k w. l.waits a on k (m.waits a on k w);
  usable = let a = l.usable in let b = m.usable in let e = ap (λ (x : Parts). usable_count x.one.low q.region) l.rest in let f = ap (λ (x : Parts). usable_count x.one.low s.region) l.rest in omega (arith, a, b, e, f);
  fewer = let a = l.fewer in let b = m.fewer in omega (arith, a, b);
  only = λ r c. l.only r (m.only r c);
  room = m.room ∙ l.room;
  faults = let a = l.faults in let b = m.faults in omega (arith, a, b);
  rest = m.rest ∙ ap (λ (x : Parts). record x { held = s.held; turns = s.turns; region = s.region; waits = s.waits; removals = s.removals; faults = s.faults }) l.rest;
}
  where
    then : (b : ℕ) → label_at s.region b ≡ label_at q.region b → Shuts (label_at p.region b) (label_at q.region b) → Shuts (label_at p.region b) (label_at s.region b)
    then b same x = (x.0, ap (λ (z : Label). z.state) same ∙ x.1)

    before : (b : ℕ) → label_at q.region b ≡ label_at p.region b → Shuts (label_at q.region b) (label_at s.region b) → Shuts (label_at p.region b) (label_at s.region b)
    before b e x = (ap (λ (z : Label). z.state) (sym e) ∙ x.0, x.1)

    stays : (b : ℕ) → Shuts (label_at p.region b) (label_at q.region b) → Shuts (label_at p.region b) (label_at s.region b)
    stays b x = ⊎_elim (λ same. then b same x) (λ y. live_shut y.live x.1) (m.label b)

    first : (b : ℕ) → Shuts (label_at q.region b) (label_at s.region b) → Shuts (label_at p.region b) (label_at s.region b)
    first b x = ⊎_elim (λ e. before b e x) (λ y. live_shut x.0 (shuts_of y).1) (l.label b)

    shut_then : (b : ℕ) → label_at s.region b ≡ label_at q.region b → ShutBy p.removals p q b → ShutBy p.removals p s b
    shut_then b same x = record {
      removal = x.removal;
      queued = x.queued;
      alone = x.alone;
      live = x.live;
      is = same ∙ x.is;
      tag = x.tag;
      begun = x.begun;
      other = x.other;
      linked = x.linked;
    }

    same_tag : (b : ℕ) → (label_at q.region b).tag ≡ (label_at p.region b).tag
    same_tag b = ⊎_elim (λ e. ap (λ (z : Label). z.tag) e) (λ x. ap (λ (z : Label). z.tag) x.is) (l.label b)

    shut_before : (b : ℕ) → label_at q.region b ≡ label_at p.region b → ShutBy q.removals q s b → ShutBy p.removals p s b
    shut_before b e x = record {
      removal = x.removal;
      queued = l.only x.removal x.queued;
      alone = x.alone;
      live = ap (λ (z : Label). z.state) (sym e) ∙ x.live;
      is = x.is ∙ ap (λ (z : Label). closed_label z x.removal.epoch) e;
      tag = ap (λ (z : Label). z.tag) (sym e) ∙ x.tag ∙ same_tag x.removal.at;
      begun = subst (λ (z : Label). z.epoch ≤ x.removal.epoch) e x.begun;
      other = λ is. x.other (is ∙ ap (λ (y : Parts). y.one.active) (sym l.rest));
      linked = ap (λ (y : Parts). (fact_at y.facts b).linked) (sym l.rest) ∙ x.linked;
    }

-- ---- a look

pub leaves_looked : {disk : Holds} {p q : Parts} → Looked disk p q → Leaves disk p q
leaves_looked {disk} {p} {q} l = record {
  label = λ b. inl (ap (λ (x : Parts). label_at x.region b) l.rest);
  held = λ b. inl (l.held b);
  clean = l.clean;
  dirty = λ b d. inl (sym (ap (λ (x : Parts). (flag_at x.turns b).dirty) l.rest) ∙ d);
  turn = λ b x. live_shut (ap (λ (y : Parts). (label_at y.region b).state) l.rest ∙ x.0) x.1;
  still = λ b d. ap (λ (x : Parts). (flag_at x.turns b).dirty) l.rest ∙ d;
  waits = λ a on k w. subst (λ (x : Parts). Listed x.waits a on k) l.rest w;
  usable = let e = ap (λ (x : Parts). usable_count p.one.low x.region) l.rest in omega (arith, e);
  fewer = let e = ap (λ (x : Parts). length x.removals) l.rest in omega (arith, e);
  only = λ r c. subst (λ (x : Parts). Contains x.removals r) l.rest c;
  room = l.room;
  faults = l.faults;
  rest = l.rest
      ∙ ap (λ (x : Parts). record p { held = q.held; turns = x.turns; region = x.region; waits = x.waits; removals = x.removals; faults = q.faults }) (sym l.rest);
}

-- ---- the queue

-- no more removals, and no others
record Fewer (old new : List Removal) : Type 0 where
  count : length new ≤ length old
  only : (r : Removal) → Contains new r → Contains old r

fewer_same : (old new : List Removal) → new ≡ old → Fewer old new
fewer_same old new e = record { count = let k = ap length e in omega (arith, k); only = λ r c. subst (λ (rs : List Removal). Contains rs r) e c }

fewer_first : (rs : List Removal) → Fewer rs (drop 1 rs)
fewer_first [] = fewer_same [] [] refl
fewer_first (r ∷ rs) = record { count = omega (arith); only = λ x c. Contains-append_right (r ∷ []) rs x c }

-- the first removal is gone, or all are left
fewer_left : (rs : List Removal) (way : List Frame) → Fewer rs (remaining rs way)
fewer_left rs [] = fewer_first rs
fewer_left rs (f ∷ fs) = fewer_same rs rs refl

-- where the queue of memory is this one
fewer_of : (a b c d : List Removal) → a ≡ c → b ≡ d → Fewer c d → Fewer a b
fewer_of a b c d e f w = subst (λ (rs : List Removal). Fewer rs b) (sym e) (subst (Fewer c) (sym f) w)

first_queued : (rs : List Removal) (r : Removal) → slice_get rs 0 ≡ Some r → Contains rs r
first_queued [] r e = absurd (clash e)
  where
    clash : None ≡ Some r → ⊥
    clash h = cc
first_queued (x ∷ rs) r e = (0, omega (arith), get_or_from_slice_get (x ∷ rs) 0 r r e)

leaves_queue : {disk : Holds} (p : Parts) (rs : List Removal) → Fewer p.removals rs → Leaves disk p (record p { removals = rs })
leaves_queue {disk} p rs fewer = record {
  label = λ b. inl refl;
  held = λ b. inl refl;
  clean = clean_at_once disk refl;
  dirty = λ b d. inl d;
  turn = λ b x. live_shut x.0 x.1;
  still = λ b d. d;
  waits = λ a on k w. w;
  usable = omega (arith);
  fewer = fewer.count;
  only = fewer.only;
  room = refl;
  faults = omega (arith);
  rest = refl;
}

-- ---- a block that is closed

change_here : (t : Turns) (at rank : ℕ) → at < length t.flags → (flag_at (changed t at rank) at).dirty ≡ true
change_here t at rank lt = by (is_ranked rank (flag_at t at)) refl
  where
    ranked : (a c : Bool) → (a && c) ≡ true → a ≡ true
    ranked true c h = refl
    ranked false c h = absurd (cc)

    by : (r : Bool) → is_ranked rank (flag_at t at) ≡ r → (flag_at (changed t at rank) at).dirty ≡ true
    by true e = ap (λ (r : Bool). (flag_at (cond r t (record (noted t at (flags_of true (flag_at t at).tried rank)) { room = t.room - 1 })) at).dirty) e ∙ ranked (flag_at t at).dirty (nat_eq (flag_at t at).rank rank) e
    by false e = ap (λ (r : Bool). (flag_at (cond r t (record (noted t at (flags_of true (flag_at t at).tried rank)) { room = t.room - 1 })) at).dirty) e ∙ ap (λ (f : Flags). f.dirty) (get_or-set_same t.flags at (flags_of true (flag_at t at).tried rank) quiet lt)

-- by a removal that was queued, whatever is left of it
leaves_closed : {disk : Holds} {at : ℕ} {kind : Kind} (p q : Parts) (rs : List Removal) (first : Removal) → Contains p.removals first → (first.whole ≡ false → at ≡ first.at) → IsClosable p first kind at → Fewer p.removals rs → Closed at first.epoch (record p { removals = rs }) q → Leaves disk p q
leaves_closed {disk} {at} {kind} p q rs first queued alone may fewer c = record {
  label = λ b. ⊎_elim (λ e. inr (subst (ShutBy p.removals p q) (sym e) shut)) (λ ne. inl (other b ne)) (cases_eq b at);
  held = λ b. ⊎_elim
      (λ e. inr (ap (λ (h : Held). held_at h b) c.held ∙ ap (held_at (cut (unlisted p.held at) at)) e ∙ cut_same (unlisted p.held at) at, shuts b e))
      (λ ne. inl (ap (λ (h : Held). held_at h b) c.held ∙ cut_other (unlisted p.held at) at b ne))
      (cases_eq b at);
  clean = clean_gone disk at p.held q.held c.held;
  dirty = λ b d. ⊎_elim
      (λ e. inr (at, shuts at refl, e))
      (λ ne. inl (sym (ap (λ (f : Flags). f.dirty) (change_other p.turns (label_block at) 0 b ne)) ∙ sym (ap (λ (t : Turns). (flag_at t b).dirty) c.turns) ∙ d))
      (cases_eq b (label_block at));
  turn = λ b x. ⊎_elim
      (λ e. ap (λ (t : Turns). (flag_at t (label_block b)).dirty) c.turns ∙ ap (λ n. (flag_at (changed p.turns (label_block at) 0) (label_block n)).dirty) e ∙ change_here p.turns (label_block at) 0 c.within)
      (λ ne. live_shut (ap (λ (l : Label). l.state) (other b ne) ∙ x.0) x.1)
      (cases_eq b at);
  still = λ b d. ap (λ (t : Turns). (flag_at t b).dirty) c.turns ∙ change_dirty p.turns (label_block at) 0 b c.within d;
  waits = λ a on k w. (listed_apart at p.waits a on k (subst (λ (ws : List Wait). Listed ws a on k) c.waits w)).0;
  usable = let u = c.usable in omega (arith, u);
  fewer = let e = ap (λ (x : Parts). length x.removals) c.rest in let n = fewer.count in omega (arith, e, n);
  only = λ r h. fewer.only r (subst (λ (x : Parts). Contains x.removals r) c.rest h);
  room = ap (λ (h : Held). h.room) c.held;
  faults = let e = ap (λ (x : Parts). x.faults) c.rest in omega (arith, e);
  rest = c.rest
      ∙ ap (λ (x : Parts). record p { held = q.held; turns = q.turns; region = q.region; waits = q.waits; removals = x.removals; faults = x.faults }) (sym c.rest);
}
  where
    is : IsDataBlock p.region at
    is = record { from = c.may.block.0; to = c.may.block.1 }

    closed : label_at q.region at ≡ closed_label (label_at p.region at) first.epoch
    closed = ap (λ (r : Region). label_at r at) c.region ∙ label_here p.region at (closed_label (label_at p.region at) first.epoch) is

    shut : ShutBy p.removals p q at
    shut = record {
      removal = first;
      queued = queued;
      alone = alone;
      live = c.may.live;
      is = closed;
      tag = may.part.tag;
      begun = c.may.begun;
      other = c.may.other;
      linked = c.may.linked;
    }

    shuts : (b : ℕ) → b ≡ at → Shuts (label_at p.region b) (label_at q.region b)
    shuts b e = subst (λ n. Shuts (label_at p.region n) (label_at q.region n)) (sym e) (shuts_of shut)

    other : (b : ℕ) → b ≢ at → label_at q.region b ≡ label_at p.region b
    other b ne = ap (λ (r : Region). label_at r b) c.region ∙ label_other p.region at (closed_label (label_at p.region at) first.epoch) b is ne

-- ---- a turn

mid_queue : {disk : Holds} (p : Parts) (q : Pending) (mid : Parts) → p.removals ≡ q.removals → Looked disk p mid → mid.removals ≡ q.removals
mid_queue p q mid e l = ap (λ (x : Parts). x.removals) l.rest ∙ e

record Left (disk : Holds) (p s : Parts) (r : Pending) : Type 0 where
  leaves : Leaves disk p s
  same : s.removals ≡ r.removals

-- the first removal of a step is the first one
alone_first : {q r : Pending} {block : List ℕ} {b : ℕ} (first : Removal) → slice_get q.removals 0 ≡ Some first → ClosesNext true q block r b → first.whole ≡ false → b ≡ first.at
alone_first {q} {r} {block} {b} first is next =
    let e = same_Some next.first first (sym next.goes_on.first ∙ is) in
    subst (λ (x : Removal). x.whole ≡ false → b ≡ x.at) e next.alone

left_goes : {disk : Holds} (answer : Closing) (p s : Parts) (q r : Pending) → p.removals ≡ q.removals → Goes disk answer p s q r → Left disk p s r
left_goes {disk} (ClosedIs b) p s q r e g =
    let same = mid_queue p q g.mid e g.looked in
    record {
      leaves = leaves_joins (leaves_looked g.looked) (leaves_closed g.mid s r.removals g.first
          (subst (λ (rs : List Removal). Contains rs g.first) (sym same) (first_queued q.removals g.first g.is_first))
          (alone_first g.first g.is_first g.went.0)
          g.went.1
          (fewer_of g.mid.removals r.removals q.removals (remaining q.removals r.way) same g.went.0.removals (fewer_left q.removals r.way))
          g.went.2);
      same = ap (λ (x : Parts). x.removals) g.went.2.rest;
    }
left_goes {disk} (Stays b) p s q r e g =
    let same = mid_queue p q g.mid e g.looked in
    record {
      leaves = leaves_joins (leaves_looked g.looked) (subst (Leaves disk g.mid) (sym g.went.2) (leaves_queue g.mid r.removals
          (fewer_of g.mid.removals r.removals q.removals (remaining q.removals r.way) same g.went.0.removals (fewer_left q.removals r.way))));
      same = ap (λ (x : Parts). x.removals) g.went.2;
    }
left_goes {disk} (Reads b) p s q r e g =
    let same = mid_queue p q g.mid e g.looked in
    record {
      leaves = leaves_joins (leaves_looked g.looked) (subst (Leaves disk g.mid) (sym g.went.1) (leaves_queue g.mid r.removals
          (fewer_of g.mid.removals r.removals q.removals q.removals same g.went.0.removals (fewer_same q.removals q.removals refl))));
      same = ap (λ (x : Parts). x.removals) g.went.1;
    }
left_goes GivenUp p s q r e g = absurd g.went
left_goes Empty p s q r e g = absurd g.went

left_turned : {disk : Holds} (answer : Closing) (p s : Parts) (q r : Pending) → p.removals ≡ q.removals → Turned disk answer p s q r → Left disk p s r
left_turned (ClosedIs b) p s q r e t = left_goes (ClosedIs b) p s q r e t
left_turned (Stays b) p s q r e t = left_goes (Stays b) p s q r e t
left_turned (Reads b) p s q r e t = left_goes (Reads b) p s q r e t
left_turned {disk} GivenUp p s q r e t = record {
  leaves = subst (Leaves disk p) (sym t.rest) (leaves_queue p r.removals
      (fewer_of p.removals r.removals q.removals (drop 1 q.removals) e (ap (λ (x : Pending). x.removals) t.is) (fewer_first q.removals)));
  same = ap (λ (x : Parts). x.removals) t.rest;
}
left_turned {disk} Empty p s q r e t = record {
  leaves = subst (Leaves disk p) (sym t.2) (leaves_queue p p.removals (fewer_same p.removals p.removals refl));
  same = ap (λ (x : Parts). x.removals) t.2 ∙ e ∙ ap (λ (x : Pending). x.removals) (sym t.1);
}

leaves_takes : {disk : Holds} (ts : List Taken) (p s : Parts) (q r : Pending) → p.removals ≡ q.removals → Takes disk ts p s q r → Leaves disk p s
leaves_takes [] p s q r e t = leaves_looked t.0
leaves_takes (t ∷ ts) p s q r e x =
    let l = left_turned t.answer t.before t.after q t.queue (ap (λ (y : Parts). y.removals) x.0.rest ∙ e) x.1 in
    leaves_joins (leaves_looked x.0) (leaves_joins l.leaves (leaves_takes ts t.after s t.queue r l.same x.2))

-- what turns leave, where the queue of memory is this one
pub leaves_closings : {disk : Holds} (p s : Parts) (q r : Pending) → p.removals ≡ q.removals → Closings disk p s q r → Leaves disk p s
leaves_closings p s q r e c = leaves_takes c.turns p s q r e c.takes
