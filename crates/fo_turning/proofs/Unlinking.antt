-- Turns of closing, one step after another.
use Rattle.std.proofs.Common.{◌≡◌, ◌≢◌, inl, ℕ, ◌<◌, ◌≤◌, List, [], ◌∷◌, length, Option, None, Some, slice_get, Result, Ok, Err, refl, sym, ap, ◌∙◌, subst, arith}
use Rattle.std.specs.Option.{MatchOption}
use Rattle.std.specs.Result.{IfOk}
use Rattle.fo_disk.specs.Disk.{Content as Holds}
use Rattle.fo_image.specs.declared.types.Label.{Label}
use Rattle.fo_image.specs.declared.types.State.TheVariants.{Closed as Shut}
use Rattle.fo_labels.specs.Region.{Region}
use Rattle.fo_base.specs.Cause.{Rose}
use Rattle.fo_ports.specs.Causes.{Caused}
use Rattle.fo_ports.specs.declared.error.BlockError.{BlockError}
use Rattle.fo_ports.specs.declared.error.BlockError.TheVariants.{Full, Damaged, Fault, Arena, Memory}
use Rattle.fo_unlink.specs.declared.removal.Removal.{Removal}
use Rattle.fo_unlink.specs.Pending.{Pending}
use Rattle.fo_unlink.specs.Work.{work}
use Rattle.fo_waits.specs.declared.listed.Clearing.{Clearing}
use Rattle.fo_waits.specs.Listed.{Clears}
use Rattle.fo_mind.specs.Parts.{IsPinned, Parts, label_at}
use Rattle.fo_mind.specs.Sound.{Placed}
use Rattle.fo_closing.proofs.Resting.{looked_same}
use Rattle.fo_closing.proofs.Taking.{looked_joins, looked_none}
use Rattle.fo_closing.specs.declared.turn.Closing.{Closing}
use Rattle.fo_closing.specs.declared.turn.Closing.TheVariants.{Closed as ClosedIs, Reads, Stays, GivenUp as IsGivenUp, Empty as IsEmpty}
use Rattle.fo_closing.specs.Rest.{AtRest}
use Rattle.fo_turning.specs.declared.unlink.Unlinked.{Unlinked}
use Rattle.fo_turning.specs.declared.unlink.Unlinked.TheVariants.{Closed, Passed, GivenUp, Waits, Empty}
use Rattle.fo_turning.specs.Flushes.{AtIdle}
use Rattle.fo_turning.specs.Freed.{Loosens}
use Rattle.fo_turning.specs.Unlinks.{Closes, Ends, Reading, Shuts, Steps, Unlinking, Unlinks, ended}
use Rattle.fo_turning.proofs.Closing.{label_now, label_then, placed_looked}

-- ---- readings

pub reading_none : (disk : Holds) (p : Parts) (u : Pending) → Reading disk p p u u
reading_none disk p u = record { looked = looked_none disk p; removals = refl }

pub reading_on : {disk : Holds} {p m q : Parts} {u v w : Pending} → Reading disk p m u v → Reading disk m q v w → Reading disk p q u w
reading_on a b = record { looked = looked_joins a.looked b.looked; removals = b.removals ∙ a.removals }

pub closes_on : {disk : Holds} {answer : Unlinked} {p m q : Parts} {u v w : Pending} → Reading disk p m u v → Closes disk answer m q v w → Closes disk answer p q u w
closes_on a c = record { before = c.before; queue = c.queue; reading = reading_on a c.reading; ends = c.ends }

-- ---- a step

pub steps_end : {disk : Holds} (answer : Closing) (p q : Parts) (u v : Pending) → p.removals ≡ u.removals → Steps disk answer p q u v → MatchOption (ended answer) (Reading disk p q u v × (work v < work u)) (λ a. Closes disk a p q u v)
steps_end {disk} (ClosedIs b) p q u v same s = record { before = p; queue = u; reading = reading_none disk p u; ends = (s.closed, s.turned, s.forgotten) }
steps_end {disk} (Stays b) p q u v same s = record { before = p; queue = u; reading = reading_none disk p u; ends = subst (λ (z : Parts). Ends disk (Passed b) p z u v) (sym s.forgotten) s.turned }
steps_end {disk} (Reads b) p q u v same s =
    let t = s.turned in
    let left = t.went.0.removals in
    let back : record t.mid { removals = v.removals } ≡ t.mid = ap (λ (rs : List Removal). record t.mid { removals = rs }) (left ∙ sym same ∙ ap (λ (z : Parts). z.removals) (sym t.looked.rest)) in
    (record { looked = looked_same t.looked (s.forgotten ∙ t.went.1 ∙ back); removals = left }, t.less)
steps_end {disk} IsGivenUp p q u v same s = record { before = p; queue = u; reading = reading_none disk p u; ends = subst (λ (z : Parts). Ends disk GivenUp p z u v) (sym s.forgotten) s.turned }
steps_end {disk} IsEmpty p q u v same s = record { before = p; queue = u; reading = reading_none disk p u; ends = (s.turned.0, s.turned.1, s.forgotten ∙ s.turned.2) }

pub some_closes : {disk other : Holds} (o : Option Unlinked) (a : Unlinked) (p q : Parts) (u v : Pending) → o ≡ Some a → disk ≡ other → MatchOption o (Reading disk p q u v × (work v < work u)) (λ x. Closes disk x p q u v) → Closes other a p q u v
some_closes {disk} o a p q u v is same m = subst (λ (d : Holds). Closes d a p q u v) same (subst (λ (x : Option Unlinked). MatchOption x (Reading disk p q u v × (work v < work u)) (λ y. Closes disk y p q u v)) is m)

pub none_reads : {disk other : Holds} (o : Option Unlinked) (p q : Parts) (u v : Pending) → o ≡ None → disk ≡ other → MatchOption o (Reading disk p q u v × (work v < work u)) (λ x. Closes disk x p q u v) → Reading other p q u v × (work v < work u)
none_reads {disk} o p q u v is same m = subst (λ (d : Holds). Reading d p q u v × (work v < work u)) same (subst (λ (x : Option Unlinked). MatchOption x (Reading disk p q u v × (work v < work u)) (λ y. Closes disk y p q u v)) is m)

pub reading_in : {disk other : Holds} {p q : Parts} {u v : Pending} → disk ≡ other → Reading disk p q u v → Reading other p q u v
reading_in {disk} {other} {p} {q} {u} {v} same r = subst (λ (d : Holds). Reading d p q u v) same r

-- a fault that came later came in the whole call
pub caused_later : (f g h : ℕ) (e : BlockError) → f ≤ g → Caused ⊥ (λ b. ⊥) (Rose g h) ⊥ e → Caused ⊥ (λ b. ⊥) (Rose f h) ⊥ e
caused_later f g h Full le c = c
caused_later f g h (Damaged at) le c = c
caused_later f g h (Fault which) le c = omega (arith, le, c)
caused_later f g h (Arena which) le c = c
caused_later f g h Memory le c = tt

-- ---- at rest

none_listed : (cs : List Clearing) → ((b j : ℕ) → Clears cs b j → ⊥) → cs ≡ []
none_listed [] h = refl
none_listed (c ∷ cs) h = absurd (h c.at c.slot (first c cs))
  where
    first : (c : Clearing) (cs : List Clearing) → Clears (c ∷ cs) c.at c.slot
    first c cs = inl (refl, refl)

pub rest_of : (p q : Parts) → AtIdle p → q ≡ record p { held = q.held; facts = q.facts } → ((b : ℕ) → IsPinned q.held b → ⊥) → AtRest q
rest_of p q idle rest free = subst AtRest (sym rest) (record {
  clean = λ b le. idle.quiet.clean b;
  settled = λ b le. idle.quiet.settled b;
  free = free;
  none = none_listed p.clears idle.none;
  sure = idle.certain;
})

-- ---- a turn

first_rest : (rs : List Removal) (r : Removal) → slice_get rs 0 ≡ Some r → (more : List Removal) × (rs ≡ r ∷ more)
first_rest [] r e = cc
first_rest (x ∷ rs) r e = let same : x ≡ r = cc in (rs, ap (λ (y : Removal). y ∷ rs) same)

pub shuts_of : {disk : Holds} (b : ℕ) (p q : Parts) (u v : Pending) {first count : ℕ} → Placed p.region p.turns p.facts first count → p.removals ≡ u.removals → Closes disk (Closed b) p q u v → Shuts b p q
shuts_of {disk} b p q u v placed same c =
    let closed = c.ends.0 in
    let t = c.ends.1 in
    let f = c.ends.2 in
    let l = looked_joins c.reading.looked t.looked in
    let m = record t.mid { removals = v.removals } in
    let at_mid = placed_looked p t.mid l placed in
    let list = first_rest c.queue.removals t.first t.is_first in
    let before : (x : ℕ) → label_at t.mid.region x ≡ label_at p.region x = λ x. ap (λ (z : Parts). label_at z.region x) l.rest in
    record {
      first = t.first;
      rest = list.0;
      is_first = same ∙ sym c.reading.removals ∙ list.1;
      label = label_now disk m closed q at_mid t.went.2 f ∙ ap (λ (x : Label). record x { state = Shut; closing = t.first.epoch }) (before b);
      others = λ x ne. label_then disk m closed q at_mid t.went.2 f x ne ∙ before x;
    }

pub unlinks_of : (disk : Holds) (p m q : Parts) (u v : Pending) (r : Result Unlinked BlockError) {first count : ℕ} → Placed m.region m.turns m.facts first count → AtIdle p → p.removals ≢ [] → Loosens p m → ((b : ℕ) → IsPinned m.held b → ⊥) → m.removals ≡ u.removals
    → IfOk r (λ a. Closes disk a m q u v) → IfOk r (λ a. Unlinks disk a p q v)
unlinks_of disk p m q u v (Ok a) placed idle some loosens free same c = by a c
  where
    queued : u.removals ≡ p.removals
    queued = sym same ∙ ap (λ (z : Parts). z.removals) loosens.rest

    region : m.region ≡ p.region
    region = ap (λ (z : Parts). z.region) loosens.rest

    whole : (a : Unlinked) → Closes disk a m q u v → Unlinking disk a p q v
    whole a c = record { idle = idle; free = m; loosens = loosens; unpinned = free; queue = u; removals = queued; closes = c }

    by : (a : Unlinked) → Closes disk a m q u v → Unlinks disk a p q v
    by (Closed b) c =
        let s = shuts_of b m q u v placed same c in (
          whole (Closed b) c,
          record {
            first = s.first;
            rest = s.rest;
            is_first = sym (ap (λ (z : Parts). z.removals) loosens.rest) ∙ s.is_first;
            label = s.label ∙ ap (λ (x : Region). record (label_at x b) { state = Shut; closing = s.first.epoch }) region;
            others = λ x ne. s.others x ne ∙ ap (λ (z : Region). label_at z x) region;
          },
        )
    by (Passed b) c = whole (Passed b) c
    by GivenUp c = whole GivenUp c
    by Waits c = absurd c.ends
    by Empty c = absurd (some (sym queued ∙ sym c.reading.removals ∙ c.ends.0))
unlinks_of disk p m q u v (Err e) placed idle some loosens free same c = tt

pub not_empty : (disk : Holds) (p m q : Parts) (u v : Pending) (r : Result Unlinked BlockError) → p.removals ≢ [] → m.removals ≡ p.removals → m.removals ≡ u.removals → IfOk r (λ a. Closes disk a m q u v) → r ≡ Ok Empty → ⊥
not_empty disk p m q u v r some was same c e =
    let k = subst (λ (x : Result Unlinked BlockError). IfOk x (λ a. Closes disk a m q u v)) e c in
    some (sym was ∙ same ∙ sym k.reading.removals ∙ k.ends.0)

pub not_waits : (disk : Holds) (m q : Parts) (u v : Pending) (r : Result Unlinked BlockError) → IfOk r (λ a. Closes disk a m q u v) → r ≡ Ok Waits → ⊥
not_waits disk m q u v r c e =
    let k = subst (λ (x : Result Unlinked BlockError). IfOk x (λ a. Closes disk a m q u v)) e c in
    k.ends

pub region_reading : {disk : Holds} {p q : Parts} {u v : Pending} → Reading disk p q u v → q.region ≡ p.region
region_reading r = ap (λ (z : Parts). z.region) r.looked.rest

pub removals_reading : {disk : Holds} {p q : Parts} {u v : Pending} → Reading disk p q u v → q.removals ≡ p.removals
removals_reading r = ap (λ (z : Parts). z.removals) r.looked.rest

pub none_queued : (rs : List Removal) → length rs ≡ 0 → rs ≡ []
none_queued [] e = refl
none_queued (r ∷ rs) e = let h : length (r ∷ rs) ≡ 0 = e in absurd (omega (arith, h))

pub some_queued : (rs : List Removal) → length rs ≢ 0 → rs ≢ []
some_queued rs ne e = ne (ap length e)
