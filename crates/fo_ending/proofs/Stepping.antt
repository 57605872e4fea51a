-- What steps of closing leave, at an end.
use Rattle.std.proofs.Common.{◌≡◌, ◌⊎◌, inl, inr, ⊎_elim, ℕ, zero, suc, ◌+◌, ◌<◌, ◌≤◌, Bool, true, false, cond, [], length, Option, Some, None, is_some, Result, Ok, Err, refl, sym, ap, ◌∙◌, subst, arith}
use Rattle.std.specs.Option.{option_map}
use Rattle.std.specs.Result.{IfErr, IfOk, OnOk}
use Rattle.std.proofs.lemmas.Bool.{cases_eq}
use Rattle.fo_disk.specs.Disk.{DiskState, IsSettled, versions_of}
use Rattle.fo_disk.specs.Disk.{Content as Holds}
use Rattle.fo_image.specs.declared.types.Label.{Label}
use Rattle.fo_buffers.specs.declared.block.Buffer.{Buffer}
use Rattle.fo_buffers.specs.Held.{held_at, settled}
use Rattle.fo_order.specs.Turns.{IsQuiet}
use Rattle.fo_labels.specs.Region.{IsDataBlock, Region, closed_label}
use Rattle.fo_facts.specs.declared.fact.Fact.{Fact}
use Rattle.fo_facts.specs.Known.{fact_at}
use Rattle.fo_unlink.specs.Pending.{Pending}
use Rattle.fo_mind.specs.Parts.{IsNewborn, Parts, count_of, label_at}
use Rattle.fo_mind.specs.Sound.{Standing}
use Rattle.fo_mind.specs.Turning.{Turning}
use Rattle.fo_mind.proofs.Giving.{label_here}
use Rattle.fo_ports.specs.Causes.{Caused}
use Rattle.fo_ports.specs.declared.error.BlockError.{BlockError}
use Rattle.fo_ports.specs.declared.error.BlockError.TheVariants.{Full, Damaged, Fault, Arena, Memory}
use Rattle.fo_cache.specs.Fits.{Fits}
use Rattle.fo_cache.specs.Settling.{Settles}
use Rattle.fo_cache.specs.Supers.{IsFault}
use Rattle.fo_closing.specs.declared.turn.Closing.{Closing}
use Rattle.fo_closing.specs.declared.turn.Closing.TheVariants.{Closed as ClosedIs, Reads, Stays, GivenUp, Empty}
use Rattle.fo_closing.specs.Closed.{Closed}
use Rattle.fo_closing.specs.Known.{Looked}
use Rattle.fo_closing.specs.Known.{IsFault as FailedDisk}
use Rattle.fo_closing.specs.Leaves.{Leaves, Shuts}
use Rattle.fo_closing.specs.Rest.{AtRest}
use Rattle.fo_closing.specs.Turned.{Goes, Turned}
use Rattle.fo_closing.proofs.Resting.{quiet_looked}
use Rattle.fo_closing.proofs.Taking.{less_turned}
use Rattle.fo_unlink.specs.Work.{work}
use Rattle.fo_reserving.proofs.of_settling.Clearing.{lasts_turned}
use Rattle.fo_reserving.proofs.of_settling.Waiting.{eases_turns}
use Rattle.fo_reserving.specs.Steps.{Reserves}
use Rattle.fo_reserving.proofs.Joining.{reserves_eased, reserves_none, reserves_on}
use Rattle.fo_opening.proofs.Stepping.{ending_turned, header_kept, pinned_turned}
use Rattle.fo_ending.specs.Steps.{IsCalm, ShutsOne, Steps, ends, is_live, left_of, live_below, live_count}
use Rattle.fo_ending.proofs.Draining.{bytes_closed, same_on}

never : {A : Type 0} → false ≡ true → A
never e = cc

-- ---- a turn where all is settled

pub fault_of : (e : BlockError) → FailedDisk e → IsFault e
fault_of Full f = absurd f
fault_of (Damaged at) f = absurd f
fault_of (Fault which) f = tt
fault_of (Arena which) f = absurd f
fault_of Memory f = absurd f

-- one block was closed
shuts_goes : {disk : Holds} (b : ℕ) (p q : Parts) (r s : Pending) → Goes disk (ClosedIs b) p q r s → ShutsOne p.region q.region
shuts_goes b p q r s g = (b, subst (λ (z : Region). b < count_of z) same c.may.block.1, (ap (λ (z : Region). (label_at z b).state) (sym same) ∙ c.may.live, ap (λ (l : Label). l.state) closed))
  where
    c : Closed b g.first.epoch (record g.mid { removals = s.removals }) q
    c = g.went.2

    same : g.mid.region ≡ p.region
    same = ap (λ (z : Parts). z.region) g.looked.rest

    is : IsDataBlock g.mid.region b
    is = record { from = c.may.block.0; to = c.may.block.1 }

    closed : label_at q.region b ≡ closed_label (label_at g.mid.region b) g.first.epoch
    closed = ap (λ (z : Region). label_at z b) c.region ∙ label_here g.mid.region b (closed_label (label_at g.mid.region b) g.first.epoch) is

pub over_turned : (disk : Holds) (answer : Closing) (p q : Parts) (r s : Pending) → Turned disk answer p q r s → ends answer ≡ true → (s.removals ≡ []) ⊎ ShutsOne p.region q.region
over_turned disk (ClosedIs b) p q r s t e = inr (shuts_goes b p q r s t)
over_turned disk (Stays b) p q r s t e = never e
over_turned disk (Reads b) p q r s t e = never e
over_turned disk GivenUp p q r s t e = never e
over_turned disk Empty p q r s t e = inl (ap (λ (x : Pending). x.removals) t.1 ∙ t.0)

truth : {A : Type 0} → true ≡ false → A
truth e = cc

pub quiet_turned : (disk : Holds) (answer : Closing) (p q : Parts) (r s : Pending) → Turned disk answer p q r s → ends answer ≡ false → IsQuiet p.turns → IsQuiet q.turns
quiet_turned disk (ClosedIs b) p q r s t e quiet = truth e
quiet_turned disk (Stays b) p q r s t e quiet = subst (λ (z : Parts). IsQuiet z.turns) (sym t.went.2) (quiet_looked t.looked quiet)
quiet_turned disk (Reads b) p q r s t e quiet = subst (λ (z : Parts). IsQuiet z.turns) (sym t.went.1) (quiet_looked t.looked quiet)
quiet_turned disk GivenUp p q r s t e quiet = subst (λ (z : Parts). IsQuiet z.turns) (sym t.rest) quiet
quiet_turned disk Empty p q r s t e quiet = truth e

pub region_turned : (disk : Holds) (answer : Closing) (p q : Parts) (r s : Pending) → Turned disk answer p q r s → ends answer ≡ false → q.region ≡ p.region
region_turned disk (ClosedIs b) p q r s t e = truth e
region_turned disk (Stays b) p q r s t e = ap (λ (z : Parts). z.region) t.went.2 ∙ ap (λ (z : Parts). z.region) t.looked.rest
region_turned disk (Reads b) p q r s t e = ap (λ (z : Parts). z.region) t.went.1 ∙ ap (λ (z : Parts). z.region) t.looked.rest
region_turned disk GivenUp p q r s t e = ap (λ (z : Parts). z.region) t.rest
region_turned disk Empty p q r s t e = truth e

pub less_going : (disk : Holds) (answer : Closing) (p q : Parts) (r s : Pending) → Turned disk answer p q r s → ends answer ≡ false → work s < work r
less_going disk answer p q r s t e = less_turned disk answer p q r s (λ is. truth (sym (ap ends is) ∙ e)) t

-- ---- how many blocks are live

one_at_most : (a b : Bool) → (a ≡ true → b ≡ true) → cond {A = ℕ} a 1 0 ≤ cond b 1 0
one_at_most true true h = omega arith
one_at_most true false h = never (h refl)
one_at_most false true h = omega arith
one_at_most false false h = omega arith

live_no_more : (r s : Region) → ((b : ℕ) → is_live (label_at s b).state ≡ true → is_live (label_at r b).state ≡ true) → (n : ℕ) → live_below s n ≤ live_below r n
live_no_more r s sub zero = omega arith
live_no_more r s sub (suc n) =
    let one = one_at_most (is_live (label_at s n).state) (is_live (label_at r n).state) (sub n) in
    let rest = live_no_more r s sub n in
    omega (arith, one, rest)

live_fewer : (r s : Region) (at : ℕ) → ((b : ℕ) → is_live (label_at s b).state ≡ true → is_live (label_at r b).state ≡ true) → is_live (label_at r at).state ≡ true → is_live (label_at s at).state ≡ false → (n : ℕ) → at < n → live_below s n < live_below r n
live_fewer r s at sub was is zero lt = absurd (omega (arith, lt))
live_fewer r s at sub was is (suc n) lt = ⊎_elim
    (λ e.
    let rest = live_no_more r s sub n in
    let before = ap (λ (b : Bool). cond {A = ℕ} b 1 0) (sym (ap (λ k. is_live (label_at r k).state) e) ∙ was) in
    let after = ap (λ (b : Bool). cond {A = ℕ} b 1 0) (sym (ap (λ k. is_live (label_at s k).state) e) ∙ is) in
    omega (arith, rest, before, after))
    (λ ne.
    let one = one_at_most (is_live (label_at s n).state) (is_live (label_at r n).state) (sub n) in
    let rest = live_fewer r s at sub was is n (omega (arith, lt, ne)) in
    omega (arith, one, rest))
    (cases_eq at n)

module _ (p q : Parts) (h k : Holds) (f g : ℕ) {disk : Holds} (l : Leaves disk (record p { disk = h; faults = f }) (record q { disk = k; faults = g })) (count : count_of q.region ≡ count_of p.region) where
  live_was : (b : ℕ) → is_live (label_at q.region b).state ≡ true → is_live (label_at p.region b).state ≡ true
  live_was b e = ⊎_elim (λ same. ap (λ (x : Label). is_live x.state) (sym same) ∙ e) (λ shut. ap is_live shut.live) (l.label b)

  pub live_left : live_count q.region ≤ live_count p.region
  live_left =
      let e = ap (live_below q.region) count in
      let rest = live_no_more p.region q.region live_was (count_of p.region) in
      omega (arith, e, rest)

  pub live_less : ShutsOne p.region q.region → live_count q.region < live_count p.region
  live_less x =
      let e = ap (live_below q.region) count in
      let rest = live_fewer p.region q.region x.0 live_was (ap is_live x.2.0) (ap is_live x.2.1) (count_of p.region) x.1 in
      omega (arith, e, rest)

-- ---- what steps leave

pub steps_on : {p m q : Parts} → Steps p m → Steps m q → Steps p q
steps_on {p} {m} {q} a b = record {
  one = b.one ∙ a.one;
  clears = b.clears ∙ a.clears;
  bytes = same_on p m q a.leaves.keeps.first a.count a.bytes b.bytes;
  header = b.header ∙ a.header;
  count = b.count ∙ a.count;
  leaves = reserves_on a.leaves b.leaves;
}

pub steps_closed : (p q : Parts) (s t : DiskState) → t ≡ s → (f g : ℕ) → Leaves s.holds (record p { disk = s.holds; faults = f }) (record q { disk = t.holds; faults = g }) → ((b : ℕ) → is_some (held_at p.held b) ≡ true → IsNewborn p.facts b) → Standing q.held q.facts q.clears
    → Fits (record p { disk = s.holds }) s.unsure → Fits (record q { disk = t.holds }) t.unsure → Reserves (record p { disk = s.holds; faults = f }) (record q { disk = t.holds; faults = g }) → Steps (record p { disk = s.holds; faults = f }) (record q { disk = t.holds; faults = g })
steps_closed p q s t same f g l newborn standing was is r = record {
  one = ap (λ (z : Parts). z.one) l.rest;
  clears = ap (λ (z : Parts). z.clears) l.rest;
  bytes = bytes_closed p q s t same f g l newborn standing r.keeps.first was is;
  header = ap (λ (z : DiskState). versions_of z.holds 0) same;
  count = ap (λ (z : DiskState). length z.holds) same;
  leaves = r;
}

pub calm_closed : (p q : Parts) (h k : Holds) (f g : ℕ) {disk : Holds} → Leaves disk (record p { disk = h; faults = f }) (record q { disk = k; faults = g }) → ((b : ℕ) → is_some (held_at p.held b) ≡ true → IsNewborn p.facts b) → AtRest q → IsCalm q
calm_closed p q h k f g l newborn rest = record {
  rest = record { clean = rest.clean; settled = rest.settled; free = rest.free; none = rest.none; sure = rest.sure };
  held = λ b some. ap (λ (z : Parts). (fact_at z.facts b).linked) l.rest
      ∙ ⊎_elim (λ same. newborn b (ap is_some (sym same) ∙ some)) (λ gone. never (sym (ap is_some gone.0) ∙ some)) (l.held b);
}

-- ---- what a settling leaves

pub steps_turned : (s t : DiskState) (f g : ℕ) (p q : Parts) {first : ℕ} → Turning first p.held p.turns p.facts → Settles s t p q → f ≤ g → (0 < length s.holds → IsSettled s.holds 0) → Steps (record p { disk = s.holds; faults = f }) (record q { disk = t.holds; faults = g })
steps_turned s t f g p q turning k le header = record {
  one = ap (λ (z : Parts). z.one) k.rest;
  clears = ap (λ (z : Parts). z.clears) k.rest;
  bytes = λ b lo hi. k.bytes b lo;
  header = header_kept s.holds t.holds header (ending_turned s t f g p q turning k le).header;
  count = k.count;
  leaves = reserves_eased (eases_turns s t p q f g k le) (lasts_turned s t p q f g k);
}

some_settled : (o : Option Buffer) → is_some (option_map settled o) ≡ is_some o
some_settled (Some x) = refl
some_settled None = refl

pub calm_turned : (s t : DiskState) (p q : Parts) → Settles s t p q → IsQuiet q.turns → IsCalm p → IsCalm q
calm_turned s t p q k quiet calm = record {
  rest = record {
    clean = λ b le. quiet.clean b;
    settled = λ b le. quiet.settled b;
    free = λ b h. calm.rest.free b (pinned_turned s t p q k b h);
    none = ap (λ (z : Parts). z.clears) k.rest ∙ calm.rest.none;
    sure = ap (λ (z : Parts). z.doubt) k.rest ∙ calm.rest.sure;
  };
  held = λ b some. ap (λ (x : Fact). x.linked) (k.lasts b) ∙ calm.held b (sym (some_settled (held_at p.held b)) ∙ ap is_some (sym (k.held b)) ∙ some_settled (held_at q.held b) ∙ some);
}

-- nothing changes
pub steps_none : (p : Parts) → Steps p p
steps_none p = record { one = refl; clears = refl; bytes = λ b lo hi. refl; header = refl; count = refl; leaves = reserves_none p }

-- ---- where memory is wanting

pub left_over : (P : Type 0) (r : Result Unit BlockError) → OnOk r P → IfOk (left_of r) (λ over. over ≡ true → P)
left_over P (Ok u) p = λ e. p
left_over P (Err Full) p = tt
left_over P (Err (Damaged at)) p = tt
left_over P (Err (Fault which)) p = tt
left_over P (Err (Arena which)) p = tt
left_over P (Err Memory) p = λ e. never e

pub left_caused : (F : Type 0) (r : Result Unit BlockError) → IfErr r (Caused ⊥ (λ b. ⊥) F ⊥) → IfErr (left_of r) (Caused ⊥ (λ b. ⊥) F ⊥)
left_caused F (Ok u) c = tt
left_caused F (Err Full) c = c
left_caused F (Err (Damaged at)) c = c
left_caused F (Err (Fault which)) c = c
left_caused F (Err (Arena which)) c = c
left_caused F (Err Memory) c = tt

pub left_failed : (F : Type 0) (r : Result Unit BlockError) → IfErr r (Caused ⊥ (λ b. ⊥) F ⊥) → IfErr (left_of r) IsFault
left_failed F (Ok u) c = tt
left_failed F (Err Full) c = absurd c
left_failed F (Err (Damaged at)) c = absurd c
left_failed F (Err (Fault which)) c = tt
left_failed F (Err (Arena which)) c = absurd c
left_failed F (Err Memory) c = tt
