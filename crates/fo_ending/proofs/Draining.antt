-- All comes to rest, and is closed that is queued.
use Rattle.std.proofs.Common.{◌≡◌, ⊎_elim, ℕ, ◌-◌, ◌^◌, ◌<◌, ◌≤◌, Bool, true, false, nat_eq, List, [], length, Option, Some, None, is_some, Result, Ok, Err, refl, sym, ap, ◌∙◌, subst, arith}
use Rattle.std.specs.Map.{lookup}
use Rattle.std.specs.Result.{OnOk}
use Rattle.std.proofs.lemmas.List.Sums.{count_by-le-length}
use Rattle.fo_disk.specs.Disk.{DiskState, latest_of, versions_of}
use Rattle.fo_disk.specs.Disk.{Content as Holds}
use Rattle.fo_image.specs.Usable.{is_usable}
use Rattle.fo_buffers.specs.declared.block.Buffer.{Buffer}
use Rattle.fo_buffers.specs.Held.{held_at}
use Rattle.fo_order.specs.Turns.{IsQuiet}
use Rattle.fo_ports.specs.declared.error.BlockError.{BlockError}
use Rattle.fo_facts.specs.declared.fact.Fact.{Fact}
use Rattle.fo_facts.specs.Known.{fact_at}
use Rattle.fo_unlink.specs.Pending.{Pending}
use Rattle.fo_mind.specs.Parts.{IsNewborn, IsPinned, Parts, bytes_at, bytes_of}
use Rattle.fo_mind.specs.Sound.{Placed, Standing}
use Rattle.fo_cache.specs.Fits.{Fits}
use Rattle.fo_cache.proofs.Outcomes.{lookup_contains}
use Rattle.fo_closing.specs.Closings.{IsOver}
use Rattle.fo_closing.specs.Leaves.{Leaves}
use Rattle.fo_closing.specs.Rest.{AtRest}
use Rattle.fo_reserving.specs.Steps.{Lets}
use Rattle.fo_reserving.proofs.Calming.{none_clears, quiet_let, rest_let, waits_let}
use Rattle.fo_opening.specs.Finished.{Settled}
use Rattle.fo_opening.proofs.Finishing.{bytes_let}
use Rattle.fo_ending.specs.Ended.{SameBytes}

never : {A : Type 0} → false ≡ true → A
never e = cc

-- ---- waits and pins end, where all is settled

module _ (p m q : Parts) (over : m ≡ record p { waits = [] }) (l : Lets m q) where
  pub rest_is : q ≡ record p { waits = []; held = q.held; facts = q.facts }
  rest_is = l.rest ∙ ap (λ (z : Parts). record z { held = q.held; facts = q.facts }) over

  pub waits_none : q.waits ≡ []
  waits_none = waits_let m q l (ap (λ (z : Parts). z.waits) over)

  module _ (s : Settled p) where
    quiet_then : IsQuiet m.turns
    quiet_then = subst (λ (z : Parts). IsQuiet z.turns) (sym over) s.quiet

    pub quiet_rested : IsQuiet q.turns
    quiet_rested = quiet_let m q l quiet_then

    pub at_rest : ((b : ℕ) → IsPinned q.held b → ⊥) → AtRest q
    at_rest free = rest_let m q l quiet_then (ap (λ (z : Parts). z.clears) over ∙ none_clears p.clears s.none) (ap (λ (z : Parts). z.doubt) over ∙ s.certain) free

  pub bytes_rested : (s t : DiskState) (f g : ℕ) → t ≡ s → Fits (record p { disk = s.holds }) s.unsure → Fits (record q { disk = t.holds }) t.unsure → SameBytes (record p { disk = s.holds; faults = f }) (record q { disk = t.holds; faults = g })
  bytes_rested s t f g same was is b lo hi =
      let now = subst (λ (z : DiskState). Fits (record q { disk = z.holds }) z.unsure) same is in
      ap (λ (z : DiskState). bytes_at q.held z.holds b) same
      ∙ bytes_let m q s.holds s.unsure then now l b (subst (λ (z : Parts). z.region.first ≤ b) (sym over) lo) hi
      ∙ ap (λ (z : Parts). bytes_at z.held s.holds b) over
    where
      waited : Fits (record p { waits = []; disk = s.holds }) s.unsure
      waited = record { each = was.each }

      then : Fits (record m { disk = s.holds }) s.unsure
      then = subst (λ (z : Parts). Fits (record z { disk = s.holds }) s.unsure) (sym over) waited

-- ---- so many blocks are never usable

pub none_left : (r : Result Unit BlockError) (p : Parts) (q : Pending) {first count : ℕ} → Placed p.region p.turns p.facts first count → q.removals ≡ p.removals → OnOk r (IsOver (2 ^ 32 - 1) p q) → OnOk r (p.removals ≡ [])
none_left (Err e) p q placed same over = tt
none_left (Ok u) p q placed same over =
    let few = count_by-le-length (is_usable p.one.low) p.region.labels in
    let count = placed.is_count in
    let small = placed.small in
    ⊎_elim (λ le. absurd (omega (arith, few, count, small, le))) (λ e. sym same ∙ e) over

-- ---- bytes stay where blocks are closed

-- what isn't held is in memory as the device has it
calm : (h : Holds) (unsure : List Bool) (z : Parts) → Fits (record z { disk = h }) unsure → (b : ℕ) → z.region.first ≤ b → b < length h → held_at z.held b ≡ None → bytes_at z.held h b ≡ latest_of (versions_of h b)
calm h unsure z fits b le lt none = ap (λ (o : Option Buffer). bytes_of o (lookup (nat_eq b) z.held.clean) (latest_of (versions_of h b))) none ∙ by (lookup (nat_eq b) z.held.clean) refl
  where
    by : (c : Option (List ℕ)) → lookup (nat_eq b) z.held.clean ≡ c → bytes_of None c (latest_of (versions_of h b)) ≡ latest_of (versions_of h b)
    by (Some bytes) e = sym ((fits.each b le lt).listed bytes none (lookup_contains b z.held.clean bytes e))
    by None e = refl

module _ (p q : Parts) (h : Holds) (unsure : List Bool) (f g : ℕ) (l : Leaves h (record p { disk = h; faults = f }) (record q { disk = h; faults = g })) (newborn : (b : ℕ) → is_some (held_at p.held b) ≡ true → IsNewborn p.facts b) (standing : Standing q.held q.facts q.clears)
    (first : q.region.first ≡ p.region.first) (was : Fits (record p { disk = h }) unsure) (is : Fits (record q { disk = h }) unsure) where
  bytes_shut : (b : ℕ) → p.region.first ≤ b → b < length h → bytes_at q.held h b ≡ bytes_at p.held h b
  bytes_shut b lo hi = ⊎_elim (λ same. kept (held_at p.held b) refl same) (λ gone. let_go (held_at p.held b) refl gone.0) (l.held b)
    where
      up : q.region.first ≤ b
      up = subst (λ n. n ≤ b) (sym first) lo

      kept : (o : Option Buffer) → held_at p.held b ≡ o → held_at q.held b ≡ held_at p.held b → bytes_at q.held h b ≡ bytes_at p.held h b
      kept (Some x) e same =
          ap (λ (o : Option Buffer). bytes_of o (lookup (nat_eq b) q.held.clean) (latest_of (versions_of h b))) (same ∙ e)
          ∙ sym (ap (λ (o : Option Buffer). bytes_of o (lookup (nat_eq b) p.held.clean) (latest_of (versions_of h b))) e)
      kept None e same = calm h unsure q is b up hi (same ∙ e) ∙ sym (calm h unsure p was b lo hi e)

      facts : q.facts ≡ p.facts
      facts = ap (λ (z : Parts). z.facts) l.rest

      -- what is newborn stays held
      let_go : (o : Option Buffer) → held_at p.held b ≡ o → held_at q.held b ≡ None → bytes_at q.held h b ≡ bytes_at p.held h b
      let_go (Some x) e none =
          let still = standing.newborn b (ap (λ (fs : List Fact). (fact_at fs b).linked) facts ∙ newborn b (ap is_some e)) in
          never (sym (ap is_some none) ∙ still)
      let_go None e none = calm h unsure q is b up hi none ∙ sym (calm h unsure p was b lo hi e)

pub bytes_closed : (p q : Parts) (s t : DiskState) → t ≡ s → (f g : ℕ) → Leaves s.holds (record p { disk = s.holds; faults = f }) (record q { disk = t.holds; faults = g }) → ((b : ℕ) → is_some (held_at p.held b) ≡ true → IsNewborn p.facts b) → Standing q.held q.facts q.clears → q.region.first ≡ p.region.first
    → Fits (record p { disk = s.holds }) s.unsure → Fits (record q { disk = t.holds }) t.unsure → SameBytes (record p { disk = s.holds; faults = f }) (record q { disk = t.holds; faults = g })
bytes_closed p q s t same f g l newborn standing first was is b lo hi =
    let over = subst (λ (z : DiskState). Leaves s.holds (record p { disk = s.holds; faults = f }) (record q { disk = z.holds; faults = g })) same l in
    let now = subst (λ (z : DiskState). Fits (record q { disk = z.holds }) z.unsure) same is in
    ap (λ (z : DiskState). bytes_at q.held z.holds b) same
    ∙ bytes_shut p q s.holds s.unsure f g over newborn standing first was now b lo hi

-- one after the other
pub same_on : (p m q : Parts) → m.region.first ≡ p.region.first → length m.disk ≡ length p.disk → SameBytes p m → SameBytes m q → SameBytes p q
same_on p m q first count x y b lo hi = y b (omega (arith, first, lo)) (omega (arith, count, hi)) ∙ x b lo hi
