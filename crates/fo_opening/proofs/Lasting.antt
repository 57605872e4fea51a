-- What stays over the steps of an end that clear no slot.
use Rattle.std.proofs.Common.{◌≡◌, ◌≢◌, inl, inr, ⊎_elim, ℕ, false, length, Option, Some, None, Result, Ok, Err, refl, sym, ap, ◌∙◌, subst}
use Rattle.std.specs.Option.{option_map}
use Rattle.std.specs.Result.{OnOk, OnErr}
use Rattle.fo_disk.specs.Disk.{DiskState, versions_of}
use Rattle.fo_image.specs.declared.types.Super.{Super}
use Rattle.fo_buffers.specs.declared.block.Buffer.{Buffer}
use Rattle.fo_buffers.specs.Held.{block_in, held_at, pinned_as}
use Rattle.fo_facts.specs.declared.fact.Fact.{Fact}
use Rattle.fo_facts.specs.Known.{fact_at}
use Rattle.fo_ports.specs.declared.error.BlockError.{BlockError}
use Rattle.fo_mind.specs.Due.{is_over}
use Rattle.fo_mind.specs.Parts.{Parts, bytes_at}
use Rattle.fo_mind.specs.Sound.{Placed}
use Rattle.fo_cache.specs.Fits.{Fits}
use Rattle.fo_cache.specs.Settling.{Rested}
use Rattle.fo_cache.specs.Supers.{Counts, Doubted}
use Rattle.fo_cache.proofs.Settling.{over_synced}
use Rattle.fo_reserving.specs.of_settling.Clearings.{Lasts}
use Rattle.fo_reserving.specs.Steps.{Lets}
use Rattle.fo_opening.proofs.Finishing.{bytes_beside, bytes_let}

-- ---- pins end

freed_blocks : (o : Option Buffer) → option_map block_in (option_map (pinned_as false) o) ≡ option_map block_in o
freed_blocks (Some x) = refl
freed_blocks None = refl

pub lasts_let : (p m : Parts) (s u : DiskState) (f g : ℕ) → u ≡ s → Fits (record p { disk = s.holds }) s.unsure → Fits (record m { disk = u.holds }) u.unsure → Lets p m → Lasts (record p { disk = s.holds; faults = f }) (record m { disk = u.holds; faults = g })
lasts_let p m s u f g same was is l =
    let now = subst (λ (x : DiskState). Fits (record m { disk = x.holds }) x.unsure) same is in
    record {
      region = ap (λ (z : Parts). z.region) l.rest;
      high = ap (λ (z : Parts). z.one.high) l.rest;
      removals = ap (λ (z : Parts). z.removals) l.rest;
      clears = ap (λ (z : Parts). z.clears) l.rest;
      over = λ b e. ap (λ (z : Parts). is_over z.turns b) l.rest ∙ e;
      linked = λ b. ap (λ (x : Fact). x.linked) (l.facts b);
      held = λ b. ⊎_elim (λ kept. inl (sym (freed_blocks (held_at m.held b)) ∙ ap (option_map block_in) kept ∙ freed_blocks (held_at p.held b))) (λ gone. inr gone.0) (l.held b);
      count = ap (λ (x : DiskState). length x.holds) same;
      bytes = λ b le lt. ap (λ (x : DiskState). bytes_at m.held x.holds b) same ∙ bytes_let p m s.holds s.unsure was now l b le lt;
    }

-- ---- the super block

pub lasts_super : {T : Type 0} (s t : DiskState) (f g : ℕ) (p q : Parts) {first count : ℕ} → Placed p.region p.turns p.facts first count → ((k : ℕ) → k ≢ 1 → Rested (versions_of s.holds k) (versions_of t.holds k)) → length t.holds ≡ length s.holds
    → (one : Super) (r : Result T BlockError) → OnOk r (Counts one s t p q) → OnErr r (Doubted one p q) → one.high ≡ p.one.high → Lasts (record p { disk = s.holds; faults = f }) (record q { disk = t.holds; faults = g })
lasts_super s t f g p q placed others count one (Ok x) c d high = record {
  region = ap (λ (z : Parts). z.region) c.rest;
  high = ap (λ (z : Parts). z.one.high) c.rest ∙ high;
  removals = ap (λ (z : Parts). z.removals) c.rest;
  clears = ap (λ (z : Parts). z.clears) c.rest;
  over = over_synced p.turns q.turns c.turns;
  linked = λ b. ap (λ (z : Parts). (fact_at z.facts b).linked) c.rest;
  held = λ b. inl (ap (λ (z : Parts). option_map block_in (held_at z.held b)) c.rest);
  count = count;
  bytes = λ b le lt. (bytes_beside s t p q placed others (ap (λ (z : Parts). z.region) c.rest) (ap (λ (z : Parts). z.held) c.rest)).bytes b le;
}
lasts_super s t f g p q placed others count one (Err x) c d high = record {
  region = ap (λ (z : Parts). z.region) d.rest;
  high = ap (λ (z : Parts). z.one.high) d.rest;
  removals = ap (λ (z : Parts). z.removals) d.rest;
  clears = ap (λ (z : Parts). z.clears) d.rest;
  over = λ b e. ap (λ (z : Parts). is_over z.turns b) d.rest ∙ e;
  linked = λ b. ap (λ (z : Parts). (fact_at z.facts b).linked) d.rest;
  held = λ b. inl (ap (λ (z : Parts). option_map block_in (held_at z.held b)) d.rest);
  count = count;
  bytes = λ b le lt. (bytes_beside s t p q placed others (ap (λ (z : Parts). z.region) d.rest) (ap (λ (z : Parts). z.held) d.rest)).bytes b le;
}
