-- Steps of an end.
use Rattle.std.proofs.Common.{◌≡◌, ◌≢◌, inl, inr, ⊎_elim, ℕ, ◌<◌, ◌≤◌, Bool, true, false, List, [], ◌∷◌, length, Option, Some, None, Result, Ok, Err, refl, sym, ap, ◌∙◌, subst, arith}
use Rattle.std.specs.Option.{option_map, option_map_or}
use Rattle.std.specs.Result.{OnOk, OnErr}
use Rattle.std.proofs.lemmas.Bool.{cases_eq, cases_lt}
use Rattle.fo_disk.specs.Disk.{DiskState, IsQuiet, IsSettled, Versions, newest, versions_of}
use Rattle.fo_disk.specs.Disk.{Content as Holds}
use Rattle.fo_image.specs.declared.types.Super.{Super}
use Rattle.fo_buffers.specs.declared.block.Buffer.{Buffer}
use Rattle.fo_buffers.specs.Held.{Held, held_at, is_pinned, settled, updated, with_bytes}
use Rattle.fo_order.specs.Turns.{flag_at}
use Rattle.fo_ports.specs.declared.error.BlockError.{BlockError}
use Rattle.fo_waits.specs.declared.listed.Clearing.{Clearing}
use Rattle.fo_waits.specs.Listed.{Clears}
use Rattle.fo_mind.specs.Due.{ClearedDue}
use Rattle.fo_mind.specs.Parts.{IsPinned, Parts}
use Rattle.fo_mind.specs.Sound.{Holding, Placed, Standing}
use Rattle.fo_mind.specs.Turning.{Turning}
use Rattle.fo_mind.proofs.Refilling.{Refills, refills_of}
use Rattle.fo_cache.specs.Easing.{Eases}
use Rattle.fo_cache.specs.Fits.{Fits}
use Rattle.fo_cache.specs.Numbering.{Renumbers}
use Rattle.fo_cache.specs.Settling.{Rested, Settles}
use Rattle.fo_cache.specs.Supers.{Counts, Doubted}
use Rattle.fo_cache.specs.Work.{calls_left}
use Rattle.fo_cache.proofs.Clearing.{recalled_is}
use Rattle.fo_cache.proofs.Easing.{eases_none}
use Rattle.fo_cache.proofs.Settling.{join}
use Rattle.fo_reserving.proofs.of_settling.Waiting.{eases_turns}
use Rattle.fo_reserving.specs.Steps.{Lets}
use Rattle.fo_opening.specs.Ending.{Ending}
use Rattle.fo_opening.specs.Finished.{Finished, KeepsBytes}
use Rattle.fo_opening.proofs.Finishing.{bytes_on, bytes_renumbered, bytes_super, bytes_turned, ends_eased, ends_on, ends_super}

-- ---- one step after another

pub ending_none : (s : DiskState) (f : ℕ) (p : Parts) → Ending s s f f p p
ending_none s f p = record {
  ends = ends_eased (eases_none (record p { disk = s.holds; faults = f }));
  bytes = λ none. record { first = refl; bytes = λ b le. refl };
  pinned = λ b h. h;
  order = λ b j h. h;
  header = inl refl;
  count = refl;
}

pub ending_on : {s t u : DiskState} {f g h : ℕ} {p m q : Parts} → Ending s t f g p m → Ending t u g h m q → Ending s u f h p q
ending_on {s} {t} {u} a b = record {
  ends = ends_on a.ends b.ends;
  bytes = λ none. bytes_on (a.bytes none) (b.bytes (λ x j h. none x j (a.order x j h)));
  pinned = λ x h. a.pinned x (b.pinned x h);
  order = λ x j h. a.order x j (b.order x j h);
  header = join (versions_of s.holds 0) (versions_of t.holds 0) (versions_of u.holds 0) a.header b.header;
  count = b.count ∙ a.count;
}

-- nothing is pinned after it
pub free_after : {s t : DiskState} {f g : ℕ} {p q : Parts} → Ending s t f g p q → ((b : ℕ) → IsPinned p.held b → ⊥) → (b : ℕ) → IsPinned q.held b → ⊥
free_after e free b h = free b (e.pinned b h)

-- memory's bytes, where no slot waits
pub bytes_none : {s t : DiskState} {f g : ℕ} {p q : Parts} → Ending s t f g p q → p.clears ≡ [] → KeepsBytes s t p q
bytes_none e none = e.bytes (λ b j h. subst (λ (cs : List Clearing). Clears cs b j) none h)

-- ---- turns

pinned_settled : (o : Option Buffer) → option_map_or is_pinned (option_map settled o) false ≡ option_map_or is_pinned o false
pinned_settled (Some x) = refl
pinned_settled None = refl

pub pinned_turned : (s t : DiskState) (p q : Parts) → Settles s t p q → (b : ℕ) → IsPinned q.held b → IsPinned p.held b
pinned_turned s t p q k b h =
    sym (pinned_settled (held_at p.held b)) ∙ sym (ap (λ (o : Option Buffer). option_map_or is_pinned o false) (k.held b)) ∙ pinned_settled (held_at q.held b) ∙ h

-- block 0 has no turn
calm_header : (p : Parts) {first : ℕ} → Turning first p.held p.turns p.facts → (flag_at p.turns 0).dirty ≡ false
calm_header p turning = by (flag_at p.turns 0).dirty refl
  where
    by : (d : Bool) → (flag_at p.turns 0).dirty ≡ d → (flag_at p.turns 0).dirty ≡ false
    by false e = e
    by true e = let two = (turning.each 0).begins e in absurd (omega (arith, two))

pub ending_turned : (s t : DiskState) (f g : ℕ) (p q : Parts) {first : ℕ} → Turning first p.held p.turns p.facts → Settles s t p q → f ≤ g → Ending s t f g p q
ending_turned s t f g p q turning k le = record {
  ends = ends_eased (eases_turns s t p q f g k le);
  bytes = λ none. bytes_turned k;
  pinned = pinned_turned s t p q k;
  order = λ b j h. subst (λ (z : Parts). Clears z.clears b j) k.rest h;
  header = k.others 0 (calm_header p turning);
  count = k.count;
}

-- ---- numbers, and the super block

pub ending_renumbered : (s t : DiskState) (f g : ℕ) (p q : Parts) {first count : ℕ} → Placed p.region p.turns p.facts first count → Renumbers s t p q → Eases (record p { disk = s.holds; faults = f }) (record q { disk = t.holds; faults = g }) → Ending s t f g p q
ending_renumbered s t f g p q placed r e = record {
  ends = ends_eased e;
  bytes = λ none. bytes_renumbered s t p q placed r;
  pinned = λ b h. subst (λ (z : Parts). IsPinned z.held b) r.rest h;
  order = λ b j h. subst (λ (z : Parts). Clears z.clears b j) r.rest h;
  header = r.others 0 (λ e. omega (arith, e));
  count = r.count;
}

pub ending_super : {T : Type 0} (s t : DiskState) (f g : ℕ) (p q : Parts) {first count : ℕ} → Placed p.region p.turns p.facts first count → ((k : ℕ) → k ≢ 1 → Rested (versions_of s.holds k) (versions_of t.holds k)) → length t.holds ≡ length s.holds → f ≤ g
    → (one : Super) (r : Result T BlockError) → OnOk r (Counts one s t p q) → OnErr r (Doubted one p q) → one.active ≡ p.one.active → one.high ≡ p.one.high → one.low ≡ p.one.low → Ending s t f g p q
ending_super {T} s t f g p q placed others count later one r c d root high low = record {
  ends = ends_super s t p f g placed others later one q r c d root high low;
  bytes = λ none. bytes_super s t p f g placed others later one q r c d;
  pinned = λ b h. subst (λ (z : Held). IsPinned z b) (held r c d) h;
  order = λ b j h. subst (λ (z : List Clearing). Clears z b j) (clears r c d) h;
  header = others 0 (λ e. omega (arith, e));
  count = count;
}
  where
    held : (r : Result T BlockError) → OnOk r (Counts one s t p q) → OnErr r (Doubted one p q) → q.held ≡ p.held
    held (Ok x) c d = ap (λ (z : Parts). z.held) c.rest
    held (Err x) c d = ap (λ (z : Parts). z.held) d.rest

    clears : (r : Result T BlockError) → OnOk r (Counts one s t p q) → OnErr r (Doubted one p q) → q.clears ≡ p.clears
    clears (Ok x) c d = ap (λ (z : Parts). z.clears) c.rest
    clears (Err x) c d = ap (λ (z : Parts). z.clears) d.rest

-- ---- a slot is cleared

module _ (at i : ℕ) (s t : DiskState) (f g : ℕ) (p q : Parts) (waits : Clears p.clears at i) (same : t ≡ s) (e : Eases (record p { disk = s.holds; faults = f }) (record q { disk = t.holds; faults = g })) where
  beside : ((b : ℕ) → IsPinned q.held b → IsPinned p.held b) → ((b j : ℕ) → Clears q.clears b j → Clears p.clears b j) → Ending s t f g p q
  beside pinned order = record {
    ends = ends_eased e;
    bytes = λ none. absurd (none at i waits);
    pinned = pinned;
    order = order;
    header = inl (ap (λ (x : DiskState). versions_of x.holds 0) same);
    count = ap (λ (x : DiskState). length x.holds) same;
  }

  module _ {low first count : ℕ} (holding : Holding low first count p.region p.held) (standing : Standing p.held p.facts p.clears) (c : ClearedDue at i p q) where
    was : c.recalled.held ≡ p.held
    was = ap (λ (z : Parts). z.held) (recalled_is c)

    now : q.held ≡ c.slotted.filled.held
    now = ap (λ (z : Parts). z.held) c.slotted.follows.rest ∙ ap (λ (z : Parts). z.held) c.slotted.hangs.rest

    filled : Refills at c.slotted.bytes p.held q.held
    filled = refills_of {region = p.region} at c.slotted.bytes p.held q.held holding (standing.still at i waits) c.slotted.long
        (now ∙ c.slotted.refilled.held ∙ ap (λ (z : Held). updated z at (with_bytes 0 c.slotted.bytes)) was)

    pinned : (b : ℕ) → IsPinned q.held b → IsPinned p.held b
    pinned b h = ⊎_elim
        (λ e. subst (λ n. IsPinned p.held n) (sym e) (ap (λ (o : Option Buffer). option_map_or is_pinned o false) filled.held ∙ sym (ap (λ (o : Option Buffer). option_map_or is_pinned o false) filled.here) ∙ subst (λ n. IsPinned q.held n) e h))
        (λ ne. sym (ap (λ (o : Option Buffer). option_map_or is_pinned o false) (filled.others b ne)) ∙ h)
        (cases_eq b at)

    order : (b j : ℕ) → Clears q.clears b j → Clears p.clears b j
    order b j h =
        let z = c in
        let slotted = subst (λ (x : Parts). Clears x.clears b j) z.slotted.refilled.rest (subst (λ (x : Parts). Clears x.clears b j) z.slotted.hangs.rest (subst (λ (x : Parts). Clears x.clears b j) z.slotted.follows.rest h)) in
        subst (λ (x : Parts). Clears x.clears b j) z.ended.rest (z.recalls.out.only b j slotted)

    pub ending_cleared : Ending s t f g p q
    ending_cleared = beside pinned order

-- ---- refusals

-- pins are no work
pub let_left : (p q : Parts) → Lets p q → calls_left q ≡ calls_left p
let_left p q l = ap calls_left l.rest

-- ---- the device is quiet

one_newest : (old : Versions) → length old ≡ 1 → newest old ≡ old
one_newest [] one = absurd (omega (arith, one))
one_newest (v ∷ []) one = refl
one_newest (v ∷ w ∷ vs) one = let more : length (v ∷ w ∷ vs) ≡ 1 = one in absurd (omega (arith, more))

-- block 0 is as it was
pub header_kept : (h k : Holds) → (0 < length h → IsSettled h 0) → Rested (versions_of h 0) (versions_of k 0) → versions_of k 0 ≡ versions_of h 0
header_kept h k one (inl same) = same
header_kept [] k one (inr last) = last
header_kept (v ∷ vs) k one (inr last) = last ∙ one_newest v (one (omega arith))

-- each block has one version
pub quiet_of : (one was : Super) (s t : DiskState) (p q : Parts) → Counts one s t p q → length t.holds ≡ length s.holds → Finished was t q → Fits (record q { disk = t.holds }) t.unsure → (0 < length t.holds → IsSettled t.holds 0) → IsQuiet t.holds
quiet_of one was s t p q c count done fits header = record {
  each = λ b lt. ⊎_elim (λ e. subst (λ n. IsSettled t.holds n) (sym e) (header (omega (arith, lt)))) (λ some. behind b (omega (arith, some)) lt) (cases_eq b 0);
}
  where
    behind : (b : ℕ) → 1 ≤ b → b < length t.holds → IsSettled t.holds b
    behind b le lt = ⊎_elim
        (λ e. subst (λ n. IsSettled t.holds n) (sym e) (ap length (c.settled (omega (arith, e, lt, count)))))
        (λ ne. ⊎_elim
        (λ before. (done.labels b (omega (arith, le, ne)) before lt).0)
        (λ from. (fits.each b from lt).settled (done.settled.quiet.settled b))
        (cases_lt b q.region.first))
        (cases_eq b 1)
