-- Calls for a file number, one after another, and what calls on blocks see of them.
use Rattle.std.proofs.Common.{◌≡◌, ◌≢◌, ⊎_elim, inl, inr, ℕ, ◌≤◌, ◌^◌, Bool, true, nat_eq, cond, List, [], ◌∷◌, length, Option, None, Result, Ok, Err, refl, sym, ap, ◌∙◌, subst, arith}
use Rattle.std.specs.Result.{OnOk, OnErr}
use Rattle.std.proofs.lemmas.Bool.{ne_eqb}
use Rattle.std.specs.Map.{lookup}
use Rattle.fo_disk.specs.Disk.{DiskState, Versions, latest_of, newest, versions_of}
use Rattle.fo_image.specs.declared.types.Super.{Super}
use Rattle.fo_image.specs.Format.{SuperHolds}
use Rattle.fo_crash.specs.Images.{SameContent}
use Rattle.fo_buffers.specs.Held.{held_at}
use Rattle.fo_order.specs.Keeps.{Turns}
use Rattle.fo_order.specs.Turns.{IsSynced}
use Rattle.fo_labels.specs.Region.{usable_count}
use Rattle.fo_ports.specs.State.{Numbers}
use Rattle.fo_ports.specs.declared.error.BlockError.{BlockError}
use Rattle.fo_mind.specs.Parts.{CacheKeeps, IsBlock, Parts, bytes_of, content_at, count_of, label_at, least_limit, memory, one_content, one_slot, state_of}
use Rattle.fo_mind.specs.Sound.{Placed, Rooted}
use Rattle.fo_mind.proofs.Looking.{same_content}
use Rattle.fo_mind.specs.of_bring.Blocks.{IsData}
use Rattle.fo_buffers.specs.of_slots.Read.{read}
use Rattle.fo_disk.specs.Disk.{Content as Holds}
use Rattle.fo_cache.specs.Fits.{Fits, FitsLabels}
use Rattle.fo_cache.specs.Numbering.{Renumbers}
use Rattle.fo_cache.specs.Settling.{Rested}
use Rattle.fo_cache.specs.Supers.{Counts, Doubted, Overruled}
use Rattle.fo_cache.proofs.Fitting.{newest_alone}
use Rattle.fo_cache.proofs.Settling.{join, over_synced}

-- ---- the super block that says more

pub more_holds : (one : Super) (n : ℕ) → SuperHolds one → 1 ≤ n → n ≤ 2 ^ 30 → SuperHolds (record one { numbers = n })
more_holds one n h some top = record { version_is = h.version_is; low_is = h.low_is; high_is = h.high_is; numbers_are = (some, top); pending_is = h.pending_is }

pub root_block : (p : Parts) {first count : ℕ} → Placed p.region p.turns p.facts first count → Rooted first count p.one → IsBlock p p.one.active
root_block p {first} {count} placed rooted = subst (λ f. IsData f (count_of p.region) p.one.active) (sym placed.is_first) (subst (λ n. IsData first n p.one.active) (sym placed.is_count) rooted.root)

pub certain_limit : (one : Super) (doubt : Option (List ℕ)) → doubt ≡ None → least_limit one doubt ≡ one.numbers
certain_limit one doubt none = ap (least_limit one) none

-- ---- steps

pub no_step : (s : DiskState) (p : Parts) → Renumbers s s p p
no_step s p = record { others = λ k ne. inl refl; count = refl; turn = λ b. refl; over = λ b e. e; rank = λ b. refl; turn_room = refl; one = refl; numbers = omega arith; rest = refl }

pub then : (s m t : DiskState) (p n q : Parts) → Renumbers s m p n → Renumbers m t n q → Renumbers s t p q
then s m t p n q h k = record {
  others = λ b ne. join (versions_of s.holds b) (versions_of m.holds b) (versions_of t.holds b) (h.others b ne) (k.others b ne);
  count = k.count ∙ h.count;
  turn = λ b. k.turn b ∙ h.turn b;
  over = λ b e. k.over b (h.over b e);
  rank = λ b. k.rank b ∙ h.rank b;
  turn_room = k.turn_room ∙ h.turn_room;
  one = k.one ∙ ap (λ (x : Super). record x { numbers = q.one.numbers }) h.one;
  numbers = let a = h.numbers in let b = k.numbers in omega (arith, a, b);
  rest = k.rest ∙ ap (λ (z : Parts). record z { one = q.one; one_bytes = q.one_bytes; doubt = q.doubt; granted = q.granted; turns = q.turns }) h.rest;
}

pub granted : (s : DiskState) (p q : Parts) → q ≡ record p { granted = true } → Renumbers s s p q
granted s p q is = subst (λ (z : Parts). Renumbers s s p z) (sym is) (record { others = λ k ne. inl refl; count = refl; turn = λ b. refl; over = λ b e. e; rank = λ b. refl; turn_room = refl; one = refl; numbers = omega arith; rest = refl })

module _ (p q : Parts) (is : q ≡ record p { granted = true }) (holds : Holds) (unsure : List Bool) where
  pub fits_granted : Fits (record p { disk = holds }) unsure → Fits (record q { disk = holds }) unsure
  fits_granted fits = subst (λ (z : Parts). Fits (record z { disk = holds }) unsure) (sym is) (record { each = fits.each })

  pub labels_granted : FitsLabels (record p { disk = holds }) unsure → FitsLabels (record q { disk = holds }) unsure
  labels_granted fits = subst (λ (z : Parts). FitsLabels (record z { disk = holds }) unsure) (sym is) (record { each = fits.each })

  pub sized_granted : (size : ℕ) → count_of p.region ≤ size → count_of q.region ≤ size
  sized_granted size le = subst (λ (z : Parts). count_of z.region ≤ size) (sym is) le

module _ (s t : DiskState) (p q : Parts) (others : (k : ℕ) → k ≢ 1 → Rested (versions_of s.holds k) (versions_of t.holds k)) (count : length t.holds ≡ length s.holds) where
  synced_step : (turns : Turns) (one : Super) (bytes : List ℕ) (doubt : Option (List ℕ)) → IsSynced p.turns turns → one ≡ record p.one { numbers = one.numbers } → p.one.numbers ≤ one.numbers → q ≡ record p { one = one; one_bytes = bytes; turns = turns; doubt = doubt } → Renumbers s t p q
  synced_step turns one bytes doubt y same more is = subst (λ (z : Parts). Renumbers s t p z) (sym is) (record {
    others = others;
    count = count;
    turn = λ b. ap (λ f. f.dirty) (y.each b);
    over = over_synced p.turns turns y;
    rank = λ b. ap (λ f. f.rank) (y.each b);
    turn_room = y.room;
    one = same;
    numbers = more;
    rest = refl;
  })

  pub settled_step : {T : Type 0} (r : Result T BlockError) → OnOk r (Overruled s t p q) → OnErr r (q ≡ p) → Renumbers s t p q
  settled_step (Ok x) o e = synced_step q.turns p.one p.one_bytes None o.turns refl (omega arith) o.rest
  settled_step (Err x) o e = subst (λ (z : Parts). Renumbers s t p z) (sym e) (record { others = others; count = count; turn = λ b. refl; over = λ b e. e; rank = λ b. refl; turn_room = refl; one = refl; numbers = omega arith; rest = refl })

  pub raised_step : {T : Type 0} (n : ℕ) (r : Result T BlockError) → p.one.numbers ≤ n → OnOk r (Counts (record p.one { numbers = n }) s t p q) → OnErr r (Doubted (record p.one { numbers = n }) p q) → Renumbers s t p q
  raised_step n (Ok x) more c d = synced_step q.turns (record p.one { numbers = n }) q.one_bytes None c.turns refl more c.rest
  raised_step n (Err x) more c d = subst (λ (z : Parts). Renumbers s t p z) (sym d.rest) (record { others = others; count = count; turn = λ b. refl; over = λ b e. e; rank = λ b. refl; turn_room = refl; one = refl; numbers = omega arith; rest = refl })

-- ---- what calls on blocks see

latest_newest : (vs : Versions) → latest_of (newest vs) ≡ latest_of vs
latest_newest [] = refl
latest_newest (v ∷ vs) = ap latest_of (newest_alone (v ∷ vs) (omega arith))

pub latest_rested : (old new : Versions) → Rested old new → latest_of new ≡ latest_of old
latest_rested old new (inl e) = ap latest_of e
latest_rested old new (inr e) = ap latest_of e ∙ latest_newest old

module _ (s t : DiskState) (p q : Parts) (f g : ℕ) (k : Renumbers s t p q) where
  abbrev P : Parts
  P = record p { disk = s.holds; faults = f }

  abbrev Q : Parts
  Q = record p { one = q.one; one_bytes = q.one_bytes; doubt = q.doubt; granted = q.granted; turns = q.turns; disk = t.holds; faults = g }

  at_end : (R : Parts → Type 0) → R Q → R (record q { disk = t.holds; faults = g })
  at_end R h = subst (λ (z : Parts). R (record z { disk = t.holds; faults = g })) (sym k.rest) h

  same_block : (b : ℕ) → b ≢ 1 → memory Q b ≡ memory P b
  same_block b ne =
      ap (λ c. cond c (one_content q.one q.one_bytes) (content_at p.region p.held t.holds b)) (ne_eqb b 1 ne)
      ∙ ap (λ (bytes : List ℕ). read (label_at p.region b).kind (bytes_of (held_at p.held b) (lookup (nat_eq b) p.held.clean) bytes)) (latest_rested (versions_of s.holds b) (versions_of t.holds b) (k.others b ne))
      ∙ sym (ap (λ c. cond c (one_content p.one p.one_bytes) (content_at p.region p.held s.holds b)) (ne_eqb b 1 ne))

  pub other_blocks : (b : ℕ) → b ≢ 1 → SameContent (memory (record q { disk = t.holds; faults = g }) b) (memory P b)
  other_blocks b ne = at_end (λ z. SameContent (memory z b) (memory P b)) (same_content (same_block b ne))

  pub same_way : (i : ℕ) → (memory (record q { disk = t.holds; faults = g }) 1).slot i ≡ (memory P 1).slot i
  same_way i = at_end (λ z. (memory z 1).slot i ≡ (memory P 1).slot i) (ap (λ (x : Super). one_slot x i) k.one)

  numbers_alike : Numbers (state_of P) (state_of Q)
  numbers_alike = record {
    label = λ b. refl;
    marks = λ b. (λ h. h, λ h. h);
    places = λ tells. absurd tells;
    apart = λ b. (λ h. h, λ h. h);
    instead = λ b x. (λ h. h, λ h. h);
    newborn = λ b. (λ h. h, λ h. h);
    waits = λ a on j w. w;
    order = record { clearing = λ b j h. (λ none. none, h); goes_on = λ b j out h. h };
    covered = record { covered = λ b. (λ h. h, λ h. h) };
    no_wait = record { each = λ a on j out w. w };
    dirty = λ b d. ⊎_elim (λ turn. inl (sym (k.turn b) ∙ turn)) (λ changed. inr changed) d;
    room = (refl, refl, refl, refl);
    usable = (ap (λ (x : Super). usable_count x.low p.region) k.one, refl);
    no_removal = record { each = λ x e w h. h };
  }

  pub numbers : Numbers (state_of P) (state_of (record q { disk = t.holds; faults = g }))
  numbers = at_end (λ z. Numbers (state_of P) (state_of z)) numbers_alike

  pub keeps : f ≤ g → CacheKeeps P (record q { disk = t.holds; faults = g })
  keeps le = at_end (λ z. CacheKeeps P z) (record { first = refl; count = refl; high = ap (λ (x : Super). x.high) k.one; low = ap (λ (x : Super). x.low) k.one; root = ap (λ (x : Super). x.active) k.one; faults = le })
