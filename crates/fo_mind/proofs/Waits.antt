-- What waits for the pairs of entries of a leaf.
use Rattle.std.proofs.Common.{◌≡◌, inl, ⊎_elim, ℕ, ◌+◌, ◌*◌, ◌/◌, ◌≤◌, true, false, List, Option, Some, None, refl, sym, ap, ◌∙◌, subst, arith}
use Rattle.std.specs.Option.{option_map, option_map_or}
use Rattle.std.proofs.lemmas.Bool.{cases_lt}
use Rattle.fo_image.specs.declared.types.Kind.{Kind}
use Rattle.fo_image.specs.declared.types.Kind.TheVariants.{Dir}
use Rattle.fo_buffers.specs.declared.block.Buffer.{Buffer}
use Rattle.fo_buffers.specs.Held.{Held, held_at, block_in}
use Rattle.fo_labels.specs.Region.{Region}
use Rattle.fo_crash.specs.declared.slot.Slot.{Slot}
use Rattle.fo_crash.specs.declared.slot.Slot.TheVariants.{Pointer as To, Entry as Head, Prev}
use Rattle.fo_crash.specs.Images.{Content, SameImage}
use Rattle.fo_crash.specs.Names.{IsInUse}
use Rattle.fo_ports.specs.State.{AddsNoWait, Calm, WaitsForPairs, none}
use Rattle.fo_slots.specs.Read.{read}
use Rattle.fo_bring.proofs.Copying.{past_slots}
use Rattle.fo_waits.specs.declared.listed.Clearing.{Clearing}
use Rattle.fo_waits.specs.declared.listed.Wait.{Wait}
use Rattle.fo_waits.specs.Listed.{Clears, Listed, is_active}
use Rattle.fo_waits.specs.Waited.{ListsPairs}
use Rattle.fo_mind.specs.Parts.{Parts, CacheKeeps, label_at, memory, state_of}
use Rattle.fo_mind.specs.Sound.{Waiting}
use Rattle.fo_mind.proofs.Looking.{same_content}

-- ---- what a cache keeps

pub waiting_more : {region : Region} {held : Held} {at on count : ℕ} {clears : List Clearing} {bytes : List ℕ} {old new : List Wait} → Some bytes ≡ option_map block_in (held_at held on) → (label_at region on).kind ≡ Dir 0 → ListsPairs clears (read (Dir 0) bytes) at on count old new → Waiting region held old → Waiting region held new
waiting_more {region} {held} {at} {on} {count} {clears} {bytes} {old} {new} is kind lists waiting = record {
  used = λ a b k w. ⊎_elim
      (λ l. waiting.used a b k l)
      (λ e. subst (λ n. option_map_or (λ (x : Buffer). is_active ((read (label_at region n).kind x.block).slot (2 * k))) (held_at held n) false ≡ true) (sym e.1) (here (held_at held on) is k e.2))
      (lists.only a b k w);
  within = λ a b k w. ⊎_elim
      (λ l. waiting.within a b k l)
      (λ e. ap (λ n. (label_at region n).kind) e.1 ∙ kind)
      (lists.only a b k w);
}
  where
    here : (o : Option Buffer) → Some bytes ≡ option_map block_in o → (k : ℕ) → is_active ((read (Dir 0) bytes).slot (2 * k)) ≡ true → option_map_or (λ (x : Buffer). is_active ((read (label_at region on).kind x.block).slot (2 * k))) o false ≡ true
    here (Some x) e k active =
        let it : x.block ≡ bytes = cc in
        ap (λ (z : Kind). is_active ((read z x.block).slot (2 * k))) kind ∙ ap (λ (bs : List ℕ). is_active ((read (Dir 0) bs).slot (2 * k))) it ∙ active
    here None e k active = absurd (clash e)
      where
        clash : Some bytes ≡ None → ⊥
        clash h = cc

in_use : (s : Slot) (g : ℕ) → IsInUse s g → is_active s ≡ true
in_use (Head e) g h = h.0
in_use (To q) g h = absurd h
in_use (Prev m n) g h = absurd h

module _ (p : Parts) (at on room : ℕ) (bytes : List ℕ) (new : List Wait) (used : room + 1 ≡ p.room)
    (is : memory p on ≡ read (Dir 0) bytes) (lists : ListsPairs p.clears (read (Dir 0) bytes) at on 102 p.waits new) where
  abbrev q : Parts
  q = record p { waits = new; room = room }

  pub waits_pairs : WaitsForPairs at on (state_of p) (state_of q)
  waits_pairs = record {
    each = λ k g holds free.
        let l = each k (in_use ((read (Dir 0) bytes).slot (2 * k)) g (subst (λ (c : Content). IsInUse (c.slot (2 * k)) g) is holds)) free in
        let even : 2 * k / 2 ≡ k = omega arith in
        let odd : (2 * k + 1) / 2 ≡ k = omega arith in
        (subst (Listed new at on) (sym even) l, subst (Listed new at on) (sym odd) l);
  }
    where
      none_past : (k : ℕ) → 102 ≤ k → is_active ((read (Dir 0) bytes).slot (2 * k)) ≡ true → ⊥
      none_past k ge active = clash (sym (ap is_active (past_slots (Dir 0) bytes (2 * k) (omega (arith, ge)))) ∙ active)
        where
          clash : false ≡ true → ⊥
          clash e = cc

      each : (k : ℕ) → is_active ((read (Dir 0) bytes).slot (2 * k)) ≡ true → (Clears p.clears on (2 * k) → ⊥) → Listed new at on k
      each k active free = ⊎_elim (λ lt. lists.each k lt active free) (λ ge. absurd (none_past k ge active)) (cases_lt k 102)

  pub no_wait_pairs : AddsNoWait (λ a. a ≡ at) (state_of p) (state_of q)
  no_wait_pairs = record { each = λ a b j ne w. ⊎_elim (λ l. l) (λ e. absurd (ne e.0)) (lists.only a b (j / 2) w) }

  pub image_pairs : SameImage (memory q) (memory p)
  image_pairs = record { each = λ b. same_content refl }

  pub calm_pairs : Calm none 1 (state_of p) (state_of q)
  calm_pairs = record {
    frame = record {
      stays = record {
        labels = λ b _. refl;
        marks = λ b _. (λ h. h, λ h. h, λ h. h);
        places = λ t. absurd t;
        rooted = λ t. absurd t;
        newborn = λ b _ h. h;
        apart = λ b _ _. (λ h. h, λ h. h);
        instead = λ b x _ _. (λ h. h, λ h. h);
        waits = λ a b j _ _ _ w. lists.still a b (j / 2) w;
      };
      dirty = λ b d. inl d;
      uses = record { spare = omega arith; usable = omega arith; room = used; pins = refl; moments = refl; left = λ k image h. h };
      numbers = record { next = refl; grants = λ h. h };
    };
    order = record { clearing = λ b j h. (λ none. none, h); goes_on = λ b j _ h. h };
    covered = record { covered = λ b. (λ h. h, λ h. h) };
    newborn = λ b h. h;
    queued = refl;
    no_removal = record { each = λ x e w h. h };
  }

  pub keeps_pairs : CacheKeeps p q
  keeps_pairs = record { first = refl; count = refl; high = refl; low = refl; root = refl; faults = omega arith }
