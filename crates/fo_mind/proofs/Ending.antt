-- Waits end, and slots wait to be cleared.
use Rattle.std.proofs.Common.{◌≡◌, ◌⊎◌, inl, inr, ⊎_elim, ℕ, ◌<◌, false, List, [], ◌∷◌, ◌++◌, sym, subst}
use Rattle.fo_image.specs.declared.types.Kind.TheVariants.{Dir}
use Rattle.fo_image.specs.Usable.{is_usable}
use Rattle.fo_buffers.specs.Held.{Held, held_at}
use Rattle.fo_labels.specs.Region.{Region}
use Rattle.fo_ports.specs.Blocks.{slot_count}
use Rattle.fo_waits.specs.declared.listed.Clearing.{Clearing}
use Rattle.fo_waits.specs.declared.listed.Wait.{Wait}
use Rattle.fo_waits.specs.Ended.{EndsFirst}
use Rattle.fo_waits.specs.Listed.{Clears}
use Rattle.fo_mind.specs.Laws.{pinned_held}
use Rattle.fo_mind.specs.Parts.{IsPinned, label_at}
use Rattle.fo_mind.specs.Sound.{Clearable, Holding, Waiting}

pub waiting_fewer : {region : Region} {held : Held} {on i : ℕ} {old new : List Wait} → EndsFirst on i old new → Waiting region held old → Waiting region held new
waiting_fewer e w = record { used = λ a o k h. w.used a o k (e.only a o k h); within = λ a o k h. w.within a o k (e.only a o k h) }

-- ---- slots that wait

pub clears_push : (cs : List Clearing) (c : Clearing) (b j : ℕ) → Clears (cs ++ c ∷ []) b j → Clears cs b j ⊎ ((c.at ≡ b) × (c.slot ≡ j))
clears_push [] c b j h = ⊎_elim (λ here. inr here) (λ rest. absurd rest) h
clears_push (d ∷ cs) c b j h = ⊎_elim (λ here. inl (inl here)) (λ rest. ⊎_elim (λ old. inl (inr old)) (λ new. inr new) (clears_push cs c b j rest)) h

pub clearable_more : {region : Region} {low high first count : ℕ} {held : Held} (cs new : List Clearing) (at i after : ℕ) → new ≡ cs ++ (record { at = at; slot = i; after = after }) ∷ [] → Holding low first count region held → IsPinned held at
    → (label_at region at).kind ≡ Dir 0 → (label_at region at).epoch ≡ high → i < slot_count (Dir 0) → Clearable region low high cs → Clearable region low high new
clearable_more {region} {low} {high} {first} {count} {held} cs new at i after is holding pinned entries current lt clearable = subst (Clearable region low high) (sym is) (record {
  each = λ b j h. ⊎_elim
      (λ old. clearable.each b j old)
      (λ e. subst (λ n. ((label_at region n).kind ≡ Dir 0) × ((label_at region n).epoch ≡ high)) e.0 (entries, current))
      (clears_push cs (record { at = at; slot = i; after = after }) b j h);
  kept = λ b j h. ⊎_elim
      (λ old. clearable.kept b j old)
      (λ e. let x = pinned_held (held_at held at) pinned in subst (λ n. is_usable low (label_at region n) ≡ false) e.0 (holding.kept at x.0 x.1))
      (clears_push cs (record { at = at; slot = i; after = after }) b j h);
  within = λ b j h. ⊎_elim
      (λ old. clearable.within b j old)
      (λ e. subst (λ n. n < slot_count (Dir 0)) e.1 lt)
      (clears_push cs (record { at = at; slot = i; after = after }) b j h);
})

pub clearable_fewer : {region : Region} {low high : ℕ} {cs new : List Clearing} → ((b j : ℕ) → Clears new b j → Clears cs b j) → Clearable region low high cs → Clearable region low high new
clearable_fewer only c = record { each = λ b j h. c.each b j (only b j h); kept = λ b j h. c.kept b j (only b j h); within = λ b j h. c.within b j (only b j h) }
