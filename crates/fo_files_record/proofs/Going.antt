-- Entries that go, and the record whose they are.
use Rattle.std.proofs.Common.{◌≡◌, ◌⊎◌, ◌↔◌, ◌≤◌, ℕ, Bool, true, false, List, [], ◌∷◌, find, Some, inl, inr, ⊎_elim, refl, sym, ap, ◌∙◌, arith}
use Rattle.std.specs.List.{list_any}
use Rattle.fo_image.specs.declared.record.Record.{Record}
use Rattle.fo_meta.specs.Leaf.{is_named}
use Rattle.fo_crash.specs.Steps.{cleared}
use Rattle.fo_crash.specs.declared.slot.Slot.{Slot}
use Rattle.fo_ports.specs.State.{State, QueuesOne}
use Rattle.fo_dir_remove.specs.of_dir_change.Changes.{Bears, IsFirstOf}
use Rattle.fo_dir_remove.specs.Removes.{IsGoing}

-- an entry that goes, after a call that leaves it
pub going_later : (s m u : State) (at j : ℕ) → (u.now at).slot j ≡ (m.now at).slot j → (u.clearing at j ↔ m.clearing at j) → IsGoing s m at j → IsGoing s u at j
going_later s m u at j same waits going = ⊎_elim
    (λ p. inl (same ∙ p.0, λ h. p.1 (waits.0 h)))
    (λ p. inr (same ∙ p.0, waits.1 p.1))
    going

-- and before it
pub going_before : (s m u : State) (at j : ℕ) → (m.now at).slot j ≡ (s.now at).slot j → IsGoing m u at j → IsGoing s u at j
going_before s m u at j same going = ⊎_elim
    (λ p. inl (p.0 ∙ ap (λ (z : Slot). cleared z) same, p.1))
    (λ p. inr (p.0 ∙ same, p.1))
    going

-- what was queued is queued still
pub still_queues : (s m u : State) → QueuesOne s m → m.queued ≤ u.queued → QueuesOne s u
still_queues s m u one more = ⊎_elim (λ h. inl (omega (arith, h, more))) (λ h. inr (omega (arith, h, more))) one

decide : (b : Bool) → (b ≡ true) ⊎ (b ≡ false)
decide true = inl refl
decide false = inr refl

-- where one passes first, one passes
found_any : (p : Record → Bool) (rs : List Record) (r : Record) → find p rs ≡ Some r → list_any p rs ≡ true
found_any p [] r is = absurd (cc)
found_any p (x ∷ rs) r is = ⊎_elim (λ e. rw e refl) (λ e. rw e (found_any p rs r (sym (passed e) ∙ is))) (decide (p x))
  where
    passed : p x ≡ false → find p (x ∷ rs) ≡ find p rs
    passed e = rw e refl

-- a leaf with a first record of a name has one
pub bears_first : (name leaf : List ℕ) (r : Record) → IsFirstOf name leaf r → Bears name leaf
bears_first name leaf r first = record { each = λ rs spells. found_any (is_named name) rs r (first.each rs spells) }
