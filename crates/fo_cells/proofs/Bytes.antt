-- Bytes are put: images grow by the bytes of this block, and the invariant is kept.
use Rattle.std.proofs.Common.{◌≡◌, ◌⊎◌, inl, inr, ⊎_elim, ℕ, Bool, true, false, List, sym, ◌∙◌, ap, subst}
use Rattle.std.proofs.lemmas.Bool.{cases_eq}
use Rattle.std.specs.List.{Contains}
use Rattle.fo_image.specs.declared.types.Label.{Label}
use Rattle.fo_crash.specs.declared.slot.Slot.{Slot}
use Rattle.fo_crash.specs.Images.{Content, Image}
use Rattle.fo_crash.specs.Steps.{AddsNothing, AddsBytes, cleared}
use Rattle.fo_crash.specs.Names.{SameUse}
use Rattle.fo_crash.specs.Forms.{MayLeave, IsCleared, Written}
use Rattle.fo_crash.proofs.Forms.{bytes_form, written_adds}
use Rattle.fo_crash.proofs.Equal.{bool_cases}
use Rattle.fo_cells.specs.Known.{Known, Wait, Clear, Top, HasSlot, HasBytes, IsWait, IsClear, IsSince, MaySlot, Images, IsKept, seen, waiting}
use Rattle.fo_cells.specs.Writes.{SameDevice}
use Rattle.fo_cells.specs.Calls.{PutsInto}
use Rattle.fo_cells.proofs.Standing.{seen_is, seen_born, first_among, next_among, among_cases, not_both, at_b}
use Rattle.fo_cells.proofs.Keeping.{Steps, kept_by, stands_fewer, may_name_still}
use Rattle.fo_cells.proofs.Settling.{same_written}

-- what stands for a block: what did, or what memory has now of a newborn block
pub seen_now : {old new : Known} → SameDevice old new → (b : ℕ) (c : Content) → Contains (seen new b) c → Contains (seen old b) c ⊎ ((old.newborn b ≡ true) × (c ≡ new.memory b))
seen_now {old} {new} device b c h = ⊎_elim
    (λ born. ⊎_elim
    (λ first. inr (born, sym first))
    (λ more. inl (subst (λ (cs : List Content). Contains cs c) (sym (seen_born old b born)) (next_among (old.memory b) c (old.late b) (subst (λ (xs : List Content). Contains xs c) (at_b b device.late) more))))
    (among_cases (new.memory b) (new.late b) c (subst (λ (cs : List Content). Contains cs c) (seen_born new b (at_b b device.newborn ∙ born)) h)))
    (λ settled. inl (subst (λ (cs : List Content). Contains cs c) (sym (seen_is old b settled)) (subst (λ (xs : List Content). Contains xs c) (at_b b device.versions) (subst (λ (cs : List Content). Contains cs c) (seen_is new b (at_b b device.newborn ∙ settled)) h))))
    (bool_cases (old.newborn b))

pub born_among : (k : Known) (b : ℕ) → k.newborn b ≡ true → Contains (seen k b) (k.memory b)
born_among k b e = subst (λ (cs : List Content). Contains cs (k.memory b)) (sym (seen_born k b e)) (first_among (k.memory b) (k.late b))

module _ {at : ℕ} {bytes : List ℕ} {old new : Known} (u : PutsInto at bytes old new) where
  slot_stood : (b j : ℕ) (x : Slot) → HasSlot (seen new b) j x → HasSlot (seen old b) j x
  slot_stood b j x h = ⊎_elim
      (λ was. record { content = h.content; among = was; is = h.is })
      (λ n. record { content = old.memory b; among = born_among old b n.0; is = sym (u.memory.slots b j) ∙ ap (λ (c : Content). c.slot j) (sym n.1) ∙ h.is })
      (seen_now u.device b h.content h.among)

  bytes_stood : (b : ℕ) (x : List ℕ) → HasBytes (seen new b) x → HasBytes (seen old b) x ⊎ ((b ≡ at) × (old.newborn b ≡ true) × (x ≡ (new.memory at).bytes))
  bytes_stood b x h = ⊎_elim
      (λ was. inl (record { content = h.content; among = was; is = h.is }))
      (λ n. ⊎_elim
      (λ here. inr (here, n.0, sym h.is ∙ ap (λ (c : Content). c.bytes) n.1 ∙ ap (λ y. (new.memory y).bytes) here))
      (λ other. inl (record { content = old.memory b; among = born_among old b n.0; is = sym (u.memory.others b other) ∙ ap (λ (c : Content). c.bytes) (sym n.1) ∙ h.is }))
      (cases_eq b at))
      (seen_now u.device b h.content h.among)

  waits_same : (leaf on j : ℕ) → IsWait old.waits leaf on j → IsWait new.waits leaf on j
  waits_same leaf on j h = subst (λ (ws : List Wait). IsWait ws leaf on j) (sym u.waits) h

  clears_same : (b j leaf : ℕ) → IsClear new.clears b j leaf → IsClear old.clears b j leaf
  clears_same b j leaf h = subst (λ (cs : List Clear). IsClear cs b j leaf) u.clears h

  since_same : (b j leaf : ℕ) (x : List ℕ) → IsSince new.clears b j leaf x → IsSince old.clears b j leaf x
  since_same b j leaf x h = subst (λ (cs : List Clear). IsSince cs b j leaf x) u.clears h

  -- With memory as it is now, what stands anew adds nothing.
  anew : AddsNothing (MayLeave new.memory (waiting old)) (MayLeave new.memory (waiting new))
  anew = ⊎_elim born settled (bool_cases (old.newborn at))
    where
      born : old.newborn at ≡ true → AddsNothing (MayLeave new.memory (waiting old)) (MayLeave new.memory (waiting new))
      born e =
          let wr : Written at new.memory (waiting old) (waiting new) = record {
            slots = λ b j x h. inl (slot_stood b j x h);
            bytes = λ b x h. ⊎_elim (λ was. inl was) (λ n. inr (n.0, n.2)) (bytes_stood b x h);
            over = λ on j h. absurd (u.free e on j h);
            waits = waits_same;
            clearing = clears_same;
            since = λ b j leaf x h. inl (since_same b j leaf x h);
          } in
          written_adds wr

      settled : old.newborn at ≡ false → AddsNothing (MayLeave new.memory (waiting old)) (MayLeave new.memory (waiting new))
      settled e = record {
        each = λ image m. record {
          fresh = m.fresh;
          slots = λ b j. ⊎_elim (λ d. inl (slot_stood b j ((image b).slot j) d)) (λ r. inr (⊎_elim (λ is. inl is) (λ c. inr (back image m.fresh b j c)) r)) (m.slots b j);
          old_bytes = λ b o. ⊎_elim (λ was. was) (λ n. absurd (not_both n.1 (ap (λ y. old.newborn y) n.0 ∙ e))) (bytes_stood b ((image b).bytes) (m.old_bytes b o));
          new_bytes = m.new_bytes;
          used = λ b on j f h. ⊎_elim (λ x. inl x) (λ c. inr (back image m.fresh on j c)) (m.used b on j f (waits_same b on j h));
        };
      }
        where
          back : (image : Image) (fresh : ℕ → Bool) (b j : ℕ) → IsCleared new.memory (waiting new) image fresh b j → IsCleared new.memory (waiting old) image fresh b j
          back image fresh b j c = record {
            leaf = c.leaf;
            waits = clears_same b j c.leaf c.waits;
            slot = c.slot;
            since = ⊎_elim (λ y. inl y) (λ n. inr (n.0, since_same b j c.leaf ((image c.leaf).bytes) n.1)) c.since;
          }

  -- The images grow by the bytes of this block.
  pub bytes_adds : AddsBytes old.memory at ((new.memory at).bytes) (λ image. (on j : ℕ) → IsWait old.waits at on j → ((leaf : ℕ) → IsClear old.clears on j leaf → ⊥) → SameUse ((image on).slot j) ((old.memory on).slot j)) (Images old) (Images new)
  bytes_adds =
      let grows = bytes_form {w = waiting old} u.memory in
      record { each = λ image m. grows.each image (anew.each image m) }

  pub may_bytes : (a j : ℕ) (x : Slot) → MaySlot new a j x → MaySlot old a j x
  may_bytes a j x h = ⊎_elim
      (λ has. inl (slot_stood a j x has))
      (λ r. inr (⊎_elim
      (λ is. inl (is ∙ u.memory.slots a j))
      (λ c. inr (c.0, clears_same a j c.0 c.1, c.2 ∙ ap cleared (u.memory.slots a j)))
      r))
      h

  pub bytes_keeps : IsKept old → IsKept new
  bytes_keeps kept =
      let steps : Steps old new = record {
        stands = stands_fewer (λ t h. subst (λ (ts : List Top). Contains ts t) u.tops h) may_bytes;
        falls = λ a j b x p st may e. kept.falls a j b x p st (may_bytes a j x may) e;
        label = u.label;
        low = u.low;
        named = λ a j t c p st h e.
            let n = kept.named a j t c p st (subst (λ (cs : List Content). Contains cs c) (same_written old new u.device.newborn u.device.late u.device.versions a) h) e in (
              n.0,
              may_name_still old new t u.label u.low (at_b t u.device.newborn ∙ n.1.settled) (λ l is. n.1.labels l (subst (λ (g : ℕ → List Label). Contains (g t) l) u.device.labels is)),
            );
      } in
      kept_by kept steps
