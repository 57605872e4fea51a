-- Calls in memory after which each slot is as it was, and slots that are cleared.
use Rattle.std.proofs.Common.{◌≡◌, ◌≢◌, ◌⊎◌, inl, inr, ⊎_elim, ℕ, ◌≤◌, ◌*◌, Bool, List, sym, ◌∙◌, ap, subst}
use Rattle.std.proofs.lemmas.Bool.{cases_eq}
use Rattle.std.specs.List.{Contains}
use Rattle.fo_disk.specs.Disk.{Content as Holds}
use Rattle.fo_image.specs.declared.types.Pointer.TheVariants.{Local}
use Rattle.fo_crash.specs.Images.{Image, Reaches, target, to_block}
use Rattle.fo_crash.specs.Steps.{cleared}
use Rattle.fo_cells.specs.Known.{Stands}
use Rattle.fo_cells.specs.Device.{known}
use Rattle.fo_cells.specs.Writes.{Puts, Fires, Ends}
use Rattle.fo_cells.specs.Calls.{PutsInto, Awaits, WaitsMore}
use Rattle.fo_cells.specs.Laws.{NoWait}
use Rattle.fo_cells.proofs.Standing.{at_b}
use Rattle.fo_cells.proofs.Waiting.{cleared_leads}
use Rattle.fo_cells_out.specs.Removals.{Pending, IsCovered}
use Rattle.fo_cells_out.specs.Origins.{Origins}
use Rattle.fo_cells_out.proofs.Dividing.{covered_either}
use Rattle.fo_cells_held.specs.Room.{Used}
use Rattle.fo_cells_epochs.specs.Epochs.{Root, tree_of}
use Rattle.fo_cells_epochs.proofs.TreeSteps.{outside_trees}
use Rattle.fo_cells_queue.specs.Queue.{Queued}
use Rattle.fo_cells_lost.specs.Lost.{KeepsKept, HangsIn}
use Rattle.fo_cells_all.specs.All.{Kept, Format}
use Rattle.fo_cells_steps.specs.Division.{HoldsMade, division}
use Rattle.fo_cells_steps.specs.Calls.{SameRest, Beside}
use Rattle.fo_cells_steps.specs.Taking.{LeavesWith, InTree}
use Rattle.fo_cells_steps.proofs.Paths.{last_use}
use Rattle.fo_cells_whole.specs.Awaited.{InPairs, WaitsUsed, AwaitsPairs, NoneAwaits}
use Rattle.fo_cells_whole.proofs.Certain.{KeepsMore, more_by, awaited_still, awaited_more, put_awaited, fired_awaited}
use Rattle.fo_cells_whole.proofs.Rest.{KeepsRest, SameSlots}

-- memory's slots, labels and the low epoch stay
pub quiet_slots : {c d : Kept} → SameRest c d → ((a i : ℕ) → (d.mind.memory a).slot i ≡ (c.mind.memory a).slot i) → d.mind.label ≡ c.mind.label → d.mind.low ≡ c.mind.low → SameSlots c d
quiet_slots r slots label low = record {
  slots = slots;
  label = label;
  low = low;
  high = r.epoch.high;
  roots = r.epoch.roots;
  past = r.epoch.past;
  queue = λ b ne is. inl (subst (λ (qs : List Pending). IsCovered qs b) r.queue is);
}

pub bytes_slots : {at : ℕ} {bytes : List ℕ} {c d : Kept} (holds : Holds) → SameRest c d → PutsInto at bytes (known c.mind holds) (known d.mind holds) → SameSlots c d
bytes_slots holds r u = quiet_slots r (λ a i. u.memory.slots a i) u.label u.low

pub more_slots : {c d : Kept} (holds : Holds) → SameRest c d → WaitsMore (known c.mind holds) (known d.mind holds) → SameSlots c d
more_slots holds r w = quiet_slots r (λ a i. ap (λ (m : Image). (m a).slot i) w.same.memory) w.same.label w.same.low

pub await_slots : {at i leaf : ℕ} {c d : Kept} (holds : Holds) → SameRest c d → Awaits at i leaf (known c.mind holds) (known d.mind holds) → SameSlots c d
await_slots holds r w = quiet_slots r (λ a i. ap (λ (m : Image). (m a).slot i) w.same.memory) w.same.label w.same.low

pub end_slots : {c d : Kept} (holds : Holds) → SameRest c d → Ends (known c.mind holds) (known d.mind holds) → SameSlots c d
end_slots holds r w = quiet_slots r (λ a i. ap (λ (m : Image). (m a).slot i) w.same.memory) w.same.label w.same.low

-- who waits
module _ {c d : Kept} {f : Format} {x : Used} {holds : Holds} (b : Beside c d f x holds) where
  pub bytes_more : {at : ℕ} {bytes : List ℕ} → SameRest c d → PutsInto at bytes (known c.mind holds) (known d.mind holds) → KeepsMore c d
  bytes_more r u = more_by r.epoch b (awaited_still c d u.waits (λ leaf on k is. u.memory.slots on (2 * k)))

  pub more_more : SameRest c d → WaitsMore (known c.mind holds) (known d.mind holds) → AwaitsPairs c.mind.waits d.mind.waits c.mind.memory → KeepsMore c d
  more_more r w pairs = more_by r.epoch b (λ was. subst (λ (m : Image). WaitsUsed d.mind.waits m) (sym w.same.memory) (awaited_more pairs w.waits was))

  pub await_more : {at i leaf : ℕ} → SameRest c d → Awaits at i leaf (known c.mind holds) (known d.mind holds) → KeepsMore c d
  await_more r w = more_by r.epoch b (awaited_still c d w.waits (λ leaf on k is. ap (λ (m : Image). (m on).slot (2 * k)) w.same.memory))

  pub end_more : SameRest c d → Ends (known c.mind holds) (known d.mind holds) → NoWait (known c.mind holds) (known d.mind holds) → InPairs d.mind.waits → KeepsMore c d
  end_more r w fewer pairs = more_by r.epoch b (λ was. subst (λ (m : Image). WaitsUsed d.mind.waits m) (sym w.same.memory) (record {
    pairs = pairs;
    used = λ leaf on k is. was.used leaf on k (fewer leaf on (2 * k) is);
  }))

  pub removed_more : {at i : ℕ} {rs : List Pending} → InTree at c d rs → Puts at i (cleared ((c.mind.memory at).slot i)) (known c.mind holds) (known d.mind holds) → KeepsMore c d
  removed_more step p = more_by step.epoch b (put_awaited p)

  pub fired_more : {at i leaf : ℕ} {rs : List Pending} → InTree at c d rs → Fires at i leaf (known c.mind holds) (known d.mind holds) → NoWait (known c.mind holds) (known d.mind holds) → NoneAwaits d.mind.waits at i → KeepsMore c d
  fired_more step r fewer none = more_by step.epoch b (fired_awaited r fewer none)

-- ---- one slot of a current block changes

pub current_kept : {c : Kept} {f : Format} {Made : ℕ → Type 0} {h : Origins} {unsure : List Bool} {holds : Holds} → HoldsMade c f Made h unsure holds → (d : Kept) (at : ℕ) → (c.mind.label at).epoch ≡ c.high → ((a i : ℕ) → a ≢ at → (d.mind.memory a).slot i ≡ (c.mind.memory a).slot i) → KeepsKept (known c.mind holds) (known d.mind holds) c.roots
current_kept {c} {holds = holds} all d at current others = record {
  slots = λ a i. ⊎_elim
      (λ e. inr (λ r p among st. outside_trees all.all.epochs.trees at current r p among (subst (λ y. Stands (tree_of (known c.mind holds) r) y p) e st)))
      (λ ne. inl (others a i ne))
      (cases_eq a at);
}

-- A slot of the tree is cleared, and what leaves is queued, of what hung there.
pub cleared_rest : {c d : Kept} {f : Format} {Made : ℕ → Type 0} {h : Origins} {unsure : List Bool} {holds : Holds} {at i : ℕ} {rs : List Pending} → HoldsMade c f Made h unsure holds → LeavesWith at i c h rs → InTree at c d rs → d.mind.low ≡ c.mind.low → d.mind.label ≡ c.mind.label → (d.mind.memory at).slot i ≡ cleared ((c.mind.memory at).slot i) → ((a j : ℕ) → (a ≢ at) ⊎ (j ≢ i) → (d.mind.memory a).slot j ≡ (c.mind.memory a).slot j) → KeepsRest c d Made Made holds holds
cleared_rest {c} {d} {f} {Made} {h} {unsure} {holds} {at} {i} {rs} all leaves step low label here others = record {
  hung = record {
    kept = current_kept all d at step.current (λ a j ne. others a j (inl ne));
    roots = λ r among. subst (λ (xs : List Root). Contains xs r) (sym step.epoch.roots) among;
    low = low;
    hangs = λ b epoch ne is. each b epoch is;
  };
  closed = λ b ne is. at_b b label;
}
  where
    none : (z : ℕ) → target ((d.mind.memory at).slot i) ≡ Local z → ⊥
    none z e = cleared_leads ((c.mind.memory at).slot i) z (ap target (sym here) ∙ e)

    was : (b : ℕ) → Reaches d.mind.memory (to_block 1) b → Reaches c.mind.memory (to_block 1) b
    was b r = ⊎_elim
        (λ now. now)
        (λ n. absurd (Rattle.fo_crash.proofs.Reach.lost c.mind.memory n.path ((d.mind.memory at).slot i) none b n.leads))
        (last_use d.mind.memory c.mind.memory at i (λ a j ne. sym (others a j ne)) r)

    hung : (b : ℕ) → IsCovered rs b → Reaches c.mind.memory (to_block 1) b
    hung b is = ⊎_elim
        (λ y. absurd (subst (λ (xs : List Pending). IsCovered xs b) y.1 is))
        (λ y.
        let (x, blocks, out, one) = y in
        ⊎_elim
        (λ own. Rattle.fo_crash.proofs.Reach.reaches_joins step.within (Rattle.fo_crash.proofs.Reach.reaches_from i (out.below b own)))
        (λ no. absurd no)
        (subst (λ (xs : List Pending). IsCovered xs b) one is))
        leaves

    each : (b epoch : ℕ) → HangsIn (division d Made) d.high d.past d.queue b epoch → (HangsIn (division c Made) c.high c.past c.queue b epoch × (d.mind.label b ≡ c.mind.label b)) ⊎ (epoch ≤ (d.mind.label b).epoch)
    each b epoch (HangsIn.within w is) = inl (HangsIn.within (was b w) (is ∙ step.epoch.high), at_b b label)
    each b epoch (HangsIn.earlier r in_past own is) = inl (HangsIn.earlier r (subst (λ (xs : List Queued). Contains xs r) step.epoch.past in_past) own is, at_b b label)
    each b epoch (HangsIn.active cov is) = ⊎_elim
        (λ old. inl (HangsIn.active old (is ∙ step.epoch.high), at_b b label))
        (λ new. inl (HangsIn.within (hung b new) (is ∙ step.epoch.high), at_b b label))
        (covered_either c.queue rs b (subst (λ (qs : List Pending). IsCovered qs b) step.queue cov))

pub removed_rest : {c d : Kept} {f : Format} {Made : ℕ → Type 0} {h : Origins} {unsure : List Bool} {holds : Holds} {at i : ℕ} {rs : List Pending} → HoldsMade c f Made h unsure holds → LeavesWith at i c h rs → InTree at c d rs → Puts at i (cleared ((c.mind.memory at).slot i)) (known c.mind holds) (known d.mind holds) → KeepsRest c d Made Made holds holds
removed_rest all leaves step p = cleared_rest all leaves step p.low p.label p.memory.here p.memory.others

pub fired_rest : {c d : Kept} {f : Format} {Made : ℕ → Type 0} {h : Origins} {unsure : List Bool} {holds : Holds} {at i leaf : ℕ} {rs : List Pending} → HoldsMade c f Made h unsure holds → LeavesWith at i c h rs → InTree at c d rs → Fires at i leaf (known c.mind holds) (known d.mind holds) → KeepsRest c d Made Made holds holds
fired_rest all leaves step r = cleared_rest all leaves step r.low r.label r.memory.here r.memory.others
