-- What a step has to keep beside the whole of made blocks: kept trees, closed labels, and what hangs or waits.
use Rattle.std.proofs.Common.{◌≡◌, ◌≢◌, ◌⊎◌, inl, inr, ⊎_elim, ℕ, ◌<◌, ◌≤◌, false, Bool, List, sym, ◌∙◌, ap, subst, arith}
use Rattle.std.specs.List.{Contains}
use Rattle.fo_disk.specs.Disk.{Content as Holds}
use Rattle.fo_image.specs.declared.types.Label.{Label}
use Rattle.fo_image.specs.declared.types.State.TheVariants.{Closed}
use Rattle.fo_image.specs.Usable.{is_usable}
use Rattle.fo_crash.specs.declared.slot.Slot.{Slot}
use Rattle.fo_crash.specs.Images.{Image, Reaches, target, to_block}
use Rattle.fo_crash.proofs.Reach.{same_walk}
use Rattle.fo_cells.specs.Device.{known}
use Rattle.fo_cells.proofs.Standing.{at_b}
use Rattle.fo_cells_out.specs.Removals.{IsCovered}
use Rattle.fo_cells_out.specs.Origins.{Origins}
use Rattle.fo_cells_epochs.specs.Epochs.{Root}
use Rattle.fo_cells_queue.specs.Queue.{Queued}
use Rattle.fo_cells_lost.specs.Lost.{KeepsKept, HangsIn, AreShared}
use Rattle.fo_cells_lost.proofs.Lost.{tree_stays}
use Rattle.fo_cells_all.specs.All.{Kept, Format}
use Rattle.fo_cells_steps.specs.Division.{HoldsMade, division}
use Rattle.fo_cells_shown.specs.Closed.{ClosedAreKept}
use Rattle.fo_cells_whole.specs.Whole.{HoldsWhole}
use Rattle.fo_cells_whole.proofs.Certain.{KeepsMore}

-- Kept trees and their roots stay, and what hangs or waits did, with its label; or is young.
pub record KeepsHung (c d : Kept) (Made After : ℕ → Type 0) (before holds : Holds) : Type 0 where
  pub kept : KeepsKept (known c.mind before) (known d.mind holds) c.roots
  pub roots : (r : Root) → Contains c.roots r → Contains d.roots r
  pub low : d.mind.low ≡ c.mind.low
  pub hangs : (b epoch : ℕ) → b ≢ 1 → HangsIn (division d After) d.high d.past d.queue b epoch → (HangsIn (division c Made) c.high c.past c.queue b epoch × (d.mind.label b ≡ c.mind.label b)) ⊎ (epoch ≤ (d.mind.label b).epoch)

-- What is closed then was, with that label.
abbrev pub ClosedBefore : Kept → Kept → Type 0
ClosedBefore c d = (b : ℕ) → b ≢ 1 → (d.mind.label b).state ≡ Closed → d.mind.label b ≡ c.mind.label b

pub record KeepsRest (c d : Kept) (Made After : ℕ → Type 0) (before holds : Holds) : Type 0 where
  pub hung : KeepsHung c d Made After before holds
  pub closed : ClosedBefore c d

module _ {c : Kept} {f : Format} {Made : ℕ → Type 0} {h : Origins} {unsure : List Bool} {before : Holds} (all : HoldsMade c f Made h unsure before) where
  pub closed_by : (d : Kept) (holds : Holds) → KeepsKept (known c.mind before) (known d.mind holds) c.roots → ((r : Root) → Contains c.roots r → Contains d.roots r) → d.mind.low ≡ c.mind.low → ClosedBefore c d → ClosedAreKept (known c.mind before) c.roots → ClosedAreKept (known d.mind holds) d.roots
  closed_by d holds kept roots low closed was = record {
    closed = λ b ne is taken.
        let same = closed b ne is in
        let x = was.closed b ne (subst (λ (l : Label). l.state ≡ Closed) same is) (subst (λ n. is_usable n (c.mind.label b) ≡ false) low (subst (λ (l : Label). is_usable d.mind.low l ≡ false) same taken)) in
        (x.0, roots x.0 x.1, x.2 ∙ sym (ap (λ (l : Label). l.closing) same), ((x.3).0, tree_stays all.all.epochs.safe all.all.epochs.trees kept x.0 x.1 b (x.3).0 (x.3).1));
  }

  pub shared_by : {d : Kept} {After : ℕ → Type 0} {holds : Holds} → KeepsHung c d Made After before holds → AreShared (known c.mind before) (division c Made) c.high c.roots c.past c.queue → AreShared (known d.mind holds) (division d After) d.high d.roots d.past d.queue
  shared_by {d} {After} {holds} k was = record {
    shared = λ b epoch ne hangs below above. ⊎_elim
        (λ y.
        let x = was.shared b epoch ne y.0 (subst (λ (l : Label). l.epoch < epoch) y.1 below) (subst (λ n. n < epoch) k.low above) in
        (x.0, k.roots x.0 x.1, x.2, ((x.3).0, tree_stays all.all.epochs.safe all.all.epochs.trees k.kept x.0 x.1 b (x.3).0 (x.3).1)))
        (λ young. let up = young in let down = below in absurd (omega (arith, up, down)))
        (k.hangs b epoch ne hangs);
  }

-- the whole after a step that keeps the rest
pub whole_by : {c d : Kept} {f : Format} {Made After : ℕ → Type 0} {h after : Origins} {unsure later : List Bool} {before holds : Holds} → KeepsRest c d Made After before holds → KeepsMore c d → HoldsMade d f After after later holds → HoldsWhole c f Made h unsure before → HoldsWhole d f After after later holds
whole_by {c} {d} {holds = holds} k more now all = record {
  made = now;
  closed = closed_by all.made d holds k.hung.kept k.hung.roots k.hung.low k.closed all.closed;
  shared = shared_by all.made k.hung all.shared;
  certain = more.certain all.certain;
  awaited = more.awaited all.awaited;
}

-- ---- slots of memory stay

pub kept_slots : (c d : Kept) (before holds : Holds) (roots : List Root) → ((a i : ℕ) → (d.mind.memory a).slot i ≡ (c.mind.memory a).slot i) → KeepsKept (known c.mind before) (known d.mind holds) roots
kept_slots c d before holds roots same = record { slots = λ a i. inl (same a i) }

pub reach_back : (m n : Image) → ((a i : ℕ) → (n a).slot i ≡ (m a).slot i) → (s : Slot) (b : ℕ) → Reaches n s b → Reaches m s b
reach_back m n same s b r = record { path = r.path; leads = ap target (same_walk m n (λ a i. sym (same a i)) r.path s) ∙ r.leads }

-- Where each slot of memory and each label stays, the tree is the same; and what waits, but for what is young.
pub record SameSlots (c d : Kept) : Type 0 where
  pub slots : (a i : ℕ) → (d.mind.memory a).slot i ≡ (c.mind.memory a).slot i
  pub label : d.mind.label ≡ c.mind.label
  pub low : d.mind.low ≡ c.mind.low
  pub high : d.high ≡ c.high
  pub roots : d.roots ≡ c.roots
  pub past : d.past ≡ c.past
  pub queue : (b : ℕ) → b ≢ 1 → IsCovered d.queue b → IsCovered c.queue b ⊎ (c.high ≤ (d.mind.label b).epoch)

pub slots_rest : {c d : Kept} {Made After : ℕ → Type 0} (before holds : Holds) → SameSlots c d → KeepsRest c d Made After before holds
slots_rest {c} {d} {Made} {After} before holds s = record {
  hung = record {
    kept = kept_slots c d before holds c.roots s.slots;
    roots = λ r among. subst (λ (rs : List Root). Contains rs r) (sym s.roots) among;
    low = s.low;
    hangs = λ b epoch ne is. each b epoch ne is;
  };
  closed = λ b ne is. at_b b s.label;
}
  where
    each : (b epoch : ℕ) → b ≢ 1 → HangsIn (division d After) d.high d.past d.queue b epoch → (HangsIn (division c Made) c.high c.past c.queue b epoch × (d.mind.label b ≡ c.mind.label b)) ⊎ (epoch ≤ (d.mind.label b).epoch)
    each b epoch ne (HangsIn.within w is) = inl (HangsIn.within (reach_back c.mind.memory d.mind.memory s.slots (to_block 1) b w) (is ∙ s.high), at_b b s.label)
    each b epoch ne (HangsIn.earlier r in_past own is) = inl (HangsIn.earlier r (subst (λ (rs : List Queued). Contains rs r) s.past in_past) own is, at_b b s.label)
    each b epoch ne (HangsIn.active cov is) = ⊎_elim
        (λ old. inl (HangsIn.active old (is ∙ s.high), at_b b s.label))
        (λ young. let up = young in let e : epoch ≡ c.high = is ∙ s.high in inr (omega (arith, up, e)))
        (s.queue b ne cov)
