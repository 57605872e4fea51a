-- What a put or a removal loses.
use Rattle.std.proofs.Common.{◌≡◌, ◌≢◌, ◌⊎◌, inl, inr, ⊎_elim, ℕ, ◌<◌, ◌≤◌, Bool, List, [], ◌++◌, refl, sym, subst}
use Rattle.std.proofs.lemmas.Bool.{cases_eq, cases_lt}
use Rattle.fo_disk.specs.Disk.{Content as Holds}
use Rattle.fo_image.specs.declared.types.Label.{Label}
use Rattle.fo_cells.specs.Known.{Known}
use Rattle.fo_cells.specs.Device.{known}
use Rattle.fo_cells.proofs.Standing.{at_b}
use Rattle.fo_cells_out.specs.Removals.{Pending, IsCovered}
use Rattle.fo_cells_out.specs.Parents.{Tree}
use Rattle.fo_cells_out.specs.Origins.{Origins}
use Rattle.fo_cells_out.proofs.Dividing.{covered_either}
use Rattle.fo_cells_epochs.specs.Epochs.{Root}
use Rattle.fo_cells_epochs.proofs.TreeSteps.{outside_trees}
use Rattle.fo_cells_queue.specs.Queue.{Queued}
use Rattle.fo_cells_lost.specs.Lost.{KeepsKept, MovesOnly, AreShared, HangsIn, SharesStill}
use Rattle.fo_cells_lost.proofs.Lost.{moves_lose, shares_still}
use Rattle.fo_cells_all.specs.All.{Kept, Format}
use Rattle.fo_cells_steps.specs.Division.{SameTree, HoldsMade, division}
use Rattle.fo_cells_steps.specs.Calls.{SameEpoch}
use Rattle.fo_cells_gaps.specs.Gaps.{LosesJust}

-- over a division that has the same blocks
moves_same : {t u v : Tree} {Gap : ℕ → Type 0} → MovesOnly t u Gap → SameTree u v → MovesOnly t v Gap
moves_same m e = record {
  within = λ b w. ⊎_elim (λ x. inl (e.within b x)) (λ r. inr (⊎_elim (λ x. inl (e.covered b x)) (λ g. inr g) r)) (m.within b w);
  made = λ b k. ⊎_elim (λ x. inl (e.within b x)) (λ x. inr (e.made b x)) (m.made b k);
  covered = λ b k. e.covered b (m.covered b k);
  decided = m.decided;
}

-- A SLOT MOVES
module _ {c d : Kept} {f : Format} {Made : ℕ → Type 0} {h : Origins} {unsure : List Bool} {holds : Holds} (all : HoldsMade c f Made h unsure holds) (After : ℕ → Type 0) (at : ℕ) (rs : List Pending) (epoch : SameEpoch c d) (queue : d.queue ≡ c.queue ++ rs) (current : (c.mind.label at).epoch ≡ c.high) (low : d.mind.low ≡ c.mind.low) (label : d.mind.label ≡ c.mind.label) (others : (a i : ℕ) → a ≢ at → (d.mind.memory a).slot i ≡ (c.mind.memory a).slot i) where
  keeps_kept : KeepsKept (known c.mind holds) (known d.mind holds) c.roots
  keeps_kept = record {
    slots = λ a i. ⊎_elim
        (λ e. inr (λ r p among st. outside_trees all.all.epochs.trees at current r p among (subst (λ y. Rattle.fo_cells.specs.Known.Stands (Rattle.fo_cells_epochs.specs.Epochs.tree_of (known c.mind holds) r) y p) e st)))
        (λ ne. inl (others a i ne))
        (cases_eq a at);
  }

  -- a made block is of the high epoch, or of a later one
  made_late : (b : ℕ) → b ≢ 1 → Made b → c.high ≤ (d.mind.label b).epoch
  made_late b ne m = ⊎_elim
      (λ lt. absurd (all.all.queue.now.forest.young b m (ne, all.all.queue.live b (inr m), subst (λ (l : Label). l.epoch < c.high) (at_b b label) lt)))
      (λ le. le)
      (cases_lt (d.mind.label b).epoch c.high)

  shares : ((b : ℕ) → (division d After).Within b → (division c Made).Within b ⊎ Made b) → ((b : ℕ) → IsCovered rs b → (division c Made).Within b) → SharesStill (known c.mind holds) (known d.mind holds) (division c Made) (division d After) c.high c.past c.past c.queue (c.queue ++ rs)
  shares was inside = record {
    low = low;
    each = λ b e hangs. each b e hangs;
  }
    where
      each : (b e : ℕ) → HangsIn (division d After) c.high c.past (c.queue ++ rs) b e → (HangsIn (division c Made) c.high c.past c.queue b e × (d.mind.label b ≡ c.mind.label b)) ⊎ (e ≤ (d.mind.label b).epoch)
      each b e (HangsIn.within w is) = ⊎_elim
          (λ t. inl (HangsIn.within t is, at_b b label))
          (λ m. ⊎_elim
          (λ one. inl (HangsIn.within (subst (λ z. (division c Made).Within z) (sym one) (record { path = []; leads = refl })) is, at_b b label))
          (λ ne. inr (subst (λ n. n ≤ (d.mind.label b).epoch) (sym is) (made_late b ne m)))
          (cases_eq b 1))
          (was b w)
      each b e (HangsIn.earlier r in_past own is) = inl (HangsIn.earlier r in_past own is, at_b b label)
      each b e (HangsIn.active cov is) = ⊎_elim
          (λ x. inl (HangsIn.active x is, at_b b label))
          (λ x. inl (HangsIn.within (inside b x) is, at_b b label))
          (covered_either c.queue rs b cov)

  pub lose_just : {Gap : ℕ → Type 0} {u : Tree} → MovesOnly (division c Made) u Gap → SameTree u (division d After) → ((b : ℕ) → u.Within b → (division c Made).Within b ⊎ Made b) → ((b : ℕ) → IsCovered rs b → (division c Made).Within b) → LosesJust c d Made After holds Gap
  lose_just {Gap} {u} moves same was inside = (
    moves_lose all.all.epochs.safe all.all.epochs.trees keeps_kept (moves_same moves same) low label,
    λ shared.
        let x = shares_still (shares (λ b w. was b (same.within_back b w)) inside) keeps_kept all.all.epochs.safe all.all.epochs.trees shared in
        subst (λ n. AreShared (known d.mind holds) (division d After) n d.roots d.past d.queue) (sym epoch.high) (subst (λ (rs : List Root). AreShared (known d.mind holds) (division d After) c.high rs d.past d.queue) (sym epoch.roots) (subst (λ (ps : List Queued). AreShared (known d.mind holds) (division d After) c.high c.roots ps d.queue) (sym epoch.past) (subst (λ (qs : List Pending). AreShared (known d.mind holds) (division d After) c.high c.roots c.past qs) (sym queue) x))),
  )
