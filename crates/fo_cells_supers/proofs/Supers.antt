-- Super blocks of one epoch.
use Rattle.std.proofs.Common.{◌≡◌, ◌≢◌, inl, ⊎_elim, ℕ, Bool, List, [], ◌∷◌, refl, sym, ◌∙◌, ap, subst}
use Rattle.std.proofs.lemmas.Bool.{cases_eq}
use Rattle.std.specs.List.{Contains}
use Rattle.fo_disk.specs.Disk.{Content as Holds}
use Rattle.fo_image.specs.declared.types.Pointer.TheVariants.{Local}
use Rattle.fo_crash.specs.Images.{Content, Image, SameContent, target, to_block}
use Rattle.fo_crash.specs.Steps.{AddsSuper}
use Rattle.fo_cells.specs.Known.{Known, Top, Clear, IsClear, Remains}
use Rattle.fo_cells.specs.Device.{known}
use Rattle.fo_cells.proofs.Standing.{at_b}
use Rattle.fo_cells.proofs.Super.{super_adds}
use Rattle.fo_cells_out.specs.Removals.{Pending}
use Rattle.fo_cells_out.specs.Parents.{Stays, view}
use Rattle.fo_cells_out.specs.Origins.{Origins}
use Rattle.fo_cells_out.proofs.Steps.{number_stays}
use Rattle.fo_cells_epochs.specs.Epochs.{Root, HasEpochs, KeepsTrees}
use Rattle.fo_cells_epochs.proofs.TreeSteps.{tries_trees}
use Rattle.fo_cells_epochs.proofs.Epochs.{tries_epochs}
use Rattle.fo_cells_queue.specs.Queue.{Queued, IsQueue}
use Rattle.fo_cells_queue.proofs.Queue.{queue_still}
use Rattle.fo_cells_all.specs.All.{Kept, Format, HoldsBeside}
use Rattle.fo_cells_all.proofs.All.{together}
use Rattle.fo_cells_steps.specs.Division.{SameTree, HoldsMade, division}
use Rattle.fo_cells_steps.specs.Calls.{images}
use Rattle.fo_cells_steps.proofs.Same.{queue_same, origins_alike}
use Rattle.fo_cells_steps.proofs.Still.{division_same}
use Rattle.fo_cells_steps.proofs.Facts.{held_stands}
use Rattle.fo_cells_supers.specs.Supers.{SameTrees, TriesOne}

-- ALL BUT BLOCK 1 STAYS
same_division : (c d : Kept) (Made : ℕ → Type 0) → SameTrees c d → ((a i : ℕ) → (d.mind.memory a).slot i ≡ (c.mind.memory a).slot i) → ((b : ℕ) → d.mind.label b ≡ c.mind.label b) → SameTree (division c Made) (division d Made)
same_division c d Made s slots labels = division_same {c = c} {d = record d { doubts = c.doubts }} Made (record { epoch = record { high = s.high; doubts = refl; roots = s.roots; past = s.past }; active = s.active; queue = s.queue }) slots labels

module _ {c d : Kept} {f : Format} {Made : ℕ → Type 0} {h : Origins} {unsure : List Bool} {holds after : Holds} (all : HoldsMade c f Made h unsure holds) (s : SameTrees c d) (slots : (a i : ℕ) → (d.mind.memory a).slot i ≡ (c.mind.memory a).slot i) (labels : (b : ℕ) → d.mind.label b ≡ c.mind.label b) (stays : Stays (known c.mind holds) (known d.mind after) (division c Made)) (trees : KeepsTrees (known c.mind holds) (known d.mind after) c.active c.active c.roots) where
  pub super_made : {later : List Bool} → HasEpochs (known d.mind after) c.high f.high_of d.doubts c.active c.roots → HoldsBeside d f later after → HoldsMade d f Made h later after
  super_made {later} e b =
      let q = queue_same (same_division c d Made s slots labels) (queue_still stays trees (λ a is. labels a) all.all.queue) in record {
        all = together
            (subst (λ n. HasEpochs (known d.mind after) n f.high_of d.doubts d.active d.roots) (sym s.high) (subst (λ (ts : List Top). HasEpochs (known d.mind after) c.high f.high_of d.doubts ts d.roots) (sym s.active) (subst (λ (rs : List Root). HasEpochs (known d.mind after) c.high f.high_of d.doubts c.active rs) (sym s.roots) e)))
            (subst (λ n. IsQueue (known d.mind after) (division d Made) n d.active d.roots d.past d.queue) (sym s.high) (subst (λ (ts : List Top). IsQueue (known d.mind after) (division d Made) c.high ts d.roots d.past d.queue) (sym s.active) (subst (λ (rs : List Root). IsQueue (known d.mind after) (division d Made) c.high c.active rs d.past d.queue) (sym s.roots) (subst (λ (ps : List Queued). IsQueue (known d.mind after) (division d Made) c.high c.active c.roots ps d.queue) (sym s.past) (subst (λ (qs : List Pending). IsQueue (known d.mind after) (division d Made) c.high c.active c.roots c.past qs) (sym s.queue) q)))))
            b;
        origins = origins_alike (view (known c.mind holds) c.active) (view (known d.mind after) d.active) (λ a j z q_e. ap target (slots a j) ∙ q_e) (λ a j z q_e. ap target (sym (slots a j)) ∙ q_e) (same_division c d Made s slots labels) all.origins;
        tops = λ y is. all.tops y (subst (λ (ts : List Top). Contains ts y) s.active is);
        apart = λ a is. let y = all.apart a is in (y.0, subst (λ (ts : List Top). Contains ts y.0) (sym s.active) y.1, y.2);
      }

-- the slots of block 1, and of all
pub one_slots : (old new : Image) (s : Content) → ((b : ℕ) → b ≢ 1 → new b ≡ old b) → ((i : ℕ) → (new 1).slot i ≡ (old 1).slot i) → (a i : ℕ) → (new a).slot i ≡ (old a).slot i
one_slots old new s others one a i = ⊎_elim
    (λ e. subst (λ y. (new y).slot i ≡ (old y).slot i) (sym e) (one i))
    (λ ne. ap (λ (x : Content). x.slot i) (others a ne))
    (cases_eq a 1)

-- TRIED
pub tried_made : {s : Content} {c d : Kept} {f : Format} {Made : ℕ → Type 0} {h : Origins} {unsure later : List Bool} {holds after : Holds} → TriesOne s c d f later holds after → HoldsMade c f Made h unsure holds → AddsSuper c.mind.memory (λ image. SameContent (image 1) s) (images c holds) (images d after) × HoldsMade d f Made h later after
tried_made {s} {c} {d} {f} {Made} {h} {unsure} {later} {holds} {after} t all =
    let names : (i b : ℕ) → target (s.slot i) ≡ Local b → (s.slot i ≡ to_block b) × ((c.mind.label b).epoch ≡ f.high_of s) × ((q : Rattle.fo_crash.specs.declared.place.Place.Place) × Rattle.fo_cells.specs.Known.Stands (view (known c.mind holds) c.active) b q) × Rattle.fo_cells_epochs.specs.Epochs.IsLabelSet (known c.mind holds) b = λ i b e.
    let led : target ((c.mind.memory 1).slot i) ≡ Local b = ap target (sym (t.slots i)) ∙ e in
    let r = all.all.epochs.supers.root (c.mind.memory 1) i b (Rattle.fo_cells.proofs.Standing.first_among (c.mind.memory 1) ((known c.mind holds).versions 1)) led in (
      t.slots i ∙ r.1,
      r.2 ∙ all.all.epochs.supers.high_is ∙ sym t.high_is,
      held_stands all b (inl (record { path = i ∷ []; leads = led })),
      t.set i b e,
    ) in (
      super_adds t.tries,
      super_made all t.same
          (one_slots c.mind.memory d.mind.memory s t.tries.same.memory (λ i. ap (λ (x : Content). x.slot i) t.tries.here))
          (λ b. at_b b t.tries.same.label)
          (number_stays (division c Made) t.tries t.slots)
          (tries_trees all.all.epochs.trees t.tries all.all.epochs.safe.kept (λ i b e. ((names i b e).2, (names i b e).3)))
          (subst (λ (ds : List Content). HasEpochs (known d.mind after) c.high f.high_of ds c.active c.roots) (sym t.doubts) (tries_epochs t.tries names all.all.epochs))
          t.beside,
    )
