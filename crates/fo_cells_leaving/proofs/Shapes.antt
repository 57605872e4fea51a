-- Removals of a put are ones that leave, by their shapes.
use Rattle.std.proofs.Common.{◌≡◌, ◌⊎◌, ⊎_elim, ℕ, zero, suc, Bool, List, [], ◌∷◌, ◌++◌, refl, sym, ◌∙◌, ap, subst}
use Rattle.std.specs.List.{Contains}
use Rattle.fo_disk.specs.Disk.{Content as Holds}
use Rattle.fo_image.specs.declared.types.Pointer.TheVariants.{Local}
use Rattle.fo_crash.specs.declared.slot.Slot.{Slot}
use Rattle.fo_cells.specs.Known.{Known, Top}
use Rattle.fo_cells_out.specs.Removals.{Pending}
use Rattle.fo_cells_out.specs.Parents.{Tree, Points, Over, IsTree, IsForest, Leaving, AllLeaving, HangsTogether, IsHead, Replaces}
use Rattle.fo_cells_out.specs.Origins.{Origins, OutAt, Out, GoneAt, Goes, CopyBy, PutsMade, LosesMany}
use Rattle.fo_cells_out.proofs.Takeout.{copied_leaving, whole_leaving, level_leaving, first_level, next_level}
use Rattle.fo_cells_out.proofs.MadePuts.{made_replaces}
use Rattle.fo_cells_out.proofs.Lost.{lost_replaces}
use Rattle.fo_cells_all.specs.All.{Kept, Format}
use Rattle.fo_cells_steps.specs.Division.{HoldsMade, division}
use Rattle.fo_cells_steps.proofs.Facts.{unled}
use Rattle.fo_cells_puts.specs.Putting.{seen_from}
use Rattle.fo_cells_leaving.specs.Leaving.{IsLevel, IsShaped, AllShaped}

-- who held a level was queued before, or is the block put into
level_above : {k : Known} {t : Tree} {at i : ℕ} (earlier : List ℕ) (b : ℕ) → IsTree k t → IsLevel k t at i earlier b → (n a : ℕ) → t.Within a → Over k t n a b → Contains earlier a ⊎ (a ≡ at)
level_above earlier b tree (IsLevel.first z head) = first_level earlier tree head
level_above {at = at} earlier b tree (IsLevel.next c z w e is above) = next_level earlier at tree w e is (level_above earlier c tree above)

-- ANY PUT THAT REPLACES, over what a cache holds
module _ {c : Kept} {f : Format} {Made : ℕ → Type 0} {h : Origins} {unsure : List Bool} {holds : Holds} (all : HoldsMade c f Made h unsure holds) where
  abbrev T : Tree
  T = division c Made

  abbrev V : Known
  V = seen_from c holds

  tree : IsTree V T
  tree = all.all.queue.now.tree

  forest : IsForest V T
  forest = all.all.queue.now.forest

  -- no top is a block of the tree that a slot of the tree leads to
  no_top : (g l b : ℕ) → T.Within g → Points V g l b → (y : Top) → Contains c.active y → y.at ≡ b → ⊥
  no_top g l b w e y is same = ⊎_elim
      (λ one. unled all g l w (e ∙ ap (λ z. Local z) (sym same ∙ one)))
      (λ made. tree.apart y.at made (subst (λ z. T.Within z) (sym same) (tree.closed g l b w e)))
      (all.tops y is)

  module _ {at i : ℕ} {s : Slot} {new : Known} {u : Tree} {Copy_of : ℕ → ℕ → Type 0} {Gone Lost Turns : ℕ → Type 0} {From : ℕ → ℕ → ℕ → Type 0} {Leaves : ℕ → Type 0} (r : Replaces at i s V new T u Copy_of Gone Lost Turns From) (inside : (b : ℕ) → Leaves b → T.Within b) (out : (b : ℕ) → Leaves b → u.Within b → ⊥) where
    -- a block of a set that hangs together from a slot of the tree is no top
    whole_no_top : (root g l : ℕ) (blocks : List ℕ) → IsHead V T g l root → HangsTogether V T root blocks → (y : Top) → Contains c.active y → Contains blocks y.at → ⊥
    whole_no_top root g l blocks head whole y is among = ⊎_elim
        (λ e. no_top g l root head.within head.points y is e)
        (λ up. no_top up.0 up.1 y.at (whole.inside up.0 up.2) up.3 y is refl)
        (whole.only y.at among)

    -- so is a level
    level_no_top : (earlier : List ℕ) (b : ℕ) → IsLevel V T at i earlier b → (y : Top) → Contains c.active y → y.at ≡ b → ⊥
    level_no_top earlier b (IsLevel.first z head) y is e = no_top at i b head.within head.points y is e
    level_no_top earlier b (IsLevel.next g z w points among above) y is e = no_top g 0 b w points y is e

    one_leaves : (earlier : List ℕ) (p : Pending) → IsShaped V T (λ b. (z : ℕ) × Copy_of b z) Leaves at i earlier p → Leaving s V new T earlier p
    one_leaves earlier p (IsShaped.copied b g l is copy w e before) = subst (λ x. Leaving s V new T earlier x) (sym is) (copied_leaving r tree forest earlier g l b copy.0 at copy.1 w e before r.stays (no_top g l b w e))
    one_leaves earlier p (IsShaped.whole root g l is head whole leaves before) = subst (λ x. Leaving s V new T earlier (record { blocks = p.blocks; after = x })) (sym is) (whole_leaving r tree forest earlier g l root at p.blocks head whole (λ b among. out b (leaves b among)) before r.stays (whole_no_top root g l p.blocks head whole))
    one_leaves earlier p (IsShaped.level b is leaves level) = subst (λ x. Leaving s V new T earlier x) (sym is) (level_leaving r tree forest earlier b at (inside b leaves) (out b leaves) (level_above earlier b tree level) r.stays (level_no_top earlier b level))

    all_leave_by : (rs : List Pending) (earlier : List ℕ) → AllShaped V T (λ b. (z : ℕ) × Copy_of b z) Leaves at i earlier rs → AllLeaving s V new T earlier rs
    all_leave_by [] earlier shaped = tt
    all_leave_by (p ∷ rs) earlier shaped = (one_leaves earlier p shaped.0, all_leave_by rs (earlier ++ p.blocks) shaped.1)

  -- A MADE BLOCK COMES
  module _ {at i : ℕ} {s : Slot} {new : Known} {top x y : ℕ} {Lost : ℕ → Type 0} (m : PutsMade at i s V new T h top x y Lost) where
    out_inside : (n z : ℕ) → OutAt V T top y n z → T.Within z
    out_inside zero z o = subst (λ a. T.Within a) (sym o.0) (tree.closed at i top m.within m.points)
    out_inside (suc n) z o = tree.closed o.0 o.1 z (out_inside n o.0 o.2) o.3

    pub come_leave : (rs : List Pending) (earlier : List ℕ) → AllShaped V T (λ b. (z : ℕ) × CopyBy V T h y b z) (Out V T top y) at i earlier rs → AllLeaving s V new T earlier rs
    come_leave rs earlier shaped = all_leave_by {Leaves = Out V T top y} (made_replaces m tree forest all.origins)
        (λ b o. out_inside o.0 b o.1)
        (λ b o v. ⊎_elim (λ q. q.1 o) (λ q. tree.apart b q.0 (out_inside o.0 b o.1)) v)
        rs earlier shaped

  -- LEVELS ARE LOST
  module _ {at i : ℕ} {s : Slot} {new : Known} {x b : ℕ} {Lost : ℕ → Type 0} (m : LosesMany at i s V new T h x b Lost) where
    goes_inside : (n z : ℕ) → GoneAt V x b n z → T.Within z
    goes_inside zero z g = subst (λ a. T.Within a) (sym g) (tree.closed at i x (m.head).within (m.head).points)
    goes_inside (suc n) z g = tree.closed g.0 g.1 z (goes_inside n g.0 g.2) g.3

    shaped_again : (rs : List Pending) (earlier : List ℕ) → AllShaped V T (λ z. ⊥) (Goes V x b) at i earlier rs → AllShaped V T (λ z. (w : ℕ) × ⊥) (Goes V x b) at i earlier rs
    shaped_again [] earlier shaped = tt
    shaped_again (p ∷ rs) earlier shaped = (again shaped.0, shaped_again rs (earlier ++ p.blocks) shaped.1)
      where
        again : IsShaped V T (λ z. ⊥) (Goes V x b) at i earlier p → IsShaped V T (λ z. (w : ℕ) × ⊥) (Goes V x b) at i earlier p
        again (IsShaped.copied z g l is copy w e before) = absurd copy
        again (IsShaped.whole root g l is head whole leaves before) = IsShaped.whole root g l is head whole leaves before
        again (IsShaped.level z is leaves level) = IsShaped.level z is leaves level

    pub levels_leave : (rs : List Pending) (earlier : List ℕ) → AllShaped V T (λ z. ⊥) (Goes V x b) at i earlier rs → AllLeaving s V new T earlier rs
    levels_leave rs earlier shaped = all_leave_by {Leaves = Goes V x b} (lost_replaces m tree forest all.origins)
        (λ z g. goes_inside g.0 z g.1)
        (λ z g v. v.1 g)
        rs earlier (shaped_again rs earlier shaped)
