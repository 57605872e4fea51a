-- A block is given out.
use Rattle.std.proofs.Common.{◌≡◌, ◌≢◌, ◌⊎◌, inl, inr, ⊎_elim, ℕ, ◌≤◌, Bool, true, false, List, ◌∷◌, ◌++◌, map, refl, sym, ◌∙◌, ap, subst, arith}
use Rattle.std.specs.List.{Contains}
use Rattle.fo_disk.specs.Disk.{Content as Holds}
use Rattle.fo_image.specs.declared.types.Kind.{Kind}
use Rattle.fo_image.specs.declared.types.Label.{Label}
use Rattle.fo_image.specs.declared.types.Pointer.TheVariants.{Local}
use Rattle.fo_crash.specs.declared.place.Place.{Place}
use Rattle.fo_crash.specs.Images.{Content, Reaches, target, to_block}
use Rattle.fo_crash.specs.Places.{place_below}
use Rattle.fo_crash.proofs.Reach.{reach_aside, reach_into}
use Rattle.fo_cells.specs.Known.{Known, Top, Stands}
use Rattle.fo_cells.specs.Device.{known}
use Rattle.fo_cells.proofs.Standing.{stands_below, among_cases, first_among, next_among}
use Rattle.fo_cells.proofs.Giving.{give_adds}
use Rattle.fo_cells.proofs.Removing.{give_super}
use Rattle.fo_cells.proofs.Super.{remains_block}
use Rattle.fo_cells_out.specs.Removals.{Pending}
use Rattle.fo_cells_out.specs.Parents.{Tree, Points, making, blocks_of, view}
use Rattle.fo_cells_out.specs.Origins.{Origins, HasOrigins, given}
use Rattle.fo_cells_out.proofs.Origins.{given_origins}
use Rattle.fo_cells_held.specs.Room.{Used}
use Rattle.fo_cells_epochs.specs.Epochs.{HasEpochs, root_top}
use Rattle.fo_cells_epochs.proofs.Made.{made_top, given_view}
use Rattle.fo_cells_epochs.proofs.Snapshots.{live_kept}
use Rattle.fo_cells_epochs.proofs.Epochs.{give_epochs}
use Rattle.fo_cells_epochs.proofs.Trees.{active_stands}
use Rattle.fo_cells_queue.specs.Queue.{Queued, IsQueue, past_blocks}
use Rattle.fo_cells_queue.proofs.Queue.{given_outside, queue_given}
use Rattle.fo_cells_all.specs.All.{Kept, Format}
use Rattle.fo_cells_all.proofs.All.{beside, beside_step, together}
use Rattle.fo_cells_steps.specs.Division.{SameTree, HoldsMade, IsOfPointers, division}
use Rattle.fo_cells_steps.specs.Calls.{Beside}
use Rattle.fo_cells_steps.proofs.Same.{tree_same, forest_same, queue_same, origins_same}
use Rattle.fo_cells_steps.proofs.Still.{epochs_rest, queue_rest, older_on, older_off}
use Rattle.fo_cells_steps.proofs.Facts.{held_stands, unled}
use Rattle.fo_cells_blocks.specs.Giving.{GivesOne, CopiesThis, AddsThis, made_with}

module _ {c d : Kept} {f : Format} {x : Used} {Made : ℕ → Type 0} {h : Origins} {unsure : List Bool} {holds : Holds} {at : ℕ} {content : Content} {p : Place} (From : ℕ → Type 0) (all : HoldsMade c f Made h unsure holds) (b : Beside c d f x holds) (o : GivesOne at content p c d holds) (from : (z : ℕ) → From z → (division c Made).Within z × (division c Made).Older z × (IsOfPointers (d.mind.label z).kind → IsOfPointers (d.mind.label at).kind)) (from_one : (z v : ℕ) → From z → From v → z ≡ v) (leads : (j z : ℕ) → target (content.slot j) ≡ Local z → (v : ℕ) × From v × Points (view (known c.mind holds) c.active) v j z) (fits : (j z : ℕ) → target (content.slot j) ≡ Local z → Stands (view (known c.mind holds) c.active) z (place_below p j (content.slot j))) where
  abbrev T : Tree
  T = division c Made

  -- with the label of now
  abbrev Labelled : Tree
  Labelled = record T { Pointers = λ z. IsOfPointers (d.mind.label z).kind }

  abbrev V : Known
  V = view (known c.mind holds) c.active

  abbrev Active : List Top
  Active = made_top at p ∷ c.active

  outside : (T.Within at → ⊥) × ((T.Covered at ⊎ Made at) → ⊥)
  outside = given_outside o.gives o.usable all.all.epochs.safe all.all.epochs.trees all.all.queue

  other : (z : ℕ) → T.Within z ⊎ Made z → z ≢ at
  other z is e = ⊎_elim (λ w. outside.0 (subst (λ v. T.Within v) e w)) (λ m. outside.1 (inr (subst (λ v. Made v) e m))) is

  same_label : (z : ℕ) → T.Within z ⊎ Made z → d.mind.label z ≡ c.mind.label z
  same_label z is = o.gives.label z (other z is)

  relabelled : SameTree T Labelled
  relabelled = record {
    within = λ z w. w;
    within_back = λ z w. w;
    made = λ z m. m;
    made_back = λ z m. m;
    covered = λ z is. is;
    covered_back = λ z is. is;
    older = λ z is q. q;
    older_back = λ z is q. q;
    pointers = λ z is q. subst (λ (l : Label). IsOfPointers l.kind) (sym (same_label z is)) q;
    pointers_back = λ z is q. subst (λ (l : Label). IsOfPointers l.kind) (same_label z is) q;
  }

  inside : (j z : ℕ) → target (content.slot j) ≡ Local z → T.Within z
  inside j z e = let q = leads j z e in all.all.queue.now.tree.closed q.0 j z (from q.0 q.1).0 q.2

  young : T.Older at → ⊥
  young q = let e : true ≡ false = sym o.usable ∙ live_kept c.mind.low (c.mind.label at) q.1 in absurd (cc)

  same_slot : (z j : ℕ) → ((z ≡ at) → ⊥) → (c.mind.memory z).slot j ≡ (d.mind.memory z).slot j
  same_slot z j ne = sym ((o.gives.memory.others z ne).slots j)

  never : (z : ℕ) → z ≡ at → Reaches c.mind.memory (to_block 1) z → ⊥
  never z e w = outside.0 (subst (λ v. T.Within v) e w)

  listed : past_blocks d.past ++ blocks_of d.queue ≡ past_blocks c.past ++ blocks_of c.queue
  listed = ap (λ (ps : List Queued). past_blocks ps ++ blocks_of d.queue) o.epoch.past ∙ ap (λ (qs : List Pending). past_blocks c.past ++ blocks_of qs) o.queue

  cases : (z : ℕ) → T.Within z ⊎ (Made z ⊎ (z ≡ at)) → (T.Within z ⊎ Made z) ⊎ (z ≡ at)
  cases z is = ⊎_elim (λ w. inl (inl w)) (λ m. ⊎_elim (λ k. inl (inr k)) (λ e. inr e) m) is

  divided : SameTree (making Labelled at) (division d (made_with Made at))
  divided = record {
    within = λ z w. reach_aside c.mind.memory d.mind.memory (λ v. v ≡ at) 1 same_slot never z w;
    within_back = λ z w. reach_into c.mind.memory d.mind.memory (λ v. v ≡ at) 1 same_slot never z w;
    made = λ z m. m;
    made_back = λ z m. m;
    covered = λ z is. subst (λ (l : List ℕ). Contains l z) (sym listed) is;
    covered_back = λ z is. subst (λ (l : List ℕ). Contains l z) listed is;
    older = λ z is q. ⊎_elim
        (λ was. older_on o.epoch Made Made z (same_label z was) q)
        (λ e. absurd (young (subst (λ v. T.Older v) e q)))
        (cases z is);
    older_back = λ z is q. ⊎_elim
        (λ was. older_off o.epoch Made Made z (same_label z was) q)
        (λ e. let lt = q.2 in let le = o.begun in let high = o.epoch.high in let same : (d.mind.label z).epoch ≡ (d.mind.label at).epoch = ap (λ v. (d.mind.label v).epoch) e in absurd (omega (arith, lt, le, high, same)))
        (cases z is);
    pointers = λ z is q. q;
    pointers_back = λ z is q. q;
  }

  tops_are : d.mind.tops ≡ Active ++ map root_top c.roots
  tops_are = o.tops ∙ ap (λ (ts : List Top). ts ++ map root_top c.roots) o.active

  lower : (j z : ℕ) → target (content.slot j) ≡ Local z → (c.mind.label z).epoch ≤ (d.mind.label at).epoch
  lower j z e =
      let q = leads j z e in
      let ne : z ≢ 1 = λ is. unled all q.0 j (from q.0 q.1).0 (q.2 ∙ ap (λ v. Local v) is) in
      let live = (all.all.epochs.safe.live z ne (inside j z e)).1 in
      let le = o.begun in
      omega (arith, live, le)

  pub given_made : AddsThis at content c d holds × HoldsMade d f (made_with Made at) (given h at From) unsure holds
  given_made =
      let e = give_epochs o.gives o.other o.begun o.live (λ j z q. (lower j z q, fits j z q)) tops_are o.waits b.read all.all.epochs in
      let q = queue_same divided (queue_given o.gives o.usable o.live young (λ j z q. (inside j z q, fits j z q)) all.all.epochs.safe all.all.epochs.trees (queue_same relabelled all.all.queue)) in
      let g = given_origins From (given_view o.gives all.all.epochs.trees fits) outside.0 (λ m. outside.1 (inr m)) from from_one leads (tree_same V relabelled all.all.queue.now.tree) (forest_same V relabelled all.all.queue.now.forest) (origins_same V relabelled all.origins) in (
        remains_block o.other (give_adds o.gives (λ t. (r : Place) × Stands (known c.mind holds) t r) (λ t is. is)) (give_super o.gives o.other),
        record {
          all = together
              (epochs_rest f o.epoch (subst (λ (ts : List Top). HasEpochs (known d.mind holds) c.high f.high_of c.doubts ts c.roots) (sym o.active) e))
              (queue_rest o.epoch (subst (λ (ts : List Top). IsQueue (known d.mind holds) (division d (made_with Made at)) c.high ts c.roots c.past d.queue) (sym o.active) (subst (λ (qs : List Pending). IsQueue (known d.mind holds) (division d (made_with Made at)) c.high Active c.roots c.past qs) (sym o.queue) q)))
              (beside_step b.steps (beside all.all));
          origins = subst (λ (ts : List Top). HasOrigins (view (known d.mind holds) ts) (division d (made_with Made at)) (given h at From)) (sym o.active) (origins_same (view (known d.mind holds) Active) divided g);
          tops = λ y is. ⊎_elim
              (λ one. inr (inr (ap (λ (z : Top). z.at) (sym one))))
              (λ was. ⊎_elim (λ e_one. inl e_one) (λ m. inr (inl m)) (all.tops y was))
              (among_cases (made_top at p) c.active y (subst (λ (ts : List Top). Contains ts y) o.active is));
          apart = λ z is. ⊎_elim
              (λ was. let y = all.apart z was in (y.0, subst (λ (ts : List Top). Contains ts y.0) (sym o.active) (next_among (made_top at p) y.0 c.active y.1), y.2))
              (λ e_at. (made_top at p, subst (λ (ts : List Top). Contains ts (made_top at p)) (sym o.active) (first_among (made_top at p) c.active), sym e_at))
              is;
        },
      )

-- EMPTY
pub empty_made : {c d : Kept} {f : Format} {x : Used} {Made : ℕ → Type 0} {h : Origins} {unsure : List Bool} {holds : Holds} {at : ℕ} {content : Content} {p : Place} → HoldsMade c f Made h unsure holds → Beside c d f x holds → GivesOne at content p c d holds → ((j z : ℕ) → target (content.slot j) ≡ Local z → ⊥) → AddsThis at content c d holds × HoldsMade d f (made_with Made at) (given h at (λ z. ⊥)) unsure holds
empty_made all b o none = given_made (λ z. ⊥) all b o (λ z e. absurd e) (λ z v e q. absurd e) (λ j z e. absurd (none j z e)) (λ j z e. absurd (none j z e))

-- A COPY of an older block of the tree
module _ {c d : Kept} {f : Format} {x : Used} {Made : ℕ → Type 0} {h : Origins} {unsure : List Bool} {holds : Holds} {at source : ℕ} {p : Place} (all : HoldsMade c f Made h unsure holds) (b : Beside c d f x holds) (o : GivesOne at (c.mind.memory source) p c d holds) (k : CopiesThis source at p c d holds) where
  source_stands : Stands (view (known c.mind holds) c.active) source p
  source_stands =
      let st = held_stands all source (inl k.within) in
      subst (λ (q : Place). Stands (view (known c.mind holds) c.active) source q) (all.all.epochs.safe.kept.one source st.0 p (active_stands all.all.epochs.trees source st.0 st.1) k.stands) st.1

  source_ne : source ≢ at
  source_ne e = (given_outside o.gives o.usable all.all.epochs.safe all.all.epochs.trees all.all.queue).0 (subst (λ v. (division c Made).Within v) e k.within)

  source_kind : (d.mind.label at).kind ≡ (d.mind.label source).kind
  source_kind = k.kind ∙ ap (λ (l : Label). l.kind) (sym (o.gives.label source source_ne))

  from_source : (z : ℕ) → z ≡ source → (division c Made).Within z × (division c Made).Older z × (IsOfPointers (d.mind.label z).kind → IsOfPointers (d.mind.label at).kind)
  from_source z e = subst (λ v. (division c Made).Within v × (division c Made).Older v × (IsOfPointers (d.mind.label v).kind → IsOfPointers (d.mind.label at).kind)) (sym e) (
    k.within,
    (k.other, (all.all.epochs.safe.live source k.other k.within).0, k.older),
    λ q. subst (λ (y : Kind). IsOfPointers y) (sym source_kind) q,
  )

  pub copied_made : AddsThis at (c.mind.memory source) c d holds × HoldsMade d f (made_with Made at) (given h at (λ z. z ≡ source)) unsure holds
  copied_made = given_made (λ z. z ≡ source) all b o from_source (λ z v e q. e ∙ sym q) (λ j z e. (source, refl, e)) (λ j z e. stands_below j ((c.mind.memory source).slot j) z source_stands (inr (inl refl)) e)
