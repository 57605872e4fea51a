-- Blocks that are given out, get their index, are queued alone, and are closed.
use Rattle.std.proofs.Common.{◌≡◌, ◌≢◌, ◌⊎◌, inl, inr, ⊎_elim, ℕ, ◌≤◌, ◌*◌, Bool, true, false, ◌||◌, eqb, leb, List, [], ◌∷◌, ◌++◌, refl, sym, ◌∙◌, ap, subst}
use Rattle.std.proofs.lemmas.Bool.{cases_eq, cases_lt}
use Rattle.std.specs.List.{Contains}
use Rattle.fo_disk.specs.Disk.{Content as Holds}
use Rattle.fo_image.specs.declared.types.Label.{Label}
use Rattle.fo_image.specs.declared.types.State.TheVariants.{Live, Closed}
use Rattle.fo_image.specs.Usable.{is_usable}
use Rattle.fo_crash.specs.declared.place.Place.{Place}
use Rattle.fo_crash.specs.Images.{Content, Image, Reaches, to_block}
use Rattle.fo_crash.proofs.Reach.{reach_into}
use Rattle.fo_cells.specs.Known.{Known}
use Rattle.fo_cells.specs.Device.{Mind, known}
use Rattle.fo_cells.proofs.Standing.{at_b, first_among, next_among, among_cases}
use Rattle.fo_cells.proofs.Calls.{nat_eq_here}
use Rattle.fo_cells_out.specs.Removals.{Pending, IsCovered}
use Rattle.fo_cells_out.specs.Parents.{Tree, blocks_of}
use Rattle.fo_cells_out.specs.Origins.{Origins}
use Rattle.fo_cells_out.proofs.Dividing.{listed_one, covered_one, covered_either}
use Rattle.fo_cells_out.proofs.Queue.{nothing_among, among_left, among_right, among_either}
use Rattle.fo_cells_held.specs.Room.{Used}
use Rattle.fo_cells_epochs.specs.Epochs.{Root}
use Rattle.fo_cells_queue.specs.Queue.{Queued, IsQueue, closed_at, first_past, past_blocks}
use Rattle.fo_cells_queue.proofs.Queue.{given_outside}
use Rattle.fo_cells_queue.proofs.Seen.{block_among}
use Rattle.fo_cells_lost.specs.Lost.{HangsIn, ClosesOne}
use Rattle.fo_cells_lost.proofs.Lost.{given_kept, label_kept, tree_stays}
use Rattle.fo_cells_all.specs.All.{Kept, Format}
use Rattle.fo_cells_steps.specs.Division.{HoldsMade, division}
use Rattle.fo_cells_steps.specs.Calls.{Beside}
use Rattle.fo_cells_gaps.specs.of_cells_blocks.Giving.{GivesOne, made_with}
use Rattle.fo_cells_gaps.specs.of_cells_blocks.Indexing.{IndexesOne, SetsAside}
use Rattle.fo_cells_gaps.specs.of_cells_blocks.Closing.{ClosesBeside, ClosesNext}
use Rattle.fo_cells_shown.specs.Closed.{ClosedAreKept}
use Rattle.fo_cells_shown.proofs.Closed.{close_closed}
use Rattle.fo_cells_whole.specs.Whole.{HoldsWhole}
use Rattle.fo_cells_whole.proofs.Certain.{KeepsMore, more_by, awaited_still, given_awaited}
use Rattle.fo_cells_whole.proofs.Rest.{KeepsHung, KeepsRest, SameSlots, shared_by}

live_closed : (l : Label) → l.state ≡ Live → l.state ≡ Closed → ⊥
live_closed l a b = let x : Live ≡ Closed = sym a ∙ b in absurd (cc)

-- ---- a block is given out

module _ {at : ℕ} {content : Content} {p : Place} {c d : Kept} {f : Format} {Made : ℕ → Type 0} {h : Origins} {unsure : List Bool} {holds : Holds} (all : HoldsMade c f Made h unsure holds) (o : GivesOne at content p c d holds) where
  outside : ((division c Made).Within at → ⊥) × (((division c Made).Covered at ⊎ Made at) → ⊥)
  outside = given_outside o.gives o.usable all.all.epochs.safe all.all.epochs.trees all.all.queue

  -- what waits is another block
  apart : (b : ℕ) → Contains (past_blocks c.past) b ⊎ IsCovered c.queue b → b ≢ at
  apart b is e = outside.1 (inl (subst (λ v. (division c Made).Covered v) e (all.all.queue.now.covered b is)))

  was : (b : ℕ) → Reaches d.mind.memory (to_block 1) b → Reaches c.mind.memory (to_block 1) b
  was b w = reach_into c.mind.memory d.mind.memory (λ v. v ≡ at) 1 (λ z j ne. sym ((o.gives.memory.others z ne).slots j)) (λ z e r. outside.0 (subst (λ v. (division c Made).Within v) e r)) b w

  pub given_rest : KeepsRest c d Made (made_with Made at) holds holds
  given_rest = record {
    hung = record {
      kept = given_kept o.gives all.all.epochs.trees;
      roots = λ r among. subst (λ (xs : List Root). Contains xs r) (sym o.epoch.roots) among;
      low = o.gives.low;
      hangs = λ b epoch ne is. each b epoch is;
    };
    closed = λ b ne is. ⊎_elim
        (λ e. absurd (live_closed (d.mind.label b) (ap (λ v. (d.mind.label v).state) e ∙ o.live) is))
        (λ far. o.gives.label b far)
        (cases_eq b at);
  }
    where
      each : (b epoch : ℕ) → HangsIn (division d (made_with Made at)) d.high d.past d.queue b epoch → (HangsIn (division c Made) c.high c.past c.queue b epoch × (d.mind.label b ≡ c.mind.label b)) ⊎ (epoch ≤ (d.mind.label b).epoch)
      each b epoch (HangsIn.within w is) = let r = was b w in inl (HangsIn.within r (is ∙ o.epoch.high), o.gives.label b (λ e. outside.0 (subst (λ v. (division c Made).Within v) e r)))
      each b epoch (HangsIn.earlier r in_past own is) = let in_c = subst (λ (xs : List Queued). Contains xs r) o.epoch.past in_past in inl (HangsIn.earlier r in_c own is, o.gives.label b (apart b (inl (block_among c.past r b in_c own))))
      each b epoch (HangsIn.active cov is) = let in_c = subst (λ (qs : List Pending). IsCovered qs b) o.queue cov in inl (HangsIn.active in_c (is ∙ o.epoch.high), o.gives.label b (apart b (inr in_c)))

pub given_more : {at : ℕ} {content : Content} {p : Place} {c d : Kept} {f : Format} {x : Used} {holds : Holds} → Beside c d f x holds → GivesOne at content p c d holds → KeepsMore c d
given_more b o = more_by o.epoch b (given_awaited o.gives o.waits)

-- ---- a made block gets its index, or is queued alone

pub index_more : {at : ℕ} {q : Place} {c d : Kept} {Apart : ℕ → Type 0} {f : Format} {x : Used} {holds : Holds} → Beside c d f x holds → IndexesOne at q c d Apart holds → KeepsMore c d
index_more {c = c} {d = d} b o = more_by o.epoch b (awaited_still c d o.indexes.waits (λ leaf on k is. ap (λ (m : Image). (m on).slot (2 * k)) o.indexes.memory))

pub aside_more : {z after : ℕ} {c d : Kept} {Made Apart : ℕ → Type 0} {f : Format} {x : Used} {holds : Holds} → Beside c d f x holds → SetsAside z after c d Made Apart → KeepsMore c d
aside_more {c = c} {d = d} b o = more_by o.epoch b (awaited_still c d (ap (λ (m : Mind). m.waits) o.mind) (λ leaf on k is. ap (λ (m : Mind). (m.memory on).slot (2 * k)) o.mind))

pub index_slots : {at : ℕ} {q : Place} {c d : Kept} {Apart : ℕ → Type 0} (holds : Holds) → IndexesOne at q c d Apart holds → SameSlots c d
index_slots holds o = record {
  slots = λ a i. ap (λ (m : Image). (m a).slot i) o.indexes.memory;
  label = o.indexes.label;
  low = o.indexes.low;
  high = o.epoch.high;
  roots = o.epoch.roots;
  past = o.epoch.past;
  queue = λ b ne is. inl (subst (λ (qs : List Pending). IsCovered qs b) o.queue is);
}

pub aside_slots : {b after : ℕ} {c d : Kept} {f : Format} {Made : ℕ → Type 0} {h : Origins} {unsure : List Bool} {holds : Holds} → HoldsMade c f Made h unsure holds → SetsAside b after c d Made h.Apart → SameSlots c d
aside_slots {b} {after} {c} {d} {f} {Made} all o = record {
  slots = λ a i. ap (λ (m : Mind). (m.memory a).slot i) o.mind;
  label = ap (λ (m : Mind). m.label) o.mind;
  low = ap (λ (m : Mind). m.low) o.mind;
  high = o.epoch.high;
  roots = o.epoch.roots;
  past = o.epoch.past;
  queue = λ z ne is. ⊎_elim
      (λ old. inl old)
      (λ new. inr (subst (λ (l : Label). c.high ≤ l.epoch) (sym (at_b z (ap (λ (m : Mind). m.label) o.mind))) (young z ne (subst (λ v. Made v) (one z new) (all.origins.made b o.apart)))))
      (covered_either c.queue (record { blocks = b ∷ []; after = after } ∷ []) z (subst (λ (qs : List Pending). IsCovered qs z) o.queue is));
}
  where
    one : (z : ℕ) → IsCovered (record { blocks = b ∷ []; after = after } ∷ []) z → b ≡ z
    one z is = ⊎_elim (λ own. ⊎_elim (λ e. e) (λ none. absurd (nothing_among z none)) (among_cases b [] z own)) (λ none. absurd none) is

    young : (z : ℕ) → z ≢ 1 → Made z → c.high ≤ (c.mind.label z).epoch
    young z ne m = ⊎_elim
        (λ lt. absurd (all.all.queue.now.forest.young z m (ne, all.all.queue.live z (inr m), lt)))
        (λ le. le)
        (cases_lt (c.mind.label z).epoch c.high)

-- ---- what waits is closed

both_off : (x y : Bool) → (x || y) ≡ false → (x ≡ false) × (y ≡ false)
both_off true y e = absurd (cc)
both_off false y e = (refl, e)

-- what is closed in its own epoch may be given out at once
own_usable : (low epoch : ℕ) (l : Label) → epoch ≡ l.epoch → is_usable low (closed_at l epoch) ≡ false → ⊥
own_usable low epoch l same taken =
    let off = both_off (eqb epoch l.epoch) (leb epoch low) taken in
    let x : true ≡ false = sym (nat_eq_here epoch l.epoch same) ∙ off.0 in
    absurd (cc)

pub closed_more : {b epoch after : ℕ} {c d : Kept} {f : Format} {x : Used} {holds : Holds} → ClosesNext b epoch after c d holds → ClosesBeside b epoch c d f x → KeepsMore c d
closed_more {c = c} {d = d} s y = record {
  certain = λ before now. s.doubts ∙ before (record {
    clean = y.still 1 now.clean;
    unwritten = sym (y.wrote 1) ∙ now.unwritten;
    sound = sym (y.failed 1) ∙ now.sound;
  });
  awaited = awaited_still c d y.waits (λ leaf on k is. ap (λ (m : Image). (m on).slot (2 * k)) y.memory);
}

-- what is left waited, and is other than what is closed
pub record Left (c d : Kept) (Made : ℕ → Type 0) (b : ℕ) : Type 0 where
  pub earlier : (r : Queued) (a : ℕ) → Contains d.past r → Contains r.pending.blocks a → (a ≢ b) × ((q : Queued) × Contains c.past q × Contains q.pending.blocks a × (q.epoch ≡ r.epoch))
  pub active : (a : ℕ) → IsCovered d.queue a → (a ≢ b) × IsCovered c.queue a
  pub rest : (a : ℕ) → (division c Made).Covered a → (a ≡ b) ⊎ (division d Made).Covered a

module _ {b epoch after : ℕ} {c d : Kept} {f : Format} {Made : ℕ → Type 0} {h : Origins} {unsure : List Bool} {holds : Holds} (all : HoldsWhole c f Made h unsure holds) (s : ClosesNext b epoch after c d holds) (begun : (c.mind.label b).epoch ≤ epoch) (covered : (division c Made).Covered b) where
  abbrev T : Tree
  T = division c Made

  abbrev U : Tree
  U = division d Made

  abbrev Old : Known
  Old = known c.mind holds

  abbrev New : Known
  New = known d.mind holds

  unwithin : T.Within b → ⊥
  unwithin w = all.made.all.queue.now.tree.gone b covered w

  other : b ≢ 1
  other e = unwithin (subst (λ v. T.Within v) (sym e) (record { path = []; leads = refl }))

  still : (a : ℕ) → U.Within a → T.Within a
  still a w = subst (λ (m : Image). Reaches m (to_block 1) a) s.label.memory w

  module _ (left : Left c d Made b) where
    hung : KeepsHung c d Made Made holds holds
    hung = record {
      kept = label_kept c.roots s.label;
      roots = λ r among. subst (λ (xs : List Root). Contains xs r) (sym s.roots) among;
      low = s.label.low;
      hangs = λ a when ne is. each a when is;
    }
      where
        each : (a when : ℕ) → HangsIn U d.high d.past d.queue a when → (HangsIn T c.high c.past c.queue a when × (d.mind.label a ≡ c.mind.label a)) ⊎ (when ≤ (d.mind.label a).epoch)
        each a when (HangsIn.within w is) = inl (HangsIn.within (still a w) (is ∙ s.high), s.label.others a (λ e. unwithin (subst (λ v. T.Within v) e (still a w))))
        each a when (HangsIn.earlier r in_past own is) = let y = left.earlier r a in_past own in inl (HangsIn.earlier (y.1).0 (y.1).1 (y.1).2 (is ∙ sym (y.1).3), s.label.others a y.0)
        each a when (HangsIn.active cov is) = let y = left.active a cov in inl (HangsIn.active y.1 (is ∙ s.high), s.label.others a y.0)

    pub closing_whole : HangsIn T c.high c.past c.queue b epoch ⊎ (epoch ≡ (c.mind.label b).epoch) → KeepsMore c d → HoldsMade d f Made h unsure holds → HoldsWhole d f Made h unsure holds
    closing_whole how more now = record {
      made = now;
      closed = subst (λ (xs : List Root). ClosedAreKept New xs) (sym s.roots) (⊎_elim (λ hangs. close_closed all.made.all.epochs.safe all.made.all.epochs.trees (closes hangs) all.shared all.closed) (λ own. by_own own) how);
      shared = shared_by all.made hung all.shared;
      certain = more.certain all.certain;
      awaited = more.awaited all.awaited;
    }
      where
        closes : HangsIn T c.high c.past c.queue b epoch → ClosesOne b epoch Old New T U c.high c.past c.queue
        closes hangs = record {
          label = s.label;
          begun = begun;
          other = other;
          hangs = hangs;
          within = λ a w. subst (λ (m : Image). Reaches m (to_block 1) a) (sym s.label.memory) w;
          made = λ a m. m;
          covered = left.rest;
        }

        by_own : epoch ≡ (c.mind.label b).epoch → ClosedAreKept New c.roots
        by_own own = record {
          closed = λ a ne is taken. ⊎_elim
              (λ e. absurd (own_usable c.mind.low epoch (c.mind.label b) own (subst (λ n. is_usable n (closed_at (c.mind.label b) epoch) ≡ false) s.label.low (subst (λ (l : Label). is_usable d.mind.low l ≡ false) (ap (λ v. d.mind.label v) e ∙ s.label.here) taken))))
              (λ far.
              let same = s.label.others a far in
              let x = all.closed.closed a ne (subst (λ (l : Label). l.state ≡ Closed) same is) (subst (λ n. is_usable n (c.mind.label a) ≡ false) s.label.low (subst (λ (l : Label). is_usable d.mind.low l ≡ false) same taken)) in
              (x.0, x.1, x.2 ∙ sym (ap (λ (l : Label). l.closing) same), ((x.3).0, tree_stays all.made.all.epochs.safe all.made.all.epochs.trees (label_kept c.roots s.label) x.0 x.1 a (x.3).0 (x.3).1)))
              (cases_eq a b);
        }

-- of an earlier epoch
pub earlier_left : {b epoch after : ℕ} {bs : List ℕ} {rs : List Queued} {c d : Kept} {f : Format} {Made : ℕ → Type 0} {h : Origins} {unsure : List Bool} {holds : Holds} → HoldsWhole c f Made h unsure holds → c.past ≡ first_past epoch (b ∷ bs) after ∷ rs → d.past ≡ first_past epoch bs after ∷ rs → d.queue ≡ c.queue → Left c d Made b
earlier_left {b} {epoch} {after} {bs} {rs} {c} {d} {Made = Made} all before now queue = record {
  earlier = λ r a in_past own. ⊎_elim
      (λ e.
      let in_bs : Contains bs a = subst (λ (y : Queued). Contains y.pending.blocks a) (sym e) own in (
        λ same. once (among_left (bs ++ past_blocks rs) (blocks_of c.queue) b (among_left bs (past_blocks rs) b (subst (λ v. Contains bs v) same in_bs))),
        (first_past epoch (b ∷ bs) after, subst (λ (xs : List Queued). Contains xs (first_past epoch (b ∷ bs) after)) (sym before) (first_among (first_past epoch (b ∷ bs) after) rs), next_among b a bs in_bs, ap (λ (y : Queued). y.epoch) e),
      ))
      (λ more. (
        λ same. once (among_left (bs ++ past_blocks rs) (blocks_of c.queue) b (among_right bs (past_blocks rs) b (subst (λ v. Contains (past_blocks rs) v) same (block_among rs r a more own)))),
        (r, subst (λ (xs : List Queued). Contains xs r) (sym before) (next_among (first_past epoch (b ∷ bs) after) r rs more), own, refl),
      ))
      (among_cases (first_past epoch bs after) rs r (subst (λ (xs : List Queued). Contains xs r) now in_past));
  active = λ a cov. let in_c = subst (λ (qs : List Pending). IsCovered qs a) queue cov in (
    λ same. once (among_right (bs ++ past_blocks rs) (blocks_of c.queue) b (subst (λ v. Contains (blocks_of c.queue) v) same (listed_one c.queue a in_c))),
    in_c,
  );
  rest = λ a is. ⊎_elim
      (λ in_past. ⊎_elim
      (λ e. inl (sym e))
      (λ more. inr (subst (λ (ps : List Queued). Contains (past_blocks ps ++ blocks_of d.queue) a) (sym now) (among_left (bs ++ past_blocks rs) (blocks_of d.queue) a more)))
      (among_cases b (bs ++ past_blocks rs) a (subst (λ (ps : List Queued). Contains (past_blocks ps) a) before in_past)))
      (λ in_queue. inr (among_right (past_blocks d.past) (blocks_of d.queue) a (subst (λ (qs : List Pending). Contains (blocks_of qs) a) (sym queue) in_queue)))
      (among_either (past_blocks c.past) (blocks_of c.queue) a is);
}
  where
    once : Contains ((bs ++ past_blocks rs) ++ blocks_of c.queue) b → ⊥
    once is = (subst (λ (ps : List Queued). Rattle.fo_cells_queue.specs.Queue.IsOnce (past_blocks ps ++ blocks_of c.queue)) before all.made.all.queue.once).0 is

-- of the active one
pub now_left : {b after : ℕ} {bs : List ℕ} {rs : List Pending} {c d : Kept} {f : Format} {Made : ℕ → Type 0} {h : Origins} {unsure : List Bool} {holds : Holds} → HoldsWhole c f Made h unsure holds → c.past ≡ [] → d.past ≡ [] → c.queue ≡ record { blocks = b ∷ bs; after = after } ∷ rs → d.queue ≡ record { blocks = bs; after = after } ∷ rs → Left c d Made b
now_left {b} {after} {bs} {rs} {c} {d} {Made = Made} all past past_now before now = record {
  earlier = λ r a in_past own. absurd (nothing_among r (subst (λ (xs : List Queued). Contains xs r) past_now in_past));
  active = λ a cov.
      let rest : Contains (bs ++ blocks_of rs) a = listed_one (record { blocks = bs; after = after } ∷ rs) a (subst (λ (qs : List Pending). IsCovered qs a) now cov) in (
        λ same. once (subst (λ v. Contains (bs ++ blocks_of rs) v) same rest),
        subst (λ (qs : List Pending). IsCovered qs a) (sym before) (covered_one (record { blocks = b ∷ bs; after = after } ∷ rs) a (next_among b a (bs ++ blocks_of rs) rest)),
      );
  rest = λ a is. ⊎_elim
      (λ e. inl (sym e))
      (λ more. inr (subst (λ (ps : List Queued). Contains (past_blocks ps ++ blocks_of d.queue) a) (sym past_now) (subst (λ (qs : List Pending). Contains (blocks_of qs) a) (sym now) more)))
      (among_cases b (bs ++ blocks_of rs) a (subst (λ (qs : List Pending). Contains (blocks_of qs) a) before (subst (λ (ps : List Queued). Contains (past_blocks ps ++ blocks_of c.queue) a) past is)));
}
  where
    once : Contains (bs ++ blocks_of rs) b → ⊥
    once is = (subst (λ (qs : List Pending). Rattle.fo_cells_queue.specs.Queue.IsOnce (blocks_of qs)) before (subst (λ (ps : List Queued). Rattle.fo_cells_queue.specs.Queue.IsOnce (past_blocks ps ++ blocks_of c.queue)) past all.made.all.queue.once)).0 is

-- ---- a removal with nothing left is gone

pub done_hung : {c d : Kept} (Made : ℕ → Type 0) (holds : Holds) → d.mind ≡ c.mind → d.high ≡ c.high → d.roots ≡ c.roots → ((r : Queued) → Contains d.past r → Contains c.past r) → ((b : ℕ) → IsCovered d.queue b → IsCovered c.queue b) → KeepsRest c d Made Made holds holds
done_hung {c} {d} Made holds mind high roots past queue = record {
  hung = record {
    kept = Rattle.fo_cells_whole.proofs.Rest.kept_slots c d holds holds c.roots (λ a i. ap (λ (m : Mind). (m.memory a).slot i) mind);
    roots = λ r among. subst (λ (xs : List Root). Contains xs r) (sym roots) among;
    low = ap (λ (m : Mind). m.low) mind;
    hangs = λ b epoch ne is. each b epoch is;
  };
  closed = λ b ne is. ap (λ (m : Mind). m.label b) mind;
}
  where
    each : (b epoch : ℕ) → HangsIn (division d Made) d.high d.past d.queue b epoch → (HangsIn (division c Made) c.high c.past c.queue b epoch × (d.mind.label b ≡ c.mind.label b)) ⊎ (epoch ≤ (d.mind.label b).epoch)
    each b epoch (HangsIn.within w is) = inl (HangsIn.within (subst (λ (m : Mind). Reaches m.memory (to_block 1) b) mind w) (is ∙ high), ap (λ (m : Mind). m.label b) mind)
    each b epoch (HangsIn.earlier r in_past own is) = inl (HangsIn.earlier r (past r in_past) own is, ap (λ (m : Mind). m.label b) mind)
    each b epoch (HangsIn.active cov is) = inl (HangsIn.active (queue b cov) (is ∙ high), ap (λ (m : Mind). m.label b) mind)
