-- Super blocks of one epoch, a low epoch that rises, and snapshots.
use Rattle.std.proofs.Common.{◌≡◌, ◌≢◌, ◌⊎◌, inl, inr, ⊎_elim, ℕ, ◌≤◌, ◌*◌, Bool, List, [], ◌∷◌, refl, sym, ◌∙◌, ap, subst, arith}
use Rattle.std.proofs.lemmas.Bool.{cases_eq}
use Rattle.std.specs.List.{Contains}
use Rattle.fo_disk.specs.Disk.{Content as Holds}
use Rattle.fo_image.specs.declared.types.Label.{Label}
use Rattle.fo_image.specs.declared.types.State.TheVariants.{Live, Closed}
use Rattle.fo_image.specs.declared.types.Pointer.TheVariants.{Local}
use Rattle.fo_crash.specs.declared.place.Place.{Place}
use Rattle.fo_crash.specs.Images.{Content, Reaches, target, to_block}
use Rattle.fo_crash.proofs.Reach.{reaches_on}
use Rattle.fo_cells.specs.Known.{Known, Stands}
use Rattle.fo_cells.specs.Device.{known}
use Rattle.fo_cells.specs.Flags.{IsUnmarked}
use Rattle.fo_cells.proofs.Standing.{stands_by, stands_top, stands_below, among_cases, next_among}
use Rattle.fo_cells_out.specs.Removals.{Pending, IsCovered}
use Rattle.fo_cells_out.specs.Origins.{Origins}
use Rattle.fo_cells_out.proofs.Asked.{walk_keeps}
use Rattle.fo_cells_out.proofs.Dividing.{covered_either}
use Rattle.fo_cells_out.proofs.Queue.{nothing_among}
use Rattle.fo_cells_epochs.specs.Epochs.{Root, tree_of, kept_root}
use Rattle.fo_cells_epochs.proofs.Trees.{tree_stands}
use Rattle.fo_cells_queue.specs.Queue.{Queued}
use Rattle.fo_cells_queue.proofs.Seen.{block_among}
use Rattle.fo_cells_lost.specs.Lost.{KeepsKept, HangsIn}
use Rattle.fo_cells_all.specs.All.{Kept, Format}
use Rattle.fo_cells_steps.specs.Division.{HoldsMade, division}
use Rattle.fo_cells_supers.specs.Supers.{TriesOne, CountsOne, raised}
use Rattle.fo_cells_supers.proofs.Counting.{raised_made}
use Rattle.fo_cells_shown.specs.of_cells_turns.Opening.{none_made, no_origins}
use Rattle.fo_cells_gaps.specs.of_cells_snapshot.Abandon.{Abandons}
use Rattle.fo_cells_gaps.specs.of_cells_snapshot.Snapshot.{Snapshots}
use Rattle.fo_cells_gaps.proofs.of_cells_snapshot.Snapshot.{snapshot_made}
use Rattle.fo_cells_gaps.proofs.of_cells_snapshot.Abandon.{abandon_made}
use Rattle.fo_cells_gaps.proofs.Snapshot.{snapshot_shares}
use Rattle.fo_cells_shown.specs.Closed.{KeepsFrom}
use Rattle.fo_cells_shown.proofs.Closed.{raise_closed}
use Rattle.fo_cells_whole.specs.Awaited.{WaitsUsed}
use Rattle.fo_cells_whole.specs.Whole.{HoldsWhole}
use Rattle.fo_cells_whole.proofs.Certain.{KeepsMore, awaited_still}
use Rattle.fo_cells_whole.proofs.Rest.{SameSlots, ClosedBefore, closed_by, whole_by}

-- ---- one epoch

pub tries_slots : {s : Content} {c d : Kept} {f : Format} {later : List Bool} (holds after : Holds) → TriesOne s c d f later holds after → SameSlots c d
tries_slots {c = c} {d = d} holds after t = record {
  slots = λ a i. ⊎_elim
      (λ e. subst (λ v. (d.mind.memory v).slot i ≡ (c.mind.memory v).slot i) (sym e) (ap (λ (x : Content). x.slot i) t.tries.here))
      (λ ne. ap (λ (x : Content). x.slot i) (t.tries.same.memory a ne))
      (cases_eq a 1);
  label = t.tries.same.label;
  low = t.tries.same.low;
  high = t.same.high;
  roots = t.same.roots;
  past = t.same.past;
  queue = λ b ne is. inl (subst (λ (qs : List Pending). IsCovered qs b) t.same.queue is);
}

pub counts_slots : {s : Content} {c d : Kept} {f : Format} (holds : Holds) → CountsOne s c d f holds → SameSlots c d
counts_slots {c = c} {d = d} holds t = record {
  slots = λ a i. ⊎_elim
      (λ e. subst (λ v. (d.mind.memory v).slot i ≡ (c.mind.memory v).slot i) (sym e) (ap (λ (x : Content). x.slot i) t.counts.here ∙ t.slots i))
      (λ ne. ap (λ (x : Content). x.slot i) (t.counts.same.memory a ne))
      (cases_eq a 1);
  label = t.counts.same.label;
  low = t.counts.same.low;
  high = t.same.high;
  roots = t.same.roots;
  past = t.same.past;
  queue = λ b ne is. inl (subst (λ (qs : List Pending). IsCovered qs b) t.same.queue is);
}

pub tries_more : {s : Content} {c d : Kept} {f : Format} {later : List Bool} {holds after : Holds} → TriesOne s c d f later holds after → (IsUnmarked d.flags 1 → ⊥) → KeepsMore c d
tries_more {c = c} {d = d} t flagged = record {
  certain = λ before now. absurd (flagged now);
  awaited = awaited_still c d t.tries.same.waits (λ leaf on k is. ap (λ (x : Content). x.slot (2 * k)) (t.tries.same.memory on (t.tries.same.wait leaf on (2 * k) is).1));
}

pub counts_more : {s : Content} {c d : Kept} {f : Format} {holds : Holds} → CountsOne s c d f holds → KeepsMore c d
counts_more {c = c} {d = d} t = record {
  certain = λ before now. t.doubts;
  awaited = awaited_still c d t.counts.same.waits (λ leaf on k is. ap (λ (x : Content). x.slot (2 * k)) (t.counts.same.memory on (t.counts.same.wait leaf on (2 * k) is).1));
}

-- ---- the low epoch rises

pub raised_whole : {low : ℕ} {kept : List Root} {c : Kept} {f : Format} {Made : ℕ → Type 0} {h : Origins} {unsure : List Bool} {holds : Holds} → c.mind.low ≤ low → KeepsFrom low c.roots kept → HoldsWhole c f Made h unsure holds → HoldsWhole (raised c low kept) f Made h unsure holds
raised_whole {low} {kept} {c} {f} {Made} {h} {unsure} {holds} up keep all = record {
  made = (raised_made up keep.raises all.made).1;
  closed = raise_closed c.active (known c.mind holds) keep up all.closed;
  shared = record {
    shared = λ b epoch ne hangs below above.
        let x = all.shared.shared b epoch ne (each b epoch hangs) below (let over = above in omega (arith, over, up)) in
        let le : low ≤ (x.0).epoch = let e = x.2 in let over = above in omega (arith, e, over) in
        (x.0, keep.all x.0 x.1 le, x.2, ((x.3).0, there x.0 b (x.3).0 (x.3).1));
  };
  certain = all.certain;
  awaited = all.awaited;
}
  where
    New : Known
    New = known (raised c low kept).mind holds

    there : (r : Root) (b : ℕ) (q : Place) → Stands (tree_of (known c.mind holds) r) b q → Stands (tree_of (known (raised c low kept).mind holds) r) b q
    there r = stands_by (λ t is. stands_top t is) (λ a i s p b st m e. stands_below i s b st m e)

    each : (b epoch : ℕ) → HangsIn (division (raised c low kept) Made) c.high c.past c.queue b epoch → HangsIn (division c Made) c.high c.past c.queue b epoch
    each b epoch (HangsIn.within w is) = HangsIn.within w is
    each b epoch (HangsIn.earlier r in_past own is) = HangsIn.earlier r in_past own is
    each b epoch (HangsIn.active cov is) = HangsIn.active cov is

-- ---- a snapshot

live_closed : (l : Label) → l.state ≡ Live → l.state ≡ Closed → ⊥
live_closed l a b = let x : Live ≡ Closed = sym a ∙ b in absurd (cc)

-- slots of kept trees stay, where block 1 and a block that stood nowhere alone change
kept_beside : {first : Kept} {f : Format} {Made : ℕ → Type 0} {h : Origins} {unsure : List Bool} {before : Holds} → HoldsMade first f Made h unsure before → (d : Kept) (holds : Holds) (next : ℕ) → ((q : Place) → Stands (known first.mind before) next q → ⊥) → ((a i : ℕ) → a ≢ 1 → a ≢ next → (d.mind.memory a).slot i ≡ (first.mind.memory a).slot i) → KeepsKept (known first.mind before) (known d.mind holds) first.roots
kept_beside {first} {before = before} all d holds next nowhere memory = record {
  slots = λ a i. ⊎_elim
      (λ one. inr (λ r p among st. (all.all.epochs.trees.late r a p among st).0 one))
      (λ ne. ⊎_elim
      (λ is. inr (λ r p among st. nowhere p (subst (λ v. Stands (known first.mind before) v p) is (tree_stands all.all.epochs.trees r among a p st))))
      (λ far. inl (memory a i ne far))
      (cases_eq a next))
      (cases_eq a 1);
}

pub snapshot_whole : {s : Content} {root next : ℕ} {first c d : Kept} {f : Format} {unsure later : List Bool} {before holds : Holds} → Snapshots s root next first c d f later before holds → ((q : Place) → Stands (known first.mind before) next q → ⊥) → d.mind.low ≡ first.mind.low → WaitsUsed d.mind.waits d.mind.memory → HoldsWhole first f none_made no_origins unsure before → HoldsWhole d f none_made no_origins later holds
snapshot_whole {root = root} {next = next} {first = first} {d = d} {f = f} {later = later} {before = before} {holds = holds} x nowhere low used all = record {
  made = now;
  closed = closed_by all.made d holds (kept_beside all.made d holds next nowhere x.queue.memory) (λ r among. subst (λ (rs : List Root). Contains rs r) (sym x.roots_now) (next_among (kept_root root first.high) r first.roots among)) low closed all.closed;
  shared = snapshot_shares x nowhere low all.made all.shared;
  certain = λ now. x.doubts_now;
  awaited = used;
}
  where
    now : HoldsMade d f none_made no_origins later holds
    now = snapshot_made x all.made

    closed : ClosedBefore first d
    closed b ne is = ⊎_elim
        (λ e.
        let hung : Reaches d.mind.memory (to_block 1) next = reaches_on 0 (record { path = []; leads = refl }) (ap target x.queue.now) in
        absurd (live_closed (d.mind.label b) (now.all.epochs.safe.live b ne (subst (λ v. Reaches d.mind.memory (to_block 1) v) (sym e) hung)).0 is))
        (λ far. x.queue.label b far)
        (cases_eq b next)

pub abandon_whole : {next : ℕ} {first c d : Kept} {f : Format} {unsure later : List Bool} {before holds : Holds} → Abandons next first c d f later before holds → ((q : Place) → Stands (known first.mind before) next q → ⊥) → d.mind.low ≡ first.mind.low → first.high ≤ (d.mind.label next).epoch → WaitsUsed d.mind.waits d.mind.memory → d.doubts ≡ [] → HoldsWhole first f none_made no_origins unsure before → HoldsWhole d f none_made no_origins later holds
abandon_whole {next} {first} {c} {d} {f} {unsure} {later} {before} {holds} o nowhere low young used certain all = whole_by (record {
  hung = record {
    kept = kept_beside all.made d holds next nowhere (λ a i ne far. o.queue.memory a i far);
    roots = λ r among. subst (λ (rs : List Root). Contains rs r) (sym o.roots_now) among;
    low = low;
    hangs = λ b epoch ne is. each b epoch is;
  };
  closed = λ b ne is. ⊎_elim
      (λ e. absurd (live_closed (d.mind.label b) (subst (λ v. (d.mind.label v).state ≡ Live) (sym e) o.queue.live) is))
      (λ far. o.queue.label b far)
      (cases_eq b next);
}) (record { certain = λ before now. certain; awaited = λ before. used }) (abandon_made o all.made) all
  where
    -- what hangs in memory hung there
    was : (b : ℕ) → Reaches d.mind.memory (to_block 1) b → Reaches first.mind.memory (to_block 1) b
    was b w = walk_keeps d.mind.memory (λ a. Reaches first.mind.memory (to_block 1) a) step w.path (to_block 1) b (λ a e. record { path = []; leads = e }) w.leads
      where
        step : (a j z : ℕ) → Reaches first.mind.memory (to_block 1) a → target ((d.mind.memory a).slot j) ≡ Local z → Reaches first.mind.memory (to_block 1) z
        step a j z r e = reaches_on j r (ap target (sym (o.queue.memory a j (λ is. o.queue.fresh.0 (subst (λ v. Reaches first.mind.memory (to_block 1) v) is r)))) ∙ e)

    one : (z : ℕ) → IsCovered (record { blocks = next ∷ []; after = 1 } ∷ []) z → z ≡ next
    one z is = ⊎_elim (λ own. ⊎_elim (λ e. sym e) (λ none. absurd (nothing_among z none)) (among_cases next [] z own)) (λ none. absurd none) is

    far_past : (b : ℕ) → (division first none_made).Covered b → b ≢ next
    far_past b is e = o.queue.fresh.1 (subst (λ v. (division first none_made).Covered v) e is)

    each : (b epoch : ℕ) → HangsIn (division d none_made) d.high d.past d.queue b epoch → (HangsIn (division first none_made) first.high first.past first.queue b epoch × (d.mind.label b ≡ first.mind.label b)) ⊎ (epoch ≤ (d.mind.label b).epoch)
    each b epoch (HangsIn.within w is) = let r = was b w in inl (HangsIn.within r (is ∙ o.high_now), o.queue.label b (λ e. o.queue.fresh.0 (subst (λ v. Reaches first.mind.memory (to_block 1) v) e r)))
    each b epoch (HangsIn.earlier r in_past own is) = let in_first = subst (λ (xs : List Queued). Contains xs r) o.past_now in_past in inl (HangsIn.earlier r in_first own is, o.queue.label b (far_past b (all.made.all.queue.now.covered b (inl (block_among first.past r b in_first own)))))
    each b epoch (HangsIn.active cov is) = ⊎_elim
        (λ old. inl (HangsIn.active old (is ∙ o.high_now), o.queue.label b (far_past b (all.made.all.queue.now.covered b (inr old)))))
        (λ new.
        let at_next : (d.mind.label b).epoch ≡ (d.mind.label next).epoch = ap (λ v. (d.mind.label v).epoch) (one b new) in
        let when : epoch ≡ first.high = is ∙ o.high_now in
        inr (omega (arith, at_next, when, young)))
        (covered_either first.queue (record { blocks = next ∷ []; after = 1 } ∷ []) b (subst (λ (qs : List Pending). IsCovered qs b) o.queue_now cov))
