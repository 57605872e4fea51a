-- Syncs of a run, and its end.
use Rattle.std.proofs.Common.{◌≡◌, ◌⊎◌, inl, inr, ⊎_elim, ℕ, ◌-◌, ◌<◌, Bool, true, false, cond, List, length, get_or, refl, sym, ◌∙◌, ap, subst, arith, length-drop}
use Rattle.std.specs.List.{Contains}
use Rattle.std.specs.Prelude.{Ok, Err}
use Rattle.std.proofs.lemmas.Bool.{cases_lt}
use Rattle.fo_disk.specs.Disk.{Block, Versions, Content, DiskState, versions_of, newest, IsSettled, IsNewest, IsSync}
use Rattle.fo_disk.proofs.Moments.{goes_on, unchanged}
use Rattle.fo_disk.proofs.Images.{settles-added, contains-drop, contains-one}
use Rattle.fo_image.specs.Format.{SpellsArenaHead}
use Rattle.fo_image.specs.Place.{line_block, stored_block}
use Rattle.venti_store.specs.Held.{HasLine, HasBytes}
use Rattle.venti_store.specs.Kept.{AllFit, IsDue, AreDue}
use Rattle.venti_store.specs.Settling.{Run, IsRun, Goes, IsDone, WroteBytes, WroteLines, all_settled, IsWholeHead, Ends}
use Rattle.venti_store.proofs.Settled.{Adding, recovers, stored_within, line_within}

-- a sync that failed
pub goes_unsynced : {E : Type 0} {e : E} {run : Run} {old new : DiskState} {size : ℕ} → Goes run old → IsNewest size old.holds old.moments → IsSync (Err e) old new → Goes run new
goes_unsynced {run = run} g newest w = record {
  is_run = g.is_run;
  since = unchanged g.since newest w.moments w.holds;
  told = ap length w.holds ∙ g.told;
  some = λ k lt. subst (λ (c : Content). 0 < length (versions_of c k)) (sym w.holds) (g.some k lt);
  fits = λ k v lt has. g.fits k v lt (subst (λ (c : Content). Contains (versions_of c k) v) w.holds has);
  due = λ k lt is. subst (λ (c : Content). IsSettled c k ⊎ IsDue run.settled (length run.lines) k) (sym w.holds) (g.due k lt (sym (ap (λ (us : List Bool). get_or us k false) w.unsure) ∙ is));
}

module _ {E : Type 0} {u : Unit} {run : Run} {old new : DiskState} (g : Goes run old) (w : IsSync {E = E} (Ok u) old new) where
  here : (k : ℕ) → k < run.size → k < length old.holds
  here k lt = omega (arith, lt, g.told)

  had : (k : ℕ) (v : Block) → k < run.size → Contains (versions_of new.holds k) v → Contains (versions_of old.holds k) v
  had k v lt has = either (get_or old.unsure k false) (subst (λ (vs : Versions). Contains vs v) (w.holds.each k (here k lt)) has)
    where
      either : (b : Bool) → Contains (cond b (versions_of old.holds k) (newest (versions_of old.holds k))) v → Contains (versions_of old.holds k) v
      either true h = h
      either false h = contains-drop (length (versions_of old.holds k) - 1) (versions_of old.holds k) v h

  left : (k : ℕ) → k < run.size → 0 < length (versions_of new.holds k)
  left k lt = subst (λ (vs : Versions). 0 < length vs) (sym (w.holds.each k (here k lt))) (either (get_or old.unsure k false))
    where
      either : (b : Bool) → 0 < length (cond b (versions_of old.holds k) (newest (versions_of old.holds k)))
      either true = g.some k lt
      either false = let some = g.some k lt in omega (arith, some, length-drop (length (versions_of old.holds k) - 1) (versions_of old.holds k))

  kept : (k : ℕ) → k < run.size → get_or old.unsure k false ≡ true → IsSettled old.holds k → IsSettled new.holds k
  kept k lt flag one = ap length (w.holds.each k (here k lt)) ∙ ap (λ (b : Bool). length (cond b (versions_of old.holds k) (newest (versions_of old.holds k)))) flag ∙ one

  one_left : (k : ℕ) → k < run.size → get_or old.unsure k false ≡ false → IsSettled new.holds k
  one_left k lt flag =
      let some = g.some k lt in
      ap length (w.holds.each k (here k lt))
      ∙ ap (λ (b : Bool). length (cond b (versions_of old.holds k) (newest (versions_of old.holds k)))) flag
      ∙ omega (arith, some, length-drop (length (versions_of old.holds k) - 1) (versions_of old.holds k))

  -- what a block has that was written
  done_left : (at : ℕ) (P : Block → Type 0) → at < run.size → IsDone old at P → (v : Block) → Contains (versions_of new.holds at) v → P v
  done_left at P lt d v has = subst P (sym (contains-one d.block v (subst (λ (vs : Versions). Contains vs v) (settles-added w.holds at (here at lt) d.sure d.older d.block d.is) has))) d.has

  still_fits : AllFit run.size run.synced run.settled run.lines run.stored new.holds
  still_fits k v lt has = g.fits k v lt (had k v lt has)

  module _ (bytes : WroteBytes run (length run.lines) old) (lines : WroteLines run (length run.lines) old) where
    all_fit : AllFit run.size run.synced (length run.lines) run.lines run.stored new.holds
    all_fit k v lt has = let fits = still_fits k v lt has in let places = g.is_run.places in record {
      head = λ zero. let h = fits.head zero in record { used = h.used; from = h.from; to = omega (arith, h.to, g.is_run.within); spelled = h.spelled };
      line = λ place used is. ⊎_elim
          (λ before. fits.line place before is)
          (λ after. done_left (line_block place) (HasLine run.lines place) (line_within run.size place (omega (arith, used, places))) (lines.each place after used used) v (subst (λ (q : ℕ). Contains (versions_of new.holds q) v) (sym is) has))
          (cases_lt place run.settled);
      bytes = λ place used is. ⊎_elim
          (λ before. fits.bytes place before is)
          (λ after. done_left (stored_block place) (HasBytes run.lines run.stored place) (stored_within run.size place (omega (arith, used, places))) (bytes.each place after used) v (subst (λ (q : ℕ). Contains (versions_of new.holds q) v) (sym is) has))
          (cases_lt place run.settled);
    }

    none_due : AreDue run.size (length run.lines) (length run.lines) new
    none_due k lt is_unsure = let flag : get_or old.unsure k false ≡ true = sym (ap (λ (us : List Bool). get_or us k false) w.unsure) ∙ is_unsure in ⊎_elim
        (λ one. inl (kept k lt flag one))
        (λ due. ⊎_elim
        (λ zero. inr (inl zero))
        (λ (place, from, to, which). ⊎_elim
        (λ is. absurd (clash (subst (λ (q : ℕ). get_or old.unsure q false ≡ false) is (bytes.each place from to).sure)))
        (λ is. absurd (clash (subst (λ (q : ℕ). get_or old.unsure q false ≡ false) is (lines.each place from to to).sure)))
        which)
        due)
        (g.due k lt flag)
      where
        clash : get_or old.unsure k false ≡ false → ⊥
        clash is = let bad : true ≡ false = sym is_unsure ∙ ap (λ (us : List Bool). get_or us k false) w.unsure ∙ is in cc

    -- a sync that answered Ok, after all was written
    pub goes_synced : Goes (all_settled run) new
    goes_synced = let r = g.is_run in record {
      is_run = record { least = r.least; most = r.most; places = r.places; apart = r.apart; lens = r.lens; order = omega (arith, r.order, r.within); within = omega arith };
      since = goes_on g.since w.moments (λ told. recovers run new.holds r (w.holds.count ∙ g.told) still_fits);
      told = w.holds.count ∙ g.told;
      some = left;
      fits = all_fit;
      due = none_due;
    }

  module _ (whole : run.settled ≡ length run.lines) (head : IsDone old 0 (IsWholeHead run)) where
    quiet : (k : ℕ) → k < run.size → (b : Bool) → get_or old.unsure k false ≡ b → IsSettled new.holds k
    quiet k lt false flag = one_left k lt flag
    quiet k lt true flag = ⊎_elim
        (λ one. kept k lt flag one)
        (λ due. ⊎_elim
        (λ zero. absurd (clash (subst (λ (q : ℕ). get_or old.unsure q false ≡ false) (sym zero) head.sure)))
        (λ (place, from, to, which). absurd (omega (arith, from, to, whole)))
        due)
        (g.due k lt flag)
      where
        clash : get_or old.unsure k false ≡ false → ⊥
        clash is = let bad : true ≡ false = sym flag ∙ is in cc

    -- a sync that answered Ok, after the head was written
    pub ends : Ends run new
    ends = let r = g.is_run in record {
      since = goes_on g.since w.moments (λ told. recovers run new.holds r (w.holds.count ∙ g.told) still_fits);
      told = w.holds.count ∙ g.told;
      quiet = record { each = λ k lt. quiet k (omega (arith, lt, w.holds.count, g.told)) _ refl };
      fits = λ k v lt has. let kept_fits = still_fits k v lt has in record {
        head = λ zero. record {
          used = length run.lines;
          from = omega arith;
          to = omega arith;
          spelled = done_left 0 (IsWholeHead run) (omega (arith, lt, zero)) head v (subst (λ (q : ℕ). Contains (versions_of new.holds q) v) zero has);
        };
        line = λ place used is. kept_fits.line place (omega (arith, used, whole)) is;
        bytes = λ place used is. kept_fits.bytes place (omega (arith, used, whole)) is;
      };
    }

-- the head is written
pub adding_head : {run : Run} {block : Block} → IsRun run → run.settled ≡ length run.lines → IsWholeHead run block → Adding run 0 block
adding_head {run} r whole spelled = record {
  within = omega (arith, r.least);
  fits = record {
    head = λ zero. record { used = length run.lines; from = omega (arith, r.order, r.within); to = omega (arith, whole); spelled = spelled };
    line = λ place lt is. absurd (omega (arith, is));
    bytes = λ place lt is. absurd (omega (arith, is));
  };
  due = inl refl;
}

pub whole_head : (run : Run) {blocks used : ℕ} {block : Block} → run.size ≡ blocks → length run.lines ≡ used → SpellsArenaHead (record { blocks = blocks; used = used }) block → IsWholeHead run block
whole_head run {blocks} {used} {block} size lines spelled =
    subst (λ (n : ℕ). SpellsArenaHead (record { blocks = n; used = length run.lines }) block) (sym size) (subst (λ (n : ℕ). SpellsArenaHead (record { blocks = blocks; used = n }) block) (sym lines) spelled)
