-- Writes and syncs of a run.
use Rattle.std.proofs.Common.{◌≡◌, ◌≢◌, ◌⊎◌, inl, inr, ⊎_elim, ℕ, ◌<◌, ◌≤◌, Bool, true, false, List, [], ◌∷◌, ◌++◌, length, get_or, set, drop, refl, sym, ◌∙◌, ap, subst, arith, get_or-set_other}
use Rattle.std.specs.List.{Contains}
use Rattle.std.specs.Prelude.{Ok, Err}
use Rattle.std.proofs.lemmas.Bool.{cases_eq, cases_lt}
use Rattle.std.proofs.lemmas.List.{length_push, get_or_push, get_or_append_left}
use Rattle.fo_disk.specs.Disk.{Block, Versions, Content, DiskState, versions_of, EachImage, IsSettled, IsNewest, Adds, Appends, Passes, IsWrite}
use Rattle.fo_disk.proofs.Moments.{goes_on, unchanged}
use Rattle.fo_disk.proofs.Images.{adds-count, adds-other, adds-here, appends-adds, sure_at, contains-drop}
use Rattle.fo_image.specs.Place.{arena_places, line_block, stored_block}
use Rattle.venti_store.specs.Held.{Recovers}
use Rattle.venti_store.specs.Kept.{Fits, AllFit, IsDue, AreDue}
use Rattle.venti_store.specs.Settling.{Run, IsRun, Goes, IsDone}

-- ---- where places stand

pub stored_within : (size place : ℕ) → place < arena_places size → stored_block place < size
stored_within size place lt = omega arith

pub line_within : (size place : ℕ) → place < arena_places size → line_block place < size
line_within size place lt = omega arith

-- ---- images

pub recovers : (run : Run) (holds : Content) → IsRun run → length holds ≡ run.size → AllFit run.size run.synced run.settled run.lines run.stored holds → EachImage (Recovers run.synced run.lines run.stored) holds
recovers run holds r told fits image is =
    let long : length image ≡ run.size = is.count ∙ told in
    let at : (k : ℕ) → k < run.size → Fits run.size run.synced run.settled run.lines run.stored k (get_or image k []) = λ k lt. fits k (get_or image k []) lt (is.each k (omega (arith, lt, told))) in
    let h = (at 0 (omega (arith, r.least))).head refl in
    let from = h.from in
    let to = h.to in (
      h.used,
      from,
      omega (arith, r.within),
      record {
        indexed = record {
          least = omega (arith, r.least, long);
          most = omega (arith, r.most, long);
          arena = record {
            head = subst (λ (n : ℕ). Rattle.fo_image.specs.Format.SpellsArenaHead (record { blocks = n; used = h.used }) (get_or image 0 [])) (sym long) h.spelled;
            places = subst (λ (n : ℕ). h.used ≤ arena_places n) (sym long) (omega (arith, r.within, r.places));
          };
          line = λ place lt. (at (line_block place) (line_within run.size place (omega (arith, lt, r.within, r.places)))).line place (omega (arith, lt)) refl;
          apart = λ one other lt used. r.apart one other lt (omega (arith, used, r.within));
        };
        bytes = λ place lt. (at (stored_block place) (stored_within run.size place (omega (arith, lt, r.within, r.places)))).bytes place (omega (arith, lt)) refl;
      },
    )

-- ---- a write

contains-push : (vs : Versions) (b v : Block) → Contains (vs ++ b ∷ []) v → Contains vs v ⊎ (v ≡ b)
contains-push vs b v (k, lt, is) = ⊎_elim
    (λ before. inl (k, before, sym (get_or_append_left vs (b ∷ []) v k before) ∙ is))
    (λ after. inr (sym is ∙ get_or_push vs b v k (omega (arith, after, lt, length_push vs b))))
    (cases_lt k (length vs))

-- what a write adds
pub record Adding (run : Run) (at : ℕ) (block : Block) : Type 0 where
  pub within : at < run.size
  pub fits : Fits run.size run.synced run.settled run.lines run.stored at block
  pub due : IsDue run.settled (length run.lines) at

module _ {run : Run} {old : DiskState} (new : DiskState) (failed : Bool) {at : ℕ} {block : Block} (g : Goes run old) (a : Adding run at block) (flag : new.unsure ≡ set old.unsure at failed) where
  flag_other : (k : ℕ) → k ≢ at → get_or new.unsure k false ≡ get_or old.unsure k false
  flag_other k ne = ap (λ (us : List Bool). get_or us k false) flag ∙ get_or-set_other old.unsure at k failed false ne

  fits_added : Adds at block old.holds new.holds → AllFit run.size run.synced run.settled run.lines run.stored new.holds
  fits_added w k v lt has = ⊎_elim
      (λ same.
      let here : Contains (drop w.gone (versions_of old.holds at) ++ block ∷ []) v = subst (λ (vs : Versions). Contains vs v) (ap (versions_of new.holds) same ∙ adds-here w (omega (arith, a.within, g.told))) has in
      subst (λ (n : ℕ). Fits run.size run.synced run.settled run.lines run.stored n v) (sym same) (⊎_elim
      (λ before. g.fits at v a.within (contains-drop w.gone (versions_of old.holds at) v before))
      (λ this. subst (Fits run.size run.synced run.settled run.lines run.stored at) (sym this) a.fits)
      (contains-push (drop w.gone (versions_of old.holds at)) block v here)))
      (λ other. g.fits k v lt (subst (λ (vs : Versions). Contains vs v) (adds-other w k other) has))
      (cases_eq k at)

  some_added : Adds at block old.holds new.holds → (k : ℕ) → k < run.size → 0 < length (versions_of new.holds k)
  some_added w k lt = ⊎_elim
      (λ same. subst (λ (vs : Versions). 0 < length vs) (sym (ap (versions_of new.holds) same ∙ adds-here w (omega (arith, a.within, g.told)))) (omega (arith, length_push (drop w.gone (versions_of old.holds at)) block)))
      (λ other. subst (λ (vs : Versions). 0 < length vs) (sym (adds-other w k other)) (g.some k lt))
      (cases_eq k at)

  due_after : ((k : ℕ) → k ≢ at → versions_of new.holds k ≡ versions_of old.holds k) → AreDue run.size run.settled (length run.lines) new
  due_after others k lt is = ⊎_elim
      (λ same. inr (subst (IsDue run.settled (length run.lines)) (sym same) a.due))
      (λ other. ⊎_elim
      (λ settled. inl (ap length (others k other) ∙ settled))
      (λ due. inr due)
      (g.due k lt (sym (flag_other k other) ∙ is)))
      (cases_eq k at)

  after_add : Adds at block old.holds new.holds → Rattle.fo_disk.specs.Disk.Since run.before new.moments (Recovers run.synced run.lines run.stored) → Goes run new
  after_add w since = record {
    is_run = g.is_run;
    since = since;
    told = adds-count w ∙ g.told;
    some = some_added w;
    fits = fits_added w;
    due = due_after (adds-other w);
  }

  after_same : new.holds ≡ old.holds → Rattle.fo_disk.specs.Disk.Since run.before new.moments (Recovers run.synced run.lines run.stored) → Goes run new
  after_same same since = record {
    is_run = g.is_run;
    since = since;
    told = ap length same ∙ g.told;
    some = λ k lt. subst (λ (c : Content). 0 < length (versions_of c k)) (sym same) (g.some k lt);
    fits = λ k v lt has. g.fits k v lt (subst (λ (c : Content). Contains (versions_of c k) v) same has);
    due = due_after (λ k ne. ap (λ (c : Content). versions_of c k) same);
  }

  added : {size : ℕ} → IsNewest size old.holds old.moments → Adds at block old.holds new.holds → Passes old.holds new.holds old.moments new.moments → Goes run new
  added newest w passes = after_add w (goes_on g.since passes (λ told. recovers run new.holds g.is_run (adds-count w ∙ g.told) (fits_added w)))

  not_added : {size : ℕ} → IsNewest size old.holds old.moments → (new.holds ≡ old.holds) ⊎ Appends at block old.holds new.holds → Passes old.holds new.holds old.moments new.moments → Goes run new
  not_added newest either passes = ⊎_elim
      (λ same. after_same same (unchanged g.since newest passes same))
      (λ w. added newest (appends-adds w) passes)
      either

-- a write that answered Ok, and one that failed
pub goes_wrote : {E : Type 0} {u : Unit} {run : Run} {old new : DiskState} {size at : ℕ} {block : Block} → Goes run old → Adding run at block → IsNewest size old.holds old.moments → IsWrite {E = E} at block (Ok u) old new → Goes run new
goes_wrote {new = new} g a newest w = added new false g a w.unsure newest w.holds w.moments

pub goes_failed : {E : Type 0} {e : E} {run : Run} {old new : DiskState} {size at : ℕ} {block : Block} → Goes run old → Adding run at block → IsNewest size old.holds old.moments → IsWrite at block (Err e) old new → Goes run new
goes_failed {new = new} g a newest w = not_added new true g a w.unsure newest w.holds w.moments

-- the block that was written
pub done_here : {E : Type 0} {u : Unit} {old new : DiskState} {at : ℕ} {block : Block} (P : Block → Type 0) → at < length old.holds → IsWrite {E = E} at block (Ok u) old new → P block → IsDone new at P
done_here {old = old} {at = at} {block = block} P lt w has = record {
  sure = ap (λ (us : List Bool). get_or us at false) w.unsure ∙ sure_at old.unsure at;
  older = drop w.holds.gone (versions_of old.holds at);
  block = block;
  is = adds-here w.holds lt;
  has = has;
}

-- another one
pub done_other : {E : Type 0} {u : Unit} {old new : DiskState} {at : ℕ} {block : Block} (k : ℕ) (P : Block → Type 0) → k ≢ at → IsWrite {E = E} at block (Ok u) old new → IsDone old k P → IsDone new k P
done_other {old = old} {at = at} k P ne w d = record {
  sure = ap (λ (us : List Bool). get_or us k false) w.unsure ∙ get_or-set_other old.unsure at k false false ne ∙ d.sure;
  older = d.older;
  block = d.block;
  is = adds-other w.holds k ne ∙ d.is;
  has = d.has;
}
