-- What an arena keeps, before and after a run.
use Rattle.std.proofs.Common.{◌≡◌, ◌≢◌, inl, ℕ, ◌-◌, ◌<◌, ◌≤◌, ◌^◌, List, [], ◌∷◌, length, get_or, drop, refl, sym, ◌∙◌, ap, subst, arith, length-drop}
use Rattle.std.specs.Prelude.{Some, Result, Ok, Err, MatchResult}
use Rattle.std.proofs.lemmas.List.{get_or-drop, length-map}
use Rattle.std.specs.BTreeMap.{BTreeMap, get}
use Rattle.fo_disk.specs.Disk.{Content, DiskState, IsNewest, Since}
use Rattle.fo_disk.proofs.Moments.{started}
use Rattle.fo_image.specs.declared.types.ArenaLine.{ArenaLine}
use Rattle.fo_image.specs.Place.{arena_places}
use Rattle.venti_store.specs.Held.{Name, line_at, name_of, Recovers, IsArenaOf}
use Rattle.venti_store.specs.Kept.{waits, settled_count, AllFit, AreDue, KeepsIn}
use Rattle.venti_store.specs.Settling.{Run, IsRun, Goes, Waits, Ends}
use Rattle.venti_store.specs.Names.{name_cmp}
use Rattle.venti_store.specs.declared.shelf.Shelf.{Shelf}
use Rattle.venti_store.specs.declared.waiting.Waiting.{Waiting}
use Rattle.venti_store.specs.declared.recent.Recalled.{Recalled}
use Rattle.venti_store.specs.Arena.{Settled}
use Rattle.venti_store.proofs.Settled.{recovers}

-- no two lines have one name where each name has its place
pub apart : (lines : List ArenaLine) (places : BTreeMap Name ℕ) → ((place : ℕ) → place < length lines → get name_cmp places (name_of (line_at lines place)) ≡ Some place)
    → (one other : ℕ) → one < other → other < length lines → name_of (line_at lines one) ≢ name_of (line_at lines other)
apart lines places found one other lt used same =
    let e : Some one ≡ Some other = sym (found one (omega (arith, lt, used))) ∙ ap (get name_cmp places) same ∙ found other used in
    let is : one ≡ other = cc in
    omega (arith, lt, is)

-- what is known of an arena in memory
pub record InMemory (size : ℕ) (lines : List ArenaLine) (waiting : List (List ℕ)) : Type 0 where
  pub least : 16 ≤ size
  pub most : size ≤ 2 ^ 20
  pub places : length lines ≤ arena_places size
  pub few : length waiting ≤ length lines
  pub apart : (one other : ℕ) → one < other → other < length lines → name_of (line_at lines one) ≢ name_of (line_at lines other)

module _ {size : ℕ} {lines : List ArenaLine} {waiting : List (List ℕ)} (m : InMemory size lines waiting) where
  is_run : {stored : List (List ℕ)} {recalled : List Recalled} {synced : ℕ} {s : DiskState} (moments : List Content) → KeepsIn size lines waiting recalled stored synced s → IsRun (record { size = size; synced = synced; settled = settled_count lines waiting; lines = lines; stored = stored; before = moments })
  is_run moments k = record {
    least = m.least;
    most = m.most;
    places = m.places;
    apart = m.apart;
    lens = k.lens;
    order = k.order;
    within = omega arith;
  }

  -- a run begins
  pub begins : {stored : List (List ℕ)} {recalled : List Recalled} {synced device : ℕ} {s : DiskState} → KeepsIn size lines waiting recalled stored synced s → IsNewest device s.holds s.moments
      → Goes (record { size = size; synced = synced; settled = settled_count lines waiting; lines = lines; stored = stored; before = s.moments }) s
  begins {s = s} k newest = record {
    is_run = is_run s.moments k;
    since = started _ newest (λ told. recovers _ s.holds (is_run s.moments k) k.told k.fits);
    told = k.told;
    some = k.some;
    fits = k.fits;
    due = k.due;
  }

  pub run_waits : {stored : List (List ℕ)} {recalled : List Recalled} {synced : ℕ} {s : DiskState} (moments : List Content) → KeepsIn size lines waiting recalled stored synced s
      → Waits (record { size = size; synced = synced; settled = settled_count lines waiting; lines = lines; stored = stored; before = moments }) waiting
  run_waits {stored} moments k = record {
    all = omega (arith, m.few);
    each = λ i lt. sym (ap (λ (ws : List (List ℕ)). get_or ws i []) k.wait ∙ get_or-drop (settled_count lines waiting) stored i []);
  }

  -- it ends, with all that waited still waiting, or with none
  pub still_keeps : {stored : List (List ℕ)} {recalled : List Recalled} {synced : ℕ} {s now : DiskState} {before : List Content} → KeepsIn size lines waiting recalled stored synced s
      → Goes (record { size = size; synced = synced; settled = settled_count lines waiting; lines = lines; stored = stored; before = before }) now → KeepsIn size lines waiting recalled stored synced now
  still_keeps k g = record { told = g.told; some = g.some; count = k.count; lens = k.lens; wait = k.wait; order = k.order; fits = g.fits; due = g.due; recalls = k.recalls }

  pub now_keeps : {stored none : List (List ℕ)} {recalled : List Recalled} {synced : ℕ} {s now : DiskState} {before : List Content} → KeepsIn size lines waiting recalled stored synced s → none ≡ []
      → Goes (record { size = size; synced = synced; settled = length lines; lines = lines; stored = stored; before = before }) now → KeepsIn size lines none recalled stored synced now
  now_keeps {stored} {none} {recalled} {synced} {s} {now} k is g = subst (λ (ws : List (List ℕ)). KeepsIn size lines ws recalled stored synced now) (sym is) (record {
    told = g.told;
    some = g.some;
    count = k.count;
    lens = k.lens;
    wait = sym (all_dropped stored (length lines - 0) (omega (arith, k.count)));
    order = omega (arith, k.order);
    fits = subst (λ (n : ℕ). AllFit size synced n lines stored now.holds) (let e : length lines ≡ length lines - 0 = omega arith in e) g.fits;
    due = subst (λ (n : ℕ). AreDue size n (length lines) now) (let e : length lines ≡ length lines - 0 = omega arith in e) g.due;
    recalls = k.recalls;
  })
    where
      all_dropped : (xs : List (List ℕ)) (n : ℕ) → length xs ≤ n → drop n xs ≡ []
      all_dropped xs n le = nil (drop n xs) (omega (arith, length-drop n xs, le))
        where
          nil : (ys : List (List ℕ)) → length ys ≡ 0 → ys ≡ []
          nil [] is = refl
          nil (y ∷ ys) is = absurd (omega (arith, is))

pub in_memory : (s : Shelf) → InMemory s.blocks s.index.lines.items (waits s.pending.items)
in_memory s = record {
  least = s.least;
  most = s.most;
  places = s.places;
  few = omega (arith, s.few, length-map s.pending.items (λ (w : Waiting). w.bytes.items));
  apart = apart s.index.lines.items s.index.places s.index.found;
}

abbrev pub run_of : Shelf → List (List ℕ) → ℕ → List Content → Run
run_of s stored synced before = record { size = s.blocks; synced = synced; settled = settled_count s.index.lines.items (waits s.pending.items); lines = s.index.lines.items; stored = stored; before = before }

pub first_is : (s : Shelf) (first : ℕ) → first ≡ length s.index.lines.items - length s.pending.items → settled_count s.index.lines.items (waits s.pending.items) ≡ first
first_is s first is = omega (arith, is, length-map s.pending.items (λ (w : Waiting). w.bytes.items))

-- the end of a run whose head is written
module _ {run : Run} {s : DiskState} (r : IsRun run) (e : Ends run s) where
  pub settled : Settled run.lines run.stored s.holds
  settled = record {
    quiet = e.quiet;
    each = λ image is.
        let whole : Run = record run { synced = length run.lines; settled = length run.lines } in
        let w : IsRun whole = record { least = r.least; most = r.most; places = r.places; apart = r.apart; lens = r.lens; order = omega arith; within = omega arith } in
        let (used, from, to, of) = recovers whole s.holds w e.told e.fits image is in
        let all : used ≡ length run.lines = omega (arith, from, to) in
        subst (λ (n : ℕ). IsArenaOf n run.lines run.stored image) all of;
  }

pub head_since : {E : Type 0} (run : Run) (s : DiskState) (result : Result Unit E) → MatchResult result (λ _. Ends run s) (λ _. Goes run s) → Since run.before s.moments (Recovers run.synced run.lines run.stored)
head_since run s (Ok u) e = e.since
head_since run s (Err f) g = g.since

pub head_keeps : {E : Type 0} {size synced : ℕ} {lines : List ArenaLine} {waiting stored : List (List ℕ)} {s : DiskState} {recalled : List Recalled} (now : DiskState) (before : List Content) (result : Result Unit E) → InMemory size lines waiting → waiting ≡ [] → KeepsIn size lines waiting recalled stored synced s
    → MatchResult result (λ _. Ends (record { size = size; synced = synced; settled = settled_count lines waiting; lines = lines; stored = stored; before = before }) now) (λ _. Goes (record { size = size; synced = synced; settled = settled_count lines waiting; lines = lines; stored = stored; before = before }) now)
    → MatchResult result (λ _. KeepsIn size lines waiting recalled stored (length stored) now × Settled lines stored now.holds) (λ _. KeepsIn size lines waiting recalled stored synced now)
head_keeps {E} {size} {synced} {lines} {waiting} {stored} {s} now before (Ok u) m none k e =
    let same : settled_count lines waiting ≡ length lines = omega (arith, ap length none) in
    let all : length stored ≡ length lines = k.count in (
      record {
        told = e.told;
        some = λ at lt. let one = e.quiet.each at (omega (arith, lt, e.told)) in omega (arith, one);
        count = k.count;
        lens = k.lens;
        wait = k.wait;
        order = omega (arith, same, all);
        fits = subst (λ (n : ℕ). AllFit size n (settled_count lines waiting) lines stored now.holds) (sym all) (subst (λ (n : ℕ). AllFit size (length lines) n lines stored now.holds) (sym same) e.fits);
        due = λ at lt flag. inl (e.quiet.each at (omega (arith, lt, e.told)));
        recalls = k.recalls;
      },
      settled (is_run m before k) e,
    )
head_keeps now before (Err f) m none k g = still_keeps m k g

pub whole_is : (s : Shelf) → s.pending.items ≡ [] → settled_count s.index.lines.items (waits s.pending.items) ≡ length s.index.lines.items
whole_is s none = omega (arith, ap length none, length-map s.pending.items (λ (w : Waiting). w.bytes.items))
