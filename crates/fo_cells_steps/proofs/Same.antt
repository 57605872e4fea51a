-- What is said of a division is said of one that has the same blocks.
use Rattle.std.proofs.Common.{◌⊎◌, inl, inr, ⊎_elim, ℕ, zero, suc, List}
use Rattle.fo_cells.specs.Known.{Known, Top}
use Rattle.fo_cells_out.specs.Removals.{Pending}
use Rattle.fo_cells_out.specs.Parents.{Tree, Points, Over, Holds, Parents, IsTree, IsForest, IsDivided, view}
use Rattle.fo_cells_out.specs.Origins.{Origins, Under, ByCopy, ByTop, HasOrigins}
use Rattle.fo_cells_all.specs.of_cells_epochs.Epochs.{Root}
use Rattle.fo_cells_all.specs.of_cells_queue.Queue.{Queued, IsQueue}
use Rattle.fo_cells_steps.specs.Division.{SameTree}

pub same_back : {t u : Tree} → SameTree t u → SameTree u t
same_back {t} {u} e = record {
  within = e.within_back;
  within_back = e.within;
  made = e.made_back;
  made_back = e.made;
  covered = e.covered_back;
  covered_back = e.covered;
  older = λ b is. e.older_back b (in_old b is);
  older_back = λ b is. e.older b (in_old b is);
  pointers = λ b is. e.pointers_back b (in_old b is);
  pointers_back = λ b is. e.pointers b (in_old b is);
}
  where
    in_old : (b : ℕ) → u.Within b ⊎ u.Made b → t.Within b ⊎ t.Made b
    in_old b is = ⊎_elim (λ w. inl (e.within_back b w)) (λ m. inr (e.made_back b m)) is

module _ (k : Known) {t u : Tree} (e : SameTree t u) where
  over_same : (n a b : ℕ) → Over k t n a b → Over k u n a b
  over_same zero a b o = o
  over_same (suc n) a b o = (o.0, e.within o.0 o.1, e.pointers o.0 (inl o.1) o.2, o.3, over_same n a o.0 o.4)

  holds_same : (a b : ℕ) → t.Within b → Holds k t a b → Holds k u a b
  holds_same a b w h = record { within = e.within a h.within; levels = h.levels; over = over_same h.levels a b h.over; older = λ q. h.older (e.older_back b (inl w) q) }

  pub tree_same : IsTree k t → IsTree k u
  tree_same h = record {
    one = λ a c i j b wa wc ea ec. h.one a c i j b (e.within_back a wa) (e.within_back c wc) ea ec;
    closed = λ a i b w l. e.within b (h.closed a i b (e.within_back a w) l);
    older = λ a i b w l q.
        let wt = e.within_back a w in
        e.older b (inl (h.closed a i b wt l)) (h.older a i b wt l (e.older_back a (inl wt) q));
    apart = λ a m w. h.apart a (e.made_back a m) (e.within_back a w);
    gone = λ a c w. h.gone a (e.covered_back a c) (e.within_back a w);
  }

  pub forest_same : IsForest k t → IsForest k u
  forest_same h = record {
    leads = λ a j b m l. ⊎_elim (λ w. inl (e.within b w)) (λ q. inr (e.made b q)) (h.leads a j b (e.made_back a m) l);
    one = λ a c j l b ma mc mb ea ec. h.one a c j l b (e.made_back a ma) (e.made_back c mc) (e.made_back b mb) ea ec;
    young = λ a m q. h.young a (e.made_back a m) (e.older_back a (inr (e.made_back a m)) q);
    uncovered = λ a m c. h.uncovered a (e.made_back a m) (e.covered_back a c);
  }

  pub parents_same : Parents k t → Parents k u
  parents_same h = record {
    tree = λ a i b s p st may l w.
        let wt = e.within_back b w in ⊎_elim
        (λ held. inl (holds_same a b wt held))
        (λ r. inr (⊎_elim (λ c. inl (e.covered a c)) (λ m. inr (e.made a m)) r))
        (h.tree a i b s p st may l wt);
    made = λ a i b s p st may l m. e.made a (h.made a i b s p st may l (e.made_back b m));
    unwritten = λ a m. h.unwritten a (e.made_back a m);
  }

  pub divided_same : {before : List ℕ} {queue : List Pending} → IsDivided k t before queue → IsDivided k u before queue
  divided_same h = record {
    tree = tree_same h.tree;
    forest = forest_same h.forest;
    parents = parents_same h.parents;
    behind = h.behind;
    listed = λ b c. h.listed b (e.covered_back b c);
    covered = λ b c. e.covered b (h.covered b c);
  }

-- WHAT WAS MADE, over two records of what is known in which the same slots lead to the same blocks
module _ (k l : Known) {t u : Tree} (on : (a j b : ℕ) → Points k a j b → Points l a j b) (off : (a j b : ℕ) → Points l a j b → Points k a j b) (e : SameTree t u) where
  under_same : (n y a : ℕ) → Under k t n y a → Under l u n y a
  under_same zero y a q = q
  under_same (suc n) y a q = (q.0, q.1, e.made q.0 q.2, on q.0 q.1 a q.3, under_same n y q.0 q.4)

  pub origins_alike : {h : Origins} → HasOrigins k t h → HasOrigins l u h
  origins_alike {h} o = record {
    made = λ y q. e.made y (o.made y q);
    unhung = λ y a j q m z. o.unhung y a j q (e.made_back a m) (off a j y z);
    hangs = λ a m. let top = o.hangs a (e.made_back a m) in (top.0, top.1, top.2, under_same top.1 top.0 a top.3);
    copied = λ y x m q.
        let mt = e.made_back y m in
        let c = o.copied y x mt q in (
          e.within x c.0,
          e.older x (inl c.0) c.1,
          c.2,
          λ p. e.pointers y (inr mt) (c.3 (e.pointers_back x (inl c.0) p)),
        );
    instead = λ y x m q. e.within x (o.instead y x (e.made_back y m) q);
    one = λ y x z m q r. o.one y x z (e.made_back y m) q r;
    slots = λ a j b m z.
        let mt = e.made_back a m in ⊎_elim
        (λ w. inl (e.within b w.0, ⊎_elim (λ c. inl (by_same a j b mt c)) (λ r. inr (top_same a j b mt r.0, λ q. r.1 (e.older_back b (inl w.0) q))) w.1))
        (λ q. inr (e.made b q.0, ⊎_elim (λ r. inl (r.0, r.1, ⊎_elim (λ c. inl (by_same a j r.0 mt c)) (λ c. inr (top_same a j r.0 mt c)) r.2)) (λ none. inr none) q.1))
        (o.slots a j b mt (off a j b z));
    head = λ d x j y z md my c v i up p. o.head d x j y z (e.made_back d md) (e.made_back y my) c (off d j y v) i up (e.pointers_back x (inl (o.copied d x (e.made_back d md) c).0) p);
  }
    where
      by_same : (a j z : ℕ) → t.Made a → ByCopy k t h a j z → ByCopy l u h a j z
      by_same a j z m c = record { original = c.original; copied = c.copied; leads = on c.original j z c.leads }

      top_same : (a j z : ℕ) → t.Made a → ByTop t h a j z → ByTop u h a j z
      top_same a j z m r = record { first = r.first; pointers = e.pointers a (inr m) r.pointers; instead = r.instead; raised = r.raised }

pub origins_same : (k : Known) {t u : Tree} {h : Origins} → SameTree t u → HasOrigins k t h → HasOrigins k u h
origins_same k e o = origins_alike k k (λ a j b q. q) (λ a j b q. q) e o

-- ALL REMOVALS
pub queue_same : {k : Known} {t u : Tree} {high : ℕ} {active : List Top} {roots : List Root} {past : List Queued} {queue : List Pending} → SameTree t u → IsQueue k t high active roots past queue → IsQueue k u high active roots past queue
queue_same {k} {t} {u} {high} {active} {roots} {past} {queue} e q = record {
  now = divided_same (view k active) e q.now;
  behind = q.behind;
  order = q.order;
  before = q.before;
  within = λ b w. q.within b (e.within_back b w);
  once = q.once;
  live = λ b is. q.live b (⊎_elim (λ c. inl (e.covered_back b c)) (λ m. inr (e.made_back b m)) is);
  begun = q.begun;
}
