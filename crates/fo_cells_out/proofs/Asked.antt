-- What the clauses of the trait give: `LeavesNone` is what the shapes ask, where a slot is put and where it is cleared.
use Rattle.std.proofs.Common.{◌≡◌, ◌≢◌, ◌⊎◌, inl, inr, ⊎_elim, ℕ, zero, suc, List, [], ◌∷◌, ◌++◌, refl, sym, ◌∙◌, ap, subst}
use Rattle.std.proofs.lemmas.Bool.{cases_eq}
use Rattle.fo_image.specs.declared.types.Pointer.{Pointer}
use Rattle.fo_image.specs.declared.types.Pointer.TheVariants.{Nil, Local, Score as Held}
use Rattle.fo_crash.specs.declared.slot.Slot.{Slot}
use Rattle.fo_crash.specs.Images.{Image, target, local, walk, Reaches}
use Rattle.fo_cells.specs.Known.{Known}
use Rattle.fo_cells_out.specs.Parents.{Tree, Points, IsTree, IsForest, Moves, Removes, Links, linked, LosesOnce, lost_once}
use Rattle.fo_cells_out.specs.Origins.{Origins, Under, ByCopy, ByTop, HasOrigins, LinkedBy, SharedBy, OutAt, Out, PutsMade}
use Rattle.fo_cells_out.proofs.Takeout.{same_block, removed_tree}
use Rattle.fo_cells_out.proofs.MadePuts.{made_leads, stead_leaves}

-- PATHS
pub walk_keeps : (image : Image) (P : ℕ → Type 0) → ((a j b : ℕ) → P a → target ((image a).slot j) ≡ Local b → P b) → (path : List ℕ) (s : Slot) (b : ℕ) → ((a : ℕ) → target s ≡ Local a → P a) → target (walk image s path) ≡ Local b → P b
walk_keeps image P step [] s b first e = first b e
walk_keeps image P step (i ∷ path) s b first e = walk_keeps image P step path ((local image (target s)).slot i) b (next (target s) first) e
  where
    next : (q : Pointer) → ((a : ℕ) → q ≡ Local a → P a) → (c : ℕ) → target ((local image q).slot i) ≡ Local c → P c
    next Nil first c e = absurd (cc)
    next (Local a) first c e = step a i c (first a refl) e
    next (Held z) first c e = absurd (cc)

pub walk_on : (image : Image) (path : List ℕ) (s : Slot) (a j b : ℕ) → target (walk image s path) ≡ Local a → target ((image a).slot j) ≡ Local b → target (walk image s (path ++ j ∷ [])) ≡ Local b
walk_on image [] s a j b e q = ap (λ p. target ((local image p).slot j)) e ∙ q
walk_on image (i ∷ path) s a j b e q = walk_on image path ((local image (target s)).slot i) a j b e q

-- `LeavesNone` of the trait, over the words of a cache
pub record LeavesNone (now : Image) (h : Origins) (old s : Slot) : Type 0 where
  pub each : (y x : ℕ) → h.Apart y × h.Instead y x → Reaches now old x → Reaches now s x ⊎ Reaches now s y

-- A PUT: where `LeavesNone` holds, each block that is to come instead of what leaves comes with it.
module _ {old : Known} {t : Tree} (h : Origins) (at i x y : ℕ) (s : Slot) (tree : IsTree old t) (forest : IsForest old t) (within : t.Within at) (points : Points old at i x) (put : target s ≡ Local y) (made : t.Made y) (lower : Reaches old.memory s at → ⊥) where
  out_within : (n b : ℕ) → OutAt old t x y n b → t.Within b
  out_within zero b o = subst (λ z. t.Within z) (sym o.0) (tree.closed at i x within points)
  out_within (suc n) b o = tree.closed o.0 o.1 b (out_within n o.0 o.2) o.3

  out_reaches : (n b : ℕ) → OutAt old t x y n b → Reaches old.memory ((old.memory at).slot i) b
  out_reaches zero b o = record { path = []; leads = points ∙ ap (λ z. Local z) (sym o.0) }
  out_reaches (suc n) b o =
      let up = out_reaches n o.0 o.2 in
      record { path = up.path ++ o.1 ∷ []; leads = walk_on old.memory up.path ((old.memory at).slot i) o.0 o.1 b up.leads o.3 }

  -- what y leads to: linked, or of the tree and not leaving
  abbrev Comes_to : ℕ → Type 0
  Comes_to b = (LinkedBy old t y b ⊎ (t.Within b × (Out old t x y b → ⊥))) × Reaches old.memory s b

  comes_to : (a j b : ℕ) → Comes_to a → Points old a j b → Comes_to b
  comes_to a j b q e =
      let reach : Reaches old.memory s b = record { path = q.1.path ++ j ∷ []; leads = walk_on old.memory q.1.path s a j b q.1.leads e } in (
        ⊎_elim
            (λ l. ⊎_elim
            (λ w. inr (w, λ o. unshared o.0 b o.1 (a, j, l, e)))
            (λ m. inl (m, (suc l.1.0, (a, j, l.0, e, l.1.1))))
            (forest.leads a j b l.0 e))
            (λ w. inr (tree.closed a j b w.0 e, λ o. above a j b o w.0 w.1 e q.1))
            q.0,
        reach,
      )
    where
      unshared : (n b : ℕ) → OutAt old t x y n b → SharedBy old t y b → ⊥
      unshared zero b o = o.1
      unshared (suc n) b o = o.4

      above : (a j b : ℕ) → Out old t x y b → t.Within a → (Out old t x y a → ⊥) → Points old a j b → Reaches old.memory s a → ⊥
      above a j b (zero, o) w not e r = lower (subst (λ z. Reaches old.memory s z) (tree.one a at j i x w within (subst (λ z. Points old a j z) o.0 e) points).0 r)
      above a j b (suc n, o) w not e r = not (n, subst (λ z. OutAt old t x y n z) (sym (tree.one a o.0 j o.1 b w (out_within n o.0 o.2) e o.3).0) o.2)

  reach_comes : (b : ℕ) → Reaches old.memory s b → Comes_to b
  reach_comes b r = walk_keeps old.memory Comes_to comes_to r.path s b (λ a e.
      let is : a ≡ y = same_block e put in
      (inl (subst (λ z. LinkedBy old t y z) (sym is) (made, (0, refl))), record { path = []; leads = e })) r.leads

  pub leaves_linked : LeavesNone old.memory h ((old.memory at).slot i) s → (w z : ℕ) → t.Made w → h.Apart w → h.Instead w z → Out old t x y z → LinkedBy old t y w
  leaves_linked none w z m ap st o = ⊎_elim
      (λ r. ⊎_elim
      (λ l. absurd (tree.apart z l.0 (out_within o.0 z o.1)))
      (λ q. absurd (q.1 o))
      (reach_comes z r).0)
      (λ r. ⊎_elim (λ l. l) (λ q. absurd (tree.apart w m q.0)) (reach_comes w r).0)
      (none.each w z (ap, st) (out_reaches o.0 z o.1))

-- A CLEARING: what leaves hangs from no made block.
module _ {old : Known} {t : Tree} {h : Origins} (at i x : ℕ) (Leaves : ℕ → Type 0) (tree : IsTree old t) (hand : HasOrigins old t h) (within : t.Within at) (current : t.Older at → ⊥) (points : Points old at i x) (only : (b : ℕ) → Leaves b → (b ≡ x) ⊎ ((a : ℕ) × (j : ℕ) × Leaves a × Points old a j b)) (inside : (b : ℕ) → Leaves b → t.Within b) (leaves : (w z : ℕ) → h.Apart w → h.Instead w z → Leaves z → ⊥) where
  above : (a j b : ℕ) → Leaves b → t.Within a → Points old a j b → ((a ≡ at) × (j ≡ i)) ⊎ Leaves a
  above a j b l w e = ⊎_elim
      (λ is. inl (tree.one a at j i x w within (subst (λ z. Points old a j z) is e) points))
      (λ p. inr (subst (λ z. Leaves z) (tree.one p.0 a p.1 j b (inside p.0 p.2) w p.3 e).0 p.2))
      (only b l)

  -- `free` of `Removes`
  pub cleared_free : (a j b : ℕ) → t.Made a → Points old a j b → Leaves b → ⊥
  cleared_free a j b m e l = made_leads at i Leaves (λ _. ⊥) tree hand current above (λ a j b none e m. none) leaves a j b m e (inside b l) l

  pub cleared_stead : (a z : ℕ) → t.Made a → h.Instead a z → Leaves z → ⊥
  cleared_stead a z m st l = stead_leaves at i Leaves (λ _. ⊥) tree hand current above (λ a j b none e m. none) leaves a z m st l

-- ANOTHER STEP IN THE TREE after which the same blocks are made: the invariant is kept where what unlinked blocks speak of stays.
module _ {at i : ℕ} {s : Slot} {old new : Known} {t u : Tree} {h : Origins} (moves : Moves at i s old new) (within : t.Within at) (current : t.Older at → ⊥) (tree : IsTree old t) (after : IsTree new u) (hand : HasOrigins old t h) (made : (b : ℕ) → u.Made b → t.Made b) (still : (b : ℕ) → t.Made b → u.Made b) (older : (b : ℕ) → t.Older b → u.Older b) (younger : (b : ℕ) → u.Older b → t.Older b) (pointers : (b : ℕ) → t.Pointers b → u.Pointers b) (same : (b : ℕ) → u.Pointers b → t.Pointers b) (stays : (a j b : ℕ) → t.Made a → Points old a j b → t.Within b → u.Within b) (steads : (a z : ℕ) → t.Made a → h.Instead a z → u.Within z) where
  m_new : (a j b : ℕ) → t.Made a → Points old a j b → Points new a j b
  m_new a j b m e = ap target (moves.others a j (inl (λ q. tree.apart a m (subst (λ z. t.Within z) (sym q) within)))) ∙ e

  m_old : (a j b : ℕ) → t.Made a → Points new a j b → Points old a j b
  m_old a j b m e = ap target (sym (moves.others a j (inl (λ q. tree.apart a m (subst (λ z. t.Within z) (sym q) within))))) ∙ e

  leads_kept : (o j z : ℕ) → t.Older o → Points old o j z → Points new o j z
  leads_kept o j z q e = ap target (moves.others o j (inl (λ k. current (subst (λ y. t.Older y) k q)))) ∙ e

  under_kept : (n w a : ℕ) → Under old t n w a → Under new u n w a
  under_kept zero w a q = q
  under_kept (suc n) w a q = (q.0, q.1, still q.0 q.2, m_new q.0 q.1 a q.2 q.3, under_kept n w q.0 q.4)

  by_kept : (a j z : ℕ) → t.Made a → ByCopy old t h a j z → ByCopy new u h a j z
  by_kept a j z m c =
      let k = hand.copied a c.original m c.copied in
      record { original = c.original; copied = c.copied; leads = leads_kept c.original j z k.1 c.leads }

  top_kept : (a j z : ℕ) → ByTop t h a j z → ByTop u h a j z
  top_kept a j z r = record { first = r.first; pointers = pointers a r.pointers; instead = r.instead; raised = r.raised }

  pub tree_origins : HasOrigins new u h
  tree_origins = record {
    made = λ b q. still b (hand.made b q);
    unhung = λ b a j q m e. hand.unhung b a j q (made a m) (m_old a j b (made a m) e);
    hangs = λ a m. let top = hand.hangs a (made a m) in (top.0, top.1, top.2, under_kept top.1 top.0 a top.3);
    copied = λ b z m k. let q = hand.copied b z (made b m) k in (steads b z (made b m) q.2, older z q.1, q.2, λ v. pointers b (q.3 (same z v)));
    instead = λ b z m st. steads b z (made b m) st;
    one = λ b z v m st su. hand.one b z v (made b m) st su;
    slots = λ a j b m e.
        let ma = made a m in
        let was = m_old a j b ma e in ⊎_elim
        (λ q. inl (stays a j b ma was q.0, ⊎_elim (λ c. inl (by_kept a j b ma c)) (λ r. inr (top_kept a j b r.0, λ v. r.1 (younger b v))) q.1))
        (λ q. inr (still b q.0, ⊎_elim (λ r. inl (r.0, r.1, ⊎_elim (λ c. inl (by_kept a j r.0 ma c)) (λ c. inr (top_kept a j r.0 c)) r.2)) (λ none. inr none) q.1))
        (hand.slots a j b ma was);
    head = λ d o j e z md me k q st up ptr. hand.head d o j e z (made d md) (made e me) k (m_old d j e (made d md) q) st up (same o ptr);
  }

-- a clearing keeps it
pub removed_origins : {at i : ℕ} {s : Slot} {old new : Known} {t u : Tree} {h : Origins} {x : ℕ} {Leaves : ℕ → Type 0} {blocks : List ℕ} → Removes at i s old new t u x Leaves blocks → (t.Older at → ⊥) → ((b : ℕ) → u.Pointers b → t.Pointers b) → IsTree old t → HasOrigins old t h → ((w z : ℕ) → h.Apart w → h.Instead w z → Leaves z → ⊥) → HasOrigins new u h
removed_origins {at} {i} {s} {old} {new} {t} {u} {h} {x} {Leaves} r current same tree hand leaves = tree_origins r.moves r.head.within current tree (removed_tree r tree) hand r.made r.made_still r.still r.older r.pointers same
    (λ a j b m e w. ⊎_elim (λ v. v) (λ l. absurd (r.free a j b m e l)) (r.parts b w))
    (λ a z m st. ⊎_elim (λ v. v) (λ l. absurd (cleared_stead at i x Leaves tree hand r.head.within current r.head.points r.only r.inside leaves a z m st l)) (r.parts z (hand.instead a z m st)))

-- A NEW BLOCK comes where the slot led nowhere: it comes instead of none, so that nothing below it leads into the tree.
module _ {old : Known} {t : Tree} {h : Origins} (y : ℕ) (tree : IsTree old t) (forest : IsForest old t) (hand : HasOrigins old t h) (made : t.Made y) (none : (z : ℕ) → h.Instead y z → ⊥) where
  pub below_new : (n a z : ℕ) → t.Made a → Under old t n y a → h.Instead a z → ⊥
  below_new zero a z m u st = none z (subst (λ v. h.Instead v z) u st)
  below_new (suc n) a z m u st = ⊎_elim
      (λ q. tree.apart a m q.0)
      (λ q. ⊎_elim
      (λ r. ⊎_elim
      (λ c. below_new n u.0 c.original u.2 u.4 (hand.copied u.0 c.original u.2 c.copied).2)
      (λ c. below_new n u.0 r.0 u.2 u.4 c.instead)
      r.2)
      (λ no_stead. no_stead z st)
      q.1)
      (hand.slots u.0 u.1 a u.2 u.3)

  -- `next` of `Links`
  pub new_next : (a j b : ℕ) → LinkedBy old t y a → Points old a j b → LinkedBy old t y b
  new_next a j b l e = ⊎_elim
      (λ w. absurd (⊎_elim
      (λ q. ⊎_elim
      (λ c. below_new l.1.0 a c.original l.0 l.1.1 (hand.copied a c.original l.0 c.copied).2)
      (λ r. below_new l.1.0 a b l.0 l.1.1 r.0.instead)
      q.1)
      (λ q. tree.apart b q.0 w)
      (hand.slots a j b l.0 e)))
      (λ m. (m, (suc l.1.0, (a, j, l.0, e, l.1.1))))
      (forest.leads a j b l.0 e)

  -- A put of it is a `Links`.
  pub new_links : {new : Known} (at i : ℕ) (s : Slot) → Moves at i s old new → t.Within at → (t.Older at → ⊥) → ((b : ℕ) → Points old at i b → ⊥) → target s ≡ Local y → h.Apart y → ((b : ℕ) → t.Made b → LinkedBy old t y b ⊎ (LinkedBy old t y b → ⊥)) → Links at i s old new t (λ b. LinkedBy old t y b) y
  new_links {new} at i s moves within current empty put apart decided = record {
    moves = moves;
    within = within;
    current = current;
    empty = empty;
    put = put;
    unhung = λ a j m e. hand.unhung y a j apart m e;
    first = (made, (0, refl));
    made = λ b l. l.0;
    next = new_next;
    decided = decided;
  }

-- LEVELS LOST: the block below x stays, and x, of which nothing else hangs, leaves.
pub lost_free : {at : ℕ} (i : ℕ) {old : Known} {t : Tree} {h : Origins} {x : ℕ} → IsTree old t → HasOrigins old t h → t.Within at → (t.Older at → ⊥) → Points old at i x → ((w : ℕ) → h.Apart w → h.Instead w x → ⊥) → (a j : ℕ) → t.Made a → Points old a j x → ⊥
lost_free {at} i {old} {t} {h} {x} tree hand within current points leaves a j m e = cleared_free at i x (λ b. b ≡ x) tree hand within current points (λ b is. inl is) (λ b is. subst (λ z. t.Within z) (sym is) (tree.closed at i x within points)) (λ w z ap st is. leaves w ap (subst (λ v. h.Instead w v) is st)) a j x m e refl

pub lost_origins : {at i : ℕ} {s : Slot} {old new : Known} {t : Tree} {h : Origins} {x b : ℕ} → LosesOnce at i s old new t x b → IsTree old t → IsTree new (lost_once t x) → HasOrigins old t h → ((c : ℕ) → t.Within c → (c ≡ x) ⊎ (c ≢ x)) → ((w : ℕ) → h.Apart w → h.Instead w x → ⊥) → HasOrigins new (lost_once t x) h
lost_origins {at} {i} {s} {old} {new} {t} {h} {x} {b} k tree after hand cases leaves =
    let only : (c : ℕ) → c ≡ x → t.Within c = λ c is. subst (λ z. t.Within z) (sym is) (tree.closed at i x k.head.within k.head.points) in
    let none : (w z : ℕ) → h.Apart w → h.Instead w z → z ≡ x → ⊥ = λ w z ap st is. leaves w ap (subst (λ v. h.Instead w v) is st) in
    tree_origins k.moves k.head.within k.current tree after hand (λ c m. m) (λ c m. m) (λ c q. q) (λ c q. q) (λ c q. q) (λ c q. q)
    (λ a j c m e w. (w, λ is. k.free a j m (subst (λ z. Points old a j z) is e)))
    (λ a z m st. (hand.instead a z m st, λ is. cleared_stead at i x (λ c. c ≡ x) tree hand k.head.within k.current k.head.points (λ c q. inl q) only none a z m st is))

-- `Comes` in a made block: slot i of it leads to x in the tree, and b comes instead of that; then the slot of its original leads there.
pub comes_copy : {old : Known} {t : Tree} {h : Origins} (at i x b : ℕ) → IsTree old t → HasOrigins old t h → t.Made at → t.Made b → Points old at i x → h.Instead b x → (ByTop t h at i x → ⊥) → ByCopy old t h at i x
comes_copy {old} {t} {h} at i x b tree hand m mb e st unraised = ⊎_elim
    (λ q. ⊎_elim (λ c. c) (λ r. absurd (unraised r.0)) q.1)
    (λ q. absurd (tree.apart x q.0 (hand.instead b x mb st)))
    (hand.slots at i x m e)

-- a new block that is linked keeps the invariant
module _ {at i : ℕ} {s : Slot} {old new : Known} {t : Tree} {h : Origins} {y : ℕ} (k : Links at i s old new t (λ b. LinkedBy old t y b) y) (tree : IsTree old t) (forest : IsForest old t) (after : IsTree new (linked t (λ b. LinkedBy old t y b))) (hand : HasOrigins old t h) where
  abbrev L : ℕ → Type 0
  L b = LinkedBy old t y b

  l_ne : (a : ℕ) → t.Made a → a ≢ at
  l_ne a m e = tree.apart a m (subst (λ z. t.Within z) (sym e) k.within)

  l_old : (a j b : ℕ) → t.Made a → Points new a j b → Points old a j b
  l_old a j b m e = ap target (sym (k.moves.others a j (inl (l_ne a m)))) ∙ e

  l_new : (a j b : ℕ) → t.Made a → Points old a j b → Points new a j b
  l_new a j b m e = ap target (k.moves.others a j (inl (l_ne a m))) ∙ e

  l_apart : (n b : ℕ) → h.Apart b → b ≢ y → Under old t n y b → ⊥
  l_apart zero b q ne u = ne u
  l_apart (suc n) b q ne u = hand.unhung b u.0 u.1 q u.2 u.3

  l_below : (n a j b : ℕ) → t.Made a → (L a → ⊥) → Points old a j b → t.Made b → Under old t n y b → ⊥
  l_below zero a j b m nl e mb u = k.unhung a j m (subst (λ z. Points old a j z) u e)
  l_below (suc n) a j b m nl e mb u = nl (subst (λ z. L z) (forest.one u.0 a u.1 j b u.2 m mb u.3 e).0 (u.2, (n, u.4)))

  l_under : (n w a : ℕ) → t.Made a → (L a → ⊥) → Under old t n w a → Under new (linked t L) n w a
  l_under zero w a m nl u = u
  l_under (suc n) w a m nl u =
      let up : L u.0 → ⊥ = λ l. nl (m, (suc l.1.0, (u.0, u.1, u.2, u.3, l.1.1))) in
      (u.0, u.1, (u.2, up), l_new u.0 u.1 a u.2 u.3, l_under n w u.0 u.2 up u.4)

  l_leads : (o j z : ℕ) → t.Older o → Points old o j z → Points new o j z
  l_leads o j z q v = ap target (k.moves.others o j (inl (λ e. k.current (subst (λ y. t.Older y) e q)))) ∙ v

  abbrev after_link : Origins
  after_link = record { Apart = λ b. h.Apart b × (b ≢ y); Copied = h.Copied; Instead = h.Instead }

  l_by : (a j z : ℕ) → t.Made a → ByCopy old t h a j z → ByCopy new (linked t L) after_link a j z
  l_by a j z m c =
      let q = hand.copied a c.original m c.copied in
      record { original = c.original; copied = c.copied; leads = l_leads c.original j z q.1 c.leads }

  l_top : (a j z : ℕ) → ByTop t h a j z → ByTop (linked t L) after_link a j z
  l_top a j z r = record { first = r.first; pointers = r.pointers; instead = r.instead; raised = r.raised }

  pub link_origins : HasOrigins new (linked t L) after_link
  link_origins = record {
    made = λ b q. (hand.made b q.0, λ l. l_apart l.1.0 b q.0 q.1 l.1.1);
    unhung = λ b a j q m e. hand.unhung b a j q.0 m.0 (l_old a j b m.0 e);
    hangs = λ a m. let top = hand.hangs a m.0 in (top.0, top.1, (top.2, λ e. m.1 (m.0, (top.1, subst (λ z. Under old t top.1 z a) e top.3))), l_under top.1 top.0 a m.0 m.1 top.3);
    copied = λ b z m q. let f = hand.copied b z m.0 q in (inl f.0, f.1, f.2, f.3);
    instead = λ b z m st. inl (hand.instead b z m.0 st);
    one = λ b z v m st su. hand.one b z v m.0 st su;
    slots = λ a j b m e.
        let was = l_old a j b m.0 e in ⊎_elim
        (λ q. inl (inl q.0, ⊎_elim (λ c. inl (l_by a j b m.0 c)) (λ r. inr (l_top a j b r.0, r.1)) q.1))
        (λ q. inr ((q.0, λ l. l_below l.1.0 a j b m.0 m.1 was q.0 l.1.1), ⊎_elim (λ r. inl (r.0, r.1, ⊎_elim (λ c. inl (l_by a j r.0 m.0 c)) (λ c. inr (l_top a j r.0 c)) r.2)) (λ none. inr none) q.1))
        (hand.slots a j b m.0 was);
    head = λ d o j e z md me q to st up ptr. hand.head d o j e z md.0 me.0 q (l_old d j e md.0 to) st up ptr;
  }

-- where nothing is made the invariant holds
pub nothing_made : (k : Known) (t : Tree) → ((a : ℕ) → t.Made a → ⊥) → HasOrigins k t (record { Apart = λ b. ⊥; Copied = λ b x. ⊥; Instead = λ b x. ⊥ })
nothing_made k t none = record {
  made = λ y q. absurd q;
  unhung = λ y a j q m e. q;
  hangs = λ a m. absurd (none a m);
  copied = λ y x m q. absurd q;
  instead = λ y x m q. absurd q;
  one = λ y x z m q r. absurd q;
  slots = λ a j b m e. absurd (none a m);
  head = λ d o j e z md me q to st up ptr. q;
}

-- The conditions of a put can be met: an older leaf x and its copy y, the one made block.
pub leaf_put : {at i : ℕ} {s : Slot} {old new : Known} {t : Tree} {h : Origins} {x y : ℕ} → Moves at i s old new → t.Within at → (t.Older at → ⊥) → t.Older x → Points old at i x → target s ≡ Local y → t.Made y → h.Apart y → h.Copied y x → h.Instead y x → ((b : ℕ) → t.Made b → b ≡ y) → ((b : ℕ) → h.Apart b → t.Made b) → ((b : ℕ) → h.Copied y b → b ≡ x) → ((j b : ℕ) → Points old x j b → ⊥) → ((j b : ℕ) → Points old y j b → ⊥) → PutsMade at i s old new t h x x y (λ b. ⊥)
leaf_put {at} {i} {s} {old} {new} {t} {h} {x} {y} moves within current older points put made apart copied instead one handed original x_leaf y_leaf = record {
  moves = moves;
  within = within;
  current = current;
  points = points;
  from = inl refl;
  put = put;
  apart = apart;
  instead = instead;
  head = λ raised q. raised x copied;
  falls = λ o. current (subst (λ z. t.Older z) (sym (out_is o.0 at o.1)) older);
  leaves = λ w z ap st o. is_linked w (handed w ap);
  lost_below = λ a j b l e. l;
  lost_out = λ b l. absurd l;
  linked = λ b m. inl (is_linked b m);
  out = λ b w. ⊎_elim (λ e. inl (0, (e, unshared b))) (λ ne. inr (λ o. ne (out_is o.0 b o.1))) (cases_eq b x);
  shared = λ b. inr (unshared b);
  has_copy = λ b. ⊎_elim (λ e. inl (y, (is_linked y made, subst (λ z. h.Copied y z) (sym e) copied))) (λ ne. inr (λ c k. ne (original b (subst (λ z. h.Copied z b) (one c k.0.0) k.1)))) (cases_eq b x);
  lost = λ b. inr (λ l. l);
}
  where
    is_linked : (b : ℕ) → t.Made b → LinkedBy old t y b
    is_linked b m = (m, (0, one b m))

    unshared : (b : ℕ) → SharedBy old t y b → ⊥
    unshared b q = y_leaf q.1 b (subst (λ z. Points old z q.1 b) (one q.0 q.2.0) q.3)

    out_is : (n b : ℕ) → OutAt old t x y n b → b ≡ x
    out_is zero b o = o.0
    out_is (suc n) b o = absurd (x_leaf o.1 b (subst (λ z. Points old z o.1 b) (out_is n o.0 o.2) o.3))
