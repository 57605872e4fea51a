-- Levels lost: it is a `Replaces`, and the invariant on made blocks is kept.
use Rattle.std.proofs.Common.{◌≡◌, ◌≢◌, ◌⊎◌, inl, inr, ⊎_elim, ℕ, zero, suc, [], ◌∷◌, ◌++◌, refl, sym, ◌∙◌, ap, subst}
use Rattle.std.proofs.lemmas.Bool.{cases_eq}
use Rattle.fo_image.specs.declared.types.Pointer.TheVariants.{Local}
use Rattle.fo_crash.specs.declared.slot.Slot.{Slot}
use Rattle.fo_crash.specs.Images.{target, Reaches}
use Rattle.fo_cells.specs.Known.{Known}
use Rattle.fo_cells_out.specs.Parents.{Tree, Points, Over, IsTree, IsForest, Replaces}
use Rattle.fo_cells_out.specs.Origins.{Origins, HasOrigins, GoneAt, Goes, Levels, LosesMany, lost_tree}
use Rattle.fo_cells_out.proofs.Takeout.{same_block, replaced_tree}
use Rattle.fo_cells_out.proofs.Shapes.{turns_by, turn_first, turn_next}
use Rattle.fo_cells_out.proofs.MadePuts.{made_leads, stead_leaves}
use Rattle.fo_cells_out.proofs.Asked.{tree_origins, walk_keeps, walk_on, LeavesNone}

module _ {at i : ℕ} {s : Slot} {old new : Known} {t : Tree} {h : Origins} {x b : ℕ} {Lost : ℕ → Type 0} (k : LosesMany at i s old new t h x b Lost) (tree : IsTree old t) (forest : IsForest old t) (hand : HasOrigins old t h) where
  abbrev G : ℕ → Type 0
  G c = Goes old x b c

  abbrev V : Tree
  V = lost_tree old t x b Lost

  x_in : t.Within x
  x_in = tree.closed at i x k.head.within k.head.points

  gone_in : (n c : ℕ) → GoneAt old x b n c → t.Within c
  gone_in zero c g = subst (λ z. t.Within z) (sym g) x_in
  gone_in (suc n) c g = tree.closed g.0 g.1 c (gone_in n g.0 g.2) g.3

  gone_above : (n a j c : ℕ) → GoneAt old x b n c → t.Within a → Points old a j c → ((a ≡ at) × (j ≡ i)) ⊎ G a
  gone_above zero a j c g w e = inl (tree.one a at j i x w k.head.within (subst (λ z. Points old a j z) g e) k.head.points)
  gone_above (suc n) a j c g w e = inr (n, subst (λ z. GoneAt old x b n z) (sym (tree.one a g.0 j g.1 c w (gone_in n g.0 g.2) e g.3).0) g.2)

  above : (a j c : ℕ) → G c → t.Within a → Points old a j c → ((a ≡ at) × (j ≡ i)) ⊎ G a
  above a j c g w e = gone_above g.0 a j c g.1 w e

  b_stays : G b → ⊥
  b_stays g = go g.0 g.1
    where
      go : (n : ℕ) → GoneAt old x b n b → ⊥
      go zero q = k.other (sym q)
      go (suc n) q = q.4 refl

  b_in : t.Within b
  b_in = tree.closed k.levels.0 0 b k.levels.1 k.levels.3

  made_free : (a j c : ℕ) → t.Made a → Points old a j c → G c → ⊥
  made_free a j c m e g = made_leads at i G (λ _. ⊥) tree hand k.current above (λ a j c none e m. none) k.leaves a j c m e (gone_in g.0 c g.1) g

  -- who held a level was `at`, or leaves
  held_by : (n c : ℕ) → Levels old t at i x b n c → (m a : ℕ) → t.Within a → Over old t m a c → (a ≡ at) ⊎ (V.Within a → ⊥)
  held_by zero c l m a w o =
      let is : c ≡ x = same_block l k.head.points in
      turn_first V tree k.head m a w (subst (λ z. Over old t m a z) is o)
  held_by (suc n) c l m a w o = turn_next V tree l.1 l.3 (λ v. v.1 l.2) (λ p d v q. held_by n l.0 l.4 p d v q) m a w o

  pub lost_replaces : Replaces at i s old new t V (λ c d. ⊥) G Lost (λ c. c ≡ b) (λ c a j. (c ≡ b) × (a ≡ at) × (j ≡ i))
  lost_replaces = record {
    moves = k.moves;
    within = k.head.within;
    current = k.current;
    stays = (k.head.within, k.falls);
    parts = λ c w. ⊎_elim (λ g. inr (inr g)) (λ out. inl (w, out)) (k.goes c w);
    was = λ c v. inl v.0;
    copied = λ c d p. absurd p;
    copy_one = λ c d e p q. absurd p;
    hangs = λ a j c d p w e. absurd p;
    shared = λ a d j c p e v. absurd p;
    slot_was = λ c e v. absurd (v.1 (0, same_block e k.head.points));
    gone = λ c g. (λ v. v.1 g, λ d p. p, gone_in g.0 c g.1);
    gone_below = λ a j c g e. ⊎_elim (λ is. inr is) (λ ne. inl (suc g.0, (a, j, g.1, e, ne))) (cases_eq c b);
    gone_above = λ a j c g w e. ⊎_elim (λ here. inr (inr here)) (λ up. inl up) (above a j c g w e);
    gone_copy = λ a d j c g p e n. p;
    lost = λ c g. ⊎_elim (λ l. inr l) (λ nl. inl (inr (g, nl))) (k.lost c);
    lost_below = k.lost_below;
    lost_out = λ c l v. v.1 (k.lost_out c l);
    turns = λ c d top p. turns_by old new t V at c d 0
        (λ n a w o. held_by (suc k.lost_levels) b k.levels n a w (subst (λ z. Over old t n a z) top o))
        (i, ap target k.moves.here ∙ k.put ∙ ap (λ z. Local z) (sym top ∙ ⊎_elim (λ q. q.0) (λ none. absurd none) p))
        (λ _. refl);
    parent = λ p j c top wc wp e. inr (inl (subst (λ z. G z) (sym (tree.one p k.levels.0 j 0 b wp k.levels.1 (subst (λ z. Points old p j z) top e) k.levels.3).0) k.levels.2));
    from_one = λ c a d j l f g. (f.1 ∙ sym g.1, f.2 ∙ sym g.2);
    brings = λ a j c m v e w. absurd (tree.apart a m v.0);
    put = λ c e.
        let is : c ≡ b = same_block e k.put in
        let stays : V.Within c = (subst (λ z. t.Within z) (sym is) b_in, λ g. b_stays (subst (λ z. G z) is g)) in
        (stays, inl (subst (λ z. t.Within z) (sym is) b_in, is, stays, (is, refl, refl)));
    links = λ a j c m v e mc. absurd (tree.apart a m v.0);
    made = λ c m. m;
    linked = λ c m. inr m;
    apart = λ c m v. tree.apart c m v.0;
    covered = λ c y. ⊎_elim (λ was. inl was) (λ g. inr (inr g.0)) y;
    cover = λ c y. ⊎_elim (λ was. inl was) (λ d. absurd d.1) y;
    pointers = λ c q. q;
    older = λ c q. q;
    still = λ c q. q;
    free = λ a j c m e out w. ⊎_elim (λ g. made_free a j c m e g) (λ stays. out (w, stays)) (k.goes c w);
  }

  pub lost_kept : HasOrigins new V h
  lost_kept = tree_origins k.moves k.head.within k.current tree (replaced_tree lost_replaces tree forest) hand (λ c m. m) (λ c m. m) (λ c q. q) (λ c q. q) (λ c q. q) (λ c q. q)
      (λ a j c m e w. ⊎_elim (λ g. absurd (made_free a j c m e g)) (λ stays. (w, stays)) (k.goes c w))
      (λ a z m st. (hand.instead a z m st, λ g. stead_leaves at i G (λ _. ⊥) tree hand k.current above (λ a j c none e m. none) k.leaves a z m st g))

-- `LeavesNone` of the trait gives what is asked of what leaves.
module _ {old : Known} {t : Tree} (h : Origins) (at i x b : ℕ) (s : Slot) (tree : IsTree old t) (within : t.Within at) (points : Points old at i x) (put : target s ≡ Local b) (b_in : t.Within b) (other : x ≢ b) (lower : Reaches old.memory s at → ⊥) where
  goes_in : (n c : ℕ) → GoneAt old x b n c → t.Within c
  goes_in zero c g = subst (λ z. t.Within z) (sym g) (tree.closed at i x within points)
  goes_in (suc n) c g = tree.closed g.0 g.1 c (goes_in n g.0 g.2) g.3

  goes_reached : (n c : ℕ) → GoneAt old x b n c → Reaches old.memory ((old.memory at).slot i) c
  goes_reached zero c g = record { path = []; leads = points ∙ ap (λ z. Local z) (sym g) }
  goes_reached (suc n) c g =
      let up = goes_reached n g.0 g.2 in
      record { path = up.path ++ g.1 ∷ []; leads = walk_on old.memory up.path ((old.memory at).slot i) g.0 g.1 c up.leads g.3 }

  abbrev Kept : ℕ → Type 0
  Kept c = t.Within c × (Goes old x b c → ⊥) × Reaches old.memory s c

  kept_on : (a j c : ℕ) → Kept a → Points old a j c → Kept c
  kept_on a j c q e = (tree.closed a j c q.0 e, λ g. out g.0 g.1, record { path = q.2.path ++ j ∷ []; leads = walk_on old.memory q.2.path s a j c q.2.leads e })
    where
      out : (n : ℕ) → GoneAt old x b n c → ⊥
      out zero g = lower (subst (λ z. Reaches old.memory s z) (tree.one a at j i x q.0 within (subst (λ z. Points old a j z) g e) points).0 q.2)
      out (suc n) g = q.1 (n, subst (λ z. GoneAt old x b n z) (sym (tree.one a g.0 j g.1 c q.0 (goes_in n g.0 g.2) e g.3).0) g.2)

  b_kept : (n c : ℕ) → c ≡ b → GoneAt old x b n c → ⊥
  b_kept zero c is g = other (sym g ∙ is)
  b_kept (suc n) c is g = g.4 is

  reached_kept : (c : ℕ) → Reaches old.memory s c → Kept c
  reached_kept c r = walk_keeps old.memory Kept kept_on r.path s c (λ a e.
      let is : a ≡ b = same_block e put in
      (subst (λ z. t.Within z) (sym is) b_in, λ g. b_kept g.0 a is g.1, record { path = []; leads = e })) r.leads

  pub lost_leaves : LeavesNone old.memory h ((old.memory at).slot i) s → (w z : ℕ) → t.Made w → h.Apart w → h.Instead w z → Goes old x b z → ⊥
  lost_leaves none w z m ap st g = ⊎_elim
      (λ r. (reached_kept z r).1 g)
      (λ r. tree.apart w m (reached_kept w r).0)
      (none.each w z (ap, st) (goes_reached g.0 z g.1))
