-- The invariant on made blocks is kept where one is given out, or put into, where a slot is cleared, and where blocks are closed.
use Rattle.std.proofs.Common.{◌≡◌, ◌≢◌, ◌⊎◌, inl, inr, ⊎_elim, ℕ, zero, suc, refl, sym, ◌∙◌, ap, subst}
use Rattle.std.proofs.lemmas.Bool.{cases_eq}
use Rattle.fo_image.specs.declared.types.Pointer.{Pointer}
use Rattle.fo_image.specs.declared.types.Pointer.TheVariants.{Nil, Local, Score as Held}
use Rattle.fo_crash.specs.declared.slot.Slot.{Slot}
use Rattle.fo_crash.specs.declared.place.Place.{Place}
use Rattle.fo_crash.specs.Images.{Content, target}
use Rattle.fo_cells.specs.Known.{Known}
use Rattle.fo_cells.specs.Writes.{Gives}
use Rattle.fo_cells_out.specs.Parents.{Tree, Points, IsTree, IsForest, Moves, Stays, making}
use Rattle.fo_cells_out.specs.Origins.{Origins, Under, ByCopy, ByTop, MadeLeads, HasOrigins, given, filled, Fills}
use Rattle.fo_cells_out.proofs.Takeout.{same_block}

-- A BLOCK IS GIVEN OUT, as a copy of the older block of the tree in `From`, or with slots that lead nowhere
module _ {at : ℕ} {c : Content} {p : Place} {old new : Known} {t : Tree} {h : Origins} (From : ℕ → Type 0) (g : Gives at c p old new) (outside : t.Within at → ⊥) (unmade : t.Made at → ⊥) (from : (x : ℕ) → From x → t.Within x × t.Older x × (t.Pointers x → t.Pointers at)) (from_one : (x z : ℕ) → From x → From z → x ≡ z) (leads : (j b : ℕ) → target (c.slot j) ≡ Local b → (x : ℕ) × From x × Points old x j b) (tree : IsTree old t) (forest : IsForest old t) (hand : HasOrigins old t h) where
  made_ne : (a : ℕ) → t.Made a → a ≢ at
  made_ne a m e = unmade (subst (λ z. t.Made z) e m)

  within_ne : (a : ℕ) → t.Within a → a ≢ at
  within_ne a w e = outside (subst (λ z. t.Within z) e w)

  back : (a j b : ℕ) → a ≢ at → Points new a j b → Points old a j b
  back a j b ne e = ap target (sym ((g.memory.others a ne).slots j)) ∙ e

  on : (a j b : ℕ) → a ≢ at → Points old a j b → Points new a j b
  on a j b ne e = ap target ((g.memory.others a ne).slots j) ∙ e

  here : (a j b : ℕ) → a ≡ at → Points new a j b → (x : ℕ) × From x × Points old x j b
  here a j b e q = leads j b (ap target (sym (g.memory.here.slots j)) ∙ ap (λ y. target ((new.memory y).slot j)) (sym e) ∙ q)

  here_within : (a j b : ℕ) → a ≡ at → Points new a j b → t.Within b
  here_within a j b e q = let x = here a j b e q in tree.closed x.0 j b (from x.0 x.1).0 x.2

  nobody : (a j b : ℕ) → t.Made a → b ≡ at → Points old a j b → ⊥
  nobody a j b m e q = ⊎_elim (λ w. within_ne b w e) (λ k. made_ne b k e) (forest.leads a j b m q)

  was_stead : (b z : ℕ) → t.Made b → (given h at From).Instead b z → h.Instead b z
  was_stead b z m st = ⊎_elim (λ q. q.1) (λ q. absurd (made_ne b m q.0)) st

  was_copied : (b z : ℕ) → t.Made b → (given h at From).Copied b z → h.Copied b z
  was_copied b z m st = ⊎_elim (λ q. q.1) (λ q. absurd (made_ne b m q.0)) st

  under_on : (n w a : ℕ) → Under old t n w a → Under new (making t at) n w a
  under_on zero w a u = u
  under_on (suc n) w a u = (u.0, u.1, inl u.2, on u.0 u.1 a (made_ne u.0 u.2) u.3, under_on n w u.0 u.4)

  by_on : (a j z : ℕ) → t.Made a → ByCopy old t h a j z → ByCopy new (making t at) (given h at From) a j z
  by_on a j z m q = record { original = q.original; copied = inl (made_ne a m, q.copied); leads = on q.original j z (within_ne q.original (hand.copied a q.original m q.copied).0) q.leads }

  top_on : (a j z : ℕ) → t.Made a → ByTop t h a j z → ByTop (making t at) (given h at From) a j z
  top_on a j z m q = record { first = q.first; pointers = q.pointers; instead = inl (made_ne a m, q.instead); raised = λ o k. q.raised o (was_copied a o m k) }

  pub given_origins : HasOrigins new (making t at) (given h at From)
  given_origins = record {
    made = λ b q. ⊎_elim (λ a. inl (hand.made b a)) (λ e. inr e) q;
    unhung = λ b a j q m e. ⊎_elim
        (λ ma.
        let was = back a j b (made_ne a ma) e in
        ⊎_elim (λ y. hand.unhung b a j y ma was) (λ is. nobody a j b ma is was) q)
        (λ is.
        let w = here_within a j b is e in
        ⊎_elim (λ y. tree.apart b (hand.made b y) w) (λ k. within_ne b w k) q)
        m;
    hangs = λ a m. ⊎_elim
        (λ ma. let top = hand.hangs a ma in (top.0, top.1, inl top.2, under_on top.1 top.0 a top.3))
        (λ e. (at, 0, inr refl, e))
        m;
    copied = λ b x m k. ⊎_elim
        (λ q. ⊎_elim
        (λ mb. let f = hand.copied b x mb q.1 in (f.0, f.1, inl (q.0, f.2), f.3))
        (λ e. absurd (q.0 e))
        m)
        (λ q. let f = from x q.1 in (f.0, f.1, inr q, λ ptr. subst (λ z. t.Pointers z) (sym q.0) (f.2 ptr)))
        k;
    instead = λ b x m st. ⊎_elim (λ q. ⊎_elim (λ mb. hand.instead b x mb q.1) (λ e. absurd (q.0 e)) m) (λ q. (from x q.1).0) st;
    one = λ b x z m st su. ⊎_elim
        (λ q. ⊎_elim
        (λ r. ⊎_elim (λ mb. hand.one b x z mb q.1 r.1) (λ e. absurd (q.0 e)) m)
        (λ r. absurd (q.0 r.0))
        su)
        (λ q. ⊎_elim (λ r. absurd (r.0 q.0)) (λ r. from_one x z q.1 r.1) su)
        st;
    slots = λ a j b m e. ⊎_elim
        (λ ma. ⊎_elim
        (λ q. inl (q.0, ⊎_elim (λ k. inl (by_on a j b ma k)) (λ r. inr (top_on a j b ma r.0, r.1)) q.1))
        (λ q. inr (
          inl q.0,
          ⊎_elim
              (λ r. inl (r.0, inl (made_ne b q.0, r.1), ⊎_elim (λ k. inl (by_on a j r.0 ma k)) (λ k. inr (top_on a j r.0 ma k)) r.2))
              (λ none. inr (λ z st. none z (was_stead b z q.0 st)))
              q.1,
        ))
        (hand.slots a j b ma (back a j b (made_ne a ma) e)))
        (λ is.
        let x = here a j b is e in
        let f = from x.0 x.1 in
        inl (tree.closed x.0 j b f.0 x.2, inl (record { original = x.0; copied = inr (is, x.1); leads = on x.0 j b (within_ne x.0 f.0) x.2 })))
        m;
    head = λ d o j e z md me k q st up ptr. ⊎_elim
        (λ is. tree_made e me (here_within d j e is q))
        (λ ne. ⊎_elim
        (λ mb. ⊎_elim
        (λ mde. hand.head d o j e z mde mb (was_copied d o mde k) (back d j e ne q) (was_stead e z mb st) (λ x y. up x (inl (made_ne e mb, y))) ptr)
        (λ y. ne y)
        md)
        (λ y. ⊎_elim (λ mde. nobody d j e mde y (back d j e ne q)) (λ w. ne w) md)
        me)
        (cases_eq d at);
  }
    where
      tree_made : (e : ℕ) → t.Made e ⊎ (e ≡ at) → t.Within e → ⊥
      tree_made e m w = ⊎_elim (λ k. tree.apart e k w) (λ k. within_ne e w k) m

-- A MADE BLOCK IS PUT INTO
module _ {at i : ℕ} {s : Slot} {old new : Known} {t : Tree} {h : Origins} {Raises : ℕ → Type 0} (moves : Moves at i s old new) (f : Fills at i s old t h Raises) (tree : IsTree old t) (forest : IsForest old t) (hand : HasOrigins old t h) where
  ne_at : (a : ℕ) → t.Within a → a ≢ at
  ne_at a w e = tree.apart at f.made (subst (λ z. t.Within z) e w)

  case : (a j b : ℕ) → Points new a j b → ((a ≡ at) × (j ≡ i) × (target s ≡ Local b)) ⊎ Points old a j b
  case a j b e = ⊎_elim
      (λ q. inl (q.0, q.1, ap target (sym moves.here) ∙ ap (λ y. target ((new.memory y).slot i)) (sym q.0) ∙ ap (λ n. target ((new.memory a).slot n)) (sym q.1) ∙ e))
      (λ ne. inr (ap target (sym (moves.others a j ne)) ∙ e))
      (Rattle.fo_cells_out.proofs.Takeout.cell at i a j)

  -- slots that lead to made blocks stay
  stay : (a j b : ℕ) → Points old a j b → t.Made b → Points new a j b
  stay a j b e m = ⊎_elim
      (λ q. absurd (f.kept b (subst (λ n. Points old at n b) q.1 (subst (λ z. Points old z j b) q.0 e)) m))
      (λ ne. ap target (moves.others a j ne) ∙ e)
      (Rattle.fo_cells_out.proofs.Takeout.cell at i a j)

  now_here : (b : ℕ) → target s ≡ Local b → Points new at i b
  now_here b e = ap target moves.here ∙ e

  under_stay : (n w a : ℕ) → t.Made a → Under old t n w a → Under new t n w a
  under_stay zero w a m u = u
  under_stay (suc n) w a m u = (u.0, u.1, u.2, stay u.0 u.1 a u.3 m, under_stay n w u.0 u.2 u.4)

  join : (n m w b a : ℕ) → target s ≡ Local b → Under new t n b a → Under new t m w at → (l : ℕ) × Under new t l w a
  join zero m w b a e u v = (suc m, (at, i, f.made, now_here a (e ∙ ap (λ z. Local z) (sym u)), v))
  join (suc n) m w b a e u v = let more = join n m w b u.0 e u.4 v in (suc more.0, (u.0, u.1, u.2, u.3, more.1))

  aim : (q : Pointer) → ((b : ℕ) × (q ≡ Local b)) ⊎ ((b : ℕ) → q ≢ Local b)
  aim Nil = inr (λ b e. cc)
  aim (Local b) = inl (b, refl)
  aim (Held x) = inr (λ b e. cc)

  by_stay : (a j z : ℕ) → t.Made a → ByCopy old t h a j z → ByCopy new t (filled h at s Raises) a j z
  by_stay a j z m q = record { original = q.original; copied = q.copied; leads = ap target (moves.others q.original j (inl (ne_at q.original (hand.copied a q.original m q.copied).0))) ∙ q.leads }

  top_stay : (a j z : ℕ) → ByTop t h a j z → ByTop t (filled h at s Raises) a j z
  top_stay a j z q = record { first = q.first; pointers = q.pointers; instead = inl q.instead; raised = q.raised }

  -- nobody leads to what is raised
  unraised : (a j b z : ℕ) → t.Made a → Points old a j b → (b ≡ at) × Raises z → ⊥
  unraised a j b z m e q = hand.unhung at a j (f.raises z q.1).1 m (subst (λ v. Points old a j v) q.0 e)

  pub filled_origins : HasOrigins new t (filled h at s Raises)
  filled_origins = record {
    made = λ b q. hand.made b q.0;
    unhung = λ b a j q m e. ⊎_elim (λ n. q.1 n.2) (λ was. hand.unhung b a j q.0 m was) (case a j b e);
    hangs = λ a m.
        let top = hand.hangs a m in ⊎_elim
        (λ to. ⊎_elim
        (λ is.
        let up = hand.hangs at f.made in
        let ne : target s ≢ Local up.0 = λ e. f.falls up.0 up.1 e up.3 in
        let way = join top.1 up.1 up.0 top.0 a (to.1 ∙ ap (λ z. Local z) (sym is)) (under_stay top.1 top.0 a m top.3) (under_stay up.1 up.0 at f.made up.3) in
        (up.0, way.0, (up.2, ne), way.1))
        (λ ne. (top.0, top.1, (top.2, λ e. ne (same_block e to.1)), under_stay top.1 top.0 a m top.3))
        (cases_eq top.0 to.0))
        (λ none. (top.0, top.1, (top.2, none top.0), under_stay top.1 top.0 a m top.3))
        (aim (target s));
    copied = λ b x m k. let q = hand.copied b x m k in (q.0, q.1, inl q.2, q.3);
    instead = λ b x m st. ⊎_elim (λ q. hand.instead b x m q) (λ q. (f.raises x q.1).0) st;
    one = λ b x z m st su. ⊎_elim
        (λ q. ⊎_elim
        (λ r. hand.one b x z m q r)
        (λ r. absurd ((f.raises z r.1).3 x (subst (λ v. h.Instead v x) r.0 q)))
        su)
        (λ q. ⊎_elim
        (λ r. absurd ((f.raises x q.1).3 z (subst (λ v. h.Instead v z) q.0 r)))
        (λ r. f.raises_one x z q.1 r.1)
        su)
        st;
    slots = λ a j b m e. ⊎_elim
        (λ n. subst (λ v. MadeLeads new t (filled h at s Raises) v j b) (sym n.0) (subst (λ v. MadeLeads new t (filled h at s Raises) at v b) (sym n.1) (fresh b n.2)))
        (λ was. ⊎_elim
        (λ q. inl (q.0, ⊎_elim (λ k. inl (by_stay a j b m k)) (λ r. inr (top_stay a j b r.0, r.1)) q.1))
        (λ q. inr (
          q.0,
          ⊎_elim
              (λ r. inl (r.0, inl r.1, ⊎_elim (λ k. inl (by_stay a j r.0 m k)) (λ k. inr (top_stay a j r.0 k)) r.2))
              (λ none. inr (λ z st. ⊎_elim (λ y. none z y) (λ y. unraised a j b z m was y) st))
              q.1,
        ))
        (hand.slots a j b m was))
        (case a j b e);
    head = λ d o j e z md me k q st up ptr. ⊎_elim
        (λ n. ⊎_elim
        (λ y. f.head o e z n.2 (subst (λ v. h.Copied v o) n.0 k) y up ptr)
        (λ y. f.falls e 0 n.2 (sym y.0))
        st)
        (λ was. ⊎_elim
        (λ y. hand.head d o j e z md me k was y up ptr)
        (λ y. unraised d j e z md was y)
        st)
        (case d j e q);
  }
    where
      -- what is put hangs nowhere, and is not raised
      put_stead : (b z : ℕ) → target s ≡ Local b → (filled h at s Raises).Instead b z → h.Instead b z
      put_stead b z e st = ⊎_elim (λ q. q) (λ q. absurd (f.falls b 0 e (sym q.0))) st

      fresh : (b : ℕ) → target s ≡ Local b → MadeLeads new t (filled h at s Raises) at i b
      fresh b e = ⊎_elim
          (λ q. ⊎_elim
          (λ r. inl (r.0, inl (by_stay at i b f.made r.1)))
          (λ r. inr (hand.made b r.0, inl (r.1.0, inl r.1.1, inl (by_stay at i r.1.0 f.made r.1.2))))
          q)
          (λ q. ⊎_elim
          (λ r. inr (hand.made b r.0, inr (λ z st. r.1 z (put_stead b z e st))))
          (λ r. ⊎_elim
          (λ w. inl (w.0, inr (record { first = r.0; pointers = r.1; instead = inr (refl, w.2); raised = r.2 }, w.1)))
          (λ w. inr (hand.made b w.0, inl (w.1.0, inl w.1.1, inr (record { first = r.0; pointers = r.1; instead = inr (refl, w.1.2); raised = r.2 }))))
          r.3)
          q)
          (f.put b e)

-- NO SLOT OF MEMORY CHANGES: a write, a sync, the end of a wait, a label, other bytes; and a block is closed, or covered
pub still_origins : {old new : Known} {h : Origins} (t : Tree) (C : ℕ → Type 0) → Stays old new t → HasOrigins old t h → HasOrigins new (record t { Covered = C }) h
still_origins {old} {new} {h} t C k hand = record {
  made = hand.made;
  unhung = λ b a j q m e. hand.unhung b a j q m (back a j b e);
  hangs = λ a m. let top = hand.hangs a m in (top.0, top.1, top.2, under top.1 top.0 a top.3);
  copied = hand.copied;
  instead = hand.instead;
  one = hand.one;
  slots = λ a j b m e. ⊎_elim
      (λ q. inl (q.0, ⊎_elim (λ c. inl (by a j b c)) (λ r. inr (top a j b r.0, r.1)) q.1))
      (λ q. inr (q.0, ⊎_elim (λ r. inl (r.0, r.1, ⊎_elim (λ c. inl (by a j r.0 c)) (λ c. inr (top a j r.0 c)) r.2)) (λ none. inr none) q.1))
      (hand.slots a j b m (back a j b e));
  head = λ d o j e z md me c q st up ptr. hand.head d o j e z md me c (back d j e q) st up ptr;
}
  where
    back : (a j b : ℕ) → Points new a j b → Points old a j b
    back a j b e = ap target (sym (k.slots a j)) ∙ e

    under : (n w a : ℕ) → Under old t n w a → Under new (record t { Covered = C }) n w a
    under zero w a u = u
    under (suc n) w a u = (u.0, u.1, u.2, ap target (k.slots u.0 u.1) ∙ u.3, under n w u.0 u.4)

    by : (a j z : ℕ) → ByCopy old t h a j z → ByCopy new (record t { Covered = C }) h a j z
    by a j z q = record { original = q.original; copied = q.copied; leads = ap target (k.slots q.original j) ∙ q.leads }

    top : (a j z : ℕ) → ByTop t h a j z → ByTop (record t { Covered = C }) h a j z
    top a j z q = record { first = q.first; pointers = q.pointers; instead = q.instead; raised = q.raised }
