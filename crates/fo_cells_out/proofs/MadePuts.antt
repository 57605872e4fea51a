-- A put of a made block under `Comes` and `LeavesNone` is a `Replaces`, and the invariant on made blocks is kept.
use Rattle.std.proofs.Common.{◌≡◌, ◌≢◌, ◌⊎◌, inl, inr, ⊎_elim, ℕ, zero, suc, refl, sym, ◌∙◌, ap, subst}
use Rattle.fo_image.specs.declared.types.Pointer.TheVariants.{Local}
use Rattle.fo_crash.specs.declared.slot.Slot.{Slot}
use Rattle.fo_crash.specs.Images.{target}
use Rattle.fo_cells.specs.Known.{Known}
use Rattle.fo_cells_out.specs.Parents.{Tree, Points, Over, HoldsNow, IsTree, IsForest, Replaces}
use Rattle.fo_cells_out.specs.Origins.{Origins, Under, ByCopy, ByTop, HasOrigins, LinkedBy, SharedBy, OutAt, Out, Chain, PutsMade, CopyBy, GoneBy, TurnsBy, FromBy, Low, copied_tree}
use Rattle.fo_cells_out.proofs.Shapes.{turn_first, turn_next}
use Rattle.fo_cells_out.proofs.Takeout.{same_block, held_once}

-- WHO IS TO COME IN THE PLACE OF WHAT LEAVES
-- `O` leaves, and hangs from blocks that leave but for the slot of the current block `at`; then a made block that is to come in the
-- place of a block of O hangs from one that is apart and is to.
module _ {k : Known} {t : Tree} {h : Origins} (at i : ℕ) (O L : ℕ → Type 0) (tree : IsTree k t) (hand : HasOrigins k t h) (current : t.Older at → ⊥) (above : (a j b : ℕ) → O b → t.Within a → Points k a j b → ((a ≡ at) × (j ≡ i)) ⊎ O a) (next : (a j b : ℕ) → L a → Points k a j b → t.Made b → L b) (leaves : (w z : ℕ) → h.Apart w → h.Instead w z → O z → L w) where
  -- an older block from which what leaves hangs leaves
  old_above : (a j b : ℕ) → t.Within a → t.Older a → Points k a j b → O b → O a
  old_above a j b wa qa e o = ⊎_elim (λ q. absurd (current (subst (λ z. t.Older z) q.0 qa))) (λ up. up) (above a j b o wa e)

  pub stead_comes : (n c z w : ℕ) → h.Apart w → t.Made c → Under k t n w c → h.Instead c z → O z → L c
  stead_comes zero c z w ap m u st o = subst (λ v. L v) (sym u) (leaves w z ap (subst (λ v. h.Instead v z) u st) o)
  stead_comes (suc n) c z w ap m u st o =
      ⊎_elim
      (λ g. absurd (tree.apart c m g.0))
      (λ g. ⊎_elim
      (λ r.
      let is : r.0 ≡ z = hand.one c r.0 z m r.1 st in
      ⊎_elim
      (λ q.
      let from = hand.copied u.0 q.original u.2 q.copied in
      next u.0 u.1 c (stead_comes n u.0 q.original w ap u.2 u.4 from.2 (old_above q.original u.1 z from.0 from.1 (subst (λ v. Points k q.original u.1 v) is q.leads) o)) u.3 m)
      (λ q. next u.0 u.1 c (stead_comes n u.0 z w ap u.2 u.4 (subst (λ v. h.Instead u.0 v) is q.instead) o) u.3 m)
      r.2)
      (λ none. absurd (none z st))
      g.1)
      (hand.slots u.0 u.1 c u.2 u.3)

  -- so a made block leads to what leaves only where it comes with the put
  pub made_leads : (a j b : ℕ) → t.Made a → Points k a j b → t.Within b → O b → L a
  made_leads a j b m e w o =
      let top = hand.hangs a m in
      ⊎_elim
      (λ q. ⊎_elim
      (λ c.
      let from = hand.copied a c.original m c.copied in
      stead_comes top.1 a c.original top.0 top.2 m top.3 from.2 (old_above c.original j b from.0 from.1 c.leads o))
      (λ r. stead_comes top.1 a b top.0 top.2 m top.3 r.0.instead o)
      q.1)
      (λ q. absurd (tree.apart b q.0 w))
      (hand.slots a j b m e)

  pub stead_leaves : (a z : ℕ) → t.Made a → h.Instead a z → O z → L a
  stead_leaves a z m st o = let top = hand.hangs a m in stead_comes top.1 a z top.0 top.2 m top.3 st o

-- A MADE BLOCK COMES
module _ {at i : ℕ} {s : Slot} {old new : Known} {t : Tree} {h : Origins} {hd x y : ℕ} {Lost : ℕ → Type 0} (p : PutsMade at i s old new t h hd x y Lost) (tree : IsTree old t) (forest : IsForest old t) (hand : HasOrigins old t h) where
  abbrev L : ℕ → Type 0
  L b = LinkedBy old t y b

  abbrev C : ℕ → ℕ → Type 0
  C b c = CopyBy old t h y b c

  abbrev O : ℕ → Type 0
  O b = Out old t hd y b

  abbrev Sh : ℕ → Type 0
  Sh b = SharedBy old t y b

  abbrev Raised : ℕ → Type 0
  Raised a = (o : ℕ) → h.Copied a o → ⊥

  abbrev U : Tree
  U = copied_tree old t h hd y Lost

  hd_within : t.Within hd
  hd_within = tree.closed at i hd p.within p.points

  x_within : t.Within x
  x_within = ⊎_elim (λ e. subst (λ z. t.Within z) (sym e) hd_within) (λ q. tree.closed q.0.1.0 0 x q.0.1.1 q.0.1.3) p.from

  y_made : t.Made y
  y_made = hand.made y p.apart

  not_at : (b : ℕ) → t.Older b → b ≢ at
  not_at b q e = p.current (subst (λ z. t.Older z) e q)

  stead_of : (c o : ℕ) → t.Made c → h.Copied c o → h.Instead c o
  stead_of c o m k = (hand.copied c o m k).2

  linked_next : (a j b : ℕ) → L a → Points old a j b → t.Made b → L b
  linked_next a j b l e m = (m, (suc l.1.0, (a, j, l.0, e, l.1.1)))

  out_within : (n b : ℕ) → OutAt old t hd y n b → t.Within b
  out_within zero b o = subst (λ z. t.Within z) (sym o.0) hd_within
  out_within (suc n) b o = tree.closed o.0 o.1 b (out_within n o.0 o.2) o.3

  out_unshared : (n b : ℕ) → OutAt old t hd y n b → Sh b → ⊥
  out_unshared zero b o = o.1
  out_unshared (suc n) b o = o.4

  out_above : (n a j b : ℕ) → OutAt old t hd y n b → t.Within a → Points old a j b → ((a ≡ at) × (j ≡ i)) ⊎ O a
  out_above zero a j b o w e = inl (tree.one a at j i hd w p.within (subst (λ z. Points old a j z) o.0 e) p.points)
  out_above (suc n) a j b o w e = inr (n, subst (λ z. OutAt old t hd y n z) (sym (tree.one a o.0 j o.1 b w (out_within n o.0 o.2) e o.3).0) o.2)

  next_out : (a j b : ℕ) → O a → Points old a j b → (Sh b → ⊥) → O b
  next_out a j b o e un = (suc o.0, (a, j, o.1, e, un))

  by_copy : (a j z : ℕ) → ByCopy old t h a j z → (o : ℕ) × h.Copied a o × Points old o j z
  by_copy a j z w = (w.original, w.copied, w.leads)

  -- where a linked block leads into the tree its original does, or it was raised over that young block
  lead_within : (a j b : ℕ) → L a → Points old a j b → t.Within b → ((o : ℕ) × h.Copied a o × Points old o j b) ⊎ (ByTop t h a j b × (t.Older b → ⊥))
  lead_within a j b l e w = ⊎_elim
      (λ q. ⊎_elim (λ c. inl (by_copy a j b c)) (λ r. inr r) q.1)
      (λ q. absurd (tree.apart b q.0 w))
      (hand.slots a j b l.0 e)

  -- who leads to a made block that comes in the place of z
  lead_made : (a j b z : ℕ) → L a → t.Made b → Points old a j b → h.Instead b z → ((o : ℕ) × h.Copied a o × Points old o j z) ⊎ ByTop t h a j z
  lead_made a j b z l m e st = ⊎_elim
      (λ q. absurd (tree.apart b m q.0))
      (λ q. ⊎_elim
      (λ r.
      let is : r.0 ≡ z = hand.one b r.0 z m r.1 st in
      ⊎_elim
      (λ c. inl (by_copy a j z (subst (λ v. ByCopy old t h a j v) is c)))
      (λ c. inr (subst (λ v. ByTop t h a j v) is c))
      r.2)
      (λ none. absurd (none z st))
      q.1)
      (hand.slots a j b l.0 e)

  x_is : (z : ℕ) → h.Instead y z → z ≡ x
  x_is z k = hand.one y z x y_made k p.instead

  -- what the slot led to hangs from no older block
  hd_top : (a o j : ℕ) → t.Made a → h.Copied a o → Points old o j hd → ⊥
  hd_top a o j m k e =
      let c = hand.copied a o m k in
      not_at o c.1 (tree.one o at j i hd c.0 p.within e p.points).0

  -- x hangs from no block that has a linked copy
  x_top : (a o j : ℕ) → L a → h.Copied a o → Points old o j x → ⊥
  x_top a o j l k e =
      let c = hand.copied a o l.0 k in ⊎_elim
      (λ is. hd_top a o j l.0 k (subst (λ z. Points old o j z) is e))
      (λ q. q.0.1.2.1 a (l, subst (λ z. h.Copied a z) (tree.one o q.0.1.0 j 0 x c.0 q.0.1.1 e q.0.1.3).0 k))
      p.from

  -- CHAINS OF RAISED BLOCKS
  append : (n a c d : ℕ) → Chain old t h n a c → Raised c → t.Pointers c → t.Made d → Points old c 0 d → (m : ℕ) × Chain old t h m a d
  append zero a c d ch up q m e = (1, (subst (λ z. Raised z) ch up, subst (λ z. t.Pointers z) ch q, (d, m, subst (λ z. Points old z 0 d) ch e, refl)))
  append (suc n) a c d ch up q m e = let more = append n ch.2.0 c d ch.2.3 up q m e in (suc more.0, (ch.0, ch.1, (ch.2.0, ch.2.1, ch.2.2, more.1)))

  -- all that come in the place of x hang from y by such slots
  from_y : (n c : ℕ) → t.Made c → Under old t n y c → h.Instead c x → (m : ℕ) × Chain old t h m y c
  from_y zero c m u st = (0, u)
  from_y (suc n) c m u st =
      let l : L u.0 = (u.2, (n, u.4)) in
      ⊎_elim
      (λ o. absurd (x_top u.0 o.0 u.1 l o.1 o.2))
      (λ r.
      let up = from_y n u.0 u.2 u.4 r.instead in
      append up.0 y u.0 c up.1 r.raised r.pointers m (subst (λ j. Points old u.0 j c) r.first u.3))
      (lead_made u.0 u.1 c x l m u.3 st)

  -- two that come in the place of one block: one hangs from the other by such slots
  along : (a j c d : ℕ) → ByTop t h a j d → Points old a j c → t.Made c → (e z : ℕ) → ((n : ℕ) × Chain old t h n a e) ⊎ ((n : ℕ) × Chain old t h n e a) → ((n : ℕ) × Chain old t h n c e) ⊎ ((n : ℕ) × Chain old t h n e c)
  along a j c d r e m f z both = ⊎_elim
      (λ q. front q.0 q.1)
      (λ q. inr (append q.0 f a c q.1 r.raised r.pointers m here))
      both
    where
      here : Points old a 0 c
      here = subst (λ n. Points old a n c) r.first e

      front : (n : ℕ) → Chain old t h n a f → ((n : ℕ) × Chain old t h n c f) ⊎ ((n : ℕ) × Chain old t h n f c)
      front zero q = inr (append 0 f a c (sym q) r.raised r.pointers m here)
      front (suc n) q = inl (n, subst (λ v. Chain old t h n v f) (same_block q.2.2 here) q.2.3)

  swap : (c d : ℕ) → ((n : ℕ) × Chain old t h n c d) ⊎ ((n : ℕ) × Chain old t h n d c) → ((n : ℕ) × Chain old t h n d c) ⊎ ((n : ℕ) × Chain old t h n c d)
  swap c d both = ⊎_elim (λ q. inr q) (λ q. inl q) both

  copied_end : (n c d o : ℕ) → Chain old t h n c d → h.Copied c o → d ≡ c
  copied_end zero c d o ch k = ch
  copied_end (suc n) c d o ch k = absurd (ch.0 o k)

  compare : (n m c d z : ℕ) → t.Made c → t.Made d → Under old t n y c → Under old t m y d → h.Instead c z → h.Instead d z → ((l : ℕ) × Chain old t h l c d) ⊎ ((l : ℕ) × Chain old t h l d c)
  compare zero m c d z mc md u v kc kd =
      let is = x_is z (subst (λ w. h.Instead w z) u kc) in
      let ch = from_y m d md v (subst (λ w. h.Instead d w) is kd) in
      inl (ch.0, subst (λ w. Chain old t h ch.0 w d) (sym u) ch.1)
  compare (suc n) zero c d z mc md u v kc kd =
      let is = x_is z (subst (λ w. h.Instead w z) v kd) in
      let ch = from_y (suc n) c mc u (subst (λ w. h.Instead c w) is kc) in
      inr (ch.0, subst (λ w. Chain old t h ch.0 w c) (sym v) ch.1)
  compare (suc n) (suc m) c d z mc md u v kc kd = ⊎_elim
      (λ a. ⊎_elim
      (λ b.
      let same = tree.one a.0 b.0 u.1 v.1 z (hand.copied u.0 a.0 u.2 a.1).0 (hand.copied v.0 b.0 v.2 b.1).0 a.2 b.2 in
      let kv : h.Copied v.0 a.0 = subst (λ w. h.Copied v.0 w) (sym same.0) b.1 in
      let is : v.0 ≡ u.0 = ⊎_elim
      (λ q. copied_end q.0 u.0 v.0 a.0 q.1 a.1)
      (λ q. sym (copied_end q.0 v.0 u.0 a.0 q.1 kv))
      (compare n m u.0 v.0 a.0 u.2 v.2 u.4 v.4 (stead_of u.0 a.0 u.2 a.1) (stead_of v.0 a.0 v.2 kv)) in
      inl (0, same_block (subst (λ w. Points old w u.1 d) is (subst (λ j. Points old v.0 j d) (sym same.1) v.3)) u.3))
      (λ r. swap d c (along v.0 v.1 d z r v.3 md c z (swap c v.0 (compare (suc n) m c v.0 z mc v.2 u v.4 kc r.instead))))
      (lead_made v.0 v.1 d z (v.2, (m, v.4)) md v.3 kd))
      (λ r. along u.0 u.1 c z r u.3 mc d z (compare n (suc m) u.0 d z u.2 md u.4 v r.instead kd))
      (lead_made u.0 u.1 c z (u.2, (n, u.4)) mc u.3 kc)

  one_copy : (c d o : ℕ) → L c → L d → h.Copied c o → h.Copied d o → c ≡ d
  one_copy c d o l m k q = ⊎_elim
      (λ ch. sym (copied_end ch.0 c d o ch.1 k))
      (λ ch. copied_end ch.0 d c o ch.1 q)
      (compare l.1.0 m.1.0 c d o l.0 m.0 l.1.1 m.1.1 (stead_of c o l.0 k) (stead_of d o m.0 q))

  -- what is older and has a linked block in its place leaves
  old_unshared : (d o j b e : ℕ) → L d → h.Copied d o → Points old o j b → Points old d j e → t.Made e → t.Older b → Sh b → ⊥
  old_unshared d o j b e l k is to me q sh =
      let c = hand.copied d o l.0 k in
      let w : t.Within b = tree.closed o j b c.0 is in ⊎_elim
      (λ r.
      let same = tree.one r.0 o sh.1 j b (hand.copied sh.0 r.0 sh.2.0 r.1).0 c.0 r.2 is in
      let one = one_copy sh.0 d o sh.2 l (subst (λ z. h.Copied sh.0 z) same.0 r.1) k in
      tree.apart e me (subst (λ z. t.Within z) (same_block (subst (λ z. Points old z j b) one (subst (λ v. Points old sh.0 v b) same.1 sh.3)) to) w))
      (λ r. r.1 q)
      (lead_within sh.0 sh.1 b sh.2 sh.3 w)

  stead_out : (n c b : ℕ) → t.Made c → Under old t n y c → h.Instead c b → t.Older b → O b
  stead_out zero c b m u st q =
      let is = x_is b (subst (λ z. h.Instead z b) u st) in
      let un : Sh b → ⊥ = λ sh. ⊎_elim
      (λ r. x_top sh.0 r.0 sh.1 sh.2 r.1 (subst (λ z. Points old r.0 sh.1 z) is r.2))
      (λ r. r.1 q)
      (lead_within sh.0 sh.1 b sh.2 sh.3 (subst (λ z. t.Within z) (sym is) x_within)) in ⊎_elim
      (λ e. (0, (is ∙ e, un)))
      (λ k. next_out k.0.1.0 0 b k.0.1.2.0 (subst (λ z. Points old k.0.1.0 0 z) (sym is) k.0.1.3) un)
      p.from
  stead_out (suc n) c b m u st q =
      let l : L u.0 = (u.2, (n, u.4)) in
      ⊎_elim
      (λ o.
      let from = hand.copied u.0 o.0 u.2 o.1 in
      next_out o.0 u.1 b (stead_out n u.0 o.0 u.2 u.4 from.2 from.1) o.2 (old_unshared u.0 o.0 u.1 b c l o.1 o.2 u.3 m q))
      (λ r. stead_out n u.0 b u.2 u.4 r.instead q)
      (lead_made u.0 u.1 c b l m u.3 st)

  out_of : (b c : ℕ) → C b c → O b
  out_of b c k = let q = hand.copied c b k.0.0 k.1 in stead_out k.0.1.0 c b k.0.0 k.0.1.1 q.2 q.1

  gone_out : (b : ℕ) → O b → U.Within b → ⊥
  gone_out b o v = ⊎_elim (λ q. q.1 o) (λ l. tree.apart b l.0 (out_within o.0 b o.1)) v

  linked_other : (a : ℕ) → t.Made a → a ≢ at
  linked_other a m e = tree.apart a m (subst (λ z. t.Within z) (sym e) p.within)

  made_new : (a j b : ℕ) → t.Made a → Points old a j b → Points new a j b
  made_new a j b m e = ap target (p.moves.others a j (inl (linked_other a m))) ∙ e

  made_old : (a j b : ℕ) → t.Made a → Points new a j b → Points old a j b
  made_old a j b m e = ap target (sym (p.moves.others a j (inl (linked_other a m)))) ∙ e

  is_linked : (a : ℕ) → t.Made a → U.Within a → L a
  is_linked a m v = ⊎_elim (λ q. absurd (tree.apart a m q.0)) (λ l. l) v

  -- WHERE A SOURCE TURNS
  -- what has a linked block in its place hung from the slot that is put, or from a block whose copy is linked
  holder : (n r b : ℕ) → t.Made r → Under old t n y r → h.Instead r b → Raised r → (b ≡ x) ⊎ ((d : ℕ) × (o : ℕ) × (j : ℕ) × (e : ℕ) × C o d × Points old o j b × Points old d j e × t.Made e × (t.Pointers o → ⊥))
  holder zero r b m u st up = inl (x_is b (subst (λ z. h.Instead z b) u st))
  holder (suc n) r b m u st up =
      let l : L u.0 = (u.2, (n, u.4)) in
      ⊎_elim
      (λ o. inr (u.0, o.0, u.1, r, (l, o.1), o.2, u.3, m, hand.head u.0 o.0 u.1 r b u.2 m o.1 u.3 st up))
      (λ q. holder n u.0 b u.2 u.4 q.instead q.raised)
      (lead_made u.0 u.1 r b l m u.3 st)

  y_raised : (n r : ℕ) → Chain old t h n y r → Raised r → Raised y
  y_raised zero r ch up = subst (λ z. Raised z) ch up
  y_raised (suc n) r ch up = ch.0

  chain_over : (n l g a c : ℕ) → L a → Chain old t h n a c → Over new U l g a → (m : ℕ) × Over new U m g c
  chain_over zero l g a c la ch o = (l, subst (λ z. Over new U l g z) (sym ch) o)
  chain_over (suc n) l g a c la ch o =
      let ld = linked_next a 0 ch.2.0 la ch.2.2 ch.2.1 in
      chain_over n (suc l) g ch.2.0 c ld ch.2.3 (a, inr la, ch.1, made_new a 0 ch.2.0 la.0 ch.2.2, o)

  at_y : Points new at i y
  at_y = ap target p.moves.here ∙ p.put

  y_linked : L y
  y_linked = (y_made, (0, refl))

  -- who hangs from y by raised blocks hangs so from the block put into
  over_at : (c : ℕ) → L c → h.Instead c x → (m : ℕ) × Over new U m at c
  over_at c l st = let ch = from_y l.1.0 c l.0 l.1.1 st in chain_over ch.0 0 at y c y_linked ch.1 (i, at_y)

  -- who held a level that goes is `at`, or leaves
  held_low : (t.Pointers at → ⊥) → (n c : ℕ) → Low old t h at i hd y n c → (m a : ℕ) → t.Within a → Over old t m a c → (a ≡ at) ⊎ (U.Within a → ⊥)
  held_low np zero c l m a w o = turn_first U tree (record { within = p.within; points = l; head = λ q _. np q }) m a w o
  held_low np (suc n) c l m a w o = turn_next U tree l.1 l.3 (λ v. gone_out l.0 l.2.0 v) (λ k d v q. held_low np n l.0 l.4 k d v q) m a w o

  held_x : (t.Pointers at → ⊥) → (m a : ℕ) → t.Within a → Over old t m a x → (a ≡ at) ⊎ (U.Within a → ⊥)
  held_x np m a w o = ⊎_elim
      (λ e. held_low np 0 hd p.points m a w (subst (λ z. Over old t m a z) e o))
      (λ q. held_low np (suc q.0.0) x q.0.1 m a w o)
      p.from

  at_x : (b c : ℕ) → b ≡ x → (t.Pointers at → ⊥) → ((b ≡ c) × U.Within b) ⊎ C b c → (n a : ℕ) → t.Within a → U.Within a → Over old t n a b → HoldsNow new U n a c
  at_x b c is np place n a w v o = ⊎_elim
      (λ g. ⊎_elim
      (λ same.
      let bw : t.Within b = subst (λ z. t.Within z) (sym is) x_within in
      ⊎_elim
      (λ q. ⊎_elim
      (λ sh. ⊎_elim
      (λ k. absurd (x_top sh.0 k.0 sh.1 sh.2 k.1 (subst (λ z. Points old k.0 sh.1 z) is k.2)))
      (λ top.
      let more = over_at sh.0 sh.2 (subst (λ z. h.Instead sh.0 z) is top.0.instead) in
      record {
        levels = suc more.0;
        over = subst (λ z. Over new U (suc more.0) z c) (sym g) (sh.0, inr sh.2, top.0.pointers, subst (λ z. Points new sh.0 0 z) same.0 (made_new sh.0 0 b sh.2.0 (subst (λ j. Points old sh.0 j b) top.0.first sh.3)), more.1);
        same = λ _ older. absurd (top.1 (subst (λ z. t.Older z) (sym same.0) older));
      })
      (lead_within sh.0 sh.1 b sh.2 sh.3 bw))
      (λ un. absurd (q.1 (x_out b is un)))
      (p.shared b))
      (λ l. absurd (tree.apart b l.0 bw))
      same.1)
      (λ k.
      let more = over_at c k.0 (subst (λ z. h.Instead c z) is (stead_of c b k.0.0 k.1)) in
      record {
        levels = more.0;
        over = subst (λ z. Over new U more.0 z c) (sym g) more.1;
        same = λ _ older. absurd (forest.young c k.0.0 older);
      })
      place)
      (λ out. absurd (out v))
      (held_x np n a w (subst (λ z. Over old t n a z) is o))
    where
      x_out : (b : ℕ) → b ≡ x → (Sh b → ⊥) → O b
      x_out b is un = ⊎_elim
          (λ e. (0, (is ∙ e, un)))
          (λ k. next_out k.0.1.0 0 b k.0.1.2.0 (subst (λ z. Points old k.0.1.0 0 z) (sym is) k.0.1.3) un)
          p.from

  turned : (b c : ℕ) → TurnsBy old t h at i hd x y b → ((b ≡ c) × U.Within b) ⊎ C b c → (n a : ℕ) → t.Within a → U.Within a → Over old t n a b → HoldsNow new U n a c
  turned b c turn place n a w v o = ⊎_elim
      (λ lv. at_x b c lv.0 lv.1.1 place n a w v o)
      (λ r. ⊎_elim
      (λ is.
      let ch = from_y r.1.1.0 r.0 r.1.0 r.1.1.1 (subst (λ z. h.Instead r.0 z) is r.2) in
      at_x b c is (p.head (y_raised ch.0 r.0 ch.1 r.3)) place n a w v o)
      (λ q.
      let from = hand.copied q.0 q.1 q.4.0.0 q.4.1 in
      let g : a ≡ q.1 = held_once tree (record { within = from.0; points = q.5; head = λ ptr _. q.8 ptr }) n a w o in
      absurd (gone_out q.1 (out_of q.1 q.0 q.4) (subst (λ z. U.Within z) g v)))
      (holder r.1.1.0 r.0 b r.1.0 r.1.1.1 r.2 r.3))
      turn

  par_x : (q j b : ℕ) → b ≡ x → t.Within q → Points old q j b → ((q ≡ at) × (j ≡ i)) ⊎ (GoneBy old t h hd y q ⊎ ((d : ℕ) × C q d × (Points new d j b → ⊥)))
  par_x q j b is w e = ⊎_elim
      (λ k. inl (tree.one q at j i hd w p.within (subst (λ z. Points old q j z) (is ∙ k) e) p.points))
      (λ k. inr (inl (subst (λ z. GoneBy old t h hd y z) (sym (tree.one q k.0.1.0 j 0 x w k.0.1.1 (subst (λ z. Points old q j z) is e) k.0.1.3).0) k.0.1.2)))
      p.from

  above_out : (a j b : ℕ) → O b → t.Within a → Points old a j b → ((a ≡ at) × (j ≡ i)) ⊎ O a
  above_out a j b o w e = out_above o.0 a j b o.1 w e

  from_one : (b a c j l : ℕ) → FromBy old t h y b a j → FromBy old t h y b c l → t.Within b → (a ≡ c) × (j ≡ l)
  from_one b a c j l f g w = ⊎_elim
      (λ ch. (sym (chain_end ch.0 a c ch.1 f), f.3 ∙ sym g.3))
      (λ ch. (chain_end ch.0 c a ch.1 g, f.3 ∙ sym g.3))
      (compare f.0.1.0 g.0.1.0 a c b f.0.0 g.0.0 f.0.1.1 g.0.1.1 f.1 g.1)
    where
      -- a raised block that leads into the tree is the last one
      chain_end : (n a c : ℕ) → {k : ℕ} → Chain old t h n a c → FromBy old t h y b a k → c ≡ a
      chain_end zero a c ch q = ch
      chain_end (suc n) a c ch q = absurd (tree.apart ch.2.0 ch.2.1 (subst (λ z. t.Within z) (same_block q.4 ch.2.2) w))

  pub made_replaces : Replaces at i s old new t U C (GoneBy old t h hd y) Lost (λ b. TurnsBy old t h at i hd x y b) (λ b a j. FromBy old t h y b a j × t.Within b)
  made_replaces = record {
    moves = p.moves;
    within = p.within;
    current = p.current;
    stays = inl (p.within, p.falls);
    parts = λ b w. ⊎_elim
        (λ o. ⊎_elim (λ c. inr (inl c)) (λ none. inr (inr (o, none))) (p.has_copy b))
        (λ nl. inl (inl (w, nl)))
        (p.out b w);
    was = λ b v. ⊎_elim (λ q. inl q.0) (λ l. inr l.0) v;
    copied = λ b c k.
        let q = hand.copied c b k.0.0 k.1 in
        (q.0, q.1, λ v. gone_out b (out_of b c k) v, k.0.0, inr k.0, q.3);
    copy_one = λ b c d k q. one_copy c d b k.0 q.0 k.1 q.1;
    hangs = λ a j b c k w e. hang k.0.1.0 a j b c k w e k.0.1.1;
    shared = λ a d j b k e v.
        let q = hand.copied d a k.0.0 k.1 in
        let w : t.Within b = tree.closed a j b q.0 e in ⊎_elim
        (λ n. ⊎_elim
        (λ r. ⊎_elim
        (λ o.
        let same = tree.one o.0 a r.1 j b (hand.copied r.0 o.0 r.2.0 o.1).0 q.0 o.2 e in
        let is = one_copy r.0 d a r.2 k.0 (subst (λ z. h.Copied r.0 z) same.0 o.1) k.1 in
        inr (made_new d j b k.0.0 (subst (λ z. Points old z j b) is (subst (λ l. Points old r.0 l b) same.1 r.3))))
        (λ top. inl (inr (r.0, r.2, top.0.instead, top.0.raised)))
        (lead_within r.0 r.1 b r.2 r.3 w))
        (λ un. absurd (n.1 (next_out a j b (out_of a d k) e un)))
        (p.shared b))
        (λ l. absurd (tree.apart b l.0 w))
        v;
    slot_was = λ b e v.
        let is : b ≡ hd = same_block e p.points in ⊎_elim
        (λ r. ⊎_elim
        (λ o. absurd (hd_top r.0 o.0 r.1 r.2.0 o.1 (subst (λ z. Points old o.0 r.1 z) is o.2)))
        (λ top. inr (r.0, r.2, top.0.instead, top.0.raised))
        (lead_within r.0 r.1 b r.2 r.3 (subst (λ z. t.Within z) (sym is) hd_within)))
        (λ un. absurd (gone_out b (0, (is, un)) v))
        (p.shared b);
    gone = λ b g. (λ v. gone_out b g.0 v, g.1, out_within g.0.0 b g.0.1);
    gone_below = λ a j b g e.
        let w = out_within g.0.0 a g.0.1 in ⊎_elim
        (λ r. ⊎_elim
        (λ o.
        let same = tree.one o.0 a r.1 j b (hand.copied r.0 o.0 r.2.0 o.1).0 w o.2 e in
        absurd (g.1 r.0 (r.2, subst (λ z. h.Copied r.0 z) same.0 o.1)))
        (λ top. inr (inr (r.0, r.2, top.0.instead, top.0.raised)))
        (lead_within r.0 r.1 b r.2 r.3 (tree.closed a j b w e)))
        (λ un. ⊎_elim
        (λ k. ⊎_elim
        (λ top. inr top)
        (λ q. ⊎_elim
        (λ here. absurd (p.falls (subst (λ z. O z) here.0 g.0)))
        (λ d. absurd (g.1 d.0 d.1))
        q)
        (hang k.1.0.1.0 a j b k.0 k.1 w e k.1.0.1.1))
        (λ none. inl (next_out a j b g.0 e un, none))
        (p.has_copy b))
        (p.shared b);
    gone_above = λ a j b g w e. ⊎_elim
        (λ here. inr (inr here))
        (λ up. ⊎_elim (λ c. inr (inl c)) (λ none. inl (up, none)) (p.has_copy a))
        (above_out a j b g.0 w e);
    gone_copy = λ a d j b g k e now. out_unshared g.0.0 b g.0.1 (d, j, k.0, made_old d j b k.0.0 now);
    lost = λ b g. ⊎_elim (λ l. inr l) (λ nl. inl (inr (inr (g, nl)))) (p.lost b);
    lost_below = p.lost_below;
    lost_out = λ b l v. gone_out b (p.lost_out b l) v;
    turns = λ b c r q n a w v o. turned b c r q n a w v o;
    parent = λ q j b turn wb wq e. ⊎_elim
        (λ lv. par_x q j b lv.0 wq e)
        (λ r. ⊎_elim
        (λ is. par_x q j b is wq e)
        (λ k.
        let same = tree.one k.1 q k.2 j b (hand.copied k.0 k.1 k.4.0.0 k.4.1).0 wq k.5 e in
        inr (inr (
          k.0,
          subst (λ z. C z k.0) same.0 k.4,
          λ now.
              tree.apart k.3 k.7 (subst (λ z. t.Within z) (same_block (made_old k.0 j b k.4.0.0 now) (subst (λ l. Points old k.0 l k.3) same.1 k.6)) wb),
        )))
        (holder r.1.1.0 r.0 b r.1.0 r.1.1.1 r.2 r.3))
        turn;
    from_one = λ b a c j l f g. from_one b a c j l f.0 g.0 f.1;
    brings = λ a j b m v e w.
        let l = is_linked a m v in ⊎_elim
        (λ o. inl (o.0, (l, o.1), o.2))
        (λ top. inr (
          inr (a, l, top.0.instead, top.0.raised),
          inl (w, λ o. out_unshared o.0 b o.1 (a, j, l, e)),
          ((l, top.0.instead, top.0.raised, top.0.first, subst (λ n. Points old a n b) top.0.first e), w),
        ))
        (lead_within a j b l e w);
    put = λ b e.
        let is : b ≡ y = same_block e p.put in
        (inr (subst (λ z. L z) (sym is) y_linked), inr (subst (λ z. t.Made z) (sym is) y_made, λ a j m q. hand.unhung y a j p.apart m (subst (λ z. Points old a j z) is q)));
    links = λ a j b m v e mb. inr (linked_next a j b (is_linked a m v) e mb);
    made = λ b m. m.0;
    linked = λ b m. ⊎_elim (λ l. inl (inr l)) (λ nl. inr (m, nl)) (p.linked b m);
    apart = λ b m v. m.1 (is_linked b m.0 v);
    covered = λ b c. ⊎_elim (λ was. inl was) (λ r. inr (⊎_elim (λ k. inl k) (λ g. inr g.0) r)) c;
    cover = λ b c. ⊎_elim (λ was. inl was) (λ k. inr (inl k)) c;
    pointers = λ b q. q;
    older = λ b q. q;
    still = λ b q. q;
    free = λ a j b m e out w. ⊎_elim (λ o. m.1 (made_leads at i O L tree hand p.current above_out linked_next p.leaves a j b m.0 e w o)) (λ nl. out (inl (w, nl))) (p.out b w);
  }
    where
      hang : (n a j b c : ℕ) → C b c → t.Within a → Points old a j b → Under old t n y c → TurnsBy old t h at i hd x y b ⊎ (((a ≡ at) × (j ≡ i) × Points new a j c) ⊎ ((d : ℕ) × C a d × Points new d j c))
      hang zero a j b c k w e u =
          let is : b ≡ x = x_is b (subst (λ z. h.Instead z b) u (stead_of c b k.0.0 k.1)) in
          ⊎_elim
          (λ q.
          let same = tree.one a at j i hd w p.within (subst (λ z. Points old a j z) (is ∙ q) e) p.points in
          inr (inl (same.0, same.1, ap (λ z. target ((new.memory z).slot j)) same.0 ∙ ap (λ n. target ((new.memory at).slot n)) same.1 ∙ at_y ∙ ap (λ z. Local z) (sym u))))
          (λ lv. inl (inl (is, lv)))
          p.from
      hang (suc n) a j b c k w e u =
          let l : L u.0 = (u.2, (n, u.4)) in ⊎_elim
          (λ up.
          let same = tree.one up.0 a u.1 j b (hand.copied u.0 up.0 u.2 up.1).0 w up.2 e in
          inr (inr (u.0, (l, subst (λ z. h.Copied u.0 z) same.0 up.1), made_new u.0 j c u.2 (subst (λ m. Points old u.0 m c) same.1 u.3))))
          (λ top. inl (inr (u.0, l, top.instead, top.raised)))
          (lead_made u.0 u.1 c b l k.0.0 u.3 (stead_of c b k.0.0 k.1))

  -- THE INVARIANT AFTER IT
  -- what an unlinked block has its place from stays
  stead_stays : (a z : ℕ) → t.Made a → (L a → ⊥) → h.Instead a z → U.Within z
  stead_stays a z m nl st = ⊎_elim
      (λ o. absurd (nl (stead_leaves at i O L tree hand p.current above_out linked_next p.leaves a z m st o)))
      (λ out. inl (hand.instead a z m st, out))
      (p.out z (hand.instead a z m st))

  -- a made block that hangs from an unlinked one is unlinked
  unlinked_below : (n a j b : ℕ) → t.Made a → (L a → ⊥) → Points old a j b → t.Made b → Under old t n y b → ⊥
  unlinked_below zero a j b m nl e mb u = hand.unhung y a j p.apart m (subst (λ z. Points old a j z) u e)
  unlinked_below (suc n) a j b m nl e mb u = nl (subst (λ z. L z) (forest.one u.0 a u.1 j b u.2 m mb u.3 e).0 (u.2, (n, u.4)))

  leads_after : (o j z : ℕ) → t.Older o → Points old o j z → Points new o j z
  leads_after o j z q e = ap target (p.moves.others o j (inl (not_at o q))) ∙ e

  -- y is apart no more
  abbrev after_put : Origins
  after_put = record { Apart = λ b. h.Apart b × (b ≢ y); Copied = h.Copied; Instead = h.Instead }

  pub made_origins : HasOrigins new U after_put
  made_origins = record {
    made = λ b q. (hand.made b q.0, λ l. apart_linked l.1.0 b q.0 q.1 l.1.1);
    unhung = λ b a j q m e. hand.unhung b a j q.0 m.0 (made_old a j b m.0 e);
    hangs = λ a m. let top = hand.hangs a m.0 in (top.0, top.1, (top.2, λ e. m.1 (m.0, (top.1, subst (λ z. Under old t top.1 z a) e top.3))), under_after top.1 top.0 a m.0 m.1 top.3);
    copied = λ b z m k.
        let q = hand.copied b z m.0 k in
        (stead_stays b z m.0 m.1 q.2, q.1, q.2, q.3);
    instead = λ b z m st. stead_stays b z m.0 m.1 st;
    one = λ b z v m st su. hand.one b z v m.0 st su;
    slots = λ a j b m e.
        let was = made_old a j b m.0 e in ⊎_elim
        (λ q. inl (stays a j b m was q.0, ⊎_elim (λ c. inl (by_after a j b m c)) (λ r. inr (top_after a j b r.0, r.1)) q.1))
        (λ q. inr (
          (q.0, λ l. unlinked_below l.1.0 a j b m.0 m.1 was q.0 l.1.1),
          ⊎_elim
              (λ r. inl (r.0, r.1, ⊎_elim (λ c. inl (by_after a j r.0 m c)) (λ c. inr (top_after a j r.0 c)) r.2))
              (λ none. inr none)
              q.1,
        ))
        (hand.slots a j b m.0 was);
    head = λ d o j e z md me k q st up ptr. hand.head d o j e z md.0 me.0 k (made_old d j e md.0 q) st up ptr;
  }
    where
      apart_linked : (n b : ℕ) → h.Apart b → b ≢ y → Under old t n y b → ⊥
      apart_linked zero b q ne u = ne u
      apart_linked (suc n) b q ne u = hand.unhung b u.0 u.1 q u.2 u.3

      under_after : (n w a : ℕ) → t.Made a → (L a → ⊥) → Under old t n w a → Under new U n w a
      under_after zero w a m nl u = u
      under_after (suc n) w a m nl u =
          let up : L u.0 → ⊥ = λ l. nl (linked_next u.0 u.1 a l u.3 m) in
          (u.0, u.1, (u.2, up), made_new u.0 u.1 a u.2 u.3, under_after n w u.0 u.2 up u.4)

      stays : (a j b : ℕ) → t.Made a × (L a → ⊥) → Points old a j b → t.Within b → U.Within b
      stays a j b m e w = ⊎_elim (λ o. absurd (made_replaces.free a j b m e (λ v. gone_out b o v) w)) (λ nl. inl (w, nl)) (p.out b w)

      by_after : (a j z : ℕ) → t.Made a × (L a → ⊥) → ByCopy old t h a j z → ByCopy new U after_put a j z
      by_after a j z m c =
          let k = hand.copied a c.original m.0 c.copied in
          record { original = c.original; copied = c.copied; leads = leads_after c.original j z k.1 c.leads }

      top_after : (a j z : ℕ) → ByTop t h a j z → ByTop U after_put a j z
      top_after a j z r = record { first = r.first; pointers = r.pointers; instead = r.instead; raised = r.raised }
