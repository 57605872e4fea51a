-- What a source has once what stood behind a way was cleared.
use Rattle.std.proofs.Common.{◌≡◌, ◌≢◌, ◌⊎◌, ◌+◌, ◌-◌, ◌*◌, ◌/◌, ◌%◌, ◌^◌, ◌<◌, ℕ, zero, suc, List, inl, inr, ⊎_elim, refl, sym, ◌∙◌, ap, subst, arith}
use Rattle.std.proofs.Math.Nat.{pow-succ'}
use Rattle.fo_image.specs.declared.types.Kind.{Kind}
use Rattle.fo_image.specs.declared.types.Label.{Label}
use Rattle.fo_image.specs.declared.types.Score.{Score}
use Rattle.fo_image.specs.declared.types.Pointer.{Pointer}
use Rattle.fo_image.specs.declared.types.Pointer.TheVariants.{Nil, Local, Score as Held}
use Rattle.fo_image.specs.Format.{kind_code}
use Rattle.fo_crash.specs.declared.slot.Slot.{Slot}
use Rattle.fo_crash.specs.Images.{Image, Reaches, target, to_block}
use Rattle.fo_crash.specs.Steps.{AllAre}
use Rattle.fo_crash.specs.Places.{place}
use Rattle.fo_crash.proofs.Reach.{reaches_joins}
use Rattle.fo_ports.specs.State.{State, IsRooted}
use Rattle.fo_ports.specs.Sources.{IsHung, ComesFor}
use Rattle.fo_tree_read.proofs.of_looks.Looks.{rooted_of_apart}
use Rattle.fo_tree_read.specs.declared.tree.Tree.{Tree}
use Rattle.fo_tree_read.specs.Tree.{kind_at, kind_down, score_in, below, block_at}
use Rattle.fo_tree_look.specs.declared.ways.Kept.{Kept}
use Rattle.fo_tree_look.specs.Source.{HasBlock, IsTold, Over, Prepared}
use Rattle.fo_tree_look.proofs.Shown.{held_on}
use Rattle.fo_tree_down.proofs.Next.{local_seen}
use Rattle.fo_tree_trim.specs.Cut.{CutSlot, HangsFrom, Cuts, MayCut}
use Rattle.fo_tree_trim.specs.Trim.{LeavesStay, Shows}
use Rattle.fo_tree_trim.proofs.Past.{Said, one_index, own_low}
use Rattle.fo_tree_trim.proofs.Along.{Aside, any_ready, clear_end}
use Rattle.fo_tree_trim.proofs.Removing.{hangs_below, hangs_past}
use Rattle.fo_tree_trim.proofs.Uncut.{uncut_leaves}

abbrev pub index_of : ℕ → ℕ → ℕ
index_of zero j = 0
index_of (suc m) j = 409 * index_of m (j / 409) + j % 409

pub index_room : (m j : ℕ) → index_of m j < 409 ^ m
index_room zero j = omega arith
index_room (suc m) j =
    let more : 409 ^ suc m ≡ 409 * 409 ^ m = pow-succ' 409 m in
    less (index_of m (j / 409)) (j % 409) (409 ^ m) (409 ^ suc m) (index_room m (j / 409)) (omega arith) more
  where
    less : (a r p q : ℕ) → a < p → r < 409 → q ≡ 409 * p → 409 * a + r < q
    less a r p q lt few is = omega (arith, lt, few, is)

pub index_same : (s : State) (t : Tree) (m j : ℕ) → block_at s t m (index_of m j) ≡ block_at s t m j
index_same s t zero j = refl
index_same s t (suc m) j =
    let up : (409 * index_of m (j / 409) + j % 409) / 409 ≡ index_of m (j / 409) = omega arith in
    let rest : (409 * index_of m (j / 409) + j % 409) % 409 ≡ j % 409 = omega arith in
    ap (λ y. below s (kind_down t m) (block_at s t m y) ((409 * index_of m (j / 409) + j % 409) % 409)) up
    ∙ ap (λ y. below s (kind_down t m) (block_at s t m (index_of m (j / 409))) y) rest
    ∙ ap (λ (p : Pointer). below s (kind_down t m) p (j % 409)) (index_same s t m (j / 409))

nil_local : (b : ℕ) → Nil ≢ Local b
nil_local b e = cc

nil_held : (score : Score) → Nil ≢ Held score
nil_held score e = cc

-- What stood behind the way to the last leaf was cleared.
pub record Trims (s u : State) (t : Tree) (kept : List Kept) (last : ℕ) : Type 0 where
  pub aside : Aside s u t kept last (409 * t.depth)
  pub few : last < 409 ^ t.depth
  pub said : s.tells → Said s t last
  pub may : s.tells → MayCut s t last

module _ {s u : State} {t : Tree} {kept : List Kept} {last : ℕ} (x : Trims s u t kept last) where
  abbrev cut : ℕ → ℕ → Type 0
  cut = CutSlot s t last (409 * t.depth)

  cuts : Cuts (CutSlot s t last (409 * t.depth)) s u
  cuts = x.aside.cuts

  -- ---- a block is as it was, or there is none

  below_less : (kind : Kind) (p : Pointer) (i : ℕ) → (below u kind p i ≡ below s kind p i) ⊎ (below u kind p i ≡ Nil)
  below_less kind Nil i = inl refl
  below_less kind (Local a) i = ⊎_elim (λ same. inl (ap (λ (q : Slot). target q) same)) (λ c. inr (ap (λ (q : Slot). target q) c.1)) (cuts.slots a i)
  below_less kind (Held score) i = inl (ap (λ h. score_in h i) (x.aside.all.same_held score (kind_code kind)))

  block_less : (n k : ℕ) → (block_at u t n k ≡ block_at s t n k) ⊎ (block_at u t n k ≡ Nil)
  block_less zero k = inl refl
  block_less (suc n) k = ⊎_elim
      (λ same. ⊎_elim
      (λ e. inl (ap (λ (p : Pointer). below u (kind_down t n) p (k % 409)) same ∙ e))
      (λ nil. inr (ap (λ (p : Pointer). below u (kind_down t n) p (k % 409)) same ∙ nil))
      (below_less (kind_down t n) (block_at s t n (k / 409)) (k % 409)))
      (λ nil. inr (ap (λ (p : Pointer). below u (kind_down t n) p (k % 409)) nil))
      (block_less n (k / 409))

  local_back : (n k b : ℕ) → block_at u t n k ≡ Local b → block_at s t n k ≡ Local b
  local_back n k b e = ⊎_elim (λ same. sym same ∙ e) (λ nil. absurd (nil_local b (sym nil ∙ e))) (block_less n k)

  pub trim_back : (b : ℕ) → HasBlock u t b → HasBlock s t b
  trim_back b has = record { down = has.down; index = has.index; within = has.within; is = local_back has.down has.index b has.is }

  -- what the source has hangs from no slot that was cleared
  pub trim_free : s.tells → (b : ℕ) → HasBlock u t b → HangsFrom cut s b → ⊥
  trim_free told b has h =
      let said = x.said told in
      let j = index_of has.down has.index in
      let room : j < 409 ^ has.down = index_room has.down has.index in
      let here : block_at u t has.down j ≡ Local b = index_same u t has.down has.index ∙ has.is in
      ⊎_elim
      (λ p.
      let same = one_index said has.down j p.down p.index b has.within room (local_back has.down j b here) p.within p.few p.is in
      let now : block_at u t p.down p.index ≡ Local b = subst (λ y. block_at u t p.down y ≡ Local b) same.1 (subst (λ y. block_at u t y j ≡ Local b) same.0 here) in
      let none = clear_end x.few x.aside p.down p.way p.index p.is_way p.behind p.few in
      nil_local b (sym none ∙ local_seen u kept t p.down p.index b now))
      (λ low. own_low said has.down j b has.within room (local_back has.down j b here) low)
      (hangs_below said b h)

  module _ (apart_hangs : s.tells → (w : ℕ) → s.apart w → Reaches s.now (to_block 1) w → ⊥) where
    apart_free : s.tells → (w : ℕ) → s.apart w → HangsFrom cut s w → ⊥
    apart_free told w apart h =
        let p = hangs_past (x.said told) w h in
        let has : HasBlock s t p.from = record { down = p.past.down; index = p.past.index; within = p.past.within; is = p.past.is } in
        apart_hangs told w apart (reaches_joins {image = s.now} {s = to_block 1} {a = p.from} {b = w} ((x.may told).linked p.from has) p.reaches)

    hung_on : s.tells → (b : ℕ) → (HangsFrom cut s b → ⊥) → IsHung s b → IsHung u b
    hung_on told b off hung = ⊎_elim
        (λ r. inl (cuts.reached told 1 b off r))
        (λ h.
        let uncovered = cuts.only told h.top h.uncovered (apart_free told h.top h.is_apart) in
        inr (record {
          top = h.top;
          is_apart = (cuts.apart h.top).1 h.is_apart;
          place = h.place;
          stands = cuts.places told h.top h.place uncovered (rooted_of_apart u h.top ((cuts.apart h.top).1 h.is_apart)) h.stands;
          uncovered = uncovered;
          reaches = cuts.reached told h.top b off h.reaches;
        }))
        hung

    told_on : s.tells → (b : ℕ) → HasBlock u t b → IsTold s t.top b → IsTold u t.top b
    told_on told b has is =
        let off = trim_free told b has in
        let same = cuts.labels b in
        let epoch : (u.label b).epoch ≡ (s.label b).epoch = ap (λ (l : Label). l.epoch) same in
        let high = x.aside.all.same_high in
        let up = is.up_to in
        record {
          live = ap (λ (l : Label). l.state) same ∙ is.live;
          up_to = omega (arith, epoch, high, up);
          uncovered = cuts.only told b is.uncovered off;
          in_tree = λ older. cuts.reached told 1 b off (is.in_tree (omega (arith, epoch, high, older)));
          hung = hung_on told b off is.hung;
          alone = λ y h. let a = is.alone y ((cuts.instead y b).0 h) in (a.0, epoch ∙ a.1 ∙ sym high);
        }

    top_rooted : {limit : ℕ} → Over s t kept limit → u.tells → (b : ℕ) → t.top ≡ Local b → IsRooted u b
    top_rooted over now b e =
        let told = x.aside.all.still_tells.0 now in
        let r = over.hangs.rooted told b e in
        let off = trim_free told b (record { down = 0; index = 0; within = omega arith; is = e }) in
        (r.0, ⊎_elim (λ top. inl ((x.aside.all.same_tops r.0).1 top)) (λ h. inr ((cuts.apart r.0).1 h)) r.1, cuts.reached told r.0 b off r.2)

    pub trim_over : {limit : ℕ} → Over s t kept limit → Over u t kept limit
    trim_over over =
        let first : u.tells → s.tells = λ now. x.aside.all.still_tells.0 now in
        record {
          hangs = record {
            few = over.hangs.few;
            room = over.hangs.room;
            low = over.hangs.low;
            is_one = λ b e. (x.aside.all.same_blocks b).1 (over.hangs.is_one b e);
            told = λ now b e.
                let told = first now in
                let was = over.hangs.told told b e in
                let has : HasBlock u t b = record { down = 0; index = 0; within = omega arith; is = e } in
                let uncovered = cuts.only told b was.1 (trim_free told b has) in
                (cuts.places told b (place (kind_at t.dir t.depth) t.tag 0 (t.rank + t.depth)) uncovered (top_rooted over now b e) was.0, uncovered);
            rooted = top_rooted over;
          };
          least = over.least;
          within = over.within;
          low = over.low;
          empty = over.empty;
          holds = over.holds;
          free = λ now b e.
              let told = first now in
              let has : HasBlock u t b = record { down = 0; index = 0; within = omega arith; is = e } in
              ⊎_elim (λ apart. inl ((cuts.apart b).1 apart)) (λ r. inr (cuts.reached told 1 b (trim_free told b has) r)) (over.free told b e);
          told = λ now b has. let told = first now in told_on told b has (over.told told b (trim_back b has));
          unheld = λ now other i score e. ⊎_elim
              (λ same. over.unheld (first now) other i score (sym same ∙ e))
              (λ nil. absurd (nil_held score (sym nil ∙ e)))
              (block_less t.depth i);
          held = held_on x.aside.all kept over.held;
        }

    -- its top is linked, and so comes in the place of itself
    pub trim_comes : s.tells → ComesFor s t.top t.top → ComesFor u t.top t.top
    trim_comes told (inl h) = inl (refl, λ b e apart. h.1 b e ((cuts.apart b).0 apart))
    trim_comes told (inr h) =
        let has : HasBlock s t h.0 = record { down = 0; index = 0; within = omega arith; is = h.1 } in
        absurd (apart_hangs told h.0 h.2.is_apart ((x.may told).linked h.0 has))

  pub trim_still : {limit o n : ℕ} → Prepared s t kept limit o n → Prepared u t kept limit o n
  trim_still p = record {
    each = λ k from to lt. any_ready x.aside t.depth (k / 8192) (omega arith) (p.each k from to lt);
    last = λ past some. any_ready x.aside t.depth ((t.size - 1) / 8192) (omega arith) (p.last past some);
    end = p.end;
  }

  -- ---- up to the way nothing was cleared

  pub trim_leaves : s.tells → LeavesStay s u t t last
  trim_leaves told = uncut_leaves {s = s} {w = u} {t = t} {last = last} (record { said = x.said told; slots = λ b j. ⊎_elim (λ same. inl same) (λ c. inr c.0) (cuts.slots b j); same_held = x.aside.all.same_held; bytes = cuts.bytes })

  -- and so in every image, where all was as memory has it
  pub trim_shows : s.tells → AllAre s.now s.may_leave → (image : Image) → u.may_leave image → Shows s image t last
  trim_shows told all image is =
      let c = cuts.images image is in
      let same = all.each c.other c.was in
      let stay = uncut_leaves {s = s} {w = record s { now = image }} {t = t} {last = last} (record {
        said = x.said told;
        slots = λ b j. ⊎_elim (λ e. inl (e ∙ (same.each b).slots j)) (λ cut. inr cut.0) (c.slots b j);
        same_held = λ score kind. refl;
        bytes = λ b. c.bytes b ∙ (same.each b).bytes;
      }) in
      record { each = stay.each; content = stay.content }
