-- Leaves are written one after another.
use Rattle.std.specs.List.{range_with_len}
use Rattle.std.proofs.Common.{◌≡◌, ◌⊎◌, ◌+◌, ◌-◌, ◌*◌, ◌/◌, ◌%◌, ◌^◌, ◌<◌, ◌≤◌, ℕ, zero, suc, List, [], ◌∷◌, length, map, take, drop, slice_index, inl, inr, ⊎_elim, refl, sym, ap, ◌∙◌, subst, arith}
use Rattle.std.proofs.lemmas.Bool.{cases_lt}
use Rattle.std.proofs.lemmas.List.{ext_get_or, length-take-le, length-drop, get_or-take, get_or-drop, get_or_past}
use Rattle.std.proofs.lemmas.List.FromFn.{length-map-range_with_len, get_or-map-range_with_len}
use Rattle.fo_image.specs.declared.types.Pointer.{Pointer}
use Rattle.fo_image.specs.declared.types.Pointer.TheVariants.{Local}
use Rattle.fo_ports.specs.of_crash.declared.place.Place.{Place}
use Rattle.fo_ports.specs.of_crash.Images.{Image}
use Rattle.fo_ports.specs.of_crash.Places.{IsPlaced, RanksFall}
use Rattle.fo_sparse.specs.Written.{written}
use Rattle.fo_sparse.proofs.Lists.{is_written}
use Rattle.fo_ports.specs.State.{State, KeepsAll}
use Rattle.fo_ports.specs.Sources.{Made, depth_for, most_for, source_bytes}
use Rattle.fo_tree_read.proofs.of_looks.Free.{Standing}
use Rattle.fo_tree_read.specs.declared.tree.Tree.{Tree}
use Rattle.fo_tree_read.specs.Tree.{block_at, above}
use Rattle.fo_tree_read.specs.Reading.{passed, most}
use Rattle.fo_tree_clear.specs.of_tree_look.declared.ways.Kept.{Kept}
use Rattle.fo_tree_clear.specs.of_tree_look.Source.{HasBlock, IsTold, Over, Prepared, WayReady, address_here, held_here}
use Rattle.fo_tree_clear.specs.of_tree_down.Way.{OnWay, IsTopOf, WayCurrent, CurrentBut, with_top}
use Rattle.fo_tree_clear.specs.of_tree_down.Clear.{EndsClear, last_leaf}
use Rattle.fo_tree_clear.proofs.of_tree_down.Beside.{on_way_block}
use Rattle.fo_tree_clear.proofs.of_tree_down.Join.{local_cases}
use Rattle.fo_tree_clear.proofs.of_tree_down.Leading.{way_top}
use Rattle.fo_tree_clear.proofs.of_tree_down.Sparing.{but_whole, but_more}
use Rattle.fo_tree_clear.specs.Put.{byte_here, Puts}
use Rattle.fo_tree_clear.specs.Steps.{Steps}
use Rattle.fo_tree_clear.proofs.Stepping.{Follows, steps_join, steps_none, made_first, made_second, made_either}
use Rattle.fo_tree_write.specs.Write.{at_top, OnWays, Spent, Wrote}

-- ---- how many blocks stand above leaves

slack : ℕ → ℕ → ℕ
slack zero m = 0
slack (suc d) m = (m / 409 + 1) + slack d (m / 409 + 1)

above_more : (d k l m : ℕ) → k ≤ l → l ≤ k + m → above d l ≤ above d k + slack d m
unfolding slack
above_more zero k l m le few = omega arith
above_more (suc d) k l m le few =
    let more : above d (l / 409) ≤ above d (k / 409) + slack d (m / 409 + 1) = above_more d (k / 409) (l / 409) (m / 409 + 1) (omega (arith, le)) (omega (arith, few)) in
    omega (arith, more, few)

slack_few : (d n : ℕ) → d ≤ 4 → slack d (n / 8192 + 1) ≤ n / 2 ^ 21 + d
unfolding slack
slack_few zero n few = omega arith
slack_few (suc zero) n few = omega arith
slack_few (suc (suc zero)) n few = omega arith
slack_few (suc (suc (suc zero))) n few = omega arith
slack_few (suc (suc (suc (suc zero)))) n few = omega arith
slack_few (suc (suc (suc (suc (suc d))))) n few = absurd (omega (arith, few))

-- the ways to all leaves that so many bytes touch, and two ways more
pub most_passed : (d first last n : ℕ) → d ≤ 4 → first ≤ last → last ≤ first + (n / 8192 + 1) → 2 * d + 2 + passed d last ≤ passed d first + most d n
most_passed d first last n few le more =
    let a = above_more d first last (n / 8192 + 1) le more in
    let b = slack_few d n few in
    omega (arith, a, b, le, more)

pub most_is : (d size n : ℕ) → d ≡ depth_for size → most d n ≡ most_for size n
most_is d size n e = ap (λ x. n / 8192 + n / 2 ^ 21 + 3 * (x + 1)) e

-- ---- blocks spent

-- the leaf that was written last
pub last_of : (offset done len : ℕ) → 0 < done → done ≤ len → (offset / 8192 ≤ (offset + done - 1) / 8192) × ((offset + done - 1) / 8192 ≤ offset / 8192 + (len / 8192 + 1))
last_of offset done len some le = (omega (arith, some), omega (arith, some, le))

pub enough_left : (u : State) (t : Tree) (before offset done len k : ℕ) → t.depth ≤ 4 → done < len → most t.depth len ≤ before → Spent u t before offset done → (c : ℕ) × CurrentBut u t c t.depth k × (c ≤ u.spare)
enough_left u t before offset done len k few lt enough spent = ⊎_elim
    (λ h. let le = h.1 in (t.depth + 1, but_more u t t.depth k, omega (arith, le, enough)))
    (λ h.
    let some = h.0 in
    let left = h.2 in
    let last = last_of offset done len some (omega (arith, lt)) in
    let p = most_passed t.depth (offset / 8192) ((offset + done - 1) / 8192) len few last.0 last.1 in
    (t.depth, but_whole u t t.depth k (way_top u t t.depth ((offset + done - 1) / 8192) h.1), spare_left t.depth before u.spare (passed t.depth (offset / 8192)) (passed t.depth ((offset + done - 1) / 8192)) (most t.depth len) enough left p))
    spent.is
  where
    spare_left : (d before spare x y all : ℕ) → all ≤ before → before + x ≤ spare + (d + 1) + y → 2 * d + 2 + y ≤ x + all → d ≤ spare
    spare_left d before spare x y all enough left bound = omega (arith, enough, left, bound)

pub spent_end : (u : State) (t : Tree) (before offset len : ℕ) → t.depth ≤ 4 → Spent u t before offset len → before ≤ u.spare + most t.depth len
spent_end u t before offset len few spent = ⊎_elim
    (λ h. let le = h.1 in omega (arith, le))
    (λ h.
    let some = h.0 in
    let left = h.2 in
    let last = last_of offset len len some (omega arith) in
    let p = most_passed t.depth (offset / 8192) ((offset + len - 1) / 8192) len few last.0 last.1 in
    spare_end t.depth before u.spare (passed t.depth (offset / 8192)) (passed t.depth ((offset + len - 1) / 8192)) (most t.depth len) left p)
    spent.is
  where
    spare_end : (d before spare x y all : ℕ) → before + x ≤ spare + (d + 1) + y → 2 * d + 2 + y ≤ x + all → before ≤ spare + all
    spare_end d before spare x y all left bound = omega (arith, left, bound)

pub spent_none : (s : State) (t : Tree) (offset : ℕ) → Spent s t s.spare offset 0
spent_none s t offset = record { is = inl (refl, omega arith) }

pub spent_more : (u v : State) (t new : Tree) (before offset done n : ℕ) → new.depth ≡ t.depth → 0 < n → n ≤ 8192 - (offset + done) % 8192 → u.spare ≤ v.spare + (t.depth + 1)
    → ((j : ℕ) → WayCurrent u t t.depth j → j ≤ (offset + done) / 8192 → (offset + done) / 8192 ≤ j + 1 → u.spare + (j + above t.depth j) ≤ v.spare + ((offset + done) / 8192 + above t.depth ((offset + done) / 8192)))
    → WayCurrent v new t.depth ((offset + done) / 8192) → Spent u t before offset done → Spent v new before offset (done + n)
spent_more u v t new before offset done n same some part taken used way spent =
    subst (λ d. IsSpent d ((offset + (done + n) - 1) / 8192) → Spent v new before offset (done + n)) same (λ is. record { is = inr (omega (arith, some), is.0, is.1) })
    (subst (λ i. IsSpent t.depth i) (sym last) (way, left))
  where
    last : (offset + (done + n) - 1) / 8192 ≡ (offset + done) / 8192
    last = omega (arith, some, part)

    IsSpent : ℕ → ℕ → Type 0
    IsSpent d i = WayCurrent v new d i × (before + passed d (offset / 8192) ≤ v.spare + (d + 1) + passed d i)

    left : before + passed t.depth (offset / 8192) ≤ v.spare + (t.depth + 1) + passed t.depth ((offset + done) / 8192)
    left = ⊎_elim
        (λ h.
        let none = h.0 in
        let le = h.1 in
        let here : offset / 8192 ≡ (offset + done) / 8192 = omega (arith, none) in
        let e : passed t.depth (offset / 8192) ≡ passed t.depth ((offset + done) / 8192) = ap (λ i. passed t.depth i) here in
        omega (arith, le, taken, e))
        (λ h.
        let one = h.0 in
        let le = h.2 in
        let p = used ((offset + done - 1) / 8192) h.1 (omega (arith, one)) (omega (arith, one)) in
        omega (arith, le, p))
        spent.is

-- ---- bytes

module _ (a b c : ℕ → ℕ) (offset done n : ℕ) (bytes : List ℕ) (le : done + n ≤ length bytes)
    (p : Puts a b offset (take done bytes)) (q : Puts b c (offset + done) (take n (drop done bytes))) where
  first_len : length (take done bytes) ≡ done
  first_len = length-take-le done bytes (omega arith)

  more_len : length (take n (drop done bytes)) ≡ n
  more_len = length-take-le n (drop done bytes) (omega (arith, length-drop done bytes))

  all_len : length (take (done + n) bytes) ≡ done + n
  all_len = length-take-le (done + n) bytes le

  within_first : (i : ℕ) → i < done → c (offset + i) ≡ slice_index (take (done + n) bytes) i
  within_first i lt =
      q.before (offset + i) (omega arith) ∙ p.within i (omega (arith, first_len)) ∙ get_or-take done bytes i 0 lt ∙ sym (get_or-take (done + n) bytes i 0 (omega arith))

  within_more : (i j : ℕ) → i ≡ done + j → j < n → c (offset + i) ≡ slice_index (take (done + n) bytes) i
  within_more i j is lt =
      let same : offset + i ≡ offset + done + j = omega arith in
      rw (same, is) (q.within j (omega (arith, more_len)) ∙ get_or-take n (drop done bytes) j 0 lt ∙ get_or-drop done bytes j 0 ∙ sym (get_or-take (done + n) bytes (done + j) 0 (omega arith)))

  within_all : (i : ℕ) → (i < done) ⊎ (done ≤ i) → i < done + n → c (offset + i) ≡ slice_index (take (done + n) bytes) i
  within_all i (inl lt) le = within_first i lt
  within_all i (inr ge) lt = within_more i (i - done) (omega arith) (omega arith)

  pub puts_more : Puts a c offset (take (done + n) bytes)
  puts_more = record {
    within = λ i lt. within_all i (cases_lt i done) (omega (arith, all_len));
    before = λ k lt. q.before k (omega arith) ∙ p.before k lt;
    behind = λ k ge. q.behind k (omega (arith, all_len, more_len)) ∙ p.behind k (omega (arith, all_len, first_len));
  }

pub puts_none : (f : ℕ → ℕ) (offset : ℕ) → Puts f f offset []
puts_none f offset = record { within = λ i lt. absurd (omega (arith, lt)); before = λ k lt. refl; behind = λ k ge. refl }

length_values : (f : ℕ → ℕ) (len : ℕ) → length (map f (range_with_len 0 len)) ≡ len
length_values f len = length-map-range_with_len f 0 len

values_below : (f : ℕ → ℕ) (len k : ℕ) → k < len → slice_index (map f (range_with_len 0 len)) k ≡ f k
values_below f len k lt = get_or-map-range_with_len f 0 len k k 0 lt (omega arith)

-- all of a piece was put below the end
values_written : (f g : ℕ → ℕ) (len offset : ℕ) (bytes : List ℕ) → offset + length bytes ≤ len → 0 < length bytes → Puts f g offset bytes → map g (range_with_len 0 len) ≡ written (map f (range_with_len 0 len)) offset bytes
values_written f g len offset bytes within some put =
    let old_len = length_values f len in
    let new_len = length_values g len in
    let past : (k : ℕ) → len ≤ k → slice_index (map g (range_with_len 0 len)) k ≡ slice_index (map f (range_with_len 0 len)) k =
    λ k ge. get_or_past (map g (range_with_len 0 len)) k 0 (omega (arith, new_len, ge)) ∙ sym (get_or_past (map f (range_with_len 0 len)) k 0 (omega (arith, old_len, ge))) in
    is_written (map f (range_with_len 0 len)) (map g (range_with_len 0 len)) bytes offset some (omega (arith, old_len, new_len, within))
    (λ i lt. values_below g len (offset + i) (omega (arith, within, lt)) ∙ put.within i lt)
    (λ k lt. let below : k < len = omega (arith, within, lt) in values_below g len k below ∙ put.before k lt ∙ sym (values_below f len k below))
    (λ k ge. ⊎_elim (λ lt. values_below g len k lt ∙ put.behind k ge ∙ sym (values_below f len k lt)) (λ le. past k le) (cases_lt k len))

values_same : (f g : ℕ → ℕ) (len offset : ℕ) → Puts f g offset [] → map g (range_with_len 0 len) ≡ map f (range_with_len 0 len)
values_same f g len offset put =
    let old_len = length_values f len in
    let new_len = length_values g len in
    ext_get_or 0 (map g (range_with_len 0 len)) (map f (range_with_len 0 len)) (new_len ∙ sym old_len)
    (λ k lt. let below : k < len = omega (arith, new_len, lt) in values_below g len k below ∙ ⊎_elim (λ less. put.before k less) (λ ge. put.behind k (omega (arith, ge))) (cases_lt k offset) ∙ sym (values_below f len k below))

pub bytes_written : (s u : State) (t new : Tree) (kept : List Kept) (offset : ℕ) (piece : List ℕ) → new.size ≡ t.size → offset + length piece ≤ t.size → Puts (byte_here s t kept) (byte_here u new kept) offset piece
    → source_bytes (address_here u new) (held_here u new kept) u.now new.size ≡ written (source_bytes (address_here s t) (held_here s t kept) s.now t.size) offset piece
bytes_written s u t new kept offset piece same within put =
    ap (λ n. source_bytes (address_here u new) (held_here u new kept) u.now n) same ∙ by piece within put
  where
    by : (piece : List ℕ) → offset + length piece ≤ t.size → Puts (byte_here s t kept) (byte_here u new kept) offset piece
        → source_bytes (address_here u new) (held_here u new kept) u.now t.size ≡ written (source_bytes (address_here s t) (held_here s t kept) s.now t.size) offset piece
    by [] within put = values_same (λ k. byte_here s t kept k) (λ k. byte_here u new kept k) t.size offset put
    by (x ∷ rest) within put = values_written (λ k. byte_here s t kept k) (λ k. byte_here u new kept k) t.size offset (x ∷ rest) within (omega arith) put

-- ---- one leaf after others

-- a block is on a way, or isn't
pub way_cases : (s : State) (t : Tree) (n k b : ℕ) → OnWay s t n k b ⊎ (OnWay s t n k b → ⊥)
way_cases s t zero k b = local_cases (block_at s t zero k) b
way_cases s t (suc n) k b = ⊎_elim
    (λ above. inl (inl above))
    (λ not. ⊎_elim (λ e. inl (inr e)) (λ ne. inr (λ on. ⊎_elim not ne on)) (local_cases (block_at s t (suc n) k) b))
    (way_cases s t n (k / 409) b)

-- a way that was prepared stays so
pub way_still : (s u : State) (t new : Tree) (kept : List Kept) (j : ℕ) → new.size ≡ t.size → new.depth ≡ t.depth → 8192 * j < t.size → ((limit o n : ℕ) → Prepared s t kept limit o n → Prepared u new kept limit o n) → WayReady s t kept t.depth j → WayReady u new kept new.depth j
way_still s u t new kept j size depth lt still way =
    let here : (8192 * j) / 8192 ≡ j = omega arith in
    let was : Prepared s t kept (8192 * j + 1) (8192 * j) 1 = record {
      each = λ k from to inside. let same : j ≡ k / 8192 = omega (arith, from, to) in subst (λ i. WayReady s t kept t.depth i) same way;
      last = λ past some. absurd (omega (arith, past, lt));
      end = omega arith;
    } in
    subst (λ i. WayReady u new kept new.depth i) here ((still (8192 * j + 1) (8192 * j) 1 was).each (8192 * j) (omega arith) (omega arith) (omega (arith, size, lt)))

-- What is known once one more leaf was written.
pub record OneMore (s u v : State) (t : Tree) (top : Pointer) (next : ℕ) (kept : List Kept) (offset done n : ℕ) (piece : List ℕ) : Type 0 where
  pub wrote : Wrote s u t top kept offset done piece
  pub some : 0 < n
  pub part : n ≤ 8192 - (offset + done) % 8192
  pub within : done + n ≤ length piece
  pub inside : 8192 * ((offset + done) / 8192) < t.size
  pub ready : WayReady s t kept t.depth ((offset + done) / 8192)
  pub all : KeepsAll s v
  pub few : t.depth ≤ 4
  pub room : t.size ≤ 8192 * 409 ^ t.depth
  pub told_old : s.tells → (b : ℕ) → HasBlock s t b → IsTold s t.top b
  pub told_mid : u.tells → (b : ℕ) → HasBlock u (at_top t top) b → IsTold u (at_top t top).top b
  pub placed : (image : Image) → s.may_leave image → IsPlaced s.stands image
  pub ranked : (image : Image) → s.may_leave image → RanksFall s.stands image
  pub top_stands : (image : Image) → s.may_leave image → (up : ℕ) → s.tops up → (p : Place) × s.stands up p
  pub told : (image : Image) → s.may_leave image → s.tells
  pub standing : Standing s
  -- what the leaf's own step says
  pub top_of : IsTopOf u v (at_top t top) next
  pub over : (limit : ℕ) → Over u (at_top t top) kept limit → Over v (with_top t next) kept limit
  pub bytes : u.tells → Puts (byte_here u (at_top t top) kept) (byte_here v (with_top t next) kept) (8192 * ((offset + done) / 8192) + (offset + done) % 8192) (take n (drop done piece))
  pub still : (limit o m : ℕ) → Prepared u (at_top t top) kept limit o m → Prepared v (with_top t next) kept limit o m
  pub owns : u.tells → (b : ℕ) → (HasBlock v (with_top t next) b → HasBlock u (at_top t top) b ⊎ Made u v b) × (Made u v b → HasBlock v (with_top t next) b)
  pub stays : u.tells → (b : ℕ) → HasBlock u (at_top t top) b → (u.label b).epoch ≡ u.high → HasBlock v (with_top t next) b
  pub ways : (j b : ℕ) → WayReady u (at_top t top) kept t.depth j → OnWay v (with_top t next) t.depth j b → OnWay u (at_top t top) t.depth j b ⊎ Made u v b
  pub clear : u.tells ⊎ ((offset + done) / 8192 ≡ last_leaf t.size) → EndsClear u (at_top t top) kept → EndsClear v (with_top t next) kept
  pub steps : Steps t.tag (OnWay u (at_top t top) t.depth ((offset + done) / 8192)) (OnWay u (at_top t top) t.depth ((offset + done) / 8192)) u v
  pub most : u.spare ≤ v.spare + (t.depth + 1)
  pub used : (j : ℕ) → WayCurrent u (at_top t top) t.depth j → j ≤ (offset + done) / 8192 → (offset + done) / 8192 ≤ j + 1 → u.spare + (j + above t.depth j) ≤ v.spare + ((offset + done) / 8192 + above t.depth ((offset + done) / 8192))
  pub way : WayCurrent v (with_top t next) t.depth ((offset + done) / 8192)

module _ {s u v : State} {t : Tree} {top : Pointer} {next : ℕ} {kept : List Kept} {offset done n : ℕ} {piece : List ℕ} (x : OneMore s u v t top next kept offset done n piece) where
  here : ℕ
  here = (offset + done) / 8192

  mid : s.tells → u.tells
  mid told = x.wrote.steps.all.still_tells.1 told

  -- a block of the way is one of the source of before, or was given out
  mine_of : (b : ℕ) → OnWay u (at_top t top) t.depth ((offset + done) / 8192) b → HasBlock s t b ⊎ Made s u b
  mine_of b on = ⊎_elim
      (λ old. inl (on_way_block s t t.depth ((offset + done) / 8192) b (omega arith) old))
      (λ made. inr made)
      (x.wrote.ways ((offset + done) / 8192) b x.inside x.ready on)

  way_of : (b : ℕ) → OnWay u (at_top t top) t.depth ((offset + done) / 8192) b → OnWays s t offset (length piece) b ⊎ Made s u b
  way_of b on =
      let some = x.some in
      let within = x.within in
      let inside = x.inside in
      let room = x.room in
      ⊎_elim
      (λ old. inl (record { leaf = (offset + done) / 8192; from = omega arith; to = omega (arith, some, within); few = omega (arith, inside, room); on = old }))
      (λ made. inr made)
      (x.wrote.ways ((offset + done) / 8192) b x.inside x.ready on)

  follows : Follows t.tag (HasBlock s t) (OnWays s t offset (length piece)) (OnWay u (at_top t top) t.depth ((offset + done) / 8192)) (OnWay u (at_top t top) t.depth ((offset + done) / 8192)) s u v
  follows = record {
    first = x.wrote.steps;
    second = x.steps;
    all = x.all;
    of = mine_of;
    within = way_of;
    cases = λ b. way_cases u (at_top t top) t.depth ((offset + done) / 8192) b;
    rooted = λ told b on older. (x.told_mid told b (on_way_block u (at_top t top) t.depth ((offset + done) / 8192) b (omega arith) on)).in_tree older;
    up_to = λ told b on. (x.told_mid told b (on_way_block u (at_top t top) t.depth ((offset + done) / 8192) b (omega arith) on)).up_to;
    placed = x.placed;
    ranked = x.ranked;
    top_stands = x.top_stands;
    told = x.told;
    standing = x.standing;
  }

  owns_end : s.tells → (b : ℕ) → (HasBlock v (with_top t next) b → HasBlock s t b ⊎ Made s v b) × (Made s v b → HasBlock v (with_top t next) b)
  owns_end told b = (
    λ has. ⊎_elim
        (λ old. ⊎_elim (λ was. inl was) (λ made. inr (made_first follows b made)) ((x.wrote.owns told b).0 old))
        (λ made. inr (made_second follows b made))
        ((x.owns (mid told) b).0 has),
    λ made. ⊎_elim
        (λ first. x.stays (mid told) b ((x.wrote.owns told b).1 first) ((x.wrote.steps.made b first).labelled.0 ∙ sym x.wrote.steps.all.same_high))
        (λ second. (x.owns (mid told) b).1 second)
        (made_either follows b made),
  )

  ways_end : (j b : ℕ) → 8192 * j < t.size → WayReady s t kept t.depth j → OnWay v (with_top t next) t.depth j b → OnWay s t t.depth j b ⊎ Made s v b
  ways_end j b lt way on = ⊎_elim
      (λ old. ⊎_elim (λ was. inl was) (λ made. inr (made_first follows b made)) (x.wrote.ways j b lt way old))
      (λ made. inr (made_second follows b made))
      (x.ways j b (way_still s u t (at_top t top) kept j refl refl lt x.wrote.still way) on)

  -- a piece that begins in the last leaf stays there
  last_here : t.size ≤ 8192 * (offset / 8192 + 1) → (offset + done) / 8192 ≡ last_leaf t.size
  last_here last = let inside = x.inside in omega (arith, last, inside)

  pub wrote_more : Wrote s v t (Local next) kept offset (done + n) piece
  wrote_more = record {
    over = λ limit was. x.over limit (x.wrote.over limit was);
    bytes = λ told.
        let same : 8192 * ((offset + done) / 8192) + (offset + done) % 8192 ≡ offset + done = omega arith in
        puts_more (byte_here s t kept) (byte_here u (at_top t top) kept) (byte_here v (with_top t next) kept) offset done n piece x.within (x.wrote.bytes told)
        (subst (λ o. Puts (byte_here u (at_top t top) kept) (byte_here v (with_top t next) kept) o (take n (drop done piece))) same (x.bytes (mid told)));
    still = λ limit o m was. x.still limit o m (x.wrote.still limit o m was);
    owns = owns_end;
    ways = ways_end;
    comes = λ told from h. x.top_of.comes (mid told) from (x.wrote.comes told from h);
    only = λ told y z h. ⊎_elim
        (λ own. inl (ap (λ b. Local b) (sym own)))
        (λ old. ⊎_elim
        (λ e. absurd (old.1 e))
        (λ was. inr was)
        (x.wrote.only told y z old.0))
        (x.top_of.only (mid told) y z h);
    clear = λ which was. x.clear (⊎_elim (λ told. inl (mid told)) (λ last. inr (last_here last)) which) (x.wrote.clear which was);
    steps = steps_join follows;
    spent = spent_more u v (at_top t top) (with_top t next) s.spare offset done n refl x.some x.part x.most x.used x.way x.wrote.spent;
  }

pub wrote_none : (s : State) (t : Tree) (kept : List Kept) (offset : ℕ) (piece : List ℕ) → KeepsAll s s → Wrote s s t t.top kept offset 0 piece
wrote_none s t kept offset piece all = record {
  over = λ limit was. was;
  bytes = λ told. puts_none (byte_here s t kept) offset;
  still = λ limit o n was. was;
  owns = λ told b. (λ has. inl has, λ made. absurd (made.0 made.1));
  ways = λ j b lt way on. inl on;
  comes = λ told from h. h;
  only = λ told y z h. ⊎_elim (λ e. inl e) (λ ne. inr (h, ne)) (local_cases t.top y);
  clear = λ which was. was;
  steps = steps_none t.tag (HasBlock s t) (OnWays s t offset (length piece)) s all;
  spent = spent_none s t offset;
}
