-- The blocks beside a way are those that were there.
use Rattle.std.proofs.Common.{◌≡◌, ◌⊎◌, ◌+◌, ◌-◌, ◌*◌, ◌/◌, ◌%◌, ◌^◌, ◌<◌, ◌≤◌, ℕ, zero, suc, List, inl, inr, ⊎_elim, refl, sym, ◌∙◌, ap, subst, arith}
use Rattle.std.proofs.lemmas.Bool.{cases_eq}
use Rattle.std.proofs.Math.Nat.{pow-succ'}
use Rattle.fo_image.specs.declared.types.Kind.{Kind}
use Rattle.fo_image.specs.declared.types.State.TheVariants.{Live}
use Rattle.fo_image.specs.declared.types.Pointer.{Pointer}
use Rattle.fo_image.specs.declared.types.Pointer.TheVariants.{Nil, Local, Score as Held}
use Rattle.fo_image.specs.Format.{kind_code}
use Rattle.fo_tree_own.specs.of_crash.declared.place.Place.{Place}
use Rattle.fo_tree_own.specs.of_crash.declared.slot.Slot.{Slot}
use Rattle.fo_tree_own.specs.of_crash.Images.{target}
use Rattle.fo_tree_own.specs.of_crash.Places.{place}
use Rattle.fo_tree_look.specs.of_ports.State.{State, KeepsAll}
use Rattle.fo_tree_look.specs.of_tree_read.declared.tree.Tree.{Tree}
use Rattle.fo_tree_look.specs.of_tree_read.Tree.{kind_down, score_in, below, block_at, Hangs}
use Rattle.fo_tree_look.specs.declared.ways.Kept.{Kept}
use Rattle.fo_tree_look.specs.Source.{HasBlock, AllHeld, Ready, seen}
use Rattle.fo_tree_look.proofs.Held.{seen_block}
use Rattle.fo_tree_look.proofs.Places.{block_place}
use Rattle.fo_tree_down.specs.Way.{OnWay, Descends, Comes, LeadsBeside, Leads, IsWayIndex, StaysBeside, with_top}
use Rattle.fo_tree_down.proofs.Next.{Says, becomes_below}
use Rattle.fo_tree_down.proofs.Leading.{leads_to}

-- ---- which blocks stand on a way

pub index_cases : (n k m j : ℕ) → IsWayIndex n k m j ⊎ (IsWayIndex n k m j → ⊥)
index_cases zero k m j = ⊎_elim (λ e. ⊎_elim (λ f. inl (e, f)) (λ ne. inr (λ is. ne is.1)) (cases_eq j k)) (λ ne. inr (λ is. ne is.0)) (cases_eq m 0)
index_cases (suc n) k m j = ⊎_elim
    (λ above. inl (inr above))
    (λ not. ⊎_elim
    (λ e. ⊎_elim (λ f. inl (inl (e, f))) (λ ne. inr (λ is. ⊎_elim (λ here. ne here.1) not is)) (cases_eq j k))
    (λ ne. inr (λ is. ⊎_elim (λ here. ne here.0) not is))
    (cases_eq m (suc n)))
    (index_cases n (k / 409) m j)

pub index_last : (n k : ℕ) → IsWayIndex n k n k
index_last zero k = (refl, refl)
index_last (suc n) k = inl (refl, refl)

pub index_top : (n k : ℕ) → k < 409 ^ n → IsWayIndex n k 0 0
index_top zero k few = let is : 0 ≡ k = omega (arith, few) in (refl, is)
index_top (suc n) k few = let more : 409 ^ suc n ≡ 409 * 409 ^ n = pow-succ' 409 n in inr (index_top n (k / 409) (omega (arith, few, more)))

pub index_within : (n k m j : ℕ) → IsWayIndex n k m j → m ≤ n
index_within zero k m j is = let e = is.0 in omega (arith, e)
index_within (suc n) k m j is = ⊎_elim (λ here. let e = here.0 in omega (arith, e)) (λ above. let le = index_within n (k / 409) m j above in omega (arith, le)) is

-- a block of the way has an index on it
pub record WayBlock (s : State) (t : Tree) (n k b : ℕ) : Type 0 where
  pub down : ℕ
  pub index : ℕ
  pub is_way : IsWayIndex n k down index
  pub few : index < 409 ^ down
  pub is : block_at s t down index ≡ Local b

pub way_block : (s : State) (t : Tree) (n k b : ℕ) → k < 409 ^ n → OnWay s t n k b → WayBlock s t n k b
way_block s t zero k b few on = record { down = zero; index = k; is_way = (refl, refl); few = few; is = on }
way_block s t (suc n) k b few on = ⊎_elim
    (λ above.
    let more : 409 ^ suc n ≡ 409 * 409 ^ n = pow-succ' 409 n in
    let w = way_block s t n (k / 409) b (omega (arith, few, more)) above in
    record { down = w.down; index = w.index; is_way = inr w.is_way; few = w.few; is = w.is })
    (λ e. record { down = suc n; index = k; is_way = inl (refl, refl); few = few; is = e })
    on

-- ---- what a block of the new way has beside it

-- A block of the way in the new tree: beside the way it leads where the one did that was there.
pub record WayStep (s u : State) (t : Tree) (kept : List Kept) (top n k m j : ℕ) : Type 0 where
  pub at : ℕ
  pub is : block_at u (with_top t top) m j ≡ Local at
  pub beside : m < t.depth → (i : ℕ) → i < 409 → (IsWayIndex n k (suc m) (409 * j + i) → ⊥) → target ((u.now at).slot i) ≡ below (seen s kept) (kind_down t m) (block_at (seen s kept) t m j) i

module _ (s u : State) (t : Tree) (kept : List Kept) (top : ℕ) where
  -- the block above the last
  last_step : (n k above m j : ℕ) → Leads s u t kept top n (k / 409) above → LeadsBeside s u t kept n (k / 409) above (k % 409) → m ≡ n → j ≡ k / 409 → WayStep s u t kept top (suc n) k m j
  last_step n k above m j leads beside e f =
      subst (λ x. WayStep s u t kept top (suc n) k x j) (sym e) (subst (λ y. WayStep s u t kept top (suc n) k n y) (sym f) (record {
        at = above;
        is = leads_to s u t kept top n (k / 409) above leads;
        beside = λ lt i few not. beside i few (λ own. not (inl (refl, omega (arith, own))));
      }))

  wider_step : (n k m j : ℕ) → WayStep s u t kept top n (k / 409) m j → WayStep s u t kept top (suc n) k m j
  wider_step n k m j w = record { at = w.at; is = w.is; beside = λ lt i few not. w.beside lt i few (λ is. not (inr is)) }

  above_step : (n k at m j : ℕ) → Leads s u t kept top (suc n) k at → IsWayIndex n (k / 409) m j → WayStep s u t kept top (suc n) k m j
  above_step zero k at m j leads is = last_step zero k leads.0.0 m j leads.0.1 leads.0.3 is.0 is.1
  above_step (suc n) k at m j leads is = ⊎_elim
      (λ here. last_step (suc n) k leads.0.0 m j leads.0.1 leads.0.3 here.0 here.1)
      (λ above. wider_step (suc n) k m j (above_step n (k / 409) leads.0.0 m j leads.0.1 above))
      is

  end_step : (n k at m j : ℕ) → Leads s u t kept top n k at → (n < t.depth → (i : ℕ) → i < 409 → target ((u.now at).slot i) ≡ below (seen s kept) (kind_down t n) (block_at (seen s kept) t n k) i) → m ≡ n → j ≡ k → WayStep s u t kept top n k m j
  end_step n k at m j leads all e f =
      subst (λ x. WayStep s u t kept top n k x j) (sym e) (subst (λ y. WayStep s u t kept top n k n y) (sym f) (record {
        at = at;
        is = leads_to s u t kept top n k at leads;
        beside = λ lt i few not. all lt i few;
      }))

  pub way_step : (n k at m j : ℕ) → Leads s u t kept top n k at → (n < t.depth → (i : ℕ) → i < 409 → target ((u.now at).slot i) ≡ below (seen s kept) (kind_down t n) (block_at (seen s kept) t n k) i) → IsWayIndex n k m j → WayStep s u t kept top n k m j
  way_step zero k at m j leads all is = end_step zero k at m j leads all is.0 is.1
  way_step (suc n) k at m j leads all is = ⊎_elim (λ here. end_step (suc n) k at m j leads all here.0 here.1) (λ above. above_step n k at m j leads above) is

-- ---- and all others

-- What is known where a way was made current over a device that tells.
pub record WentDown (s u : State) (t : Tree) (kept : List Kept) (top n k at level : ℕ) : Type 0 where
  pub all : KeepsAll s u
  pub hangs : Hangs s t
  pub told : s.tells
  pub says : Says s
  pub held : AllHeld s kept
  pub live : (b : ℕ) → HasBlock s t b → (s.label b).state ≡ Live
  pub within : n ≤ t.depth
  pub few : k < 409 ^ n
  pub leads : Leads s u t kept top n k at
  pub last : n < t.depth → (i : ℕ) → i < 409 → target ((u.now at).slot i) ≡ below (seen s kept) (kind_down t n) (block_at (seen s kept) t n k) i
  pub descends : Descends t (OnWay s t n k) level s u

module _ {s u : State} {t : Tree} {kept : List Kept} {top n k at level : ℕ} (x : WentDown s u t kept top n k at level) where
  -- a block beside the way is none of it
  pub not_mine : (m j b : ℕ) → m ≤ t.depth → j < 409 ^ m → block_at s t m j ≡ Local b → (IsWayIndex n k m j → ⊥) → OnWay s t n k b → ⊥
  not_mine m j b le few e not on =
      let w = way_block s t n k b x.few on in
      let low = index_within n k w.down w.index w.is_way in
      let inside : w.down ≤ t.depth = let end = x.within in omega (arith, low, end) in
      let first : Place = place (kind_down t w.down) t.tag w.index (t.rank + (t.depth - w.down)) in
      let second : Place = place (kind_down t m) t.tag j (t.rank + (t.depth - m)) in
      let same : first ≡ second = x.says.one.each b first second (block_place s t x.says.placed x.hangs x.told w.down w.index b inside w.few w.is) (block_place s t x.says.placed x.hangs x.told m j b le few e) in
      let rank : t.rank + (t.depth - w.down) ≡ t.rank + (t.depth - m) = ap (λ (p : Place). p.rank) same in
      let index : w.index ≡ j = ap (λ (p : Place). p.index) same in
      let down : w.down ≡ m = omega (arith, rank, inside, le) in
      not (subst (λ y. IsWayIndex n k m y) index (subst (λ y. IsWayIndex n k y w.index) down w.is_way))

  slots_beside : (m j b : ℕ) → m ≤ t.depth → j < 409 ^ m → block_at s t m j ≡ Local b → (IsWayIndex n k m j → ⊥) → (i : ℕ) → (u.now b).slot i ≡ (s.now b).slot i
  slots_beside m j b le few e not i = ⊎_elim
      (λ same. same)
      (λ put. absurd (not_mine m j b le few e not put.is_mine))
      (x.descends.slots b i (λ made. made.0 (x.live b (record { down = m; index = j; within = le; is = e }))))

  below_stays : (kind : Kind) (p : Pointer) (i : ℕ) → ((b : ℕ) → p ≡ Local b → (u.now b).slot i ≡ (s.now b).slot i) → below u kind p i ≡ below s kind p i
  below_stays kind Nil i same = refl
  below_stays kind (Local b) i same = ap (λ (q : Slot). target q) (same b refl)
  below_stays kind (Held score) i same = ap (λ h. score_in h i) (x.all.same_held score (kind_code kind))

  beside_at : (m j : ℕ) → m ≤ t.depth → j < 409 ^ m → (IsWayIndex n k m j → ⊥) → block_at u (with_top t top) m j ≡ block_at s t m j
  beside_at zero j le few not = let is : 0 ≡ j = omega (arith, few) in absurd (not (subst (λ y. IsWayIndex n k 0 y) is (index_top n k x.few)))
  beside_at (suc m) j le few not =
      let more : 409 ^ suc m ≡ 409 * 409 ^ m = pow-succ' 409 m in
      let up : j / 409 < 409 ^ m = omega (arith, few, more) in
      let high : m ≤ t.depth = omega (arith, le) in
      let index : 409 * (j / 409) + j % 409 ≡ j = omega arith in
      ⊎_elim
      (λ on.
      let w = way_step s u t kept top n k at m (j / 409) x.leads x.last on in
      ap (λ (p : Pointer). below u (kind_down t m) p (j % 409)) w.is
      ∙ w.beside (omega (arith, le)) (j % 409) (omega arith) (λ is. not (subst (λ y. IsWayIndex n k (suc m) y) index is))
      ∙ seen_block s kept x.held x.told t (suc m) j)
      (λ off.
      ap (λ (p : Pointer). below u (kind_down t m) p (j % 409)) (beside_at m (j / 409) high up off)
      ∙ below_stays (kind_down t m) (block_at s t m (j / 409)) (j % 409) (λ b e. slots_beside m (j / 409) b high up e off (j % 409)))
      (index_cases n k m (j / 409))

  pub stays_beside : StaysBeside s u t (with_top t top) n k
  stays_beside = record { each = beside_at }

-- a block of a way is one of the source
pub on_way_block : (s : State) (t : Tree) (n k b : ℕ) → n ≤ t.depth → OnWay s t n k b → HasBlock s t b
on_way_block s t zero k b le on = record { down = zero; index = k; within = le; is = on }
on_way_block s t (suc n) k b le on = ⊎_elim (λ above. on_way_block s t n (k / 409) b (omega (arith, le)) above) (λ e. record { down = suc n; index = k; within = le; is = e }) on

-- the slots of the block at the end
pub last_leads : (s u : State) (t : Tree) (kept : List Kept) (n k at : ℕ) → Ready s t kept n (block_at (seen s kept) t n k) → Comes s u t kept n k at → n < t.depth → (i : ℕ) → i < 409 → target ((u.now at).slot i) ≡ below (seen s kept) (kind_down t n) (block_at (seen s kept) t n k) i
last_leads s u t kept n k at ready comes lt i few = becomes_below s u t kept (t.depth - n) (block_at (seen s kept) t n k) at i (λ score e. (subst (λ (x : Pointer). Ready s t kept n x) e ready).0) (omega (arith, lt)) few comes.content
