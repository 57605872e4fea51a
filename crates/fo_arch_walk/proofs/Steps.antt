-- Steps of a walk down.
use Rattle.std.proofs.Common.{◌≡◌, ◌≢◌, ℕ, zero, suc, ◌+◌, ◌-◌, ◌<◌, ◌≤◌, Bool, true, false, cond, List, refl, sym, ◌∙◌, ap, subst, arith}
use Rattle.std.specs.Prelude.{None}
use Rattle.fo_image.specs.declared.types.Kind.{Kind}
use Rattle.fo_image.specs.declared.types.Kind.TheVariants.{Data, Dir, Root}
use Rattle.fo_image.specs.declared.types.Entry.{Entry}
use Rattle.fo_image.specs.declared.types.Pointer.TheVariants.{Local}
use Rattle.fo_image.specs.Format.{KindHolds, kind_code}
use Rattle.fo_crash.specs.declared.place.Place.{Place}
use Rattle.fo_crash.specs.declared.slot.Slot.{Slot}
use Rattle.fo_crash.specs.declared.slot.Slot.TheVariants.{Entry as Head}
use Rattle.fo_crash.specs.Images.{Content, Image, SameImage, target}
use Rattle.fo_crash.specs.Places.{place, root_place, place_below, IsPlaced, RanksFall}
use Rattle.fo_ports.specs.Blocks.{IsInner}
use Rattle.fo_ports.specs.State.{State, KeepsAll, Looks}
use Rattle.fo_tree_read.specs.Tree.{StandsAs}
use Rattle.fo_arch_form.specs.declared.stored.Stored.{Stored}
use Rattle.fo_arch_form.specs.declared.entries.Missing.{Missing}
use Rattle.fo_arch_form.specs.Stored.{found}
use Rattle.fo_arch_form.specs.Entries.{code_of}
use Rattle.fo_arch_walk.specs.declared.spot.Spot.{Spot}
use Rattle.fo_arch_walk.specs.Pointers.{IsPointersForm, NamesMissing}
use Rattle.fo_arch_walk.specs.Entries.{NamesTop}
use Rattle.fo_arch_walk.specs.Forms.{IsForm}
use Rattle.fo_arch_walk.specs.Reached.{Comes, top, below}
use Rattle.fo_arch_walk.specs.Spots.{arena_code, place_of, IsReached, IsSnapshot, IsOfSnapshot, NamesNext}
use Rattle.fo_arch_walk.proofs.Places.{reached_stands}

pub form_inner : (done : Stored) (kind : Kind) (c : Content) (form : List ℕ) → IsInner kind → IsPointersForm done kind c form → IsForm done kind c form
form_inner done (Data zero) c form inner f = absurd (omega (arith, inner))
form_inner done (Data (suc level)) c form inner f = f
form_inner done (Dir zero) c form inner f = absurd (omega (arith, inner))
form_inner done (Dir (suc level)) c form inner f = f
form_inner done Root c form inner f = absurd inner

-- below a block of pointers kind and rank are the same for each slot
pub inner_kind : (kind : Kind) (rank i j : ℕ) (s t : Slot) → IsInner kind → (place_below (place kind 0 0 rank) i s).kind ≡ (place_below (place kind 0 0 rank) j t).kind
inner_kind (Data zero) rank i j s t inner = absurd (omega (arith, inner))
inner_kind (Data (suc level)) rank i j s t inner = refl
inner_kind (Dir zero) rank i j s t inner = absurd (omega (arith, inner))
inner_kind (Dir (suc level)) rank i j s t inner = refl
inner_kind Root rank i j s t inner = absurd inner

pub inner_rank : (kind : Kind) (rank i j : ℕ) (s t : Slot) → IsInner kind → (place_below (place kind 0 0 rank) i s).rank ≡ (place_below (place kind 0 0 rank) j t).rank
inner_rank (Data zero) rank i j s t inner = absurd (omega (arith, inner))
inner_rank (Data (suc level)) rank i j s t inner = refl
inner_rank (Dir zero) rank i j s t inner = absurd (omega (arith, inner))
inner_rank (Dir (suc level)) rank i j s t inner = refl
inner_rank Root rank i j s t inner = absurd inner

inner_code : (kind : Kind) (rank i : ℕ) (s : Slot) → IsInner kind → kind_code kind - 1 ≡ arena_code (place_below (place kind 0 0 rank) i s).kind
inner_code (Data zero) rank i s inner = absurd (omega (arith, inner))
inner_code (Data (suc level)) rank i s inner = omega arith
inner_code (Dir zero) rank i s inner = absurd (omega (arith, inner))
inner_code (Dir (suc level)) rank i s inner = omega arith
inner_code Root rank i s inner = absurd inner

inner_holds : (kind : Kind) (rank i : ℕ) (s : Slot) → IsInner kind → KindHolds kind → KindHolds (place_below (place kind 0 0 rank) i s).kind
inner_holds (Data zero) rank i s inner holds = absurd (omega (arith, inner))
inner_holds (Data (suc level)) rank i s inner holds = let h : suc level ≤ 4 = holds in omega (arith, h)
inner_holds (Dir zero) rank i s inner holds = absurd (omega (arith, inner))
inner_holds (Dir (suc level)) rank i s inner holds = let h : suc level ≤ 4 = holds in omega (arith, h)
inner_holds Root rank i s inner holds = absurd inner

-- what a block of pointers names is next
pub pointers_next : (done : Stored) (c : Content) (spot next : Spot) (j : ℕ) (t : Slot) → IsInner spot.kind → KindHolds spot.kind → NamesMissing done spot.kind c next.at
    → next.kind ≡ (place_below (place_of spot) j t).kind → next.rank ≡ (place_below (place_of spot) j t).rank → NamesNext done c spot next
pointers_next done c spot next j t inner holds m kind_is rank_is =
    let same : next.kind ≡ (place_below (place_of spot) m.i (c.slot m.i)).kind = kind_is ∙ inner_kind spot.kind spot.rank j m.i t (c.slot m.i) inner in record {
      i = m.i;
      leads = m.leads;
      kind_is = same;
      rank_is = rank_is ∙ inner_rank spot.kind spot.rank j m.i t (c.slot m.i) inner;
      holds = subst KindHolds (sym same) (inner_holds spot.kind spot.rank m.i (c.slot m.i) inner holds);
      none = subst (λ (k : Kind). found done next.at (arena_code k) ≡ None) (sym same) (subst (λ (n : ℕ). found done next.at n ≡ None) (inner_code spot.kind spot.rank m.i (c.slot m.i) inner) m.none);
    }

top_code : (dir : Bool) (depth : ℕ) → cond dir (8 + depth) depth ≡ arena_code (cond dir (Dir depth) (Data depth))
top_code true depth = refl
top_code false depth = refl

top_holds : (dir : Bool) (depth : ℕ) → depth ≤ 4 → KindHolds (cond dir (Dir depth) (Data depth))
top_holds true depth le = le
top_holds false depth le = le

-- a block that names sources
abbrev pub IsTops : Kind → Type 0
IsTops (Data level) = ⊥
IsTops (Dir zero) = Unit {0}
IsTops (Dir (suc level)) = ⊥
IsTops Root = Unit {0}

tops_kind : (kind : Kind) (rank i : ℕ) (e : Entry) → IsTops kind → cond e.dir (Dir e.depth) (Data e.depth) ≡ (place_below (place kind 0 0 rank) i (Head e)).kind
tops_kind (Data level) rank i e tops = absurd tops
tops_kind (Dir zero) rank i e tops = refl
tops_kind (Dir (suc level)) rank i e tops = absurd tops
tops_kind Root rank i e tops = refl

-- what a leaf of entries or a root block names is next
pub top_next : (done : Stored) (c : Content) (spot next : Spot) (m : Missing) → IsTops spot.kind → NamesTop done c m → m.entry.top ≡ Local next.at
    → next.kind ≡ (place_below (place_of spot) m.i (Head m.entry)).kind → next.rank ≡ (place_below (place_of spot) m.i (Head m.entry)).rank → NamesNext done c spot next
top_next done c spot next m tops n at_is kind_is rank_is =
    let e = m.entry in
    let is_top : next.kind ≡ cond e.dir (Dir e.depth) (Data e.depth) = kind_is ∙ sym (tops_kind spot.kind spot.rank m.i e tops) in
    let same_at : n.at ≡ next.at = local_is (sym n.leads ∙ at_is) in record {
      i = m.i;
      leads = ap (λ (s : Slot). target s) n.slot_is ∙ at_is;
      kind_is = subst (λ (s : Slot). next.kind ≡ (place_below (place_of spot) m.i s).kind) (sym n.slot_is) kind_is;
      rank_is = subst (λ (s : Slot). next.rank ≡ (place_below (place_of spot) m.i s).rank) (sym n.slot_is) rank_is;
      holds = subst KindHolds (sym is_top) (top_holds e.dir e.depth n.shallow);
      none = subst (λ (k : Kind). found done next.at (arena_code k) ≡ None) (sym is_top)
          (subst (λ (code : ℕ). found done next.at code ≡ None) (top_code e.dir e.depth) (subst (λ (at : ℕ). found done at (code_of e) ≡ None) same_at n.none));
    }
  where
    local_is : {a b : ℕ} → Local a ≡ Local b → a ≡ b
    local_is e = cc

-- kind and rank below a block are determined by its kind and rank
below_kind : (kind : Kind) (tag index rank i : ℕ) (s : Slot) → (place_below (place kind tag index rank) i s).kind ≡ (place_below (place kind 0 0 rank) i s).kind
below_kind (Data zero) tag index rank i s = refl
below_kind (Data (suc level)) tag index rank i s = refl
below_kind (Dir zero) tag index rank i s = refl
below_kind (Dir (suc level)) tag index rank i s = refl
below_kind Root tag index rank i s = refl

below_rank : (kind : Kind) (tag index rank i : ℕ) (s : Slot) → (place_below (place kind tag index rank) i s).rank ≡ (place_below (place kind 0 0 rank) i s).rank
below_rank (Data zero) tag index rank i s = refl
below_rank (Data (suc level)) tag index rank i s = refl
below_rank (Dir zero) tag index rank i s = refl
below_rank (Dir (suc level)) tag index rank i s = refl
below_rank Root tag index rank i s = refl

-- the place below, by kind and rank of the spot
spot_kind : (p : Place) (spot : Spot) (i : ℕ) (s : Slot) → p.kind ≡ spot.kind → p.rank ≡ spot.rank → (place_below p i s).kind ≡ (place_below (place_of spot) i s).kind
spot_kind p spot i s kind_is rank_is = below_kind p.kind p.tag p.index p.rank i s ∙ ap (λ (k : Kind). (place_below (place k 0 0 p.rank) i s).kind) kind_is ∙ ap (λ (r : ℕ). (place_below (place spot.kind 0 0 r) i s).kind) rank_is

spot_rank : (p : Place) (spot : Spot) (i : ℕ) (s : Slot) → p.kind ≡ spot.kind → p.rank ≡ spot.rank → (place_below p i s).rank ≡ (place_below (place_of spot) i s).rank
spot_rank p spot i s kind_is rank_is = below_rank p.kind p.tag p.index p.rank i s ∙ ap (λ (k : Kind). (place_below (place k 0 0 p.rank) i s).rank) kind_is ∙ ap (λ (r : ℕ). (place_below (place spot.kind 0 0 r) i s).rank) rank_is

-- what a reached block names is reached
pub reached_next : {s : State} {done : Stored} (root : ℕ) (spot next : Spot) → NamesNext done (s.now spot.at) spot next → IsReached s root spot → IsReached s root next
reached_next {s = s} root spot next n r = record {
  there = place_below r.there n.i ((s.now spot.at).slot n.i);
  comes = below spot.at n.i next.at r.there r.comes n.leads;
  kind_is = spot_kind r.there spot n.i ((s.now spot.at).slot n.i) r.kind_is r.rank_is ∙ sym n.kind_is;
  rank_is = spot_rank r.there spot n.i ((s.now spot.at).slot n.i) r.kind_is r.rank_is ∙ sym n.rank_is;
}

-- where ranks fall, what a block names is of lower rank
pub named_lower : {s : State} {done : Stored} (spot next : Spot) → RanksFall s.stands s.now → StandsAs s spot.kind spot.rank spot.at → NamesNext done (s.now spot.at) spot next → next.rank < spot.rank
named_lower {s = s} spot next falls is n =
    let lt = falls.each spot.at n.i next.at is.there is.stands n.leads in
    let here = spot_rank is.there spot n.i ((s.now spot.at).slot n.i) is.has_kind is.has_rank in
    omega (arith, lt, here, n.rank_is, is.has_rank)

-- a path is one in the same image
pub comes_same : (image other : Image) (root at : ℕ) (p : Place) → SameImage other image → Comes image root at p → Comes other root at p
comes_same image other root _ _ same top = top
comes_same image other root _ _ same (below a i b p comes leads) =
    let slot_is : (other a).slot i ≡ (image a).slot i = (same.each a).slots i in
    subst (λ (s : Slot). Comes other root b (place_below p i s)) slot_is
    (below a i b p (comes_same image other root a p same comes) (ap (λ (s : Slot). target s) slot_is ∙ leads))

pub reached_looks : {a b : State} (root : ℕ) (spot : Spot) → Looks a b → a.tells → IsReached a root spot → IsReached b root spot
reached_looks {a = a} {b = b} root spot looks told r = record { there = r.there; comes = comes_same a.now b.now root spot.at r.there (looks.memory told) r.comes; kind_is = r.kind_is; rank_is = r.rank_is }

pub snapshot_keeps : {a b : State} (root : ℕ) → KeepsAll a b → IsSnapshot a root → IsSnapshot b root
snapshot_keeps root keeps is = ((keeps.same_tops root).1 is.0, is.1)

pub of_snapshot_looks : {a b : State} (spot : Spot) → KeepsAll a b → Looks a b → a.tells → IsOfSnapshot a spot → IsOfSnapshot b spot
of_snapshot_looks spot keeps looks told is = record { root = is.root; kept = snapshot_keeps is.root keeps is.kept; reached = reached_looks is.root spot looks told is.reached }

pub of_snapshot_stands : {s : State} (spot : Spot) → IsPlaced s.stands s.now → ((t : ℕ) → s.tops t → t ≢ 1 → s.stands t root_place) → IsOfSnapshot s spot → StandsAs s spot.kind spot.rank spot.at
of_snapshot_stands {s = s} spot placed tops is = record {
  there = is.reached.there;
  stands = reached_stands s.stands s.now is.root spot.at is.reached.there placed (tops is.root is.kept.0 is.kept.1) is.reached.comes;
  has_kind = is.reached.kind_is;
  has_rank = is.reached.rank_is;
}
