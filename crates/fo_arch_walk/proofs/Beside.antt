-- Blocks beside one that is ready, and a batch that grows.
use Rattle.std.proofs.Common.{◌≡◌, ◌==◌, ◌&&◌, ◌||◌, ℕ, zero, suc, ◌<◌, ◌≤◌, Bool, true, false, cond, List, [], ◌∷◌, ◌++◌, map, refl, sym, ◌∙◌, ap, subst, arith}
use Rattle.std.proofs.lemmas.Bool.Decides.{Decides-eqb}
use Rattle.std.specs.Prelude.{Option, Some, None, Result, Ok, Err, IfErr}
use Rattle.fo_base.specs.Cause.{Rose}
use Rattle.fo_crash.specs.declared.place.Place.{Place}
use Rattle.fo_ports.specs.declared.error.BlockError.{BlockError}
use Rattle.fo_ports.specs.declared.error.BlockError.TheVariants.{Full, Damaged, Fault, Arena as Wrong, Memory}
use Rattle.fo_ports.specs.Causes.{Caused}
use Rattle.fo_tree_read.specs.Tree.{Failed}
use Rattle.std.specs.Option.{is_some}
use Rattle.std.specs.List.{AllByRecursion, list_any}
use Rattle.fo_image.specs.declared.types.Kind.{Kind}
use Rattle.fo_image.specs.declared.types.Kind.TheVariants.{Data, Dir, Root}
use Rattle.fo_image.specs.declared.types.Pointer.TheVariants.{Nil, Local}
use Rattle.fo_image.specs.Format.{KindHolds}
use Rattle.fo_crash.specs.declared.slot.Slot.{Slot}
use Rattle.fo_crash.specs.declared.slot.Slot.TheVariants.{Pointer as To, Entry as Head, Prev}
use Rattle.fo_crash.specs.Images.{Content, SameContent, target}
use Rattle.fo_crash.specs.Places.{place, place_below}
use Rattle.fo_ports.specs.Blocks.{slot_count, SlotFits, IsEntry, IsPrev}
use Rattle.fo_ports.specs.State.{State, KeepsAll, Looks}
use Rattle.fo_slots.specs.Read.{IsSlot, IsInRange, slot_bytes}
use Rattle.fo_slots.proofs.Meaning.{meant}
use Rattle.fo_slots.proofs.Putting.{slot_read}
use Rattle.fo_arch_hash.specs.Batch.{kept}
use Rattle.fo_arch_hash.specs.Form.{IsStored}
use Rattle.fo_arch_hash.specs.declared.types.Piece.{Piece}
use Rattle.fo_arch_form.specs.declared.stored.Stored.{Stored}
use Rattle.fo_arch_form.specs.Stored.{found}
use Rattle.fo_arch_walk.specs.declared.spot.Spot.{Spot}
use Rattle.fo_arch_walk.specs.Forms.{IsForm}
use Rattle.fo_arch_walk.specs.Pieces.{Kept, IsPiece, AreFresh, AreApart, IsApartFrom}
use Rattle.fo_arch_walk.specs.Siblings.{IsChild, WasGot, Batching}
use Rattle.fo_arch_walk.specs.Spots.{arena_code, place_of, IsOpen, NamesNext, Finds}
use Rattle.fo_arch_walk.proofs.Steps.{reached_next}
use Rattle.fo_arch_walk.proofs.Opening.{open_looks}

-- ---- a child

top_kind : (dir : Bool) (depth : ℕ) → depth ≤ 4 → KindHolds (cond dir (Dir depth) (Data depth))
top_kind true depth le = le
top_kind false depth le = le

entry_kind : (s : Slot) (i rank : ℕ) → IsEntry s → KindHolds (place_below (place (Dir zero) 0 0 rank) i s).kind
entry_kind (Head e) i rank fits = top_kind e.dir e.depth fits.1
entry_kind (To p) i rank fits = absurd fits
entry_kind (Prev epoch at) i rank fits = absurd fits

root_kind : (s : Slot) (i rank : ℕ) → IsEntry s → KindHolds (place_below (place Root 0 0 rank) i s).kind
root_kind (Head e) i rank fits = top_kind e.dir e.depth fits.1
root_kind (To p) i rank fits = absurd fits
root_kind (Prev epoch at) i rank fits = absurd fits

prev_kind : (s : Slot) (i rank : ℕ) → IsPrev s → KindHolds (place_below (place Root 0 0 rank) i s).kind
prev_kind (Prev epoch at) i rank fits = tt
prev_kind (To p) i rank fits = absurd fits
prev_kind (Head e) i rank fits = absurd fits

below_holds : (kind : Kind) (rank i : ℕ) (s : Slot) → KindHolds kind → SlotFits kind i s → KindHolds (place_below (place kind 0 0 rank) i s).kind
below_holds (Data zero) rank i s holds fits = omega arith
below_holds (Data (suc level)) rank i s holds fits = let h : suc level ≤ 4 = holds in omega (arith, h)
below_holds (Dir zero) rank i s holds fits = entry_kind s i rank fits
below_holds (Dir (suc level)) rank i s holds fits = let h : suc level ≤ 4 = holds in omega (arith, h)
below_holds Root rank zero s holds fits = root_kind s zero rank fits
below_holds Root rank (suc zero) s holds fits = root_kind s 1 rank fits
below_holds Root rank (suc (suc i)) s holds fits = prev_kind s (suc (suc i)) rank fits

pub child_holds : {above : Spot} {bytes : List ℕ} {i : ℕ} {child : Spot} → KindHolds above.kind → IsChild above bytes i child → KindHolds child.kind
child_holds {above = above} {i = i} holds c = subst KindHolds (sym c.kind_is) (below_holds above.kind above.rank i c.slot holds c.is.fits)

-- a slot that leads to a block has no numbers of a root before
in_range : (s : Slot) (at : ℕ) → target s ≡ Local at → IsInRange s
in_range (To p) at leads = tt
in_range (Head e) at leads = tt
in_range (Prev epoch b) at leads = absurd (nothing leads)
  where
    nothing : Nil ≡ Local at → ⊥
    nothing e = cc

-- what the slot of a kind with numbers in range is, where the other leads to a block
other_range : (kind : Kind) (i : ℕ) (s t : Slot) (at : ℕ) → SlotFits kind i s → SlotFits kind i t → target s ≡ Local at → IsInRange t
other_range kind i s (To p) at fits also leads = tt
other_range kind i s (Head e) at fits also leads = tt
other_range (Data level) i s (Prev epoch b) at fits also leads = absurd also
other_range (Dir zero) i s (Prev epoch b) at fits also leads = absurd also
other_range (Dir (suc level)) i s (Prev epoch b) at fits also leads = absurd also
other_range Root zero s (Prev epoch b) at fits also leads = absurd also
other_range Root (suc zero) s (Prev epoch b) at fits also leads = absurd also
other_range Root (suc (suc i)) (Prev x y) (Prev epoch b) at fits also leads = absurd (nothing leads)
  where
    nothing : Nil ≡ Local at → ⊥
    nothing e = cc
other_range Root (suc (suc i)) (To p) (Prev epoch b) at fits also leads = absurd fits
other_range Root (suc (suc i)) (Head e) (Prev epoch b) at fits also leads = absurd fits

same_slot : (kind : Kind) (i : ℕ) (bytes : List ℕ) (s t : Slot) (at : ℕ) → IsSlot kind bytes i s → IsSlot kind bytes i t → target s ≡ Local at → t ≡ s
same_slot kind i bytes s t at is also leads =
    sym (meant kind i t (slot_bytes kind i bytes) also.fits (other_range kind i s t at is.fits also.fits leads) also.spelled)
    ∙ meant kind i s (slot_bytes kind i bytes) is.fits (in_range s at leads) is.spelled

module _ {done : Stored} {s : State} {root : ℕ} {above : Spot} {bytes : List ℕ} (g : WasGot done s root above bytes) {i : ℕ} (lt : i < slot_count above.kind) {child : Spot} (c : IsChild above bytes i child) where
  slot_is : g.content.slot i ≡ c.slot
  slot_is = same_slot above.kind i bytes c.slot (g.content.slot i) child.at c.is (slot_read above.kind g.content bytes i g.slots lt) c.leads

  pub child_open : child.rank < above.rank → found done child.at (arena_code child.kind) ≡ None → IsOpen done s root child
  child_open lower none = record {
    is_one = g.names i child.at lt (ap (λ (x : Slot). target x) slot_is ∙ c.leads);
    holds = child_holds g.here.holds c;
    low = omega (arith, lower, g.here.low);
    none = none;
    told = λ tells.
        let here : (s.now above.at).slot i ≡ c.slot = (g.known tells).slots i ∙ slot_is in
        let n : NamesNext done (s.now above.at) above child = record {
          i = i;
          leads = ap (λ (x : Slot). target x) here ∙ c.leads;
          kind_is = subst (λ (x : Slot). child.kind ≡ (place_below (place_of above) i x).kind) (sym here) c.kind_is;
          rank_is = subst (λ (x : Slot). child.rank ≡ (place_below (place_of above) i x).rank) (sym here) c.rank_is;
          holds = child_holds g.here.holds c;
          none = none;
        } in
        reached_next root above child n (g.here.told tells);
  }

content_joins : {a b c : Content} → SameContent a b → SameContent b c → SameContent a c
content_joins p q = record { bytes = p.bytes ∙ q.bytes; slots = λ i. p.slots i ∙ q.slots i }

pub got_looks : {a b : State} (done : Stored) (root : ℕ) (above : Spot) (bytes : List ℕ) → KeepsAll a b → Looks a b → WasGot done a root above bytes → WasGot done b root above bytes
got_looks done root above bytes keeps looks g = record {
  here = open_looks done root above keeps looks g.here;
  content = g.content;
  slots = g.slots;
  known = λ tells. let told = keeps.still_tells.0 tells in content_joins ((looks.memory told).each above.at) (g.known told);
  names = λ i b lt leads. (keeps.same_blocks b).1 (g.names i b lt leads);
}

-- ---- a batch

piece_looks : {a b : State} (done : Stored) (root : ℕ) (p : Piece) → KeepsAll a b → Looks a b → IsPiece done a root p → IsPiece done b root p
piece_looks done root p keeps looks is = record {
  spot = is.spot;
  at_is = is.at_is;
  code_is = is.code_is;
  here = open_looks done root is.spot keeps looks is.here;
  content = is.content;
  known = λ tells. let told = keeps.still_tells.0 tells in content_joins ((looks.memory told).each is.spot.at) (is.known told);
  is = is.is;
}

each_looks : {a b : State} (done : Stored) (root : ℕ) (pieces : List Piece) → KeepsAll a b → Looks a b → AllByRecursion (IsPiece done a root) pieces → AllByRecursion (IsPiece done b root) pieces
each_looks done root [] keeps looks all = tt
each_looks done root (p ∷ pieces) keeps looks all = (piece_looks done root p keeps looks all.0, each_looks done root pieces keeps looks all.1)

pub batching_looks : {a b : State} (done : Stored) (root : ℕ) (pieces : List Piece) → KeepsAll a b → Looks a b → Batching done a root pieces → Batching done b root pieces
batching_looks done root pieces keeps looks h = record { each = each_looks done root pieces keeps looks h.each; fresh = h.fresh; apart = h.apart }

all_push : (P : Piece → Type 0) (xs : List Piece) (p : Piece) → AllByRecursion P xs → P p → AllByRecursion P (xs ++ p ∷ [])
all_push P [] p all is = (is, tt)
all_push P (x ∷ xs) p all is = (all.0, all_push P xs p all.1 is)

fresh_push : (done : Stored) (xs : List Piece) (p : Piece) → AreFresh done (map kept xs) → found done p.at p.kind ≡ None → AreFresh done (map kept (xs ++ p ∷ []))
fresh_push done [] p all is = (is, tt)
fresh_push done (x ∷ xs) p all is = (all.0, fresh_push done xs p all.1 is)

from_push : (at kind : ℕ) (xs : List Piece) (p : Piece) → IsApartFrom at kind (map kept xs) → (p.at ≡ at → p.kind ≡ kind → ⊥) → IsApartFrom at kind (map kept (xs ++ p ∷ []))
from_push at kind [] p all is = (is, tt)
from_push at kind (x ∷ xs) p all is = (all.0, from_push at kind xs p all.1 is)

apart_push : (xs : List Piece) (p : Piece) → AreApart (map kept xs) → IsApartFrom p.at p.kind (map kept xs) → AreApart (map kept (xs ++ p ∷ []))
apart_push [] p all is = (tt, tt)
apart_push (x ∷ xs) p all is = (from_push x.at x.kind xs p all.0 (λ same_at same_kind. is.0 (sym same_at) (sym same_kind)), apart_push xs p all.1 is.1)

pub batching_push : {done : Stored} {s : State} {root : ℕ} {pieces : List Piece} (p : Piece) → Batching done s root pieces → IsPiece done s root p → IsApartFrom p.at p.kind (map kept pieces) → Batching done s root (pieces ++ p ∷ [])
batching_push {done = done} {s = s} {root = root} {pieces = pieces} p h is apart = record {
  each = all_push (IsPiece done s root) pieces p h.each is;
  fresh = fresh_push done pieces p h.fresh none;
  apart = apart_push pieces p h.apart apart;
}
  where
    none : found done p.at p.kind ≡ None
    none = subst (λ (at : ℕ). found done at p.kind ≡ None) (sym is.at_is) (subst (λ (k : ℕ). found done is.spot.at k ≡ None) (sym is.code_is) is.here.none)

-- the piece of a block by its form
pub piece_made : {done : Stored} {s : State} {root : ℕ} (spot : Spot) (form : List ℕ) (p : Piece) → IsOpen done s root spot → IsForm done spot.kind (s.now spot.at) form → p.at ≡ spot.at → p.kind ≡ arena_code spot.kind → IsStored (arena_code spot.kind) form p.bytes.items → IsPiece done s root p
piece_made {s = s} spot form p here is at_is code_is stored = record {
  spot = spot;
  at_is = at_is;
  code_is = code_is;
  here = here;
  content = s.now spot.at;
  known = λ tells. record { bytes = refl; slots = λ i. refl };
  is = record { form = form; is = is; stored = stored };
}

pub apart_along : (at code a k : ℕ) (ks : List Kept) → a ≡ at → k ≡ code → IsApartFrom at code ks → IsApartFrom a k ks
apart_along at code a k ks same_at same_code h = subst (λ (x : ℕ). IsApartFrom x k ks) (sym same_at) (subst (λ (x : ℕ). IsApartFrom at x ks) (sym same_code) h)

pub finds_none : (done : Stored) (c : Content) (spot : Spot) (form : List ℕ) (found : Option Spot) → is_some found ≡ false → Finds done c spot form found → IsForm done spot.kind c form
finds_none done c spot form None e f = f
finds_none done c spot form (Some next) e f = absurd (wrong e)
  where
    wrong : true ≡ false → ⊥
    wrong x = cc

both_true : (a b : Bool) → a ≡ true → b ≡ true → (a && b) ≡ true
both_true true true p q = refl
both_true true false p q = q
both_true false b p q = p

-- no piece was found
pub none_found : (at code : ℕ) (pieces : List Piece) → list_any (λ (p : Piece). p.at == at && p.kind == code) pieces ≡ false → IsApartFrom at code (map kept pieces)
none_found at code [] none = tt
none_found at code (p ∷ pieces) none = (first, none_found at code pieces (right _ _ none))
  where
    left : (a b : Bool) → (a || b) ≡ false → a ≡ false
    left true b e = e
    left false b e = refl

    right : (a b : Bool) → (a || b) ≡ false → b ≡ false
    right true b e = absurd (wrong e)
      where
        wrong : true ≡ false → ⊥
        wrong x = cc
    right false b e = e

    apart : true ≡ false → ⊥
    apart x = cc

    first : p.at ≡ at → p.kind ≡ code → ⊥
    first same_at same_code = apart (sym (both_true (p.at == at) (p.kind == code) ((Decides-eqb p.at at).1 same_at) ((Decides-eqb p.kind code).1 same_code)) ∙ left (p.at == at && p.kind == code) _ none)

-- why a block that stands isn't got
pub get_failed : {T : Type 0} (a b : State) (at : ℕ) → a.is_block at → (a.tells → (p : Place) × a.stands at p) → (r : Result T BlockError) → IfErr r (Caused ⊥ (λ x. (x ≡ at) × (a.tells → (p : Place) → a.stands at p → ⊥)) (Rose a.faults b.faults) ⊥) → IfErr r (Failed a b)
get_failed a b at one stands (Ok x) h = h
get_failed a b at one stands (Err Full) h = h
get_failed a b at one stands (Err (Damaged x)) h = (λ told. let s = stands told in h.1 told s.0 s.1, subst (λ (n : ℕ). a.is_block n) (sym h.0) one)
get_failed a b at one stands (Err (Fault f)) h = h
get_failed a b at one stands (Err (Wrong f)) h = h
get_failed a b at one stands (Err Memory) h = h
