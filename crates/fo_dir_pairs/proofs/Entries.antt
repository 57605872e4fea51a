-- Entries in the same use, and leaves with no record.
use Rattle.std.proofs.Common.{◌≡◌, ℕ, zero, suc, ◌+◌, ◌*◌, ◌%◌, List, [], ◌++◌, Contains, replicate, refl, sym, ◌∙◌, ap, subst, arith}
use Rattle.std.proofs.lemmas.List.{replicate-append-replicate}
use Rattle.fo_image.specs.Field.{Two, number, zeros}
use Rattle.fo_image.specs.declared.types.Entry.{Entry}
use Rattle.fo_image.specs.declared.types.Kind.{Kind}
use Rattle.fo_image.specs.declared.types.Kind.TheVariants.{Data, Dir, Root}
use Rattle.fo_image.specs.declared.record.Record.{Record}
use Rattle.fo_meta.specs.Leaf.{SpellsLeaf}
use Rattle.fo_good.specs.of_world.Step.{is_dir_mode}
use Rattle.fo_good.specs.Reading.{leaf_records}
use Rattle.fo_good.specs.Trees.{IsFirst, IsSecond}
use Rattle.fo_good.proofs.Leaf.{leaf_is_read}
use Rattle.fo_crash.specs.declared.slot.Slot.{Slot}
use Rattle.fo_crash.specs.declared.slot.Slot.TheVariants.{Pointer as To, Entry as Head, Prev}
use Rattle.fo_crash.specs.Images.{Image}
use Rattle.fo_crash.specs.Names.{SameUse}
use Rattle.fo_crash.specs.Places.{place}
use Rattle.fo_crash.specs.Spots.{Spot, spot_below}
use Rattle.fo_ports.specs.Blocks.{zero_bytes}
use Rattle.fo_dir_put.specs.Paired.{HasBoth}

-- ---- the same use

pub use_back : (s t : Slot) → SameUse s t → SameUse t s
use_back (Head e) (Head f) u = (sym u.0, sym u.1, sym u.2, sym u.3)
use_back (Head e) (To p) u = absurd (cc)
use_back (Head e) (Prev n a) u = absurd (cc)
use_back (To q) (Head f) u = absurd (cc)
use_back (To q) (To p) u = sym u
use_back (To q) (Prev n a) u = absurd (cc)
use_back (Prev m b) (Head f) u = absurd (cc)
use_back (Prev m b) (To p) u = absurd (cc)
use_back (Prev m b) (Prev n a) u = sym u

first_use : (s t : Slot) (r : Record) → SameUse s t → IsFirst t r → IsFirst s r
first_use (Head e) (Head f) r u h = (u.1 ∙ h.0, u.0 ∙ h.1, u.2 ∙ h.2, u.3 ∙ h.3)
first_use s (To p) r u h = absurd h
first_use s (Prev n a) r u h = absurd h
first_use (To q) (Head f) r u h = absurd (cc)
first_use (Prev m b) (Head f) r u h = absurd (cc)

second_use : (s t : Slot) (r : Record) → SameUse s t → IsSecond t r → IsSecond s r
second_use (Head e) (Head f) r u h = (u.1 ∙ h.0, u.2 ∙ h.1, λ a. u.3 ∙ h.2 (sym u.1 ∙ a))
second_use s (To p) r u h = absurd h
second_use s (Prev n a) r u h = absurd h
second_use (To q) (Head f) r u h = absurd (cc)
second_use (Prev m b) (Head f) r u h = absurd (cc)

-- a pair in the same use is the pair of the same record
pub both_use : {d e : ℕ} {x y : Image} {r : Record} → ((i : ℕ) → SameUse ((y e).slot i) ((x d).slot i)) → HasBoth d x r → HasBoth e y r
both_use {d} {e} {x} {y} {r} same h = record {
  first = first_use ((y e).slot (2 * (r.slot % 102))) ((x d).slot (2 * (r.slot % 102))) r (same (2 * (r.slot % 102))) h.first;
  second = second_use ((y e).slot (2 * (r.slot % 102) + 1)) ((x d).slot (2 * (r.slot % 102) + 1)) r (same (2 * (r.slot % 102) + 1)) h.second;
}

pub both_used : {d e : ℕ} {x y : Image} {r : Record} → SameUse ((y e).slot (2 * (r.slot % 102))) ((x d).slot (2 * (r.slot % 102))) → SameUse ((y e).slot (2 * (r.slot % 102) + 1)) ((x d).slot (2 * (r.slot % 102) + 1)) → HasBoth d x r → HasBoth e y r
both_used {d} {e} {x} {y} {r} one two h = record {
  first = first_use ((y e).slot (2 * (r.slot % 102))) ((x d).slot (2 * (r.slot % 102))) r one h.first;
  second = second_use ((y e).slot (2 * (r.slot % 102) + 1)) ((x d).slot (2 * (r.slot % 102) + 1)) r two h.second;
}

-- an entry in use, as another slot has it
pub record UsedAs (e : Entry) (t : Slot) : Type 0 where
  pub entry : Entry
  pub is : t ≡ Head entry
  pub active : entry.active ≡ e.active
  pub dir : entry.dir ≡ e.dir
  pub tag : entry.tag ≡ e.tag

pub used_as : (e : Entry) (t : Slot) → SameUse (Head e) t → UsedAs e t
used_as e (Head f) u = record { entry = f; is = refl; active = sym u.1; dir = sym u.2; tag = sym u.3 }
used_as e (To p) u = absurd (cc)
used_as e (Prev n a) u = absurd (cc)

-- the numbers of the entries on the way don't depend on what a slot has
trail_at : (kind : Kind) (tag index rank : ℕ) (trail : List ℕ) (i : ℕ) (s t : Slot) → (spot_below (record { place = place kind tag index rank; trail = trail }) i s).trail ≡ (spot_below (record { place = place kind tag index rank; trail = trail }) i t).trail
trail_at (Data level) tag index rank trail i s t = refl
trail_at (Dir zero) tag index rank trail i s t = refl
trail_at (Dir (suc level)) tag index rank trail i s t = refl
trail_at Root tag index rank trail i s t = refl

pub trail_same : (p : Spot) (i : ℕ) (s t : Slot) → (spot_below p i s).trail ≡ (spot_below p i t).trail
trail_same p i s t = trail_at p.place.kind p.place.tag p.place.index p.place.rank p.trail i s t

-- ---- a leaf of zeros has no record

zeros_are : (xs : List ℕ) (n : ℕ) → xs ≡ replicate n 0 → xs ≡ zeros n
unfolding zeros
zeros_are xs n e = e

zeros-append : (m n : ℕ) → zeros m ++ zeros n ≡ zeros (m + n)
unfolding zeros
zeros-append m n = replicate-append-replicate m n 0

four : (xs : List ℕ) → zeros 4 ++ xs ≡ number Two 0 ++ (number Two 0 ++ xs)
unfolding zeros
four xs = refl

zero_is : (xs : List ℕ) → xs ≡ zero_bytes → xs ≡ replicate 8192 0
unfolding zero_bytes
zero_is xs e = e

no_records : (xs : List ℕ) → xs ≡ zero_bytes → SpellsLeaf [] xs
no_records xs e = record { each = tt; room = omega arith; bytes_are = zeros_are xs 8192 (zero_is xs e) ∙ sym (zeros-append 4 8188) ∙ four (zeros 8188) }

none_there : (r : Record) → Contains [] r → ⊥
none_there r has = let lt = has.1 in omega (arith, lt)

pub none_listed : (xs : List ℕ) (r : Record) → xs ≡ zero_bytes → Contains (leaf_records xs) r → ⊥
none_listed xs r e has = none_there r (subst (λ ys. Contains ys r) (leaf_is_read [] xs (no_records xs e)) has)

-- ---- one record, another record, another image

pub use_same : (s t : Slot) → s ≡ t → SameUse s t
use_same s t e = subst (λ x. SameUse s x) e (itself s)
  where
    itself : (s : Slot) → SameUse s s
    itself (Head e) = (refl, refl, refl, refl)
    itself (To p) = refl
    itself (Prev n a) = refl

first_as : (s : Slot) (r q : Record) → q.generation ≡ r.generation → q.number ≡ r.number → is_dir_mode q.mode ≡ is_dir_mode r.mode → IsFirst s q → IsFirst s r
first_as (Head e) r q generation number dir h = (h.0, h.1 ∙ generation, h.2 ∙ dir, h.3 ∙ ap (λ n. 32 + 2 * n) number)
first_as (To p) r q generation number dir h = absurd h
first_as (Prev n a) r q generation number dir h = absurd h

second_as : (s : Slot) (r q : Record) → q.number ≡ r.number → is_dir_mode q.mode ≡ is_dir_mode r.mode → IsSecond s q → IsSecond s r
second_as (Head e) r q number dir h = (h.0 ∙ dir, h.1, λ a. h.2 a ∙ ap (λ n. 33 + 2 * n) number)
second_as (To p) r q number dir h = absurd h
second_as (Prev n a) r q number dir h = absurd h

-- the pair of a record that stood is that of the record now
pub both_stood : {e : ℕ} {x : Image} {r q : Record} → q.slot ≡ r.slot → q.generation ≡ r.generation → q.number ≡ r.number → is_dir_mode q.mode ≡ is_dir_mode r.mode → HasBoth e x q → HasBoth e x r
both_stood {e = e} {x = x} {r = r} {q = q} slot generation number dir h = record {
  first = first_as ((x e).slot (2 * (r.slot % 102))) r q generation number dir (subst (λ k. IsFirst ((x e).slot (2 * (k % 102))) q) slot h.first);
  second = second_as ((x e).slot (2 * (r.slot % 102) + 1)) r q number dir (subst (λ k. IsSecond ((x e).slot (2 * (k % 102) + 1)) q) slot h.second);
}
