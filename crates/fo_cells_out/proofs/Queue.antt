-- Removals stay behind over each step, and the first one's blocks stand nowhere once its block is set.
use Rattle.std.proofs.Common.{◌≡◌, ◌⊎◌, inl, inr, ⊎_elim, ℕ, List, [], ◌∷◌, ◌++◌, sym, subst, arith}
use Rattle.std.proofs.lemmas.Bool.{cases_eq}
use Rattle.std.specs.List.{Contains}
use Rattle.fo_image.specs.declared.types.Pointer.TheVariants.{Local}
use Rattle.fo_crash.specs.declared.slot.Slot.{Slot}
use Rattle.fo_crash.specs.declared.place.Place.{Place}
use Rattle.fo_crash.specs.Images.{target}
use Rattle.fo_cells.specs.Known.{Known, Top, MaySlot, Stands}
use Rattle.fo_cells_out.specs.Removals.{Pending, IsBehind, AreBehind, IsCovered}
use Rattle.fo_cells.proofs.Standing.{first_among, next_among, among_cases}
use Rattle.fo_cells.proofs.Closing.{IsCutOff, cut_off}

pub nothing_among : {X : Type 0} (x : X) → Contains [] x → ⊥
nothing_among x (k, lt, is) = omega arith

-- what one of two lists has
pub among_left : (xs ys : List ℕ) (x : ℕ) → Contains xs x → Contains (xs ++ ys) x
among_left [] ys x h = absurd (nothing_among x h)
among_left (z ∷ xs) ys x h = ⊎_elim (λ e. subst (λ v. Contains (z ∷ xs ++ ys) v) e (first_among z (xs ++ ys))) (λ more. next_among z x (xs ++ ys) (among_left xs ys x more)) (among_cases z xs x h)

pub among_right : (xs ys : List ℕ) (x : ℕ) → Contains ys x → Contains (xs ++ ys) x
among_right [] ys x h = h
among_right (z ∷ xs) ys x h = next_among z x (xs ++ ys) (among_right xs ys x h)

pub among_either : (xs ys : List ℕ) (x : ℕ) → Contains (xs ++ ys) x → Contains xs x ⊎ Contains ys x
among_either [] ys x h = inr h
among_either (z ∷ xs) ys x h = ⊎_elim
    (λ e. inl (subst (λ v. Contains (z ∷ xs) v) e (first_among z xs)))
    (λ more. ⊎_elim (λ l. inl (next_among z x xs l)) (λ r. inr r) (among_either xs ys x more))
    (among_cases z (xs ++ ys) x h)

-- A step after which nothing stands anew, each slot that may be there was or leads to no covered block, and so do memory's slots.
pub record Passes (queue : List Pending) (old new : Known) : Type 0 where
  pub stands : (b : ℕ) (q : Place) → Stands new b q → Stands old b q
  pub may : (a i : ℕ) (s : Slot) (p : Place) (b : ℕ) → Stands new a p → MaySlot new a i s → target s ≡ Local b → IsCovered queue b → MaySlot old a i s
  pub memory : (a i b : ℕ) → target ((new.memory a).slot i) ≡ Local b → IsCovered queue b → target ((old.memory a).slot i) ≡ Local b
  pub tops : (t : Top) → Contains new.tops t → IsCovered queue t.at → Contains old.tops t

pub behind_still : (queue all : List Pending) (earlier : List ℕ) {old new : Known} → ((b : ℕ) → IsCovered queue b → IsCovered all b) → Passes all old new → AreBehind old earlier queue → AreBehind new earlier queue
behind_still [] all earlier inside p h = tt
behind_still (r ∷ rs) all earlier {old} {new} inside p h = (
  record {
    only = λ a i b s q st may e is. h.0.only a i b s q (p.stands a q st) (p.may a i s q b st may e (inside b (inl is))) e is;
    away = λ i b e is. h.0.away i b (p.memory r.after i b e (inside b (inl is))) is;
    tops = λ t k is. h.0.tops t (p.tops t k (inside t.at (inl is))) is;
  },
  behind_still rs all (earlier ++ r.blocks) (λ b c. inside b (inr c)) p h.1,
)

-- CLOSING
-- One removal's blocks, of which each is decided
within : (xs : List ℕ) (b : ℕ) → Contains xs b ⊎ (Contains xs b → ⊥)
within [] b = inr (nothing_among b)
within (x ∷ xs) b = ⊎_elim
    (λ e. inl (subst (λ v. Contains (x ∷ xs) v) e (first_among x xs)))
    (λ ne. ⊎_elim (λ h. inl (next_among x b xs h)) (λ no. inr (λ h. ⊎_elim (λ e. ne e) (λ more. no more) (among_cases x xs b h))) (within xs b))
    (cases_eq x b)

-- The first removal's blocks stand nowhere once the block after which it comes is set: all its slots that may be there are memory's.
pub first_nowhere : {k : Known} (r : Pending) → IsBehind k [] r → ((i : ℕ) (s : Slot) → MaySlot k r.after i s → s ≡ (k.memory r.after).slot i) → (b : ℕ) (q : Place) → Stands k b q → Contains r.blocks b → ⊥
first_nowhere {k} r h set b q st is =
    let cut : IsCutOff k (λ a. Contains r.blocks a) r.after = record {
      decided = λ a. within r.blocks a;
      only = λ a i c s p at may e among. h.only a i c s p at may e among;
      set = set;
      away = h.away;
      tops = h.tops;
    } in
    cut_off cut b q st is

-- A block that stands nowhere is closed: the removals stay behind without it.
pub without_block : (queue : List Pending) (earlier shorter : List ℕ) {k : Known} → ((a : ℕ) (p : Place) → Stands k a p → Contains earlier a → Contains shorter a) → AreBehind k earlier queue → AreBehind k shorter queue
without_block [] earlier shorter still h = tt
without_block (r ∷ rs) earlier shorter {k} still h = (
  record {
    only = λ a i b s p st may e is. ⊎_elim
        (λ among. inl (⊎_elim (λ l. among_left shorter r.blocks a (still a p st l)) (λ own. among_right shorter r.blocks a own) (among_either earlier r.blocks a among)))
        (λ e. inr e)
        (h.0.only a i b s p st may e is);
    away = h.0.away;
    tops = h.0.tops;
  },
  without_block rs (earlier ++ r.blocks) (shorter ++ r.blocks) (λ a p st c. ⊎_elim (λ l. among_left shorter r.blocks a (still a p st l)) (λ own. among_right shorter r.blocks a own) (among_either earlier r.blocks a c)) h.1,
)

-- The first removal's next block is closed.
pub close_next : {k : Known} (b : ℕ) (bs : List ℕ) (after : ℕ) (rs : List Pending) → ((q : Place) → Stands k b q → ⊥) → AreBehind k [] (record { blocks = b ∷ bs; after = after } ∷ rs) → AreBehind k [] (record { blocks = bs; after = after } ∷ rs)
close_next {k} b bs after rs nowhere h = (
  record {
    only = λ a i c s p st may e is. ⊎_elim
        (λ among. ⊎_elim (λ same. absurd (nowhere p (subst (λ x. Stands k x p) (sym same) st))) (λ more. inl more) (among_cases b bs a among))
        (λ e. inr e)
        (h.0.only a i c s p st may e (next_among b c bs is));
    away = λ i c e is. h.0.away i c e (next_among b c bs is);
    tops = λ t k is. h.0.tops t k (next_among b t.at bs is);
  },
  without_block rs (b ∷ bs) bs (λ a p st c. ⊎_elim (λ same. absurd (nowhere p (subst (λ x. Stands k x p) (sym same) st))) (λ more. more) (among_cases b bs a c)) h.1,
)

-- A removal with nothing left is gone.
pub drop_first : {k : Known} (after : ℕ) (rs : List Pending) → AreBehind k [] (record { blocks = []; after = after } ∷ rs) → AreBehind k [] rs
drop_first after rs h = h.1

-- PUSHING
pub push : (queue : List Pending) (earlier : List ℕ) {k : Known} (r : Pending) → AreBehind k earlier queue → (((all : List ℕ) → ((b : ℕ) → IsCovered queue b ⊎ Contains earlier b → Contains all b) → IsBehind k all r)) → AreBehind k earlier (queue ++ r ∷ [])
push [] earlier r h one = (one earlier (λ b c. ⊎_elim (λ none. absurd none) (λ is. is) c), tt)
push (x ∷ xs) earlier {k} r h one = (
  h.0,
  push xs (earlier ++ x.blocks) r h.1 (λ all inside. one all (λ b c. ⊎_elim
      (λ cov. ⊎_elim (λ own. inside b (inr (among_right earlier x.blocks b own))) (λ rest. inside b (inl rest)) cov)
      (λ is. inside b (inr (among_left earlier x.blocks b is)))
      c)),
)
