-- Pieces in front of one.
use Rattle.std.proofs.Common.{◌≡◌, ℕ, zero, suc, ◌+◌, ◌<◌, List, [], ◌∷◌, ◌++◌, length, get_or, take, drop, map, refl, sym, ◌∙◌, ap, subst, arith}
use Rattle.std.specs.Prelude.{Some, None}
use Rattle.std.specs.List.{AllByRecursion}
use Rattle.fo_arch_hash.specs.Batch.{score_of, kept}
use Rattle.fo_arch_hash.specs.declared.types.Piece.{Piece}
use Rattle.fo_arch_form.specs.declared.stored.Stored.{Stored}
use Rattle.fo_arch_form.specs.Stored.{found, count_of}
use Rattle.fo_arch_walk.specs.Pieces.{AreFresh, AreApart, IsApartFrom}
use Rattle.fo_arch.specs.Forms.{StoresMore}
use Rattle.fo_arch.specs.Stores.{IsNoted, Took}
use Rattle.fo_arch.proofs.Forming.{adds_more}

-- piece i of the list
pub record IsAt (pieces : List Piece) (i : ℕ) (p : Piece) : Type 0 where
  pub rest : List Piece
  pub is : drop i pieces ≡ p ∷ rest

pub is_at : (pieces : List Piece) (i : ℕ) (p : Piece) → i < length pieces → p ≡ get_or pieces i p → IsAt pieces i p
is_at [] i p lt is = absurd (omega (arith, lt))
is_at (q ∷ pieces) zero p lt is = record { rest = pieces; is = ap (λ (x : Piece). x ∷ pieces) (sym is) }
is_at (q ∷ pieces) (suc i) p lt is = let r = is_at pieces i p (omega (arith, lt)) is in record { rest = r.rest; is = r.is }

pub all_at : (P : Piece → Type 0) (pieces : List Piece) (i : ℕ) (p : Piece) → IsAt pieces i p → AllByRecursion P pieces → P p
all_at P [] zero p at all = absurd (nothing at.is)
  where
    nothing : [] ≡ p ∷ at.rest → ⊥
    nothing e = cc
all_at P [] (suc i) p at all = absurd (nothing at.is)
  where
    nothing : [] ≡ p ∷ at.rest → ⊥
    nothing e = cc
all_at P (q ∷ pieces) zero p at all = subst P first all.0
  where
    first : q ≡ p
    first = let e : q ∷ pieces ≡ p ∷ at.rest = at.is in cc
all_at P (q ∷ pieces) (suc i) p at all = all_at P pieces i p (record { rest = at.rest; is = at.is }) all.1

-- the pieces up to the next
pub take_next : (pieces : List Piece) (i : ℕ) (p : Piece) → IsAt pieces i p → take (i + 1) pieces ≡ take i pieces ++ p ∷ []
take_next [] zero p at = absurd (nothing at.is)
  where
    nothing : [] ≡ p ∷ at.rest → ⊥
    nothing e = cc
take_next [] (suc i) p at = absurd (nothing at.is)
  where
    nothing : [] ≡ p ∷ at.rest → ⊥
    nothing e = cc
take_next (q ∷ pieces) zero p at = ap (λ (x : Piece). x ∷ []) first
  where
    first : q ≡ p
    first = let e : q ∷ pieces ≡ p ∷ at.rest = at.is in cc
take_next (q ∷ pieces) (suc i) p at = ap (λ (n : ℕ). take n (q ∷ pieces)) shift ∙ ap (λ (xs : List Piece). q ∷ xs) (take_next pieces i p (record { rest = at.rest; is = at.is }))
  where
    shift : suc i + 1 ≡ suc (i + 1)
    shift = omega arith

pub all_push : (P : Piece → Type 0) (xs : List Piece) (p : Piece) → AllByRecursion P xs → P p → AllByRecursion P (xs ++ p ∷ [])
all_push P [] p all is = (is, tt)
all_push P (x ∷ xs) p all is = (all.0, all_push P xs p all.1 is)

pub all_left : (P : Piece → Type 0) (xs ys : List Piece) → AllByRecursion P (xs ++ ys) → AllByRecursion P xs
all_left P [] ys all = tt
all_left P (x ∷ xs) ys all = (all.0, all_left P xs ys all.1)

pub all_last : (P : Piece → Type 0) (xs : List Piece) (p : Piece) → AllByRecursion P (xs ++ p ∷ []) → P p
all_last P [] p all = all.0
all_last P (x ∷ xs) p all = all_last P xs p all.1

pub all_weaker : (P Q : Piece → Type 0) (xs : List Piece) → ((p : Piece) → P p → Q p) → AllByRecursion P xs → AllByRecursion Q xs
all_weaker P Q [] weaker all = tt
all_weaker P Q (x ∷ xs) weaker all = (weaker x all.0, all_weaker P Q xs weaker all.1)

-- a piece isn't stored
pub fresh_at : (done : Stored) (pieces : List Piece) (i : ℕ) (p : Piece) → IsAt pieces i p → AreFresh done (map kept pieces) → found done p.at p.kind ≡ None
fresh_at done pieces i p at fresh = all_at (λ (q : Piece). found done q.at q.kind ≡ None) pieces i p at (each pieces fresh)
  where
    each : (ps : List Piece) → AreFresh done (map kept ps) → AllByRecursion (λ (q : Piece). found done q.at q.kind ≡ None) ps
    each [] all = tt
    each (q ∷ ps) all = (all.0, each ps all.1)

-- those in front of a piece are of other addresses or kinds
pub apart_before : (pieces : List Piece) (i : ℕ) (p : Piece) → IsAt pieces i p → AreApart (map kept pieces) → AllByRecursion (λ (q : Piece). q.at ≡ p.at → q.kind ≡ p.kind → ⊥) (take i pieces)
apart_before [] zero p at apart = tt
apart_before [] (suc i) p at apart = tt
apart_before (q ∷ pieces) zero p at apart = tt
apart_before (q ∷ pieces) (suc i) p at apart = (first, apart_before pieces i p later apart.1)
  where
    later : IsAt pieces i p
    later = record { rest = at.rest; is = at.is }

    each : (ps : List Piece) → IsApartFrom q.at q.kind (map kept ps) → AllByRecursion (λ (x : Piece). x.at ≡ q.at → x.kind ≡ q.kind → ⊥) ps
    each [] all = tt
    each (x ∷ ps) all = (all.0, each ps all.1)

    first : q.at ≡ p.at → q.kind ≡ p.kind → ⊥
    first same_at same_kind = all_at (λ (x : Piece). x.at ≡ q.at → x.kind ≡ q.kind → ⊥) pieces i p later (each pieces apart.0) (sym same_at) (sym same_kind)

-- ---- the first so many were stored

pub took_none : (pieces : List Piece) (done : Stored) → Took pieces 0 done done
took_none pieces done = record { here = none pieces; others = λ at kind all. refl; count = omega arith }
  where
    none : (ps : List Piece) → AllByRecursion (λ (p : Piece). found done p.at p.kind ≡ Some (score_of p)) (take 0 ps)
    none [] = tt
    none (p ∷ ps) = tt

pub fresh_next : {pieces : List Piece} {i : ℕ} {old mid : Stored} (p : Piece) → IsAt pieces i p → Took pieces i old mid → AreFresh old (map kept pieces) → AreApart (map kept pieces) → found mid p.at p.kind ≡ None
fresh_next {pieces = pieces} {i = i} {old = old} p at took fresh apart = took.others p.at p.kind (apart_before pieces i p at apart) ∙ fresh_at old pieces i p at fresh

abbrev Here : Stored → Piece → Type 0
Here done q = found done q.at q.kind ≡ Some (score_of q)

abbrev Others : ℕ → ℕ → Piece → Type 0
Others a k q = q.at ≡ a → q.kind ≡ k → ⊥

pub took_next : {pieces : List Piece} {i : ℕ} {old mid new : Stored} (p : Piece) → IsAt pieces i p → Took pieces i old mid → found mid p.at p.kind ≡ None → IsNoted p mid new → Took pieces (i + 1) old new
took_next {pieces = pieces} {i = i} {old = old} {mid = mid} {new = new} p at took fresh noted = record {
  here = subst (λ (ps : List Piece). AllByRecursion (Here new) ps) (sym next)
      (all_push (Here new) (take i pieces) p (all_weaker (λ (q : Piece). found mid q.at q.kind ≡ Some (score_of q)) (Here new) (take i pieces) (λ q is. more.each q.at q.kind (score_of q) is) took.here) noted.adds.here);
  others = λ a k all. other a k (subst (λ (ps : List Piece). AllByRecursion (Others a k) ps) next all);
  count = omega (arith, took.count, noted.count);
}
  where
    next : take (i + 1) pieces ≡ take i pieces ++ p ∷ []
    next = take_next pieces i p at

    more : StoresMore mid new
    more = adds_more fresh noted.adds

    other : (a k : ℕ) → AllByRecursion (Others a k) (take i pieces ++ p ∷ []) → found new a k ≡ found old a k
    other a k all =
        noted.adds.others a k (λ same_at same_kind. all_last (Others a k) (take i pieces) p all (sym same_at) (sym same_kind))
        ∙ took.others a k (all_left (Others a k) (take i pieces) (p ∷ []) all)

pub took_same : {pieces : List Piece} {i : ℕ} {old mid new : Stored} → Took pieces i old mid → ((at kind : ℕ) → found new at kind ≡ found mid at kind) → count_of new ≡ count_of mid → Took pieces i old new
took_same {pieces = pieces} {i = i} {old = old} {mid = mid} {new = new} took same count = record {
  here = all_weaker (λ (q : Piece). found mid q.at q.kind ≡ Some (score_of q)) (λ (q : Piece). found new q.at q.kind ≡ Some (score_of q)) (take i pieces) (λ q is. same q.at q.kind ∙ is) took.here;
  others = λ at kind all. same at kind ∙ took.others at kind all;
  count = count ∙ took.count;
}
