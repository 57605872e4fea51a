-- What calls leave to be written beside blocks that they are given, one after another.
use Rattle.std.specs.List.{Contains}
use Rattle.std.proofs.Common.{◌≡◌, ◌⊎◌, ◌++◌, ◌+◌, ◌≤◌, ℕ, List, [], ◌∷◌, length, inl, inr, ⊎_elim, sym, subst, arith}
use Rattle.std.proofs.lemmas.List.{length-append}
use Rattle.std.proofs.lemmas.List.Elements.{Contains-append_left, Contains-append_right, Contains-append_cases}
use Rattle.fo_looks.specs.of_ports.State.{State, none}
use Rattle.fo_looks.specs.of_ports.Sources.{AddsDirty, Dirties, DirtiesIn}
use Rattle.fo_looks.proofs.Dirtied.{dirties_joins}
use Rattle.fo_dirties.proofs.Putting.{first_among, later_among, none_among, one_among}

-- this is one of those
pub record IsAmong (x : ℕ) (xs : List ℕ) : Type 0 where
  pub is : Contains xs x

pub first_of : {x : ℕ} {xs : List ℕ} → IsAmong x (x ∷ xs)
first_of {x = x} {xs = xs} = record { is = first_among x xs }

pub next_of : {x y : ℕ} {xs : List ℕ} → IsAmong x xs → IsAmong x (y ∷ xs)
next_of {x = x} {y = y} {xs = xs} i = record { is = later_among y x xs i.is }

-- so is each of these
pub record AreAmong (ps qs : List ℕ) : Type 0 where
  pub each : (z : ℕ) → Contains ps z → Contains qs z

-- one of these, or of those behind
front_cases : (P : ℕ → Type 0) (x : ℕ) (xs : List ℕ) → P x → ((z : ℕ) → Contains xs z → P z) → (z : ℕ) → Contains (x ∷ xs) z → P z
front_cases P x xs p rest z h = ⊎_elim (λ l. one_among P x p z l) (λ r. rest z r) (Contains-append_cases (x ∷ []) xs z h)

pub none_of : {qs : List ℕ} → AreAmong [] qs
none_of {qs = qs} = record { each = λ z h. none_among (λ x. Contains qs x) z h }

pub all_of : {qs : List ℕ} → AreAmong qs qs
all_of = record { each = λ z h. h }

pub cons_of : {x : ℕ} {ps qs : List ℕ} → IsAmong x qs → AreAmong ps qs → AreAmong (x ∷ ps) qs
cons_of {x = x} {ps = ps} {qs = qs} i are = record { each = front_cases (λ z. Contains qs z) x ps i.is are.each }

-- each of these is one of more
cons_all : {x : ℕ} {qs : List ℕ} → AreAmong qs (x ∷ qs)
cons_all {x = x} {qs = qs} = record { each = λ z h. later_among x z qs h }

-- and each of these is counted
pub record AreCounted (counted : ℕ → Type 0) (ps : List ℕ) : Type 0 where
  pub each : (z : ℕ) → Contains ps z → counted z

pub none_counted : {counted : ℕ → Type 0} → AreCounted counted []
none_counted {counted = counted} = record { each = λ z h. none_among counted z h }

pub cons_counted : {counted : ℕ → Type 0} {x : ℕ} {ps : List ℕ} → counted x → AreCounted counted ps → AreCounted counted (x ∷ ps)
cons_counted {counted = counted} {x = x} {ps = ps} is are = record { each = front_cases counted x ps is are.each }

-- ---- blocks that are known

pub dirties_more : {a b : State} {ps qs : List ℕ} → AreAmong ps qs → DirtiesIn ps a b → DirtiesIn qs a b
dirties_more among p = record {
  dirty = λ x d. ⊎_elim (λ old. inl old) (λ h. inr (⊎_elim (λ l. inl (among.each x l)) (λ r. inr r) h)) (p.dirty x d);
  made = λ x made. let h = p.made x made in (among.each x h.0, among.each _ h.1);
  clearing = λ x j h. ⊎_elim (λ old. inl old) (λ l. inr (among.each x l)) (p.clearing x j h);
  places = p.places;
}

-- what comes next puts into these alone
pub dirties_then : {a b c : State} {ps qs : List ℕ} → DirtiesIn ps a b → DirtiesIn qs b c → AreAmong qs ps → DirtiesIn ps a c
dirties_then {ps = ps} {qs = qs} p q among = dirties_more (record { each = λ x h. ⊎_elim (λ l. among.each x l) (λ r. r) (Contains-append_cases qs ps x h) }) (dirties_joins p q)

-- it puts into none
pub dirties_quiet : {a b c : State} {ps : List ℕ} → DirtiesIn ps a b → DirtiesIn [] b c → DirtiesIn ps a c
dirties_quiet p q = dirties_then p q none_of

-- what came before puts into none
pub dirties_after : {a b c : State} {ps : List ℕ} → DirtiesIn [] a b → DirtiesIn ps b c → DirtiesIn ps a c
dirties_after p q = dirties_then (dirties_more none_of p) q all_of

-- it puts into none, whatever is given
pub dirties_idle : {a b : State} {ps : List ℕ} → DirtiesIn [] a b → DirtiesIn ps a b
dirties_idle p = dirties_more none_of p

-- ---- blocks that are added to those given

-- more than was asked
pub adds_more : {a b : State} {n m : ℕ} {ps : List ℕ} {at : ℕ} → n ≤ m → AddsDirty n ps at a b → AddsDirty m ps at a b
adds_more le p = record { more = p.more; few = let few = p.few in omega (arith, few, le); within = p.within; here = p.here }

-- another block that is given is told
pub adds_given : {a b : State} {n : ℕ} {ps : List ℕ} {at x : ℕ} → IsAmong x ps → AddsDirty n ps at a b → AddsDirty n ps x a b
adds_given {ps = ps} {x = x} i p = record { more = p.more; few = p.few; within = p.within; here = Contains-append_right p.more ps x i.is }

-- more blocks are given
pub adds_wider : {a b : State} {n : ℕ} {ps qs : List ℕ} {at : ℕ} → AreAmong ps qs → AddsDirty n ps at a b → AddsDirty n qs at a b
adds_wider {ps = ps} {qs = qs} {at = at} among p = record {
  more = p.more;
  few = p.few;
  within = dirties_more (record { each = wider }) p.within;
  here = wider at p.here;
}
  where
    wider : (z : ℕ) → Contains (p.more ++ ps) z → Contains (p.more ++ qs) z
    wider z h = ⊎_elim (λ l. Contains-append_left p.more qs z l) (λ r. Contains-append_right p.more qs z (among.each z r)) (Contains-append_cases p.more ps z h)

-- no block is added
pub adds_none : {a b : State} {ps : List ℕ} {at : ℕ} (n : ℕ) → IsAmong at ps → DirtiesIn ps a b → AddsDirty n ps at a b
adds_none n i p = record { more = []; few = omega arith; within = p; here = i.is }

-- and none is put
pub adds_idle : {a b : State} {ps : List ℕ} {at : ℕ} (n : ℕ) → IsAmong at ps → DirtiesIn [] a b → AddsDirty n ps at a b
adds_idle n i p = adds_none n i (dirties_idle p)

-- what a call adds by itself, and then a put into a block that is given
pub adds_own : {a b c : State} {n : ℕ} {counted : ℕ → Type 0} {ps : List ℕ} (at : ℕ) → Dirties n counted a b → counted at → DirtiesIn ps b c → AddsDirty n ps at a c
adds_own {ps = ps} at p is q = record {
  more = p.blocks;
  few = p.few;
  within = dirties_more (record { each = λ x h. ⊎_elim (λ l. Contains-append_right p.blocks ps x l) (λ r. Contains-append_left p.blocks ps x r) (Contains-append_cases ps p.blocks x h) }) (dirties_joins p.within q);
  here = Contains-append_left p.blocks ps at (p.each at is);
}

-- the same where nothing of it is told
pub adds_puts : {a b c : State} {n : ℕ} {ps : List ℕ} {at : ℕ} → Dirties n none a b → IsAmong at ps → DirtiesIn ps b c → AddsDirty n ps at a c
adds_puts {ps = ps} {at = at} p i q = record {
  more = p.blocks;
  few = p.few;
  within = dirties_more (record { each = λ x h. ⊎_elim (λ l. Contains-append_right p.blocks ps x l) (λ r. Contains-append_left p.blocks ps x r) (Contains-append_cases ps p.blocks x h) }) (dirties_joins p.within q);
  here = Contains-append_right p.blocks ps at i.is;
}

-- what a call gives, and what it was given
among_all : {a b : State} {n : ℕ} {ps : List ℕ} {at : ℕ} (p : AddsDirty n ps at a b) → AreAmong (at ∷ ps) (p.more ++ ps)
among_all {ps = ps} {at = at} p = record { each = front_cases (λ z. Contains (p.more ++ ps) z) at ps p.here (λ z h. Contains-append_right p.more ps z h) }

-- what is put after a call into what it gave, or was given
pub adds_then : {a b c : State} {n : ℕ} {ps qs : List ℕ} {at : ℕ} → AddsDirty n ps at a b → DirtiesIn qs b c → AreAmong qs (at ∷ ps) → AddsDirty n ps at a c
adds_then p q among = record { more = p.more; few = p.few; within = dirties_then p.within q (record { each = λ z h. (among_all p).each z (among.each z h) }); here = p.here }

-- a look, or a settling, after a call and before it
pub adds_still : {a b c : State} {n : ℕ} {ps : List ℕ} {at : ℕ} → AddsDirty n ps at a b → DirtiesIn [] b c → AddsDirty n ps at a c
adds_still p q = adds_then p q none_of

pub adds_after : {a b c : State} {n : ℕ} {ps : List ℕ} {at : ℕ} → DirtiesIn [] a b → AddsDirty n ps at b c → AddsDirty n ps at a c
adds_after p q = record { more = q.more; few = q.few; within = dirties_after p q.within; here = q.here }

-- ---- a call after another, which is given what the first gave, or was given: so it adds its own alone

turned : (news olds ps : List ℕ) (z : ℕ) → Contains (news ++ (olds ++ ps)) z → Contains ((news ++ olds) ++ ps) z
turned news olds ps z h = ⊎_elim
    (λ l. Contains-append_left (news ++ olds) ps z (Contains-append_left news olds z l))
    (λ r. ⊎_elim
    (λ m. Contains-append_left (news ++ olds) ps z (Contains-append_right news olds z m))
    (λ k. Contains-append_right (news ++ olds) ps z k)
    (Contains-append_cases olds ps z r))
    (Contains-append_cases news (olds ++ ps) z h)

few_joined : (n m : ℕ) (news olds : List ℕ) → length news ≤ m → length olds ≤ n → length (news ++ olds) ≤ n + m
few_joined n m news olds less few = let long = length-append news olds in omega (arith, long, few, less)

-- what is told of the second, where it is given what the first gave
within_joined : {a b c : State} {n m : ℕ} {ps qs : List ℕ} {x y : ℕ} (p : AddsDirty n ps x a b) (q : AddsDirty m qs y b c) → AreAmong qs (x ∷ ps) → DirtiesIn ((q.more ++ p.more) ++ ps) a c
within_joined {ps = ps} {qs = qs} p q among = dirties_more (record { each = each }) (dirties_joins p.within q.within)
  where
    each : (z : ℕ) → Contains ((q.more ++ qs) ++ (p.more ++ ps)) z → Contains ((q.more ++ p.more) ++ ps) z
    each z h = turned q.more p.more ps z (⊎_elim
        (λ l. ⊎_elim
        (λ new. Contains-append_left q.more (p.more ++ ps) z new)
        (λ old. Contains-append_right q.more (p.more ++ ps) z ((among_all p).each z (among.each z old)))
        (Contains-append_cases q.more qs z l))
        (λ r. Contains-append_right q.more (p.more ++ ps) z r)
        (Contains-append_cases (q.more ++ qs) (p.more ++ ps) z h))

result_joined : {a b c : State} {n m : ℕ} {ps qs : List ℕ} {x y : ℕ} (p : AddsDirty n ps x a b) (q : AddsDirty m qs y b c) → AreAmong qs (x ∷ ps) → Contains ((q.more ++ p.more) ++ ps) y
result_joined {ps = ps} {qs = qs} {y = y} p q among = turned q.more p.more ps y (⊎_elim
    (λ l. Contains-append_left q.more (p.more ++ ps) y l)
    (λ r. Contains-append_right q.more (p.more ++ ps) y ((among_all p).each y (among.each y r)))
    (Contains-append_cases q.more qs y q.here))

pub adds_joins : {a b c : State} {n m : ℕ} {ps qs : List ℕ} {x y : ℕ} → AddsDirty n ps x a b → AddsDirty m qs y b c → AreAmong qs (x ∷ ps) → AddsDirty (n + m) ps y a c
adds_joins {n = n} {m = m} p q among = record {
  more = q.more ++ p.more;
  few = few_joined n m q.more p.more q.few p.few;
  within = within_joined p q among;
  here = result_joined p q among;
}

-- and the first's result is told
pub adds_first : {a b c : State} {n m : ℕ} {ps qs : List ℕ} {x y : ℕ} → AddsDirty n ps x a b → AddsDirty m qs y b c → AreAmong qs (x ∷ ps) → AddsDirty (n + m) ps x a c
adds_first {n = n} {m = m} {ps = ps} {x = x} p q among = record {
  more = q.more ++ p.more;
  few = few_joined n m q.more p.more q.few p.few;
  within = within_joined p q among;
  here = turned q.more p.more ps x (Contains-append_right q.more (p.more ++ ps) x p.here);
}

-- so many more at most, with these two
pub record AddsTwo (most : ℕ) (ps : List ℕ) (x y : ℕ) (old new : State) : Type 0 where
  pub more : List ℕ
  pub few : length more ≤ most
  pub within : DirtiesIn (more ++ ps) old new
  pub first : Contains (more ++ ps) x
  pub second : Contains (more ++ ps) y

pub adds_two : {a b c : State} {n m : ℕ} {ps : List ℕ} {x y : ℕ} → AddsDirty n ps x a b → AddsDirty m ps y b c → AddsTwo (n + m) ps x y a c
adds_two {n = n} {m = m} {ps = ps} {x = x} p q = record {
  more = q.more ++ p.more;
  few = few_joined n m q.more p.more q.few p.few;
  within = within_joined p q cons_all;
  first = turned q.more p.more ps x (Contains-append_right q.more (p.more ++ ps) x p.here);
  second = result_joined p q cons_all;
}

-- ---- blocks that are counted

pub dirties_fewer : {a b : State} {n m : ℕ} {counted some : ℕ → Type 0} → n ≤ m → ((x : ℕ) → some x → counted x) → Dirties n counted a b → Dirties m some a b
dirties_fewer le are p = record { blocks = p.blocks; few = let few = p.few in omega (arith, few, le); within = p.within; each = λ x h. p.each x (are x h) }

-- no block is put
pub dirties_none : {a b : State} (n : ℕ) → DirtiesIn [] a b → Dirties n none a b
dirties_none n p = record { blocks = []; few = omega arith; within = p; each = λ x h. absurd h }

-- a look, or a settling, before
pub dirties_first : {a b c : State} {n : ℕ} {counted : ℕ → Type 0} → DirtiesIn [] a b → Dirties n counted b c → Dirties n counted a c
dirties_first p q = record { blocks = q.blocks; few = q.few; within = dirties_after p q.within; each = q.each }

-- and after
pub dirties_still : {a b c : State} {n : ℕ} {counted : ℕ → Type 0} → Dirties n counted a b → DirtiesIn [] b c → Dirties n counted a c
dirties_still p q = record { blocks = p.blocks; few = p.few; within = dirties_quiet p.within q; each = p.each }

-- two calls, of which nothing more is told
pub dirties_both : {a b c : State} {n m : ℕ} {first second : ℕ → Type 0} → Dirties n first a b → Dirties m second b c → Dirties (n + m) none a c
dirties_both {first = first} {second = second} p q = record {
  blocks = q.blocks ++ p.blocks;
  few = let long = length-append q.blocks p.blocks in let few = p.few in let less = q.few in omega (arith, long, few, less);
  within = dirties_joins p.within q.within;
  each = λ x h. absurd h;
}

-- what a call adds that is given what is counted
pub dirties_adds : {a b c : State} {n m : ℕ} {counted : ℕ → Type 0} {qs : List ℕ} {y : ℕ} → Dirties n counted a b → AddsDirty m qs y b c → AreCounted counted qs → Dirties (n + m) counted a c
dirties_adds {n = n} {m = m} {qs = qs} p q are = record {
  blocks = q.more ++ p.blocks;
  few = let long = length-append q.more p.blocks in let few = p.few in let less = q.few in omega (arith, long, few, less);
  within = dirties_more (record {
    each = λ z h. ⊎_elim
        (λ l. ⊎_elim
        (λ new. Contains-append_left q.more p.blocks z new)
        (λ old. Contains-append_right q.more p.blocks z (p.each z (are.each z old)))
        (Contains-append_cases q.more qs z l))
        (λ r. Contains-append_right q.more p.blocks z r)
        (Contains-append_cases (q.more ++ qs) p.blocks z h);
  }) (dirties_joins p.within q.within);
  each = λ x h. Contains-append_right q.more p.blocks x (p.each x h);
}

-- and then its result is counted, too
pub dirties_gives : {a b c : State} {n m : ℕ} {counted : ℕ → Type 0} {qs : List ℕ} {y : ℕ} → Dirties n counted a b → AddsDirty m qs y b c → AreCounted counted qs → Dirties (n + m) (λ x. (x ≡ y) ⊎ counted x) a c
unfolding dirties_adds
dirties_gives {qs = qs} {y = y} p q are =
    let joined = dirties_adds p q are in
    record { blocks = joined.blocks; few = joined.few; within = joined.within; each = λ x h. ⊎_elim (λ e. subst (λ z. Contains joined.blocks z) (sym e) result) (λ old. joined.each x old) h }
  where
    result : Contains (q.more ++ p.blocks) y
    result = ⊎_elim
        (λ l. Contains-append_left q.more p.blocks y l)
        (λ r. Contains-append_right q.more p.blocks y (p.each y (are.each y r)))
        (Contains-append_cases q.more qs y q.here)

-- a put into what is counted
pub dirties_puts : {a b c : State} {n : ℕ} {counted : ℕ → Type 0} {qs : List ℕ} → Dirties n counted a b → DirtiesIn qs b c → AreCounted counted qs → Dirties n counted a c
dirties_puts p q are = record { blocks = p.blocks; few = p.few; within = dirties_then p.within q (record { each = λ z h. p.each z (are.each z h) }); each = p.each }
