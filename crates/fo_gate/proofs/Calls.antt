-- What a seat is after each step of a call, at plain variables.
use Rattle.std.proofs.Common.{◌≡◌, ◌≢◌, ℕ, ◌+◌, ◌/◌, ◌%◌, ◌<◌, ◌≤◌, List, [], ◌∷◌, ◌++◌, length, sym, refl, ap, ◌∙◌, subst, arith, ⊎_elim, length-append}
use Rattle.atomic_table.specs.Table.{Me, step, rest}
use mathlib.Core.Option.{none}
use Rattle.fo_gate.specs.declared.view.Entry.{Entry}
use Rattle.fo_gate.specs.declared.view.View.{View}
use Rattle.fo_gate.specs.declared.rule.Slot.{Slot}
use Rattle.fo_gate.specs.declared.rule.Slot.TheVariants.{In, Out, Made}
use Rattle.fo_gate.specs.Lists.{StartsWith, longer, elements_at, least, split_greatest}
use Rattle.fo_gate.specs.History.{IsLegal, entry, last_low, last_high}
use Rattle.fo_gate.specs.Steps.{with_ticket, with_state, with_turn, with_post, with_seen, at_rest, without_greatest, greatest_alone, joined_view, IsPlaced, IsApart, Compares, IsLegalFrom, HasEntered, Looks, Reads, after_made}
use Rattle.fo_gate.specs.Calls.{IsViewOf, IsFull, IsJoined, IsCall, IsRead, MakesNoCall}
use Rattle.fo_gate.specs.Rule.{first_view}
use Rattle.fo_gate.specs.Weights.{total, below}
use Rattle.fo_gate.specs.declared.rule.Start.{Start}
use Rattle.std.specs.declared.snapshot.Snapshot.{Snapshot}
use Rattle.fo_gate.proofs.Histories.{legal-snoc, split-weight, which, own-call, own-more, own-join, below-mono, starts-length}
use Rattle.fo_gate.proofs.Sums.{total-one}
use Rattle.std.proofs.lemmas.Nat.{div-mul-add, mod-mul-add}

module _ {S E O : Type 0} where
  abbrev pub slot_or : Slot S E O → List (ℕ × Slot S E O) → Slot S E O
  slot_or d [] = d
  slot_or d (x ∷ xs) = x.1

  abbrev pub state_or : S → Slot S E O → S
  state_or d (In a n) = a
  state_or d Out = d
  state_or d (Made e o z) = d

  abbrev pub length_in : Slot S E O → ℕ
  length_in (In a n) = n
  length_in Out = 0
  length_in (Made e o z) = 0

  pub one_slot : (l : List (ℕ × Slot S E O)) (x : Slot S E O) → l ≡ (0, x) ∷ [] → l ≡ (0, x) ∷ rest l
  one_slot l x e = e ∙ ap (λ k. (0, x) ∷ rest k) (sym e)

  -- the value that an exchange gives is the one that lay there
  pub found_in : (l : List (ℕ × Slot S E O)) (x y : Slot S E O) → l ≡ (0, x) ∷ [] → l ≡ (0, y) ∷ rest l → y ≡ x
  found_in l x y e d = ap (slot_or Out) (sym d ∙ e)

  -- a plain write of the held slot
  pub puts : (x y : Slot S E O) (v : View S E O) (m n : Me (Slot S E O) (View S E O)) → m ≡ (v, (0, x) ∷ []) → n ≡ (m.0, (0, y) ∷ rest m.1) → n ≡ (v, (0, y) ∷ [])
  puts x y v m n e is = is ∙ (λ k. ((e k).0, (0, y) ∷ rest (e k).1))

  -- the same, of a value that is known in two forms
  pub puts_as : (x y z : Slot S E O) (v : View S E O) (m n : Me (Slot S E O) (View S E O)) → m ≡ (v, (0, x) ∷ []) → n ≡ (m.0, (0, y) ∷ rest m.1) → y ≡ z → n ≡ (v, (0, z) ∷ [])
  puts_as x y z v m n e is same = puts x y v m n e is ∙ (λ k. (v, (0, same k) ∷ []))

  pub slot_found : (x y : Slot S E O) (v : View S E O) (m : Me (Slot S E O) (View S E O)) → m ≡ (v, (0, x) ∷ []) → m.1 ≡ (0, y) ∷ rest m.1 → y ≡ x
  slot_found x y v m e d = found_in m.1 x y (ap (λ p. p.1) e) d

  pub lies : (x : Slot S E O) (v : View S E O) (m : Me (Slot S E O) (View S E O)) → m ≡ (v, (0, x) ∷ []) → m.1 ≡ (0, x) ∷ rest m.1
  lies x v m e = one_slot m.1 x (ap (λ p. p.1) e)

  pub posts_as : (v : View S E O) (x : Slot S E O) (m n : Me (Slot S E O) (View S E O)) → m ≡ (v, (0, x) ∷ []) → n ≡ (with_post m.0, m.1) → n ≡ (with_post v, (0, x) ∷ [])
  posts_as v x m n d is = is ∙ ap (λ (p : Me (Slot S E O) (View S E O)). (with_post p.0, p.1)) d

module _ {S E O : Type 0} where
  -- a seat that has seen more and has made no call
  pub no_call : (v w : View S E O) → w.numbers ≡ v.numbers → w.calls ≡ v.calls → StartsWith w.seen v.seen → IsPlaced v → MakesNoCall v w
  no_call v w numbers calls saw placed = record { numbers = numbers; calls = calls; seen = saw; own = (λ i. elements_at (saw.1 i) (calls i)) ∙ own-more v.seen saw.0 v.calls placed }

  placed-more : (v : View S E O) (log : List (Entry E O)) → StartsWith log v.seen → IsPlaced v → (f : ℕ → ℕ) → total f v.calls ≤ below f (length log)
  placed-more v log saw placed f = let p = placed f in let q = below-mono f (length v.seen) (length log) (starts-length log v.seen saw) in omega arith

module _ {S E O : Type 0} (turns : S → E → O → S → Type 0) (low high : S → ℕ) where
  -- the seat has the state in its slot
  abbrev pub HasIn : View S E O → ℕ → Me (Slot S E O) (View S E O) → Type 0
  HasIn v t n = (log : List (Entry E O)) × (a : S) × StartsWith log v.seen × IsLegalFrom turns low high v.opening log a × (length log ≤ 4611686018427387904) × IsPlaced v × (n ≡ (with_state (with_ticket v t) log a, (0, In a (length log)) ∷ []))

  pub hits : (v : View S E O) (t r ticket : ℕ) (m n : Me (Slot S E O) (View S E O)) → m ≡ (with_ticket v t, []) → Looks turns low high (step 0 0 0 0 none) m r n → r ≡ ticket → ticket ≡ t % 18446744073709551616 → HasIn v t n
  hits v t r ticket m n is l e d = (subst (λ x. Looks turns low high (step 0 0 0 0 none) x r n) is l).0 (e ∙ d)

  pub misses : (v : View S E O) (t r ticket : ℕ) (m n : Me (Slot S E O) (View S E O)) → m ≡ (with_ticket v t, []) → Looks turns low high (step 0 0 0 0 none) m r n → r ≢ ticket → ticket ≡ t % 18446744073709551616 → n ≡ (with_ticket v t, [])
  misses v t r ticket m n is l e d = (subst (λ x. Looks turns low high (step 0 0 0 0 none) x r n) is l).1 (λ h. e (h ∙ sym d))

  pub enters : (v : View S E O) (t : ℕ) (m n : Me (Slot S E O) (View S E O)) (found : Slot S E O) (state : S) (count : ℕ) → HasIn v t m → m.1 ≡ (0, found) ∷ rest m.1 → n ≡ (m.0, (0, Out) ∷ rest m.1)
      → found ≡ In state count → HasEntered turns low high v state count n
  enters v t m n found state count h lay is got =
      let log = h.0 in
      let a = h.1 in
      let p : In state count ≡ In a (length log) = sym got ∙ found_in m.1 (In a (length log)) found (ap (λ x. x.1) h.6) lay in
      let same : state ≡ a = ap (state_or a) p in
      let len : count ≡ length log = ap length_in p in (
        log,
        t,
        h.2,
        subst (λ x. IsLegalFrom turns low high v.opening log x) (sym same) h.3,
        len,
        (let k = len in let most = h.4 in omega arith),
        h.5,
        is ∙ (λ k. ((h.6 k).0, (0, Out) ∷ rest (h.6 k).1)) ∙ (λ k. (with_state (with_ticket v t) log (sym same k), (0, Out) ∷ [])),
      )

  pub knows_at_rest : (b : S) (k : ℕ) (v : View S E O) (t : ℕ) (log : List (Entry E O)) (a : S) (x : Slot S E O) (m n : Me (Slot S E O) (View S E O)) → IsLegalFrom turns low high v.opening log a
      → m ≡ (with_state (with_ticket v t) log a, (0, x) ∷ []) → (n ≡ (at_rest m.0, rest m.1)) × IsPlaced m.0 → IsViewOf turns low high b k v → IsViewOf turns low high b k n.0
  knows_at_rest b k v t log a x m n legal e is knows =
      let w : View S E O = at_rest (with_state (with_ticket v t) log a) in
      let same : n.0 ≡ w = ap (λ p. p.0) is.0 ∙ ap (λ (p : Me (Slot S E O) (View S E O)). at_rest p.0) e in
      let placed : IsPlaced w = subst (λ (u : View S E O). IsPlaced u) (ap (λ p. p.0) e) is.1 in
      subst (λ (u : View S E O). IsViewOf turns low high b k u) (sym same) (record { opening = knows.opening; seats = knows.seats; legal = (a, legal b knows.opening); placed = placed })

  pub fulls : (b : S) (k : ℕ) (v : View S E O) (t count : ℕ) (log : List (Entry E O)) (a : S) (x : Slot S E O) (m n : Me (Slot S E O) (View S E O)) → StartsWith log v.seen → count ≡ length log
      → m ≡ (with_state (with_ticket v t) log a, (0, x) ∷ []) → (n ≡ (at_rest m.0, rest m.1)) × IsPlaced m.0 → 4611686018427387904 ≤ count → count ≤ 4611686018427387904 → IsViewOf turns low high b k v → IsFull v n.0
  fulls b k v t count log a x m n saw len e is most least_most knows =
      let w : View S E O = at_rest (with_state (with_ticket v t) log a) in
      let same : n.0 ≡ w = ap (λ p. p.0) is.0 ∙ ap (λ (p : Me (Slot S E O) (View S E O)). at_rest p.0) e in
      subst (λ (u : View S E O). IsFull v u) (sym same) (record { frame = no_call v w refl refl saw knows.placed; whole = (let l = len in omega arith) })

  abbrev pub turned_view : View S E O → ℕ → List (Entry E O) → S → Snapshot E → Snapshot O → Snapshot S → View S E O
  turned_view v t log a e o z = with_turn (with_state (with_ticket v t) log a) (entry (least v.numbers) e.value o.value (low z.value) (high z.value)) z.value

  pub commits_as : (v : View S E O) (t : ℕ) (log : List (Entry E O)) (a : S) (e : Snapshot E) (o : Snapshot O) (z : Snapshot S) (m n : Me (Slot S E O) (View S E O)) → m ≡ (with_state (with_ticket v t) log a, (0, Made e o z) ∷ [])
      → n ≡ (after_made low high m.1 m.0, m.1) → n ≡ (turned_view v t log a e o z, (0, Made e o z) ∷ [])
  commits_as v t log a e o z m n d is = is ∙ ap (λ (p : Me (Slot S E O) (View S E O)). (after_made low high p.1 p.0, p.1)) d

  pub calls_as : (b : S) (k : ℕ) (v : View S E O) (t count : ℕ) (log : List (Entry E O)) (a : S) (e : Snapshot E) (o : Snapshot O) (z : Snapshot S) (x : Slot S E O) (m n : Me (Slot S E O) (View S E O)) → StartsWith log v.seen → IsLegalFrom turns low high v.opening log a → count ≡ length log
      → turns a e.value o.value z.value → m ≡ (with_post (turned_view v t log a e o z), (0, x) ∷ []) → (n ≡ (at_rest m.0, rest m.1)) × IsPlaced m.0 → count < 4611686018427387904 → IsViewOf turns low high b k v
      → IsCall turns low high b v e.value o.value (count + 1) n.0 × IsViewOf turns low high b k n.0
  calls_as b k v t count log a e o z x m n saw legal len turned d is room knows =
      let l : Entry E O = entry (least v.numbers) e.value o.value (low z.value) (high z.value) in
      let w : View S E O = at_rest (turned_view v t log a e o z) in
      let same : n.0 ≡ w = ap (λ p. p.0) is.0 ∙ ap (λ (p : Me (Slot S E O) (View S E O)). at_rest p.0) d in
      let placed : IsPlaced w = subst (λ (u : View S E O). IsPlaced u) (ap (λ p. p.0) d) is.1 in
      let after : IsLegal turns low high b (log ++ l ∷ []) z.value = legal-snoc turns low high b log a l z.value (legal b knows.opening) turned refl refl in
      subst (λ (u : View S E O). IsCall turns low high b v e.value o.value (count + 1) u × IsViewOf turns low high b k u) (sym same) (
        record {
          between = saw.0;
          after = z.value;
          numbers = refl;
          seen = ap (λ h. h ++ l ∷ []) saw.1;
          legal = after;
          front = length-append log (l ∷ []) ∙ ap (λ (h : ℕ). h + 1) (sym len);
          room = (let h = room in omega arith);
          calls = ap (λ h. v.calls ++ length h ∷ []) saw.1;
          own = ap (λ h. elements_at (h ++ l ∷ []) (v.calls ++ length h ∷ [])) saw.1 ∙ own-call v.seen saw.0 l v.calls knows.placed;
        },
        record { opening = knows.opening; seats = knows.seats; legal = (z.value, after); placed = placed },
      )

  -- the same, of the values that the snapshots were made of
  pub turned_at : (a : S) (e : Snapshot E) (o : Snapshot O) (z : Snapshot S) (event : E) (outcome : O) (after : S) → e.value ≡ event → o.value ≡ outcome → z.value ≡ after → turns a event outcome after → turns a e.value o.value z.value
  turned_at a e o z event outcome after p q r t = subst (λ (x : E × O × S). turns a x.0 x.1 x.2) (λ k. (sym p k, sym q k, sym r k)) t

  pub call_of : (b : S) (v w : View S E O) (e : Snapshot E) (o : Snapshot O) (event : E) (outcome : O) (n : ℕ) → e.value ≡ event → o.value ≡ outcome → IsCall turns low high b v e.value o.value n w → IsCall turns low high b v event outcome n w
  call_of b v w e o event outcome n p q c = subst (λ (x : E × O). IsCall turns low high b v x.0 x.1 n w) (λ k. (p k, q k)) c

  pub longer_by_one : (v : View S E O) (t count : ℕ) (log : List (Entry E O)) (a : S) (e : Snapshot E) (o : Snapshot O) (z : Snapshot S) (x : Slot S E O) (m : Me (Slot S E O) (View S E O)) → count ≡ length log
      → m ≡ (with_post (turned_view v t log a e o z), (0, x) ∷ []) → count + 1 ≡ length m.0.seen
  longer_by_one v t count log a e o z x m len d =
      ap (λ (k : ℕ). k + 1) len ∙ sym (ap (λ p. length p.0.seen) d ∙ length-append log (entry (least v.numbers) e.value o.value (low z.value) (high z.value) ∷ []))

  pub reads_as : (b : S) (k r : ℕ) (m n : Me (Slot S E O) (View S E O)) → IsViewOf turns low high b k m.0 → Reads turns low high (step 0 0 0 0 none) m r n
      → IsRead low high b m.0 (r / 4294967296) (r % 4294967296) n.0 × IsViewOf turns low high b k n.0
  reads_as b k r m n knows is =
      let log = is.0 in
      let w : View S E O = with_seen m.0 log in
      let h = is.3 b knows.opening in
      let l = last_low (low b) log in
      let g = last_high (high b) log in
      let over : r / 4294967296 ≡ l = ap (λ (x : ℕ). x / 4294967296) h.0 ∙ div-mul-add l 4294967296 g h.1 in
      let under : r % 4294967296 ≡ g = ap (λ (x : ℕ). x % 4294967296) h.0 ∙ mod-mul-add l 4294967296 g h.1 in
      subst (λ (x : View S E O). IsRead low high b m.0 (r / 4294967296) (r % 4294967296) x × IsViewOf turns low high b k x) (sym (ap (λ p. p.0) is.2)) (
        record { frame = no_call m.0 w refl refl is.1 knows.placed; low_epoch = over; high_epoch = under },
        record { opening = knows.opening; seats = knows.seats; legal = h.2; placed = placed-more m.0 log is.1 knows.placed },
      )

  -- what the two seats of a split know
  pub left_knows : (b : S) (k : ℕ) (v w : View S E O) → IsViewOf turns low high b k v → w ≡ without_greatest v → IsViewOf turns low high b k w
  left_knows b k v w knows is = subst (λ (x : View S E O). IsViewOf turns low high b k x) (sym is) record { opening = knows.opening; seats = knows.seats; legal = knows.legal; placed = knows.placed }

  pub right_knows : (b : S) (k : ℕ) (v w : View S E O) → IsViewOf turns low high b k v → w ≡ greatest_alone v → IsViewOf turns low high b k w
  right_knows b k v w knows is = subst (λ (x : View S E O). IsViewOf turns low high b k x) (sym is) record { opening = knows.opening; seats = knows.seats; legal = knows.legal; placed = λ f. omega arith }

  -- what the one seat of a join knows
  pub joined_knows : (b : S) (k : ℕ) (v u w : View S E O) → IsViewOf turns low high b k v → IsViewOf turns low high b k u → IsJoined v u w → w ≡ with_seen (joined_view v u) (longer v.seen u.seen) → IsViewOf turns low high b k w
  joined_knows b k v u w knows knows' is same = record {
    opening = ap (λ (x : View S E O). x.opening) same ∙ knows.opening;
    seats = ap (λ (x : View S E O). x.seats) same ∙ knows.seats;
    legal = ⊎_elim (λ h. subst (λ l. (z : S) × IsLegal turns low high b l z) (sym h.1) knows.legal) (λ h. subst (λ l. (z : S) × IsLegal turns low high b l z) (sym h.1) knows'.legal) is.seen;
    placed = is.once;
  }

  -- what the first seat knows
  pub first_knows : (k : Start S) (w : View S E O) → w ≡ first_view k → IsViewOf turns low high k.state.value k.seats w
  first_knows k w is = subst (λ (x : View S E O). IsViewOf turns low high k.state.value k.seats x) (sym is) record { opening = refl; seats = refl; legal = (k.state.value, refl); placed = λ f. omega arith }

module _ {S E O : Type 0} where
  pub left_length : (v : View S E O) → 0 < length v.numbers → length (without_greatest v).numbers + 1 ≡ length v.numbers
  left_length v some_number = let a = split-weight (λ _. 1) v.numbers some_number in let b = total-one (split_greatest v.numbers).1 in let c = total-one v.numbers in omega arith

  pub left_apart : (v w : View S E O) → 0 < length v.numbers → IsApart v → w ≡ without_greatest v → IsApart w
  left_apart v w some_number apart is = subst (λ (x : View S E O). IsApart x) (sym is) (λ f. let a = split-weight f v.numbers some_number in let b = apart f in omega arith)

  pub right_apart : (v w : View S E O) → 0 < length v.numbers → IsApart v → w ≡ greatest_alone v → IsApart w
  right_apart v w some_number apart is = subst (λ (x : View S E O). IsApart x) (sym is) (λ f. let a = split-weight f v.numbers some_number in let b = apart f in omega arith)

  -- what a join leaves, once it has compared
  pub joined_as : (v u : View S E O) (m n : Me (Slot S E O) (View S E O)) → IsPlaced v → IsPlaced u → m.0 ≡ joined_view v u → Compares (step 0 0 0 0 none) m 0 n → IsJoined v u n.0 × IsApart n.0 × (n.0 ≡ with_seen (joined_view v u) (longer v.seen u.seen))
  joined_as v u m n v_placed u_placed e is =
      let w : View S E O = with_seen (joined_view v u) (longer v.seen u.seen) in
      let same : n.0 ≡ w = ap (λ p. p.0) is.0 ∙ ap (λ (x : View S E O). with_seen x x.seen) e in
      let seen = which v.seen u.seen (subst (λ (x : View S E O). StartsWith x.seen x.joined) e is.1) in
      let placed : IsPlaced w = subst (λ (x : View S E O). IsPlaced x) e is.2 in
      let apart = subst (λ (x : View S E O). IsApart x) e is.3 in (
        subst (λ (x : View S E O). IsJoined v u x) (sym same) record { numbers = refl; calls = refl; once = placed; seen = seen; own = own-join v.seen u.seen v.calls u.calls v_placed u_placed seen },
        subst (λ (x : View S E O). IsApart x) (sym same) apart,
        same,
      )
