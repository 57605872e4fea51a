-- The leaves of a plain source, before and after one of them is made current or changed.
use Rattle.std.proofs.Common.{◌≡◌, ◌≢◌, ◌⊎◌, ◌+◌, ◌-◌, ◌*◌, ◌^◌, ◌/◌, ◌%◌, ◌<◌, ◌≤◌, ℕ, List, ◌++◌, length, take, drop, slice_index, slice_set, Option, Some, None, MatchOption, inl, inr, ⊎_elim, sym, refl, ap, ◌∙◌, subst, arith}
use Rattle.std.proofs.lemmas.Bool.{cases_lt, cases_eq}
use Rattle.std.proofs.lemmas.List.{length-append, length-take-le, length-set, get_or-take, get_or-drop, get_or_append_left, get_or-append_right, get_or-replicate, get_or_past, get_or-set_same, get_or-set_other}
use Rattle.fo_image.specs.declared.types.Kind.{Kind}
use Rattle.fo_image.specs.declared.types.Label.{Label}
use Rattle.fo_image.specs.declared.types.State.TheVariants.{Live}
use Rattle.fo_crash.specs.Images.{Image, SameContent}
use Rattle.fo_crash.specs.Steps.{PutsBytes}
use Rattle.fo_ports.specs.Blocks.{blank, zero_bytes, put_at}
use Rattle.fo_ports.proofs.Lengths.{length_put_at}
use Rattle.fo_ports.specs.State.{State, KeepsAll}
use Rattle.fo_ports.specs.Sources.{Made, byte_at}
use Rattle.fo_ports_source.specs.Source.{leaf_of, byte_of, HasLeaf, IsLeaf, Over, IsHeld, IsOwn, Prepared, Puts}
use Rattle.fo_ports_source.specs.SourceLaws.{still_labelled, was_older}
use Rattle.fo_ports_source.specs.Steps.{Steps, Grew}
use Rattle.fo_ports_source.proofs.Steps.{cases_made, hung_rooted, steps_none, steps_wider, steps_joins, made_first, made_second, made_either}

pub never : {leaf : Option ℕ} {a : ℕ} → leaf ≡ Some a → leaf ≡ None → ⊥
never e f = cc

pub some_is : {a b : ℕ} {leaf : Option ℕ} → leaf ≡ Some a → leaf ≡ Some b → a ≡ b
some_is e f = cc

zero_at : (k : ℕ) → slice_index zero_bytes k ≡ 0
unfolding zero_bytes
zero_at k = ⊎_elim (λ lt. get_or-replicate 8192 k 0 0 lt) (λ ge. get_or_past zero_bytes k 0 ge) (cases_lt k 8192)

-- bytes that are put, place by place
module _ (from : ℕ) (bytes old : List ℕ) (within : from + length bytes ≤ length old) where
  front_len : length (take from old) ≡ from
  front_len = length-take-le from old (omega (arith, within))

  front_two : length (take from old ++ bytes) ≡ from + length bytes
  front_two = length-append (take from old) bytes ∙ ap (λ n. n + length bytes) front_len

  pub put_before : (k : ℕ) → k < from → slice_index (put_at from bytes old) k ≡ slice_index old k
  put_before k lt =
      get_or_append_left (take from old ++ bytes) (drop (from + length bytes) old) 0 k (omega (arith, front_two, lt))
      ∙ get_or_append_left (take from old) bytes 0 k (omega (arith, front_len, lt)) ∙ get_or-take from old k 0 lt

  pub put_within : (i : ℕ) → i < length bytes → slice_index (put_at from bytes old) (from + i) ≡ slice_index bytes i
  put_within i lt =
      let back : from + i - from ≡ i = omega arith in
      get_or_append_left (take from old ++ bytes) (drop (from + length bytes) old) 0 (from + i) (omega (arith, front_two, lt))
      ∙ get_or-append_right (take from old) bytes from (from + i) 0 front_len (omega arith) ∙ ap (λ n. slice_index bytes n) back

  pub put_behind : (k : ℕ) → from + length bytes ≤ k → slice_index (put_at from bytes old) k ≡ slice_index old k
  put_behind k ge =
      let back : from + length bytes + (k - (from + length bytes)) ≡ k = omega (arith, ge) in
      get_or-append_right (take from old ++ bytes) (drop (from + length bytes) old) (from + length bytes) k 0 front_two ge
      ∙ get_or-drop (from + length bytes) old (k - (from + length bytes)) 0 ∙ ap (λ n. slice_index old n) back

-- a byte of a leaf whose bytes stay
pub byte_kept : (now new_now : Image) (leaf : Option ℕ) (k : ℕ) → ((at : ℕ) → leaf ≡ Some at → (new_now at).bytes ≡ (now at).bytes) → byte_at new_now leaf None k ≡ byte_at now leaf None k
byte_kept now new_now None k same = refl
byte_kept now new_now (Some at) k same = ap (λ bytes. slice_index bytes k) (same at refl)

byte_owned : (now new_now : Image) (kind : Kind) (leaf : Option ℕ) (r k : ℕ) → MatchOption leaf (SameContent (new_now r) (blank kind)) (λ at. SameContent (new_now r) (now at)) → slice_index ((new_now r).bytes) k ≡ byte_at now leaf None k
byte_owned now new_now kind None r k same = ap (λ bytes. slice_index bytes k) same.bytes ∙ zero_at k
byte_owned now new_now kind (Some at) r k same = ap (λ bytes. slice_index bytes k) same.bytes

pub leaf_was : (old new : State) (r : ℕ) (leaf : Option ℕ) → MatchOption leaf (Made old new r) (λ at. ((at ≡ r) × ((old.label at).epoch ≡ old.high)) ⊎ (((old.label at).epoch < old.high) × Made old new r)) → (leaf ≡ Some r) ⊎ Made old new r
leaf_was old new r None m = inr m
leaf_was old new r (Some at) m = ⊎_elim (λ h. inl (ap (λ x. Some x) h.0)) (λ h. inr h.1) m

-- Leaf i was made current: it is block r now.
pub record OwnsOne (kind : Kind) (tag rank size : ℕ) (leaves new_leaves : List (Option ℕ)) (i r : ℕ) (old new : State) : Type 0 where
  pub over : Over old kind tag rank size leaves
  pub inside : 8192 * i < size
  pub set_is : new_leaves ≡ slice_set leaves i (Some r)
  pub content : MatchOption (leaf_of leaves i) (SameContent (new.now r) (blank kind)) (λ at. SameContent (new.now r) (old.now at))
  pub copied : MatchOption (leaf_of leaves i) (Made old new r) (λ at. ((at ≡ r) × ((old.label at).epoch ≡ old.high)) ⊎ (((old.label at).epoch < old.high) × Made old new r))
  pub own : IsOwn new kind tag rank r
  pub steps : Steps tag (HasLeaf leaves) (λ b. ⊥) old new
  pub only : (b : ℕ) → Made old new b → b ≡ r

module _ {kind : Kind} {tag : ℕ} where
  -- a leaf stays one over a step
  pub leaf_kept : {mine inner : ℕ → Type 0} {rank at : ℕ} {old new : State} → Steps tag mine inner old new → IsLeaf old kind tag rank at → IsLeaf new kind tag rank at
  leaf_kept {at = at} {old = old} {new = new} s leaf = record {
    is_one = (s.all.same_blocks at).1 leaf.is_one;
    told = λ is.
        let before = s.all.still_tells.0 is in
        let was = leaf.told before in
        let not_made : Made old new at → ⊥ = λ m. m.0 was.labelled.is_live in
        let spared : new.covered at → ⊥ = λ h. was.uncovered ((s.covered at).0 h) in
        let active = (s.all.same_tops 1).1 was.active in
        let hung = s.hung before at was.hung in
        record {
          labelled = still_labelled s.all.same_high (s.others at not_made).label was.labelled;
          there = s.places before at _ not_made spared (hung_rooted new at active hung) was.there;
          uncovered = spared;
          active = active;
          hung = hung;
          in_tree = λ older. s.reaches before at (was.in_tree (was_older s.all.same_high (s.others at not_made).label older));
        };
  }

  -- one that is held stays so where it stays as long
  held_kept : {mine inner : ℕ → Type 0} {at : ℕ} {old new : State} → Steps tag mine inner old new → length ((new.now at).bytes) ≡ length ((old.now at).bytes) → IsHeld old kind tag at → IsHeld new kind tag at
  held_kept {at = at} s same was =
      let stays = s.others at (λ m. m.0 was.labelled.is_live) in
      record {
        labelled = still_labelled s.all.same_high stays.label was.labelled;
        is_pinned = stays.marks.0 was.is_pinned;
        long = same ∙ was.long;
      }

module _ {kind : Kind} {tag rank size : ℕ} where
  module _ {leaves new_leaves : List (Option ℕ)} {i r : ℕ} {old new : State} (o : OwnsOne kind tag rank size leaves new_leaves i r old new) where
    few : i < length leaves
    few = let w = o.over.within in let h = o.inside in omega (arith, w, h)

    here : leaf_of new_leaves i ≡ Some r
    here = subst (λ ls. leaf_of ls i ≡ Some r) (sym o.set_is) (get_or-set_same leaves i (Some r) None few)

    other : (j : ℕ) → j ≢ i → leaf_of new_leaves j ≡ leaf_of leaves j
    other j ne = subst (λ ls. leaf_of ls j ≡ leaf_of leaves j) (sym o.set_is) (get_or-set_other leaves i j (Some r) None ne)

    as_long : length new_leaves ≡ length leaves
    as_long = ap length o.set_is ∙ length-set leaves i (Some r)

    same_content : (at : ℕ) → (old.label at).state ≡ Live → SameContent (new.now at) (old.now at)
    same_content at live = o.steps.memory at (λ t. ⊎_elim (λ m. m.0 live) (λ h. h.0) t)

    live_leaf : old.tells → (j at : ℕ) → leaf_of leaves j ≡ Some at → (old.label at).state ≡ Live
    live_leaf told j at e = ((o.over.leaf j at e).told told).labelled.is_live

    pub own_bytes : old.tells → (k : ℕ) → byte_of (leaf_of new_leaves) new.now k ≡ byte_of (leaf_of leaves) old.now k
    own_bytes told k = ⊎_elim
        (λ e. subst (λ j. byte_at new.now (leaf_of new_leaves j) None (k % 8192) ≡ byte_at old.now (leaf_of leaves j) None (k % 8192)) (sym e)
        (ap (λ l. byte_at new.now l None (k % 8192)) here ∙ byte_owned old.now new.now kind (leaf_of leaves i) r (k % 8192) o.content))
        (λ ne. ap (λ l. byte_at new.now l None (k % 8192)) (other (k / 8192) ne) ∙ byte_kept old.now new.now (leaf_of leaves (k / 8192)) (k % 8192) (λ at e. (same_content at (live_leaf told (k / 8192) at e)).bytes))
        (cases_eq (k / 8192) i)

    was : (leaf_of leaves i ≡ Some r) ⊎ Made old new r
    was = leaf_was old new r (leaf_of leaves i) o.copied

    one : old.tells → (j : ℕ) → leaf_of leaves j ≡ Some r → j ≡ i
    one told j e = ⊎_elim (λ f. o.over.apart told j i r e f) (λ m. absurd (m.0 (live_leaf told j r e))) was

    pub own_over : Over new kind tag rank size new_leaves
    own_over = record {
      leaf = λ j at e. ⊎_elim
          (λ is. subst (λ x. IsLeaf new kind tag rank x) (some_is here (subst (λ x. leaf_of new_leaves x ≡ Some at) is e)) o.own.leaf)
          (λ ne. leaf_kept o.steps (o.over.leaf j at (sym (other j ne) ∙ e)))
          (cases_eq j i);
      apart = λ told j k at e f. ⊎_elim
          (λ is. ⊎_elim
          (λ same. is ∙ sym same)
          (λ ne. let is_r : at ≡ r = some_is (subst (λ x. leaf_of new_leaves x ≡ Some at) is e) here in is ∙ sym (one (o.steps.all.still_tells.0 told) k (subst (λ x. leaf_of leaves k ≡ Some x) is_r (sym (other k ne) ∙ f))))
          (cases_eq k i))
          (λ ne. ⊎_elim
          (λ is. let is_r : at ≡ r = some_is (subst (λ x. leaf_of new_leaves x ≡ Some at) is f) here in one (o.steps.all.still_tells.0 told) j (subst (λ x. leaf_of leaves j ≡ Some x) is_r (sym (other j ne) ∙ e)) ∙ sym is)
          (λ also. o.over.apart (o.steps.all.still_tells.0 told) j k at (sym (other j ne) ∙ e) (sym (other k also) ∙ f))
          (cases_eq k i))
          (cases_eq j i);
      none = λ j le. let h = o.inside in other j (λ e. (omega (arith, le, h, e))) ∙ o.over.none j le;
      tail = λ told k le. own_bytes (o.steps.all.still_tells.0 told) k ∙ o.over.tail (o.steps.all.still_tells.0 told) k le;
      within = subst (λ n. size ≤ 8192 * n) (sym as_long) o.over.within;
      few = subst (λ n. n < 2 ^ 32) (sym as_long) o.over.few;
      leaf_kind = o.over.leaf_kind;
    }

    still_one : (b : ℕ) → leaf_of leaves i ≡ Some b → (old.label b).epoch ≡ old.high → HasLeaf new_leaves b
    still_one b e current = ⊎_elim
        (λ h. record { number = i; is = here ∙ ap (λ x. Some x) (sym h.0) })
        (λ h. let lt : (old.label b).epoch < old.high = h.0 in absurd (omega (arith, lt, current)))
        (subst (λ leaf. MatchOption leaf (Made old new r) (λ at. ((at ≡ r) × ((old.label at).epoch ≡ old.high)) ⊎ (((old.label at).epoch < old.high) × Made old new r))) e o.copied)

    still_held : (j at : ℕ) → leaf_of new_leaves j ≡ Some at → (leaf_of leaves j ≡ Some at → IsHeld old kind tag at) → IsHeld new kind tag at
    still_held j at e held = ⊎_elim
        (λ is. let is_r : at ≡ r = some_is (subst (λ x. leaf_of new_leaves x ≡ Some at) is e) here in subst (λ x. IsHeld new kind tag x) (sym is_r) o.own.held)
        (λ ne. let was = held (sym (other j ne) ∙ e) in held_kept o.steps (ap length (same_content at was.labelled.is_live).bytes) was)
        (cases_eq j i)

    pub own_grew : Grew kind tag size leaves new_leaves old new
    own_grew = record {
      as_long = as_long;
      owned = λ b has. ⊎_elim
          (λ is. let is_r : b ≡ r = some_is (subst (λ x. leaf_of new_leaves x ≡ Some b) is has.is) here in subst (λ x. HasLeaf leaves x ⊎ Made old new x) (sym is_r) (⊎_elim (λ e. inl (record { number = i; is = e })) (λ m. inr m) was))
          (λ ne. inl (record { number = has.number; is = sym (other has.number ne) ∙ has.is }))
          (cases_eq has.number i);
      owns = λ b m. record { number = i; is = here ∙ ap (λ x. Some x) (sym (o.only b m)) };
      kept = λ b has current. ⊎_elim
          (λ is. still_one b (subst (λ x. leaf_of leaves x ≡ Some b) is has.is) current)
          (λ ne. record { number = has.number; is = other has.number ne ∙ has.is })
          (cases_eq has.number i);
      still = λ p n prepared. record {
        each = λ k at from to e. still_held (k / 8192) at e (λ was. prepared.each k at from to was);
        last = λ at past e. still_held (size / 8192) at e (λ was. prepared.last at past was);
        limit = subst (λ m. p + n ≤ 8192 * m) (sym as_long) prepared.limit;
      };
      steps = steps_wider (λ b h. h) (λ b h. absurd h) o.steps;
    }

-- Bytes were put into leaf i, which is block at.
pub record PutsOne (kind : Kind) (tag rank size : ℕ) (leaves : List (Option ℕ)) (at place : ℕ) (piece : List ℕ) (old new : State) : Type 0 where
  pub over : Over old kind tag rank size leaves
  pub here : leaf_of leaves (place / 8192) ≡ Some at
  pub part : place % 8192 + length piece ≤ 8192
  pub inside : place + length piece ≤ size
  pub long : length ((old.now at).bytes) ≡ 8192
  pub puts : PutsBytes at (put_at (place % 8192) piece ((old.now at).bytes)) old.now new.now
  pub labels : (b : ℕ) → new.label b ≡ old.label b
  pub steps : Steps tag (λ b. b ≡ at) (λ b. b ≡ at) old new

pub same_leaf : (place m : ℕ) → place % 8192 + m < 8192 → ((place + m) / 8192 ≡ place / 8192) × ((place + m) % 8192 ≡ place % 8192 + m)
same_leaf place m lt = (omega (arith, lt), omega (arith, lt))

module _ {kind : Kind} {tag rank size : ℕ} {leaves : List (Option ℕ)} {at place : ℕ} {piece : List ℕ} {old new : State}
    (p : PutsOne kind tag rank size leaves at place piece old new) where
  put_fits : place % 8192 + length piece ≤ length ((old.now at).bytes)
  put_fits = subst (λ n. place % 8192 + length piece ≤ n) (sym p.long) p.part

  elsewhere : old.tells → (k : ℕ) → (k / 8192 ≢ place / 8192) → byte_of (leaf_of leaves) new.now k ≡ byte_of (leaf_of leaves) old.now k
  elsewhere told k ne = byte_kept old.now new.now (leaf_of leaves (k / 8192)) (k % 8192)
      (λ b e. p.puts.others b (λ is. ne (p.over.apart told (k / 8192) (place / 8192) at (e ∙ ap (λ x. Some x) is) p.here)))

  -- in the leaf itself
  inside : (k : ℕ) → k / 8192 ≡ place / 8192 → byte_of (leaf_of leaves) new.now k ≡ slice_index (put_at (place % 8192) piece ((old.now at).bytes)) (k % 8192)
  inside k e = ap (λ j. byte_at new.now (leaf_of leaves j) None (k % 8192)) e ∙ ap (λ leaf. byte_at new.now leaf None (k % 8192)) p.here ∙ ap (λ bytes. slice_index bytes (k % 8192)) p.puts.here

  before : (k : ℕ) → k / 8192 ≡ place / 8192 → slice_index ((old.now at).bytes) (k % 8192) ≡ byte_of (leaf_of leaves) old.now k
  before k e = sym (ap (λ j. byte_at old.now (leaf_of leaves j) None (k % 8192)) e ∙ ap (λ leaf. byte_at old.now leaf None (k % 8192)) p.here)

  pub put_puts : old.tells → Puts (byte_of (leaf_of leaves) old.now) (byte_of (leaf_of leaves) new.now) place piece
  put_puts told = record {
    within = λ m lt. let part = p.part in let same = same_leaf place m (omega (arith, part, lt)) in
        inside (place + m) same.0 ∙ ap (λ k. slice_index (put_at (place % 8192) piece ((old.now at).bytes)) k) same.1 ∙ put_within (place % 8192) piece ((old.now at).bytes) put_fits m lt;
    before = λ k lt. ⊎_elim
        (λ e. let below : k % 8192 < place % 8192 = omega (arith, e, lt) in inside k e ∙ put_before (place % 8192) piece ((old.now at).bytes) put_fits (k % 8192) below ∙ before k e)
        (λ ne. elsewhere told k ne)
        (cases_eq (k / 8192) (place / 8192));
    behind = λ k ge. ⊎_elim
        (λ e. let above : place % 8192 + length piece ≤ k % 8192 = omega (arith, e, ge) in inside k e ∙ put_behind (place % 8192) piece ((old.now at).bytes) put_fits (k % 8192) above ∙ before k e)
        (λ ne. elsewhere told k ne)
        (cases_eq (k / 8192) (place / 8192));
  }

  pub put_over : Over new kind tag rank size leaves
  put_over = record {
    leaf = λ j b e. leaf_kept p.steps (p.over.leaf j b e);
    apart = λ told. p.over.apart (p.steps.all.still_tells.0 told);
    none = p.over.none;
    tail = λ told k le. let in_size = p.inside in (put_puts (p.steps.all.still_tells.0 told)).behind k (omega (arith, in_size, le)) ∙ p.over.tail (p.steps.all.still_tells.0 told) k le;
    within = p.over.within;
    few = p.over.few;
    leaf_kind = p.over.leaf_kind;
  }

  put_long : (b : ℕ) → length ((new.now b).bytes) ≡ length ((old.now b).bytes)
  put_long b = ⊎_elim
      (λ e. subst (λ x. length ((new.now x).bytes) ≡ length ((old.now x).bytes)) (sym e) (ap length p.puts.here ∙ length_put_at (place % 8192) piece ((old.now at).bytes) put_fits))
      (λ ne. ap length (p.puts.others b ne))
      (cases_eq b at)

  is_leaf : (b : ℕ) → b ≡ at → HasLeaf leaves b
  is_leaf b e = record { number = place / 8192; is = p.here ∙ ap (λ x. Some x) (sym e) }

  pub put_grew : Grew kind tag size leaves leaves old new
  put_grew = record {
    as_long = refl;
    owned = λ b has. inl has;
    owns = λ b m. absurd (m.0 (ap (λ (l : Label). l.state) (sym (p.labels b)) ∙ m.1));
    kept = λ b has current. has;
    still = λ o n prepared. record {
      each = λ k b from to e. held_kept p.steps (put_long b) (prepared.each k b from to e);
      last = λ b past e. held_kept p.steps (put_long b) (prepared.last b past e);
      limit = prepared.limit;
    };
    steps = steps_wider is_leaf is_leaf p.steps;
  }

module _ {kind : Kind} {tag size : ℕ} {leaves mid_leaves new_leaves : List (Option ℕ)} {a b c : State} where
  pub grew_joins : KeepsAll a c → Grew kind tag size leaves mid_leaves a b → Grew kind tag size mid_leaves new_leaves b c → Grew kind tag size leaves new_leaves a c
  grew_joins all first second = record {
    as_long = second.as_long ∙ first.as_long;
    owned = λ at has. ⊎_elim
        (λ h. ⊎_elim (λ was. inl was) (λ m. inr (made_first all first.steps second.steps first.owned first.owned at m)) (first.owned at h))
        (λ n. inr (made_second all first.steps second.steps first.owned first.owned at n))
        (second.owned at has);
    owns = λ at m. ⊎_elim
        (λ made. second.kept at (first.owns at made) ((first.steps.made at made).labelled.0 ∙ sym first.steps.all.same_high))
        (λ made. second.owns at made)
        (made_either all first.steps second.steps first.owned first.owned at m);
    kept = λ at has current. second.kept at (first.kept at has current)
        (⊎_elim (λ m. (first.steps.made at m).labelled.0) (λ no. ap (λ (l : Label). l.epoch) (first.steps.others at no).label ∙ current) (cases_made a b at) ∙ sym first.steps.all.same_high);
    still = λ o n prepared. second.still o n (first.still o n prepared);
    steps = steps_joins all first.steps second.steps first.owned first.owned;
  }

module _ {kind : Kind} {tag size : ℕ} {leaves : List (Option ℕ)} where
  pub grew_none : (a : State) → KeepsAll a a → Grew kind tag size leaves leaves a a
  grew_none a all = record {
    as_long = refl;
    owned = λ at has. inl has;
    owns = λ at m. absurd (m.0 m.1);
    kept = λ at has current. has;
    still = λ o n prepared. prepared;
    steps = steps_none a all;
  }

module _ {leaves new_leaves : List (Option ℕ)} {a b : State} where
  pub grew_same : {kind other : Kind} {tag more size end : ℕ} → kind ≡ other → tag ≡ more → size ≡ end → Grew kind tag size leaves new_leaves a b → Grew other more end leaves new_leaves a b
  grew_same {kind = kind} {tag = tag} {more = more} {end = end} same_kind same_tag same_size grew = subst (λ k. Grew k more end leaves new_leaves a b) same_kind (subst (λ t. Grew kind t end leaves new_leaves a b) same_tag (subst (λ n. Grew kind tag n leaves new_leaves a b) same_size grew))

pub prepared_same : {s : State} {kind other : Kind} {tag more size end : ℕ} {leaves : List (Option ℕ)} {o n : ℕ} → other ≡ kind → more ≡ tag → end ≡ size → Prepared s kind tag size leaves o n → Prepared s other more end leaves o n
prepared_same {s = s} {kind = kind} {tag = tag} {more = more} {end = end} {leaves = leaves} {o = o} {n = n} same_kind same_tag same_size prepared = subst (λ k. Prepared s k more end leaves o n) (sym same_kind) (subst (λ t. Prepared s kind t end leaves o n) (sym same_tag) (subst (λ m. Prepared s kind tag m leaves o n) (sym same_size) prepared))

module _ {s : State} {kind : Kind} {tag rank size end : ℕ} {leaves : List (Option ℕ)} (over : Over s kind tag rank size leaves) (longer : size ≤ end) where
  -- the source is given a later end
  pub over_raised : end ≤ 8192 * length leaves → Over s kind tag rank end leaves
  over_raised within = record {
    leaf = over.leaf;
    apart = over.apart;
    none = λ i le. over.none i (omega (arith, longer, le));
    tail = λ told k le. over.tail told k (omega (arith, longer, le));
    within = within;
    few = over.few;
    leaf_kind = over.leaf_kind;
  }

  pub prepared_raised : {o n : ℕ} → Prepared s kind tag size leaves o n → Prepared s kind tag end leaves o n
  prepared_raised prepared = record {
    each = prepared.each;
    last = λ at past e. ⊎_elim
        (λ same. prepared.last at (omega (arith, longer, past)) (subst (λ j. leaf_of leaves j ≡ Some at) same e))
        (λ ne. let none : leaf_of leaves (end / 8192) ≡ None = over.none (end / 8192) (omega (arith, longer, ne)) in absurd (never e none))
        (cases_eq (end / 8192) (size / 8192));
    limit = prepared.limit;
  }
