-- A leaf was owned, and bytes were put into it.
use Rattle.std.proofs.Common.{◌≡◌, ◌≢◌, ◌⊎◌, ◌+◌, ◌-◌, ◌*◌, ◌/◌, ◌%◌, ◌^◌, ◌<◌, ◌≤◌, ℕ, Bool, true, cond, nat_lt, List, ◌++◌, length, take, drop, slice_index, Option, Some, None, MatchOption, inl, inr, ⊎_elim, refl, sym, ap, ◌∙◌, subst, arith}
use Rattle.std.proofs.lemmas.Bool.{cases_eq, cases_lt, lt-ltb, le-ltb}
use Rattle.std.proofs.lemmas.List.{length-take-le, length-append, get_or-take, get_or-drop, get_or_append_left, get_or-append_right, get_or-replicate, get_or_past}
use Rattle.fo_image.specs.declared.types.Label.{Label}
use Rattle.fo_image.specs.declared.types.Score.{Score}
use Rattle.fo_image.specs.declared.types.Pointer.{Pointer}
use Rattle.fo_image.specs.declared.types.Pointer.TheVariants.{Nil, Local, Score as Held}
use Rattle.fo_image.specs.Format.{kind_code}
use Rattle.fo_ports.specs.of_crash.Images.{Image}
use Rattle.fo_ports.specs.of_crash.Places.{IsPlaced, OnePlace}
use Rattle.fo_ports.specs.Blocks.{zero_bytes, put_at}
use Rattle.fo_ports.specs.State.{State, KeepsAll}
use Rattle.fo_ports.specs.Sources.{Made, byte_at}
use Rattle.fo_ports.proofs.Lengths.{length_put_at}
use Rattle.fo_tree_leaf.specs.of_tree_read.declared.tree.Tree.{Tree}
use Rattle.fo_tree_leaf.specs.of_tree_read.Tree.{kind_at, kind_down, block_at, leaf_at, address_of, held_of, address, held_leaf}
use Rattle.fo_tree_leaf.specs.of_tree_look.declared.ways.Kept.{Kept}
use Rattle.fo_tree_leaf.specs.of_tree_look.Source.{IsPrepared, IsKept, Over, find_kept, or_held, seen, Ready, form_of, leaves_of, address_here, held_here}
use Rattle.fo_tree_leaf.proofs.of_tree_look.Held.{seen_leaf, seen_address}
use Rattle.fo_tree_leaf.proofs.of_tree_look.Places.{is_here, here_owned, leaves_apart}
use Rattle.fo_tree_leaf.specs.of_tree_own.Step.{Becomes}
use Rattle.fo_tree_leaf.specs.of_tree_down.Way.{Comes, Replaces, StaysBeside, with_top}
use Rattle.fo_tree_leaf.proofs.of_tree_down.Next.{local_seen, local_eq}
use Rattle.fo_tree_leaf.proofs.of_tree_down.Beside.{index_last}
use Rattle.fo_tree_leaf.proofs.of_tree_down.Stilling.{index_one}
use Rattle.fo_tree_clear.specs.Put.{byte_here, Puts, LeafPut}
use Rattle.fo_tree_clear.proofs.Same.{address_same, has_on, held_here_same}
use Rattle.fo_tree_clear.proofs.Putting.{BytesPut, same_slots, label_same}

cond_true : {T : Type 0} (b : Bool) (x y : T) → b ≡ true → cond b x y ≡ x
cond_true b x y e = ap (λ c. cond c x y) e

nil_local : (a : ℕ) → Nil ≡ Local a → ⊥
nil_local a e = cc

held_local : (score : Score) (a : ℕ) → Held score ≡ Local a → ⊥
held_local score a e = cc

-- ---- bytes that are put, place by place

zero_at : (k : ℕ) → slice_index zero_bytes k ≡ 0
unfolding zero_bytes
zero_at k = ⊎_elim (λ lt. get_or-replicate 8192 k 0 0 lt) (λ ge. get_or_past zero_bytes k 0 ge) (cases_lt k 8192)

module _ (from : ℕ) (bytes old : List ℕ) (within : from + length bytes ≤ length old) where
  front_len : length (take from old) ≡ from
  front_len = length-take-le from old (omega (arith, within))

  front_two : length (take from old ++ bytes) ≡ from + length bytes
  front_two = length-append (take from old) bytes ∙ ap (λ n. n + length bytes) front_len

  pub put_before : (k : ℕ) → k < from → slice_index (put_at from bytes old) k ≡ slice_index old k
  put_before k lt =
      get_or_append_left (take from old ++ bytes) (drop (from + length bytes) old) 0 k (omega (arith, front_two, lt))
      ∙ get_or_append_left (take from old) bytes 0 k (omega (arith, front_len, lt)) ∙ get_or-take from old k 0 lt

  pub put_within : (i : ℕ) → i < length bytes → slice_index (put_at from bytes old) (from + i) ≡ slice_index bytes i
  put_within i lt =
      let back : from + i - from ≡ i = omega arith in
      get_or_append_left (take from old ++ bytes) (drop (from + length bytes) old) 0 (from + i) (omega (arith, front_two, lt))
      ∙ get_or-append_right (take from old) bytes from (from + i) 0 front_len (omega arith) ∙ ap (λ n. slice_index bytes n) back

  pub put_behind : (k : ℕ) → from + length bytes ≤ k → slice_index (put_at from bytes old) k ≡ slice_index old k
  put_behind k ge =
      let back : from + length bytes + (k - (from + length bytes)) ≡ k = omega (arith, ge) in
      get_or-append_right (take from old ++ bytes) (drop (from + length bytes) old) (from + length bytes) k 0 front_two ge
      ∙ get_or-drop (from + length bytes) old (k - (from + length bytes)) 0 ∙ ap (λ n. slice_index old n) back

-- ---- the leaf that came

-- The leaf that came, and what is known of it.
pub record LeafCame (s u : State) (t : Tree) (kept : List Kept) (limit top i at : ℕ) : Type 0 where
  pub all : KeepsAll s u
  pub over : Over s t kept limit
  pub end : Over u (with_top t top) kept limit
  pub inside : 8192 * i < t.size
  pub comes : Comes s u t kept t.depth i at
  pub replaces : Replaces s u t t.depth i at
  pub leads : block_at u (with_top t top) t.depth i ≡ Local at
  pub ready : Ready s t kept t.depth (block_at (seen s kept) t t.depth i)
  pub beside : s.tells → StaysBeside s u t (with_top t top) t.depth i

-- what a leaf has, by where the pointer to it led
abbrev pub Has : (s u : State) (at : ℕ) → (List ℕ → List ℕ) → Option ℕ → Option (List ℕ) → Type 0
Has s u at f leaf held = MatchOption leaf (MatchOption held ((u.now at).bytes ≡ f zero_bytes) (λ bytes. (u.now at).bytes ≡ f bytes)) (λ b. ((u.now at).bytes ≡ f ((s.now b).bytes)) × ((k : ℕ) → (u.now at).slot k ≡ (s.now b).slot k))

module _ {s u : State} {t : Tree} {kept : List Kept} {limit top i at : ℕ} (x : LeafCame s u t kept limit top i at) where
  few : i < 409 ^ t.depth
  few = let room = x.over.hangs.room in let lt = x.inside in omega (arith, room, lt)

  leaf_in : nat_lt i (409 ^ t.depth) ≡ true
  leaf_in = lt-ltb i (409 ^ t.depth) few

  end_in : nat_lt (8192 * i) t.size ≡ true
  end_in = lt-ltb (8192 * i) t.size x.inside

  leaf_new : leaf_at u (with_top t top) i ≡ Local at
  leaf_new = cond_true (nat_lt i (409 ^ t.depth)) (block_at u (with_top t top) t.depth i) Nil leaf_in ∙ x.leads

  pub is_end : address_here u (with_top t top) i ≡ Some at
  is_end = cond_true (nat_lt (8192 * i) t.size) (address u (with_top t top) i) None end_in ∙ ap (λ (p : Pointer). address_of p) leaf_new

  -- other leaves
  leaf_same : s.tells → (j : ℕ) → j ≢ i → leaf_at u (with_top t top) j ≡ leaf_at s t j
  leaf_same told j ne = ⊎_elim
      (λ lt. ap (λ (p : Pointer). cond (nat_lt j (409 ^ t.depth)) p Nil) ((x.beside told).each t.depth j (omega arith) lt (λ is. ne (index_one t.depth i t.depth j i is (index_last t.depth i)))))
      (λ ge. let past = le-ltb j (409 ^ t.depth) ge in ap (λ c. cond c (block_at u (with_top t top) t.depth j) Nil) past ∙ sym (ap (λ c. cond c (block_at s t t.depth j) Nil) past))
      (cases_lt j (409 ^ t.depth))

  pub address_beside : s.tells → (j : ℕ) → j ≢ i → address_here u (with_top t top) j ≡ address_here s t j
  address_beside told j ne = ap (λ (p : Pointer). cond (nat_lt (8192 * j) t.size) (address_of p) None) (leaf_same told j ne)

  held_of_same : (p : Pointer) → held_of u (kind_at t.dir 0) p ≡ held_of s (kind_at t.dir 0) p
  held_of_same Nil = refl
  held_of_same (Local a) = refl
  held_of_same (Held score) = x.all.same_held score (kind_code (kind_at t.dir 0))

  pub held_beside : s.tells → (j : ℕ) → j ≢ i → held_here u (with_top t top) kept j ≡ held_here s t kept j
  held_beside told j ne =
      seen_leaf u (with_top t top) kept x.end.held (x.all.still_tells.1 told) j
      ∙ ap (λ (p : Pointer). cond (nat_lt (8192 * j) t.size) (held_of u (kind_at t.dir 0) p) None) (leaf_same told j ne)
      ∙ ap (λ (h : Option (List ℕ)). cond (nat_lt (8192 * j) t.size) h None) (held_of_same (leaf_at s t j))
      ∙ sym (seen_leaf s t kept x.over.held told j)

  -- what it has
  old_address : address_here s t i ≡ address_of (block_at s t t.depth i)
  old_address = cond_true (nat_lt (8192 * i) t.size) (address s t i) None end_in ∙ ap (λ (p : Pointer). address_of p) (cond_true (nat_lt i (409 ^ t.depth)) (block_at s t t.depth i) Nil leaf_in)

  old_held : held_here s t kept i ≡ held_of (seen s kept) (kind_at t.dir 0) (block_at (seen s kept) t t.depth i)
  old_held = cond_true (nat_lt (8192 * i) t.size) (held_leaf (seen s kept) t i) None end_in ∙ ap (λ (p : Pointer). held_of (seen s kept) (kind_at t.dir 0) p) (cond_true (nat_lt i (409 ^ t.depth)) (block_at (seen s kept) t t.depth i) Nil leaf_in)

  level : t.depth - t.depth ≡ 0
  level = omega arith

  has : (p : Pointer) → Ready s t kept t.depth p → Becomes s u t kept 0 p at → Has s u at (λ xs. xs) (address_of p) (held_of (seen s kept) (kind_at t.dir 0) p)
  has Nil is content = content.bytes
  has (Local b) is content = (content.bytes, content.slots)
  has (Held score) is content =
      let kept_is : IsKept kept score (kind_code (kind_at t.dir 0)) = subst (λ l. IsKept kept score (kind_code (kind_at t.dir l))) level is.0 in
      let found : or_held (find_kept kept score (kind_code (kind_at t.dir 0))) (s.held score (kind_code (kind_at t.dir 0))) ≡ Some kept_is.0 = ap (λ f. or_held f (s.held score (kind_code (kind_at t.dir 0)))) kept_is.1 in
      subst (λ h. Has s u at (λ xs. xs) None h) (sym found) ((content kept_is.0 kept_is.1).leaf refl)

  pub content_came : Has s u at (λ xs. xs) (address_here s t i) (held_here s t kept i)
  content_came =
      let addresses : address_here s t i ≡ address_of (block_at (seen s kept) t t.depth i) = old_address ∙ sym (seen_address s kept t t.depth i) in
      subst (λ a. Has s u at (λ xs. xs) a (held_here s t kept i)) (sym addresses)
      (subst (λ h. Has s u at (λ xs. xs) (address_of (block_at (seen s kept) t t.depth i)) h) (sym old_held)
      (has (block_at (seen s kept) t t.depth i) x.ready (subst (λ l. Becomes s u t kept l (block_at (seen s kept) t t.depth i) at) level x.comes.content)))

  abbrev Copied : Option ℕ → Type 0
  Copied leaf = MatchOption leaf (Made s u at) (λ b. ((b ≡ at) × ((s.label b).epoch ≡ s.high)) ⊎ (((s.label b).epoch < s.high) × Made s u at))

  made_or : (block_at s t t.depth i ≡ Local at → Made s u at) → Made s u at
  made_or from = ⊎_elim (λ made. made) (λ is. from is.0) x.comes.from

  copied : (p : Pointer) → block_at s t t.depth i ≡ p → ((b : ℕ) → p ≡ Local b → IsPrepared s (kind_down t t.depth) t.tag b) → Copied (address_of p)
  copied Nil e is = made_or (λ f. absurd (nil_local at (sym e ∙ f)))
  copied (Held score) e is = made_or (λ f. absurd (held_local score at (sym e ∙ f)))
  copied (Local b) e is = ⊎_elim
      (λ current. inl (sym (x.replaces.kept b e current), current))
      (λ older.
      let up = (is b refl).up_to in
      inr (
        omega (arith, up, older),
        made_or (λ f.
            let same : b ≡ at = local_eq (sym e ∙ f) in
            absurd (not_older b same (is b refl) older)),
      ))
      (cases_eq ((s.label b).epoch) s.high)
    where
      not_older : (b : ℕ) → b ≡ at → IsPrepared s (kind_down t t.depth) t.tag b → (s.label b).epoch ≢ s.high → ⊥
      not_older b same prepared older =
          let label = (x.comes.descends.others b (λ made. made.0 prepared.live)).label in
          older (sym (ap (λ (l : Label). l.epoch) label) ∙ ap (λ y. (u.label y).epoch) same ∙ x.comes.own.current ∙ x.all.same_high)

  pub was_prepared : (b : ℕ) → block_at s t t.depth i ≡ Local b → IsPrepared s (kind_down t t.depth) t.tag b
  was_prepared b e = subst (λ (p : Pointer). Ready s t kept t.depth p) (local_seen s kept t t.depth i b e) x.ready

  pub copied_came : Copied (address_here s t i)
  copied_came = subst (λ a. Copied a) (sym old_address) (copied (block_at s t t.depth i) refl (λ b e. was_prepared b e))

  -- ---- all bytes are those that were there

  byte_came : (leaf : Option ℕ) (held : Option (List ℕ)) (r : ℕ) → Has s u at (λ xs. xs) leaf held → slice_index ((u.now at).bytes) r ≡ byte_at s.now leaf held r
  byte_came (Some b) held r had = ap (λ xs. slice_index xs r) had.0
  byte_came None (Some bytes) r had = ap (λ xs. slice_index xs r) had
  byte_came None None r had = ap (λ xs. slice_index xs r) had ∙ zero_at r

  byte_stays : s.tells → (j : ℕ) (leaf : Option ℕ) → address_here s t j ≡ leaf → (held : Option (List ℕ)) (r : ℕ) → byte_at u.now leaf held r ≡ byte_at s.now leaf held r
  byte_stays told j (Some b) e held r = ap (λ xs. slice_index xs r) (x.comes.descends.bytes b (λ made. made.0 (x.over.told told b (here_owned (is_here s t j b e))).live))
  byte_stays told j None e (Some bytes) r = refl
  byte_stays told j None e None r = refl

  byte_here_came : (k : ℕ) → k / 8192 ≡ i → byte_here u (with_top t top) kept k ≡ byte_here s t kept k
  byte_here_came k e =
      ap (λ j. byte_at u.now (address_here u (with_top t top) j) (held_here u (with_top t top) kept j) (k % 8192)) e
      ∙ ap (λ a. byte_at u.now a (held_here u (with_top t top) kept i) (k % 8192)) is_end
      ∙ byte_came (address_here s t i) (held_here s t kept i) (k % 8192) content_came
      ∙ sym (ap (λ j. byte_at s.now (address_here s t j) (held_here s t kept j) (k % 8192)) e)

  byte_beside : s.tells → (k : ℕ) → k / 8192 ≢ i → byte_here u (with_top t top) kept k ≡ byte_here s t kept k
  byte_beside told k ne =
      ap (λ a. byte_at u.now a (held_here u (with_top t top) kept (k / 8192)) (k % 8192)) (address_beside told (k / 8192) ne)
      ∙ ap (λ h. byte_at u.now (address_here s t (k / 8192)) h (k % 8192)) (held_beside told (k / 8192) ne)
      ∙ byte_stays told (k / 8192) (address_here s t (k / 8192)) refl (held_here s t kept (k / 8192)) (k % 8192)

  pub bytes_came : s.tells → (k : ℕ) → byte_here u (with_top t top) kept k ≡ byte_here s t kept k
  bytes_came told k = ⊎_elim (λ e. byte_here_came k e) (λ ne. byte_beside told k ne) (cases_eq (k / 8192) i)

-- ---- and a piece was put into it

-- What is known once a piece was put into the leaf that came.
pub record PieceCame (s u v : State) (t : Tree) (kept : List Kept) (limit top i at from : ℕ) (piece : List ℕ) (beside : Image → Type 0) : Type 0 where
  pub came : LeafCame s u t kept limit top i at
  pub put : BytesPut at (put_at from piece ((u.now at).bytes)) beside u v
  pub part : from + length piece ≤ 8192
  -- what is said where the device tells
  pub placed : s.tells → IsPlaced u.stands u.now
  pub one : s.tells → OnePlace u.stands

module _ {s u v : State} {t : Tree} {kept : List Kept} {limit top i at from : ℕ} {piece : List ℕ} {beside : Image → Type 0}
    (x : PieceCame s u v t kept limit top i at from piece beside) where
  fits : from + length piece ≤ length ((u.now at).bytes)
  fits = let part = x.part in let long = x.came.comes.own.long in omega (arith, part, long)

  address_end : (j : ℕ) → address_here v (with_top t top) j ≡ address_here u (with_top t top) j
  address_end j = address_same (same_slots x.put) (with_top t top) j

  held_end : (j : ℕ) → held_here v (with_top t top) kept j ≡ held_here u (with_top t top) kept j
  held_end j = held_here_same (same_slots x.put) (with_top t top) kept j

  -- ---- bytes

  byte_end : (k : ℕ) → byte_here v (with_top t top) kept k ≡ byte_at v.now (address_here u (with_top t top) (k / 8192)) (held_here u (with_top t top) kept (k / 8192)) (k % 8192)
  byte_end k =
      ap (λ a. byte_at v.now a (held_here v (with_top t top) kept (k / 8192)) (k % 8192)) (address_end (k / 8192))
      ∙ ap (λ h. byte_at v.now (address_here u (with_top t top) (k / 8192)) h (k % 8192)) (held_end (k / 8192))

  inside : (k : ℕ) → k / 8192 ≡ i → byte_here v (with_top t top) kept k ≡ slice_index (put_at from piece ((u.now at).bytes)) (k % 8192)
  inside k e =
      byte_end k
      ∙ ap (λ j. byte_at v.now (address_here u (with_top t top) j) (held_here u (with_top t top) kept j) (k % 8192)) e
      ∙ ap (λ a. byte_at v.now a (held_here u (with_top t top) kept i) (k % 8192)) (is_end x.came)
      ∙ ap (λ xs. slice_index xs (k % 8192)) x.put.puts.here

  was_inside : (k : ℕ) → k / 8192 ≡ i → slice_index ((u.now at).bytes) (k % 8192) ≡ byte_here u (with_top t top) kept k
  was_inside k e =
      sym (ap (λ j. byte_at u.now (address_here u (with_top t top) j) (held_here u (with_top t top) kept j) (k % 8192)) e
      ∙ ap (λ a. byte_at u.now a (held_here u (with_top t top) kept i) (k % 8192)) (is_end x.came))

  leaf_stays : s.tells → (j : ℕ) → j ≢ i → (leaf : Option ℕ) → address_here u (with_top t top) j ≡ leaf → (held : Option (List ℕ)) (r : ℕ) → byte_at v.now leaf held r ≡ byte_at u.now leaf held r
  leaf_stays told j ne (Some b) e held r = ap (λ xs. slice_index xs r) (x.put.puts.others b (λ is. ne
      (leaves_apart u (with_top t top) (x.placed told) (x.one told) x.came.end.hangs (x.came.all.still_tells.1 told) j i at (e ∙ ap (λ y. Some y) is) (is_end x.came))))
  leaf_stays told j ne None e (Some bytes) r = refl
  leaf_stays told j ne None e None r = refl

  elsewhere : s.tells → (k : ℕ) → k / 8192 ≢ i → byte_here v (with_top t top) kept k ≡ byte_here u (with_top t top) kept k
  elsewhere told k ne = byte_end k ∙ leaf_stays told (k / 8192) ne (address_here u (with_top t top) (k / 8192)) refl (held_here u (with_top t top) kept (k / 8192)) (k % 8192)

  pub puts_end : s.tells → Puts (byte_here s t kept) (byte_here v (with_top t top) kept) (8192 * i + from) piece
  puts_end told = record {
    within = λ m lt.
        let part = x.part in
        let leaf : (8192 * i + from + m) / 8192 ≡ i = omega (arith, part, lt) in
        let rest : (8192 * i + from + m) % 8192 ≡ from + m = omega (arith, part, lt) in
        inside (8192 * i + from + m) leaf ∙ ap (λ k. slice_index (put_at from piece ((u.now at).bytes)) k) rest ∙ put_within from piece ((u.now at).bytes) fits m lt;
    before = λ k lt. ⊎_elim
        (λ e. let below : k % 8192 < from = omega (arith, e, lt) in inside k e ∙ put_before from piece ((u.now at).bytes) fits (k % 8192) below ∙ was_inside k e ∙ bytes_came x.came told k)
        (λ ne. elsewhere told k ne ∙ bytes_came x.came told k)
        (cases_eq (k / 8192) i);
    behind = λ k ge. ⊎_elim
        (λ e. let part = x.part in let above : from + length piece ≤ k % 8192 = omega (arith, e, ge, part) in inside k e ∙ put_behind from piece ((u.now at).bytes) fits (k % 8192) above ∙ was_inside k e ∙ bytes_came x.came told k)
        (λ ne. elsewhere told k ne ∙ bytes_came x.came told k)
        (cases_eq (k / 8192) i);
  }

  -- ---- the leaf

  content_of : (leaf : Option ℕ) (held : Option (List ℕ)) → Has s u at (λ xs. xs) leaf held → Has s v at (put_at from piece) leaf held
  content_of (Some b) held had = (x.put.puts.here ∙ ap (λ xs. put_at from piece xs) had.0, λ k. x.put.puts.slots at k ∙ had.1 k)
  content_of None (Some bytes) had = x.put.puts.here ∙ ap (λ xs. put_at from piece xs) had
  content_of None None had = x.put.puts.here ∙ ap (λ xs. put_at from piece xs) had

  made_on : Made s u at → Made s v at
  made_on made = (made.0, ap (λ (l : Label). l.state) (label_same x.put at) ∙ made.1)

  copied_of : (leaf : Option ℕ) → MatchOption leaf (Made s u at) (λ b. ((b ≡ at) × ((s.label b).epoch ≡ s.high)) ⊎ (((s.label b).epoch < s.high) × Made s u at)) → MatchOption leaf (Made s v at) (λ b. ((b ≡ at) × ((s.label b).epoch ≡ s.high)) ⊎ (((s.label b).epoch < s.high) × Made s v at))
  copied_of (Some b) is = ⊎_elim (λ h. inl h) (λ h. inr (h.0, made_on h.1)) is
  copied_of None made = made_on made

  pub leaf_put : (generation : ℕ) → LeafPut (form_of t generation limit) i at from piece s v (leaves_of s t kept limit) (leaves_of v (with_top t top) kept limit)
  leaf_put generation =
      let own = x.came.comes.own in
      let none : t.depth - t.depth ≡ 0 = omega arith in
      let same = label_same x.put at in
      record {
        is = address_end i ∙ is_end x.came;
        others = λ told j ne. (address_end j ∙ address_beside x.came told j ne, held_end j ∙ held_beside x.came told j ne);
        content = content_of (address_here s t i) (held_here s t kept i) (content_came x.came);
        copied = copied_of (address_here s t i) (copied_came x.came);
        label = (
          ap (λ (l : Label). l.state) same ∙ own.live,
          ap (λ (l : Label). l.kind) same ∙ own.has_kind ∙ ap (λ l. kind_at t.dir l) none,
          ap (λ (l : Label). l.tag) same ∙ own.tagged,
          ap (λ (l : Label). l.epoch) same ∙ own.current ∙ sym x.put.all.same_high,
        );
        ready = (
          has_on (same_slots x.put) (with_top t top) at (record { down = t.depth; index = i; within = omega arith; is = x.came.leads }),
          (x.put.calm.frame.stays.marks at (λ h. h)).0 own.is_pinned,
          ap length x.put.puts.here ∙ length_put_at from piece ((u.now at).bytes) fits ∙ own.long,
        );
      }
