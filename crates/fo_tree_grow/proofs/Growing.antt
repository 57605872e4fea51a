-- What a source has that grew within its levels.
use Rattle.std.specs.List.{range_with_len}
use Rattle.std.proofs.Common.{◌≡◌, ◌⊎◌, ◌+◌, ◌-◌, ◌*◌, ◌/◌, ◌%◌, ◌<◌, ◌≤◌, ℕ, List, length, take, map, slice_index, Option, Some, None, MatchOption, inl, inr, ⊎_elim, refl, sym, ◌∙◌, ap, subst, arith}
use Rattle.std.proofs.lemmas.Bool.{cases_lt}
use Rattle.std.proofs.lemmas.List.{length-take, get_or-take, get_or_past}
use Rattle.std.proofs.lemmas.List.FromFn.{length-map-range_with_len, get_or-map-range_with_len}
use Rattle.fo_sparse.specs.Written.{resized}
use Rattle.fo_sparse.proofs.Lists.{is_resized}
use Rattle.fo_ports.specs.of_crash.Images.{SameContent}
use Rattle.fo_ports.specs.Blocks.{blank}
use Rattle.fo_ports.specs.State.{State}
use Rattle.fo_ports.specs.Sources.{Form, Leaves, Made, Touched, Changes, IsCut, EndsWithin, StaysLeaf, Owned, byte_at, source_bytes}
use Rattle.fo_tree_raise.specs.of_tree_read.declared.tree.Tree.{Tree}
use Rattle.fo_tree_leaf.specs.of_tree_look.declared.ways.Kept.{Kept}
use Rattle.fo_tree_leaf.specs.of_tree_look.Source.{IsPlainTree, form_of, leaves_of, address_here, held_here}
use Rattle.fo_tree_leaf.proofs.of_tree_look.Shown.{address_past, held_past}
use Rattle.fo_tree_leaf.specs.of_tree_down.Way.{IsTopOf}
use Rattle.fo_tree_grow.specs.Grow.{shaped, TailClear}

-- What changes of a source changes of one that has its blocks.
pub changes_of : {tag : ℕ} {mine wider inner more : ℕ → Type 0} {s u : State} → ((b : ℕ) → mine b → wider b) → ((b : ℕ) → inner b → more b) → Changes tag mine inner s u → Changes tag wider more s u
changes_of {tag = tag} {inner = inner} {more = more} {s = s} {u = u} within deeper x = record {
  memory = λ b not. x.memory b (λ h. not (touched b h));
  images = λ image is. let d = x.images image is in record {
    other = d.other;
    was = d.was;
    same = λ b not. d.same b (λ h. not (touched b h));
    slots = d.slots;
    apart = d.apart;
  };
  made = x.made;
  others = x.others;
  apart = λ b not. let was = x.apart b not in (was.0, λ h. ⊎_elim (λ still. inl still) (λ mine. inr (within b mine)) (was.1 h));
  places = λ told b p not other free r stands. x.places told b p not (λ h. other (within b h)) free r stands;
  rooted = x.rooted;
  instead = λ b y h. ⊎_elim (λ old. inl old) (λ new. inr (new.0, ⊎_elim (λ mine. inl (within y mine)) (λ was. inr (was.0, within was.0 was.1, was.2)) new.1)) (x.instead b y h);
  covers = λ b. let c = x.covers b in (c.0, λ no other h. c.1 no (λ is. other (within b is)) h);
  leaves = x.leaves;
  in_tree = λ told b other r. x.in_tree told b (λ is. other (within b is)) r;
  waits = x.waits;
  no_wait = x.no_wait;
  clearing = x.clearing;
  goes_on = x.goes_on;
  dirty = λ b d. ⊎_elim (λ old. inl old) (λ h. inr (⊎_elim (λ t. inl (⊎_elim (λ made. inl made) (λ own. inr (within b own.0, own.1, own.2)) t)) (λ label. inr label) h)) (x.dirty b d);
  moments = x.moments;
  left = x.left;
  pins = x.pins;
  usable = x.usable;
  numbers = x.numbers;
}
  where
    touched : (b : ℕ) → Touched s u tag inner b → Touched s u tag more b
    touched b h = ⊎_elim (λ made. inl made) (λ own. inr (deeper b own.0, own.1, own.2)) h

pub top_of_sized : {s u : State} {t : Tree} {d z top : ℕ} → IsTopOf s u (shaped t d z) top → IsTopOf s u t top
top_of_sized is = record { from = is.from; apart = is.apart; comes = is.comes; only = is.only; live = is.live; current = is.current }

-- a list whose end is zeros
pub ends_in_zeros : (was : List ℕ) (m : ℕ) → length was ≡ 8192 → ((k : ℕ) → m ≤ k → k < 8192 → slice_index was k ≡ 0) → was ≡ resized (take m was) 8192
ends_in_zeros was m long zeros =
    is_resized (take m was) was
    (λ k lt. ⊎_elim
    (λ small. sym (get_or-take m was k 0 small))
    (λ past. zeros k past (omega (arith, lt, long)) ∙ sym (get_or_past (take m was) k 0 (omega (arith, past, length-take m was))))
    (cases_lt k m))
    ∙ ap (λ n. resized (take m was) n) long

module _ (s : State) (t : Tree) (d z i : ℕ) (kept : List Kept) (addresses : (j : ℕ) → address_here s (shaped t d z) j ≡ address_here s t j) (holds : (j : ℕ) → held_here s (shaped t d z) kept j ≡ held_here s t kept j) (tail : TailClear s t kept) (is : z ≡ 8192 * (i + 1)) where
  -- a byte behind the end in leaf i
  zero_in : IsPlainTree t → (r : ℕ) → t.size - 8192 * i ≤ r → r < 8192 → byte_at s.now (address_here s t i) (held_here s t kept i) r ≡ 0
  zero_in plain r past lt =
      let up : (8192 * i + r) / 8192 ≡ i = omega (arith, lt) in
      let rest : (8192 * i + r) % 8192 ≡ r = omega (arith, lt) in
      sym (ap (λ j. byte_at s.now (address_here s t j) (held_here s t kept j) ((8192 * i + r) % 8192)) up ∙ ap (λ k. byte_at s.now (address_here s t i) (held_here s t kept i) k) rest)
      ∙ tail plain (8192 * i + r) (omega (arith, past))

  module _ (u : State) (at generation limit : ℕ) (new : Leaves) (o : Owned (form_of t generation limit) z i at s u (leaves_of s (shaped t d z) kept limit) new) where
    abbrev form : Form
    form = form_of t generation limit

    abbrev Has : ℕ → Option ℕ → Option (List ℕ) → Type 0
    Has size leaf held = MatchOption leaf (MatchOption held (SameContent (u.now at) (blank form.kind)) (λ bytes. IsCut form size i ((u.now at).bytes) bytes)) (λ b. IsCut form size i ((u.now at).bytes) ((s.now b).bytes) × ((k : ℕ) → (u.now at).slot k ≡ (s.now b).slot k))

    not_end : EndsWithin form z i → ⊥
    not_end ends = let lt = ends.2 in omega (arith, lt, is)

    cut_here : (was : List ℕ) → IsCut form z i ((u.now at).bytes) was → (IsPlainTree t → (r : ℕ) → t.size - 8192 * i ≤ r → r < 8192 → slice_index was r ≡ 0) → IsCut form t.size i ((u.now at).bytes) was
    cut_here was cut zeros =
        let same : (u.now at).bytes ≡ was = cut.whole not_end in
        record {
          whole = λ no. same;
          cut = λ ends. same ∙ ends_in_zeros was (t.size - 8192 * i) (ap length (sym same) ∙ o.ready.2) (λ r past lt. zeros ends.0 r past lt);
        }

    by_leaf : (a : Option ℕ) (h : Option (List ℕ)) → address_here s t i ≡ a → held_here s t kept i ≡ h → Has z a h → Has t.size a h
    by_leaf (Some b) h ea eh had = (
      cut_here ((s.now b).bytes) had.0 (λ plain r past lt. ap (λ x. byte_at s.now x (held_here s t kept i) r) (sym ea) ∙ zero_in plain r past lt),
      had.1,
    )
    by_leaf None (Some bytes) ea eh had = cut_here bytes had (λ plain r past lt. ap (λ x. byte_at s.now None x r) (sym eh) ∙ ap (λ x. byte_at s.now x (held_here s t kept i) r) (sym ea) ∙ zero_in plain r past lt)
    by_leaf None None ea eh had = had

    stays : (j : ℕ) → StaysLeaf (leaves_of s (shaped t d z) kept limit) new j → StaysLeaf (leaves_of s t kept limit) new j
    stays j leaf = record {
      at = leaf.at ∙ addresses j;
      held = ⊎_elim
          (λ e. inl (e ∙ holds j))
          (λ none. inr (sym (holds j) ∙ none.0, none.1))
          leaf.held;
    }

    pub owned_sized : Owned (form_of t generation limit) t.size i at s u (leaves_of s t kept limit) new
    owned_sized = record {
      is = o.is;
      others = λ told j ne. ⊎_elim (λ leaf. inl (stays j leaf)) (λ renewed. let lt = renewed.0 in absurd (omega (arith, lt, is))) (o.others told j ne);
      content = by_leaf (address_here s t i) (held_here s t kept i) refl refl
          (subst (λ a. Has z a (held_here s t kept i)) (addresses i)
          (subst (λ h. Has z (address_here s (shaped t d z) i) h) (holds i) o.content));
      copied = subst (λ a. MatchOption a (Made s u at) (λ b. ((b ≡ at) × ((s.label b).epoch ≡ s.high)) ⊎ (((s.label b).epoch < s.high) × Made s u at))) (addresses i) o.copied;
      label = o.label;
      ready = o.ready;
    }

  -- ---- all bytes

  abbrev byte_new : ℕ → ℕ
  byte_new k = byte_at s.now (address_here s (shaped t d z) (k / 8192)) (held_here s (shaped t d z) kept (k / 8192)) (k % 8192)

  abbrev byte_old : ℕ → ℕ
  byte_old k = byte_at s.now (address_here s t (k / 8192)) (held_here s t kept (k / 8192)) (k % 8192)

  same_byte : (k : ℕ) → byte_new k ≡ byte_old k
  same_byte k =
      ap (λ a. byte_at s.now a (held_here s (shaped t d z) kept (k / 8192)) (k % 8192)) (addresses (k / 8192))
      ∙ ap (λ h. byte_at s.now (address_here s t (k / 8192)) h (k % 8192)) (holds (k / 8192))

  zero_behind : IsPlainTree t ⊎ (t.size % 8192 ≡ 0) → (k : ℕ) → t.size ≤ k → byte_old k ≡ 0
  zero_behind ends k past = ⊎_elim
      (λ plain. tail plain k past)
      (λ whole.
      let beyond : t.size ≤ 8192 * (k / 8192) = omega (arith, whole, past) in
      ap (λ a. byte_at s.now a (held_here s t kept (k / 8192)) (k % 8192)) (address_past s t (k / 8192) beyond)
      ∙ ap (λ h. byte_at s.now None h (k % 8192)) (held_past s t kept (k / 8192) beyond))
      ends

  bytes_by : ((k : ℕ) → t.size ≤ k → byte_old k ≡ 0) → source_bytes (address_here s (shaped t d z)) (held_here s (shaped t d z) kept) s.now z ≡ resized (source_bytes (address_here s t) (held_here s t kept) s.now t.size) z
  bytes_by zeros =
      let long : length (map byte_new (range_with_len 0 z)) ≡ z = length-map-range_with_len byte_new 0 z in
      is_resized (map byte_old (range_with_len 0 t.size)) (map byte_new (range_with_len 0 z))
      (λ k lt.
      let below : k < z = omega (arith, lt, long) in
      get_or-map-range_with_len byte_new 0 z k k 0 below (omega arith)
      ∙ same_byte k
      ∙ ⊎_elim
      (λ small. sym (get_or-map-range_with_len byte_old 0 t.size k k 0 small (omega arith)))
      (λ past. zeros k past ∙ sym (get_or_past (map byte_old (range_with_len 0 t.size)) k 0 (omega (arith, past, length-map-range_with_len byte_old 0 t.size))))
      (cases_lt k t.size))
      ∙ ap (λ n. resized (map byte_old (range_with_len 0 t.size)) n) long

  pub bytes_sized : IsPlainTree t ⊎ (t.size % 8192 ≡ 0) → source_bytes (address_here s (shaped t d z)) (held_here s (shaped t d z) kept) s.now z ≡ resized (source_bytes (address_here s t) (held_here s t kept) s.now t.size) z
  bytes_sized ends = bytes_by (zero_behind ends)

  pub bytes_none : ((k : ℕ) → byte_old k ≡ 0) → source_bytes (address_here s (shaped t d z)) (held_here s (shaped t d z) kept) s.now z ≡ resized (source_bytes (address_here s t) (held_here s t kept) s.now t.size) z
  bytes_none zeros = bytes_by (λ k past. zeros k)
