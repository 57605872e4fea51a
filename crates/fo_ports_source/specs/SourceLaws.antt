-- Why a plain source keeps the laws.
use Rattle.std.specs.Prelude.{◌≡◌, ◌≢◌, ◌⊎◌, ◌+◌, ◌*◌, ◌/◌, ◌%◌, ◌<◌, ◌≤◌, ℕ, List, slice_index, Option, Some, None, refl}
use Rattle.std.proofs.Common.{inl, inr, ⊎_elim, sym, ◌∙◌, ap, subst, arith}
use Rattle.fo_image.specs.declared.types.Kind.{Kind}
use Rattle.fo_image.specs.declared.types.Label.{Label}
use Rattle.fo_image.specs.declared.types.Pointer.TheVariants.{Nil, Local}
use Rattle.fo_crash.specs.declared.place.Place.{Place}
use Rattle.fo_crash.specs.Places.{place, OnePlace}
use Rattle.fo_ports.specs.State.{State, KeepsAll}
use Rattle.fo_ports.specs.Sources.{StaysInPlace, IsReady, StaysReady, Undisturbed, byte_at}
use Rattle.fo_ports_source.specs.Source.{leaf_of, leaves_of, HasLeaf, HasLabel, IsTold, Over, IsHeld, Prepared, IsTopCurrent}

-- no pointer to nothing leads to a block
pub no_top : (at : ℕ) → Nil ≢ Local at
no_top at e = (cc)

-- a leaf stands at its place alone
pub only_place : {s : State} {kind : Kind} {tag rank at : ℕ} → OnePlace s.stands → IsTold s kind tag rank at → (p : Place) → s.stands at p → (p.kind ≡ kind) × (p.tag ≡ tag) × (p.rank ≡ rank)
only_place one leaf p stands =
    let is = one.each _ p _ stands leaf.there in
    (ap (λ (q : Place). q.kind) is, ap (λ (q : Place). q.tag) is, ap (λ (q : Place). q.rank) is)

-- a label that stays is one of a leaf where the high epoch stays
pub still_labelled : {high new_high : ℕ} {kind : Kind} {tag : ℕ} {l m : Label} → new_high ≡ high → m ≡ l → HasLabel high kind tag l → HasLabel new_high kind tag m
still_labelled {high = high} {kind = kind} {tag = tag} {l = l} {m = m} same_high same has = subst (λ n. HasLabel n kind tag m) (sym same_high) (subst (λ (x : Label). HasLabel high kind tag x) (sym same) has)

-- so is the current epoch
pub still_epoch : {high new_high : ℕ} {l m : Label} → new_high ≡ high → m ≡ l → l.epoch ≡ high → m.epoch ≡ new_high
still_epoch same_high same is = ap (λ (x : Label). x.epoch) same ∙ is ∙ sym same_high

pub was_older : {high new_high : ℕ} {l m : Label} → new_high ≡ high → m ≡ l → m.epoch < new_high → l.epoch < high
was_older {high = high} {m = m} same_high same older = subst (λ (x : Label). x.epoch < high) same (subst (λ n. m.epoch < n) same_high older)

module _ (kind : Kind) (tag rank size : ℕ) (leaves : List (Option ℕ)) (a b : State) where
  still_told : KeepsAll a b → (at : ℕ) → StaysInPlace a b at → IsTold a kind tag rank at → IsTold b kind tag rank at
  still_told all at stays leaf = record {
    labelled = still_labelled all.same_high stays.same_label leaf.labelled;
    there = stays.same_places leaf.hung (place kind tag 0 rank) leaf.there;
    uncovered = stays.uncovered leaf.uncovered;
    active = (all.same_tops 1).1 leaf.active;
    hung = stays.hung leaf.hung;
    in_tree = λ older. stays.in_tree (leaf.in_tree (was_older all.same_high stays.same_label older));
  }

  zero_still : (k : ℕ) (leaf : Option ℕ) → ((at : ℕ) → leaf ≡ Some at → ((b.now at).bytes ≡ (a.now at).bytes) ⊎ (size ≤ k → ⊥)) → size ≤ k → byte_at a.now leaf None (k % 8192) ≡ 0 → byte_at b.now leaf None (k % 8192) ≡ 0
  zero_still k None keeps past zero = zero
  zero_still k (Some at) keeps past zero = ⊎_elim (λ same. ap (λ bytes. slice_index bytes (k % 8192)) same ∙ zero) (λ no. absurd (no past)) (keeps at refl)

  pub source_stays : KeepsAll a b → Over a kind tag rank size leaves → (a.tells → Undisturbed (leaves_of a kind tag size leaves) size a b) → Over b kind tag rank size leaves
  source_stays all over stays = record {
    leaf = λ i at e. record {
      is_one = (all.same_blocks at).1 (over.leaf i at e).is_one;
      told = λ is. let was = all.still_tells.0 is in still_told all at ((stays was).each at (record { number = i; is = e })).0 ((over.leaf i at e).told was);
    };
    apart = λ is. over.apart (all.still_tells.0 is);
    none = over.none;
    tail = λ is k past. let was = all.still_tells.0 is in zero_still k (leaf_of leaves (k / 8192))
        (λ at e. ⊎_elim
        (λ same. inl same)
        (λ whole. inr (λ past. let number : k / 8192 ≡ whole.0 = over.apart was (k / 8192) whole.0 at e whole.1 in let end : 8192 * (whole.0 + 1) ≤ size = whole.2 in omega (arith, number, end, past)))
        ((stays was).each at (record { number = k / 8192; is = e })).1)
        past (over.tail was k past);
    within = over.within;
    few = over.few;
    leaf_kind = over.leaf_kind;
  }

  pub source_prepared : (o n : ℕ) → KeepsAll a b → ((at : ℕ) → IsReady tag a at → StaysReady a b at) → Prepared a kind tag size leaves o n → Prepared b kind tag size leaves o n
  source_prepared o n all stays prepared = record {
    each = λ k at from to e. still_held at (prepared.each k at from to e);
    last = λ at past e. still_held at (prepared.last at past e);
    limit = prepared.limit;
  }
    where
      still_held : (at : ℕ) → IsHeld a kind tag at → IsHeld b kind tag at
      still_held at was =
          let kept = stays at (record { is_pinned = was.is_pinned; live = was.labelled.is_live; tagged = was.labelled.has_tag }) in
          record {
            labelled = still_labelled all.same_high kept.same_label was.labelled;
            is_pinned = kept.is_pinned;
            long = kept.same_length ∙ was.long;
          }

  pub top_stays : KeepsAll a b → ((at : ℕ) → HasLeaf leaves at → b.label at ≡ a.label at) → IsTopCurrent a size leaves → IsTopCurrent b size leaves
  top_stays all same top = ⊎_elim (λ long. inl long) (λ leaf. inr (record { at = leaf.at; is = leaf.is; current = still_epoch all.same_high (same leaf.at (record { number = 0; is = leaf.is })) leaf.current })) top

pub part_prepared : {s : State} {kind : Kind} {tag size : ℕ} {leaves : List (Option ℕ)} {o n : ℕ} (p m : ℕ) → Prepared s kind tag size leaves o n → o ≤ p → p + m ≤ o + n → Prepared s kind tag size leaves p m
part_prepared {leaves = leaves} {o = o} {n = n} p m prepared from to = record {
  each = λ k at above below e. prepared.each k at (omega (arith, from, above)) (omega (arith, below, to)) e;
  last = λ at past e. prepared.last at (omega (arith, past, to)) e;
  limit = let end = prepared.limit in omega (arith, end, to);
}
