-- What a slot leads to in an image, and another in another: how such facts join, and how they follow one slot at a time.
use Rattle.std.proofs.Common.{◌≡◌, ◌≢◌, ◌⊎◌, ℕ, zero, suc, List, [], ◌∷◌, inl, inr, ⊎_elim, refl, sym, ◌∙◌, ap, subst}
use Rattle.fo_ports.specs.of_image.declared.types.Kind.{Kind}
use Rattle.fo_ports.specs.of_image.declared.types.Kind.TheVariants.{Data, Dir, Root}
use Rattle.fo_ports.specs.of_image.declared.types.Pointer.{Pointer}
use Rattle.fo_ports.specs.of_image.declared.types.Pointer.TheVariants.{Nil, Local, Score as Held}
use Rattle.fo_crash.specs.declared.slot.Slot.{Slot}
use Rattle.fo_crash.specs.declared.place.Place.{Place}
use Rattle.fo_crash.specs.Images.{Content, Image, SameContent, Reaches, target, local, walk, to_block}
use Rattle.fo_crash.specs.Places.{place, place_below}
use Rattle.fo_crash.specs.Spots.{Spot, spot_below, spot_at}
use Rattle.fo_crash.proofs.Reach.{lost, reaches_same, reach_into}
use Rattle.fo_crash.proofs.Sure.{same_content, same_back}
use Rattle.fo_shown.specs.Shown.{IsOfRecords}
use Rattle.fo_shown.specs.Alike.{Finds}
use Rattle.fo_shown.proofs.Ways.{local_is}
use Rattle.fo_shown.proofs.Alikes.{Beside, beside_back, finds_aside}
use Rattle.fo_alike.specs.Like.{IsOfEntries, IsZeros, NoneInUse, LeadsAll, LeadsLike}
use Rattle.fo_alike.proofs.Sorts.{IsSort, of_records, of_entries}

-- ---- one slot of a path

pub finds_down : {x : Image} {p r : Spot} {s : Slot} {a b : ℕ} (j : ℕ) (path : List ℕ) → target s ≡ Local a → Finds x p s (j ∷ path) b r → Finds x (spot_below p j ((x a).slot j)) ((x a).slot j) path b r
finds_down {x} {p} {r} {s} {a} {b} j path to f =
    let next : (local x (target s)).slot j ≡ (x a).slot j = ap (λ z. (local x z).slot j) to in
    record {
      leads = ap (λ z. target (walk x z path)) (sym next) ∙ f.leads;
      spot = ap (λ z. spot_at x (spot_below p j z) z path) (sym next) ∙ f.spot;
    }

pub finds_up : {x : Image} {p r : Spot} {s : Slot} {a b : ℕ} (j : ℕ) (path : List ℕ) → target s ≡ Local a → Finds x (spot_below p j ((x a).slot j)) ((x a).slot j) path b r → Finds x p s (j ∷ path) b r
finds_up {x} {p} {r} {s} {a} {b} j path to f =
    let next : (local x (target s)).slot j ≡ (x a).slot j = ap (λ z. (local x z).slot j) to in
    record {
      leads = ap (λ z. target (walk x z path)) next ∙ f.leads;
      spot = ap (λ z. spot_at x (spot_below p j z) z path) next ∙ f.spot;
    }

-- a slot leads to a block, or to none
pub leads_on : (s : Slot) → ((c : ℕ) × (target s ≡ Local c)) ⊎ ((c : ℕ) → target s ≢ Local c)
leads_on s = by (target s) refl
  where
    by : (z : Pointer) → target s ≡ z → ((c : ℕ) × (target s ≡ Local c)) ⊎ ((c : ℕ) → target s ≢ Local c)
    by Nil e = inr (λ c h. let x : Nil ≡ Local c = sym e ∙ h in cc)
    by (Local a) e = inl (a, e)
    by (Held score) e = inr (λ c h. let x : Held score ≡ Local c = sym e ∙ h in cc)

-- ---- one sort of leaves

module _ {of : Spot → Type 0} {same : Content → Content → Type 0} {bare : Content → Type 0} (sort : IsSort same bare) where
  pub leads_itself : {x : Image} {p : Spot} {s : Slot} → LeadsAll of same bare x p s x p s
  leads_itself {x} = record { each = λ path b r is f. inl (path, b, f, sort.content (same_content (x b))) }

  pub leads_joins : {x y z : Image} {p q r : Spot} {s t u : Slot} → LeadsAll of same bare x p s y q t → LeadsAll of same bare y q t z r u → LeadsAll of same bare x p s z r u
  leads_joins first second = record {
    each = λ path b w is f. ⊎_elim
        (λ g. ⊎_elim
        (λ h. inl (h.0, h.1, h.2, sort.joins g.3 h.3))
        (λ none. inr (sort.bare_back g.3 none))
        (second.each g.0 g.1 w is g.2))
        (λ none. inr none)
        (first.each path b w is f);
  }

  -- a slot that leads to no block
  pub leads_nowhere : {x y : Image} {p q : Spot} {s t : Slot} → ((c : ℕ) → target s ≢ Local c) → LeadsAll of same bare x p s y q t
  leads_nowhere {x} {s = s} none = record { each = λ path b r is f. absurd (lost x path s none b f.leads) }

  -- The images differ in one block alone, to which no path leads from the slot.
  pub leads_aside : {a : ℕ} {x y : Image} {p : Spot} {s : Slot} → Beside a x y → (Reaches x s a → ⊥) → LeadsAll of same bare x p s y p s
  leads_aside near apart = record {
    each = λ path b r is f. let g = finds_aside near path apart f in inl (path, b, g.0, sort.content g.1);
  }

  -- A slot leads to a block: that one is bare, or found on the other side, and so is what each of its slots leads to.
  pub leads_down : {x y : Image} {p q : Spot} {s t : Slot} {a : ℕ} → target s ≡ Local a
      → (of p → ((way : List ℕ) × (c : ℕ) × Finds y q t way c p × same (x a) (y c)) ⊎ bare (x a))
      → ((j : ℕ) → LeadsAll of same bare x (spot_below p j ((x a).slot j)) ((x a).slot j) y q t)
      → LeadsAll of same bare x p s y q t
  leads_down {x} {y} {p} {q} {s} {t} {a} to here below = record { each = by }
    where
      by : (path : List ℕ) (b : ℕ) (r : Spot) → of r → Finds x p s path b r → ((way : List ℕ) × (c : ℕ) × Finds y q t way c r × same (x b) (y c)) ⊎ bare (x b)
      by [] b r is f =
          let a_is : a ≡ b = local_is (sym to ∙ f.leads) in
          subst (λ z. ((way : List ℕ) × (c : ℕ) × Finds y q t way c z × same (x b) (y c)) ⊎ bare (x b)) f.spot
          (subst (λ z. ((way : List ℕ) × (c : ℕ) × Finds y q t way c p × same (x z) (y c)) ⊎ bare (x z)) a_is (here (subst (λ z. of z) (sym f.spot) is)))
      by (j ∷ path) b r is f = (below j).each path b r is (finds_down j path to f)

  -- What is found by a slot of a block is found by a slot that leads to the block.
  pub leads_up : {x y : Image} {p q : Spot} {s t : Slot} {c : ℕ} (j : ℕ) → target t ≡ Local c → LeadsAll of same bare x p s y (spot_below q j ((y c).slot j)) ((y c).slot j) → LeadsAll of same bare x p s y q t
  leads_up j to leads = record {
    each = λ path b r is f. ⊎_elim
        (λ g. inl (j ∷ g.0, g.1, finds_up j g.0 to g.2, g.3))
        (λ none. inr none)
        (leads.each path b r is f);
  }

  -- The slots lead to blocks with the same content, from one spot.
  pub leads_copied : {x y : Image} {p q : Spot} {s t : Slot} {a c : ℕ} → target s ≡ Local a → target t ≡ Local c → p ≡ q → SameContent (x a) (y c)
      → ((j : ℕ) → LeadsAll of same bare x (spot_below p j ((x a).slot j)) ((x a).slot j) y (spot_below q j ((y c).slot j)) ((y c).slot j))
      → LeadsAll of same bare x p s y q t
  leads_copied {c = c} to to_too spot content below = leads_down to
      (λ is. inl ([], c, record { leads = to_too; spot = sym spot }, sort.content content))
      (λ j. leads_up j to_too (below j))

  -- two slots that lead to one block, from one spot
  pub leads_same : {x : Image} {p q : Spot} {s t : Slot} → target s ≡ target t → p ≡ q → LeadsAll of same bare x p s x q t
  leads_same {x} {p} {q} {s} {t} e spot = ⊎_elim
      (λ on. leads_copied on.1 (sym e ∙ on.1) spot (same_content (x on.0)) (λ j.
      subst (λ w. LeadsAll of same bare x (spot_below p j ((x on.0).slot j)) ((x on.0).slot j) x (spot_below w j ((x on.0).slot j)) ((x on.0).slot j)) spot leads_itself))
      (λ none. leads_nowhere none)
      (leads_on s)

  -- A block that is no such leaf leads by its slot 0 to what the other slot leads to, and by no other slot to a block.
  leads_raised : {x : Image} {p q : Spot} {s t : Slot} {a : ℕ} → target s ≡ Local a → (of p → ⊥) → ((j b : ℕ) → target ((x a).slot j) ≡ Local b → j ≡ 0) → target ((x a).slot 0) ≡ target t → spot_below p 0 ((x a).slot 0) ≡ q → LeadsAll of same bare x p s x q t
  leads_raised {x} {p} {q} {s} {t} {a} to none only first spot = leads_down to
      (λ is. absurd (none is))
      (λ j. ⊎_elim
      (λ on. subst (λ k. LeadsAll of same bare x (spot_below p k ((x a).slot k)) ((x a).slot k) x q t) (sym (only j on.0 on.1)) (leads_same first spot))
      (λ nowhere. leads_nowhere nowhere)
      (leads_on ((x a).slot j)))

-- ---- below data there are no entries

data_on : (x : Image) (path : List ℕ) (p : Spot) (s : Slot) → ((level : ℕ) × (p.place.kind ≡ Data level)) → (level : ℕ) × ((spot_at x p s path).place.kind ≡ Data level)
data_on x [] p s is = is
data_on x (j ∷ path) p s is = data_on x path (spot_below p j ((local x (target s)).slot j)) ((local x (target s)).slot j) (by p.place.kind p.place.tag p.place.index p.place.rank is)
  where
    u : Slot
    u = (local x (target s)).slot j

    by : (kind : Kind) (tag index rank : ℕ) → ((level : ℕ) × (kind ≡ Data level)) → (level : ℕ) × ((place_below (place kind tag index rank) j u).kind ≡ Data level)
    by (Data zero) tag index rank is = (0, refl)
    by (Data (suc level)) tag index rank is = (level, refl)
    by (Dir level) tag index rank is = absurd (let e : Dir level ≡ Data is.0 = is.1 in cc)
    by Root tag index rank is = absurd (let e : Root ≡ Data is.0 = is.1 in cc)

pub leads_data : {same : Content → Content → Type 0} {bare : Content → Type 0} {x y : Image} {p q : Spot} {s t : Slot} → (level : ℕ) × (p.place.kind ≡ Data level) → LeadsAll IsOfEntries same bare x p s y q t
leads_data {x = x} {p = p} {s = s} is = record {
  each = λ path b r of f.
      let end = data_on x path p s is in
      let kind : r.place.kind ≡ Data end.0 = ap (λ (z : Spot). z.place.kind) (sym f.spot) ∙ end.1 in
      absurd (⊎_elim
      (λ e. let h : Dir 0 ≡ Data end.0 = sym e ∙ kind in cc)
      (λ e. let h : Root ≡ Data end.0 = sym e ∙ kind in cc)
      of);
}

-- A slot leads to no block, or from its spot on to data.
abbrev pub HoldsNone : Slot → Place → Type 0
HoldsNone s p = ((c : ℕ) → target s ≢ Local c) ⊎ ((level : ℕ) × (p.kind ≡ Data level))

pub leads_none : {same : Content → Content → Type 0} {bare : Content → Type 0} {x y : Image} {p q : Spot} {s t : Slot} → IsSort same bare → HoldsNone s p.place → LeadsAll IsOfEntries same bare x p s y q t
leads_none sort holds = ⊎_elim (λ nowhere. leads_nowhere sort nowhere) (λ below. leads_data below) holds

-- ---- all three

pub like_joins : {x y z : Image} {p q r : Spot} {s t u : Slot} → LeadsLike x p s y q t → LeadsLike y q t z r u → LeadsLike x p s z r u
like_joins first second = record {
  records = leads_joins of_records first.records second.records;
  from = leads_joins of_entries first.from second.from;
  onto = leads_joins of_entries second.onto first.onto;
}

pub like_back_aside : {a : ℕ} {x y : Image} {s : Slot} → Beside a x y → (Reaches x s a → ⊥) → Reaches y s a → ⊥
like_back_aside {a} {x} {y} {s} near apart r = ⊎_elim
    (λ on. apart (reaches_same {s = to_block on.0} {t = s} (sym on.1) (reach_into x y (λ b. b ≡ a) on.0
    (λ b j ne. (near b ne).slots j)
    (λ b e there. apart (reaches_same {s = to_block on.0} {t = s} (sym on.1) (subst (λ z. Reaches x (to_block on.0) z) e there)))
    a (reaches_same {s = s} {t = to_block on.0} on.1 r))))
    (λ none. lost y r.path s none a r.leads)
    (leads_on s)

pub like_aside : {a : ℕ} {x y : Image} {p : Spot} {s : Slot} → Beside a x y → (Reaches x s a → ⊥) → LeadsLike x p s y p s
like_aside near apart = record {
  records = leads_aside of_records near apart;
  from = leads_aside of_entries near apart;
  onto = leads_aside of_entries (beside_back near) (like_back_aside near apart);
}

pub like_copied : {x y : Image} {p q : Spot} {s t : Slot} {a c : ℕ} → target s ≡ Local a → target t ≡ Local c → p ≡ q → SameContent (x a) (y c)
    → ((j : ℕ) → LeadsLike x (spot_below p j ((x a).slot j)) ((x a).slot j) y (spot_below q j ((y c).slot j)) ((y c).slot j))
    → LeadsLike x p s y q t
like_copied to to_too spot content below = record {
  records = leads_copied of_records to to_too spot content (λ j. (below j).records);
  from = leads_copied of_entries to to_too spot content (λ j. (below j).from);
  onto = leads_copied of_entries to_too to (sym spot) (same_back content) (λ j. (below j).onto);
}

pub like_same : {x : Image} {p q : Spot} {s t : Slot} → target s ≡ target t → p ≡ q → LeadsLike x p s x q t
like_same e spot = record {
  records = leads_same of_records e spot;
  from = leads_same of_entries e spot;
  onto = leads_same of_entries (sym e) (sym spot);
}

-- What is like from one spot and slot on, is like from others that are equal.
pub like_if : {x y : Image} {p q r : Spot} {s t u : Slot} → q ≡ r → t ≡ u → LeadsLike x p s y q t → LeadsLike x p s y r u
like_if {x} {y} {p} {q} {r} {s} {t} {u} spot slot like = subst (λ z. LeadsLike x p s y z u) spot (subst (λ z. LeadsLike x p s y q z) slot like)

-- The images differ in one block alone, to which no path leads from the first slot. It leads to a copy of the block to which the other leads.
module _ {a result below : ℕ} {x y : Image} {p q : Spot} (s o : Slot) (near : Beside a x y) (apart : Reaches x s a → ⊥) (to : target s ≡ Local result) (to_too : target o ≡ Local below) (spot : p ≡ q) (content : SameContent (x result) (y below)) where
  apart_below : (j : ℕ) → Reaches x ((x result).slot j) a → ⊥
  apart_below j r = apart (record { path = j ∷ r.path; leads = ap (λ z. target (walk x ((local x z).slot j) r.path)) to ∙ r.leads })

  spots_below : (j : ℕ) → spot_below p j ((x result).slot j) ≡ spot_below q j ((y below).slot j)
  spots_below j = ap (λ z. spot_below z j ((x result).slot j)) spot ∙ ap (λ z. spot_below q j z) (content.slots j)

  pub like_copy : LeadsLike x p s y q o
  like_copy = like_copied to to_too spot content (λ j. like_if (spots_below j) (content.slots j) (like_aside near (apart_below j)))

  pub like_copy_back : LeadsLike y q o x p s
  like_copy_back = like_copied to_too to (sym spot) (same_back content) (λ j.
      subst (λ z. LeadsLike y (spot_below q j ((y below).slot j)) ((y below).slot j) x z ((x result).slot j)) (sym (spots_below j))
      (subst (λ u. LeadsLike y (spot_below q j ((y below).slot j)) ((y below).slot j) x (spot_below q j ((y below).slot j)) u) (sym (content.slots j))
      (like_aside (beside_back near) (subst (λ u. Reaches y u a → ⊥) (content.slots j) (like_back_aside near (apart_below j))))))

-- A slot leads to a block that leads to no block, and is no leaf of records, or one of zeros, and no leaf of entries, or one with nothing in
-- use; the other slot leads to no block, or below data, where there are no entries.
pub like_new : {x y : Image} {p q : Spot} {s t : Slot} {a : ℕ} → target s ≡ Local a → ((j b : ℕ) → target ((x a).slot j) ≢ Local b) → (IsOfRecords p → IsZeros (x a)) → (IsOfEntries p → NoneInUse (x a)) → HoldsNone t q.place → LeadsLike x p s y q t
like_new to none zeros unused holds = record {
  records = leads_down of_records to (λ is. inr (zeros is)) (λ j. leads_nowhere of_records (none j));
  from = leads_down of_entries to (λ is. inr (unused is)) (λ j. leads_nowhere of_entries (none j));
  onto = leads_none of_entries holds;
}

-- A slot leads to no block, and the other holds no entries.
pub like_gone : {x y : Image} {p q : Spot} {s t : Slot} → ((c : ℕ) → target s ≢ Local c) → HoldsNone t q.place → LeadsLike x p s y q t
like_gone none holds = record { records = leads_nowhere of_records none; from = leads_nowhere of_entries none; onto = leads_none of_entries holds }

-- A slot leads to a block of pointers, of which slot 0 leads to what the other slot leads to, and no other leads to a block.
pub like_raised : {x : Image} {p q : Spot} {s t : Slot} {a : ℕ} → target s ≡ Local a → (IsOfRecords p → ⊥) → (IsOfEntries p → ⊥) → ((j b : ℕ) → target ((x a).slot j) ≡ Local b → j ≡ 0) → target ((x a).slot 0) ≡ target t → spot_below p 0 ((x a).slot 0) ≡ q → LeadsLike x p s x q t
like_raised to no_records no_entries only first spot = record {
  records = leads_raised of_records to no_records only first spot;
  from = leads_raised of_entries to no_entries only first spot;
  onto = leads_up of_entries 0 to (leads_same of_entries (sym first) (sym spot));
}
