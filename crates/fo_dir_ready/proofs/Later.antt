-- What may be owned once it is prepared.
use Rattle.std.proofs.Common.{◌≡◌, ◌⊎◌, inl, inr, ⊎_elim, ◌+◌, ◌*◌, ◌≤◌, ℕ, max, arith, sym, ap, ◌∙◌, subst}
use Rattle.fo_image.specs.declared.types.Label.{Label}
use Rattle.fo_image.specs.declared.types.Pointer.{Pointer}
use Rattle.fo_image.specs.declared.types.Pointer.TheVariants.{Local}
use Rattle.fo_crash.specs.Images.{Reaches, target, to_block}
use Rattle.fo_crash.proofs.Reach.{same_walk, reaches_itself}
use Rattle.fo_ports.specs.State.{State, KeepsAll, Looks}
use Rattle.fo_ports.specs.Alike.{Stem, KeepsAlike, stem_of}
use Rattle.fo_ports.specs.Sources.{Form, Leaves, ComesFor, IsInstead, most_to_own, Owned, Grows, Changes, MayZero, Made, IsEnough, most_for, SameLeaves}
use Rattle.fo_shown.proofs.Alikes.{alike_later}
use Rattle.fo_dir_read.specs.Names.{leaf_count}
use Rattle.fo_dir_ready.specs.Owning.{MayOwn, MayReady, Readies}

pub own_later : {x y : Leaves} {size now limit i : ℕ} {a b : State} {tells : Type 0} → MayReady x size limit i a → now ≡ size → SameLeaves tells x y → (b.spare ≡ a.spare) × (b.room ≡ a.room) → (most_for (max size (8192 * i + 8192)) 8192 ≤ a.pins_left → y.prepared (8192 * i) 8192) → MayOwn y now i b
own_later {x = x} {y = y} {size = size} {now = now} {i = i} {a = a} {b = b} may is same left prepares = record {
  within = subst (λ n. i ≤ leaf_count n) (sym is) may.within;
  prepared = prepares may.pins;
  spare = subst (λ n. IsEnough y.current n i b.spare) (sym is) (subst (λ n. IsEnough y.current size i n) (sym left.0) (⊎_elim (λ e. inl e) (λ e. inr (same.current e.0, e.1)) may.spare));
}

-- a source that grew after a look
pub grows_later : {a m b : State} {x y z : Leaves} → (a.tells → m.tells) → Looks a m → SameLeaves a.tells x y → Grows m b y z → Grows a b x z
grows_later {a = a} {m = m} {b = b} on looks same grows = record {
  owns = λ told k. let h = grows.owns (on told) k in (λ has. ⊎_elim (λ was. inl ((same.owns told k).0 was)) (λ made. inr (before k made)) (h.0 has), λ made. h.1 (after k made));
  still = λ o n h. grows.still o n (same.still o n h);
}
  where
    label : (k : ℕ) → m.label k ≡ a.label k
    label k = looks.stays.labels k (λ n. n)

    before : (k : ℕ) → Made m b k → Made a b k
    before k made = (λ live. made.0 (ap (λ (l : Label). l.state) (label k) ∙ live), made.1)

    after : (k : ℕ) → Made a b k → Made m b k
    after k made = (λ live. made.0 (ap (λ (l : Label). l.state) (sym (label k)) ∙ live), made.1)

-- what was owned after it was prepared
pub readied : {form form_then : Form} {size size_then i at : ℕ} {a m b : State} {x y z : Leaves} → form_then ≡ form → size_then ≡ size → Looks a m → SameLeaves a.tells x y → Owned form_then size_then i at m b y z → Grows m b y z
    → Changes form_then.tag y.owns (MayZero form_then size_then i m y) m b → Readies form size i at a m b x y z
readied {form_then = form_then} {size = size} {i = i} {at = at} {a = a} {m = m} {b = b} {x = x} {y = y} {z = z} is count looks same owned grows changes =
    subst (λ (f : Form). Readies f size i at a m b x y z) is (subst (λ n. Readies form_then n i at a m b x y z) count (record { looks = looks; same = same; owned = owned; grows = grows; changes = changes }))

-- how many blocks are left of what was there before the look
pub spare_later : {x y : Leaves} {size now : ℕ} (i : ℕ) (a m b : State) {tells : Type 0} → now ≡ size → SameLeaves tells x y → m.spare ≡ a.spare → (m.spare ≤ b.spare + most_to_own now i) × (y.current → m.spare + 1 ≤ b.spare + most_to_own now i)
    → (a.spare ≤ b.spare + most_to_own size i) × (x.current → a.spare + 1 ≤ b.spare + most_to_own size i)
spare_later {x = x} {size = size} i a m b is same left h =
    subst (λ n. (n ≤ b.spare + most_to_own size i) × (x.current → n + 1 ≤ b.spare + most_to_own size i)) left
    (subst (λ n. (m.spare ≤ b.spare + most_to_own n i) × (x.current → m.spare + 1 ≤ b.spare + most_to_own n i)) is (h.0, λ c. h.1 (same.current c)))

module _ {a m : State} (all : KeepsAll a m) (looks : Looks a m) (told : a.tells) where
  instead_looked : (from : Pointer) (at : ℕ) → IsInstead a from at → IsInstead m from at
  instead_looked from at i = record {
    is_apart = apart;
    place = i.place;
    stands = looks.stays.places told at i.place (λ n. n) (λ n. n) uncovered (at, inr apart, reaches_itself m.now at) i.stands;
    uncovered = uncovered;
    instead = λ x. let same = looks.stays.instead at x (λ n. n) (λ n. n) in (λ h. (i.instead x).0 (same.0 h), λ e. same.1 ((i.instead x).1 e));
    live = λ x e. ap (λ (l : Label). l.state) (label x) ∙ i.live x e;
    keeps = λ x e. ⊎_elim
        (λ older. let epoch = ap (λ (l : Label). l.epoch) (label x) in let high = all.same_high in inl (omega (arith, older, epoch, high)))
        (λ r. inr (record { path = r.path; leads = ap target (same_walk m.now a.now (λ b j. ((looks.memory told).each b).slots j) r.path (to_block at)) ∙ r.leads }))
        (i.keeps x e);
  }
    where
      label : (k : ℕ) → m.label k ≡ a.label k
      label k = looks.stays.labels k (λ n. n)

      apart : m.apart at
      apart = (looks.stays.apart at (λ n. n) (λ n. n)).1 i.is_apart

      uncovered : m.covered at → ⊥
      uncovered h = i.uncovered ((looks.covered.covered at).0 h)

  -- what a source comes in the place of stays so where it was only looked at
  pub comes_looked : (top from : Pointer) → ComesFor a top from → ComesFor m top from
  comes_looked top from = ⊎_elim
      (λ put. inl (put.0, λ b e is. put.1 b e ((looks.stays.apart b (λ n. n) (λ n. n)).0 is)))
      (λ made. inr (made.0, made.1, instead_looked from made.0 made.2))

  -- so does that nothing else comes so
  pub only_later : (b : State) {top mid new : Pointer} → mid ≡ top → ((y x : ℕ) → b.instead y x → (new ≡ Local y) ⊎ (m.instead y x × (mid ≡ Local y → ⊥))) → (y x : ℕ) → b.instead y x → (new ≡ Local y) ⊎ (a.instead y x × (top ≡ Local y → ⊥))
  only_later b same only y x i = ⊎_elim (λ h. inl h) (λ h. inr ((looks.stays.instead y x (λ n. n) (λ n. n)).0 h.0, λ e. h.1 (same ∙ e))) (only y x i)

  -- what its entry would lead to stays alike
  alike_looked : (stem : Stem) → m.tops 1 → KeepsAlike a m stem stem
  alike_looked stem active = record {
    each = λ still at i holds alike.
        let reached : Reaches m.now (to_block 1) at = record { path = holds.in_tree.path; leads = ap target (same_walk m.now a.now (λ b j. ((looks.memory told).each b).slots j) holds.in_tree.path (to_block 1)) ∙ holds.in_tree.leads } in
        let uncovered : m.covered at → ⊥ = λ h. holds.uncovered ((looks.covered.covered at).0 h) in (
          record {
            there = holds.there;
            stands = looks.stays.places told at holds.there (λ n. n) (λ n. n) uncovered (1, inl active, reached) holds.stands;
            names = holds.names;
            below = holds.below;
            above = holds.above;
            in_tree = reached;
            uncovered = uncovered;
          },
          λ e formed top. alike_later looks.images (((looks.memory told).each at).slots i) (alike e formed top),
        );
  }

-- a source that was owned after a look
pub alike_after : {a m b : State} {form form_then : Form} {size size_then : ℕ} {top top_then : Pointer} {new : Stem} → KeepsAll a m → Looks a m → m.tops 1 → form_then ≡ form → size_then ≡ size → top_then ≡ top → KeepsAlike m b (stem_of form_then size_then top_then) new → KeepsAlike a b (stem_of form size top) new
alike_after {a} {m} {b} {form} {form_then} {size} {size_then} {top} {top_then} {new} all looks active form_is size_is top_is keeps =
    let same : stem_of form_then size_then top_then ≡ stem_of form size top = ap (λ f. stem_of f size_then top_then) form_is ∙ ap (λ n. stem_of form n top_then) size_is ∙ ap (λ p. stem_of form size p) top_is in
    record {
      each = λ told at i holds alike.
          let on = (alike_looked all looks told (stem_of form size top) active).each told at i holds alike in
          (subst (λ x. KeepsAlike m b x new) same keeps).each (all.still_tells.1 told) at i on.0 on.1;
    }
