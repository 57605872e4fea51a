-- Paths where slots lead nowhere that led on before.
use Rattle.std.proofs.Common.{◌≡◌, ◌≢◌, ◌⊎◌, ℕ, List, [], ◌∷◌, ◌++◌, inl, inr, ⊎_elim, refl, sym, ◌∙◌, ap}
use Rattle.std.proofs.lemmas.Bool.{cases_eq}
use Rattle.fo_image.specs.declared.types.Pointer.{Pointer}
use Rattle.fo_image.specs.declared.types.Pointer.TheVariants.{Nil, Local, Score as Held}
use Rattle.fo_crash.specs.declared.slot.Slot.{Slot}
use Rattle.fo_crash.specs.Images.{Image, Reaches, target, local, walk}
use Rattle.fo_crash.proofs.Reach.{lost, walk_joins}

pub nil_leads : {p : Pointer} → p ≡ Nil → (b : ℕ) → p ≢ Local b
nil_leads {p} none b e = let h : Nil ≡ Local b = sym none ∙ e in cc

-- Each slot is as before, or leads nowhere.
pub record Fewer (old new : Image) : Type 0 where
  pub each : (b j : ℕ) → ((new b).slot j ≡ (old b).slot j) ⊎ (target ((new b).slot j) ≡ Nil)

fewer_at : {old new : Image} → Fewer old new → (j : ℕ) (p : Pointer) → ((local new p).slot j ≡ (local old p).slot j) ⊎ (target ((local new p).slot j) ≡ Nil)
fewer_at f j Nil = inl refl
fewer_at f j (Local a) = f.each a j
fewer_at f j (Held x) = inl refl

-- a path that leads on led there before
pub path_back : {old new : Image} → Fewer old new → (path : List ℕ) (w : Slot) (b : ℕ) → target (walk new w path) ≡ Local b → target (walk old w path) ≡ Local b
path_back f [] w b e = e
path_back {old} {new} f (j ∷ path) w b e = ⊎_elim
    (λ same. path_back f path ((local old (target w)).slot j) b (ap (λ (q : Slot). target (walk new q path)) (sym same) ∙ e))
    (λ nil. absurd (lost new path ((local new (target w)).slot j) (λ c. nil_leads nil c) b e))
    (fewer_at f j (target w))

pub reaches_back : {old new : Image} → Fewer old new → {w : Slot} {b : ℕ} → Reaches new w b → Reaches old w b
reaches_back f {w} {b} r = record { path = r.path; leads = path_back f r.path w b r.leads }

-- One slot leads nowhere now.
pub record CutAt (at i : ℕ) (old new : Image) : Type 0 where
  pub here : target ((new at).slot i) ≡ Nil
  pub others : (b j : ℕ) → (b ≢ at) ⊎ (j ≢ i) → (new b).slot j ≡ (old b).slot j

-- A path goes by this slot.
pub record Uses (at i : ℕ) (old : Image) (w : Slot) (path : List ℕ) (b : ℕ) : Type 0 where
  pub front : List ℕ
  pub rest : List ℕ
  pub is : path ≡ front ++ (i ∷ rest)
  pub to : target (walk old w front) ≡ Local at
  pub leads : target (walk old ((old at).slot i) rest) ≡ Local b

spot : {at i : ℕ} {old new : Image} → CutAt at i old new → (j : ℕ) (p : Pointer) → ((p ≡ Local at) × (j ≡ i)) ⊎ ((local new p).slot j ≡ (local old p).slot j)
spot c j Nil = inr refl
spot {at} {i} c j (Local a) = ⊎_elim
    (λ e. ⊎_elim (λ f. inl (ap (λ x. Local x) e, f)) (λ ne. inr (c.others a j (inr ne))) (cases_eq j i))
    (λ ne. inr (c.others a j (inl ne)))
    (cases_eq a at)
spot c j (Held x) = inr refl

pub uses_or : {at i : ℕ} {old new : Image} → CutAt at i old new → (path : List ℕ) (w : Slot) (b : ℕ) → target (walk old w path) ≡ Local b → (target (walk new w path) ≡ Local b) ⊎ Uses at i old w path b
uses_or c [] w b e = inl e
uses_or {at} {i} {old} {new} c (j ∷ path) w b e = ⊎_elim
    (λ here. inr (record {
      front = [];
      rest = path;
      is = ap (λ x. x ∷ path) here.1;
      to = here.0;
      leads = ap (λ x. target (walk old ((old at).slot x) path)) (sym here.1) ∙ ap (λ p. target (walk old ((local old p).slot j) path)) (sym here.0) ∙ e;
    }))
    (λ same. ⊎_elim
    (λ on. inl (ap (λ (q : Slot). target (walk new q path)) same ∙ on))
    (λ u. inr (record { front = j ∷ u.front; rest = u.rest; is = ap (λ x. j ∷ x) u.is; to = u.to; leads = u.leads }))
    (uses_or c path ((local old (target w)).slot j) b e))
    (spot c j (target w))

-- A path went by a slot that is gone.
pub record Broken (gone : ℕ → ℕ → Type 0) (old new : Image) (w : Slot) (path : List ℕ) (b : ℕ) : Type 0 where
  pub at : ℕ
  pub i : ℕ
  pub was : gone at i
  pub nil : target ((new at).slot i) ≡ Nil
  pub front : List ℕ
  pub rest : List ℕ
  pub is : path ≡ front ++ (i ∷ rest)
  pub to : target (walk old w front) ≡ Local at
  pub leads : target (walk old ((old at).slot i) rest) ≡ Local b

-- Each slot is as before, or one of these, which leads nowhere.
pub record Gone (gone : ℕ → ℕ → Type 0) (old new : Image) : Type 0 where
  pub each : (b j : ℕ) → ((new b).slot j ≡ (old b).slot j) ⊎ (gone b j × (target ((new b).slot j) ≡ Nil))

pub intact_or : {gone : ℕ → ℕ → Type 0} {old new : Image} → Gone gone old new → (path : List ℕ) (w : Slot) (b : ℕ) → target (walk old w path) ≡ Local b → (target (walk new w path) ≡ Local b) ⊎ Broken gone old new w path b
intact_or x [] w b e = inl e
intact_or {gone} {old} {new} x (j ∷ path) w b e = step (intact_or x path ((local old (target w)).slot j) b e) (target w) refl
  where
    on : (local new (target w)).slot j ≡ (local old (target w)).slot j → (target (walk new ((local old (target w)).slot j) path) ≡ Local b) ⊎ Broken gone old new ((local old (target w)).slot j) path b
        → (target (walk new w (j ∷ path)) ≡ Local b) ⊎ Broken gone old new w (j ∷ path) b
    on same next = ⊎_elim
        (λ f. inl (ap (λ (q : Slot). target (walk new q path)) same ∙ f))
        (λ u. inr (record { at = u.at; i = u.i; was = u.was; nil = u.nil; front = j ∷ u.front; rest = u.rest; is = ap (λ y. j ∷ y) u.is; to = u.to; leads = u.leads }))
        next

    step : (target (walk new ((local old (target w)).slot j) path) ≡ Local b) ⊎ Broken gone old new ((local old (target w)).slot j) path b → (p : Pointer) → target w ≡ p
        → (target (walk new w (j ∷ path)) ≡ Local b) ⊎ Broken gone old new w (j ∷ path) b
    step next Nil is = on (ap (λ (p : Pointer). (local new p).slot j) is ∙ ap (λ (p : Pointer). (local old p).slot j) (sym is)) next
    step next (Held score) is = on (ap (λ (p : Pointer). (local new p).slot j) is ∙ ap (λ (p : Pointer). (local old p).slot j) (sym is)) next
    step next (Local a) is = ⊎_elim
        (λ same. on (ap (λ (p : Pointer). (local new p).slot j) is ∙ same ∙ ap (λ (p : Pointer). (local old p).slot j) (sym is)) next)
        (λ cut. inr (record {
          at = a;
          i = j;
          was = cut.0;
          nil = cut.1;
          front = [];
          rest = path;
          is = refl;
          to = is;
          leads = ap (λ (p : Pointer). target (walk old ((local old p).slot j) path)) (sym is) ∙ e;
        }))
        (x.each a j)

pub broken_dead : {gone : ℕ → ℕ → Type 0} {old new : Image} {w : Slot} {path : List ℕ} {b : ℕ} → Fewer old new → Broken gone old new w path b → target (walk new w path) ≡ Local b → ⊥
broken_dead {gone} {old} {new} {w} {path} {b} f x e =
    let whole : target (walk new (walk new w x.front) (x.i ∷ x.rest)) ≡ Local b = ap target (sym (walk_joins new w x.front (x.i ∷ x.rest))) ∙ ap (λ y. target (walk new w y)) (sym x.is) ∙ e in
    step whole (target (walk new w x.front)) refl
  where
    step : target (walk new (walk new w x.front) (x.i ∷ x.rest)) ≡ Local b → (p : Pointer) → target (walk new w x.front) ≡ p → ⊥
    step whole Nil is = lost new (x.i ∷ x.rest) (walk new w x.front) (λ c g. let n : Nil ≡ Local c = sym is ∙ g in cc) b whole
    step whole (Held score) is = lost new (x.i ∷ x.rest) (walk new w x.front) (λ c g. let n : Held score ≡ Local c = sym is ∙ g in cc) b whole
    step whole (Local a) is =
        let same : a ≡ x.at = local_same (sym (path_back f x.front w a is) ∙ x.to) in
        let nil : target ((local new (target (walk new w x.front))).slot x.i) ≡ Nil = ap (λ (p : Pointer). target ((local new p).slot x.i)) is ∙ ap (λ y. target ((new y).slot x.i)) same ∙ x.nil in
        lost new x.rest ((local new (target (walk new w x.front))).slot x.i) (λ c. nil_leads nil c) b whole
      where
        local_same : {c d : ℕ} → Local c ≡ Local d → c ≡ d
        local_same g = cc
