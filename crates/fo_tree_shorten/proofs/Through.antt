-- The blocks of a source of data hang from its entry through blocks of pointers alone.
use Rattle.std.proofs.Common.{◌≡◌, ◌+◌, ◌-◌, ◌<◌, ℕ, Bool, true, false, List, ◌∷◌, ◌++◌, ⊎_elim, refl, sym, ◌∙◌, ap, subst, arith}
use Rattle.std.proofs.lemmas.Bool.{cases_lt}
use Rattle.fo_image.specs.declared.types.Pointer.{Pointer}
use Rattle.fo_image.specs.declared.types.Pointer.TheVariants.{Nil, Local, Score as Held}
use Rattle.fo_crash.specs.declared.slot.Slot.{Slot}
use Rattle.fo_crash.specs.Images.{Image, Reaches, target, local, walk}
use Rattle.fo_crash.specs.declared.place.Place.{Place}
use Rattle.fo_crash.specs.Places.{place, super_place}
use Rattle.fo_crash.specs.Spots.{slots_of}
use Rattle.fo_crash.specs.Steps.{Through}
use Rattle.fo_crash.proofs.Reach.{lost, walk_joins}
use Rattle.fo_ports.specs.Blocks.{IsInner}
use Rattle.fo_ports.specs.State.{State, IsPointers}
use Rattle.fo_tree_read.specs.declared.tree.Tree.{Tree}
use Rattle.fo_tree_read.specs.Tree.{kind_at, kind_down}
use Rattle.fo_tree_read.proofs.Walk.{is_down}
use Rattle.fo_tree_look.specs.declared.ways.Kept.{Kept}
use Rattle.fo_tree_look.specs.Source.{HasBlock}
use Rattle.fo_tree_link.proofs.of_tree_open.Opened.{hangs_below}
use Rattle.fo_tree_link.proofs.Linked.{Linked, from_entry}
use Rattle.fo_tree_link.proofs.Named.{leaf_not_root}
use Rattle.fo_tree_link.proofs.May.{all_own}

no_slots : (dir : Bool) (i : ℕ) → dir ≡ false → i < slots_of (kind_at dir 0) → ⊥
no_slots false i e lt = omega (arith, lt)
no_slots true i e lt = cc

inner_kind : (dir : Bool) (level : ℕ) → 0 < level → IsInner (kind_at dir level)
inner_kind true level lt = lt
inner_kind false level lt = lt

leads_on : (now : Image) (rest : List ℕ) (q : Slot) (b : ℕ) (p : Pointer) → target q ≡ p → target (walk now q rest) ≡ Local b → (y : ℕ) × (target q ≡ Local y)
leads_on now rest q b Nil is e = absurd (lost now rest q (λ c g. let h : Nil ≡ Local c = sym is ∙ g in cc) b e)
leads_on now rest q b (Local y) is e = (y, is)
leads_on now rest q b (Held score) is e = absurd (lost now rest q (λ c g. let h : Held score ≡ Local c = sym is ∙ g in cc) b e)

module _ {s : State} {t : Tree} {kept : List Kept} {limit generation at i : ℕ} (x : Linked s t kept limit generation at i) (plain : t.dir ≡ false) where
  from_slot : (b : ℕ) → HasBlock s t b → Reaches s.now ((s.now at).slot i) b
  from_slot b has = hangs_below s t ((s.now at).slot i) (ap target x.entry) has.down has.index b has.is

  kind_is : (b : ℕ) → (has : HasBlock s t b) → (s.label b).kind ≡ kind_down t has.down
  kind_is b has =
      let down = is_down s t x.says.placed x.linking.over.hangs x.told has.down has.index b has.within has.is in
      x.says.labelled b (place (kind_down t has.down) t.tag down.index (t.rank + (t.depth - has.down)))
      (λ one. leaf_not_root t.dir (t.depth - has.down) (ap (λ (p : Place). p.kind) (x.says.one.each 1 (place (kind_down t has.down) t.tag down.index (t.rank + (t.depth - has.down))) super_place (subst (λ y. s.stands y (place (kind_down t has.down) t.tag down.index (t.rank + (t.depth - has.down)))) one down.stands) x.says.super_stands)))
      down.stands

  inner_on : (b : ℕ) (path : List ℕ) → target (walk s.now ((s.now at).slot i) path) ≡ Local b
      → (front : List ℕ) (j : ℕ) (rest : List ℕ) (y : ℕ) → path ≡ front ++ (j ∷ rest) → target (walk s.now ((s.now at).slot i) front) ≡ Local y → IsPointers s y
  inner_on b path e front j rest y is to =
      let w = (s.now at).slot i in
      let whole : target (walk s.now (walk s.now w front) (j ∷ rest)) ≡ Local b = ap target (sym (walk_joins s.now w front (j ∷ rest))) ∙ ap (λ z. target (walk s.now w z)) (sym is) ∙ e in
      let after : target (walk s.now ((s.now y).slot j) rest) ≡ Local b = ap (λ q. target (walk s.now ((local s.now q).slot j) rest)) (sym to) ∙ whole in
      let z = leads_on s.now rest ((s.now y).slot j) b (target ((s.now y).slot j)) refl after in
      let has = all_own x.linking x.told plain y (from_entry x y (record { path = front; leads = to })) in
      let down = is_down s t x.says.placed x.linking.over.hangs x.told has.down has.index y has.within has.is in
      let few : j < slots_of (kind_down t has.down) = (x.linking.few x.told).each y j z.0 (place (kind_down t has.down) t.tag down.index (t.rank + (t.depth - has.down))) down.stands z.1 in
      let level : 0 < t.depth - has.down = ⊎_elim
      (λ lt. lt)
      (λ le. let flat : t.depth - has.down ≡ 0 = omega (arith, le) in absurd (no_slots t.dir j plain (subst (λ d. j < slots_of (kind_at t.dir d)) flat few)))
      (cases_lt 0 (t.depth - has.down)) in
      subst IsInner (sym (kind_is y has)) (inner_kind t.dir (t.depth - has.down) level)

  pub through_own : (b : ℕ) → HasBlock s t b → Through (IsPointers s) s.now ((s.now at).slot i) b
  through_own b has = let r = from_slot b has in record { path = r.path; leads = r.leads; within = inner_on b r.path r.leads }
