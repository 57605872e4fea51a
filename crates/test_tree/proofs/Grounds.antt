-- What blocks in memory say of the root block.
use Rattle.std.proofs.Common.{◌≡◌, ◌≢◌, ℕ, Bool, true, false, [], ◌∷◌, ⊎_elim, refl, sym, ◌∙◌, ap, subst, arith}
use Rattle.fo_image.specs.declared.types.Kind.TheVariants.{Root}
use Rattle.fo_crash.specs.declared.place.Place.{Place}
use Rattle.fo_crash.specs.declared.slot.Slot.{Slot}
use Rattle.fo_crash.specs.Images.{Reaches, target, to_block}
use Rattle.fo_crash.specs.Places.{place_below, super_place, root_place}
use Rattle.fo_ports.specs.State.{State, KeepsAll, Looks}
use Rattle.fo_ports.specs.Sources.{Changes, Made, Touched}
use Rattle.fo_tree_read.specs.Tree.{kind_at}
use Rattle.fo_tree_open.specs.Open.{HasEntry, NamesRank}
use Rattle.test_tree.specs.Linked.{Ground, HasBlank, NoneComes}

module _ {s : State} (x : Ground s) where
  pub root_reached : Reaches s.now (to_block 1) s.root
  root_reached = record { path = 0 ∷ []; leads = ap target x.root_named }

  pub root_stands : s.stands s.root root_place
  root_stands = subst (λ (q : Slot). s.stands s.root (place_below super_place 0 q)) x.root_named (x.placed.each 1 0 s.root super_place x.super_stands (ap target x.root_named))

  pub root_other : s.root ≢ 1
  root_other e = x.not_one (subst (λ b. s.is_block b) e x.root_block)

  pub root_place_is : (p : Place) → s.stands s.root p → (p.kind ≡ Root) × (p.rank ≡ 2144)
  root_place_is p stands =
      let same : p ≡ root_place = x.one.each s.root p root_place stands root_stands in
      (ap (λ (q : Place). q.kind) same, ap (λ (q : Place). q.rank) same)

  pub root_tag : (s.label s.root).tag ≡ 1
  root_tag = (x.labelled s.root root_place root_other root_stands).2

  pub root_free : s.covered s.root → ⊥
  root_free = (x.live s.root root_other root_reached).2

  pub root_has : HasEntry (s.label s.root).kind 0
  root_has = subst (λ k. HasEntry k 0) (sym x.root_is.1) (omega arith)

-- a source of data of this rank hangs from the first entry of a root block
names_rank : (dir : Bool) (rank : ℕ) → dir ≡ false → rank ≡ 2112 → NamesRank Root 2144 0 dir rank
names_rank dir rank plain is = subst (λ d. NamesRank Root 2144 0 d rank) (sym plain) (subst (λ r. NamesRank Root 2144 0 false r) (sym is) refl)

pub root_ranked : {s : State} → Ground s → (dir : Bool) (rank : ℕ) → dir ≡ false → rank ≡ 2112 → (q : Place) → s.stands s.root q → NamesRank q.kind q.rank 0 dir rank
root_ranked {s = s} x dir rank plain is q stands =
    let same : root_place ≡ q = x.one.each s.root root_place q (root_stands x) stands in
    subst (λ (y : Place). NamesRank y.kind y.rank 0 dir rank) same (names_rank dir rank plain is)

-- a block of a source is no root block
pub not_root : (dir : Bool) (level : ℕ) → kind_at dir level ≡ Root → ⊥
not_root true level e = cc
not_root false level e = cc

-- ---- what stays

tag_other : (tag : ℕ) → tag ≡ 1 → tag ≡ 40 → ⊥
tag_other tag one forty = omega (arith, one, forty)

pub root_kept : {s m : State} {tag : ℕ} {mine inner : ℕ → Type 0} → Ground s → Changes tag mine inner s m → tag ≡ 40 → KeepsAll s m → HasBlank s → HasBlank m
root_kept {s = s} {m = m} {tag = tag} {mine = mine} {inner = inner} x changes is all was = record {
  is_pinned = subst (λ r. m.pinned r) (sym all.same_root) ((changes.others s.root unmade).marks.0 was.is_pinned);
  entry = ap (λ r. (m.now r).slot 0) all.same_root ∙ (changes.memory s.root apart).slots 0 ∙ was.entry;
}
  where
    unmade : Made s m s.root → ⊥
    unmade made = made.0 x.root_is.0

    apart : Touched s m tag inner s.root → ⊥
    apart touched = ⊎_elim unmade (λ own. tag_other (s.label s.root).tag (root_tag x) (own.2 ∙ is)) touched

pub none_looks : {s u : State} → Looks s u → NoneComes s → NoneComes u
none_looks looks x = record { each = λ y z h. x.each y z ((looks.stays.instead y z (λ n. n) (λ n. n)).0 h) }
