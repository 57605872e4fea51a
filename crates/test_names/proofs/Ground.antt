-- What blocks in memory say of the root block and of the tree.
use Rattle.std.proofs.Common.{◌≡◌, ◌≢◌, ◌≤◌, ℕ, Bool, true, false, [], ◌∷◌, refl, sym, ap, subst, arith}
use Rattle.fo_image.specs.declared.types.Kind.TheVariants.{Root}
use Rattle.fo_image.specs.declared.types.State.TheVariants.{Live}
use Rattle.fo_crash.specs.declared.place.Place.{Place}
use Rattle.fo_crash.specs.declared.slot.Slot.{Slot}
use Rattle.fo_crash.specs.Images.{Reaches, target, to_block}
use Rattle.fo_crash.specs.Places.{place_below, super_place, root_place, IsPlaced, OnePlace, RanksFall}
use Rattle.fo_ports.specs.State.{State, Looks}
use Rattle.fo_tree_read.specs.Tree.{kind_at}
use Rattle.fo_tree_open.specs.Open.{HasEntry, NamesRank}
use Rattle.test_names.specs.declared.parts.Part.{Part}
use Rattle.test_names.specs.declared.parts.Part.TheVariants.{Entries, Records}
use Rattle.test_names.specs.Parts.{slot_of, is_dir_of, rank_of}
use Rattle.test_names.specs.Root.{NoneComes}

pub record Ground (s : State) : Type 0 where
  pub told : s.tells
  pub active : s.tops 1
  pub not_one : s.is_block 1 → ⊥
  pub placed : IsPlaced s.stands s.now
  pub ranked : RanksFall s.stands s.now
  pub one : OnePlace s.stands
  pub super_stands : s.stands 1 super_place
  pub labelled : (b : ℕ) (p : Place) → b ≢ 1 → s.stands b p → s.is_block b × ((s.label b).kind ≡ p.kind) × ((s.label b).tag ≡ p.tag)
  pub live : (b : ℕ) → b ≢ 1 → Reaches s.now (to_block 1) b → ((s.label b).state ≡ Live) × ((s.label b).epoch ≤ s.high) × (s.covered b → ⊥)
  pub root_named : (s.now 1).slot 0 ≡ to_block s.root
  pub root_block : s.is_block s.root
  pub root_is : ((s.label s.root).state ≡ Live) × ((s.label s.root).kind ≡ Root) × ((s.label s.root).epoch ≡ s.high)

module _ {s : State} (x : Ground s) where
  pub root_reached : Reaches s.now (to_block 1) s.root
  root_reached = record { path = 0 ∷ []; leads = ap target x.root_named }

  pub root_stands : s.stands s.root root_place
  root_stands = subst (λ (q : Slot). s.stands s.root (place_below super_place 0 q)) x.root_named (x.placed.each 1 0 s.root super_place x.super_stands (ap target x.root_named))

  pub root_other : s.root ≢ 1
  root_other e = x.not_one (subst (λ b. s.is_block b) e x.root_block)

  pub root_place_is : (p : Place) → s.stands s.root p → (p.kind ≡ Root) × (p.rank ≡ 2144)
  root_place_is p stands =
      let same : p ≡ root_place = x.one.each s.root p root_place stands root_stands in
      (ap (λ (q : Place). q.kind) same, ap (λ (q : Place). q.rank) same)

  pub root_tag : (s.label s.root).tag ≡ 1
  root_tag = (x.labelled s.root root_place root_other root_stands).2

  pub root_free : s.covered s.root → ⊥
  root_free = (x.live s.root root_other root_reached).2

-- ---- the entries of the root block

pub has_entry : (p : Part) → HasEntry Root (slot_of p)
has_entry Entries = omega arith
has_entry Records = omega arith

pub names_rank : (p : Part) (dir : Bool) → dir ≡ is_dir_of p → NamesRank Root 2144 (slot_of p) dir (rank_of p)
names_rank Entries dir e = subst (λ d. NamesRank Root 2144 0 d 2088) (sym e) refl
names_rank Records dir e = subst (λ d. NamesRank Root 2144 1 d 2096) (sym e) refl

pub root_ranked : {s : State} → Ground s → (p : Part) (dir : Bool) → dir ≡ is_dir_of p → (q : Place) → s.stands s.root q → NamesRank q.kind q.rank (slot_of p) dir (rank_of p)
root_ranked {s = s} x p dir e q stands =
    let same : root_place ≡ q = x.one.each s.root root_place q (root_stands x) stands in
    subst (λ (y : Place). NamesRank y.kind y.rank (slot_of p) dir (rank_of p)) same (names_rank p dir e)

-- a block of a source is no root block
pub not_root : (dir : Bool) (level : ℕ) → kind_at dir level ≡ Root → ⊥
not_root true level e = cc
not_root false level e = cc

-- ---- what only looks

pub none_looks : {s u : State} → Looks s u → NoneComes s → NoneComes u
none_looks looks x = record { each = λ y z h. x.each y z ((looks.stays.instead y z (λ n. n) (λ n. n)).0 h) }
