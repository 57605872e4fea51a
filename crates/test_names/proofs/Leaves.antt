-- A leaf of the root directory that may be changed.
use Rattle.std.proofs.Common.{◌≡◌, ◌≢◌, ◌⊎◌, ◌*◌, ℕ, Bool, true, false, List, [], ◌∷◌, length, Option, Some, None, IfSome, find, inl, inr, ⊎_elim, refl, sym, ◌∙◌, ap, subst, arith}
use Rattle.std.specs.List.{list_any}
use Rattle.fo_image.specs.declared.types.Label.{Label}
use Rattle.fo_image.specs.declared.record.Record.{Record}
use Rattle.fo_image.specs.Record.{RecordHolds}
use Rattle.fo_crash.specs.declared.place.Place.{Place}
use Rattle.fo_crash.specs.Images.{Reaches, to_block}
use Rattle.fo_crash.specs.Places.{place}
use Rattle.fo_crash.proofs.Reach.{reach_aside}
use Rattle.fo_meta.specs.Leaf.{IsLeaf, SpellsLeaf, is_named}
use Rattle.fo_ports.specs.Blocks.{IsFormed}
use Rattle.fo_crash.specs.Names.{IsInUse}
use Rattle.fo_ports.specs.State.{State, KeepsAll, Looks, IsDoomed, IsRooted}
use Rattle.fo_tree.specs.declared.source.Source.{Source}
use Rattle.fo_tree_read.specs.Tree.{kind_at}
use Rattle.fo_tree_look.specs.Source.{address_here}
use Rattle.fo_tree_look.proofs.Places.{is_here, here_owned, leaf_there}
use Rattle.fo_dir_put.specs.Puts.{IsHeldEntries, IsOwnedEntries, IsOwnedRecords, IsInPlace, MayClear}
use Rattle.fo_dir_change.specs.Changes.{Bears, IsFirstOf}
use Rattle.fo_dir_move.specs.Moves.{AreReady, MaySettle}
use Rattle.fo_dir_read.proofs.Looking.{found_holds, found_passes, found_named}
use Rattle.test_names.specs.declared.parts.Part.{Part}
use Rattle.test_names.specs.declared.parts.Part.TheVariants.{Entries, Records}
use Rattle.test_names.specs.Parts.{is_dir_of, rank_of}
use Rattle.test_names.specs.Root.{IsInMemory, IsLeafOf, IsSource, NoneComes}
use Rattle.test_names.proofs.Ground.{Ground}

-- ---- where it stands

module _ {s : State} (ground : Ground s) (p : Part) (x : Source) (is : IsSource s p x) (i at : ℕ) (here : address_here s x.ways.tree i ≡ Some at) where
  leaf_stands : s.stands at (place (kind_at x.ways.tree.dir 0) x.ways.tree.tag i x.ways.tree.rank)
  leaf_stands = leaf_there s x.ways.tree ground.placed is.over.hangs ground.told i at (is_here s x.ways.tree i at here)

  pub leaf_place : (q : Place) → s.stands at q → (q.kind ≡ kind_at (is_dir_of p) 0) × (q.rank ≡ rank_of p)
  leaf_place q stands =
      let same : q ≡ place (kind_at x.ways.tree.dir 0) x.ways.tree.tag i x.ways.tree.rank = ground.one.each at q (place (kind_at x.ways.tree.dir 0) x.ways.tree.tag i x.ways.tree.rank) stands leaf_stands in (
        ap (λ (y : Place). y.kind) same ∙ ap (λ d. kind_at d 0) is.dir,
        ap (λ (y : Place). y.rank) same ∙ is.ranked,
      )

  pub leaf_linked : Reaches s.now (to_block 1) at
  leaf_linked = is.hangs.owned at (here_owned (is_here s x.ways.tree i at here))

-- ---- what only looks leaves it

reach_looks : {s u : State} → s.tells → Looks s u → (b : ℕ) → Reaches s.now (to_block 1) b → Reaches u.now (to_block 1) b
reach_looks {s = s} {u = u} told looks b r = reach_aside s.now u.now (λ y. ⊥) 1 (λ y j n. sym (((looks.memory told).each y).slots j)) (λ y n q. n) b r

place_looks : {s u : State} → s.tells → s.tops 1 → KeepsAll s u → Looks s u → (b : ℕ) (p : Place) → (s.covered b → ⊥) → Reaches s.now (to_block 1) b → s.stands b p → u.stands b p
place_looks told active all looks b p free r stands = looks.stays.places told b p (λ n. n) (λ n. n) (λ h. free ((looks.covered.covered b).0 h)) (1, inl ((all.same_tops 1).1 active), reach_looks told looks b r) stands

pub leaf_looks : {s u : State} (p : Part) (at : ℕ) → s.tells → s.tops 1 → KeepsAll s u → Looks s u → IsLeafOf s p at → IsLeafOf u p at
leaf_looks {s = s} {u = u} p at told active all looks x =
    let same = looks.stays.labels at (λ n. n) in
    record {
      is_pinned = (looks.stays.marks at (λ n. n)).0 x.is_pinned;
      current = ap (λ (l : Label). l.epoch) same ∙ x.current ∙ sym all.same_high;
      leaf_kind = ap (λ (l : Label). l.kind) same ∙ x.leaf_kind;
      whole = ap (λ (xs : List ℕ). length xs) ((looks.memory told).each at).bytes ∙ x.whole;
      linked = reach_looks told looks at x.linked;
      uncovered = λ h. x.uncovered ((looks.covered.covered at).0 h);
      other = x.other;
      there = x.there;
      stands = place_looks told active all looks at x.there x.uncovered x.linked x.stands;
      rank = x.rank;
    }

-- ---- a leaf that was got

formed_long : (dir : Bool) (rank : ℕ) (bytes : List ℕ) → IsFormed (kind_at dir 0) rank bytes → length bytes ≡ 8192
formed_long true rank bytes formed = formed.0
formed_long false rank bytes formed = formed.0

pub record Got (s u : State) (p : Part) (x : Source) (i at : ℕ) : Type 0 where
  pub ground : Ground s
  pub later : Ground u
  pub all : KeepsAll s u
  pub is : IsSource s p x
  pub here : address_here s x.ways.tree i ≡ Some at
  pub block : s.is_block at
  pub looks : Looks s u
  pub pins : u.pinned at
  pub formed : (t b : ℕ) (q : Place) → u.tops t → b ≢ 1 → Reaches u.now (to_block t) b → u.stands b q → IsFormed q.kind q.rank ((u.now b).bytes)

module _ {s u : State} {p : Part} {x : Source} {i at : ℕ} (g : Got s u p x i at) where
  other : at ≢ 1
  other e = g.ground.not_one (subst (λ b. s.is_block b) e g.block)

  linked : Reaches u.now (to_block 1) at
  linked = reach_looks g.ground.told g.looks at (leaf_linked g.ground p x g.is i at g.here)

  abbrev spot : Place
  spot = place (kind_at x.ways.tree.dir 0) x.ways.tree.tag i x.ways.tree.rank

  free : s.covered at → ⊥
  free = (g.ground.live at other (leaf_linked g.ground p x g.is i at g.here)).2

  stands : u.stands at spot
  stands = place_looks g.ground.told g.ground.active g.all g.looks at spot free (leaf_linked g.ground p x g.is i at g.here) (leaf_stands g.ground p x g.is i at g.here)

  pub leaf_got : (u.label at).epoch ≡ u.high → IsLeafOf u p at
  leaf_got current = record {
    is_pinned = g.pins;
    current = current;
    leaf_kind = (g.later.labelled at spot other stands).1 ∙ ap (λ d. kind_at d 0) g.is.dir;
    whole = formed_long x.ways.tree.dir x.ways.tree.rank ((u.now at).bytes) (g.formed 1 at spot g.later.active other linked stands);
    linked = linked;
    uncovered = (g.later.live at other linked).2;
    other = other;
    there = spot;
    stands = stands;
    rank = g.is.ranked;
  }

-- ---- what calls on a directory ask of it

pub owned_records : {s : State} {at : ℕ} → IsLeafOf s Records at → IsOwnedRecords s at
owned_records x = record { is_pinned = x.is_pinned; current = x.current; leaf_kind = x.leaf_kind; whole = x.whole; uncovered = x.uncovered; other = λ told. x.other }

pub owned_entries : {s : State} {at : ℕ} → IsLeafOf s Entries at → IsOwnedEntries s at
owned_entries x = record { is_pinned = x.is_pinned; current = x.current; leaf_kind = x.leaf_kind; linked = λ told. x.linked; uncovered = x.uncovered }

pub held_entries : {s : State} {at : ℕ} → IsLeafOf s Entries at → IsHeldEntries s at
held_entries x = record { is_pinned = x.is_pinned; leaf_kind = x.leaf_kind; uncovered = x.uncovered }

pub in_place : {s : State} {leaf entries : ℕ} → IsInMemory s → IsLeafOf s Records leaf → IsLeafOf s Entries entries → IsInPlace s leaf entries
in_place {leaf = leaf} {entries = entries} memory x y = record {
  is_sealed = memory.seals leaf;
  entries_sealed = memory.seals entries;
  leaf_linked = x.linked;
  entries_linked = y.linked;
  upper = x.there;
  lower = y.there;
  upper_stands = x.stands;
  lower_stands = y.stands;
  falls = let high = x.rank in let low = y.rank in omega (arith, high, low);
}

pub are_ready : {s : State} {from to entries : ℕ} → IsInMemory s → IsLeafOf s Records from → IsLeafOf s Records to → IsLeafOf s Entries entries → AreReady s from to entries
are_ready memory x y e = record {
  from_owned = owned_records x;
  to_owned = owned_records y;
  held = held_entries e;
  from_place = λ told. in_place memory x e;
  to_place = λ told. in_place memory y e;
}

pub may_settle : {s : State} {from to entries : ℕ} → s.tops 1 → IsInMemory s → NoneComes s → IsLeafOf s Records from → IsLeafOf s Records to → IsLeafOf s Entries entries → MaySettle s from to entries
may_settle {s = s} {from = from} {to = to} {entries = entries} active memory comes x y e = record {
  apart = λ z w h doomed. comes.each z w h;
  stay = λ b is. ⊎_elim
      (λ one. stays b from one x.uncovered x.linked)
      (λ rest. ⊎_elim
      (λ two. stays b to two y.uncovered y.linked)
      (λ three. stays b entries three e.uncovered e.linked)
      rest)
      is;
}
  where
    Stays : ℕ → Type 0
    Stays b = (IsDoomed s b → ⊥) × IsRooted s b

    stays : (b at : ℕ) → b ≡ at → (s.covered at → ⊥) → Reaches s.now (to_block 1) at → Stays b
    stays b at same free r = subst (λ z. Stays z) (sym same) (
      λ doomed. ⊎_elim free (λ waits. memory.quiet waits.0 waits.1 waits.2) doomed,
      (1, inl active, r),
    )

pub may_clear : {s : State} (at j p generation : ℕ) → IsInMemory s → NoneComes s → j ≡ 2 * p → IsInUse ((s.now at).slot j) generation → MayClear s at j
may_clear at j p generation memory comes even used = record {
  is_sealed = memory.seals at;
  waits = inl (p, even, (generation, used));
  none_comes = comes.each;
  quiet = λ b i waits r. memory.quiet b i waits;
}

-- ---- the bytes at hand

pub leaf_bytes : (bytes : List ℕ) → IsFormed (kind_at false 0) 2096 bytes → IsLeaf bytes
leaf_bytes bytes formed = formed.1 refl

decide : (b : Bool) → (b ≡ true) ⊎ (b ≡ false)
decide true = inl refl
decide false = inr refl

some_any : (f : Record → Bool) (rs : List Record) (r : Record) → find f rs ≡ Some r → list_any f rs ≡ true
some_any f [] r is = absurd (let none : None ≡ Some r = is in cc)
some_any f (q ∷ rs) r is = ⊎_elim
    (λ h. rw h refl)
    (λ h. let rest : find f rs ≡ Some r = sym (passed h) ∙ is in rw h (some_any f rs r rest))
    (decide (f q))
  where
    passed : f q ≡ false → find f (q ∷ rs) ≡ find f rs
    passed h = rw h refl

pub bears : (name leaf : List ℕ) (r : Record) → IsFirstOf name leaf r → Bears name leaf
bears name leaf r first = record { each = λ rs spells. some_any (is_named name) rs r (first.each rs spells) }

pub first_holds : (name leaf : List ℕ) (r : Record) → IsLeaf leaf → IsFirstOf name leaf r → RecordHolds r
first_holds name leaf r is first = subst (λ (o : Option Record). IfSome o RecordHolds) (first.each is.records is.spells) (found_holds (is_named name) is.records is.spells.each)

pub is_first : (name bytes : List ℕ) (found : Option Record) (r : Record) → found ≡ Some r → ((rs : List Record) → SpellsLeaf rs bytes → found ≡ find (is_named name) rs) → IsFirstOf name bytes r
is_first name bytes found r is finds = record { each = λ rs spells. sym (finds rs spells) ∙ is }

pub first_named : (name bytes : List ℕ) (r : Record) → IsLeaf bytes → IsFirstOf name bytes r → r.name ≡ name
first_named name bytes r is first = subst (λ (o : Option Record). IfSome o (λ x. x.name ≡ name)) (first.each is.records is.spells) (found_named name (find (is_named name) is.records) (found_passes (is_named name) is.records))
