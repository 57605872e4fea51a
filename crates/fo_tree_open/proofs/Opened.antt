-- A source that is opened stands over the blocks.
use Rattle.std.proofs.Common.{◌≡◌, ◌≢◌, ◌+◌, ◌-◌, ◌/◌, ◌%◌, ◌^◌, ◌<◌, ◌≤◌, ℕ, zero, suc, Bool, true, false, cond, nat_eq, [], inl, inr, refl, sym, ap, ◌∙◌, subst, arith}
use Rattle.fo_image.specs.declared.types.Kind.{Kind}
use Rattle.fo_image.specs.declared.types.Kind.TheVariants.{Data, Dir, Root}
use Rattle.fo_image.specs.declared.types.Entry.{Entry}
use Rattle.fo_image.specs.declared.types.State.TheVariants.{Live}
use Rattle.fo_image.specs.declared.types.Pointer.{Pointer}
use Rattle.fo_image.specs.declared.types.Pointer.TheVariants.{Nil, Local, Score as Held}
use Rattle.fo_image.specs.Format.{IsDepth, PointerHolds, ActiveHolds, kind_code}
use Rattle.fo_tree_look.specs.of_crash.declared.slot.Slot.{Slot}
use Rattle.fo_tree_look.specs.of_crash.declared.slot.Slot.TheVariants.{Entry as Head}
use Rattle.fo_tree_look.specs.of_crash.declared.place.Place.{Place}
use Rattle.fo_tree_look.specs.of_crash.Images.{Reaches, target, to_block}
use Rattle.fo_tree_look.specs.of_crash.Places.{place, place_below, super_place, IsPlaced, OnePlace, RanksFall}
use Rattle.fo_tree_look.proofs.of_crash.Places.{stands_below, never_back}
use Rattle.fo_tree_look.proofs.of_crash.Reach.{reaches_on, reaches_from, reaches_joins}
use Rattle.fo_tree_look.specs.of_ports.Blocks.{IsEntry, SlotFits, slot_count}
use Rattle.fo_tree_look.specs.of_ports.State.{State}
use Rattle.fo_tree_look.specs.of_tree_read.declared.tree.Tree.{Tree}
use Rattle.fo_tree_look.specs.of_tree_read.Tree.{kind_at, kind_down, below, block_at}
use Rattle.fo_tree_look.proofs.of_tree_read.Walk.{held_apart}
use Rattle.fo_tree_look.specs.Source.{HasBlock, IsTold, Over}
use Rattle.fo_tree_open.specs.Open.{HasEntry, NamesRank, IsFit, StandsIn, tree_of}
use Rattle.fo_tree_open.proofs.Depths.{depth_is}

-- ---- entries

pub entry_within : (kind : Kind) (i : ℕ) → HasEntry kind i → i < slot_count kind
entry_within (Data level) i has = absurd has
entry_within (Dir zero) i has = has
entry_within (Dir (suc level)) i has = absurd has
entry_within Root i has = omega (arith, has)

-- what is spelled there is an entry
pub entry_fits : (kind : Kind) (i : ℕ) (s : Slot) → HasEntry kind i → SlotFits kind i s → IsEntry s
entry_fits (Data level) i s has fits = absurd has
entry_fits (Dir zero) i s has fits = fits
entry_fits (Dir (suc level)) i s has fits = absurd has
entry_fits Root zero s has fits = fits
entry_fits Root (suc zero) s has fits = fits
entry_fits Root (suc (suc i)) s has fits = absurd (omega (arith, has))

active_of : (active : Bool) (e : Entry) → active ≡ true → ActiveHolds active e → IsDepth e.size e.depth × PointerHolds e.top
active_of true e is holds = holds
active_of false e is holds = absurd (let h = is in cc)

-- ---- places

rank_is : (dir even : Bool) (high depth rank : ℕ) → rank + cond dir 32 (cond even 8 24) ≡ high → cond dir (high - 32 + depth) (cond even (high - 8 + depth) (high - 24 + depth)) ≡ rank + depth
rank_is true even high depth rank is = omega (arith, is)
rank_is false true high depth rank is = omega (arith, is)
rank_is false false high depth rank is = omega (arith, is)

place_at : (kind : Kind) (tag index high i : ℕ) (e : Entry) (rank : ℕ) → NamesRank kind high i e.dir rank → place_below (place kind tag index high) i (Head e) ≡ place (kind_at e.dir e.depth) e.tag 0 (rank + e.depth)
place_at (Data level) tag index high i e rank is = absurd is
place_at (Dir zero) tag index high i e rank is = ap (λ r. place (kind_at e.dir e.depth) e.tag 0 r) (rank_is e.dir (nat_eq (i % 2) 0) high e.depth rank is)
place_at (Dir (suc level)) tag index high i e rank is = absurd is
place_at Root tag index high i e rank is = ap (λ r. place (kind_at e.dir e.depth) e.tag 0 r) (rank_is e.dir (nat_eq (i % 2) 0) (high - 24) e.depth rank (omega (arith, is)))

-- the top of the source of an entry stands at the place below it
pub place_named : (p : Place) (i : ℕ) (e : Entry) (rank : ℕ) → NamesRank p.kind p.rank i e.dir rank → place_below p i (Head e) ≡ place (kind_at e.dir e.depth) e.tag 0 (rank + e.depth)
place_named p i e rank is = place_at p.kind p.tag p.index p.rank i e rank is

-- ---- blocks

-- each block of a source hangs from the slot that leads to its top
pub hangs_below : (s : State) (t : Tree) (from : Slot) → target from ≡ t.top → (n k b : ℕ) → block_at s t n k ≡ Local b → Reaches s.now from b
hangs_below s t from top zero k b e = record { path = []; leads = top ∙ e }
hangs_below s t from top (suc n) k b e = go (block_at s t n (k / 409)) (λ a is. hangs_below s t from top n (k / 409) a is) e
  where
    go : (p : Pointer) → ((a : ℕ) → p ≡ Local a → Reaches s.now from a) → below s (kind_down t n) p (k % 409) ≡ Local b → Reaches s.now from b
    go Nil above is = absurd (let h = is in cc)
    go (Local a) above is = reaches_on (k % 409) (above a refl) is
    go (Held score) above is = absurd (held_apart (s.held score (kind_code (kind_down t n))) (k % 409) b is)

-- What blocks over a device that tells say.
pub record Says (s : State) : Type 0 where
  pub placed : s.tells → IsPlaced s.stands s.now
  pub ranked : s.tells → RanksFall s.stands s.now
  pub one : OnePlace s.stands
  pub active : s.tops 1
  pub super_stands : s.tells → s.stands 1 super_place
  pub live : (b : ℕ) → s.tells → b ≢ 1 → Reaches s.now (to_block 1) b → ((s.label b).state ≡ Live) × ((s.label b).epoch ≤ s.high) × (s.covered b → ⊥)

-- An entry that memory has in a block.
pub record Opens (s : State) (e : Entry) (tag rank limit : ℕ) : Type 0 where
  pub says : Says s
  pub entry : IsEntry (Head e)
  pub within : (b : ℕ) → e.top ≡ Local b → s.is_block b
  pub low : (rank < 2 ^ 31) × (limit ≤ 2 ^ 47)
  pub told : s.tells → StandsIn s e rank
  pub fit : IsFit e tag limit

module _ {s : State} {e : Entry} {tag rank limit : ℕ} (x : Opens s e tag rank limit) where
  abbrev t : Tree
  t = tree_of e rank

  active : IsDepth e.size e.depth × PointerHolds e.top
  active = active_of e.active e x.fit.used x.entry.0.active_holds

  hung : s.tells → (b : ℕ) → Reaches s.now (Head e) b → Reaches s.now (to_block 1) b
  hung told b r =
      let y = x.told told in
      reaches_joins y.can.in_tree (reaches_from y.i (subst (λ q. Reaches s.now q b) (sym y.is) r))

  -- nothing below the entry is block 1
  not_one : s.tells → (b : ℕ) → Reaches s.now (Head e) b → b ≢ 1
  not_one told b r is =
      let y = x.told told in
      let from = (s.now y.at).slot y.i in
      let there = stands_below super_place (x.says.placed told) (x.says.ranked told) (x.says.super_stands told) y.can.in_tree in
      let down : Reaches s.now from 1 = subst (λ z. Reaches s.now from z) is (subst (λ q. Reaches s.now q b) (sym y.is) r) in
      never_back there.0 x.says.one (x.says.placed told) (x.says.ranked told) there.1 (reaches_joins down y.can.in_tree)

  fine : s.tells → (b : ℕ) → Reaches s.now (Head e) b → ((s.label b).state ≡ Live) × ((s.label b).epoch ≤ s.high) × (s.covered b → ⊥)
  fine told b r = x.says.live b told (not_one told b r) (hung told b r)

  top_reached : (b : ℕ) → e.top ≡ Local b → Reaches s.now (Head e) b
  top_reached b is = record { path = []; leads = is }

  stands : s.tells → (b : ℕ) → e.top ≡ Local b → s.stands b (place (kind_at e.dir e.depth) e.tag 0 (rank + e.depth))
  stands told b is =
      let y = x.told told in
      let there = stands_below super_place (x.says.placed told) (x.says.ranked told) (x.says.super_stands told) y.can.in_tree in
      let p : Place = there.0 in
      let to : s.stands b (place_below p y.i ((s.now y.at).slot y.i)) = (x.says.placed told).each y.at y.i b p there.1 (ap target y.is ∙ is) in
      subst (λ q. s.stands b q) (place_named p y.i e rank (y.can.ranked p there.1)) (subst (λ q. s.stands b (place_below p y.i q)) y.is to)

  told_block : s.tells → (b : ℕ) → HasBlock s t b → IsTold s t.top b
  told_block told b has =
      let r = hangs_below s t (Head e) refl has.down has.index b has.is in
      let is = fine told b r in
      record {
        live = is.0;
        up_to = is.1;
        uncovered = is.2;
        in_tree = λ older. hung told b r;
        hung = inl (hung told b r);
        alone = λ y h. absurd ((x.told told).can.alone y b h r);
      }

  pub linked_opened : s.tells → (b : ℕ) → HasBlock s t b → Reaches s.now (to_block 1) b
  linked_opened told b has = hung told b (hangs_below s t (Head e) refl has.down has.index b has.is)

  pub over_opened : Over s t [] limit
  over_opened = record {
    hangs = record {
      few = x.entry.1;
      room = active.0.room;
      low = x.low.0;
      is_one = x.within;
      told = λ told b is. (stands told b is, (fine told b (top_reached b is)).2);
      rooted = λ told b is. (1, inl x.says.active, hung told b (top_reached b is));
    };
    least = depth_is e.size e.depth active.0 x.entry.1;
    within = x.fit.within;
    low = x.low.1;
    empty = x.fit.empty;
    holds = active.1;
    free = λ told b is. inr (hung told b (top_reached b is));
    told = told_block;
    unheld = λ told other. (x.told told).can.unheld other;
    held = tt;
  }
