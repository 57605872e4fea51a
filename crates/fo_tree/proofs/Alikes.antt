-- What the entry of a source that hung from it leads to once a leaf was owned.
use Rattle.std.proofs.Common.{◌≡◌, ◌⊎◌, ◌+◌, ◌%◌, ◌<◌, ◌≤◌, ℕ, zero, suc, Bool, true, false, cond, nat_eq, inl, inr, refl, sym, ◌∙◌, ap, subst, arith}
use Rattle.fo_image.specs.declared.types.Kind.{Kind}
use Rattle.fo_image.specs.declared.types.Kind.TheVariants.{Data, Dir, Root}
use Rattle.fo_crash.specs.declared.slot.Slot.{Slot}
use Rattle.fo_crash.specs.declared.slot.Slot.TheVariants.{Entry as Head}
use Rattle.fo_crash.specs.Images.{Image, target}
use Rattle.fo_crash.specs.Places.{place, place_below, super_place, IsPlaced, RanksFall}
use Rattle.fo_crash.proofs.Places.{stands_below}
use Rattle.fo_ports.specs.State.{State}
use Rattle.fo_ports.specs.Alike.{Stem, LeadsAlike, stem_of, HoldsEntry as Holds, KeepsAlike as Keeps}
use Rattle.fo_ports.specs.Sources.{depth_for, is_dir}
use Rattle.fo_shown.proofs.Ways.{AllPlaced}
use Rattle.fo_shown.proofs.Alikes.{alike_itself, entry_below}
use Rattle.fo_tree_read.specs.declared.tree.Tree.{Tree}
use Rattle.fo_tree_read.specs.Tree.{kind_at}
use Rattle.fo_tree_look.specs.Source.{form_of}
use Rattle.fo_tree_link.specs.of_tree_open.Open.{NamesRank, ranks_below}
use Rattle.fo_tree_link.proofs.of_tree_open.Opened.{place_named}
use Rattle.fo_tree_link.specs.of_tree_down.Alike.{HoldsEntry, EntryAlike, KeepsAlike}
use Rattle.fo_tree_link.specs.Link.{entry_of}
use Rattle.fo_tree_link.specs.Change.{HangsInTree}

-- There are images of a device that tells alone.
pub alike_told : {images : Image → Type 0} {now : Image} {at i : ℕ} {slot : Slot} → ((image : Image) → images image → LeadsAlike images now at i slot) → LeadsAlike images now at i slot
alike_told each = record { each = λ image p q path b is same found finds of. (each image is).each image p q path b is same found finds of }

names_kind : (kind : Kind) (high i : ℕ) (dir : Bool) (rank : ℕ) → NamesRank kind high i dir rank → (kind ≡ Dir 0) ⊎ (kind ≡ Root)
names_kind (Data level) high i dir rank is = absurd is
names_kind (Dir zero) high i dir rank is = inl refl
names_kind (Dir (suc level)) high i dir rank is = absurd is
names_kind Root high i dir rank is = inr refl

least_below : (dir even : Bool) → 8 ≤ cond dir 32 (cond even 8 24)
least_below true even = omega arith
least_below false true = omega arith
least_below false false = omega arith

names_above : (kind : Kind) (high i : ℕ) (dir : Bool) (rank : ℕ) → NamesRank kind high i dir rank → rank + 4 < high
names_above (Data level) high i dir rank is = absurd is
names_above (Dir zero) high i dir rank is = let sum : rank + ranks_below i dir ≡ high = is in let few : 8 ≤ ranks_below i dir = least_below dir (nat_eq (i % 2) 0) in omega (arith, sum, few)
names_above (Dir (suc level)) high i dir rank is = absurd is
names_above Root high i dir rank is = let sum : rank + ranks_below i dir + 24 ≡ high = is in let few : 8 ≤ ranks_below i dir = least_below dir (nat_eq (i % 2) 0) in omega (arith, sum, few)

-- A source hangs from its entry: slot i of block `at` is one of its entries.
holds_linked : {s : State} {t : Tree} {at i : ℕ} → IsPlaced s.stands s.now → RanksFall s.stands s.now → s.stands 1 super_place → (s.covered at → ⊥) → HangsInTree s t at i → HoldsEntry s t at i
holds_linked {s} {t} {at} {i} placed ranked top free linked =
    let there = stands_below super_place placed ranked top linked.in_tree in
    let names = linked.ranked there.0 there.1 in
    record {
      there = there.0;
      stands = there.1;
      names = names_kind there.0.kind there.0.rank i t.dir t.rank names;
      below = λ e formed.
          place_named there.0 i e t.rank (subst (λ d. NamesRank there.0.kind there.0.rank i d t.rank) (sym formed.0) names)
          ∙ ap (λ d. place (kind_at d e.depth) e.tag 0 (t.rank + e.depth)) formed.0
          ∙ ap (λ n. place (kind_at t.dir n) e.tag 0 (t.rank + n)) formed.1
          ∙ ap (λ n. place (kind_at t.dir t.depth) n 0 (t.rank + t.depth)) formed.2;
      above = names_above there.0.kind there.0.rank i t.dir t.rank names;
      in_tree = linked.in_tree;
      uncovered = free;
    }

-- Memory has the source's entry in the slot.
entry_itself : (s : State) (t : Tree) (generation at i : ℕ) → AllPlaced s.stands s.may_leave → (s.now at).slot i ≡ Head (entry_of t generation) → EntryAlike s t at i
entry_itself s t generation at i placed is e formed top = alike_itself placed
    (top ∙ ap target (sym is))
    (λ p stands. entry_below p i (entry_of t generation) e formed.0 formed.1 formed.2 ∙ ap (λ z. place_below p i z) (sym is))

-- A source that hung from its entry, and of which a leaf was owned: its entry now leads to no more of leaves of records than memory's.
pub alike_linked : {s u : State} {t new : Tree} {generation at i : ℕ} (later : ℕ) → s.tells → AllPlaced s.stands s.may_leave → s.may_leave s.now → RanksFall s.stands s.now → (s.covered at → ⊥) → (s.now at).slot i ≡ Head (entry_of t generation) → HangsInTree s t at i → KeepsAlike s u t new
    → LeadsAlike u.may_leave u.now at i (Head (entry_of new later))
alike_linked {s} {u} {t} {new} {generation} {at} {i} later told placed present ranked free is linked keeps =
    (keeps.each told at i (holds_linked (placed.each s.now present) ranked (placed.super_at s.now present) free linked) (entry_itself s t generation at i placed is)).1 (entry_of new later) (refl, refl, refl) refl

-- ---- the stem of a source

-- the stem of a source's tree
abbrev stem_at : Tree → Stem
stem_at t = record { dir = t.dir; depth = t.depth; tag = t.tag; rank = t.rank; top = t.top }

dir_is : (dir : Bool) → is_dir (kind_at dir 0) ≡ dir
dir_is true = refl
dir_is false = refl

-- A source with the least depth has its tree's stem.
stem_is : (t : Tree) (generation limit : ℕ) → t.depth ≡ depth_for t.size → stem_of (form_of t generation limit) t.size t.top ≡ stem_at t
stem_is t generation limit least =
    ap (λ d. record { dir = d; depth = depth_for t.size; tag = t.tag; rank = t.rank; top = t.top }) (dir_is t.dir)
    ∙ ap (λ n. record { dir = t.dir; depth = n; tag = t.tag; rank = t.rank; top = t.top }) (sym least)

holds_tree : {s : State} {t : Tree} {at i : ℕ} → Holds s (stem_at t) at i → HoldsEntry s t at i
holds_tree holds = record { there = holds.there; stands = holds.stands; names = holds.names; below = holds.below; above = holds.above; in_tree = holds.in_tree; uncovered = holds.uncovered }

holds_stem : {s : State} {t : Tree} {at i : ℕ} → HoldsEntry s t at i → Holds s (stem_at t) at i
holds_stem holds = record { there = holds.there; stands = holds.stands; names = holds.names; below = holds.below; above = holds.above; in_tree = holds.in_tree; uncovered = holds.uncovered }

-- What is kept of trees is kept of stems, and the other way round.
pub keeps_stems : {s u : State} {t new : Tree} (generation limit later more : ℕ) → t.depth ≡ depth_for t.size → new.depth ≡ depth_for new.size → KeepsAlike s u t new → Keeps s u (stem_of (form_of t generation limit) t.size t.top) (stem_of (form_of new later more) new.size new.top)
keeps_stems {s} {u} {t} {new} generation limit later more least still keeps =
    subst (λ a. Keeps s u a (stem_of (form_of new later more) new.size new.top)) (sym (stem_is t generation limit least))
    (subst (λ a. Keeps s u (stem_at t) a) (sym (stem_is new later more still)) (record {
      each = λ told at i holds alike. let on = keeps.each told at i (holds_tree holds) alike in (holds_stem on.0, on.1);
    }))

pub keeps_trees : {s u : State} {t new : Tree} (generation limit later more : ℕ) → t.depth ≡ depth_for t.size → new.depth ≡ depth_for new.size → Keeps s u (stem_of (form_of t generation limit) t.size t.top) (stem_of (form_of new later more) new.size new.top) → KeepsAlike s u t new
keeps_trees {s} {u} {t} {new} generation limit later more least still keeps =
    let on : Keeps s u (stem_at t) (stem_at new) = subst (λ a. Keeps s u (stem_at t) a) (stem_is new later more still) (subst (λ a. Keeps s u a (stem_of (form_of new later more) new.size new.top)) (stem_is t generation limit least) keeps) in
    record { each = λ told at i holds alike. let there = on.each told at i (holds_stem holds) alike in (holds_tree there.0, there.1) }
