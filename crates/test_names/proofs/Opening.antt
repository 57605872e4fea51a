-- A source is opened from the root block.
use Rattle.std.proofs.Common.{◌≡◌, ◌≢◌, ◌+◌, ◌%◌, ◌<◌, ℕ, zero, suc, true, Option, Some, None, IfSome, MatchOption, refl, sym, ◌∙◌, ap, subst, arith}
use Rattle.fo_image.specs.declared.types.Entry.{Entry}
use Rattle.fo_image.specs.declared.types.Score.{Score}
use Rattle.fo_image.specs.declared.types.Pointer.{Pointer}
use Rattle.fo_image.specs.declared.types.Pointer.TheVariants.{Local, Score as Held}
use Rattle.fo_crash.specs.declared.slot.Slot.{Slot}
use Rattle.fo_crash.specs.declared.slot.Slot.TheVariants.{Entry as Head}
use Rattle.fo_crash.specs.declared.place.Place.{Place}
use Rattle.fo_crash.specs.Images.{Reaches, target}
use Rattle.fo_crash.specs.Places.{place, place_below, root_place}
use Rattle.fo_crash.proofs.Reach.{reaches_from, reaches_joins}
use Rattle.fo_ports.specs.State.{State, KeepsAll, Looks}
use Rattle.fo_tree.specs.declared.source.Source.{Source}
use Rattle.fo_tree_read.specs.declared.tree.Tree.{Tree}
use Rattle.fo_tree_read.specs.Tree.{kind_at, kind_down, below, block_at}
use Rattle.fo_tree_look.specs.Source.{NoneHeld, Over}
use Rattle.fo_tree_open.specs.Open.{CanOpen, IsFit, NamesRank, tree_of}
use Rattle.fo_tree_open.proofs.Opened.{hangs_below, place_named}
use Rattle.fo_tree_link.specs.Link.{entry_of}
use Rattle.fo_tree_link.specs.Change.{HangsInTree}
use Rattle.test_names.specs.declared.parts.Part.{Part}
use Rattle.test_names.specs.Parts.{slot_of, is_dir_of, tag_of, rank_of, limit_of}
use Rattle.test_names.specs.Root.{IsSource, NoneComes, SameSource}
use Rattle.test_names.proofs.Ground.{Ground, root_reached, root_stands, root_ranked}

-- ---- no leaf is under a score

pub unheld_top : (s : State) (e : Entry) (rank : ℕ) → e.depth ≡ 0 → ((score : Score) → e.top ≢ Held score) → NoneHeld s (tree_of e rank)
unheld_top s e rank depth none i score is = none score (subst (λ d. block_at s (tree_of e rank) d i ≡ Held score) depth is)

pub unheld_below : (s : State) (e : Entry) (rank top : ℕ) → e.depth ≡ 1 → e.top ≡ Local top → ((j : ℕ) (score : Score) → j < 409 → target ((s.now top).slot j) ≢ Held score) → NoneHeld s (tree_of e rank)
unheld_below s e rank top depth leads none i score is =
    let one : block_at s (tree_of e rank) (suc zero) i ≡ Held score = subst (λ d. block_at s (tree_of e rank) d i ≡ Held score) depth is in
    let here : below s (kind_down (tree_of e rank) 0) (Local top) (i % 409) ≡ Held score = subst (λ (p : Pointer). below s (kind_down (tree_of e rank) 0) p (i % 409) ≡ Held score) leads one in
    none (i % 409) score (omega arith) here

-- where the top of a source with one level of pointers stands
pub top_stands : {s : State} → Ground s → (p : Part) (e : Entry) (top : ℕ) → (s.now s.root).slot (slot_of p) ≡ Head e → e.dir ≡ is_dir_of p → e.top ≡ Local top → s.stands top (place (kind_at e.dir e.depth) e.tag 0 (rank_of p + e.depth))
top_stands {s = s} x p e top is dir leads =
    let there : s.stands top (place_below root_place (slot_of p) ((s.now s.root).slot (slot_of p))) = x.placed.each s.root (slot_of p) top root_place (root_stands x) (ap target is ∙ leads) in
    subst (λ (q : Place). s.stands top q) (place_named root_place (slot_of p) e (rank_of p) (root_ranked x p e.dir dir root_place (root_stands x))) (subst (λ (q : Slot). s.stands top (place_below root_place (slot_of p) q)) is there)

pub top_place_is : {s : State} → Ground s → (p : Part) (e : Entry) (top : ℕ) → (s.now s.root).slot (slot_of p) ≡ Head e → e.dir ≡ is_dir_of p → e.top ≡ Local top → e.depth ≡ 1 → (q : Place) → s.stands top q → (q.kind ≡ kind_at (is_dir_of p) 1) × (q.rank ≡ rank_of p + 1)
top_place_is {s = s} x p e top is dir leads depth q stands =
    let same : q ≡ place (kind_at e.dir e.depth) e.tag 0 (rank_of p + e.depth) = x.one.each top q (place (kind_at e.dir e.depth) e.tag 0 (rank_of p + e.depth)) stands (top_stands x p e top is dir leads) in (
      ap (λ (y : Place). y.kind) same ∙ ap (λ d. kind_at d e.depth) dir ∙ ap (λ n. kind_at (is_dir_of p) n) depth,
      ap (λ (y : Place). y.rank) same ∙ ap (λ n. rank_of p + n) depth,
    )

-- ---- what is opened

pub can_open : {s : State} → Ground s → NoneComes s → (p : Part) (e : Entry) → e.dir ≡ is_dir_of p → NoneHeld s (tree_of e (rank_of p)) → CanOpen s s.root (slot_of p) e (rank_of p)
can_open x comes p e dir unheld = record {
  in_tree = root_reached x;
  ranked = λ q stands. root_ranked x p e.dir dir q stands;
  alone = λ y z h r. comes.each y z h;
  unheld = λ other. unheld;
}

-- an entry in use is that of its source
entry_is : (e : Entry) (rank : ℕ) → e.active ≡ true → e ≡ entry_of (tree_of e rank) e.generation
entry_is e rank used = ap (λ a. record e { active = a }) used

entry_same : (t new : Tree) (g h : ℕ) → new ≡ t → h ≡ g → entry_of new h ≡ entry_of t g
entry_same t new g h is same = ap (λ (y : Tree). entry_of y h) is ∙ ap (λ n. entry_of t n) same

pub record Opened (s : State) (p : Part) (e : Entry) (x : Source) : Type 0 where
  pub fit : IsFit e (tag_of p) (limit_of p)
  pub is : (x.ways.tree ≡ tree_of e (rank_of p)) × (x.ways.generation ≡ e.generation) × (x.ways.limit ≡ limit_of p)
  pub over : Over s x.ways.tree x.ways.kept.items x.ways.limit
  pub hangs : HangsInTree s x.ways.tree s.root (slot_of p)

source_of : {s : State} (p : Part) (e : Entry) (x : Source) → s.pinned s.root → (s.now s.root).slot (slot_of p) ≡ Head e → e.dir ≡ is_dir_of p → Opened s p e x → IsSource s p x
source_of p e x pinned slot dir o = record {
  over = o.over;
  dir = ap (λ (t : Tree). t.dir) o.is.0 ∙ dir;
  tag = ap (λ (t : Tree). t.tag) o.is.0 ∙ o.fit.tagged;
  ranked = ap (λ (t : Tree). t.rank) o.is.0;
  limit = o.is.2;
  is_pinned = pinned;
  entry = slot ∙ ap (λ (a : Entry). Head a) (entry_is e (rank_of p) o.fit.used ∙ sym (entry_same (tree_of e (rank_of p)) x.ways.tree e.generation x.ways.generation o.is.0 o.is.1));
  hangs = o.hangs;
}

pub is_source : (s : State) (p : Part) (e : Entry) (root : ℕ) (o : Option Source) → root ≡ s.root → s.pinned root → (s.now root).slot (slot_of p) ≡ Head e → e.dir ≡ is_dir_of p → NoneComes s → s.tells
    → MatchOption o (IsFit e (tag_of p) (limit_of p) → ⊥) (λ x. IsFit e (tag_of p) (limit_of p)) → IfSome o (λ x. (x.ways.tree ≡ tree_of e (rank_of p)) × (x.ways.generation ≡ e.generation) × (x.ways.limit ≡ limit_of p))
    → IfSome o (λ x. Over s x.ways.tree x.ways.kept.items x.ways.limit) → IfSome o (λ x. s.tells → ((y z : ℕ) → s.instead y z → ⊥) → HangsInTree s x.ways.tree root (slot_of p)) → IfSome o (IsSource s p)
is_source s p e root None at pinned slot dir comes told fit is over hangs = tt
is_source s p e root (Some x) at pinned slot dir comes told fit is over hangs =
    source_of p e x (subst (λ b. s.pinned b) at pinned) (subst (λ b. (s.now b).slot (slot_of p) ≡ Head e) at slot) dir
    (record { fit = fit; is = is; over = over; hangs = subst (λ b. HangsInTree s x.ways.tree b (slot_of p)) at (hangs told comes.each) })

-- the same, as the calls give its numbers
pub source_given : (s : State) (p : Part) (e : Entry) (root slot tag rank limit : ℕ) (o : Option Source) → slot ≡ slot_of p → tag ≡ tag_of p → rank ≡ rank_of p → limit ≡ limit_of p → root ≡ s.root → s.pinned root → (s.now root).slot (slot_of p) ≡ Head e → e.dir ≡ is_dir_of p → NoneComes s → s.tells
    → MatchOption o (IsFit e tag limit → ⊥) (λ x. IsFit e tag limit) → IfSome o (λ x. (x.ways.tree ≡ tree_of e rank) × (x.ways.generation ≡ e.generation) × (x.ways.limit ≡ limit))
    → IfSome o (λ x. Over s x.ways.tree x.ways.kept.items x.ways.limit) → IfSome o (λ x. s.tells → ((y z : ℕ) → s.instead y z → ⊥) → HangsInTree s x.ways.tree root slot) → IfSome o (IsSource s p)
source_given s p e root slot tag rank limit o slot_is tag_is rank_is limit_is at pinned here dir comes told fits is over hangs =
    is_source s p e root o at pinned here dir comes told
    (subst (λ n. MatchOption o (IsFit e n (limit_of p) → ⊥) (λ x. IsFit e n (limit_of p))) tag_is (subst (λ n. MatchOption o (IsFit e tag n → ⊥) (λ x. IsFit e tag n)) limit_is fits))
    (subst (λ n. IfSome o (λ x. (x.ways.tree ≡ tree_of e n) × (x.ways.generation ≡ e.generation) × (x.ways.limit ≡ limit_of p))) rank_is (subst (λ n. IfSome o (λ x. (x.ways.tree ≡ tree_of e rank) × (x.ways.generation ≡ e.generation) × (x.ways.limit ≡ n))) limit_is is))
    over
    (subst (λ n. IfSome o (λ x. s.tells → ((y z : ℕ) → s.instead y z → ⊥) → HangsInTree s x.ways.tree root n)) slot_is hangs)

-- ---- it is looked at

-- what its entry in the root block leads to hangs from there
pub hangs_here : {s : State} → Ground s → NoneComes s → (p : Part) (t : Tree) (g : ℕ) → (s.now s.root).slot (slot_of p) ≡ Head (entry_of t g) → t.dir ≡ is_dir_of p → t.rank ≡ rank_of p → HangsInTree s t s.root (slot_of p)
hangs_here {s = s} x comes p t g is dir rank = record {
  in_tree = root_reached x;
  ranked = λ q stands. subst (λ r. NamesRank q.kind q.rank (slot_of p) t.dir r) (sym rank) (root_ranked x p t.dir dir q stands);
  owned = λ b has. reaches_joins (root_reached x) (reaches_from (slot_of p) (subst (λ (w : Slot). Reaches s.now w b) (sym is) (hangs_below s t (Head (entry_of t g)) refl has.down has.index b has.is)));
  none = comes.each;
}

pub source_looks : {s u : State} (p : Part) (x y : Source) → Ground u → KeepsAll s u → s.tells → Looks s u → NoneComes u → SameSource x y → Over u y.ways.tree y.ways.kept.items y.ways.limit → IsSource s p x → IsSource u p y
source_looks {s = s} {u = u} p x y ground all told looks comes same over was =
    let dir : y.ways.tree.dir ≡ is_dir_of p = ap (λ (t : Tree). t.dir) same.tree ∙ was.dir in
    let rank : y.ways.tree.rank ≡ rank_of p = ap (λ (t : Tree). t.rank) same.tree ∙ was.ranked in
    let entry : (u.now u.root).slot (slot_of p) ≡ Head (entry_of y.ways.tree y.ways.generation) =
    ap (λ b. (u.now b).slot (slot_of p)) all.same_root ∙ ((looks.memory told).each s.root).slots (slot_of p) ∙ was.entry
    ∙ ap (λ (a : Entry). Head a) (sym (entry_same x.ways.tree y.ways.tree x.ways.generation y.ways.generation same.tree same.generation)) in
    record {
      over = over;
      dir = dir;
      tag = ap (λ (t : Tree). t.tag) same.tree ∙ was.tag;
      ranked = rank;
      limit = same.limit ∙ was.limit;
      is_pinned = subst (λ b. u.pinned b) (sym all.same_root) ((looks.stays.marks s.root (λ n. n)).0 was.is_pinned);
      entry = entry;
      hangs = hangs_here ground comes p y.ways.tree y.ways.generation entry dir rank;
    }
