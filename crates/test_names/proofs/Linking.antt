-- A leaf of a source of the root directory was owned, and the source is linked.
use Rattle.std.proofs.Common.{◌≡◌, ◌≢◌, ◌⊎◌, ◌+◌, ◌-◌, ◌*◌, ◌<◌, ◌≤◌, ℕ, Bool, true, false, cond, nat_le, ⊎_elim, refl, sym, ◌∙◌, ap, subst, arith}
use Rattle.std.specs.Prelude.{max, Result, Ok, Err, IfOk}
use Rattle.fo_image.specs.declared.types.Label.{Label}
use Rattle.fo_image.specs.declared.types.Pointer.{Pointer}
use Rattle.fo_image.specs.declared.types.Pointer.TheVariants.{Nil, Local, Score as Held}
use Rattle.fo_crash.specs.declared.place.Place.{Place}
use Rattle.fo_crash.specs.declared.slot.Slot.TheVariants.{Entry as Head}
use Rattle.fo_crash.specs.Images.{target}
use Rattle.fo_crash.specs.Names.{SameUse}
use Rattle.fo_crash.specs.Places.{place, root_place, super_place}
use Rattle.fo_ports.specs.Blocks.{cost, dropped, ends}
use Rattle.fo_ports.specs.declared.error.BlockError.{BlockError}
use Rattle.fo_ports.specs.State.{State, KeepsAll}
use Rattle.fo_ports.specs.Sources.{Form, Made, Touched, Changes, ComesFor, MayZero, Owned, most_for, most_to_own, way_for}
use Rattle.fo_tree.specs.declared.source.Source.{Source}
use Rattle.fo_tree_read.specs.declared.tree.Tree.{Tree}
use Rattle.fo_tree_read.specs.Tree.{kind_at, kind_down, block_at}
use Rattle.fo_tree_read.proofs.Walk.{is_down}
use Rattle.fo_tree_look.specs.declared.ways.Ways.{Ways}
use Rattle.fo_tree_look.specs.Source.{HasBlock, Over, Prepared, IsTopCurrent, form_of, leaves_of}
use Rattle.fo_tree_own.proofs.Link.{Laws}
use Rattle.fo_tree_down.specs.Clear.{EndsClear}
use Rattle.fo_tree_open.specs.Open.{HasEntry}
use Rattle.fo_tree_trim.proofs.Least.{few_for}
use Rattle.fo_tree_link.specs.Link.{entry_of, CanLink}
use Rattle.fo_tree_link.specs.Change.{KeepsEntries, SameSource}
use Rattle.fo_tree_link.proofs.Named.{leaf_is}
use Rattle.fo_tree_link.proofs.Owning.{owned_entries}
use Rattle.fo_tree_link.proofs.Changed.{can_link}
use Rattle.fo_tree.proofs.Relinking.{same_source}
use Rattle.test_names.specs.declared.parts.Part.{Part}
use Rattle.test_names.specs.declared.parts.Part.TheVariants.{Entries, Records}
use Rattle.test_names.specs.Parts.{slot_of, tag_of}
use Rattle.fo_dir_read.specs.Names.{leaf_count}
use Rattle.test_names.specs.Root.{IsReadyFor, IsSource, NoneComes}
use Rattle.test_names.proofs.Ground.{Ground, root_stands, root_tag, has_entry, not_root}

-- ---- how many blocks it takes

pub most_ten : (size i : ℕ) → most_to_own size i ≤ 10
most_ten size i = by (nat_le (8192 * (i + 1)) size)
  where
    by : (b : Bool) → cond b (way_for size) (2 * way_for (8192 * (i + 1))) ≤ 10
    by true = let few = few_for size in omega (arith, few)
    by false = let few = few_for (8192 * (i + 1)) in omega (arith, few)

pub enough : (size i spare : ℕ) → 10 ≤ spare → most_to_own size i ≤ spare
enough size i spare ten = let most = most_ten size i in omega (arith, most, ten)

pub took : (size i old new : ℕ) → old ≤ new + most_to_own size i → old ≤ new + 10
took size i old new spent = let most = most_ten size i in omega (arith, most, spent)

-- and how many pins to prepare a leaf
pub most_small : (size end : ℕ) → most_for (max size end) 8192 ≤ 16
most_small size end = let few = few_for (max size end) in omega (arith, few)

-- ---- a leaf is ready

pub ready_for : {s : State} (x : Source) (w : Ways) (z : Source) (i : ℕ) (r : Result Bool BlockError) → i ≤ leaf_count x.ways.tree.size → w.tree ≡ x.ways.tree → z.ways.tree ≡ w.tree → Prepared s z.ways.tree z.ways.kept.items z.ways.limit (8192 * i) 8192
    → IfOk r (λ b. b ≡ true → EndsClear s z.ways.tree z.ways.kept.items) → IfOk r (λ b. b ≡ true → IsReadyFor s z i)
ready_for x w z i (Ok b) within one two prepared clear = λ is. record {
  within = subst (λ (t : Tree). i ≤ leaf_count t.size) (sym (two ∙ one)) within;
  prepared = prepared;
  clear = clear is;
}
ready_for x w z i (Err why) within one two prepared clear = tt

-- ---- the source is linked

tag_other : (p : Part) → 1 ≡ tag_of p → ⊥
tag_other Entries e = omega (arith, e)
tag_other Records e = omega (arith, e)

longer : (a n : ℕ) → a ≤ max a n
longer a n = omega arith

ends_local : (p : Pointer) (b : ℕ) → ends p (Local b) ≡ 0
ends_local Nil b = refl
ends_local (Local x) b = refl
ends_local (Held score) b = refl

local_nil : (b : ℕ) → Local b ≡ Nil → ⊥
local_nil b e = cc

pub record Owns (s m : State) (p : Part) (x y : Source) (i leaf : ℕ) : Type 0 where
  pub laws : Laws s
  pub end : Laws m
  pub ground : Ground s
  pub later : Ground m
  pub one_stays : m.covered 1 → ⊥
  pub all : KeepsAll s m
  pub is : IsSource s p x
  pub over : Over m y.ways.tree y.ways.kept.items y.ways.limit
  pub form : form_of y.ways.tree y.ways.generation y.ways.limit ≡ form_of x.ways.tree x.ways.generation x.ways.limit
  pub size : y.ways.tree.size ≡ max x.ways.tree.size (8192 * (i + 1))
  pub owned : Owned (form_of x.ways.tree x.ways.generation x.ways.limit) x.ways.tree.size i leaf s m (leaves_of s x.ways.tree x.ways.kept.items x.ways.limit) (leaves_of m y.ways.tree y.ways.kept.items y.ways.limit)
  pub top : IsTopCurrent m y.ways.tree
  pub clear : EndsClear m y.ways.tree y.ways.kept.items
  pub comes : (from : Pointer) → ComesFor s x.ways.tree.top from → ComesFor m y.ways.tree.top from
  pub only : y.ways.tree.top ≢ Nil → (z w : ℕ) → m.instead z w → (y.ways.tree.top ≡ Local z) ⊎ (s.instead z w × (x.ways.tree.top ≡ Local z → ⊥))
  pub changes : Changes x.ways.tree.tag (HasBlock s x.ways.tree) (MayZero (form_of x.ways.tree x.ways.generation x.ways.limit) x.ways.tree.size i s (leaves_of s x.ways.tree x.ways.kept.items x.ways.limit)) s m

module _ {s m : State} {p : Part} {x y : Source} {i leaf : ℕ} (o : Owns s m p x y i leaf) where
  abbrev t : Tree
  t = x.ways.tree

  abbrev new : Tree
  new = y.ways.tree

  same : SameSource t new
  same = same_source t new x.ways.generation x.ways.limit y.ways.generation y.ways.limit o.form o.is.over.least o.over.least (subst (λ n. t.size ≤ n) (sym o.size) (longer t.size (8192 * (i + 1)))) (let within = o.over.within in let low = o.over.low in omega (arith, within, low))

  root_made : Made s m s.root → ⊥
  root_made made = made.0 o.ground.root_is.0

  -- the root block stays
  root_apart : Touched s m t.tag (MayZero (form_of t x.ways.generation x.ways.limit) t.size i s (leaves_of s t x.ways.kept.items x.ways.limit)) s.root → ⊥
  root_apart touched = ⊎_elim root_made (λ own. tag_other p (sym (root_tag o.ground) ∙ own.2 ∙ o.is.tag)) touched

  pub root_label : m.label s.root ≡ s.label s.root
  root_label = (o.changes.others s.root root_made).label

  pub entry_m : (m.now s.root).slot (slot_of p) ≡ Head (entry_of t x.ways.generation)
  entry_m = (o.changes.memory s.root root_apart).slots (slot_of p) ∙ o.is.entry

  pub root_pinned : m.pinned s.root
  root_pinned = (o.changes.others s.root root_made).marks.0 o.is.is_pinned

  pub root_current : (m.label s.root).epoch ≡ m.high
  root_current = ap (λ (l : Label). l.epoch) root_label ∙ o.ground.root_is.2 ∙ sym o.all.same_high

  pub root_has : HasEntry (m.label s.root).kind (slot_of p)
  root_has = subst (λ k. HasEntry k (slot_of p)) (sym (ap (λ (l : Label). l.kind) root_label ∙ o.ground.root_is.1)) (has_entry p)

  pub use_same : SameUse (Head (entry_of new y.ways.generation)) ((m.now s.root).slot (slot_of p))
  use_same = subst (λ q. SameUse (Head (entry_of new y.ways.generation)) q) (sym entry_m) (ap (λ (f : Form). f.generation) o.form, refl, same.dir, ap (λ (f : Form). f.tag) o.form)

  pub top_other : (b : ℕ) → new.top ≡ Local b → b ≢ s.root
  top_other b is here =
      let stands = (o.over.hangs.told o.later.told b is).0 in
      let at_root : m.stands b root_place = subst (λ z. m.stands z root_place) (o.all.same_root ∙ sym here) (root_stands o.later) in
      not_root new.dir new.depth (ap (λ (q : Place). q.kind) (o.later.one.each b (place (kind_at new.dir new.depth) new.tag 0 (new.rank + new.depth)) root_place stands at_root))

  levels : dropped ((m.now s.root).slot (slot_of p)) (Head (entry_of new y.ways.generation)) ≡ 0
  levels = ap (λ q. dropped q (Head (entry_of new y.ways.generation))) entry_m ∙ (let more = same.more in omega (arith, more))

  pub no_levels : (n : ℕ) → n < dropped ((m.now s.root).slot (slot_of p)) (Head (entry_of new y.ways.generation)) → ⊥
  no_levels n lt = let none = levels in omega (arith, none, lt)

  pub costs_none : cost ((m.now s.root).slot (slot_of p)) (Head (entry_of new y.ways.generation)) ≡ 0
  costs_none =
      let none = levels in
      let end : ends (target ((m.now s.root).slot (slot_of p))) new.top ≡ 0 = ap (λ q. ends (target ((m.now s.root).slot (slot_of p))) q) o.top.is ∙ ends_local (target ((m.now s.root).slot (slot_of p))) o.top.at in
      omega (arith, none, end)

  leaf_kind : (k a : ℕ) → block_at s t t.depth k ≡ Local a → (s.label a).kind ≡ kind_at t.dir 0
  leaf_kind k a is =
      let down = is_down s t o.ground.placed o.is.over.hangs o.ground.told t.depth k a (omega arith) is in
      let spot : Place = place (kind_down t t.depth) t.tag down.index (t.rank + (t.depth - t.depth)) in
      let ne : a ≢ 1 = λ one. not_root t.dir (t.depth - t.depth) (ap (λ (q : Place). q.kind) (o.ground.one.each a (place (kind_down t t.depth) t.tag down.index (t.rank + (t.depth - t.depth))) super_place down.stands (subst (λ z. s.stands z super_place) (sym one) o.ground.super_stands))) in
      (o.ground.labelled a (place (kind_down t t.depth) t.tag down.index (t.rank + (t.depth - t.depth))) ne down.stands).1 ∙ leaf_is t.dir t.depth

  entries_kept : KeepsEntries s m t new
  entries_kept = owned_entries {s = s} {u = m} {t = t} {new = new} {kept = x.ways.kept.items} {later = y.ways.kept.items} {limit = x.ways.limit} {generation = x.ways.generation} {i = i} {at = leaf} (record {
    over = o.is.over;
    all = o.all;
    told = o.ground.told;
    owned = subst (λ (l : ℕ). Owned (form_of t x.ways.generation x.ways.limit) t.size i leaf s m (leaves_of s t x.ways.kept.items x.ways.limit) (leaves_of m new y.ways.kept.items l)) (ap (λ (f : Form). f.limit) o.form) o.owned;
    changes = o.changes;
    clear = o.clear;
    held = o.over.held;
    leaf_kind = leaf_kind;
  })

  top_some : new.top ≢ Nil
  top_some e = local_nil o.top.at (sym o.top.is ∙ e)

  pub may_link : CanLink m new y.ways.generation s.root (slot_of p)
  may_link = subst (λ g. CanLink m new g s.root (slot_of p)) (sym (ap (λ (f : Form). f.generation) o.form)) (can_link {kept = x.ways.kept.items} {limit = x.ways.limit} (record {
    laws = o.laws;
    end = o.end;
    one_stays = o.one_stays;
    all = o.all;
    over = o.is.over;
    entry = entry_m;
    same = same;
    comes = o.comes;
    only = o.only top_some;
    others = record { made = λ b made. (o.changes.made b made).was.0; places = λ told b q not other free r stands. o.changes.places told b q not other free r stands; rooted = o.changes.rooted; in_tree = o.changes.in_tree };
    told = o.ground.told;
    linked = o.is.hangs;
    leaves = entries_kept;
  }))

  -- nothing comes in the place of another block once it is linked
  pub none_linked : {u : State} → ((z w : ℕ) → u.instead z w → m.instead z w × (new.top ≡ Local z → ⊥)) → NoneComes u
  none_linked instead = record {
    each = λ z w h.
        let was = instead z w h in
        ⊎_elim was.1 (λ old. o.is.hangs.none z w old.0) (o.only top_some z w was.0);
  }

pub room_same : (s m u n : ℕ) → m ≡ s → u + n ≡ m → n ≡ 0 → u ≡ s
room_same s m u n same used none = omega (arith, same, used, none)
