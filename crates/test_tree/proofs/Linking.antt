-- A source that hangs from the root block is opened, and looked at.
use Rattle.std.proofs.Common.{◌≡◌, ◌^◌, ℕ, true, false, [], Option, Some, None, IfSome, MatchOption, refl, sym, ◌∙◌, ap, subst, arith}
use Rattle.fo_image.specs.declared.types.Entry.{Entry}
use Rattle.fo_crash.specs.declared.slot.Slot.{Slot}
use Rattle.fo_crash.specs.declared.slot.Slot.TheVariants.{Entry as Head}
use Rattle.fo_crash.specs.Images.{Reaches}
use Rattle.fo_crash.proofs.Reach.{reaches_from, reaches_joins}
use Rattle.fo_ports.specs.State.{State, KeepsAll, Looks}
use Rattle.fo_tree_read.specs.declared.tree.Tree.{Tree}
use Rattle.fo_tree_look.specs.declared.ways.Ways.{Ways}
use Rattle.fo_tree_look.specs.Source.{IsPlainTree, Over}
use Rattle.fo_tree_open.specs.Open.{CanOpen, IsFit, tree_of}
use Rattle.fo_tree_open.proofs.Opened.{hangs_below}
use Rattle.fo_tree_link.specs.Link.{entry_of}
use Rattle.fo_tree_link.specs.Change.{HangsInTree}
use Rattle.fo_tree_shorten.specs.Shorten.{EntryAt}
use Rattle.test_tree.specs.Rig.{Stands}
use Rattle.test_tree.specs.Linked.{Ground, IsInMemory, NoneComes, Linked}
use Rattle.test_tree.proofs.Grounds.{root_has, root_reached, root_ranked, root_tag}

plain_tree : (e : Entry) → e.dir ≡ false → IsPlainTree (tree_of e 2112)
plain_tree e plain = subst (λ d. IsPlainTree (record (tree_of e 2112) { dir = d })) (sym plain) (refl, λ f. absurd (omega (arith, f)))

pub can_open : {s : State} → Ground s → NoneComes s → (e : Entry) → e.dir ≡ false → CanOpen s s.root 0 e 2112
can_open x comes e plain = record {
  in_tree = root_reached x;
  ranked = λ q stands. root_ranked x e.dir 2112 plain refl q stands;
  alone = λ y z h r. comes.each y z h;
  unheld = λ other. absurd (other (plain_tree e plain));
}

-- an entry in use is that of its source
entry_is : (e : Entry) (rank : ℕ) → e.active ≡ true → e ≡ entry_of (tree_of e rank) e.generation
entry_is e rank used = ap (λ a. record e { active = a }) used

entry_same : (t new : Tree) (g h : ℕ) → new ≡ t → h ≡ g → entry_of new h ≡ entry_of t g
entry_same t new g h is same = ap (λ (y : Tree). entry_of y h) is ∙ ap (λ n. entry_of t n) same

-- what its entry in the root block leads to hangs from there
hangs_here : {s : State} → Ground s → NoneComes s → (t : Tree) (g : ℕ) → (s.now s.root).slot 0 ≡ Head (entry_of t g) → t.dir ≡ false → t.rank ≡ 2112 → HangsInTree s t s.root 0
hangs_here {s = s} x comes t g is plain rank = record {
  in_tree = root_reached x;
  ranked = λ q stands. root_ranked x t.dir t.rank plain rank q stands;
  owned = λ b has. reaches_joins (root_reached x) (reaches_from 0 (subst (λ (w : Slot). Reaches s.now w b) (sym is) (hangs_below s t (Head (entry_of t g)) refl has.down has.index b has.is)));
  none = comes.each;
}

pub linked_of : {s : State} → Ground s → NoneComes s → (e : Entry) (o : Option Ways) → s.pinned s.root → (s.now s.root).slot 0 ≡ Head e → e.dir ≡ false
    → MatchOption o (IsFit e 40 (2 ^ 40) → ⊥) (λ w. IsFit e 40 (2 ^ 40)) → IfSome o (λ w. (w.tree ≡ tree_of e 2112) × (w.generation ≡ e.generation) × (w.limit ≡ 2 ^ 40) × (w.kept.items ≡ []))
    → IfSome o (λ w. Over s w.tree w.kept.items w.limit) → IfSome o (Linked s)
linked_of x comes e None pinned here plain fits is over = tt
linked_of {s = s} x comes e (Some w) pinned here plain fits is over =
    let entry : (s.now s.root).slot 0 ≡ Head (entry_of w.tree w.generation) = here ∙ ap (λ (a : Entry). Head a) (entry_is e 2112 fits.used ∙ sym (entry_same (tree_of e 2112) w.tree e.generation w.generation is.0 is.1)) in
    let dir : w.tree.dir ≡ false = ap (λ (t : Tree). t.dir) is.0 ∙ plain in
    let rank : w.tree.rank ≡ 2112 = ap (λ (t : Tree). t.rank) is.0 in
    record {
      over = over;
      plain = dir;
      tag = ap (λ (t : Tree). t.tag) is.0 ∙ fits.tagged;
      rank = rank;
      wide = is.2;
      is_pinned = pinned;
      entry = entry;
      hangs = hangs_here x comes w.tree w.generation entry dir rank;
    }

pub linked_looks : {s u : State} (w z : Ways) → Ground u → KeepsAll s u → s.tells → Looks s u → NoneComes u → z.tree ≡ w.tree → z.generation ≡ w.generation → z.limit ≡ w.limit → Over u z.tree z.kept.items z.limit → Linked s w → Linked u z
linked_looks {s = s} {u = u} w z ground all told looks comes same generation limit over was =
    let dir : z.tree.dir ≡ false = ap (λ (t : Tree). t.dir) same ∙ was.plain in
    let rank : z.tree.rank ≡ 2112 = ap (λ (t : Tree). t.rank) same ∙ was.rank in
    let entry : (u.now u.root).slot 0 ≡ Head (entry_of z.tree z.generation) =
    ap (λ b. (u.now b).slot 0) all.same_root ∙ ((looks.memory told).each s.root).slots 0 ∙ was.entry ∙ ap (λ (a : Entry). Head a) (sym (entry_same w.tree z.tree w.generation z.generation same generation)) in
    record {
      over = over;
      plain = dir;
      tag = ap (λ (t : Tree). t.tag) same ∙ was.tag;
      rank = rank;
      wide = limit ∙ was.wide;
      is_pinned = subst (λ b. u.pinned b) (sym all.same_root) ((looks.stays.marks s.root (λ n. n)).0 was.is_pinned);
      entry = entry;
      hangs = hangs_here ground comes z.tree z.generation entry dir rank;
    }

tag_other : (tag : ℕ) → tag ≡ 1 → tag ≡ 40 → ⊥
tag_other tag one forty = omega (arith, one, forty)

pub entry_at : {s : State} → Ground s → IsInMemory s → (w : Ways) → Linked s w → EntryAt s w.tree w.generation s.root 0
entry_at x memory w l = record {
  is = l.entry;
  is_pinned = l.is_pinned;
  live = x.root_is.0;
  current = x.root_is.2;
  apart = λ e. tag_other _ (root_tag x) (e ∙ l.tag);
  leaf = root_has x;
  settled = λ h. memory.quiet _ _ h;
}

pub stands_linked : (s : State) (w : Ways) → Linked s w → Stands s w
stands_linked s w l = record { over = l.over; plain = l.plain; rank = l.rank; wide = l.wide }
