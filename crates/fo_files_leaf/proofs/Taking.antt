-- A source takes in a leaf behind its end.
use Rattle.std.proofs.Common.{◌^◌, List, ◌≡◌, ◌≢◌, ◌+◌, ◌*◌, ◌<◌, ◌≤◌, ℕ, inl, inr, ⊎_elim, sym, ap, subst, ◌∙◌, arith}
use Rattle.std.proofs.lemmas.Bool.{cases_eq}
use Rattle.fo_image.specs.declared.types.Entry.{Entry}
use Rattle.fo_image.specs.declared.types.Pointer.TheVariants.{Local}
use Rattle.fo_crash.specs.declared.slot.Slot.TheVariants.{Entry as Head}
use Rattle.fo_crash.specs.Steps.{PutsSlot}
use Rattle.fo_ports.specs.State.{State, KeepsAll, KeepsOrder, Frame, Rests, StaysKnown, none}
use Rattle.fo_ports.specs.Sources.{depth_for}
use Rattle.fo_tree.specs.declared.source.Source.{Source}
use Rattle.fo_tree_read.specs.declared.tree.Tree.{Tree}
use Rattle.fo_tree_look.specs.declared.ways.Kept.{Kept}
use Rattle.fo_tree_look.specs.Source.{Over}
use Rattle.fo_tree_shorten.specs.of_tree_link.Link.{entry_of}
use Rattle.fo_tree_shorten.specs.Shorten.{EntryAt}
use Rattle.fo_tree_shorten.proofs.Entries.{entry_cut}
use Rattle.fo_tree_shorten.proofs.of_tree_trim.Least.{room_for}
use Rattle.fo_files_leaf.specs.Alters.{Alters}
use Rattle.fo_files_leaf.specs.declared.open.LeafOf.{LeafOf}
use Rattle.fo_files_leaf.specs.Leaf.{IsAbove, IsEntryIn, IsFor, TakesIn}
use Rattle.fo_files_leaf.proofs.Altering.{known_of, not_made, same_use, slot_stays}
use Rattle.fo_files_leaf.proofs.Prepared.{top_prepared}

-- the tree of a source of another length
abbrev pub of_length : Tree → ℕ → Tree
of_length t z = record t { size = z }

-- a source stands over its blocks where it ends later, and has as many levels then
pub over_longer : (s : State) (t : Tree) (kept : List Kept) (limit z : ℕ) → (s.tells → ⊥) → Over s t kept limit → t.size < z → t.depth ≡ depth_for z → z ≤ limit → Over s (of_length t z) kept limit
over_longer s t kept limit z silent over longer least within =
    let low = over.low in
    record {
      hangs = record {
        few = over.hangs.few;
        room = subst (λ d. z ≤ 8192 * 409 ^ d) (sym least) (room_for z (omega (arith, within, low)));
        low = over.hangs.low;
        is_one = over.hangs.is_one;
        told = λ told. absurd (silent told);
        rooted = λ told. absurd (silent told);
      };
      least = least;
      within = within;
      low = low;
      empty = λ none. absurd (omega (arith, longer, none));
      holds = over.holds;
      free = λ told. absurd (silent told);
      told = λ told. absurd (silent told);
      unheld = λ told. absurd (silent told);
      held = over.held;
    }

-- the top of a source that is prepared is not the block with its entry
pub top_apart : (s : State) (x : Source) (i at j : ℕ) → IsFor s x i → EntryAt s x.ways.tree x.ways.generation at j → (b : ℕ) → x.ways.tree.top ≡ Local b → b ≢ at
top_apart s x i at j is e b top here =
    let ready = top_prepared s x.ways.tree x.ways.kept.items x.ways.limit i b is.over is.prepared top in
    e.apart (sym (ap (λ n. (s.label n).tag) here) ∙ ready.tagged)

head_same : (a b : Entry) → Head a ≡ Head b → a ≡ b
head_same a b e = cc

-- the entry with the other length was put
module _ {s u : State} {t : Tree} {generation at j n : ℕ} {put : ℕ → Type 0} (z : ℕ) (e : EntryAt s t generation at j) (now : PutsSlot at j (Head (entry_of (of_length t z) generation)) s.now u.now) (frame : Frame (λ b. b ≡ at) put n s u) (order : KeepsOrder none s u) where
  label_u : (c : ℕ) → u.label c ≡ s.label c
  label_u c = frame.stays.labels c (λ h. h)

  pub length_alters : Alters at (λ k. k ≡ j) (λ x. x ≡ t.tag) (IsAbove t.tag t.dir) none s u
  length_alters = record {
    labels = λ c not. label_u c;
    marks = λ c not. let marks = frame.stays.marks c (λ h. h) in (marks.0, marks.1);
    made = λ c made. absurd (not_made s u c (label_u c) made);
    known = λ c is not not_put. known_of (record { bytes = now.bytes c; slots = λ k. now.others c k (inl (λ here. not_put (inl here))) }) (λ k h. order.goes_on c k (λ no. no) h);
    bytes = now.bytes at;
    others = λ k ne. inl (now.others at k (inr ne), λ h. order.goes_on at k (λ no. no) h);
    uses = λ k still. ⊎_elim
        (λ here f is. let was = head_same f (entry_of t generation) (sym is ∙ ap (λ q. (s.now at).slot q) here ∙ e.is) in (
          entry_of (of_length t z) generation,
          ap (λ q. (u.now at).slot q) here ∙ now.here,
          sym (ap (λ (q : Entry). q.generation) was),
          sym (ap (λ (q : Entry). q.active) was),
          sym (ap (λ (q : Entry). q.dir) was),
          sym (ap (λ (q : Entry). q.tag) was),
        ))
        (λ ne. same_use s u at k (now.others at k (inr ne)))
        (cases_eq k j);
    clearing = λ c k h. (λ made. not_made s u c (label_u c) made, (order.clearing c k h).1);
    usable = let spare = frame.uses.spare in let usable = frame.uses.usable in omega (arith, spare, usable);
    numbers = frame.numbers;
  }

-- a source's entry stands where it stood, over a settling
pub entry_rests : {s u : State} {t : Tree} {generation at j : ℕ} → EntryAt s t generation at j → KeepsAll s u → Rests s u → ((b : ℕ) → s.pinned b → StaysKnown s u b) → ((b : ℕ) → (u.label b ≡ s.label b) × (s.pinned b → u.pinned b) × (s.sealed b → u.sealed b)) → EntryAt u t generation at j
entry_rests {s = s} {u = u} {at = at} {j = j} e all rests known blocks = entry_cut e all (blocks at).0 (slot_stays s u at j e.settled ((known at e.is_pinned).slots j)) (blocks at).1 (rests.order at j)

-- a source took a leaf in whose entry stands where the shorter one's stood
pub taken_in : (s u : State) (w : LeafOf) (x y : Source) → IsEntryIn s x w.at w.slot → x.ways.tree.size < 8192 * (w.leaf + 1) → y.ways.tree ≡ of_length x.ways.tree (8192 * (w.leaf + 1)) → y.ways.generation ≡ x.ways.generation → EntryAt u y.ways.tree y.ways.generation w.at w.slot → TakesIn s u w
taken_in s u w x y entry short tree generation at = record {
  source = x;
  entry = entry;
  short = short;
  longer = subst (λ g. EntryAt u (of_length x.ways.tree (8192 * (w.leaf + 1))) g w.at w.slot) generation (subst (λ t. EntryAt u t y.ways.generation w.at w.slot) tree at);
}
