-- A source that hangs from its entry.
use Rattle.std.proofs.Common.{◌≡◌, ◌+◌, ◌-◌, ℕ, Bool, true, false, List, inl, refl, sym, ◌∙◌, ap, subst, arith}
use Rattle.fo_image.specs.declared.types.Kind.TheVariants.{Dir}
use Rattle.fo_crash.specs.declared.slot.Slot.{Slot}
use Rattle.fo_crash.specs.declared.slot.Slot.TheVariants.{Entry as Head}
use Rattle.fo_crash.specs.declared.place.Place.{Place}
use Rattle.fo_crash.specs.Images.{Reaches}
use Rattle.fo_crash.specs.Places.{place, super_place}
use Rattle.fo_ports.specs.State.{State, KeepsAll}
use Rattle.fo_tree_read.specs.declared.tree.Tree.{Tree}
use Rattle.fo_tree_read.specs.Tree.{kind_at, kind_down}
use Rattle.fo_tree_read.proofs.Walk.{is_down}
use Rattle.fo_tree_look.specs.declared.ways.Kept.{Kept}
use Rattle.fo_tree_look.specs.Source.{HasBlock, Over}
use Rattle.fo_tree_look.proofs.Still.{Says}
use Rattle.fo_tree_down.proofs.of_tree_own.Link.{Laws}
use Rattle.fo_tree_link.specs.Link.{entry_of, CanLink}
use Rattle.fo_tree_link.specs.Change.{HangsInTree}
use Rattle.fo_tree_link.proofs.Named.{leaf_not_root}
use Rattle.fo_tree_link.proofs.May.{Linking, all_own}
use Rattle.fo_tree_link.proofs.Changed.{can_link}

-- a block of a source of data is no leaf of entries
data_apart : (dir : Bool) (level : ℕ) → dir ≡ false → kind_at dir level ≡ Dir 0 → ⊥
data_apart false level plain e = cc
data_apart true level plain e = absurd (let h = plain in cc)

-- A source hangs from its entry, over a device that tells.
pub record Linked (s : State) (t : Tree) (kept : List Kept) (limit generation at i : ℕ) : Type 0 where
  pub linking : Linking s t kept limit generation at i
  pub says : Says s
  pub told : s.tells
  pub entry : (s.now at).slot i ≡ Head (entry_of t generation)
  pub linked : HangsInTree s t at i

module _ {s : State} {t : Tree} {kept : List Kept} {limit generation at i : ℕ} (x : Linked s t kept limit generation at i) where
  kind_is : (b : ℕ) → (has : HasBlock s t b) → (s.label b).kind ≡ kind_down t has.down
  kind_is b has =
      let down = is_down s t x.says.placed x.linking.over.hangs x.told has.down has.index b has.within has.is in
      let there = place (kind_down t has.down) t.tag down.index (t.rank + (t.depth - has.down)) in
      x.says.labelled b there
      (λ one. leaf_not_root t.dir (t.depth - has.down) (ap (λ (p : Place). p.kind) (x.says.one.each 1 there super_place (subst (λ y. s.stands y there) one down.stands) x.says.super_stands)))
      down.stands

  -- what its entry has hangs from the slot
  pub from_entry : (b : ℕ) → Reaches s.now ((s.now at).slot i) b → Reaches s.now (Head (entry_of t generation)) b
  from_entry b r = subst (λ (q : Slot). Reaches s.now q b) x.entry r

  -- no slot of a source of data waits
  pub none_waits : t.dir ≡ false → (b j : ℕ) → s.clearing b j → Reaches s.now ((s.now at).slot i) b → ⊥
  none_waits plain b j waits r =
      let has = all_own x.linking x.told plain b (from_entry b r) in
      data_apart t.dir (t.depth - has.down) plain (sym (kind_is b has) ∙ (x.linking.laws.clears b j waits).0)

-- a source that is linked may be linked as it is
pub same_link : {s : State} {t : Tree} {kept : List Kept} {limit generation at i : ℕ} → Laws s → (s.covered 1 → ⊥) → KeepsAll s s → Over s t kept limit → (s.now at).slot i ≡ Head (entry_of t generation) → s.tells → HangsInTree s t at i → CanLink s t generation at i
same_link {s = s} {t = t} {kept = kept} {limit = limit} laws one_stays all over entry told linked = can_link {s = s} {u = s} {t = t} {new = t} {kept = kept} {limit = limit} (record {
  laws = laws;
  end = laws;
  one_stays = one_stays;
  all = all;
  over = over;
  entry = entry;
  same = record { dir = refl; rank = refl; more = omega arith };
  comes = λ from h. h;
  only = λ y z h. absurd (linked.none y z h);
  others = record {
    made = λ b made. absurd (made.0 made.1);
    places = λ tells b p not_made other free r stands. stands;
    rooted = λ tells b not_made r. r;
    in_tree = λ tells b other r. r;
  };
  told = told;
  linked = linked;
  leaves = record { each = λ dir k a is. inl (k, a, is, λ j. refl) };
})
