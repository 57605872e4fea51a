-- A record whose pair was not found in all of its directory's entries has none.
use Rattle.std.proofs.Common.{◌≡◌, ⊎_elim, inl, ℕ, ◌+◌, ◌*◌, ◌/◌, ◌%◌, ◌^◌, ◌<◌, ◌≤◌, Bool, true, false, List, [], ◌∷◌, ◌++◌, length, append-nil, get_or, Option, Some, None, refl, sym, ap, ◌∙◌, subst, arith}
use Rattle.std.specs.Prelude.{◌||◌, cond}
use Rattle.std.specs.List.{Any, AllByRecursion}
use Rattle.std.proofs.lemmas.Bool.{cases_lt, false≢true}
use Rattle.fo_image.specs.declared.types.Kind.{Kind}
use Rattle.fo_image.specs.declared.types.Kind.TheVariants.{Data, Dir}
use Rattle.fo_image.specs.declared.types.Score.{Score}
use Rattle.fo_image.specs.declared.types.Pointer.{Pointer}
use Rattle.fo_image.specs.declared.types.Pointer.TheVariants.{Nil, Local, Score as Held}
use Rattle.fo_image.specs.declared.record.Record.{Record}
use Rattle.fo_crash.specs.Images.{Content, Image, Arena, Link, target, meant, found, goes, leaf_path, depth_of, kind_below, kind_of_top, nothing, step as link_below, entry_of as entry_at}
use Rattle.fo_good.specs.Trees.{IsFirst, IsSecond, HasPair, Lists, size_of}
use Rattle.fo_good.specs.Trees.IsDir.{below as dir_below}
use Rattle.fo_good.specs.Sound.{Kept}
use Rattle.fo_check_names.specs.Names.{IsUnpaired, slot_of}
use Rattle.fo_check_names.specs.declared.names.Named.{Named}
use Rattle.fo_check_tree.specs.declared.broken.Broken.{Broken}
use Rattle.fo_check_tree.specs.declared.walk.Folder.{Folder}
use Rattle.fo_check_tree.specs.declared.walk.Holds.{Holds}
use Rattle.fo_check_tree.specs.Slots.{top_step}
use Rattle.fo_check_tree.specs.Answer.{HasSlotTwice, LacksPair, BreaksPairs, NamesPairs}
use Rattle.fo_check_tree.specs.Answer.BreaksPairs.{twice}
use Rattle.fo_check_tree.specs.Dirs.{link_at}
use Rattle.fo_check_tree.specs.Listing.{NotesSlots}
use Rattle.fo_check_tree.specs.Lower.{level}
use Rattle.fo_check_tree.specs.Notes.{KeepsPairs, NotesLeaf}
use Rattle.fo_check_tree.specs.Pairing.{IsListedAt, IsHeadOf, AreInOrder, AreSought, IsAsked, AreAsked, AreHidden, IsLedBy, AreLed, GrowsUnnamed, IsOfDir, HasHeads}
use Rattle.fo_check_tree.proofs.Directories.{leaf_kind}
use Rattle.fo_check_tree.proofs.Leaves.{all_join, all_by, all_front, all_back}
use Rattle.fo_check_tree.proofs.Noting.{lowered_from}
use Rattle.fo_check_tree.proofs.Paths.{goes_end, found_is}

-- ---- one record

module _ (arena : Arena) (image : Image) (empty : (kind : Kind) (score : Score) → arena kind score ≡ nothing) (k : Kept) (entries meta : Link) where
  -- the leaf of an entry that is the first of a pair
  pub in_block : (w : Link) (i : ℕ) (r : Record) → IsFirst ((found arena image w).slot i) r → (at : ℕ) × (target w.slot ≡ Local at)
  in_block w i r h = by (target w.slot) refl
    where
      by : (p : Pointer) → target w.slot ≡ p → (at : ℕ) × (target w.slot ≡ Local at)
      by Nil e = absurd (subst (λ (p : Pointer). IsFirst ((meant arena image w.kind p).slot i) r) e h)
      by (Held x) e = absurd (subst (λ (c : Content). IsFirst (c.slot i) r) (empty w.kind x) (subst (λ (p : Pointer). IsFirst ((meant arena image w.kind p).slot i) r) e h))
      by (Local a) e = (a, e)

  module _ (kind : entries.kind ≡ Dir (depth_of entries.slot)) (room : size_of entries.slot ≤ 8192 * 409 ^ depth_of entries.slot) where
    pub end_is : (j : ℕ) → entry_at arena image entries j ≡ link_below arena image (goes arena image entries (leaf_path entries.slot (j / 204))) (j % 204)
    end_is j = goes_end arena image (leaf_path entries.slot (j / 204)) entries (j % 204)

    here_is : (j at : ℕ) → target ((goes arena image entries (leaf_path entries.slot (j / 204))).slot) ≡ Local at → entry_at arena image entries j ≡ link_at image at (j % 204)
    here_is j at leads =
        let w : Link = goes arena image entries (leaf_path entries.slot (j / 204)) in
        end_is j
        ∙ ap (λ (d : Kind). record { kind = kind_below d ((found arena image w).slot (j % 204)); slot = (found arena image w).slot (j % 204) }) (leaf_kind arena image empty (j / 204) entries kind)
        ∙ ap (λ (c : Content). record { kind = kind_of_top (c.slot (j % 204)); slot = c.slot (j % 204) }) (found_is arena image w at leads)

    at_index : (j n at : ℕ) → j / 204 ≡ n → target ((goes arena image entries (leaf_path entries.slot n)).slot) ≡ Local at → target ((goes arena image entries (leaf_path entries.slot (j / 204))).slot) ≡ Local at
    at_index j n at e leads = ap (λ (m : ℕ). target ((goes arena image entries (leaf_path entries.slot m)).slot)) e ∙ leads

    module _ (named : List Named) (asked : AreAsked arena image entries [] named) (i : ℕ) (x : Named) (lt : i < length named) (is : get_or named i x ≡ x) (h : HasPair arena image entries x.listed) where
      abbrev pair : ℕ
      pair = x.listed.slot

      first_block : (at : ℕ) × (target ((goes arena image entries (leaf_path entries.slot (2 * pair / 204))).slot) ≡ Local at)
      first_block = in_block (goes arena image entries (leaf_path entries.slot (2 * pair / 204))) (2 * pair % 204) x.listed (subst (λ (u : Link). IsFirst u.slot x.listed) (end_is (2 * pair)) h.first)

      abbrev at : ℕ
      at = first_block.0

      leads : target ((goes arena image entries (leaf_path entries.slot (pair / 102))).slot) ≡ Local first_block.0
      leads = let e : pair / 102 ≡ 2 * pair / 204 = omega arith in ap (λ (m : ℕ). target ((goes arena image entries (leaf_path entries.slot m)).slot)) e ∙ first_block.1

      first_is : IsFirst ((image first_block.0).slot (2 * (pair % 102))) x.listed
      first_is =
          let e : 2 * pair % 204 ≡ 2 * (pair % 102) = omega arith in
          subst (λ (n : ℕ). IsFirst ((image first_block.0).slot n) x.listed) e (subst (λ (u : Link). IsFirst u.slot x.listed) (here_is (2 * pair) first_block.0 first_block.1) h.first)

      second_is : IsSecond ((image first_block.0).slot (2 * (pair % 102) + 1)) x.listed
      second_is =
          let e : (2 * pair + 1) % 204 ≡ 2 * (pair % 102) + 1 = omega arith in
          let n : (2 * pair + 1) / 204 ≡ pair / 102 = omega arith in
          subst (λ (m : ℕ). IsSecond ((image first_block.0).slot m) x.listed) e (subst (λ (u : Link). IsSecond u.slot x.listed) (here_is (2 * pair + 1) first_block.0 (at_index (2 * pair + 1) (pair / 102) first_block.0 n leads)) h.second)

      few : pair / 102 < 409 ^ depth_of entries.slot
      few = let within : 8192 * (pair / 102) < size_of entries.slot = h.within in omega (arith, within, room)

      was_asked : IsAsked image (pair / 102) first_block.0 named
      was_asked = ⊎_elim (λ (no' : ⊥). absurd no') (λ (z : IsAsked image (pair / 102) first_block.0 named). z) (asked.whole (pair / 102) first_block.0 few leads)

      -- It was found, or missed.
      pub was_seen : (x.found || x.missed) ≡ true
      was_seen =
          let lt' : pair % 102 < 102 = omega arith in
          let number : pair ≡ pair / 102 * 102 + pair % 102 = omega arith in
          sym (ap (λ (y : Named). y.found || y.missed) is) ∙ was_asked.each (pair % 102) lt' i x lt (ap (λ (y : Named). slot_of y) is ∙ number)
          (subst (λ (y : Named). IsFirst ((image first_block.0).slot (2 * (pair % 102))) y.listed) (sym is) first_is)
          (subst (λ (y : Named). IsSecond ((image first_block.0).slot (2 * (pair % 102) + 1)) y.listed) (sym is) second_is)

    -- A record that is in a directory's list and was not found has no pair.
    pub lacking : (before old : Option Broken) (folders : List Folder) (names named : List Named) → AreInOrder arena image k meta true before names → AreSought arena image entries names old [] named folders → AreAsked arena image entries [] named → (size : ℕ) → size ≡ size_of entries.slot
        → (block : ℕ) → Any (IsUnpaired size block) named → LacksPair arena image entries meta block
    lacking before old folders names named o a asked size size_is block (i, x, lt, is, u) =
        let same : x.listed ≡ (get_or names i x).listed = sym (ap (λ (y : Named). y.listed) is) ∙ a.same.each i x lt in
        let leaf_is : x.leaf ≡ (get_or names i x).leaf = sym (ap (λ (y : Named). y.leaf) is) ∙ a.same.leaves i x lt in
        let p : IsListedAt arena image meta (o.place i) (get_or names i x) = o.places i x (omega (arith, lt, a.same.long)) in
        record {
          leaf = p.leaf;
          place = o.place i;
          one = x.listed;
          lists = subst (λ (r : Record). Lists arena image meta p.leaf (o.place i) r) (sym same) p.lists;
          lacks = λ h.
              let within : 8192 * (x.listed.slot / 102) < size_of entries.slot = h.within in
              u.unpaired (record { found = was_seen named asked i x lt is h; within = omega (arith, within, size_is) });
          leads = p.leads ∙ ap (λ (n : ℕ). Local n) (sym leaf_is ∙ u.leaf_is);
        }

-- ---- what is noted of one directory

module _ (arena : Arena) (image : Image) (k : Kept) where
  pub names_kept : (old new : Option Broken) → KeepsPairs old new → NamesPairs arena image k old → NamesPairs arena image k new
  names_kept old new v n = record { each = λ b e six. n.each b (v.same b e six) six }

  -- Pairs that stand twice were noted.
  pub names_slots : (f : Folder) (old new : Option Broken) → (6 < level old → IsOfDir arena image k f) → ((meta entries : Link) → IsHeadOf entries meta f → NotesSlots arena image meta old new) → (level old ≤ 6 → KeepsPairs old new) → NamesPairs arena image k old → NamesPairs arena image k new
  names_slots f old new dir slots low n = record {
    each = λ b e six. ⊎_elim
        (λ (above : 6 < level old).
        let d : IsOfDir arena image k f = dir above in
        ⊎_elim
        (λ (before : old ≡ Some b). n.each b before six)
        (λ (h : (6 < level old) × HasSlotTwice arena image d.meta b.block). twice d.trail d.entries d.meta b.block d.dir h.1)
        ((slots d.meta d.entries d.head).each b e six))
        (λ (below : level old ≤ 6). n.each b ((low below).same b e six) six)
        (cases_lt 6 (level old));
  }

  -- Records that lack their pairs were noted.
  pub names_lacking : (old new : Option Broken) (alone : Option ℕ) → NotesLeaf 6 alone old new → ((block : ℕ) → 6 < level old → alone ≡ Some block → BreaksPairs arena image k block) → NamesPairs arena image k old → NamesPairs arena image k new
  names_lacking old new None noted breaks n = record { each = λ b e six. n.each b (sym noted ∙ e) six }
  names_lacking old new (Some leaf) noted breaks n = record {
    each = λ b e six. ⊎_elim
        (λ (before : old ≡ Some b). n.each b before six)
        (λ (now : (6 < level old) × (6 ≡ b.rule) × (leaf ≡ b.block)). subst (λ (at : ℕ). BreaksPairs arena image k at) now.2 (breaks leaf now.0 refl))
        (lowered_from old 6 leaf (omega arith) b (sym noted ∙ e));
  }

  -- ---- folders

  abbrev pub Heads : Folder → Type 0
  Heads f = f.named ≡ true → IsOfDir arena image k f

  pub heads_unnamed : (old new : List Folder) → GrowsUnnamed old new → AllByRecursion Heads old → AllByRecursion Heads new
  heads_unnamed old new g a = subst (λ (fs : List Folder). AllByRecursion Heads fs) (sym g.is)
      (all_join Heads old g.added a (all_by (λ (f : Folder). f.named ≡ false) Heads (λ f isnt is. absurd (false≢true (sym isnt ∙ is))) g.added g.each))

  -- The folders that records of a directory lead to are of directories.
  pub heads_led : (f : Folder) (d : IsOfDir arena image k f) (before noted : Option Broken) (names : List Named) → AreInOrder arena image k d.meta true before names → (old new : List Folder) → AreLed arena image d.entries names noted old new → 5 < level noted → AllByRecursion Heads old → AllByRecursion Heads new
  heads_led f d before noted names o old new l quiet a = subst (λ (fs : List Folder). AllByRecursion Heads fs) (sym l.is)
      (all_join Heads old l.added a (all_by (λ (g : Folder). g.named ≡ true → IsLedBy arena image d.entries names g) Heads (λ g h is. of_dir g (h is)) l.added (l.each quiet)))
    where
      of_dir : (g : Folder) → IsLedBy arena image d.entries names g → IsOfDir arena image k g
      of_dir g h =
          let x : Named = record { listed = h.has; leaf = 0; found = false; missed = false } in
          let p : IsListedAt arena image d.meta (o.place h.listed.at) (get_or names h.listed.at x) = o.places h.listed.at x h.listed.within in
          record {
            trail = d.trail ++ h.has.slot ∷ [];
            entries = entry_at arena image d.entries (2 * h.has.slot);
            meta = entry_at arena image d.entries (2 * h.has.slot + 1);
            dir = dir_below d.trail d.entries d.meta p.leaf (o.place h.listed.at) h.has d.dir (subst (λ (r : Record). Lists arena image d.meta p.leaf (o.place h.listed.at) r) (h.listed.is x) p.lists) h.dir;
            head = h.head;
          }

  pub heads_open : (noted : Option Broken) (all rest : List Folder) (f : Folder) → all ≡ rest ++ f ∷ [] → HasHeads arena image k noted all → (6 < level noted → Heads f) × HasHeads arena image k noted rest
  heads_open noted all rest f is h =
      let both : 6 < level noted → AllByRecursion Heads (rest ++ f ∷ []) = λ above. subst (λ (fs : List Folder). AllByRecursion Heads fs) is (h.heads above) in
      (λ above. (all_back Heads rest (f ∷ []) (both above)).0, record { pairs = h.pairs; heads = λ above. all_front Heads rest (f ∷ []) (both above) })

-- ---- before any entry was read

pub asked_first : (arena : Arena) (image : Image) (entries meta : Link) (f : Folder) → IsHeadOf entries meta f → (holds : Holds) (named : List Named) → AreAsked arena image entries (top_step f.entries holds f.holder ∷ []) named
asked_first arena image entries meta f h holds named =
    let deep : depth_of entries.slot ≡ f.entries.depth = ap depth_of h.slot in
    record {
      whole = λ index at few leads. inl (inl (record {
        source = record {
          path = [];
          level = f.entries.depth;
          kind = ap (λ (d : Bool). cond d (Dir f.entries.depth) (Data f.entries.depth)) h.dir;
          pointer = sym (ap target h.slot);
          depth = omega (arith, deep);
          index = λ more. refl;
          few = omega arith;
        };
        more = leaf_path entries.slot index;
        is = refl;
      }));
    }

pub led_first : (arena : Arena) (image : Image) (entries : Link) (names : List Named) (noted : Option Broken) (folders : List Folder) → AreLed arena image entries names noted folders folders
led_first arena image entries names noted folders = record { added = []; is = sym (append-nil folders); each = λ quiet. tt }

pub hidden_first : (arena : Arena) (image : Image) (k : Kept) (entries : Link) (names : List Named) → ((i : ℕ) (d : Named) → i < length names → (get_or names i d).missed ≡ false) → AreHidden arena image k entries names
hidden_first arena image k entries names none = record { each = λ i d lt is few. absurd (false≢true (sym (none i d lt) ∙ is)) }
