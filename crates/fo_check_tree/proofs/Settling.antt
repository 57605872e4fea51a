-- The directories to which names lead: each is left or has its pairs.
use Rattle.std.proofs.Common.{◌≡◌, ◌⊎◌, ⊎_elim, inl, inr, ℕ, ◌+◌, ◌*◌, ◌/◌, ◌<◌, ◌≤◌, Bool, true, false, map, ◌^◌, List, [], ◌∷◌, ◌++◌, IsPermutation, Option, Some, None, MatchOption, refl, sym, ap, ◌∙◌, subst, arith}
use Rattle.std.specs.List.{AllByRecursion}
use Rattle.std.proofs.lemmas.Bool.{false≢true}
use Rattle.std.proofs.lemmas.List.Sorted.{IsPermutation-sym}
use Rattle.std.specs.List.Sorted.{IsNonDecreasingBy}
use Rattle.fo_image.specs.declared.types.Kind.{Kind}
use Rattle.fo_image.specs.declared.types.Score.{Score}
use Rattle.fo_image.specs.declared.record.Record.{Record}
use Rattle.fo_crash.specs.Images.{Image, Arena, Link, nothing, from_block, step as link_below, entry_of as entry_at}
use Rattle.fo_world.specs.Step.{is_dir_mode}
use Rattle.fo_good.specs.Trees.{Lists, HasPair}
use Rattle.fo_check_tree.specs.Answer.IsOwnDir.{top as dir_top, below as dir_below}
use Rattle.fo_good.specs.Sound.{Kept}
use Rattle.fo_check_names.specs.Names.{slot_of, leaf_of, Differ, IsTwice, number_in}
use Rattle.fo_check_names.specs.declared.names.Named.{Named}
use Rattle.fo_check_names.specs.declared.names.Number.{Number}
use Rattle.fo_check_names.proofs.Moved.{moved, differ_before, twice_before}
use Rattle.fo_check_tree.specs.declared.broken.Broken.{Broken}
use Rattle.fo_check_labels.specs.declared.labels.Known.{Known}
use Rattle.fo_check_tree.specs.declared.walk.Folder.{Folder}
use Rattle.fo_check_tree.specs.Answer.{StandsAlone, IsOwnDir, HasSlotTwice}
use Rattle.fo_check_tree.specs.Listing.{SomeOf, IsListing, NotesSlots}
use Rattle.fo_check_tree.specs.Lower.{level}
use Rattle.fo_check_tree.specs.Notes.{KeepsPairs, NotesLeaf}
use Rattle.fo_check_tree.specs.Pairing.{IsHeadOf, IsApart, IsListedAt, AreInOrder, Settles, Grows, IsLeft, HasOwnPairs, Counted, IsCounted, AreCounted, AreSettled}
use Rattle.fo_check_tree.specs.Pairing.IsLeft.{here, below}
use Rattle.fo_check_tree.proofs.Leaves.{some_left, some_parts}
use Rattle.fo_check_tree.proofs.Levels.{level-lower}
use Rattle.fo_check_tree.proofs.Naming.{fresh, unmissed, is_named, own_slots, slot_twice, spot, stands, stand_apart}
use Rattle.fo_check_tree.proofs.Noting.{lowered_from}

-- ---- one directory

pub quiet_leaf : (rule : ℕ) → rule < 2 ^ 8 → (o : Option ℕ) (old new : Option Broken) → NotesLeaf rule o old new → rule < level new → (P : Type 0) (R : ℕ → Type 0) → MatchOption o P R → P
quiet_leaf rule fits None old new is quiet P R m = m
quiet_leaf rule fits (Some leaf) old new is quiet P R m = absurd (omega (arith, quiet, (level-lower old rule leaf fits).1, ap level is))

pub none_apart : IsApart []
none_apart = record { sorted = λ i j d le lt. absurd (omega (arith, lt)); differ = λ i j d less lt e. omega (arith, lt) }

pub in_apart : (by_name by_slot : List Named) → IsPermutation by_name by_slot → IsNonDecreasingBy slot_of by_slot → (twice : Option ℕ) (old new : Option Broken) → MatchOption twice (Differ slot_of by_name) (IsTwice slot_of leaf_of by_name) → NotesLeaf 6 twice old new
    → 6 < level new → IsApart by_slot
in_apart by_name by_slot q sorted twice old new answer noted quiet =
    let d : Differ slot_of by_name = quiet_leaf 6 (omega arith) twice old new noted quiet (Differ slot_of by_name) (IsTwice slot_of leaf_of by_name) answer in
    let e : Differ slot_of by_slot = differ_before slot_of by_slot by_name (IsPermutation-sym by_name by_slot q) d in
    record { sorted = sorted; differ = λ i j x less lt same. e.each i j x less lt same }

module _ (arena : Arena) (image : Image) (k : Kept) (meta : Link) where
  in_order_moved : (lead : Bool) (noted : Option Broken) (xs ys : List Named) → IsPermutation xs ys → AreInOrder arena image k meta lead noted xs → AreInOrder arena image k meta lead noted ys
  in_order_moved lead noted xs ys p a = record {
    fresh = λ i d lt. let m = moved xs ys p in ap (λ (x : Named). x.found) (m.is i d lt) ∙ a.fresh (m.from i) d (m.within i lt);
    unmissed = λ i d lt. let m = moved xs ys p in ap (λ (x : Named). x.missed) (m.is i d lt) ∙ a.unmissed (m.from i) d (m.within i lt);
    whole = λ n j r h alone.
        let q = a.whole n j r h alone in
        let m = moved ys xs (IsPermutation-sym xs ys p) in
        record { at = m.from q.at; within = m.within q.at q.within; is = λ d. ap (λ (x : Named). x.listed) (sym (m.is q.at d q.within)) ∙ q.is d };
    differ = a.differ;
    place = λ i. a.place ((moved xs ys p).from i);
    places = λ i d lt. let m = moved xs ys p in subst (λ (x : Named). IsListedAt arena image meta (a.place (m.from i)) x) (sym (m.is i d lt)) (a.places (m.from i) d (m.within i lt));
    own = λ i j d li lj other same h.
        let m = moved xs ys p in
        a.own (m.from i) (m.from j) d (m.within i li) (m.within j lj) (λ e. other (m.one i j li lj e)) (sym (ap (λ (x : Named). x.leaf) (m.is i d li)) ∙ same ∙ ap (λ (x : Named). x.leaf) (m.is j d lj)) h;
  }

  -- The records were put in order twice, and looked at for equal pairs.
  pub in_order : ((kind : Kind) (score : Score) → arena kind score ≡ nothing) → (known : List Known) (names by_name by_slot : List Named) → IsListing arena image k meta known [] names → IsPermutation names by_name → IsPermutation by_name by_slot
      → (lead : Bool) (twice : Option ℕ) (old new : Option Broken) → MatchOption twice (Differ slot_of by_name) (IsTwice slot_of leaf_of by_name) → (lead ≡ true → NotesLeaf 6 twice old new) → AreInOrder arena image k meta lead new by_slot
  in_order empty known names by_name by_slot l p q lead twice old new answer noted =
      in_order_moved lead new by_name by_slot q (in_order_moved lead new names by_name p (record {
        fresh = λ i d lt. fresh arena image empty k meta known names l i d lt;
        unmissed = λ i d lt. unmissed arena image empty k meta known names l i d lt;
        whole = λ n j r h alone. is_named arena image empty k meta known names l n j r h alone;
        differ = λ yes quiet. own_slots arena image empty k meta known names l (differ_before slot_of names by_name p (quiet_leaf 6 (omega arith) twice old new (noted yes) quiet (Differ slot_of by_name) (IsTwice slot_of leaf_of by_name) answer));
        place = λ i. spot arena image empty k meta known names l i;
        places = λ i d lt. stands arena image empty k meta known names l i d lt;
        own = λ i j d li lj other same h. stand_apart arena image empty k meta known names l i j d li lj other same h;
      }))

  pub notes_before : (a b c : Option Broken) → level b ≤ level a → KeepsPairs a b → NotesSlots arena image meta b c → NotesSlots arena image meta a c
  notes_before a b c low v w = record { each = λ x e six. ⊎_elim (λ (before : b ≡ Some x). inl (v.same x before six)) (λ (h : (6 < level b) × HasSlotTwice arena image meta x.block). inr (omega (arith, h.0, low), h.1)) (w.each x e six) }

  pub notes_kept : (a b : Option Broken) → KeepsPairs a b → NotesSlots arena image meta a b
  notes_kept a b v = record { each = λ x e six. inl (v.same x e six) }

  -- What is noted of slot pairs is so.
  pub notes_twice : ((kind : Kind) (score : Score) → arena kind score ≡ nothing) → (known : List Known) (names by_name : List Named) → IsListing arena image k meta known [] names → IsPermutation names by_name
      → (twice : Option ℕ) (old new : Option Broken) → MatchOption twice (Differ slot_of by_name) (IsTwice slot_of leaf_of by_name) → NotesLeaf 6 twice old new → NotesSlots arena image meta old new
  notes_twice empty known names by_name l p None old new answer noted = record { each = λ b e six. inl (sym noted ∙ e) }
  notes_twice empty known names by_name l p (Some leaf) old new answer noted = record {
    each = λ b e six. ⊎_elim
        (λ (before : old ≡ Some b). inl before)
        (λ (now : (6 < level old) × (6 ≡ b.rule) × (leaf ≡ b.block)). inr (now.0, subst (λ (n : ℕ). HasSlotTwice arena image meta n) now.2 (slot_twice arena image empty k meta known names l leaf (twice_before slot_of names by_name p leaf_of leaf answer))))
        (lowered_from old 6 leaf (omega arith) b (sym noted ∙ e));
  }

-- ---- all directories

member : (P Q : Counted → Type 0) (cs : List Counted) → AllByRecursion Q cs → SomeOf P cs → (c : Counted) × P c × Q c
member P Q [] all s = absurd s
member P Q (c ∷ cs) all s = ⊎_elim (λ (h : P c). (c, h, all.0)) (λ (h : SomeOf P cs). member P Q cs all.1 h) s

module _ (arena : Arena) (image : Image) (k : Kept) where
  pub no_left : (entries meta : Link) → IsLeft arena image k [] entries meta → ⊥
  no_left entries meta (here e m h) = h
  no_left entries meta (below e m n j r l h alone dir pair also) = no_left e m l

  -- Nothing is left: each directory to which names lead by blocks at one place was walked.
  pub own_pairs : (numbers : List Number) → AreCounted arena image k [] numbers → (trail : List ℕ) (entries meta : Link) → IsOwnDir arena image k trail entries meta → HasOwnPairs arena image k entries meta
  own_pairs numbers a trail entries meta dir = ⊎_elim
      (λ (l : IsLeft arena image k [] entries meta). absurd (no_left entries meta l))
      (λ (s : SomeOf (λ (c : Counted). IsHeadOf entries meta c.folder) a.counted). let m = member (λ (c : Counted). IsHeadOf entries meta c.folder) (IsCounted arena image k) a.counted a.right s in m.2.own entries meta m.1)
      (a.each trail entries meta dir)

  pub settled_like : (old new : Option Broken) (folders folders' : List Folder) (numbers : List Number) → level new ≤ level old → folders' ≡ folders → AreSettled arena image k old folders numbers → AreSettled arena image k new folders' numbers
  settled_like old new folders folders' numbers low is a = subst (λ (fs : List Folder). AreSettled arena image k new fs numbers) (sym is) (record { counts = λ quiet. a.counts (omega (arith, quiet, low)) })

  -- The root's folder is left.
  pub settled_first : (noted : Option Broken) (folders : List Folder) → (6 < level noted → SomeOf (IsHeadOf (link_below arena image (from_block k.at) 0) (link_below arena image (from_block k.at) 1)) folders) → AreSettled arena image k noted folders []
  settled_first noted folders h = record { counts = λ quiet. record { counted = []; numbers_are = refl; right = tt; each = λ trail entries meta dir. inl (go quiet trail entries meta dir) } }
    where
      go : 6 < level noted → (trail : List ℕ) (entries meta : Link) → IsOwnDir arena image k trail entries meta → IsLeft arena image k folders entries meta
      go quiet trail entries meta dir_top = here (link_below arena image (from_block k.at) 0) (link_below arena image (from_block k.at) 1) (h quiet)
      go quiet trail entries meta (dir_below t e m n j r dir g alone mode pair also) = below e m n j r (go quiet t e m dir) g alone mode pair also

  -- what is left once a folder was popped and walked
  still_left : (rest folders : List Folder) (f : Folder) → Grows rest folders
      → ((entries meta : Link) → IsHeadOf entries meta f → (n j : ℕ) (r : Record) → Lists arena image meta n j r → StandsAlone arena image k meta n → is_dir_mode r.mode ≡ true → HasPair arena image entries r → StandsAlone arena image k entries (r.slot / 102) → SomeOf (IsHeadOf (entry_at arena image entries (2 * r.slot)) (entry_at arena image entries (2 * r.slot + 1))) folders)
      → (entries meta : Link) → IsLeft arena image k (rest ++ f ∷ []) entries meta → IsLeft arena image k folders entries meta ⊎ IsHeadOf entries meta f
  still_left rest folders f g now entries meta (here e m h) = ⊎_elim
      (λ (a : SomeOf (IsHeadOf entries meta) rest). inl (here entries meta (subst (λ (fs : List Folder). SomeOf (IsHeadOf entries meta) fs) (sym g.is) (some_left (IsHeadOf entries meta) rest g.added a))))
      (λ (b : SomeOf (IsHeadOf entries meta) (f ∷ [])). ⊎_elim (λ (x : IsHeadOf entries meta f). inr x) (λ (no' : ⊥). absurd no') b)
      (some_parts (IsHeadOf entries meta) rest (f ∷ []) h)
  still_left rest folders f g now entries meta (below e m n j r l h alone dir pair also) = ⊎_elim
      (λ (a : IsLeft arena image k folders e m). inl (below e m n j r a h alone dir pair also))
      (λ (x : IsHeadOf e m f). inl (here (entry_at arena image e (2 * r.slot)) (entry_at arena image e (2 * r.slot + 1)) (now e m x n j r h alone dir pair also)))
      (still_left rest folders f g now e m l)

  module _ (old new : Option Broken) (rest folders all : List Folder) (f : Folder) (is : all ≡ rest ++ f ∷ []) (g : Grows rest folders) (low : level new ≤ level old) (numbers numbers' : List Number) (a : AreSettled arena image k old all numbers) where
    -- A folder to which names lead was walked.
    settled_named : Settles arena image k f new folders numbers numbers' → AreSettled arena image k new folders numbers'
    settled_named s = record {
      counts = λ quiet.
          let c : AreCounted arena image k all numbers = a.counts (omega (arith, quiet, low)) in
          let one : Counted = record { folder = f; names = s.names } in
          record {
            counted = one ∷ c.counted;
            numbers_are = s.grown ∙ ap (λ (xs : List Number). xs ++ map number_in s.names) c.numbers_are;
            right = (
              record {
                whole = λ entries meta h. (s.each entries meta h quiet).whole;
                own = λ entries meta h. let x = s.each entries meta h quiet in record { fit = x.fit; differ = x.differ };
              },
              c.right,
            );
            each = λ trail entries meta dir. ⊎_elim
                (λ (l : IsLeft arena image k all entries meta). ⊎_elim
                (λ (x : IsLeft arena image k folders entries meta). inl x)
                (λ (h : IsHeadOf entries meta f). inr (inl h))
                (still_left rest folders f g (λ e m h. (s.each e m h quiet).below) entries meta (subst (λ (fs : List Folder). IsLeft arena image k fs entries meta) is l)))
                (λ (x : SomeOf (λ (c' : Counted). IsHeadOf entries meta c'.folder) c.counted). inr (inr x))
                (c.each trail entries meta dir);
          };
    }

    -- One to which no names lead was walked.
    settled_other : f.named ≡ false → numbers' ≡ numbers → AreSettled arena image k new folders numbers'
    settled_other other same = subst (λ (xs : List Number). AreSettled arena image k new folders xs) (sym same) (record {
      counts = λ quiet.
          let c : AreCounted arena image k all numbers = a.counts (omega (arith, quiet, low)) in
          record {
            counted = c.counted;
            numbers_are = c.numbers_are;
            right = c.right;
            each = λ trail entries meta dir. ⊎_elim
                (λ (l : IsLeft arena image k all entries meta). ⊎_elim
                (λ (x : IsLeft arena image k folders entries meta). inl x)
                (λ (h : IsHeadOf entries meta f). absurd (false≢true (sym other ∙ h.named)))
                (still_left rest folders f g (λ e m h. absurd (false≢true (sym other ∙ h.named))) entries meta (subst (λ (fs : List Folder). IsLeft arena image k fs entries meta) is l)))
                (λ (x : SomeOf (λ (c' : Counted). IsHeadOf entries meta c'.folder) c.counted). inr x)
                (c.each trail entries meta dir);
          };
    })

    pub settled_on : (f.named ≡ true → Settles arena image k f new folders numbers numbers') → (f.named ≡ false → numbers' ≡ numbers) → AreSettled arena image k new folders numbers'
    settled_on named other = by f.named refl
      where
        by : (b : Bool) → f.named ≡ b → AreSettled arena image k new folders numbers'
        by true e = settled_named (named e)
        by false e = settled_other e (other e)
