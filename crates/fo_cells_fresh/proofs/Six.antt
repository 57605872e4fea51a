-- SIX BLOCKS: a header, a super block of epoch 2 that leads to block 3, labels, a root, the root of epoch 1, which is kept, and a free block.
-- What a cache keeps that opens over them, with room for one block more.
use Rattle.std.proofs.Common.{◌≡◌, ◌≢◌, ◌⊎◌, inl, inr, ⊎_elim, ℕ, ◌<◌, ◌≤◌, false, cond, nat_eq, List, [], ◌∷◌, length, refl, sym, ◌∙◌, ap, subst, arith}
use Rattle.std.proofs.lemmas.Bool.{cases_eq}
use Rattle.std.specs.Prelude.{nat_lt}
use Rattle.std.specs.List.{Contains}
use Rattle.fo_disk.specs.Disk.{Block, settled}
use Rattle.fo_disk.specs.Disk.{Content as Holds}
use Rattle.fo_image.specs.declared.types.Kind.TheVariants.{Root}
use Rattle.fo_image.specs.declared.types.Label.{Label}
use Rattle.fo_image.specs.declared.types.Pointer.TheVariants.{Nil, Local}
use Rattle.fo_image.specs.declared.types.State.TheVariants.{Live, Closed}
use Rattle.fo_image.specs.Usable.{free_label, live_label}
use Rattle.fo_labels.specs.Region.{Region}
use Rattle.fo_crash.specs.declared.slot.Slot.{Slot}
use Rattle.fo_crash.specs.declared.slot.Slot.TheVariants.{Pointer as To}
use Rattle.fo_crash.specs.declared.place.Place.{Place}
use Rattle.fo_crash.specs.Images.{Content, Image, Reaches, nothing, target, to_block}
use Rattle.fo_crash.specs.Places.{super_place, root_place, place_below}
use Rattle.fo_crash.proofs.Sure.{same_if}
use Rattle.fo_cells.specs.Known.{Known, Top, MaySlot, IsKept, Leads, Stands}
use Rattle.fo_cells.specs.Safe.{IsSet, IsLive, super_top}
use Rattle.fo_cells.specs.Laws.{Safe}
use Rattle.fo_cells.specs.Device.{Mind, known}
use Rattle.fo_cells.proofs.Calls.{among_map, nat_eq_other}
use Rattle.fo_cells.proofs.Standing.{among_cases, first_among, written_may}
use Rattle.fo_cells_out.specs.Parents.{view}
use Rattle.fo_cells_out.proofs.Queue.{nothing_among}
use Rattle.fo_cells_out.proofs.Asked.{walk_keeps}
use Rattle.fo_cells_out.proofs.Takeout.{same_block}
use Rattle.fo_cells_epochs.specs.Epochs.{Root as KeptRoot, HasEpochs, kept_root, root_top, tree_of}
use Rattle.fo_cells_all.specs.All.{Kept}
use Rattle.fo_cells_fresh.specs.Fresh.{Reading, label_at, block_at}

abbrev pub one_content : Content
one_content = record { bytes = []; slot = λ i. cond (nat_eq i 0) (to_block 3) (To Nil) }

-- the root of epoch 1, which was closed as epoch 2 began
abbrev pub was_root : Label
was_root = record { state = Closed; kind = Root; tag = 1; epoch = 1; closing = 2 }

abbrev pub six_labels : Region
six_labels = record { first = 3; labels = live_label Root 1 2 ∷ was_root ∷ free_label ∷ [] }

abbrev pub six : Reading
six = record {
  read = λ b bytes. cond (nat_eq b 1) one_content nothing;
  label_in = λ b bytes. label_at six_labels b;
  label_block = λ b. 2;
  high_of = λ c. 2;
  is_data = λ b. cond (nat_lt b 3) false (nat_lt b 6);
}

abbrev pub six_blocks : List Block
six_blocks = [] ∷ [] ∷ [] ∷ [] ∷ [] ∷ [] ∷ []

abbrev pub H : Holds
H = settled six_blocks

abbrev pub before_root : KeptRoot
before_root = kept_root 4 1

abbrev pub six_mind : Mind
six_mind = record {
  memory = λ b. six.read b (block_at six_blocks b);
  newborn = λ b. false;
  complete = λ b. false;
  tops = super_top ∷ root_top before_root ∷ [];
  label = λ b. label_at six_labels b;
  low = 1;
  waits = [];
  clears = [];
  read = six.read;
  label_in = six.label_in;
  label_block = six.label_block;
}

abbrev pub six_kept : Kept
six_kept = record {
  mind = six_mind;
  flags = record { dirty = λ b. false; wrote = λ b. false; failed = λ b. false };
  buffering = record { held = λ b. false; clean = [] };
  times = record { now = 0; changed = λ b. 0; wrote = λ b. 0; settled = λ b. 0 };
  region = six_labels;
  promises = record { spare = 1; pins = 0; removals = 0; copies = 0; waiting = 0 };
  space = record { buffers = 1; queue = 1; waits = 0; clears = 0 };
  high = 2;
  doubts = [];
  active = super_top ∷ [];
  roots = before_root ∷ [];
  past = [];
  queue = [];
}

abbrev pub K : Known
K = known six_mind H

abbrev pub M : Image
M = six_mind.memory

-- ---- what is read

pub content : (b : ℕ) (c : Content) → Contains (K.versions b) c → c ≡ M b
content b c is = let (v, among, e) = among_map (six.read b) (Rattle.fo_disk.specs.Disk.versions_of H b) c is in sym e

pub label : (b : ℕ) (l : Label) → Contains (K.labels b) l → l ≡ label_at six_labels b
label b l is = let (v, among, e) = among_map (six.label_in b) (Rattle.fo_disk.specs.Disk.versions_of H 2) l is in sym e

-- SLOTS are memory's
pub may : (a i : ℕ) (s : Slot) → MaySlot K a i s → s ≡ (M a).slot i
may a i s m = ⊎_elim
    (λ has. sym has.is ∙ ap (λ (c : Content). c.slot i) (content a has.content has.among))
    (λ x. ⊎_elim (λ is. is) (λ k. absurd (nothing_among (k.1).clear (k.1).among)) x)
    m

one_slot : (i b : ℕ) → target (one_content.slot i) ≡ Local b → i ≡ 0
one_slot i b e = ⊎_elim
    (λ is. is)
    (λ ne. let none : Nil ≡ Local b = ap (λ k. target (cond k (to_block 3) (To Nil))) (sym (nat_eq_other i 0 ne)) ∙ e in absurd (cc))
    (cases_eq i 0)

-- block 1 alone leads on, to block 3
pub led : (a i b : ℕ) → target ((M a).slot i) ≡ Local b → (a ≡ 1) × (i ≡ 0) × (b ≡ 3)
led a i b e = ⊎_elim
    (λ one.
    let there : target (one_content.slot i) ≡ Local b = subst (λ z. target ((M z).slot i) ≡ Local b) one e in
    let first = one_slot i b there in
    (one, first, same_block (subst (λ j. target (one_content.slot j) ≡ Local b) first there) refl))
    (λ ne. let none : Nil ≡ Local b = ap (λ k. target ((cond k one_content nothing).slot i)) (sym (nat_eq_other a 1 ne)) ∙ e in absurd (cc))
    (cases_eq a 1)

pub slot_is : (i : ℕ) → i ≡ 0 → (M 1).slot i ≡ to_block 3
slot_is i e = ap (λ j. one_content.slot j) e

pub reached : (b : ℕ) → Reaches M (to_block 1) b → (b ≡ 1) ⊎ (b ≡ 3)
reached b w = walk_keeps M (λ a. (a ≡ 1) ⊎ (a ≡ 3)) (λ a j z is e. inr (led a j z e).2) w.path (to_block 1) b (λ a e. inl (let x : Local 1 ≡ Local a = e in cc)) w.leads

-- PLACES, from any tops
pub stood_from : (ts : List Top) (P : ℕ → Place → Type 0) → ((t : Top) → Contains ts t → P t.at t.place) → ((a i b : ℕ) (s : Slot) (p : Place) → P a p → MaySlot K a i s → target s ≡ Local b → P b (place_below p i s)) → (b : ℕ) (q : Place) → Stands (view K ts) b q → P b q
stood_from ts P tops step b q st = along st.path st.top.at st.top.place (tops st.top st.is_top) st.leads
  where
    along : (path : List (ℕ × Slot)) (a : ℕ) (p : Place) → P a p → Leads (view K ts) path a p b q → P b q
    along [] a p is l = subst (λ z. P z q) l.0 (subst (λ y. P a y) l.1 is)
    along ((i, s) ∷ path) a p is l = along path l.1.0 (place_below p i s) (step a i l.1.0 s p is l.0 l.1.1) l.1.2

abbrev pub At : ℕ → Place → Type 0
At b q = ((b ≡ 1) × (q ≡ super_place)) ⊎ (((b ≡ 3) ⊎ (b ≡ 4)) × (q ≡ root_place))

-- a slot of a block at a place leads from block 1 to block 3
pub step : (a i b : ℕ) (s : Slot) (p : Place) → At a p → MaySlot K a i s → target s ≡ Local b → (p ≡ super_place) × (s ≡ to_block 3) × (b ≡ 3) × (a ≡ 1)
step a i b s p is m e =
    let s_is = may a i s m in
    let l = led a i b (ap target (sym s_is) ∙ e) in
    let slot : s ≡ to_block 3 = s_is ∙ ap (λ z. (M z).slot i) l.0 ∙ slot_is i l.1 in (
      ⊎_elim
          (λ x. x.1)
          (λ x. absurd (⊎_elim (λ three. let no : 1 ≡ 3 = sym l.0 ∙ three in omega (arith, no)) (λ four. let no : 1 ≡ 4 = sym l.0 ∙ four in omega (arith, no)) x.0))
          is,
      slot,
      l.2,
      l.0,
    )

pub below : (i : ℕ) (s : Slot) (p : Place) → p ≡ super_place → s ≡ to_block 3 → place_below p i s ≡ root_place
below i s p p_is s_is = ap (λ y. place_below y i s) p_is ∙ ap (λ v. place_below super_place i v) s_is

pub stood : (b : ℕ) (q : Place) → Stands K b q → At b q
stood b q st = stood_from (super_top ∷ root_top before_root ∷ []) At
    (λ t is. ⊎_elim
    (λ e. inl (ap (λ (y : Top). y.at) (sym e), ap (λ (y : Top). y.place) (sym e)))
    (λ more. ⊎_elim
    (λ e. inr (inr (ap (λ (y : Top). y.at) (sym e)), ap (λ (y : Top). y.place) (sym e)))
    (λ none. absurd (nothing_among t none))
    (among_cases (root_top before_root) [] t more))
    (among_cases super_top (root_top before_root ∷ []) t is))
    (λ a i z s p is m e. let x = step a i z s p is m e in inr (inl x.2, below i s p x.0 x.1))
    b q st

pub at_root : (b : ℕ) (q : Place) → b ≢ 1 → Stands K b q → ((b ≡ 3) ⊎ (b ≡ 4)) × (q ≡ root_place)
at_root b q ne st = ⊎_elim (λ x. absurd (ne x.0)) (λ x. x) (stood b q st)

-- in the active tree, and in the kept one
pub stood_active : (b : ℕ) (q : Place) → Stands (view K (super_top ∷ [])) b q → (b ≡ 1) ⊎ (b ≡ 3)
stood_active b q st = stood_from (super_top ∷ []) (λ a p. (a ≡ 1) ⊎ (a ≡ 3))
    (λ t is. ⊎_elim (λ e. inl (ap (λ (y : Top). y.at) (sym e))) (λ none. absurd (nothing_among t none)) (among_cases super_top [] t is))
    (λ a i z s p is m e. inr (led a i z (ap target (sym (may a i s m)) ∙ e)).2)
    b q st

pub stood_before : (b : ℕ) (q : Place) → Stands (tree_of K before_root) b q → b ≡ 4
stood_before b q st = stood_from (root_top before_root ∷ []) (λ a p. a ≡ 4)
    (λ t is. ⊎_elim (λ e. ap (λ (y : Top). y.at) (sym e)) (λ none. absurd (nothing_among t none)) (among_cases (root_top before_root) [] t is))
    (λ a i z s p is m e. let no : 1 ≡ 4 = sym (led a i z (ap target (sym (may a i s m)) ∙ e)).0 ∙ is in absurd (omega (arith, no)))
    b q st

-- a fact of both blocks that stand below block 1
pub of_both : (P : ℕ → Type 0) → P 3 → P 4 → (b : ℕ) → (b ≡ 3) ⊎ (b ≡ 4) → P b
of_both P three four b is = ⊎_elim (λ e. subst P (sym e) three) (λ e. subst P (sym e) four) is

pub set : (b : ℕ) → IsSet K b
set b = record {
  newborn = refl;
  versions = λ c is. same_if (content b c is);
  clears = λ i leaf is. absurd (nothing_among is.clear is.among);
}

pub kept : IsKept K
kept = record {
  one = λ b p q x y. ⊎_elim
      (λ u. ⊎_elim (λ v. u.1 ∙ sym v.1) (λ v. absurd (of_both (λ z. z ≢ 1) (λ e. omega (arith, e)) (λ e. omega (arith, e)) b v.0 u.0)) (stood b q y))
      (λ u. ⊎_elim (λ v. absurd (of_both (λ z. z ≢ 1) (λ e. omega (arith, e)) (λ e. omega (arith, e)) b u.0 v.0)) (λ v. u.1 ∙ sym v.1) (stood b q y))
      (stood b p x);
  falls = λ a i b s p st m e.
      let x = step a i b s p (stood a p st) m e in
      let low : (place_below p i s).rank ≡ 2144 = ap (λ (y : Place). y.rank) (below i s p x.0 x.1) in
      let high : p.rank ≡ 2145 = ap (λ (y : Place). y.rank) x.0 in
      omega (arith, low, high);
  labelled = λ b p ne st.
      let x = at_root b p ne st in (
        of_both (λ z. (label_at six_labels z).kind ≡ Root) refl refl b x.0 ∙ ap (λ (y : Place). y.kind) (sym x.1),
        of_both (λ z. (label_at six_labels z).tag ≡ 1) refl refl b x.0 ∙ ap (λ (y : Place). y.tag) (sym x.1),
        of_both (λ z. Rattle.fo_image.specs.Usable.is_usable 1 (label_at six_labels z) ≡ false) refl refl b x.0,
      );
  named = λ a i t c p st w e. named t (step a i t (c.slot i) p (stood a p st) (written_may K a i c w) e).2;
}
  where
    named : (t : ℕ) → t ≡ 3 → (t ≢ 1) × Rattle.fo_cells.specs.Known.MayName K t
    named t is = subst (λ z. (z ≢ 1) × Rattle.fo_cells.specs.Known.MayName K z) (sym is) (
      λ e. omega (arith, e),
      record {
        settled = refl;
        labels = λ l among.
            let e = label 3 l among in record {
              kind = ap (λ (x : Label). x.kind) e;
              tag = ap (λ (x : Label). x.tag) e;
              epoch = ap (λ (x : Label). x.epoch) e;
              kept = ap (λ x. Rattle.fo_image.specs.Usable.is_usable 1 x) e;
            };
      },
    )

pub safe : Safe K 2 []
safe = record {
  kept = kept;
  of_device = record {
    blocks = λ b p st. ⊎_elim
        (λ x. subst (λ z. 0 < length (K.versions z)) (sym x.0) (omega arith))
        (λ x. of_both (λ z. 0 < length (K.versions z)) (omega arith) (omega arith) b x.0)
        (stood b p st);
    labels = λ b p ne st. of_both (λ z. 0 < length (K.labels z)) (omega arith) (omega arith) b (at_root b p ne st).0;
  };
  top = first_among super_top (root_top before_root ∷ []);
  old = λ b p ne st young. set b;
  epochs = λ a i b s p ne st m e. absurd (ne (step a i b s p (stood a p st) m e).3);
  live = λ b ne w. ⊎_elim
      (λ one. absurd (ne one))
      (λ is. subst (λ z. IsLive 2 (label_at six_labels z)) (sym is) (refl, omega arith))
      (reached b w);
  settled = refl;
  supers = record { versions = λ c is. inl (same_if (content 1 c is)) };
  waits = λ leaf on j is. absurd (nothing_among is.wait is.among);
  clears = λ at i leaf is. absurd (nothing_among is.clear is.among);
}

root_one : (r : KeptRoot) → Contains (before_root ∷ []) r → before_root ≡ r
root_one r is = ⊎_elim (λ e. e) (λ none. absurd (nothing_among r none)) (among_cases before_root [] r is)

pub epochs : HasEpochs K 2 six.high_of [] (super_top ∷ []) (before_root ∷ [])
epochs = record {
  safe = safe;
  trees = record {
    tops = refl;
    top = first_among super_top [];
    kept = λ r is. subst (λ (y : KeptRoot). (1 ≤ y.epoch) × (y.epoch < 2)) (root_one r is) (omega arith, omega arith);
    late = λ r b q is st. subst (λ (y : KeptRoot). (b ≢ 1) × Rattle.fo_cells_epochs.specs.Epochs.IsHeldAt y.epoch (K.label b) × ((l : Label) → Contains (K.labels b) l → Rattle.fo_cells_epochs.specs.Epochs.IsHeldAt y.epoch l)) (root_one r is) (late b (stood_before b q (subst (λ (y : KeptRoot). Stands (tree_of K y) b q) (sym (root_one r is)) st)));
    live = λ b q ne st. ⊎_elim (λ one. absurd (ne one)) (λ is. ap (λ z. (label_at six_labels z).state) is) (stood_active b q st);
    named = λ a i t c p st w e l is.
        let x = (led a i t (ap target (sym (may a i (c.slot i) (written_may K a i c w))) ∙ e)).2 in
        ap (λ (y : Label). y.state) (label t l is) ∙ ap (λ z. (label_at six_labels z).state) x;
  };
  supers = record {
    root = λ c i b among e.
        let is : c ≡ M 1 = ⊎_elim (λ m. sym m) (λ v. content 1 c v) (among_cases (M 1) (K.versions 1) c among) in
        let l = led 1 i b (ap (λ (y : Content). target (y.slot i)) (sym is) ∙ e) in (
          λ one. let no : 3 ≡ 1 = sym l.2 ∙ one in omega (arith, no),
          ap (λ (y : Content). y.slot i) is ∙ slot_is i l.1 ∙ ap to_block (sym l.2),
          ap (λ z. (label_at six_labels z).epoch) l.2,
          λ y y_is.
              let same = label b y y_is in
              (ap (λ (z : Label). z.state) same ∙ ap (λ z. (label_at six_labels z).state) l.2, ap (λ (z : Label). z.epoch) same ∙ ap (λ z. (label_at six_labels z).epoch) l.2),
        );
    high_is = refl;
  };
}
  where
    held : (l : Label) → l ≡ label_at six_labels 4 → Rattle.fo_cells_epochs.specs.Epochs.IsHeldAt 1 l
    held l is = subst (λ y. Rattle.fo_cells_epochs.specs.Epochs.IsHeldAt 1 y) (sym is) (record {
      begun = omega arith;
      used = λ e. let no : Closed ≡ Rattle.fo_image.specs.declared.types.State.TheVariants.Free = e in cc;
      later = λ e. omega arith;
    })

    late : (b : ℕ) → b ≡ 4 → (b ≢ 1) × Rattle.fo_cells_epochs.specs.Epochs.IsHeldAt 1 (K.label b) × ((l : Label) → Contains (K.labels b) l → Rattle.fo_cells_epochs.specs.Epochs.IsHeldAt 1 l)
    late b is = (
      λ one. let no : 4 ≡ 1 = sym is ∙ one in omega (arith, no),
      held (K.label b) (ap (λ z. label_at six_labels z) is),
      λ l among. held l (label b l among ∙ ap (λ z. label_at six_labels z) is),
    )
