-- What is opened after a check that passed: no refusal but a fault or want of memory can come of a sound image.
use Rattle.std.proofs.Common.{◌≡◌, ◌⊎◌, inl, inr, ⊎_elim, ℕ, ◌+◌, ◌*◌, ◌%◌, ◌-◌, ◌/◌, ◌<◌, ◌≤◌, true, cond, List, [], ◌∷◌, length, drop, take, map, replicate, get_or, refl, sym, ap, ◌∙◌, subst, arith}
use Rattle.std.specs.List.{Contains, list_all, range_with_len}
use Rattle.std.specs.Prelude.{◌==◌}
use Rattle.std.proofs.lemmas.Bool.{cases_lt, le-ltb, lt-ltb}
use Rattle.std.proofs.lemmas.List.{get_or-map, get_or_past, length-map, length-take, length-drop}
use Rattle.std.proofs.lemmas.List.FromFn.{get_or-map-range_with_len, length-map-range_with_len}
use Rattle.std.proofs.lemmas.Nat.{from_be_bytes-to_be_bytes_4}
use Rattle.lru.proofs.Splits.{Contains-cons, Contains-nil}
use Rattle.fo_disk.specs.Disk.{Block, settled, versions_of}
use Rattle.fo_disk.specs.Disk.{Content as Holds}
use Rattle.fo_image.specs.declared.types.Label.{Label}
use Rattle.fo_image.specs.declared.types.State.{State}
use Rattle.fo_image.specs.declared.types.State.TheVariants.{Free, Live, Closed}
use Rattle.fo_image.specs.declared.types.Super.{Super}
use Rattle.fo_image.specs.declared.record.RootBlock.{RootBlock}
use Rattle.fo_image.specs.Field.{Four, number_at, zeros}
use Rattle.fo_image.specs.Format.{SpellsHeader, SpellsLabel, SpellsSuper, state_code}
use Rattle.fo_image.specs.Place.{first_data, label_block, label_blocks, label_byte}
use Rattle.fo_image.specs.Usable.{free_label, is_usable, is_usable_in}
use Rattle.fo_image.proofs.Padding.{zeros-from_all}
use Rattle.fo_labels.specs.Region.{Region, label_of}
use Rattle.fo_labels.specs.Spelled.{SpellsLabels, label_at, part_at}
use Rattle.fo_sound.specs.Device.{Shows}
use Rattle.fo_sound.specs.Image.{HasLabel, IsDataBlock, block_of, label_bytes}
use Rattle.fo_sound.specs.Sound.{HasActiveRoot, IsFormatted, root_label}
use Rattle.fo_sound.specs.Sound.{HasTable as HasLabels}
use Rattle.fo_sound.proofs.Labels.{free_spelled}
use Rattle.fo_opening.specs.of_mind.Parts.{count_of}
use Rattle.fo_opening.specs.Opens.{IsRead}
use Rattle.fo_opening.specs.Refuses.{IsNoHeader, IsNoRoot, IsNoSuper, IsNoTable}

-- ---- what is read of a quiet device is what its image has

lone : (v bytes : Block) → Contains (v ∷ []) bytes → bytes ≡ v
lone v bytes c = ⊎_elim (λ same. sym same) (λ none. absurd (Contains-nil bytes none)) (Contains-cons v [] bytes c)

version_is : (image : List Block) (at : ℕ) → at < length image → versions_of (settled image) at ≡ block_of image at ∷ []
version_is image at lt = get_or-map (λ (b : Block). b ∷ []) image at [] [] lt

pub count_shown : (holds : Holds) (image : List Block) → Shows holds image → length holds ≡ length image
count_shown holds image s = ap length s.quiet ∙ length-map image (λ (b : Block). b ∷ [])

read_is : (holds : Holds) (image : List Block) (at : ℕ) (bytes : List ℕ) → Shows holds image → at < length image → IsRead holds at bytes → bytes ≡ block_of image at
read_is holds image at bytes s lt r =
    let n = count_shown holds image s in
    lone (block_of image at) bytes (subst (λ (vs : List Block). Contains vs bytes) (ap (λ (h : Holds). versions_of h at) s.quiet ∙ version_is image at lt) (r.version (omega (arith, lt, n))))

-- ---- header and super block

pub has_header : (holds : Holds) (image : List Block) (one : Super) (count : ℕ) → Shows holds image → count ≡ length image → IsFormatted image one → IsNoHeader holds count → ⊥
has_header holds image one count s is f n =
    n.none (subst (λ (k : ℕ). SpellsHeader (record { blocks = k }) n.bytes) (sym is) (subst (SpellsHeader (record { blocks = length image })) (sym (read_is holds image 0 n.bytes s s.some n.read)) f.header))

pub has_super : (holds : Holds) (image : List Block) (one : Super) (root : RootBlock) (count : ℕ) → Shows holds image → count ≡ length image → 64 ≤ count → IsFormatted image one → HasActiveRoot image one root → IsNoSuper holds count → ⊥
has_super holds image one root count s is least f r n =
    n.none one (subst (SpellsSuper one) (sym (read_is holds image 1 n.bytes s (omega (arith, is, least)) n.read)) f.super_block)
    (record {
      order = r.epochs.order;
      from = subst (λ (k : ℕ). first_data k ≤ one.active) (sym is) r.place.from;
      to = subst (λ (k : ℕ). one.active < k) (sym is) r.place.to;
    })

-- ---- the label table

two_zeros : (block : List ℕ) → length block ≡ 8192 → list_all (λ x. x == 0) (drop 8190 block) ≡ true → drop 8190 block ≡ replicate 2 0
unfolding zeros
two_zeros block long z =
    let n = length-drop 8190 block in
    let two : length (drop 8190 block) ≡ 2 = omega (arith, n, long) in
    zeros-from_all (drop 8190 block) z ∙ ap zeros two

after : (a k : ℕ) → a ≤ a + k
after a k = omega arith

module _ (image : List Block) (t : HasLabels image) where
  -- the label that is spelled, of an address from the first data block on
  abbrev pick : (a : ℕ) → first_data (length image) ≤ a → (a < length image) ⊎ (length image ≤ a) → Label
  pick a from (inl lt) = (t.labels a (record { from = from; to = lt })).0
  pick a from (inr ge) = free_label

  picked : (a : ℕ) (from : first_data (length image) ≤ a) (d : (a < length image) ⊎ (length image ≤ a)) → a < length image → HasLabel image a (pick a from d)
  picked a from (inl lt) here = (t.labels a (record { from = from; to = lt })).1
  picked a from (inr ge) here = absurd (omega (arith, ge, here))

  abbrev spelled : ℕ → Label
  spelled k = pick (first_data (length image) + k) (after (first_data (length image)) k) (cases_lt (first_data (length image) + k) (length image))

  abbrev table : Region
  table = record { first = first_data (length image); labels = map spelled (range_with_len 0 (length image - first_data (length image))) }

  count_table : first_data (length image) ≤ length image → count_of table ≡ length image
  count_table le = let n = length-map-range_with_len spelled 0 (length image - first_data (length image)) in omega (arith, n, le)

  label_here : (k : ℕ) → k < length image - first_data (length image) → label_at table (first_data (length image) + k) ≡ spelled k
  label_here k lt =
      ap (λ z. cond z free_label (label_of table (first_data (length image) + k))) (le-ltb (first_data (length image) + k) (first_data (length image)) (after (first_data (length image)) k))
      ∙ get_or-map-range_with_len spelled 0 (length image - first_data (length image)) (first_data (length image) + k - first_data (length image)) k free_label (omega (arith, lt)) (omega arith)

  label_past : (a : ℕ) → (IsDataBlock (length image) a → ⊥) → label_at table a ≡ free_label
  label_past a none = ⊎_elim
      (λ lt. ap (λ z. cond z free_label (label_of table a)) (lt-ltb a (first_data (length image)) lt))
      (λ le. ap (λ z. cond z free_label (label_of table a)) (le-ltb a (first_data (length image)) le)
      ∙ get_or_past table.labels (a - first_data (length image)) free_label (let n = length-map-range_with_len spelled 0 (length image - first_data (length image)) in let ge = beyond le in omega (arith, n, ge)))
      (cases_lt a (first_data (length image)))
    where
      beyond : first_data (length image) ≤ a → length image ≤ a
      beyond le = ⊎_elim (λ lt. absurd (none (record { from = le; to = lt }))) (λ ge. ge) (cases_lt a (length image))

  spelled_here : (k : ℕ) → k < length image - first_data (length image) → SpellsLabel (label_at table (first_data (length image) + k)) (label_bytes image (first_data (length image) + k))
  spelled_here k lt =
      subst (λ (l : Label). SpellsLabel l (label_bytes image (first_data (length image) + k))) (sym (label_here k lt))
      (picked (first_data (length image) + k) (after (first_data (length image)) k) (cases_lt (first_data (length image) + k) (length image)) (omega (arith, lt))).spelled

  spelled_data : (a : ℕ) → IsDataBlock (length image) a → SpellsLabel (label_at table a) (label_bytes image a)
  spelled_data a is =
      let from = is.from in
      let to = is.to in
      subst (λ (x : ℕ). SpellsLabel (label_at table x) (label_bytes image x)) (omega (arith, from)) (spelled_here (a - first_data (length image)) (omega (arith, from, to)))

  spelled_past : (a : ℕ) → length (block_of image (label_block a)) ≡ 8192 → a < 585 * label_blocks (length image) → (IsDataBlock (length image) a → ⊥) → SpellsLabel (label_at table a) (label_bytes image a)
  spelled_past a long lt none =
      subst (λ (l : Label). SpellsLabel l (label_bytes image a)) (sym (label_past a none))
      (free_spelled (label_bytes image a) (fourteen a (block_of image (label_block a)) long) (t.others a lt none))
    where
      fourteen : (a : ℕ) (block : List ℕ) → length block ≡ 8192 → length (take 14 (drop (label_byte a) block)) ≡ 14
      fourteen a block long =
          let n = length-take 14 (drop (label_byte a) block) in
          let m = length-drop (label_byte a) block in
          omega (arith, n, m, long)

  is_data : (a : ℕ) → (IsDataBlock (length image) a) ⊎ (IsDataBlock (length image) a → ⊥)
  is_data a = ⊎_elim
      (λ lt. inr (λ is. let le = is.from in omega (arith, lt, le)))
      (λ le. ⊎_elim (λ lt. inl (record { from = le; to = lt })) (λ ge. inr (λ is. let lt = is.to in omega (arith, lt, ge))) (cases_lt a (length image)))
      (cases_lt a (first_data (length image)))

  spells_table : (b : ℕ) → 2 ≤ b → b < first_data (length image) → length (block_of image b) ≡ 8192 → SpellsLabels table b (block_of image b)
  spells_table b two before long = record {
    long = long;
    each = λ a here. subst (λ (k : ℕ). SpellsLabel (label_at table a) (part_at (label_byte a) (block_of image k))) here (each_one a here);
    rest = two_zeros (block_of image b) long (t.rests b two before);
  }
    where
      each_one : (a : ℕ) → label_block a ≡ b → SpellsLabel (label_at table a) (label_bytes image a)
      each_one a here = ⊎_elim (spelled_data a) (spelled_past a (ap (λ (k : ℕ). length (block_of image k)) here ∙ long) (omega (arith, here, before))) (is_data a)

pub has_table : (holds : Holds) (image : List Block) (count block : ℕ) → Shows holds image → count ≡ length image → 64 ≤ count → HasLabels image → IsNoTable holds count block → ⊥
has_table holds image count block s is least t n =
    let from = n.from in
    let to = n.to in
    let before : block < first_data (length image) = subst (λ (k : ℕ). block < first_data k) is to in
    let within : block < length image = omega (arith, before, is, least) in
    let read = read_is holds image block n.bytes s within n.read in
    n.none (table image t) (ap first_data (sym is)) (count_table image t (omega (arith, is, least)) ∙ sym is)
    (subst (SpellsLabels (table image t) block) (sym read) (spells_table image t block from before (ap length (sym read) ∙ n.read.long)))

-- ---- the root

super_active : (bytes : List ℕ) (s : Super) → SpellsSuper s bytes → number_at Four 18 bytes ≡ s.active
unfolding number_at
super_active bytes v s = subst (λ b. number_at Four 18 b ≡ v.active) (sym s.bytes_are) (from_be_bytes-to_be_bytes_4 v.active s.fit.1.1.1.1.0)

state_fits : (s : State) → state_code s % 256 ≡ state_code s
state_fits Free = refl
state_fits Live = refl
state_fits Closed = refl

label_state : (bytes : List ℕ) (l : Label) → SpellsLabel l bytes → get_or bytes 0 0 ≡ state_code l.state
label_state bytes l s = subst (λ b. get_or b 0 0 ≡ state_code l.state) (sym s.bytes_are) (state_fits l.state)

not_usable : (s : State) (low : ℕ) (l : Label) → state_code s ≡ 1 → is_usable_in s low l ≡ true → ⊥
not_usable Free low l e u = absurd (omega (arith, e))
not_usable Live low l e u = cc
not_usable Closed low l e u = absurd (omega (arith, e))

pub has_root : (holds : Holds) (image : List Block) (one other : Super) (root : RootBlock) (count : ℕ) (bytes : List ℕ) → Shows holds image → count ≡ length image → 64 ≤ count → IsFormatted image one → HasActiveRoot image one root → IsRead holds 1 bytes → SpellsSuper other bytes → IsNoRoot holds count other → ⊥
has_root holds image one other root count bytes s is least f r read spells n =
    let read_one = read_is holds image 1 bytes s (omega (arith, is, least)) read in
    let active : other.active ≡ one.active = sym (super_active bytes other spells) ∙ ap (number_at Four 18) read_one ∙ super_active (block_of image 1) one f.super_block in
    let from : first_data count ≤ one.active = subst (λ (k : ℕ). first_data k ≤ one.active) (sym is) r.place.from in
    let to = r.place.to in
    let row = n.table.each (one.active / 585) (omega (arith, to, is)) in
    let here : row.0 ≡ block_of image (label_block one.active) = read_is holds image (label_block one.active) row.0 s (omega (arith, to, from, is, least)) row.1 in
    let ours : SpellsLabel (label_at n.region one.active) (label_bytes image one.active) = subst (λ (b : List ℕ). SpellsLabel (label_at n.region one.active) (part_at (label_byte one.active) b)) here (row.2.each one.active refl) in
    let code : state_code (label_at n.region one.active).state ≡ 1 = sym (label_state (label_bytes image one.active) (label_at n.region one.active) ours) ∙ label_state (label_bytes image one.active) (root_label one) r.label.spelled in
    not_usable (label_at n.region one.active).state other.low (label_at n.region one.active) code (subst (λ (a : ℕ). is_usable other.low (label_at n.region a) ≡ true) active n.usable)
