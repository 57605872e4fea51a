-- The moments of a disk in memory after a change.
use Rattle.std.proofs.Common.{◌≡◌, replicate, ℕ, zero, suc, ◌+◌, ◌-◌, ◌<◌, ◌≤◌, Bool, true, false, cond, List, [], ◌∷◌, ◌++◌, length, get_or, set, map, reverse, take, drop, refl, sym, ◌∙◌, ap, subst, arith, length-drop, length-set, get_or-set_same, get_or-set_other, ⊎_elim, inl, inr}
use Rattle.std.proofs.lemmas.Bool.{cases_eq}
use Rattle.std.proofs.lemmas.List.{length-map, map-set, get_or-map, get_or-drop, set-set, set-get_or, drop-append-le, drop-drop, take_at, length_push, map_push, reverse-append}
use Rattle.std.proofs.lemmas.List.Elements.{Contains-get_or}
use Rattle.std.specs.List.{Contains}
use Rattle.fo_disk.specs.Disk.{Block, Versions, Content, versions_of, newest, latest_of, IsImage, Appends, Settles, Passes}
use Rattle.fo_disk.specs.Memory.{bytes_of, cell_of, cells_of, versions_in, content_of, with_version, settled_cell, SettledFrom, shorter, with_froms, undone, earlier, moments_at, picked}
use Rattle.std.proofs.Common.{Vec, Global}
use Rattle.fo_disk.specs.declared.memory.Version.{Version}
use Rattle.fo_disk.specs.declared.memory.Cell.{Cell}
use Rattle.fo_disk.specs.declared.memory.Change.{Change}
use Rattle.fo_disk.specs.declared.memory.Change.TheVariants.{Wrote, Settled}

abbrev Pairs : Type 0
Pairs = List (ℕ × Versions)

abbrev at_or : Pairs → ℕ → ℕ × Versions
at_or cells k = get_or cells k (0, [])

pub versions_at : (cells : Pairs) (k : ℕ) → k < length cells → versions_of (content_of cells) k ≡ versions_in (at_or cells k)
versions_at cells k lt = get_or-map versions_in cells k (0, []) [] lt

-- each cell has a version that a crash may leave
pub has_some : (cells : List Cell) (k : ℕ) → k < length cells → (at_or (cells_of cells) k).0 < length (at_or (cells_of cells) k).1
has_some [] k lt = absurd (omega arith)
has_some (cell ∷ cells) zero lt = omega (arith, length-map cell.all.items bytes_of, cell.some)
has_some (cell ∷ cells) (suc k) lt = has_some cells k (omega arith)

pub changed : (before : Content) (change : Change) (cells next : Pairs) (changes later : List Change) → later ≡ changes ++ change ∷ [] → undone change next ≡ cells → Passes before (content_of next) (moments_at cells changes) (moments_at next later)
changed before change cells next changes later noted back = record {
  either = inl (ap (λ (cs : List Change). content_of next ∷ earlier cs next) (ap reverse noted ∙ reverse-append changes (change ∷ []))
      ∙ ap (λ (old : Pairs). content_of next ∷ content_of old ∷ earlier (reverse changes) old) back);
}

module _ (at : ℕ) (bytes : Block) (cells : Pairs) (lt : at < length cells) where
  pub added : (at_or cells at).0 ≤ length (at_or cells at).1 → Appends at bytes (content_of cells) (content_of (with_version at bytes cells))
  added le = record {
    is = map-set versions_in cells at _
        ∙ ap (λ (vs : Versions). set (content_of cells) at vs) (drop-append-le (at_or cells at).0 (at_or cells at).1 (bytes ∷ []) le ∙ ap (λ (vs : Versions). vs ++ bytes ∷ []) (sym (versions_at cells at lt)));
  }

  pub unwritten : undone (Wrote at) (with_version at bytes cells) ≡ cells
  unwritten =
      let c = at_or cells at in
      let d : ℕ × Versions = (c.0, c.1 ++ bytes ∷ []) in
      let short : shorter d ≡ c = ap (λ (vs : Versions). (c.0, vs)) (take_at c.1 (bytes ∷ []) (length (c.1 ++ bytes ∷ []) - 1) (omega (arith, length_push c.1 bytes))) in
      ap (λ (x : ℕ × Versions). set (set cells at d) at (shorter x)) (get_or-set_same cells at d (0, []) lt)
      ∙ set-set cells at d (shorter d)
      ∙ ap (λ (x : ℕ × Versions). set cells at x) short
      ∙ set-get_or cells at (0, [])

pub unsettled : (old new : Pairs) → length new ≡ length old → ((k : ℕ) → k < length old → (at_or new k).1 ≡ (at_or old k).1) → with_froms (map (λ (c : ℕ × Versions). c.0) old) new ≡ old
unsettled [] [] count same = refl
unsettled [] (d ∷ new) count same = cc
unsettled (c ∷ old) [] count same = cc
unsettled (c ∷ old) (d ∷ new) count same =
    ap (λ (vs : Versions). (c.0, vs) ∷ with_froms (map (λ (c : ℕ × Versions). c.0) old) new) (same 0 (omega arith))
    ∙ ap (λ (cs : Pairs). c ∷ cs) (unsettled old new (omega (arith, count)) (λ k lt. same (suc k) (omega arith)))

all_kept : (unsure : Bool) (cell : ℕ × Versions) → (settled_cell unsure cell).1 ≡ cell.1
all_kept true cell = refl
all_kept false cell = refl

pub settled_back : {unsure : List Bool} {old new : Pairs} → SettledFrom unsure old new → with_froms (map (λ (c : ℕ × Versions). c.0) old) new ≡ old
settled_back {unsure} {old} {new} s = unsettled old new s.count (λ k lt. ap (λ (c : ℕ × Versions). c.1) (s.each k lt) ∙ all_kept (get_or unsure k false) (at_or old k))

settled_versions : (unsure : Bool) (cell : ℕ × Versions) → cell.0 < length cell.1 → versions_in (settled_cell unsure cell) ≡ cond unsure (versions_in cell) (newest (versions_in cell))
settled_versions true cell lt = refl
settled_versions false cell lt =
    ap (λ n. drop n cell.1) (the_last)
    ∙ sym (drop-drop (length (drop cell.0 cell.1) - 1) cell.0 cell.1)
  where
    the_last : length cell.1 - 1 ≡ cell.0 + (length (drop cell.0 cell.1) - 1)
    the_last = omega (arith, length-drop cell.0 cell.1, lt)

pub settles : {unsure : List Bool} {old new : Pairs} → SettledFrom unsure old new → ((k : ℕ) → k < length old → (at_or old k).0 < length (at_or old k).1) → Settles unsure (content_of old) (content_of new)
settles {unsure} {old} {new} s some = record {
  count = length-map new versions_in ∙ s.count ∙ sym (length-map old versions_in);
  each = λ k lt. each k (omega (arith, lt, length-map old versions_in));
}
  where
    each : (k : ℕ) → k < length old → versions_of (content_of new) k ≡ cond (get_or unsure k false) (versions_of (content_of old) k) (newest (versions_of (content_of old) k))
    each k lt =
        versions_at new k (omega (arith, lt, s.count))
        ∙ ap versions_in (s.each k lt)
        ∙ settled_versions (get_or unsure k false) (at_or old k) (some k lt)
        ∙ ap (λ (vs : Versions). cond (get_or unsure k false) vs (newest vs)) (sym (versions_at old k lt))

-- a cell of a list that has become another
pub cell_set : (items : List Cell) (at : ℕ) (cell next : Cell) → at < length items → cell ≡ get_or items at cell → (c : ℕ × Versions) → cell_of next ≡ c → cells_of (set items at next) ≡ set (cells_of items) at c
cell_set items at cell next lt is c same = map-set cell_of items at next ∙ ap (λ (x : ℕ × Versions). set (cells_of items) at x) same

pub cell_read : (items : List Cell) (at : ℕ) (cell : Cell) → at < length items → cell ≡ get_or items at cell → at_or (cells_of items) at ≡ cell_of cell
cell_read items at cell lt is = get_or-map cell_of items at cell (0, []) lt ∙ ap cell_of (sym is)

pub cell_same : (items : List Cell) (at : ℕ) (cell next : Cell) → at < length items → cell ≡ get_or items at cell → cell_of next ≡ cell_of cell → cells_of (set items at next) ≡ cells_of items
cell_same items at cell next lt is same =
    cell_set items at cell next lt is _ (same ∙ sym (cell_read items at cell lt is)) ∙ set-get_or (cells_of items) at (0, [])

pub cell_added : (items : List Cell) (at : ℕ) (bytes : Block) (cell next : Cell) → at < length items → cell ≡ get_or items at cell → cell_of next ≡ ((cell_of cell).0, (cell_of cell).1 ++ bytes ∷ []) → cells_of (set items at next) ≡ with_version at bytes (cells_of items)
cell_added items at bytes cell next lt is same =
    cell_set items at cell next lt is _ (same ∙ ap (λ (c : ℕ × Versions). (c.0, c.1 ++ bytes ∷ [])) (sym (cell_read items at cell lt is)))

-- while cells are settled
pub record SettledUpto (i : ℕ) (unsure : List Bool) (old new : List Cell) : Type 0 where
  pub count : length new ≡ length old
  pub done : (k : ℕ) → k < i → at_or (cells_of new) k ≡ settled_cell (get_or unsure k false) (at_or (cells_of old) k)
  pub left : (k : ℕ) → i ≤ k → at_or (cells_of new) k ≡ at_or (cells_of old) k

pub settled_none : (unsure : List Bool) (old : List Cell) → SettledUpto 0 unsure old old
settled_none unsure old = record { count = refl; done = λ k lt. absurd (omega arith); left = λ k le. refl }

pub settled_more : (i : ℕ) (unsure : List Bool) (flag : Bool) (old new : List Cell) (cell next : Cell) → SettledUpto i unsure old new → i < length new → cell ≡ get_or new i cell → flag ≡ get_or unsure i false → cell_of next ≡ settled_cell flag (cell_of cell) → SettledUpto (i + 1) unsure old (set new i next)
settled_more i unsure flag old new cell next s lt is flag_is same = record {
  count = length-set new i next ∙ s.count;
  done = λ k below. ⊎_elim
      (λ here. subst (λ (n : ℕ). at_or (cells_of (set new i next)) n ≡ settled_cell (get_or unsure n false) (at_or (cells_of old) n)) (sym here) at_i)
      (λ ne. ap (λ (cs : Pairs). at_or cs k) sets ∙ get_or-set_other (cells_of new) i k _ (0, []) ne ∙ s.done k (omega (arith, below, ne)))
      (cases_eq k i);
  left = λ k above. ap (λ (cs : Pairs). at_or cs k) sets ∙ get_or-set_other (cells_of new) i k _ (0, []) (omega (arith, above)) ∙ s.left k (omega (arith, above));
}
  where
    sets : cells_of (set new i next) ≡ set (cells_of new) i (settled_cell flag (cell_of cell))
    sets = cell_set new i cell next lt is _ same

    at_i : at_or (cells_of (set new i next)) i ≡ settled_cell (get_or unsure i false) (at_or (cells_of old) i)
    at_i = ap (λ (cs : Pairs). at_or cs i) sets
        ∙ get_or-set_same (cells_of new) i _ (0, []) (omega (arith, lt, length-map new cell_of))
        ∙ ap (λ (b : Bool). settled_cell b (cell_of cell)) flag_is
        ∙ ap (λ (c : ℕ × Versions). settled_cell (get_or unsure i false) c) (sym (cell_read new i cell lt is) ∙ s.left i (omega arith))

pub settled_all : (i : ℕ) (unsure : List Bool) (old new : List Cell) → SettledUpto i unsure old new → length old ≤ i → SettledFrom unsure (cells_of old) (cells_of new)
settled_all i unsure old new s le = record {
  count = length-map new cell_of ∙ s.count ∙ sym (length-map old cell_of);
  each = λ k lt. s.done k (omega (arith, lt, le, length-map old cell_of));
}

-- the last version of a cell
pub last_version : (cell : Cell) (last : Version) → last ≡ get_or cell.all.items (length cell.all.items - 1) last → last.bytes.items ≡ latest_of (versions_in (cell_of cell))
last_version cell last is =
    let all = map bytes_of cell.all.items in
    let some = cell.some in
    let long = length-map cell.all.items bytes_of in
    let n = length cell.all.items - 1 in
    ap bytes_of is
    ∙ sym (get_or-map bytes_of cell.all.items n last [] (omega (arith, some)))
    ∙ ap (λ (k : ℕ). get_or all k []) (omega (arith, some, long, length-drop cell.from all))
    ∙ sym (get_or-drop cell.from all (length (drop cell.from all) - 1) [])

pub read_version : (cells : List Cell) (at : ℕ) (cell : Cell) (b : Block) → at < length cells → cell ≡ get_or cells at cell → b ≡ latest_of (versions_in (cell_of cell)) → b ≡ latest_of (versions_of (content_of (cells_of cells)) at)
read_version cells at cell b lt is latest =
    latest ∙ ap latest_of (sym (versions_at (cells_of cells) at (omega (arith, lt, length-map cells cell_of)) ∙ ap versions_in (cell_read cells at cell lt is)))

-- the last version is one of them
pub has_latest : (cells : List Cell) (at : ℕ) (b : Block) → at < length cells → b ≡ latest_of (versions_of (content_of (cells_of cells)) at) → Contains (versions_of (content_of (cells_of cells)) at) b
has_latest cells at b lt is =
    let versions = versions_of (content_of (cells_of cells)) at in
    let here : at < length (cells_of cells) = omega (arith, lt, length-map cells cell_of) in
    let some : 0 < length versions = omega (arith, has_some cells at lt, ap length (versions_at (cells_of cells) at here), length-drop (at_or (cells_of cells) at).0 (at_or (cells_of cells) at).1) in
    subst (λ (b : Block). Contains versions b) (sym is) (Contains-get_or versions (length versions - 1) [] (omega (arith, some)))

-- a write and a sync
pub wrote : (at : ℕ) (bytes : Block) (cells next : List Cell) → at < length cells → cells_of next ≡ with_version at bytes (cells_of cells) → Appends at bytes (content_of (cells_of cells)) (content_of (cells_of next))
wrote at bytes cells next lt is =
    let some = has_some cells at lt in
    subst (λ (cs : Pairs). Appends at bytes (content_of (cells_of cells)) (content_of cs)) (sym is) (added at bytes (cells_of cells) (omega (arith, lt, length-map cells cell_of)) (omega (arith, some)))

pub wrote_passes : (at : ℕ) (bytes : Block) (cells next : List Cell) (changes later : List Change) → at < length cells → cells_of next ≡ with_version at bytes (cells_of cells) → later ≡ changes ++ Wrote at ∷ [] → Passes (content_of (cells_of cells)) (content_of (cells_of next)) (moments_at (cells_of cells) changes) (moments_at (cells_of next) later)
wrote_passes at bytes cells next changes later lt is noted =
    changed _ (Wrote at) (cells_of cells) (cells_of next) changes later noted
    (ap (λ (cs : Pairs). undone (Wrote at) cs) is ∙ unwritten at bytes (cells_of cells) (omega (arith, lt, length-map cells cell_of)))

pub synced : (unsure : List Bool) (cells next : List Cell) → SettledFrom unsure (cells_of cells) (cells_of next) → Settles unsure (content_of (cells_of cells)) (content_of (cells_of next))
synced unsure cells next s = settles s (λ k lt. has_some cells k (omega (arith, lt, length-map cells cell_of)))

pub synced_passes : (unsure : List Bool) (froms : Vec ℕ Global) (cells next : List Cell) (changes later : List Change) → SettledFrom unsure (cells_of cells) (cells_of next) → later ≡ changes ++ Settled froms ∷ [] → froms.items ≡ map (λ (c : ℕ × Versions). c.0) (cells_of cells) → Passes (content_of (cells_of cells)) (content_of (cells_of next)) (moments_at (cells_of cells) changes) (moments_at (cells_of next) later)
synced_passes unsure froms cells next changes later s noted is =
    changed _ (Settled froms) (cells_of cells) (cells_of next) changes later noted
    (ap (λ (fs : List ℕ). with_froms fs (cells_of next)) is ∙ settled_back s)

pub same_passes : (cells next : List Cell) (changes later : List Change) → cells_of next ≡ cells_of cells → later ≡ changes → Passes (content_of (cells_of cells)) (content_of (cells_of next)) (moments_at (cells_of cells) changes) (moments_at (cells_of next) later)
same_passes cells next changes later a b = record {
  either = inr (ap content_of a, ap (λ (cs : Pairs). moments_at cs later) a ∙ ap (λ (ch : List Change). moments_at (cells_of cells) ch) b);
}

pub count_versions : (cells : List Cell) (at : ℕ) (cell : Cell) → at < length cells → cell ≡ get_or cells at cell → length (versions_of (content_of (cells_of cells)) at) ≡ length cell.all.items - cell.from
count_versions cells at cell lt is =
    ap length (versions_at (cells_of cells) at (omega (arith, lt, length-map cells cell_of)) ∙ ap versions_in (cell_read cells at cell lt is))
    ∙ length-drop cell.from (map bytes_of cell.all.items)
    ∙ ap (λ n. n - cell.from) (length-map cell.all.items bytes_of)

-- cells that have one version each
abbrev pub ones : List Block → Pairs
ones blocks = map (λ (b : Block). (0, b ∷ [])) blocks

pub content-ones : (blocks : List Block) → content_of (ones blocks) ≡ map (λ (b : Block). b ∷ []) blocks
content-ones [] = refl
content-ones (b ∷ blocks) = ap (λ (c : Content). (b ∷ []) ∷ c) (content-ones blocks)

pub ones-push : (cells : List Cell) (cell : Cell) (blocks : List Block) (b : Block) → cells_of cells ≡ ones blocks → cell_of cell ≡ (0, b ∷ []) → cells_of (cells ++ cell ∷ []) ≡ ones (blocks ++ b ∷ [])
ones-push cells cell blocks b is one = map_push cell_of cells cell ∙ ap (λ (cs : Pairs). cs ++ cell_of cell ∷ []) is ∙ ap (λ (c : ℕ × Versions). ones blocks ++ c ∷ []) one ∙ sym (map_push (λ (b : Block). (0, b ∷ [])) blocks b)

pub map-replicate : {X Y : Type 0} (f : X → Y) (n : ℕ) (x : X) → map f (replicate n x) ≡ replicate n (f x)
map-replicate f zero x = refl
map-replicate f (suc n) x = ap (λ ys. f x ∷ ys) (map-replicate f n x)

pub count-cells : (cells : List Cell) (blocks : List Block) → cells_of cells ≡ ones blocks → length cells ≡ length blocks
count-cells cells blocks is = sym (length-map cells cell_of) ∙ ap length is ∙ length-map blocks _

pub version_read : (cells : List Cell) (i : ℕ) (cell : Cell) (pick : ℕ) (version : Version) → i < length cells → cell ≡ get_or cells i cell → cell.from + pick < length cell.all.items → version ≡ get_or cell.all.items (cell.from + pick) version → version.bytes.items ≡ get_or (versions_of (content_of (cells_of cells)) i) pick []
version_read cells i cell pick version lt is within v_is = sym (
    ap (λ (vs : Versions). get_or vs pick []) (versions_at (cells_of cells) i (omega (arith, lt, length-map cells cell_of)) ∙ ap versions_in (cell_read cells i cell lt is))
    ∙ get_or-drop cell.from (map bytes_of cell.all.items) pick []
    ∙ get_or-map bytes_of cell.all.items (cell.from + pick) version [] within
    ∙ ap bytes_of (sym v_is))

pub picked_more : (picks : List ℕ) (content : Content) (i : ℕ) → i < length picks → length picks ≡ length content → picked (take (suc i) picks) content ≡ picked (take i picks) content ++ get_or (versions_of content i) (get_or picks i 0) [] ∷ []
picked_more [] content i lt e = absurd (omega arith)
picked_more (p ∷ picks) [] i lt e = cc
picked_more (p ∷ picks) (v ∷ content) zero lt e = refl
picked_more (p ∷ picks) (v ∷ content) (suc i) lt e = ap (λ (bs : List Block). get_or v p [] ∷ bs) (picked_more picks content i (omega arith) (omega (arith, e)))

pub length-picked : (picks : List ℕ) (content : Content) → length picks ≡ length content → length (picked picks content) ≡ length picks
length-picked [] content e = refl
length-picked (p ∷ picks) [] e = cc
length-picked (p ∷ picks) (v ∷ content) e = ap suc (length-picked picks content (omega (arith, e)))

pub length-content : (cells : List Cell) → length (content_of (cells_of cells)) ≡ length cells
length-content cells = length-map (cells_of cells) versions_in ∙ length-map cells cell_of

picked_at : (picks : List ℕ) (content : Content) (k : ℕ) → length picks ≡ length content → k < length content → get_or (picked picks content) k [] ≡ get_or (versions_of content k) (get_or picks k 0) []
picked_at picks [] k e lt = absurd (omega arith)
picked_at [] (v ∷ content) k e lt = cc
picked_at (p ∷ picks) (v ∷ content) zero e lt = refl
picked_at (p ∷ picks) (v ∷ content) (suc k) e lt = picked_at picks content k (omega (arith, e)) (omega arith)

-- picked versions are an image
pub picked_image : (picks : List ℕ) (content : Content) → length picks ≡ length content → ((k : ℕ) → k < length picks → get_or picks k 0 < length (versions_of content k)) → IsImage content (picked picks content)
picked_image picks content e within = record {
  count = length-picked picks content e ∙ e;
  each = λ k lt. subst (λ (b : Block). Contains (versions_of content k) b) (sym (picked_at picks content k e lt)) (Contains-get_or (versions_of content k) (get_or picks k 0) [] (within k (omega (arith, e, lt))));
}
