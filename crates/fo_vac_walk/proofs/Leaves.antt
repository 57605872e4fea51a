-- Leaves, their bytes and the entries in them.
use Rattle.std.proofs.Common.{◌≡◌, ◌∙◌, inr, ℕ, zero, suc, ◌+◌, ◌-◌, ◌*◌, ◌/◌, ◌%◌, ◌<◌, Bool, true, false, cond, bytes_eq, List, [], ◌∷◌, ◌++◌, take, drop, slice_index_or, Option, Some, None, Result, Ok, Err, MatchResult, refl, sym, ap, subst, arith}
use Rattle.std.proofs.lemmas.Bool.{lt-ltb}
use Rattle.fo_image.specs.declared.types.Kind.{Kind}
use Rattle.fo_image.specs.declared.types.Kind.TheVariants.{Data, Dir}
use Rattle.fo_image.specs.declared.types.Pointer.{Pointer}
use Rattle.fo_image.specs.declared.types.Pointer.TheVariants.{Nil}
use Rattle.fo_image.specs.Field.{zeros}
use Rattle.fo_image.specs.Format.{kind_code}
use Rattle.fo_crash.specs.declared.slot.Slot.TheVariants.{Pointer as To, Entry as Head}
use Rattle.fo_crash.specs.Images.{Link, target, meant, way, kind_below, kind_of_top, leaf_path, depth_of}
use Rattle.fo_good.specs.Trees.{size_of}
use Rattle.fo_vacput.specs.declared.types.TheConstants.{EMPTY}
use Rattle.fo_vacput.specs.declared.types.Tail.TheVariants.{Zeros}
use Rattle.fo_vacput.specs.declared.types.VacEntry.{VacEntry}
use Rattle.fo_vacput.specs.Cut.{tail_of, grown}
use Rattle.fo_vacput.specs.Vac.{SpellsVacEntry}
use Rattle.fo_vac_open.specs.Held.{held, slot_in, block_held, entry_in, entry_for}
use Rattle.fo_vac_open.specs.Tree.{no_image}
use Rattle.fo_vac_walk.specs.declared.block.Spot.{Spot}
use Rattle.fo_vac_walk.specs.declared.block.Got.{Got}
use Rattle.fo_vac_walk.specs.declared.source.Source.{Source}
use Rattle.fo_vac_walk.specs.declared.error.WalkError.{WalkError}
use Rattle.fo_vac_walk.specs.declared.error.WalkError.TheVariants.{Damaged}
use Rattle.fo_vac_walk.specs.Walk.{Holding, blocks_of, follows, bytes_of, next, leaf_of, entry_at, byte_of, kind_at, no_entry, IsSourceOf, IsForm, AreEntries, Found, HasNone, HasLeaf, FillsLeaf, Spoils, GotIs, Leading}
use Rattle.fo_vac_walk.proofs.Walks.{none_breaks, none_below, nil_pointer, way_leads, way_kind, way_code, way_bad, way_below}

-- the way to a leaf is as long as its source is deep
same_way : (h : Holding) (w : Link) (e : VacEntry) (k : ℕ) → IsSourceOf w e → leaf_of h w k ≡ follows h w (way e.depth k [])
same_way h w e k is = ap (λ d. follows h w (way d k [])) is.depth

-- ---- what a block is filled with

pub leaf_none : (h : Holding) (w : Link) (holder : ℕ) (e : VacEntry) (k : ℕ) (spot : Spot) (block : List ℕ) → IsSourceOf w e → Found h w holder e e.depth k spot → bytes_eq spot.score.0 EMPTY.0 ≡ true → block ≡ zeros 8192 → HasNone (leaf_of h w k) block
leaf_none h w holder e k spot block is f nil zero_is = record {
  leads = ap (λ (v : Link). target v.slot) (same_way h w e k is) ∙ f.leads ∙ nil_pointer spot.score.0 nil;
  bytes = zero_is;
}

pub leaf_some : (h : Holding) (w : Link) (holder : ℕ) (e : VacEntry) (k : ℕ) (spot : Spot) (kind : ℕ) (got : Got) (block : List ℕ) → IsSourceOf w e → Found h w holder e e.depth k spot → bytes_eq spot.score.0 EMPTY.0 ≡ false → kind ≡ kind_code (kind_at e.dir 0)
    → GotIs h spot.holder spot.score.0 kind got → block ≡ grown (tail_of kind) 8192 got.bytes.items → HasLeaf h w holder e.dir (leaf_of h w k) block got.at
leaf_some h w holder e k spot kind got block is f some kind_is g block_is =
    let none : 0 ≡ e.depth - e.depth = omega arith in
    let here : kind ≡ kind_code (kind_at e.dir (e.depth - e.depth)) = kind_is ∙ ap (λ l. kind_code (kind_at e.dir l)) none in
    let leads = way_leads h w holder e e.depth k spot kind f some here in
    let code = way_code h w holder e e.depth k spot kind f some here in
    let v : Link = follows h w (way e.depth k []) in
    subst (λ (leaf : Link). HasLeaf h w holder e.dir leaf block got.at) (sym (same_way h w e k is)) (record {
      score = spot.score;
      leads = leads;
      kind = way_kind h w holder e e.depth k spot kind f some here ∙ sym (ap (kind_at e.dir) none);
      bytes = block_is ∙ ap (grown (tail_of kind) 8192) g.bytes ∙ ap (λ c. block_held h.lines h.stored c spot.score) code ∙ sym (ap (λ (p : Pointer). (meant (blocks_of h) no_image v.kind p).bytes) leads);
      below = λ i. way_below h w holder e e.depth k spot kind f some here got.at i g.at;
      bad = λ no. way_bad h w holder e e.depth k spot kind f some here got.at g.at (inr no);
    })

-- ---- bytes

zero_at : (n j : ℕ) → slice_index_or (zeros n) j 0 ≡ 0
unfolding zeros
zero_at zero zero = refl
zero_at zero (suc j) = refl
zero_at (suc n) zero = refl
zero_at (suc n) (suc j) = zero_at n j

abbrev no_bytes : List ℕ
no_bytes = []

none_at : (j : ℕ) → slice_index_or no_bytes j 0 ≡ 0
none_at zero = refl
none_at (suc j) = refl

pub filled_byte : (h : Holding) (w : Link) (holder : ℕ) (e : VacEntry) (k : ℕ) (block : List ℕ) (found : Option ℕ) → FillsLeaf h w holder e k block found → (j : ℕ) → slice_index_or block j 0 ≡ slice_index_or (bytes_of h (leaf_of h w k)) j 0
filled_byte h w holder e k block None f j =
    ap (λ bytes. slice_index_or bytes j 0) f.bytes ∙ zero_at 8192 j
    ∙ sym (ap (λ (p : Pointer). slice_index_or ((meant (blocks_of h) no_image (leaf_of h w k).kind p).bytes) j 0) f.leads ∙ none_at j)
filled_byte h w holder e k block (Some at) f j = ap (λ bytes. slice_index_or bytes j 0) f.bytes

pub byte_here : (h : Holding) (w : Link) (place x : ℕ) → place % 8192 + x < 8192 → slice_index_or (bytes_of h (leaf_of h w (place / 8192))) (place % 8192 + x) 0 ≡ byte_of h w (place + x)
byte_here h w place x part =
    let same : place / 8192 ≡ (place + x) / 8192 = omega (arith, part) in
    let at : place % 8192 + x ≡ (place + x) % 8192 = omega (arith, part) in
    ap (λ k. slice_index_or (bytes_of h (leaf_of h w k)) (place % 8192 + x) 0) same ∙ ap (λ j. slice_index_or (bytes_of h (leaf_of h w ((place + x) / 8192))) j 0) at

-- ---- entries

follows_snoc : (h : Holding) (w : Link) (path : List ℕ) (i : ℕ) → follows h w (path ++ i ∷ []) ≡ next h (follows h w path) i
follows_snoc h w [] i = refl
follows_snoc h w (j ∷ path) i = follows_snoc h (next h w j) path i

entry_below : (h : Holding) (w : Link) (j : ℕ) → entry_at h w j ≡ next h (leaf_of h w (j / 204)) (j % 204)
entry_below h w j = follows_snoc h w (leaf_path w.slot (j / 204)) (j % 204)

-- no entry stands in this slot
no_source : (h : Holding) (w v : Link) (holder here : ℕ) → v.slot ≡ To Nil → Leading h w holder v no_entry here
no_source h w v holder here none = record {
  is = record { leads = ap target none; depth = ap depth_of none; size = ap size_of none; kind = λ some. absurd (some refl) };
  chain = λ at b. absurd (none_breaks h here at v (ap target none) b);
}

data_slot : (c : Kind) (block : List ℕ) (i : ℕ) → c ≡ Data 0 → slot_in c block i ≡ To Nil
data_slot c block i is = ap (λ x. slot_in x block i) is

-- what stands in slot `i` of a leaf that is held
leaf_slot : (h : Holding) (w : Link) (holder : ℕ) (dir : Bool) (leaf : Link) (block : List ℕ) (at i : ℕ) → HasLeaf h w holder dir leaf block at → (next h leaf i).slot ≡ slot_in leaf.kind block i
leaf_slot h w holder dir leaf block at i f =
    ap (λ (p : Pointer). (meant (blocks_of h) no_image leaf.kind p).slot i) f.leads
    ∙ ap (λ bytes. slot_in leaf.kind bytes i) (sym (f.bytes ∙ ap (λ (p : Pointer). (meant (blocks_of h) no_image leaf.kind p).bytes) f.leads))

pub entry_none : (h : Holding) (w : Link) (holder : ℕ) (e : VacEntry) (j here : ℕ) (block : List ℕ) → FillsLeaf h w holder e (j / 204) block None → Leading h w holder (entry_at h w j) no_entry here
entry_none h w holder e j here block f = no_source h w (entry_at h w j) holder here (ap (λ (v : Link). v.slot) (entry_below h w j) ∙ none_below h (leaf_of h w (j / 204)) (j % 204) f.leads)

pub entry_of_data : (h : Holding) (w : Link) (holder : ℕ) (e : VacEntry) (j here at : ℕ) (block : List ℕ) → e.dir ≡ false → FillsLeaf h w holder e (j / 204) block (Some at) → Leading h w holder (entry_at h w j) no_entry here
entry_of_data h w holder e j here at block data_is f =
    no_source h w (entry_at h w j) holder here (ap (λ (v : Link). v.slot) (entry_below h w j) ∙ leaf_slot h w holder e.dir (leaf_of h w (j / 204)) block at (j % 204) f ∙ data_slot (leaf_of h w (j / 204)).kind block (j % 204) (f.kind ∙ ap (λ d. kind_at d 0) data_is))

head_source : (v : Link) (e : VacEntry) → v.slot ≡ Head (entry_for e) → v.kind ≡ kind_of_top v.slot → IsSourceOf v e
head_source v e is kind_is = record {
  leads = ap target is;
  depth = ap depth_of is;
  size = ap size_of is;
  kind = λ some. kind_is ∙ ap kind_of_top is;
}

dir_slot : (c : Kind) (block : List ℕ) (i : ℕ) → i < 204 → c ≡ Dir 0 → slot_in c block i ≡ Head (entry_for (entry_in (take 40 (drop (40 * i) block))))
dir_slot c block i lt is = ap (λ x. slot_in x block i) is ∙ ap (λ b. cond b (Head (entry_for (entry_in (take 40 (drop (40 * i) block))))) (To Nil)) (lt-ltb i 204 lt)

pub entry_of_dir : (h : Holding) (w : Link) (holder : ℕ) (e : VacEntry) (j at : ℕ) (block : List ℕ) (entry : VacEntry) → e.dir ≡ true → FillsLeaf h w holder e (j / 204) block (Some at) → entry ≡ entry_in (take 40 (drop (40 * (j % 204)) block)) → Leading h w holder (entry_at h w j) entry at
entry_of_dir h w holder e j at block entry dir_is f is =
    let leaf = leaf_of h w (j / 204) in
    let kind_of : leaf.kind ≡ Dir 0 = f.kind ∙ ap (λ d. kind_at d 0) dir_is in
    let slot_of : (next h leaf (j % 204)).slot ≡ Head (entry_for entry) = leaf_slot h w holder e.dir leaf block at (j % 204) f ∙ dir_slot leaf.kind block (j % 204) (omega arith) kind_of ∙ ap (λ x. Head (entry_for x)) (sym is) in
    subst (λ (v : Link). Leading h w holder v entry at) (sym (entry_below h w j)) (record {
      is = head_source (next h leaf (j % 204)) entry slot_of (ap (λ c. kind_below c (next h leaf (j % 204)).slot) kind_of);
      chain = f.below (j % 204);
    })

-- a slot that has no entry
pub entry_spoils : (h : Holding) (w : Link) (holder : ℕ) (e : VacEntry) (j at : ℕ) (block : List ℕ) (x : WalkError) → e.dir ≡ true → FillsLeaf h w holder e (j / 204) block (Some at)
    → x ≡ Damaged at → ((entry : VacEntry) → ¬ SpellsVacEntry entry (take 40 (drop (40 * (j % 204)) block))) → Spoils h w holder x
entry_spoils h w holder e j at block x dir_is f is none =
    let leaf = leaf_of h w (j / 204) in
    let kind_of : leaf.kind ≡ Dir 0 = f.kind ∙ ap (λ d. kind_at d 0) dir_is in
    let block_is : block ≡ block_held h.lines h.stored (kind_code leaf.kind) f.score = f.bytes ∙ ap (λ (p : Pointer). (meant (blocks_of h) no_image leaf.kind p).bytes) f.leads in
    let there : grown Zeros 8192 (held h.lines h.stored f.score.0 (kind_code leaf.kind)) ≡ block = sym (block_is ∙ ap (λ c. grown (tail_of (kind_code c)) 8192 (held h.lines h.stored f.score.0 (kind_code leaf.kind))) kind_of) in
    let form : IsForm leaf.kind (held h.lines h.stored f.score.0 (kind_code leaf.kind)) → ⊥ = λ p.
    let entries : AreEntries block = subst AreEntries there (subst (λ c. IsForm c (held h.lines h.stored f.score.0 (kind_code leaf.kind))) kind_of p) in
    let one = entries (j % 204) (omega arith) in
    none one.0 one.1 in
    subst (Spoils h w holder) (sym is) (f.bad form)

pub entry_given : (h : Holding) (w : Link) (holder : ℕ) (e : VacEntry) (j at : ℕ) (block : List ℕ) → e.dir ≡ true → FillsLeaf h w holder e (j / 204) block (Some at) → (result : Result Source WalkError)
    → MatchResult result (λ s. (s.holder ≡ at) × (s.entry ≡ entry_in (take 40 (drop (40 * (j % 204)) block)))) (λ x. (x ≡ Damaged at) × ((entry : VacEntry) → ¬ SpellsVacEntry entry (take 40 (drop (40 * (j % 204)) block))))
    → MatchResult result (λ s. Leading h w holder (entry_at h w j) s.entry s.holder) (Spoils h w holder)
entry_given h w holder e j at block dir_is f (Ok s) is = subst (λ x. Leading h w holder (entry_at h w j) s.entry x) (sym is.0) (entry_of_dir h w holder e j at block s.entry dir_is f is.1)
entry_given h w holder e j at block dir_is f (Err x) is = entry_spoils h w holder e j at block x dir_is f is.0 is.1
