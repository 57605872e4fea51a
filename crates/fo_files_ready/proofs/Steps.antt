-- A leaf is made ready, and then a record moves.
use Rattle.std.proofs.Common.{◌≡◌, ◌⊎◌, ◌+◌, ◌-◌, ◌*◌, ◌%◌, ◌^◌, ◌≤◌, ◌<◌, ℕ, false, List, length, inl, inr, ⊎_elim, sym, ap, subst, ◌∙◌, arith}
use Rattle.std.proofs.lemmas.Bool.{cases_eq}
use Rattle.fo_base.specs.Cause.{Rose}
use Rattle.fo_image.specs.declared.types.Kind.{Kind}
use Rattle.fo_image.specs.declared.types.Label.{Label}
use Rattle.fo_ports.specs.declared.error.BlockError.{BlockError}
use Rattle.fo_ports.specs.declared.error.BlockError.TheVariants.{Full, Damaged, Fault, Arena, Memory}
use Rattle.fo_ports.specs.Causes.{Caused}
use Rattle.fo_ports.specs.State.{State, KeepsAll, Looks, none}
use Rattle.fo_ports.specs.Sources.{Made}
use Rattle.fo_dirties.proofs.of_looks.Looks.{rose_later}
use Rattle.fo_files_dir.specs.of_tree_open.Open.{HasEntry}
use Rattle.fo_files_dir.specs.declared.dir.DirAt.{DirAt}
use Rattle.fo_files_dir.specs.Dir.{IsDirAt, IsPairAt}
use Rattle.fo_files_dir.proofs.Dirs.{pair_keeps}
use Rattle.fo_files_change.specs.of_files_leaf.declared.open.LeafOf.{LeafOf}
use Rattle.fo_files_change.specs.of_files_leaf.Alters.{Alters, MayPut}
use Rattle.fo_files_change.specs.of_files_leaf.Leaf.{IsHolder, IsWanted, IsAbove, IsOwnLeaf}
use Rattle.fo_files_change.proofs.of_files_leaf.Altering.{alters_looks, alters_same, alters_joins}
use Rattle.fo_files_move.specs.of_files_record.Leaf.{IsEntriesAt}
use Rattle.fo_files_move.specs.of_files_record.Stays.{Rewrites, no_slot}
use Rattle.fo_files_move.proofs.of_files_record.Owned.{entries_stay}
use Rattle.fo_files_move.proofs.of_files_record.Rewriting.{rewrites_wider}
use Rattle.fo_files_move.specs.Moves.{HasMoved}
use Rattle.fo_files_change.specs.Records.{AltersRecords, records_of}
use Rattle.fo_files_change.proofs.Records.{dir_readied, dir_rewritten, entries_readied}
use Rattle.fo_files_ready.specs.Ready.{IsLeafOf}

-- ---- what is wanted

pub wanted_holder : (s : State) (d : DirAt) (i : ℕ) (w : LeafOf) → w ≡ records_of d i → IsDirAt s d → IsHolder s w.at w.slot
wanted_holder s d i w e is = subst (λ (x : LeafOf). IsHolder s x.at x.slot) (sym e) (record { is_one = is.pair.is_one; is_pinned = is.pair.is_pinned; live = is.pair.live; current = is.pair.current; leaf = is.pair.second })

low_rank : (rank : ℕ) → rank ≤ 2120 → rank - 24 < 2 ^ 31
low_rank rank most = omega (arith, most)

records_rank : (rank : ℕ) → rank % 32 ≡ 8 → 40 ≤ rank → (rank - 24) % 32 ≡ 16
records_rank rank ranked least = omega (arith, ranked, least)

pub wanted_is : (s : State) (d : DirAt) (i : ℕ) (w : LeafOf) → w ≡ records_of d i → IsDirAt s d → IsWanted w
wanted_is s d i w e is = subst (λ (x : LeafOf). IsWanted x) (sym e) (record { low = (low_rank d.rank is.most, omega arith); records = λ no_dir. records_rank d.rank is.ranked is.least })

pub wanted_records : (w : LeafOf) (d : DirAt) (i : ℕ) → w ≡ records_of d i → w.is_dir ≡ false
wanted_records w d i e = ap (λ (x : LeafOf). x.is_dir) e

pub wanted_alters : (s u : State) (d : DirAt) (i : ℕ) (w : LeafOf) → w ≡ records_of d i → Alters w.at (λ k. k ≡ w.slot) (λ t. t ≡ w.tag) (IsAbove w.tag w.is_dir) none s u → AltersRecords d s u
wanted_alters s u d i w e x = subst (λ (y : LeafOf). Alters y.at (λ k. k ≡ y.slot) (λ t. t ≡ y.tag) (IsAbove y.tag y.is_dir) none s u) e x

pub wanted_own : (u : State) (d : DirAt) (i leaf : ℕ) (w : LeafOf) → w ≡ records_of d i → IsOwnLeaf u w.tag w.is_dir leaf → IsLeafOf d u leaf
wanted_own u d i leaf w e own = subst (λ (y : LeafOf). IsOwnLeaf u y.tag y.is_dir leaf) e own

-- ---- what stays

pub looked : (s u : State) (d : DirAt) → s.pinned d.at → Looks s u → AltersRecords d s u
looked s u d pinned looks = alters_looks d.at (λ k. k ≡ d.slot + 1) (λ t. t ≡ 33 + 2 * d.number) (IsAbove (33 + 2 * d.number) false) none s u pinned looks

pub unchanged : (s : State) (d : DirAt) → AltersRecords d s s
unchanged s d = alters_same d.at (λ k. k ≡ d.slot + 1) (λ t. t ≡ 33 + 2 * d.number) (IsAbove (33 + 2 * d.number) false) none s

-- a leaf of records keeps what it has over what is done above the leaves
not_put : (s : State) (d : DirAt) (leaf : ℕ) → IsDirAt s d → IsLeafOf d s leaf → MayPut d.at (IsAbove (33 + 2 * d.number) false) none s leaf → ⊥
not_put s d leaf is own put = ⊎_elim
    (λ here. subst (λ (k : Kind). HasEntry k d.slot) (ap (λ b. (s.label b).kind) (sym here) ∙ own.leaf_kind) is.pair.first)
    (λ other. ⊎_elim (λ above. above.1.1 own.leaf_kind) (λ h. h) other)
    put

pub same_bytes : (s u : State) (d : DirAt) (leaf : ℕ) → IsDirAt s d → AltersRecords d s u → IsLeafOf d s leaf → (u.now leaf).bytes ≡ (s.now leaf).bytes
same_bytes s u d leaf is x own = (x.known leaf own.is_pinned (λ made. made.0 own.live) (not_put s d leaf is own)).bytes

pub leaf_kept : (s u : State) (d : DirAt) (leaf : ℕ) → KeepsAll s u → u.label leaf ≡ s.label leaf → (s.pinned leaf → u.pinned leaf) → length ((u.now leaf).bytes) ≡ 8192 → IsLeafOf d s leaf → IsLeafOf d u leaf
leaf_kept s u d leaf all same pin whole own = record {
  is_one = (all.same_blocks leaf).1 own.is_one;
  is_pinned = pin own.is_pinned;
  live = ap (λ (l : Label). l.state) same ∙ own.live;
  current = ap (λ (l : Label). l.epoch) same ∙ own.current ∙ sym all.same_high;
  tagged = ap (λ (l : Label). l.tag) same ∙ own.tagged;
  leaf_kind = ap (λ (l : Label). l.kind) same ∙ own.leaf_kind;
  whole = whole;
}

pub leaf_stays : (s u : State) (d : DirAt) (leaf : ℕ) → KeepsAll s u → IsDirAt s d → AltersRecords d s u → IsLeafOf d s leaf → IsLeafOf d u leaf
leaf_stays s u d leaf all is x own =
    let none_made : Made s u leaf → ⊥ = λ made. made.0 own.live in
    leaf_kept s u d leaf all (x.labels leaf none_made) (x.marks leaf none_made).0 (ap (λ (xs : List ℕ). length xs) (same_bytes s u d leaf is x own) ∙ own.whole) own

pub leaf_looks : (s u : State) (d : DirAt) (leaf : ℕ) → KeepsAll s u → Looks s u → IsLeafOf d s leaf → IsLeafOf d u leaf
leaf_looks s u d leaf all looks own =
    leaf_kept s u d leaf all (looks.stays.labels leaf (λ n. n)) (looks.stays.marks leaf (λ n. n)).0 (ap (λ (xs : List ℕ). length xs) (looks.known leaf own.is_pinned).bytes ∙ own.whole) own

-- a directory, a leaf of entries, and any pair, over both steps
pub dir_over : (s m u : State) (d : DirAt) (leaves : ℕ → Type 0) → KeepsAll s m → KeepsAll m u → AltersRecords d s m → Rewrites leaves no_slot m u → IsDirAt s d → IsDirAt u d
dir_over s m u d leaves first second x y is = dir_rewritten d second y (dir_readied d first x is)

pub entries_over : (s m u : State) (d : DirAt) (leaves : ℕ → Type 0) → KeepsAll s m → KeepsAll m u → AltersRecords d s m → Rewrites leaves no_slot m u → (e : ℕ) → IsEntriesAt s e → IsEntriesAt u e
entries_over s m u d leaves first second x y e is = entries_stay e second y (entries_readied d e first x is)

pub pair_over : (s m u : State) (d : DirAt) (leaves : ℕ → Type 0) → KeepsAll s m → KeepsAll m u → AltersRecords d s m → Rewrites leaves no_slot m u → (at j : ℕ) → IsPairAt s at j → IsPairAt u at j
pair_over s m u d leaves first second x y at j is =
    let none_made : Made s m at → ⊥ = λ made. made.0 is.live in
    pair_keeps m u at j second (y.labels at) (y.marks at).0 (pair_keeps s m at j first (x.labels at none_made) (x.marks at none_made).0 is)

pub leaf_rewritten : {s u : State} {leaves : ℕ → Type 0} (d : DirAt) (leaf : ℕ) → KeepsAll s u → Rewrites leaves no_slot s u → length ((u.now leaf).bytes) ≡ 8192 → IsLeafOf d s leaf → IsLeafOf d u leaf
leaf_rewritten {s = s} {u = u} d leaf all x whole own = leaf_kept s u d leaf all (x.labels leaf) (x.marks leaf).0 whole own

-- A leaf was owned, then another made ready, and then all was looked at: from here a record moves.
pub record Before (s c e : State) (d : DirAt) (from to : ℕ) : Type 0 where
  pub first : KeepsAll s c
  pub second : KeepsAll c e
  pub whole : KeepsAll s e
  pub is : IsDirAt s d
  pub alters : AltersRecords d s c
  pub looks : Looks c e
  pub from_own : IsLeafOf d s from
  pub to_own : IsLeafOf d c to

pub both_alter : {s c e : State} {d : DirAt} {from to : ℕ} → Before s c e d from to → AltersRecords d s e
both_alter {c = c} {e = e} {d = d} b = alters_joins b.first b.alters (looked c e d (dir_readied d b.first b.alters b.is).pair.is_pinned b.looks)

from_then : {s c e : State} {d : DirAt} {from to : ℕ} → Before s c e d from to → IsLeafOf d c from
from_then {s = s} {c = c} {d = d} {from = from} b = leaf_stays s c d from b.first b.is b.alters b.from_own

pub from_at : {s c e : State} {d : DirAt} {from to : ℕ} → Before s c e d from to → IsLeafOf d e from
from_at {c = c} {e = e} {d = d} {from = from} b = leaf_looks c e d from b.second b.looks (from_then b)

pub to_at : {s c e : State} {d : DirAt} {from to : ℕ} → Before s c e d from to → IsLeafOf d e to
to_at {c = c} {e = e} {d = d} {to = to} b = leaf_looks c e d to b.second b.looks b.to_own

pub from_same : {s c e : State} {d : DirAt} {from to : ℕ} → Before s c e d from to → (e.now from).bytes ≡ (s.now from).bytes
from_same {s = s} {c = c} {d = d} {from = from} b = (b.looks.known from (from_then b).is_pinned).bytes ∙ same_bytes s c d from b.is b.alters b.from_own

pub to_same : {s c e : State} {d : DirAt} {from to : ℕ} → Before s c e d from to → (e.now to).bytes ≡ (c.now to).bytes
to_same {to = to} b = (b.looks.known to b.to_own.is_pinned).bytes

pub entries_before : {s c e : State} {d : DirAt} {from to : ℕ} (entries : ℕ) → Before s c e d from to → IsEntriesAt s entries → IsEntriesAt e entries
entries_before {d = d} entries b is = entries_readied d entries b.whole (both_alter b) is

-- leaves that got their bytes again
pub rewrites_none : {s u : State} (from to : ℕ) → (u.now from).bytes ≡ (s.now from).bytes → (u.now to).bytes ≡ (s.now to).bytes → Rewrites (λ b. (b ≡ from) ⊎ (b ≡ to)) no_slot s u → Rewrites (λ b. ⊥) no_slot s u
rewrites_none {s = s} {u = u} from to one other x = record {
  labels = x.labels;
  marks = x.marks;
  bytes = λ b pinned away. ⊎_elim
      (λ is. subst (λ z. (u.now z).bytes ≡ (s.now z).bytes) (sym is) one)
      (λ no_from. ⊎_elim (λ is. subst (λ z. (u.now z).bytes ≡ (s.now z).bytes) (sym is) other) (λ no_to. x.bytes b pinned (λ h. ⊎_elim no_from no_to h)) (cases_eq b to))
      (cases_eq b from);
  slots = x.slots;
  clearing = x.clearing;
  left = x.left;
  numbers = x.numbers;
}

-- leaves of the directory got other bytes
pub rewrites_leaves : {s u : State} (d : DirAt) (from to : ℕ) → IsLeafOf d s from → IsLeafOf d s to → Rewrites (λ b. (b ≡ from) ⊎ (b ≡ to)) no_slot s u → Rewrites (IsLeafOf d s) no_slot s u
rewrites_leaves {s = s} d from to one other x = rewrites_wider (λ b h. ⊎_elim (λ is. subst (λ z. IsLeafOf d s z) (sym is) one) (λ is. subst (λ z. IsLeafOf d s z) (sym is) other) h) (λ b n h. h) x

pub moved_as : {name a b c e x y : List ℕ} → a ≡ c → b ≡ e → HasMoved name a b x y → HasMoved name c e x y
moved_as {name = name} {b = b} {c = c} {x = x} {y = y} p q h = subst (λ z. HasMoved name c z x y) q (subst (λ z. HasMoved name z b x y) p h)

-- ---- refusals

-- a later one that may be of the arena
pub failed_since : (a b c : State) → KeepsAll a b → KeepsAll b c → (why : BlockError) → Caused ⊥ (λ x. b.is_block x ⊎ (x ≡ 1)) (Rose b.faults c.faults) (Rose b.arena_faults c.arena_faults) why → Caused ⊥ (λ x. a.is_block x ⊎ (x ≡ 1)) (Rose a.faults c.faults) (Rose a.arena_faults c.arena_faults) why
failed_since a b c all later Full cause = cause
failed_since a b c all later (Damaged x) cause = ⊎_elim (λ h. inl ((all.same_blocks x).0 h)) (λ h. inr h) cause
failed_since a b c all later (Fault which) cause = rose_later a.faults b.faults c.faults all.more_faults cause
failed_since a b c all later (Arena which) cause = rose_later a.arena_faults b.arena_faults c.arena_faults all.more_arena_faults cause
failed_since a b c all later Memory cause = cause
