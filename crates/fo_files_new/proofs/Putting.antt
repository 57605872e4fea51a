-- A pair and a record are put.
use Rattle.std.proofs.Common.{◌≡◌, ◌≢◌, ◌⊎◌, ◌+◌, ◌-◌, ◌*◌, ◌/◌, ◌%◌, ◌≤◌, ℕ, Bool, true, false, List, length, inl, inr, ⊎_elim, sym, ap, subst, ◌∙◌, arith}
use Rattle.fo_base.specs.Cause.{Rose}
use Rattle.fo_image.specs.declared.types.Label.{Label}
use Rattle.fo_image.specs.declared.record.Record.{Record}
use Rattle.fo_image.specs.Record.{RecordHolds}
use Rattle.fo_meta.specs.Leaf.{IsLeaf}
use Rattle.fo_ports.specs.declared.error.BlockError.{BlockError}
use Rattle.fo_ports.specs.declared.error.BlockError.TheVariants.{Full, Damaged, Fault, Arena, Memory}
use Rattle.fo_ports.specs.Causes.{Caused}
use Rattle.fo_ports.specs.State.{State, AddsNoWait, KeepsAll, Looks, none}
use Rattle.fo_looks.proofs.Looks.{rose_later}
use Rattle.fo_dir_add.specs.of_dir_put.Paired.{HasBoth}
use Rattle.fo_dir_add.specs.of_dir_put.Puts.{IsOwnedEntries, IsOwnedRecords, StaysCalm}
use Rattle.fo_dir_add.specs.Adds.{HasAdded, IsNumbered, IsRaised}
use Rattle.fo_files_dir.specs.declared.dir.DirAt.{DirAt}
use Rattle.fo_files_leaf.specs.Leaf.{IsOwnLeaf}
use Rattle.fo_files_leaf.proofs.Altering.{not_made, same_use, alters_looks, alters_joins}
use Rattle.fo_files_new.specs.declared.pair.Leaves.{Leaves}
use Rattle.fo_files_new.specs.New.{IsSlotOf, IsTagOf, IsAboveOf, IsLeafOf, AltersDir, AreOwn, IsPut}

-- ---- what is asked of the two leaves

pub owned_records : (s m : State) (tag leaf : ℕ) → KeepsAll s m → Looks s m → (s.tells → ⊥) → ((b : ℕ) → m.covered b → m.tells) → IsOwnLeaf s tag false leaf → IsOwnedRecords m leaf
owned_records s m tag leaf all looks silent told own =
    let same = looks.stays.labels leaf (λ n. n) in
    record {
      is_pinned = (looks.stays.marks leaf (λ n. n)).0 own.is_pinned;
      current = ap (λ (l : Label). l.epoch) same ∙ own.current ∙ sym all.same_high;
      leaf_kind = ap (λ (l : Label). l.kind) same ∙ own.leaf_kind;
      whole = ap (λ (z : List ℕ). length z) (looks.known leaf own.is_pinned).bytes ∙ own.whole;
      uncovered = λ h. silent (all.still_tells.0 (told leaf h));
      other = λ h. absurd (silent (all.still_tells.0 h));
    }

pub owned_entries : (s m : State) (tag leaf : ℕ) → KeepsAll s m → Looks s m → (s.tells → ⊥) → ((b : ℕ) → m.covered b → m.tells) → IsOwnLeaf s tag true leaf → IsOwnedEntries m leaf
owned_entries s m tag leaf all looks silent told own =
    let same = looks.stays.labels leaf (λ n. n) in
    record {
      is_pinned = (looks.stays.marks leaf (λ n. n)).0 own.is_pinned;
      current = ap (λ (l : Label). l.epoch) same ∙ own.current ∙ sym all.same_high;
      leaf_kind = ap (λ (l : Label). l.kind) same ∙ own.leaf_kind;
      linked = λ h. absurd (silent (all.still_tells.0 h));
      uncovered = λ h. silent (all.still_tells.0 (told leaf h));
    }

-- ---- what the put leaves

-- What `add_new` says of a record that was added.
pub record Adds (m u : State) (leaves : Leaves) (p : ℕ) (named r : Record) : Type 0 where
  pub added : HasAdded r ((m.now leaves.records).bytes) ((u.now leaves.records).bytes) × HasBoth leaves.entries u.now r
  pub bytes : (b : ℕ) → b ≢ leaves.records → (u.now b).bytes ≡ (m.now b).bytes
  pub slots : (b j : ℕ) → (b ≢ leaves.entries) ⊎ ((j ≢ 2 * p) × (j ≢ 2 * p + 1)) → (u.now b).slot j ≡ (m.now b).slot j
  pub calm : StaysCalm m u
  pub whole : length ((u.now leaves.records).bytes) ≡ 8192
  pub waits : u.waits leaves.records leaves.entries (2 * p) × u.waits leaves.records leaves.entries (2 * p + 1) × AddsNoWait (λ b. b ≡ leaves.records) m u

alters_put : (m u : State) (d : DirAt) (leaves : Leaves) (p : ℕ) (named r : Record) → leaves.entries ≢ d.at → leaves.records ≢ d.at → Adds m u leaves p named r → AltersDir d (IsLeafOf leaves) m u
alters_put m u d leaves p named r entries_ne records_ne x = record {
  labels = λ b not. x.calm.labels b;
  marks = λ b not. x.calm.marks b;
  made = λ b made. absurd (not_made m u b (x.calm.labels b) made);
  known = λ b is not not_put. record {
    bytes = x.bytes b (λ e. not_put (inr (inr (inr e))));
    slots = λ j. inl (x.slots b j (inl (λ e. not_put (inr (inr (inl e))))), λ h. x.calm.order.goes_on b j (λ n. n) h);
  };
  bytes = x.bytes d.at (λ e. records_ne (sym e));
  others = λ k no. inl (x.slots d.at k (inl (λ e. entries_ne (sym e))), λ h. x.calm.order.goes_on d.at k (λ n. n) h);
  uses = λ k still. same_use m u d.at k (x.slots d.at k (inl (λ e. entries_ne (sym e))));
  clearing = λ b j h. (λ made. not_made m u b (x.calm.labels b) made, (x.calm.order.clearing b j h).1);
  usable = let spare = x.calm.left.0 in let usable = x.calm.left.2 in omega (arith, spare, usable);
  numbers = x.calm.numbers;
}

own_put : (s m u : State) (tag leaf : ℕ) (dir : Bool) → KeepsAll s m → KeepsAll m u → Looks s m → StaysCalm m u → length ((u.now leaf).bytes) ≡ 8192 → IsOwnLeaf s tag dir leaf → IsOwnLeaf u tag dir leaf
own_put s m u tag leaf dir all more looks calm whole own =
    let same : u.label leaf ≡ s.label leaf = calm.labels leaf ∙ looks.stays.labels leaf (λ n. n) in
    record {
      is_one = (more.same_blocks leaf).1 ((all.same_blocks leaf).1 own.is_one);
      is_pinned = (calm.marks leaf).0 ((looks.stays.marks leaf (λ n. n)).0 own.is_pinned);
      live = ap (λ (l : Label). l.state) same ∙ own.live;
      current = ap (λ (l : Label). l.epoch) same ∙ own.current ∙ sym all.same_high ∙ sym more.same_high;
      tagged = ap (λ (l : Label). l.tag) same ∙ own.tagged;
      leaf_kind = ap (λ (l : Label). l.kind) same ∙ own.leaf_kind;
      whole = whole;
    }

pair_number : (k : ℕ) → 102 * (k / 102) + k % 102 ≡ k
pair_number k = omega arith

odd_even : (n m : ℕ) → 32 + 2 * n ≡ 33 + 2 * m → ⊥
odd_even n m e = omega (arith, e)

pub is_put : (s m u : State) (d : DirAt) (pair : ℕ) (leaves : Leaves) (named r : Record) → KeepsAll s m → KeepsAll m u → Looks s m → s.pinned d.at → leaves.entries ≢ d.at → leaves.records ≢ d.at → AreOwn s d leaves
    → Adds m u leaves (pair % 102) named r → IsNumbered named (102 * (pair / 102) + pair % 102) r.generation r → IsRaised ((m.now leaves.entries).slot (2 * (pair % 102))) r.generation → RecordHolds r → IsLeaf ((m.now leaves.records).bytes) → IsPut s m u d pair leaves named r
is_put s m u d pair leaves named r all more looks pinned entries_ne records_ne own x numbered raised holds leaf = record {
  numbered = subst (λ n. IsNumbered named n r.generation r) (pair_number pair) numbered;
  holds = holds;
  raised = subst (λ z. IsRaised z r.generation) ((looks.known leaves.entries own.entries_own.is_pinned).slots (2 * (pair % 102))) raised;
  has_pair = x.added.1;
  was_leaf = subst IsLeaf (looks.known leaves.records own.records_own.is_pinned).bytes leaf;
  others = λ k first second. x.slots leaves.entries k (inr (first, second)) ∙ (looks.known leaves.entries own.entries_own.is_pinned).slots k;
  looks = looks;
  calm = x.calm;
  waits = (x.waits.0, x.waits.1);
  no_wait = x.waits.2;
  listed = subst (λ (z : List ℕ). HasAdded r z ((u.now leaves.records).bytes)) (looks.known leaves.records own.records_own.is_pinned).bytes x.added.0;
  alters = alters_joins all (alters_looks d.at (IsSlotOf d) (IsTagOf d) (IsAboveOf d) (IsLeafOf leaves) s m pinned looks) (alters_put m u d leaves (pair % 102) named r entries_ne records_ne x);
  own = record {
    entries_own = own_put s m u (32 + 2 * d.number) leaves.entries true all more looks x.calm (ap (λ (z : List ℕ). length z) (x.bytes leaves.entries two ∙ (looks.known leaves.entries own.entries_own.is_pinned).bytes) ∙ own.entries_own.whole) own.entries_own;
    records_own = own_put s m u (33 + 2 * d.number) leaves.records false all more looks x.calm x.whole own.records_own;
  };
}
  where
    two : leaves.entries ≢ leaves.records
    two e = odd_even d.number d.number (sym own.entries_own.tagged ∙ ap (λ b. (s.label b).tag) e ∙ own.records_own.tagged)

-- a look at a leaf
pub look_alters : (s u : State) (d : DirAt) → s.pinned d.at → Looks s u → AltersDir d none s u
look_alters s u d pinned looks = alters_looks d.at (IsSlotOf d) (IsTagOf d) (IsAboveOf d) none s u pinned looks

pub leaf_rank : (d : ℕ) → d % 32 ≡ 8 → 40 ≤ d → (d - 24) % 32 ≡ 16
leaf_rank d ranked least = omega (arith, ranked, least)

-- ---- causes

-- the cause of a refusal, said of where a call before it began
pub caused_after : (a b c : State) → KeepsAll a b → KeepsAll b c → (why : BlockError) → Caused ⊥ (λ x. b.is_block x ⊎ (x ≡ 1)) (Rose b.faults c.faults) (Rose b.arena_faults c.arena_faults) why → Caused ⊥ (λ x. a.is_block x ⊎ (x ≡ 1)) (Rose a.faults c.faults) (Rose a.arena_faults c.arena_faults) why
caused_after a b c all more Full cause = cause
caused_after a b c all more (Damaged x) cause = ⊎_elim (λ is. inl ((all.same_blocks x).0 is)) (λ one. inr one) cause
caused_after a b c all more (Fault which) cause = rose_later a.faults b.faults c.faults all.more_faults cause
caused_after a b c all more (Arena which) cause = rose_later a.arena_faults b.arena_faults c.arena_faults all.more_arena_faults cause
caused_after a b c all more Memory cause = cause

-- a cause of fewer kinds
pub caused_wider : (a b : State) (damaged : ℕ → Type 0) → ((x : ℕ) → damaged x → a.is_block x ⊎ (x ≡ 1)) → (why : BlockError) → Caused ⊥ damaged (Rose a.faults b.faults) ⊥ why → Caused ⊥ (λ x. a.is_block x ⊎ (x ≡ 1)) (Rose a.faults b.faults) (Rose a.arena_faults b.arena_faults) why
caused_wider a b damaged wider Full cause = cause
caused_wider a b damaged wider (Damaged x) cause = wider x cause
caused_wider a b damaged wider (Fault which) cause = cause
caused_wider a b damaged wider (Arena which) cause = absurd cause
caused_wider a b damaged wider Memory cause = cause
