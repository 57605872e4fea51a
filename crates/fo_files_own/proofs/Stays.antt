-- What stays where a directory's own record is made ready.
use Rattle.std.proofs.Common.{◌≡◌, ◌⊎◌, ◌+◌, ◌≤◌, ℕ, inl, inr, ap, sym, subst, ◌∙◌, arith}
use Rattle.std.specs.Prelude.{Result, Ok, Err, IfOk, OnErr}
use Rattle.fo_base.specs.Cause.{Rose}
use Rattle.fo_image.specs.declared.types.Label.{Label}
use Rattle.fo_ports.specs.declared.error.BlockError.{BlockError}
use Rattle.fo_ports.specs.declared.error.BlockError.TheVariants.{Full, Damaged, Fault, Arena, Memory}
use Rattle.fo_ports.specs.Causes.{Caused}
use Rattle.fo_ports.specs.State.{State, KeepsAll, Looks}
use Rattle.fo_files_dir.specs.declared.dir.DirAt.{DirAt}
use Rattle.fo_files_dir.specs.declared.dir.FileAt.{FileAt}
use Rattle.fo_files_dir.specs.Dir.{IsDirAt, IsFileAt, IsPairAt}
use Rattle.fo_files_dir.proofs.Dirs.{pair_keeps}
use Rattle.fo_files_record.specs.Leaf.{IsEntriesAt}
use Rattle.fo_files_record.proofs.Rooted.{root_looks}
use Rattle.fo_files_ready.specs.Ready.{IsLeafOf}
use Rattle.fo_files_ready.proofs.Steps.{pair_over, entries_over}
use Rattle.fo_files_own.specs.declared.at.OwnAt.{OwnAt}
use Rattle.fo_files_own.specs.declared.at.OwnAt.TheVariants as place
use Rattle.fo_files_own.specs.Own.{AltersOwn, IsLive, IsOwnAt}

pub live_looks : {s u : State} (b : ℕ) → Looks s u → IsLive s b → IsLive u b
live_looks b looks is = ap (λ (l : Label). l.state) (looks.stays.labels b (λ n. n)) ∙ is

entries_looks : (s u : State) (e : ℕ) → KeepsAll s u → Looks s u → IsEntriesAt s e → IsEntriesAt u e
entries_looks s u e all looks is =
    let same = looks.stays.labels e (λ n. n) in
    record {
      is_one = (all.same_blocks e).1 is.is_one;
      is_pinned = (looks.stays.marks e (λ n. n)).0 is.is_pinned;
      live = ap (λ (l : Label). l.state) same ∙ is.live;
      current = ap (λ (l : Label). l.epoch) same ∙ is.current ∙ sym all.same_high;
      leaf_kind = ap (λ (l : Label). l.kind) same ∙ is.leaf_kind;
    }

module _ (B : Type 0) (state : B → State) (keeps : B → B → Type 0) (all : (a b : B) → keeps a b → KeepsAll (state a) (state b)) where
  pub pair_own : (old new : B) (at : OwnAt) → keeps old new → AltersOwn B state keeps old new at → (b j : ℕ) → IsPairAt (state old) b j → IsPairAt (state new) b j
  pair_own old new (place.Root root) kept looks b j is = pair_keeps (state old) (state new) b j (all old new kept) (looks.stays.labels b (λ n. n)) (looks.stays.marks b (λ n. n)).0 is
  pair_own old new (place.Below w) kept x b j is = pair_over (state old) (state x.0) (state new) w.dir (IsLeafOf w.dir (state x.0)) (all old x.0 x.2) (all x.0 new x.3) x.1 x.4 b j is

  pub dir_own : (old new : B) (at : OwnAt) → keeps old new → AltersOwn B state keeps old new at → (d : DirAt) → IsDirAt (state old) d → IsDirAt (state new) d
  dir_own old new at kept x d is = record { pair = pair_own old new at kept x d.at d.slot is.pair; ranked = is.ranked; least = is.least; most = is.most }

  pub file_own : (old new : B) (at : OwnAt) → keeps old new → AltersOwn B state keeps old new at → (f : FileAt) → IsFileAt (state old) f → IsFileAt (state new) f
  file_own old new at kept x f is = record { pair = pair_own old new at kept x f.at f.slot is.pair; ranked = is.ranked; most = is.most }

  pub entries_own : (old new : B) (at : OwnAt) → keeps old new → AltersOwn B state keeps old new at → (e : ℕ) → IsEntriesAt (state old) e → IsEntriesAt (state new) e
  entries_own old new (place.Root root) kept looks e is = entries_looks (state old) (state new) e (all old new kept) looks is
  entries_own old new (place.Below w) kept x e is = entries_over (state old) (state x.0) (state new) w.dir (IsLeafOf w.dir (state x.0)) (all old x.0 x.2) (all x.0 new x.3) x.1 x.4 e is

  pub own_at : (old new : B) (at : OwnAt) → keeps old new → AltersOwn B state keeps old new at → IsOwnAt (state old) at → IsOwnAt (state new) at
  own_at old new (place.Root root) kept looks is = (root_looks root (all old new kept) looks is.0, live_looks root looks is.1)
  own_at old new (place.Below w) kept x is = (dir_own old new (place.Below w) kept x w.dir is.0, entries_own old new (place.Below w) kept x w.entries is.1)

-- what is so anyway
pub for_ok : {T E : Type 0} (r : Result T E) (P : Type 0) → P → IfOk r (λ x. P)
for_ok (Ok x) P h = h
for_ok (Err e) P h = tt

pub for_err : {T E : Type 0} (r : Result T E) (P : Type 0) → P → OnErr r P
for_err (Ok x) P h = tt
for_err (Err e) P h = h

pub no_more : (n m : ℕ) → m ≡ n → n ≤ m + 0
no_more n m e = omega (arith, e)

-- a refusal of fewer kinds
pub wider : (s u : State) (damaged : ℕ → Type 0) → ((b : ℕ) → damaged b → s.is_block b ⊎ (b ≡ 1)) → (why : BlockError) → Caused ⊥ damaged (Rose s.faults u.faults) ⊥ why → Caused ⊥ (λ b. s.is_block b ⊎ (b ≡ 1)) (Rose s.faults u.faults) (Rose s.arena_faults u.arena_faults) why
wider s u damaged more Full cause = cause
wider s u damaged more (Damaged b) cause = more b cause
wider s u damaged more (Fault which) cause = cause
wider s u damaged more (Arena which) cause = absurd cause
wider s u damaged more Memory cause = cause

pub of_record : (s u : State) (root : ℕ) (why : BlockError) → s.is_block root → (why ≡ Memory) ⊎ (why ≡ Damaged root) → Caused ⊥ (λ b. s.is_block b ⊎ (b ≡ 1)) (Rose s.faults u.faults) (Rose s.arena_faults u.arena_faults) why
of_record s u root why is (inl e) = subst (λ w. Caused ⊥ (λ b. s.is_block b ⊎ (b ≡ 1)) (Rose s.faults u.faults) (Rose s.arena_faults u.arena_faults) w) (sym e) tt
of_record s u root why is (inr e) = subst (λ w. Caused ⊥ (λ b. s.is_block b ⊎ (b ≡ 1)) (Rose s.faults u.faults) (Rose s.arena_faults u.arena_faults) w) (sym e) (inl is)
