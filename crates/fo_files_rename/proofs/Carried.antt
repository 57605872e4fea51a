-- What was made ready stays so while the file changes.
use Rattle.std.proofs.Common.{◌≡◌, ◌≢◌, ◌⊎◌, ◌+◌, ◌*◌, ℕ, false, List, Option, inl, inr, ⊎_elim, sym, ap, subst, ◌∙◌, arith}
use Rattle.fo_image.specs.declared.types.Kind.{Kind}
use Rattle.fo_image.specs.declared.types.Kind.TheVariants.{Data, Dir, Root as RootKind}
use Rattle.fo_image.specs.declared.types.Label.{Label}
use Rattle.fo_image.specs.declared.record.Record.{Record}
use Rattle.fo_ports.specs.State.{State, KeepsAll, none}
use Rattle.fo_files_dir.specs.declared.dir.DirAt.{DirAt}
use Rattle.fo_files_dir.specs.declared.dir.FileAt.{FileAt}
use Rattle.fo_files_own.specs.of_files_leaf.Alters.{MayPut}
use Rattle.fo_files_own.specs.of_files_leaf.Leaf.{IsAbove}
use Rattle.fo_files_own.specs.of_files_record.Leaf.{IsEntriesAt}
use Rattle.fo_files_edit.specs.of_files_write.Alters.{MayChange, any_kind}
use Rattle.fo_files_own.specs.of_files_ready.Ready.{IsLeafOf}
use Rattle.fo_files_own.specs.declared.at.OwnAt.{OwnAt}
use Rattle.fo_files_own.specs.declared.at.OwnAt.TheVariants.{Root, Below}
use Rattle.fo_files_own.specs.declared.at.ReadyOwn.{ReadyOwn}
use Rattle.fo_files_own.specs.Own.{AltersOwn, HasReady, IsApartFrom, IsBlockOf, IsOwnAt, MayPutOwn}
use Rattle.fo_files_own.proofs.Carry.{block_on, has_ready_on, may_put_on, of_root}
use Rattle.fo_files_edit.specs.of_files_into.Into.{Edits}
use Rattle.fo_files_edit.proofs.Carry.{Same, same_joins, same_records, same_rewrites, same_edits}
use Rattle.fo_files_rename.specs.Rename.{IsBeside}

-- ---- kinds and tags that differ

root_data : (a : Kind) → a ≡ RootKind → a ≡ Data 0 → ⊥
root_data a x y = let h : RootKind ≡ Data 0 = sym x ∙ y in cc

root_dir : (a : Kind) → a ≡ RootKind → a ≡ Dir 0 → ⊥
root_dir a x y = let h : RootKind ≡ Dir 0 = sym x ∙ y in cc

data_dir : (a : Kind) → a ≡ Data 0 → a ≡ Dir 0 → ⊥
data_dir a x y = let h : Data 0 ≡ Dir 0 = sym x ∙ y in cc

odd_even : (n m : ℕ) → 33 + 2 * n ≡ 32 + 2 * m → ⊥
odd_even n m e = omega (arith, e)

same_half : (n m : ℕ) → 33 + 2 * n ≡ 33 + 2 * m → n ≡ m
same_half n m e = omega (arith, e)

-- ---- what a block with an own record is none of

-- nothing of the file or of the leaves of its directory's records is in such a block, whatever else changes
pub record IsAway (s : State) (dir : DirAt) (file : FileAt) (b : ℕ) : Type 1 where
  pub at : (b ≡ dir.at) ⊎ (MayPut dir.at (IsAbove (33 + 2 * dir.number) false) none s b → ⊥)
  pub leaf : (u : State) → u.label b ≡ s.label b → IsLeafOf dir u b → ⊥
  pub beside : (u : State) → u.label b ≡ s.label b → MayChange file.at (32 + 2 * file.number) any_kind u b → ⊥

-- the root block
away_root : (s : State) (dir : DirAt) (file : FileAt) (b : ℕ) → b ≡ dir.at → (s.label b).kind ≡ RootKind → IsEntriesAt s file.at → (s.label b).tag ≢ 32 + 2 * file.number → IsAway s dir file b
away_root s dir file b here kind entries other = record {
  at = inl here;
  leaf = λ u same own. root_data (u.label b).kind (ap (λ (l : Label). l.kind) same ∙ kind) own.leaf_kind;
  beside = λ u same may. ⊎_elim
      (λ at. root_dir (s.label b).kind kind (ap (λ k. (s.label k).kind) at ∙ entries.leaf_kind))
      (λ put. other (sym (ap (λ (l : Label). l.tag) same) ∙ put.1))
      may;
}

-- a leaf of the records of the directory above
away_leaf : (s : State) (dir above : DirAt) (file : FileAt) (b : ℕ) → IsLeafOf above s b → IsEntriesAt s dir.at → IsEntriesAt s file.at → above.number ≢ dir.number → IsAway s dir file b
away_leaf s dir above file b own entries pair apart = record {
  at = inr (λ may. ⊎_elim
      (λ here. data_dir (s.label b).kind own.leaf_kind (ap (λ k. (s.label k).kind) here ∙ entries.leaf_kind))
      (λ rest. ⊎_elim
      (λ put. apart (same_half above.number dir.number (sym own.tagged ∙ put.1.0)))
      (λ no. no)
      rest)
      may);
  leaf = λ u same is. apart (same_half above.number dir.number (sym own.tagged ∙ sym (ap (λ (l : Label). l.tag) same) ∙ is.tagged));
  beside = λ u same may. ⊎_elim
      (λ at. data_dir (s.label b).kind own.leaf_kind (ap (λ k. (s.label k).kind) at ∙ pair.leaf_kind))
      (λ put. odd_even above.number file.number (sym own.tagged ∙ sym (ap (λ (l : Label). l.tag) same) ∙ put.1))
      may;
}

root_kind : (s : State) (r : ReadyOwn) → MayPutOwn s r → r.from ≡ 104 → (s.label r.at).kind ≡ RootKind
root_kind s r may from = ⊎_elim (λ h. let e = h.0 in absurd (omega (arith, e, from))) (λ h. h.1) may.kind_is

pub own_away : (s : State) (dir : DirAt) (file : FileAt) (own : OwnAt) (r : ReadyOwn) → IsOwnAt s own → IsApartFrom dir own → IsBeside s own file.number → IsEntriesAt s file.at → IsBlockOf s own r → MayPutOwn s r → IsAway s dir file r.at
own_away s dir file (Root root) r at apart beside entries block may =
    away_root s dir file r.at (block.0 ∙ apart) (root_kind s r may block.1) entries (subst (λ b. (s.label b).tag ≢ 32 + 2 * file.number) (sym block.0) beside)
own_away s dir file (Below b) r at apart beside entries block may =
    away_leaf s dir b.dir file r.at block.0 (subst (λ e. IsEntriesAt s e) apart.0 at.1) entries apart.1

-- ---- the change of the file

-- such a block is not the leaf that has the file's record
not_leaf : (B : Type 0) (state : B → State) (old new : B) (dir : DirAt) (file : FileAt) (i spare : ℕ) (name : List ℕ) (named : Record) (given : Option ℕ) (r : ReadyOwn) → (x : Edits B state old new dir file i spare name named given) → MayPutOwn (state old) r → IsAway (state old) dir file r.at → r.at ≢ x.leaf
not_leaf B state old new dir file i spare name named given r x may away = λ here.
    let s = state old in
    let m = state x.owned in
    let n = state x.ready in
    let first = same_records s m dir r.at may.is_pinned may.live away.at x.readied in
    let second = same_joins s m n r.at first (same_rewrites (IsLeafOf dir m) m n r.at first.is_pinned (away.leaf m first.label) x.moved) in
    away.leaf n second.label (subst (λ b. IsLeafOf dir n b) (sym here) x.fits.own)

pub same_ready : (B : Type 0) (state : B → State) (old new : B) (dir : DirAt) (file : FileAt) (i spare : ℕ) (name : List ℕ) (named : Record) (given : Option ℕ) (r : ReadyOwn) → Edits B state old new dir file i spare name named given → MayPutOwn (state old) r → IsAway (state old) dir file r.at → Same (state old) (state new) r.at
same_ready B state old new dir file i spare name named given r x may away =
    same_edits B state old new dir file i spare name named given r.at x may.is_pinned may.live away.at away.leaf away.beside (not_leaf B state old new dir file i spare name named given r x may away)

pub may_still : (s u : State) (r : ReadyOwn) → KeepsAll s u → Same s u r.at → MayPutOwn s r → MayPutOwn u r
may_still s u r all same may = may_put_on r all same.label (λ pin. same.is_pinned) same.bytes may

pub block_still : (s u : State) (own : OwnAt) (r : ReadyOwn) → KeepsAll s u → Same s u r.at → IsBlockOf s own r → IsBlockOf u own r
block_still s u own r all same is = block_on s u own r all same.label (λ pin. same.is_pinned) same.bytes is

pub ready_still : (s u : State) (own : OwnAt) (named : Record) (r : ReadyOwn) → Same s u r.at → IsBlockOf s own r → HasReady s own named r → HasReady u own named r
ready_still s u own named r same block ready = has_ready_on s u own named r (of_root s own r block) same.bytes ready

-- ---- making the own record ready

-- a root block keeps its label
pub beside_still : (B : Type 0) (state : B → State) (keeps : B → B → Type 0) (old new : B) (own : OwnAt) (number : ℕ) → AltersOwn B state keeps old new own → IsBeside (state old) own number → IsBeside (state new) own number
beside_still B state keeps old new (Root root) number x is = λ e. is (sym (ap (λ (l : Label). l.tag) (x.stays.labels root (λ n. n))) ∙ e)
beside_still B state keeps old new (Below b) number x is = tt
