-- A file goes, and its directory's own record changes.
use Rattle.std.proofs.Common.{◌≡◌, ◌⊎◌, ◌+◌, ◌*◌, ◌≤◌, ℕ, false, inl, inr, ⊎_elim, sym, ap, subst, ◌∙◌, arith}
use Rattle.fo_image.specs.declared.record.Record.{Record}
use Rattle.std.specs.Prelude.{Option, Some, None, MatchOption}
use Rattle.fo_image.specs.Record.{RecordHolds, RootRecordHolds}
use Rattle.fo_image.specs.declared.types.Kind.{Kind}
use Rattle.fo_image.specs.declared.types.Kind.TheVariants.{Data, Root}
use Rattle.fo_image.specs.declared.types.Label.{Label}
use Rattle.fo_ports.specs.State.{State, KeepsAll, none}
use Rattle.fo_ports.specs.Sources.{Made}
use Rattle.fo_tree_open.specs.Open.{HasEntry}
use Rattle.fo_files_dir.specs.declared.dir.DirAt.{DirAt}
use Rattle.fo_files_dir.specs.Dir.{IsDirAt}
use Rattle.fo_files_own.specs.of_files_leaf.Alters.{MayPut}
use Rattle.fo_files_own.specs.of_files_leaf.Leaf.{IsAbove}
use Rattle.fo_files_own.specs.of_files_record.Stays.{Rewrites, no_slot}
use Rattle.fo_files_own.specs.of_files_change.Records.{AltersRecords}
use Rattle.fo_files_own.specs.declared.at.OwnAt.{OwnAt}
use Rattle.fo_files_own.specs.declared.at.OwnAt.TheVariants as place
use Rattle.fo_files_own.specs.declared.at.ReadyOwn.{ReadyOwn}
use Rattle.fo_files_own.specs.Own.{AltersOwn, IsApartFrom, IsBlockOf, MayOwn, MayPutOwn, blocks_for, own_of}
use Rattle.fo_files_own.proofs.Carry.{few_blocks, may_put_on, own_usable}

same_half : (n m : ℕ) → 33 + 2 * n ≡ 33 + 2 * m → n ≡ m
same_half n m e = omega (arith, e)

-- the block with the own record is none that is put into where a leaf of the directory's records is made ready, but that with its entries
pub own_away : (s : State) (d : DirAt) (at : OwnAt) (r : ReadyOwn) → IsDirAt s d → IsApartFrom d at → IsBlockOf s at r → (r.at ≡ d.at) ⊎ (MayPut d.at (IsAbove (33 + 2 * d.number) false) none s r.at → ⊥)
own_away s d (place.Root root) r is apart of = inl (of.0 ∙ apart)
own_away s d (place.Below b) r is apart of = inr (λ put. ⊎_elim
    (λ here. subst (λ (k : Kind). HasEntry k d.slot) (ap (λ x. (s.label x).kind) (sym here) ∙ of.0.leaf_kind) is.pair.first)
    (λ other. ⊎_elim (λ above. apart.1 (same_half b.dir.number d.number (sym of.0.tagged ∙ above.1.0))) (λ h. h) other)
    put)

-- ---- over the removal of a record

other_kinds : (a b : Kind) → a ≡ Root → b ≡ Data 0 → a ≡ b → ⊥
other_kinds a b root data_is same = let h : Root ≡ Data 0 = sym root ∙ same ∙ data_is in cc

not_both : (n : ℕ) → n ≡ 0 → n ≡ 104 → ⊥
not_both n none some = omega (arith, none, some)

-- the block with the own record is none of the leaves of the directory's records
not_leaf : (s m : State) (d : DirAt) (at : OwnAt) (r : ReadyOwn) (leaf : ℕ) → m.label r.at ≡ s.label r.at → IsApartFrom d at → IsBlockOf s at r → MayPutOwn s r → (m.label leaf).kind ≡ Data 0 → (m.label leaf).tag ≡ 33 + 2 * d.number → r.at ≡ leaf → ⊥
not_leaf s m d (place.Root root) r leaf same apart of may kind tag e = ⊎_elim
    (λ h. not_both r.from h.0 of.1)
    (λ h. other_kinds (s.label r.at).kind (m.label leaf).kind h.1 kind (sym (ap (λ (l : Label). l.kind) same) ∙ ap (λ b. (m.label b).kind) e))
    may.kind_is
not_leaf s m d (place.Below b) r leaf same apart of may kind tag e = apart.1 (same_half b.dir.number d.number (sym of.0.tagged ∙ sym (ap (λ (l : Label). l.tag) same) ∙ ap (λ x. (m.label x).tag) e ∙ tag))

module _ {slots : ℕ → ℕ → Type 0} (s m n u : State) (d : DirAt) (at : OwnAt) (r : ReadyOwn) (leaf : ℕ) (all : KeepsAll s u) (x : AltersRecords d s m) (y : Rewrites (λ b. ⊥) no_slot m n) (z : Rewrites (λ b. b ≡ leaf) slots n u)
    (is : IsDirAt s d) (apart : IsApartFrom d at) (of : IsBlockOf s at r) (may : MayPutOwn s r) (kind : (m.label leaf).kind ≡ Data 0) (tag : (m.label leaf).tag ≡ 33 + 2 * d.number) where
  none_made : Made s m r.at → ⊥
  none_made made = made.0 may.live

  first_pin : m.pinned r.at
  first_pin = (x.marks r.at none_made).0 may.is_pinned

  first_bytes : (m.now r.at).bytes ≡ (s.now r.at).bytes
  first_bytes = ⊎_elim
      (λ here. subst (λ b. (m.now b).bytes ≡ (s.now b).bytes) (sym here) x.bytes)
      (λ away. (x.known r.at may.is_pinned none_made away).bytes)
      (own_away s d at r is apart of)

  pub label_over : u.label r.at ≡ s.label r.at
  label_over = z.labels r.at ∙ y.labels r.at ∙ x.labels r.at none_made

  pub pin_over : u.pinned r.at
  pin_over = (z.marks r.at).0 ((y.marks r.at).0 first_pin)

  pub bytes_over : (u.now r.at).bytes ≡ (s.now r.at).bytes
  bytes_over = z.bytes r.at ((y.marks r.at).0 first_pin) (not_leaf s m d at r leaf (x.labels r.at none_made) apart of may kind tag) ∙ y.bytes r.at first_pin (λ h. h) ∙ first_bytes

  pub may_over : MayPutOwn u r
  may_over = may_put_on r all label_over (λ h. pin_over) bytes_over may

-- ---- what is taken

pub took : (s m u : State) (d : DirAt) (k : ℕ) → AltersRecords d s m → m.usable ≤ u.usable → u.spare ≡ m.spare → s.spare ≤ u.spare + k → s.usable ≤ u.usable + k
took s m u d k x more same spare = let usable = x.usable in omega (arith, usable, more, same, spare)

pub took_own : (B : Type 0) (state : B → State) (keeps : B → B → Type 0) (old new : B) (at : OwnAt) → AltersOwn B state keeps old new at → (state old).spare ≤ (state new).spare + blocks_for at → (state old).usable ≤ (state new).usable + 11
took_own B state keeps old new at x spare = let left = own_usable B state keeps old new at x in let few = few_blocks at in omega (arith, left, few, spare)

-- ---- where the own record stands

pub own_may : (dir : DirAt) (above : Option DirAt) (k leaf spare : ℕ) (P : DirAt → Type 0) (named : Record) → RecordHolds named → (k ≡ 0 → RootRecordHolds named) → MatchOption above (k ≡ 0) P → MayOwn (own_of dir above leaf spare) named
own_may dir None k leaf spare P named holds of_root is = of_root is
own_may dir (Some a) k leaf spare P named holds of_root is = holds
