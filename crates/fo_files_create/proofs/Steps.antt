-- The steps of making a file.
use Rattle.std.proofs.Common.{◌≡◌, ◌≢◌, ◌⊎◌, ◌+◌, ◌-◌, ◌*◌, ◌<◌, ℕ, suc, List, [], ◌∷◌, length, get_or, Option, Some, None, inl, inr, ⊎_elim, refl, sym, ap, subst, ◌∙◌, arith}
use Rattle.fo_image.specs.declared.types.Kind.{Kind}
use Rattle.fo_image.specs.declared.types.Kind.TheVariants.{Data, Dir}
use Rattle.fo_image.specs.declared.types.Label.{Label}
use Rattle.fo_image.specs.declared.record.Record.{Record}
use Rattle.fo_image.specs.Record.{RecordHolds, RootRecordHolds}
use Rattle.fo_ports.specs.State.{State, KeepsAll, KeepsNumbers, none}
use Rattle.fo_files_dir.specs.declared.dir.DirAt.{DirAt}
use Rattle.fo_files_new.specs.of_files_leaf.Alters.{MayPut}
use Rattle.fo_files_own.specs.of_files_record.Leaf.{IsEntriesAt}
use Rattle.fo_files_own.specs.of_files_ready.Ready.{IsLeafOf as IsRecordsOf}
use Rattle.fo_files_new.specs.declared.pair.Leaves.{Leaves}
use Rattle.fo_files_new.specs.New.{AltersDir, AreOwn, IsAboveOf, IsLeafOf}
use Rattle.fo_files_own.specs.declared.at.OwnAt.{OwnAt}
use Rattle.fo_files_own.specs.declared.at.OwnAt.TheVariants.{Root, Below}
use Rattle.fo_files_own.specs.declared.at.ReadyOwn.{ReadyOwn}
use Rattle.fo_files_own.specs.Own.{AltersOwn, IsApartFrom, IsBlockOf, IsOwnAt, MayOwn, MayPutOwn, own_of}
use Rattle.fo_files_own.proofs.Carry.{ready_alters}
use Rattle.fo_files_create_look.specs.of_files_at.declared.at.Step.{Step}
use Rattle.fo_files_create_look.proofs.of_files_at.Ways.{way_stays}
use Rattle.fo_files_create_look.specs.of_files_along.Along.{IsAboveOf as IsAboveStep}
use Rattle.fo_files_create_look.specs.declared.found.Found.{Found}
use Rattle.fo_files_create_look.specs.Found.{IsFound}
use Rattle.fo_files_create.specs.Create.{last_leaf}

-- ---- what making the own record ready keeps

pub own_numbers : (B : Type 0) (state : B → State) (keeps : B → B → Type 0) (old new : B) (own : OwnAt) → AltersOwn B state keeps old new own → KeepsNumbers (state old) (state new)
own_numbers B state keeps old new (Root root) x = x.numbers
own_numbers B state keeps old new (Below b) x = record {
  next = x.4.numbers.next ∙ x.1.numbers.next;
  grants = λ h. x.4.numbers.grants (x.1.numbers.grants h);
}

-- ---- what was made ready stays so while the file comes

odd_even : (n m : ℕ) → 33 + 2 * n ≡ 32 + 2 * m → ⊥
odd_even n m e = omega (arith, e)

same_half : (n m : ℕ) → 33 + 2 * n ≡ 33 + 2 * m → n ≡ m
same_half n m e = omega (arith, e)

kinds_differ : (a b : Kind) → a ≡ Dir 0 → b ≡ Data 0 → a ≡ b → ⊥
kinds_differ a b dir data_is same = let h : Dir 0 ≡ Data 0 = sym dir ∙ same ∙ data_is in cc

-- a leaf of records of the directory above is none that is put into
own_away : (s u : State) (dir above : DirAt) (leaves : Leaves) (x : ℕ) → IsRecordsOf above s x → IsEntriesAt s dir.at → above.number ≢ dir.number → u.label x ≡ s.label x → AreOwn u dir leaves → MayPut dir.at (IsAboveOf dir) (IsLeafOf leaves) s x → ⊥
own_away s u dir above leaves x own entries apart same are may = ⊎_elim
    (λ here. kinds_differ (s.label dir.at).kind (s.label x).kind entries.leaf_kind own.leaf_kind (ap (λ b. (s.label b).kind) (sym here)))
    (λ rest. ⊎_elim
    (λ put. ⊎_elim
    (λ of_entries. odd_even above.number dir.number (sym own.tagged ∙ of_entries.0))
    (λ of_records. apart (same_half above.number dir.number (sym own.tagged ∙ of_records.0)))
    put.1)
    (λ leaf. ⊎_elim
    (λ is. odd_even above.number dir.number (sym own.tagged ∙ sym (ap (λ (l : Label). l.tag) same) ∙ ap (λ b. (u.label b).tag) is ∙ are.entries_own.tagged))
    (λ is. apart (same_half above.number dir.number (sym own.tagged ∙ sym (ap (λ (l : Label). l.tag) same) ∙ ap (λ b. (u.label b).tag) is ∙ are.records_own.tagged)))
    leaf)
    rest)
    may

away_or : (s u : State) (dir : DirAt) (own : OwnAt) (leaves : Leaves) (r : ReadyOwn) → IsOwnAt s own → IsApartFrom dir own → IsBlockOf s own r → u.label r.at ≡ s.label r.at → AreOwn u dir leaves → (r.at ≡ dir.at) ⊎ (MayPut dir.at (IsAboveOf dir) (IsLeafOf leaves) s r.at → ⊥)
away_or s u dir (Root root) leaves r at apart block same are = inl (block.0 ∙ apart)
away_or s u dir (Below b) leaves r at apart block same are = inr (own_away s u dir b.dir leaves r.at block.0 (subst (λ e. IsEntriesAt s e) apart.0 at.1) apart.1 same are)

pub ready_comes : (s u : State) (dir : DirAt) (own : OwnAt) (leaves : Leaves) (r : ReadyOwn) → KeepsAll s u → IsOwnAt s own → IsApartFrom dir own → IsBlockOf s own r → AltersDir dir (IsLeafOf leaves) s u → AreOwn u dir leaves → MayPutOwn s r
    → MayPutOwn u r × ((u.now r.at).bytes ≡ (s.now r.at).bytes)
ready_comes s u dir own leaves r all at apart block x are may =
    ready_alters r all x (away_or s u dir own leaves r at apart block (x.labels r.at (λ made. made.0 may.live)) are) may

pub label_comes : (s u : State) (dir : DirAt) (leaves : Leaves) (r : ReadyOwn) → AltersDir dir (IsLeafOf leaves) s u → MayPutOwn s r → (u.label r.at ≡ s.label r.at) × (s.pinned r.at → u.pinned r.at)
label_comes s u dir leaves r x may = (x.labels r.at (λ made. made.0 may.live), (x.marks r.at (λ made. made.0 may.live)).0)

-- ---- where the own record stands

pub own_with : (own : OwnAt) (dir : DirAt) (above : Option DirAt) (n leaf spare : ℕ) → own ≡ own_of dir above n spare → n ≡ leaf → own ≡ own_of dir above leaf spare
own_with own dir above n leaf spare is same = is ∙ ap (λ l. own_of dir above l spare) same

pub own_may : (dir : DirAt) (above : Option DirAt) (leaf spare : ℕ) (named : Record) → (above ≡ None → RootRecordHolds named) → RecordHolds named → MayOwn (own_of dir above leaf spare) named
own_may dir None leaf spare named of holds = of refl
own_may dir (Some a) leaf spare named of holds = holds

-- no directory is above the root directory alone
pub above_of_root : (at : List ℕ) (steps : List Step) (k : ℕ) (above : Option DirAt) → above ≡ None → IsAboveStep at steps k above → k ≡ 0
above_of_root at steps k None none is = is
above_of_root at steps k (Some a) none is = let h : Some a ≡ None = none in cc

-- the last step has the leaf
pub last_leaf_is : (steps : List Step) (d : Step) → 0 < length steps → (get_or steps (length steps - 1) d).leaf ≡ last_leaf steps
last_leaf_is [] d some = absurd (omega (arith, some))
last_leaf_is (x ∷ []) d some = refl
last_leaf_is (x ∷ y ∷ rest) d some =
    let at : length (x ∷ y ∷ rest) - 1 ≡ suc (length (y ∷ rest) - 1) = lengths (length rest) in
    ap (λ n. (get_or (x ∷ y ∷ rest) n d).leaf) at ∙ last_leaf_is (y ∷ rest) d (omega arith)
  where
    lengths : (n : ℕ) → suc (suc n) - 1 ≡ suc (suc n - 1)
    lengths n = omega arith

-- what was found stays so over other calls
pub found_on : (s u : State) (root : ℕ) (trail : List ℕ) (named : Record) (f : Found) → KeepsAll s u → IsFound s root trail named f → IsFound u root trail named f
found_on s u root trail named f all is = record {
  was = is.was;
  was_found = way_stays s u root trail is.was all is.was_found;
  is_dir = is.is_dir;
  way = way_stays s u root trail f.way all is.way;
  steps = is.steps;
  file = is.file;
  of_root = is.of_root;
  named_is = is.named_is;
  holds = is.holds;
  pair = is.pair;
  leaf = is.leaf;
}
