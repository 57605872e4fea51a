-- The steps of a change of a file.
use Rattle.std.proofs.Common.{◌≡◌, ◌+◌, ◌-◌, ◌*◌, ℕ, Bool, true, false, List, length, get_or, Option, Some, None, inl, ⊎_elim, refl, sym, ap, subst, ◌∙◌, arith}
use Rattle.std.specs.Prelude.{IfSome}
use Rattle.fo_image.specs.declared.record.Record.{Record}
use Rattle.fo_image.specs.declared.types.Kind.{Kind}
use Rattle.fo_image.specs.declared.types.Kind.TheVariants.{Data, Dir}
use Rattle.fo_ports.specs.State.{State, KeepsAll, Looks}
use Rattle.fo_ports.specs.Sources.{Made}
use Rattle.fo_dir_change.specs.Changes.{HasChanged, IsTooLong}
use Rattle.fo_files_along.specs.of_files_at.declared.at.Step.{Step}
use Rattle.fo_files_dir.specs.declared.dir.DirAt.{DirAt}
use Rattle.fo_files_dir.specs.declared.dir.FileAt.{FileAt}
use Rattle.fo_files_dir.specs.Dir.{IsFileAt}
use Rattle.fo_files_dir.proofs.Dirs.{pair_keeps}
use Rattle.fo_files_record.specs.Leaf.{IsEntriesAt}
use Rattle.fo_files_record.specs.Stays.{Rewrites, no_slot}
use Rattle.fo_files_ready.specs.of_files_change.Records.{AltersRecords}
use Rattle.fo_files_cut.specs.of_files_write.Alters.{Alters, MayChange, any_kind}
use Rattle.fo_files_cut.specs.of_files_write.Data.{HasData}
use Rattle.fo_files_ready.specs.Ready.{IsLeafOf}
use Rattle.fo_files_cut.specs.Cut.{KeepsUse}
use Rattle.fo_files_into.specs.Into.{MayCut}
use Rattle.fo_files_ready.proofs.Steps.{pair_over, leaf_kept}

-- a file's pair stays where a leaf of records is made ready, and over a look
pub file_over : (s m u : State) (d : DirAt) (f : FileAt) (leaves : ℕ → Type 0) → KeepsAll s m → KeepsAll m u → AltersRecords d s m → Rewrites leaves no_slot m u → IsFileAt s f → IsFileAt u f
file_over s m u d f leaves first second x y is = record { pair = pair_over s m u d leaves first second x y f.at f.slot is.pair; ranked = is.ranked; most = is.most }

pub file_looks : (s u : State) (f : FileAt) → KeepsAll s u → Looks s u → IsFileAt s f → IsFileAt u f
file_looks s u f all looks is = record { pair = pair_keeps s u f.at f.slot all (looks.stays.labels f.at (λ n. n)) (looks.stays.marks f.at (λ n. n)).0 is.pair; ranked = is.ranked; most = is.most }

kinds_differ : (a b : Kind) → a ≡ Dir 0 → b ≡ Data 0 → a ≡ b → ⊥
kinds_differ a b dir data_is same = let h : Dir 0 ≡ Data 0 = sym dir ∙ same ∙ data_is in cc

odd_even : (n m : ℕ) → 33 + 2 * n ≡ 32 + 2 * m → ⊥
odd_even n m e = omega (arith, e)

-- a leaf of records is none of a file's blocks, nor that with its entry
not_changed : (s : State) (d : DirAt) (f : FileAt) (leaf : ℕ) → IsEntriesAt s f.at → IsLeafOf d s leaf → MayChange f.at (32 + 2 * f.number) any_kind s leaf → ⊥
not_changed s d f leaf entries own may = ⊎_elim
    (λ here. kinds_differ (s.label f.at).kind (s.label leaf).kind entries.leaf_kind own.leaf_kind (ap (λ b. (s.label b).kind) (sym here)))
    (λ tagged. odd_even d.number f.number (sym own.tagged ∙ tagged.1))
    may

pub leaf_bytes : (s u : State) (d : DirAt) (f : FileAt) (leaf : ℕ) → IsEntriesAt s f.at → Alters f.at f.slot (32 + 2 * f.number) any_kind s u → IsLeafOf d s leaf → (u.now leaf).bytes ≡ (s.now leaf).bytes
leaf_bytes s u d f leaf entries x own = (x.memory leaf own.is_pinned (λ made. made.0 own.live) (not_changed s d f leaf entries own)).bytes

pub leaf_written : (s u : State) (d : DirAt) (f : FileAt) (leaf : ℕ) → KeepsAll s u → IsEntriesAt s f.at → Alters f.at f.slot (32 + 2 * f.number) any_kind s u → IsLeafOf d s leaf → IsLeafOf d u leaf
leaf_written s u d f leaf all entries x own =
    let none_made : Made s u leaf → ⊥ = λ made. made.0 own.live in
    let stays = x.others leaf none_made in
    leaf_kept s u d leaf all stays.label stays.is_pinned (ap (λ (xs : List ℕ). length xs) (leaf_bytes s u d f leaf entries x own) ∙ own.whole) own

-- the entry stays where slots do
pub data_kept : (s u : State) (f : FileAt) (generation size : ℕ) → (u.now f.at).slot f.slot ≡ (s.now f.at).slot f.slot → HasData s f generation size → HasData u f generation size
data_kept s u f generation size same has = record { entry = has.entry; is = same ∙ has.is; generation_is = has.generation_is; used = has.used; is_data = has.is_data; tagged = has.tagged; long = has.long }

pub data_long : (s : State) (f : FileAt) (generation n m : ℕ) → n ≡ m → HasData s f generation n → HasData s f generation m
data_long s f generation n m e has = subst (λ k. HasData s f generation k) e has

-- a record that has room changes
pub must_fit : (b : Bool) (name : List ℕ) (named : Record) (now was : List ℕ) → now ≡ was → (b ≡ false → IsTooLong name named now) → (IsTooLong name named was → ⊥) → b ≡ true
must_fit true name named now was e full fits = refl
must_fit false name named now was e full fits = absurd (fits (subst (λ xs. IsTooLong name named xs) e (full refl)))

pub changed_as : (name : List ℕ) (named : Record) (now was new : List ℕ) → now ≡ was → HasChanged name named now new → HasChanged name named was new
changed_as name named now was new e h = subst (λ xs. HasChanged name named xs new) e h

-- ---- a length that may be given

pub uncut : (B : Type 0) (state : B → State) (on : B) (file : FileAt) (given : Option ℕ) → MayCut B state on on file given
uncut B state on file None = refl
uncut B state on file (Some n) = inl refl

-- an entry is of the same use where the slot stays
pub use_kept : (m h u : State) (f : FileAt) → (u.now f.at).slot f.slot ≡ (h.now f.at).slot f.slot → KeepsUse m h f.at f.slot → KeepsUse m u f.at f.slot
use_kept m h u f same uses = λ e is. let x = uses e is in (x.0, same ∙ x.1, x.2, x.3, x.4, x.5)

-- a file has the length where the entry stays
pub sized_kept : (h u : State) (f : FileAt) (given : Option ℕ) → (u.now f.at).slot f.slot ≡ (h.now f.at).slot f.slot → IfSome given (λ n. (generation : ℕ) × HasData h f generation n) → IfSome given (λ n. (generation : ℕ) × HasData u f generation n)
sized_kept h u f None same has = tt
sized_kept h u f (Some n) same has = (has.0, data_kept h u f has.0 n same has.1)

-- ---- the way

-- the last step of a way
pub last_step : (steps : List Step) (step : Step) (count long : ℕ) → count ≡ length steps → length steps ≡ long → step ≡ get_or steps (count - 1) step → step ≡ get_or steps (long - 1) step
last_step steps step count long is same here = here ∙ ap (λ k. get_or steps (k - 1) step) (is ∙ same)
