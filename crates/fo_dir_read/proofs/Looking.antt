-- Why a look at a leaf was refused.
use Rattle.std.proofs.Common.{◌≡◌, ◌⊎◌, ◌+◌, ◌*◌, ◌<◌, ◌≤◌, ℕ, Bool, true, false, List, [], ◌∷◌, find, Option, Some, None, MatchOption, IfSome, Result, Ok, Err, IfOk, IfErr, refl, inl, inr, ⊎_elim, sym, ◌∙◌, subst, arith}
use Rattle.std.specs.List.{list_any, AllByRecursion}
use Rattle.std.proofs.lemmas.Slice.Eq.{bytes_eq-Decides}
use Rattle.fo_image.specs.declared.record.Record.{Record}
use Rattle.fo_image.specs.Record.{RecordHolds}
use Rattle.fo_meta.specs.Leaf.{HasSpelling, SpellsLeaf, is_named}
use Rattle.fo_ports.specs.of_crash.Images.{Image, SameImage}
use Rattle.fo_ports.specs.Sources.{Leaves}
use Rattle.fo_dir_read.specs.Names.{HasRecords, LacksBelow, Finds}
use Rattle.fo_base.specs.Cause.{Rose}
use Rattle.fo_ports.specs.of_crash.declared.place.Place.{Place}
use Rattle.fo_ports.specs.declared.error.BlockError.{BlockError}
use Rattle.fo_ports.specs.declared.error.BlockError.TheVariants.{Full, Damaged, Fault, Arena, Memory}
use Rattle.fo_ports.specs.State.{State, KeepsAll}
use Rattle.fo_ports.specs.Causes.{Caused}
use Rattle.fo_looks.proofs.Looks.{rose_later}

-- A look at a block after another look, where the block stands if the device tells: its cause is one of both looks together.
pub looked_later : (a b c : State) (at : ℕ) → KeepsAll a b → a.is_block at → (a.tells → (p : Place) × b.stands at p) → (why : BlockError)
    → Caused ⊥ (λ x. (x ≡ at) × (b.tells → (p : Place) → b.stands at p → ⊥)) (Rose b.faults c.faults) ⊥ why → Caused ⊥ (λ x. (a.tells → ⊥) × a.is_block x) (Rose a.faults c.faults) ⊥ why
looked_later a b c at all block stands Full cause = cause
looked_later a b c at all block stands (Damaged x) cause = (λ told. let s = stands told in cause.1 (all.still_tells.1 told) s.0 s.1, subst a.is_block (sym cause.0) block)
looked_later a b c at all block stands (Fault which) cause = rose_later a.faults b.faults c.faults all.more_faults cause
looked_later a b c at all block stands (Arena which) cause = cause
looked_later a b c at all block stands Memory cause = cause

decide : (b : Bool) → (b ≡ true) ⊎ (b ≡ false)
decide true = inl refl
decide false = inr refl

-- where no first record passes, none does
pub none_any : (p : Record → Bool) (rs : List Record) → None ≡ find p rs → list_any p rs ≡ false
none_any p [] none = refl
none_any p (r ∷ rs) none = ⊎_elim (λ e. absurd (found e)) (λ e. rw e (none_any p rs (none ∙ passed e))) (decide (p r))
  where
    first : p r ≡ true → find p (r ∷ rs) ≡ Some r
    first e = rw e refl

    found : p r ≡ true → ⊥
    found e = let is : None ≡ Some r = none ∙ first e in absurd (cc)

    passed : p r ≡ false → find p (r ∷ rs) ≡ find p rs
    passed e = rw e refl

-- the first record that passes passes
pub found_passes : (p : Record → Bool) (rs : List Record) → IfSome (find p rs) (λ r. p r ≡ true)
found_passes p [] = tt
found_passes p (r ∷ rs) = ⊎_elim
    (λ e. let is : find p (r ∷ rs) ≡ Some r = rw e refl in subst (λ (o : Option Record). IfSome o (λ x. p x ≡ true)) (sym is) e)
    (λ e. let is : find p (r ∷ rs) ≡ find p rs = rw e refl in subst (λ (o : Option Record). IfSome o (λ x. p x ≡ true)) (sym is) (found_passes p rs))
    (decide (p r))

-- so the first of a name has it
pub found_named : (name : List ℕ) (o : Option Record) → IfSome o (λ r. is_named name r ≡ true) → IfSome o (λ r. r.name ≡ name)
found_named name None h = tt
found_named name (Some r) h = (bytes_eq-Decides r.name name).0 h

-- a record that is found among some that have a spelling holds
pub found_holds : (p : Record → Bool) (rs : List Record) → AllByRecursion HasSpelling rs → IfSome (find p rs) RecordHolds
found_holds p [] all = tt
found_holds p (r ∷ rs) all = ⊎_elim (λ e. rw e all.0.holds) (λ e. rw e (found_holds p rs all.1)) (decide (p r))

-- the records of a leaf, before and after a look
pub records_back : {now next : Image} {x y : Leaves} {i : ℕ} {rs : List Record} → SameImage next now → y.at i ≡ x.at i → HasRecords next y i rs → HasRecords now x i rs
records_back {now = now} {next = next} {x = x} {i = i} {rs = rs} same there h = record { is = back (x.at i) (subst (λ o. MatchOption o (rs ≡ []) (λ b. SpellsLeaf rs ((next b).bytes))) there h.is) }
  where
    back : (o : Option ℕ) → MatchOption o (rs ≡ []) (λ b. SpellsLeaf rs ((next b).bytes)) → MatchOption o (rs ≡ []) (λ b. SpellsLeaf rs ((now b).bytes))
    back None e = e
    back (Some b) spells = subst (λ bytes. SpellsLeaf rs bytes) ((same.each b).bytes) spells

-- leaves without the name, before and after a look
pub lacks_on : {now next : Image} {x y : Leaves} {name : List ℕ} {i : ℕ} → SameImage next now → ((j : ℕ) → y.at j ≡ x.at j) → LacksBelow now x name i → LacksBelow next y name i
lacks_on same there lacks = record { each = λ j rs lt h. lacks.each j rs lt (records_back same (there j) h) }

-- one more leaf that hasn't the name
pub lacks_more : {now : Image} {x : Leaves} {name : List ℕ} {i : ℕ} {found : Option Record} → found ≡ None → LacksBelow now x name i → Finds now x name i found → LacksBelow now x name (i + 1)
lacks_more {now = now} {x = x} {name = name} {i = i} is lacks finds = record { each = λ j rs lt h. ⊎_elim (λ before. lacks.each j rs before h) (λ here. none_any (is_named name) rs (sym is ∙ finds.each rs (subst (λ k. HasRecords now x k rs) here h))) (last j lt) }
  where
    last : (j : ℕ) → j < i + 1 → (j < i) ⊎ (j ≡ i)
    last j lt = grind (arith, lt)

-- A refusal after a look has its cause, too.
pub caused_later : (a b c : State) → KeepsAll a b → (why : BlockError) → Caused ⊥ (λ x. (b.tells → ⊥) × b.is_block x) (Rose b.faults c.faults) ⊥ why → Caused ⊥ (λ x. (a.tells → ⊥) × a.is_block x) (Rose a.faults c.faults) ⊥ why
caused_later a b c all Full cause = cause
caused_later a b c all (Damaged x) cause = (λ told. cause.0 (all.still_tells.1 told), (all.same_blocks x).0 cause.1)
caused_later a b c all (Fault which) cause = rose_later a.faults b.faults c.faults all.more_faults cause
caused_later a b c all (Arena which) cause = cause
caused_later a b c all Memory cause = cause

-- the pins of one more leaf
pub pins_more : (i most before between after : ℕ) → before ≤ between + i * most → between ≤ after + most → before ≤ after + (i + 1) * most
pins_more i most before between after first second = omega (arith, first, second)

-- so has that of a result
pub any_caused_later : {T : Type 0} (a b c : State) → KeepsAll a b → (r : Result T BlockError) → IfErr r (Caused ⊥ (λ x. (b.tells → ⊥) × b.is_block x) (Rose b.faults c.faults) ⊥) → IfErr r (Caused ⊥ (λ x. (a.tells → ⊥) × a.is_block x) (Rose a.faults c.faults) ⊥)
any_caused_later a b c all (Ok x) cause = cause
any_caused_later a b c all (Err why) cause = caused_later a b c all why cause

-- a look at a block that stands, where the device tells
looked : (a b : State) (at : ℕ) → a.is_block at → (a.tells → (p : Place) × a.stands at p) → (why : BlockError)
    → Caused ⊥ (λ x. (x ≡ at) × (a.tells → (p : Place) → a.stands at p → ⊥)) (Rose a.faults b.faults) ⊥ why → Caused ⊥ (λ x. (a.tells → ⊥) × a.is_block x) (Rose a.faults b.faults) ⊥ why
looked a b at block stands Full cause = cause
looked a b at block stands (Damaged x) cause = (λ told. let s = stands told in cause.1 told s.0 s.1, subst a.is_block (sym cause.0) block)
looked a b at block stands (Fault which) cause = cause
looked a b at block stands (Arena which) cause = cause
looked a b at block stands Memory cause = cause

pub any_looked : {T : Type 0} (a b : State) (at : ℕ) → a.is_block at → (a.tells → (p : Place) × a.stands at p) → (r : Result T BlockError)
    → IfErr r (Caused ⊥ (λ x. (x ≡ at) × (a.tells → (p : Place) → a.stands at p → ⊥)) (Rose a.faults b.faults) ⊥) → IfErr r (Caused ⊥ (λ x. (a.tells → ⊥) × a.is_block x) (Rose a.faults b.faults) ⊥)
any_looked a b at block stands (Ok x) cause = cause
any_looked a b at block stands (Err why) cause = looked a b at block stands why cause

-- the pins of a leaf that is pinned and then copied: that takes none but where none was left for it
pub pins_behind : (before between after depth : ℕ) {Held : Type 0} → before ≤ between + (depth + 1) → Held ⊎ (before ≤ depth) → (Held → between ≤ after) → before ≤ after + (depth + 1)
pins_behind before between after depth first held again = ⊎_elim (λ h. let le = again h in omega (arith, first, le)) (λ few. omega (arith, few)) held

-- what follows of each answer
pub each_ok : {T E : Type 0} {P Q : T → Type 0} (r : Result T E) → ((x : T) → P x → Q x) → IfOk r P → IfOk r Q
each_ok (Ok x) f h = f x h
each_ok (Err e) f h = h
