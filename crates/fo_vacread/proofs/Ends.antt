-- What the calls of `FileOps` answer, by what was looked at.
use Rattle.std.proofs.Common.{◌≡◌, ◌∙◌, inl, inr, ℕ, Bool, List, take, Result, Ok, Err, MatchResult, sym, ap}
use Rattle.std.specs.Prelude.{◌⊎◌, is_ok}
use Rattle.fo_world.specs.declared.error.FileError.{FileError}
use Rattle.fo_world.specs.declared.error.FileError.TheVariants as error
use Rattle.fo_world.specs.World.{World, Faults}
use Rattle.fo_world.specs.Answers.{Answers, MayFail, HasCause, Refuses}
use Rattle.fo_vac_walk.specs.Walk.{Holding}
use Rattle.fo_vac_files.specs.declared.opened.Opened.{Opened}
use Rattle.fo_vac_files.specs.Broken.{IsBroken}
use Rattle.fo_vac_files.specs.Causes.{IsLoss, IsSaid, LookBlames, HasLookCauses, Tells}
use Rattle.fo_vacread.specs.Honest.{holding_of}
use Rattle.fo_vacread.specs.Refused.{HasRefusal}
use Rattle.fo_vacread.proofs.Intact.{nothing_broken}
use Rattle.fo_vacread.specs.Stays.{State, Stays, Honest, world_in, stays_world}

abbrev pub faults_of : ℕ → Faults
faults_of n = record { main = 0; arena = n }

abbrev pub no_room : ℕ → Type 0
no_room n = ⊥

-- Nothing is broken where the files are honest.
abbrev Sound : Holding → Opened → Type 0 → Type 0
Sound h o honest = (at : ℕ) → honest → IsBroken h o at → ⊥

may_fail : (h : Holding) (o : Opened) (before now : ℕ) (honest : Type 0) (need : ℕ) (granted : Bool) (e : FileError) → Sound h o honest → IsLoss h o e → LookBlames before now e → MayFail (faults_of before) (faults_of now) honest no_room need granted e
may_fail h o before now honest need granted error.ArenaRead sound loss b = b
may_fail h o before now honest need granted error.Memory sound loss b = tt
may_fail h o before now honest need granted error.TooBig sound loss b = absurd loss
may_fail h o before now honest need granted error.Exists sound loss b = absurd loss
may_fail h o before now honest need granted error.Absent sound loss b = absurd loss
may_fail h o before now honest need granted error.NotEmpty sound loss b = absurd loss
may_fail h o before now honest need granted error.TooDeep sound loss b = absurd loss
may_fail h o before now honest need granted error.Full sound loss b = absurd loss
may_fail h o before now honest need granted error.NoNumbers sound loss b = absurd loss
may_fail h o before now honest need granted error.NotDir sound loss b = absurd loss
may_fail h o before now honest need granted error.IsDir sound loss b = absurd loss
may_fail h o before now honest need granted error.ReadOnly sound loss b = absurd loss
may_fail h o before now honest need granted error.Halted sound loss b = absurd loss
may_fail h o before now honest need granted error.Gone sound loss b = absurd loss
may_fail h o before now honest need granted error.DirFull sound loss b = absurd loss
may_fail h o before now honest need granted error.MainRead sound loss b = absurd loss
may_fail h o before now honest need granted error.MainWrite sound loss b = absurd loss
may_fail h o before now honest need granted error.MainSync sound loss b = absurd loss
may_fail h o before now honest need granted error.ArenaWrite sound loss b = absurd loss
may_fail h o before now honest need granted error.ArenaSync sound loss b = absurd loss
may_fail h o before now honest need granted (error.Damaged at) sound loss b = λ k. sound at k loss

damage_said : {A : Type 0} (h : Holding) (o : Opened) (told : Result A FileError) (at : ℕ) → IsSaid h o told (error.Damaged at) → IsBroken h o at
damage_said h o told at (inl p) = absurd p.0
damage_said h o told at (inr loss) = loss

has_cause : {A : Type 0} (h : Holding) (o : Opened) (told : Result A FileError) (before now : ℕ) (honest : Type 0) (most : ℕ) (e : FileError) → Sound h o honest → (honest → IsSaid h o told e) → LookBlames before now e → HasCause (faults_of before) (faults_of now) honest no_room most e
has_cause h o told before now honest most error.ArenaRead sound said b = b
has_cause h o told before now honest most error.Memory sound said b = tt
has_cause h o told before now honest most error.Gone sound said b = tt
has_cause h o told before now honest most error.NotDir sound said b = tt
has_cause h o told before now honest most error.IsDir sound said b = tt
has_cause h o told before now honest most error.ReadOnly sound said b = tt
has_cause h o told before now honest most error.Absent sound said b = tt
has_cause h o told before now honest most error.TooBig sound said b = tt
has_cause h o told before now honest most error.Exists sound said b = tt
has_cause h o told before now honest most error.NotEmpty sound said b = tt
has_cause h o told before now honest most error.TooDeep sound said b = tt
has_cause h o told before now honest most error.NoNumbers sound said b = tt
has_cause h o told before now honest most error.Halted sound said b = tt
has_cause h o told before now honest most error.DirFull sound said b = tt
has_cause h o told before now honest most error.Full sound said b = absurd b
has_cause h o told before now honest most error.MainRead sound said b = absurd b
has_cause h o told before now honest most error.MainWrite sound said b = absurd b
has_cause h o told before now honest most error.MainSync sound said b = absurd b
has_cause h o told before now honest most error.ArenaWrite sound said b = absurd b
has_cause h o told before now honest most error.ArenaSync sound said b = absurd b
has_cause h o told before now honest most (error.Damaged at) sound said b = λ k. sound at k (damage_said h o told at (said k))

-- a refusal, said or lost
fails_as : {A : Type 0} (h : Holding) (o : Opened) (told : Result A FileError) (before now : ℕ) (honest : Type 0) (need : ℕ) (e : FileError) → Sound h o honest → IsSaid h o told e → LookBlames before now e → (told ≡ Err e) ⊎ MayFail (faults_of before) (faults_of now) honest no_room need (is_ok told) e
fails_as h o told before now honest need e sound (inl p) b = inl p.1
fails_as h o told before now honest need e sound (inr loss) b = inr (may_fail h o before now honest need (is_ok told) e sound loss b)

abbrev holding_in : State → Holding
holding_in s = holding_of s.shelf s.disk

sound_in : (s : State) → Sound (holding_in s) s.opened (Honest s)
sound_in s at k b = nothing_broken (holding_in s) s.opened at k.sound b

pub looks_answer : {A : Type 0} (old new : State) (told : Result (A × World) FileError) (need : ℕ) (r : Result A FileError) → Stays old new → HasLookCauses old.faults new.faults r → Tells (holding_in old) old.opened told (world_in old) r
    → Answers told (MayFail (faults_of old.faults) (faults_of new.faults) (Honest old) no_room need) (world_in old) (world_in new) r
looks_answer old new told need (Ok x) s c t = t ∙ ap (λ (w : World). Ok (x, w)) (sym (stays_world old new s))
looks_answer old new told need (Err e) s c t = (fails_as (holding_in old) old.opened told old.faults new.faults (Honest old) need e (sound_in old) t c.failed, stays_world old new s)

pub looks_cause : {A : Type 0} (old new : State) (told : Result (A × World) FileError) (most : ℕ) (r : Result A FileError) → HasLookCauses old.faults new.faults r → (Honest old → Tells (holding_in old) old.opened told (world_in old) r) → Refuses (faults_of old.faults) (faults_of new.faults) (Honest old) no_room most r
looks_cause old new told most (Ok x) c t = tt
looks_cause old new told most (Err e) c t = has_cause (holding_in old) old.opened told old.faults new.faults (Honest old) most e (sound_in old) t c.failed

-- of a change
pub refuses_answer : {A : Type 0} (old new : State) (told : Result (A × World) FileError) (need : ℕ) (e : FileError) → Stays old new → HasRefusal old.faults new.faults e → IsSaid (holding_in old) old.opened told e
    → ((told ≡ Err e) ⊎ MayFail (faults_of old.faults) (faults_of new.faults) (Honest old) no_room need (is_ok told) e) × (world_in new ≡ world_in old)
refuses_answer old new told need e s c said = (fails_as (holding_in old) old.opened told old.faults new.faults (Honest old) need e (sound_in old) said c.blames, stays_world old new s)

pub refuses_cause : {A : Type 0} (old new : State) (told : Result (A × World) FileError) (most : ℕ) (e : FileError) → HasRefusal old.faults new.faults e → (Honest old → IsSaid (holding_in old) old.opened told e) → HasCause (faults_of old.faults) (faults_of new.faults) (Honest old) no_room most e
refuses_cause old new told most e c said = has_cause (holding_in old) old.opened told old.faults new.faults (Honest old) most e (sound_in old) said c.blames

-- of a read
pub read_answer : (old new : State) (told : Result (List ℕ × World) FileError) (into : List ℕ) (r : Result ℕ FileError) → Stays old new → HasLookCauses old.faults new.faults r → MatchResult r (λ n. told ≡ Ok (take n into, world_in old)) (IsSaid (holding_in old) old.opened told)
    → MatchResult r (λ n. told ≡ Ok (take n into, world_in new)) (λ e. ((told ≡ Err e) ⊎ MayFail (faults_of old.faults) (faults_of new.faults) (Honest old) no_room 0 (is_ok told) e) × (world_in new ≡ world_in old))
read_answer old new told into (Ok n) s c t = t ∙ ap (λ (w : World). Ok (take n into, w)) (sym (stays_world old new s))
read_answer old new told into (Err e) s c t = (fails_as (holding_in old) old.opened told old.faults new.faults (Honest old) 0 e (sound_in old) t c.failed, stays_world old new s)

pub read_cause : (old new : State) (told : Result (List ℕ × World) FileError) (into : List ℕ) (r : Result ℕ FileError) → HasLookCauses old.faults new.faults r → (Honest old → MatchResult r (λ n. told ≡ Ok (take n into, world_in old)) (IsSaid (holding_in old) old.opened told))
    → Refuses (faults_of old.faults) (faults_of new.faults) (Honest old) no_room 0 r
read_cause old new told into (Ok n) c t = tt
read_cause old new told into (Err e) c t = has_cause (holding_in old) old.opened told old.faults new.faults (Honest old) 0 e (sound_in old) t c.failed
