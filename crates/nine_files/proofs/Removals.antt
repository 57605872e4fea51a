-- Files that are removed: what the steps tell, case by case.
use Rattle.std.proofs.Common.{◌≡◌, ℕ, Bool, true, false, Result, Ok, Err, ◌==◌, refl, sym, ap, subst, ◌∙◌, ⊎_elim, length}
use Rattle.std.specs.Prelude.{not, ◌&&◌, if◌then◌else◌}
use Rattle.fo_world.specs.declared.error.FileError.{FileError}
use Rattle.fo_world.specs.declared.error.FileError.TheVariants as error
use Rattle.fo_world.specs.declared.place.Info.{Info}
use Rattle.fo_world.specs.World.{World, Faults}
use Rattle.fo_world.specs.Step as step
use Rattle.nine_fids.specs.declared.fid.Fid.{Fid}
use Rattle.nine_fids.specs.declared.refusal.Refusal.{Refusal}
use Rattle.nine_fids.specs.declared.refusal.Refusal.TheVariants as refusal
use Rattle.fo_world.specs.Chain.{and_then}
use Rattle.nine_fids.specs.Refusing.{changed}
use Rattle.nine_fids.specs.Told.{Files, info_at}
use Rattle.nine_fids.specs.Rights.{may_write_above}
use Rattle.nine_fids.specs.Looking.{IsRefused, MayMiss, Tells}
use Rattle.nine_files.specs.Removing.{close_need, closed, gone, most_close, remove_need, removed, removed_there, removed_unless_gone, removes}

-- ---- files removed

pub removed_view : (e : Files) (w : World) (f : Fid) (now : ℕ) → step.is_active f.place.view ≡ false → removed e w f now ≡ Err (refusal.File error.ReadOnly)
unfolding removed
removed_view e w f now h = rw h refl

pub removed_root : (e : Files) (w : World) (f : Fid) (now : ℕ) → step.is_active f.place.view ≡ true → (length f.place.trail == 0) ≡ true → removed e w f now ≡ Err refusal.RemovesRoot
unfolding removed
removed_root e w f now h k = rw (h, k) refl

pub removed_above : (e : Files) (w : World) (f : Fid) (now : ℕ) (r : Refusal) → step.is_active f.place.view ≡ true → (length f.place.trail == 0) ≡ false → may_write_above e w f ≡ Err r → removed e w f now ≡ Err r
unfolding removed
removed_above e w f now r h k a = rw (h, k, a) refl

pub removed_told : (e : Files) (w : World) (f : Fid) (now : ℕ) → step.is_active f.place.view ≡ true → (length f.place.trail == 0) ≡ false → may_write_above e w f ≡ Ok tt → removed e w f now ≡ and_then (changed (step.remove e.whole w f.place f.user now)) (λ p. Ok p.1)
unfolding removed
removed_told e w f now h k a = rw (h, k, a) refl

-- ---- where the file is there

pub there_refused : (e : Files) (w : World) (f : Fid) (now : ℕ) (r : Refusal) → info_at e w f.place ≡ Err r → removed_there e w f now ≡ Err r
there_refused e w f now r h = ap (λ t. and_then t (λ _. removed e w f now)) h

pub there_told : (e : Files) (w : World) (f : Fid) (now : ℕ) (i : Info) → info_at e w f.place ≡ Ok i → removed_there e w f now ≡ removed e w f now
there_told e w f now i h = ap (λ t. and_then t (λ _. removed e w f now)) h

-- ---- ORCLOSE

pub closed_plain : (e : Files) (w : World) (f : Fid) (now : ℕ) → removes f ≡ false → closed e w f now ≡ Ok w
unfolding closed
closed_plain e w f now h = rw h refl

pub closed_there : (e : Files) (w : World) (f : Fid) (now : ℕ) (i : Info) → removes f ≡ true → info_at e w f.place ≡ Ok i → closed e w f now ≡ removed e w f now
unfolding closed
closed_there e w f now i h k = rw (h, k) refl

pub closed_gone : (e : Files) (w : World) (f : Fid) (now : ℕ) → removes f ≡ true → info_at e w f.place ≡ Err (refusal.File error.Gone) → closed e w f now ≡ Ok w
unfolding closed
closed_gone e w f now h k = rw (h, k) refl

gone_apart : (e : Files) (w : World) (f : Fid) (now : ℕ) (r : Refusal) → gone (Err r) ≡ false → removed_unless_gone e w f now (Err r) ≡ Err r
gone_apart e w f now (refusal.File error.Gone) h = absurd cc
gone_apart e w f now r h = refl

pub closed_refused : (e : Files) (w : World) (f : Fid) (now : ℕ) (r : Refusal) → removes f ≡ true → gone (Err r) ≡ false → info_at e w f.place ≡ Err r → closed e w f now ≡ Err r
unfolding closed
closed_refused e w f now r h g k = rw (h, k) (gone_apart e w f now r g)

-- what is gone is told to be, and is no failure
gone_told : (told : Result Info Refusal) (f0 f1 : Faults) (h : Type 0) (r : Refusal) → gone (Err r) ≡ true → IsRefused told (MayMiss f0 f1 h) r → told ≡ Err (refusal.File error.Gone)
gone_told told f0 f1 h (refusal.File error.Gone) g i = ⊎_elim (λ t. t) (λ p. let P : FileError → Type 0 = λ x. MayMiss f0 f1 h x in let same : error.Gone ≡ p.0 = cc in absurd (subst P (sym same) p.2)) i
gone_told told f0 f1 h r g i = absurd cc

pub gone_looked : (told : Result Info Refusal) (f0 f1 : Faults) (h : Type 0) (looked : Result Info Refusal) → gone looked ≡ true → Tells told (MayMiss f0 f1 h) looked → told ≡ Err (refusal.File error.Gone)
gone_looked told f0 f1 h (Ok i) g l = absurd cc
gone_looked told f0 f1 h (Err r) g l = gone_told told f0 f1 h r g l

-- ---- the need

pub need_plain : (e : Files) (w : World) (f : Fid) → removes f ≡ false → close_need e w f ≡ 0
need_plain e w f h = rw h refl

pub need_gone : (e : Files) (w : World) (f : Fid) → info_at e w f.place ≡ Err (refusal.File error.Gone) → close_need e w f ≡ 0
need_gone e w f k = ap (λ t. if removes f && not (gone t) then remove_need f else 0) k ∙ never (removes f) (remove_need f)
  where
    never : (b : Bool) (n : ℕ) → (if b && false then n else 0) ≡ 0
    never true n = refl
    never false n = refl

pub need_there : (e : Files) (w : World) (f : Fid) (i : Info) → removes f ≡ true → info_at e w f.place ≡ Ok i → close_need e w f ≡ remove_need f
need_there e w f i h k = rw (h, k) refl

pub most_there : (f : Fid) → removes f ≡ true → most_close f ≡ remove_need f
most_there f h = rw h refl
