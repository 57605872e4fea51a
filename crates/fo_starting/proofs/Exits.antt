-- What is said where one of two devices is refused.
use Rattle.std.proofs.Common.{◌≡◌, ◌⊎◌, inl, inr, ℕ, ◌≤◌, ◌<◌, List, [], length, Result, Ok, Err, IfErr, MatchResult, refl, sym, ap, ◌∙◌, subst, arith}
use Rattle.fo_base.specs.Cause.{Rose}
use Rattle.fo_disk.specs.Disk.{Block, DiskState, IsContent}
use Rattle.fo_disk.specs.Disk.{Content as Holds}
use Rattle.fo_image.specs.declared.types.Super.{Super}
use Rattle.fo_image.specs.declared.record.RootBlock.{RootBlock}
use Rattle.fo_sound.specs.Device.{Shows}
use Rattle.fo_sound.specs.Sizes.{IsMainSize}
use Rattle.fo_check.specs.Answer.{Blames, IsOutside}
use Rattle.fo_check.specs.declared.error.CheckError.{CheckError}
use Rattle.fo_check.specs.declared.error.CheckError.TheVariants as error
use Rattle.fo_check_image.specs.Answer.{Refuses, Reports}
use Rattle.fo_check_image.specs.declared.report.Report.{Report}
use Rattle.fo_opening.specs.Refuses.{Refuses as Misses, Blames as Accuses}
use Rattle.fo_opening.specs.declared.error.Why.{Why}
use Rattle.fo_opening.specs.declared.error.Why.TheVariants as why
use Rattle.venti_store.specs.declared.error.ArenaWhy.{ArenaWhy}
use Rattle.venti_store.specs.declared.error.ArenaWhy.TheVariants as lack
use Rattle.venti_store.specs.Held.{IsIndexed}
use Rattle.venti_store.specs.Opening.{OpenBlames, OpenRefuses}
use Rattle.fo_starting.specs.Begins.{MayOpen}
use Rattle.fo_starting.specs.Whys.{arena_why, main_why}
use Rattle.fo_starting.proofs.Passed.{count_shown, has_header, has_root, has_super, has_table}

-- ---- a sound image may be opened

pub may_open : (image vault : List Block) (report : Report) (r : Reports image vault report) → MayOpen image vault r.s r.active.root
may_open image vault report r = record { sizes = r.sound.sizes; vault_is = r.sound.vault_is; formatted = r.sound.formatted; root_is = r.sound.root; table = r.sound.table }

pub shows_on : {old new : DiskState} {image : List Block} → new ≡ old → Shows old.holds image → Shows new.holds image
shows_on kept shows = record { quiet = ap (λ (s : DiskState). s.holds) kept ∙ shows.quiet; some = shows.some }

pub outside_refuses : (image vault : List Block) (e : CheckError) → IsOutside e → Refuses image vault e
outside_refuses image vault error.Size h = absurd h
outside_refuses image vault error.NotArena h = absurd h
outside_refuses image vault error.NotBuilt h = absurd h
outside_refuses image vault (error.Unsound rule block) h = absurd h
outside_refuses image vault (error.Main fault) h = tt
outside_refuses image vault (error.Arena fault) h = tt
outside_refuses image vault error.Memory h = tt

-- a report says that the image is sound, and after it a refusal is a fault or want of memory
pub after_check : {T U : Type 0} (why : U → CheckError) (image vault : List Block) (report : Report) (r : Result T U) → Reports image vault report → IfErr r (λ e. IsOutside (why e)) → MatchResult r (λ x. (y : Report) × Reports image vault y) (λ e. Refuses image vault (why e))
after_check why image vault report (Ok x) sound h = (report, sound)
after_check why image vault report (Err e) sound h = outside_refuses image vault (why e) h

-- ---- the arena

-- of an arena in which nothing is used no line is asked
unused : (image vault : List Block) (s : Super) (root : RootBlock) → MayOpen image vault s root → IsIndexed 0 [] vault
unused image vault s root m = record {
  least = m.sizes.arena_least;
  most = m.sizes.arena_most;
  arena = m.vault_is;
  line = λ place lt. absurd (omega (arith, lt));
  apart = λ one other lt more. absurd (omega (arith, more));
}

pub arena_outside : (image vault : List Block) (s : Super) (root : RootBlock) (w : ArenaWhy) → OpenRefuses vault w → MayOpen image vault s root → IsOutside (arena_why w)
arena_outside image vault s root lack.NotArena h m = h 0 [] (unused image vault s root m)
arena_outside image vault s root lack.ArenaRead h m = tt
arena_outside image vault s root lack.Memory h m = tt

pub arena_blames : (main f g : ℕ) (w : ArenaWhy) → OpenBlames f g w → Blames main main f g (arena_why w)
arena_blames main f g lack.NotArena h = tt
arena_blames main f g lack.ArenaRead h = (refl, h)
arena_blames main f g lack.Memory h = tt

pub arena_sized : (w : ArenaWhy) → arena_why w ≡ error.Size → ⊥
arena_sized lack.NotArena e = cc
arena_sized lack.ArenaRead e = cc
arena_sized lack.Memory e = cc

-- ---- the cache

count_is : (holds : Holds) (image : List Block) (size : ℕ) → Shows holds image → (holds ≡ []) ⊎ IsContent size holds → size ≡ length image
count_is holds image size s (inl none) =
    let n : length holds ≡ 0 = ap length none in
    let m = count_shown holds image s in
    let some = s.some in
    absurd (omega (arith, n, m, some))
count_is holds image size s (inr content) = sym content.count ∙ count_shown holds image s

pub main_outside : (holds : Holds) (image vault : List Block) (s : Super) (root : RootBlock) (was size : ℕ) (w : Why) → Shows holds image → (holds ≡ []) ⊎ IsContent size holds → IsMainSize was → (0 < was → size ≡ was) → Misses size holds w → MayOpen image vault s root → IsOutside (main_why w)
main_outside holds image vault s root was size why.Size shows content least same h m = absurd (h (subst IsMainSize (sym (same (let le = least.0 in omega (arith, le)))) least))
main_outside holds image vault s root was size why.Header shows content least same h m = absurd (has_header holds image s size shows (count_is holds image size shows content) m.formatted h.1)
main_outside holds image vault s root was size why.Super shows content least same h m = absurd (has_super holds image s root size shows (count_is holds image size shows content) h.0.0.0 m.formatted m.root_is h.1)
main_outside holds image vault s root was size (why.Label b) shows content least same h m = absurd (has_table holds image size b shows (count_is holds image size shows content) h.1.begins.0.0 m.table h.2)
main_outside holds image vault s root was size why.Root shows content least same h m = absurd (has_root holds image s h.0 root size h.1.bytes shows (count_is holds image size shows content) h.1.begins.0.0 m.formatted m.root_is h.1.has.read h.1.has.spells h.2)
main_outside holds image vault s root was size (why.Fault fault) shows content least same h m = tt
main_outside holds image vault s root was size why.Memory shows content least same h m = tt

pub main_blames : (f g a b : ℕ) (w : Why) → (main_why w ≡ error.Size → ⊥) → Accuses f g w → Blames f g a b (main_why w)
main_blames f g a b why.Size none h = absurd (none refl)
main_blames f g a b why.Header none h = tt
main_blames f g a b why.Super none h = tt
main_blames f g a b (why.Label block) none h = tt
main_blames f g a b why.Root none h = tt
main_blames f g a b (why.Fault fault) none h = h
main_blames f g a b why.Memory none h = tt

pub main_sized : (was size : ℕ) (holds : Holds) (w : Why) → IsMainSize was → (0 < was → size ≡ was) → Misses size holds w → main_why w ≡ error.Size → ⊥
main_sized was size holds why.Size least same h e = h (subst IsMainSize (sym (same (let le = least.0 in omega (arith, le)))) least)
main_sized was size holds why.Header least same h e = cc
main_sized was size holds why.Super least same h e = cc
main_sized was size holds (why.Label b) least same h e = cc
main_sized was size holds why.Root least same h e = cc
main_sized was size holds (why.Fault fault) least same h e = cc
main_sized was size holds why.Memory least same h e = cc

-- ---- after the check

rose_on : (f g h : ℕ) → f ≤ g → Rose g h → Rose f h
rose_on f g h le r = omega (arith, le, r)

pub blames_on : (f g h a b c : ℕ) (e : CheckError) → f ≤ g → a ≤ b → (e ≡ error.Size → ⊥) → Blames g h b c e → Blames f h a c e
blames_on f g h a b c error.Size le more none is = absurd (none refl)
blames_on f g h a b c error.NotArena le more none is = tt
blames_on f g h a b c error.NotBuilt le more none is = tt
blames_on f g h a b c (error.Unsound rule block) le more none is = tt
blames_on f g h a b c (error.Main fault) le more none is = (is.0, rose_on f g h le is.1)
blames_on f g h a b c (error.Arena fault) le more none is = (is.0, rose_on a b c more is.1)
blames_on f g h a b c error.Memory le more none is = tt
