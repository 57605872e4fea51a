-- What the check answers where one of its steps refuses.
use Rattle.std.proofs.Common.{◌≡◌, ℕ, List, length, Ok, Err, sym, ◌∙◌, ap, subst}
use Rattle.fo_disk.specs.Disk.{Block, DiskState}
use Rattle.fo_image.specs.declared.types.Super.{Super}
use Rattle.fo_image.specs.declared.record.RootBlock.{RootBlock}
use Rattle.fo_check.specs.declared.error.CheckError.{CheckError}
use Rattle.fo_check.specs.declared.error.CheckError.TheVariants.{Size, NotArena, NotBuilt, Unsound, Main, Arena, Memory}
use Rattle.fo_check.specs.declared.opening.Opening.{Opening}
use Rattle.fo_sound.specs.Sound.{IsFormatted, HasActiveRoot, ReachesLow}
use Rattle.fo_sound.specs.Sizes.{HasSizes, IsArena}
use Rattle.fo_check.specs.Answer.{IsOpen, IsAlone, Opens, Refuses, IsOutside, Finds, Blames}
use Rattle.fo_check.specs.Answer.IsNotBuilt.{archived as by_archive, more as by_more}
use Rattle.fo_check.specs.Answer.IsUnsound.{format as by_format, active as by_active, chain as by_chain}
use Rattle.fo_sound.specs.Device.{Shows}
use Rattle.fo_check.specs.Stage.{RefusesSizes, RefusesStart, RefusesArena, RefusesActive, RefusesRest}

-- a device that did not change shows what it did
pub shown_on : {old new : DiskState} {image : List Block} → new ≡ old → Shows old.holds image → Shows new.holds image
shown_on kept shows = record { quiet = ap (λ (s : DiskState). s.holds) kept ∙ shows.quiet; some = shows.some }

-- what is said of values is no fault
pub rest-blames : (s : Super) (root : RootBlock) (main main_now arena arena_now : ℕ) (e : CheckError) → RefusesRest s root e → Blames main main_now arena arena_now e
rest-blames s root main main_now arena arena_now Size h = absurd h
rest-blames s root main main_now arena arena_now NotArena h = tt
rest-blames s root main main_now arena arena_now NotBuilt h = tt
rest-blames s root main main_now arena arena_now (Unsound rule block) h = tt
rest-blames s root main main_now arena arena_now (Main fault) h = absurd h
rest-blames s root main main_now arena arena_now (Arena fault) h = absurd h
rest-blames s root main main_now arena arena_now Memory h = tt

module _ (image vault : List Block) where
  refused : (e : CheckError) → Refuses image vault e → ((v : Opening) → Opens image vault v → IsOutside e) → Finds (Opens image vault) (Refuses image vault) (Err e)
  refused e why none = record { found = why; only = none }

  sizes_why : (e : CheckError) → RefusesSizes image vault e → Refuses image vault e
  sizes_why Size h = h
  sizes_why NotArena h = absurd h
  sizes_why NotBuilt h = absurd h
  sizes_why (Unsound rule block) h = absurd h
  sizes_why (Main fault) h = tt
  sizes_why (Arena fault) h = tt
  sizes_why Memory h = tt

  sizes_none : (e : CheckError) → RefusesSizes image vault e → HasSizes image vault → IsOutside e
  sizes_none Size h sizes = h sizes
  sizes_none NotArena h sizes = h
  sizes_none NotBuilt h sizes = h
  sizes_none (Unsound rule block) h sizes = h
  sizes_none (Main fault) h sizes = tt
  sizes_none (Arena fault) h sizes = tt
  sizes_none Memory h sizes = tt

  pub at_sizes : (e : CheckError) → RefusesSizes image vault e → Finds (Opens image vault) (Refuses image vault) (Err e)
  at_sizes e h = refused e (sizes_why e h) (λ v r. sizes_none e h r.opened.sizes)

  pub at_fault : (e : CheckError) → IsOutside e → Finds (Opens image vault) (Refuses image vault) (Err e)
  at_fault e h = refused e (why e h) (λ v r. h)
    where
      why : (e : CheckError) → IsOutside e → Refuses image vault e
      why Size h = absurd h
      why NotArena h = absurd h
      why NotBuilt h = absurd h
      why (Unsound rule block) h = absurd h
      why (Main fault) h = tt
      why (Arena fault) h = tt
      why Memory h = tt

  module _ (sizes : HasSizes image vault) where
    start_why : (e : CheckError) → RefusesStart image e → Refuses image vault e
    start_why Size h = absurd h
    start_why NotArena h = absurd h
    start_why NotBuilt h = absurd h
    start_why (Unsound rule block) h = by_format h.0 sizes h.1
    start_why (Main fault) h = tt
    start_why (Arena fault) h = tt
    start_why Memory h = tt

    pub at_start : (e : CheckError) → RefusesStart image e → ((s : Super) → IsFormatted image s → IsOutside e) → Finds (Opens image vault) (Refuses image vault) (Err e)
    at_start e h none = refused e (start_why e h) (λ v r. none v.s r.opened.formatted)

    module _ (s : Super) (formatted : IsFormatted image s) where
      arena_why : (e : CheckError) → RefusesArena vault e → Refuses image vault e
      arena_why Size h = absurd h
      arena_why NotArena h = record { sizes = sizes; s = s; formatted = formatted; none = h }
      arena_why NotBuilt h = by_archive s h.0 sizes formatted h.2 h.1
      arena_why (Unsound rule block) h = absurd h
      arena_why (Main fault) h = tt
      arena_why (Arena fault) h = tt
      arena_why Memory h = tt

      pub at_arena : (e : CheckError) → RefusesArena vault e → (IsArena vault 0 → IsOutside e) → Finds (Opens image vault) (Refuses image vault) (Err e)
      at_arena e h none = refused e (arena_why e h) (λ v r. none r.opened.arena)

      module _ (same_s : (t : Super) → IsFormatted image t → s ≡ t) (arena : IsArena vault 0) where
        opened : IsOpen image vault s
        opened = record { sizes = sizes; formatted = formatted; arena = arena }

        active_why : (e : CheckError) → RefusesActive image s e → Refuses image vault e
        active_why Size h = absurd h
        active_why NotArena h = absurd h
        active_why NotBuilt h = absurd h
        active_why (Unsound rule block) h = by_active s h.0 opened h.1
        active_why (Main fault) h = tt
        active_why (Arena fault) h = tt
        active_why Memory h = tt

        root_here : (v : Opening) → Opens image vault v → HasActiveRoot image s v.root
        root_here v r = subst (λ (t : Super). HasActiveRoot image t v.root) (sym (same_s v.s r.opened.formatted)) r.active

        pub at_active : (e : CheckError) → RefusesActive image s e → ((root : RootBlock) → HasActiveRoot image s root → IsOutside e) → Finds (Opens image vault) (Refuses image vault) (Err e)
        at_active e h none = refused e (active_why e h) (λ v r. none v.root (root_here v r))

        module _ (root : RootBlock) (active : HasActiveRoot image s root) (same_root : (other : RootBlock) → HasActiveRoot image s other → root ≡ other) where
          rest_why : (e : CheckError) → RefusesRest s root e → Refuses image vault e
          rest_why Size h = absurd h
          rest_why NotArena h = absurd h
          rest_why NotBuilt h = by_more s root opened active h
          rest_why (Unsound rule block) h = by_chain s root h.0 opened active h.1 h.2 h.3
          rest_why (Main fault) h = absurd h
          rest_why (Arena fault) h = absurd h
          rest_why Memory h = absurd h

          alone_here : (v : Opening) → Opens image vault v → IsAlone s root
          alone_here v r =
              let here : IsAlone s v.root = subst (λ (t : Super). IsAlone t v.root) (sym (same_s v.s r.opened.formatted)) r.alone in
              subst (λ (x : RootBlock). IsAlone s x) (sym (same_root v.root (root_here v r))) here

          chain_here : (v : Opening) → Opens image vault v → ReachesLow s
          chain_here v r = subst (λ (t : Super). ReachesLow t) (sym (same_s v.s r.opened.formatted)) r.chain

          rest_none : (e : CheckError) → RefusesRest s root e → IsAlone s root → ReachesLow s → IsOutside e
          rest_none Size h alone chain = h
          rest_none NotArena h alone chain = h
          rest_none NotBuilt h alone chain = h alone
          rest_none (Unsound rule block) h alone chain = h.2 chain
          rest_none (Main fault) h alone chain = absurd h
          rest_none (Arena fault) h alone chain = absurd h
          rest_none Memory h alone chain = absurd h

          pub at_rest : (e : CheckError) → RefusesRest s root e → Finds (Opens image vault) (Refuses image vault) (Err e)
          at_rest e h = refused e (rest_why e h) (λ v r. rest_none e h (alone_here v r) (chain_here v r))

          pub at_end : (o : Opening) → o.blocks ≡ length image → o.s ≡ s → o.root ≡ root → IsAlone s root → ReachesLow s → Finds (Opens image vault) (Refuses image vault) (Ok o)
          at_end o blocks is_s is_root alone chain = record {
            found = record {
              blocks = blocks;
              opened = subst (λ (t : Super). IsOpen image vault t) (sym is_s) opened;
              active = subst (λ (t : Super). HasActiveRoot image t o.root) (sym is_s) (subst (λ (x : RootBlock). HasActiveRoot image s x) (sym is_root) active);
              alone = subst (λ (t : Super). IsAlone t o.root) (sym is_s) (subst (λ (x : RootBlock). IsAlone s x) (sym is_root) alone);
              chain = subst (λ (t : Super). ReachesLow t) (sym is_s) chain;
            };
            only = λ v r.
                let b : o.blocks ≡ v.blocks = blocks ∙ sym r.blocks in
                let x : o.s ≡ v.s = is_s ∙ same_s v.s r.opened.formatted in
                let y : o.root ≡ v.root = is_root ∙ same_root v.root (root_here v r) in
                λ k. record { blocks = b k; s = x k; root = y k };
          }
