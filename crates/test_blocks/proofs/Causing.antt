-- The causes of a chain of calls on blocks.
use Rattle.std.proofs.Common.{◌≡◌, ◌≢◌, ◌≤◌, ℕ, inl, sym, ◌∙◌, ap, subst, arith}
use Rattle.fo_base.specs.Cause.{Rose}
use Rattle.fo_crash.specs.declared.place.Place.{Place}
use Rattle.fo_crash.specs.Images.{Reaches, target, to_block}
use Rattle.fo_crash.specs.Places.{OnePlace}
use Rattle.fo_crash.proofs.Reach.{same_walk}
use Rattle.fo_image.specs.declared.types.Kind.TheVariants.{Data}
use Rattle.fo_ports.specs.declared.error.BlockError.{BlockError}
use Rattle.fo_ports.specs.declared.error.BlockError.TheVariants.{Full, Damaged, Fault, Arena, Memory}
use Rattle.fo_ports.specs.Causes.{Caused, IsFull}
use Rattle.fo_ports.specs.State.{State, Rests, Looks, KeepsAll}
use Rattle.test_blocks.specs.Change.{StandsOnce, StandsSo}
use Rattle.test_blocks.proofs.Hanging.{still_linked}

-- room for no blocks is never refused for want of blocks
pub of_reserve : (e : BlockError) (s : State) (damaged : ℕ → Type 0) (fault : Type 0) → Caused (IsFull s 0) damaged fault ⊥ e → Caused ⊥ damaged fault ⊥ e
of_reserve Full s damaged fault h = absurd (omega (arith, h.0))
of_reserve (Damaged b) s damaged fault h = h
of_reserve (Fault w) s damaged fault h = h
of_reserve (Arena w) s damaged fault h = h
of_reserve Memory s damaged fault h = h

rose_later : (a b c : ℕ) → a ≤ b → Rose b c → Rose a c
rose_later a b c le h = omega (arith, le, h)

-- a refusal later on, where nothing is damaged that stands
pub of_get : (e : BlockError) (s t u : State) (at : ℕ) → KeepsAll s t → (s.tells → (p : Place) × t.stands at p) → Caused ⊥ (λ b. (b ≡ at) × (t.tells → (p : Place) → t.stands at p → ⊥)) (Rose t.faults u.faults) ⊥ e → Caused ⊥ (λ b. s.tells → ⊥) (Rose s.faults u.faults) ⊥ e
of_get Full s t u at all stands h = h
of_get (Damaged b) s t u at all stands h = λ told. let p = stands told in h.1 (all.still_tells.1 told) p.0 p.1
of_get (Fault w) s t u at all stands h = rose_later s.faults t.faults u.faults all.more_faults h
of_get (Arena w) s t u at all stands h = h
of_get Memory s t u at all stands h = h

pub of_put : (e : BlockError) (s t u : State) → KeepsAll s t → Caused ⊥ (λ b. ⊥) (Rose t.faults u.faults) ⊥ e → Caused ⊥ (λ b. s.tells → ⊥) (Rose s.faults u.faults) ⊥ e
of_put Full s t u all h = h
of_put (Damaged b) s t u all h = absurd h
of_put (Fault w) s t u all h = rose_later s.faults t.faults u.faults all.more_faults h
of_put (Arena w) s t u all h = h
of_put Memory s t u all h = h

-- the place of a block that is not to be closed stays
pub still_stands : (s t : State) (at rank : ℕ) → s.tops 1 → StandsOnce s at rank → Rests s t → s.tells → (p : Place) × t.stands at p
still_stands s t at rank top stands rests told =
    let p = stands.place told in
    (p.0, (rests.blocks told at (stands.undoomed told)).places (1, inl top, stands.linked told) p.0 p.1)

pub rested_so : (s t : State) (at rank : ℕ) → s.tops 1 → StandsOnce s at rank → KeepsAll s t → Rests s t → OnePlace t.stands → t.tells → (p : Place) → t.stands at p → (p.kind ≡ Data 0) × (p.rank ≡ rank)
rested_so s t at rank top stands first rests one told p here =
    let told_s = first.still_tells.0 told in
    let was = stands.place told_s in
    let still = rests.blocks told_s at (stands.undoomed told_s) in
    let same = one.each at p was.0 here (still.places (1, inl top, stands.linked told_s) was.0 was.1) in
    let P : Place → Type 0 = λ q. (q.kind ≡ Data 0) × (q.rank ≡ rank) in
    subst P (sym same) (was.2, was.3)

pub stands_so : (s t u : State) (at rank : ℕ) → s.tops 1 → (s.covered 1 → ⊥) → (s.tells → (x : ℕ) → x ≢ 1 → Reaches s.now (to_block 1) x → s.covered x → ⊥) → StandsOnce s at rank → KeepsAll s t → Rests s t → KeepsAll t u → Looks t u → OnePlace u.stands → StandsSo u at rank
stands_so s t u at rank top one_stays live stands first rests second looks one = record {
  each = λ told p here.
      let told_t = second.still_tells.0 told in
      let told_s = first.still_tells.0 told_t in
      let was = stands.place told_s in
      let still = rests.blocks told_s at (stands.undoomed told_s) in
      let linked = still_linked rests told_s one_stays (live told_s) (stands.undoomed told_s) (stands.linked told_s) in
      let reached : Reaches u.now (to_block 1) at = record { path = linked.path; leads = ap target (same_walk u.now t.now (λ b j. ((looks.memory told_t).each b).slots j) linked.path (to_block 1)) ∙ linked.leads } in
      let top_u = (second.same_tops 1).1 ((first.same_tops 1).1 top) in
      let there = looks.stays.places told_t at was.0 (λ x. x) (λ x. x) (λ c. still.uncovered ((looks.covered.covered at).0 c)) (1, inl top_u, reached) (still.places (1, inl top, stands.linked told_s) was.0 was.1) in
      let same = one.each at p was.0 here there in
      let P : Place → Type 0 = λ q. (q.kind ≡ Data 0) × (q.rank ≡ rank) in
      subst P (sym same) (was.2, was.3);
}
