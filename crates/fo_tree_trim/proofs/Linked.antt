-- What stands behind a way in a source that hangs from block 1.
use Rattle.std.proofs.Common.{◌≡◌, ◌≢◌, ◌-◌, ◌/◌, ◌%◌, ◌<◌, ℕ, zero, suc, Bool, true, false, ⊎_elim, refl, sym, ◌∙◌, subst, arith}
use Rattle.std.proofs.lemmas.Bool.{cases_lt}
use Rattle.fo_image.specs.declared.types.Kind.{Kind}
use Rattle.fo_image.specs.declared.types.Kind.TheVariants.{Dir}
use Rattle.fo_image.specs.declared.types.Pointer.{Pointer}
use Rattle.fo_image.specs.declared.types.Pointer.TheVariants.{Nil, Local, Score as Held}
use Rattle.fo_image.specs.Format.{kind_code}
use Rattle.fo_crash.specs.Images.{Reaches, target, to_block}
use Rattle.fo_crash.specs.Spots.{slots_of}
use Rattle.fo_crash.proofs.Reach.{reaches_on}
use Rattle.fo_ports.specs.State.{State}
use Rattle.fo_tree_read.specs.declared.tree.Tree.{Tree}
use Rattle.fo_tree_read.specs.Tree.{kind_at, kind_down, below, block_at}
use Rattle.fo_tree_read.proofs.Walk.{held_apart}
use Rattle.fo_tree_look.specs.Source.{HasBlock, IsTold}
use Rattle.fo_tree_trim.specs.Behind.{IsPast, HangsPast}
use Rattle.fo_tree_trim.specs.Cut.{MayCut}
use Rattle.fo_tree_trim.proofs.Past.{Said, past_place, past_kind, past_step, path_on}

module _ (s : State) (t : Tree) (linked : (b : ℕ) → t.top ≡ Local b → Reaches s.now (to_block 1) b) where
  nil_local : (b : ℕ) → Nil ≢ Local b
  nil_local b e = cc

  one_down : (kind : Kind) (p : Pointer) (i b : ℕ) → ((a : ℕ) → p ≡ Local a → Reaches s.now (to_block 1) a) → below s kind p i ≡ Local b → Reaches s.now (to_block 1) b
  one_down kind Nil i b h e = absurd (nil_local b e)
  one_down kind (Local a) i b h e = reaches_on {image = s.now} {s = to_block 1} {a = a} {b = b} i (h a refl) e
  one_down kind (Held score) i b h e = absurd (held_apart (s.held score (kind_code kind)) i b e)

  -- all its blocks hang from there
  pub linked_block : (n k b : ℕ) → block_at s t n k ≡ Local b → Reaches s.now (to_block 1) b
  linked_block zero k b e = linked b e
  linked_block (suc n) k b e = one_down (kind_down t n) (block_at s t n (k / 409)) (k % 409) b (λ a f. linked_block n (k / 409) a f) e

no_slots : (dir : Bool) (i : ℕ) → dir ≡ false → i < slots_of (kind_at dir 0) → ⊥
no_slots false i e lt = omega (arith, lt)
no_slots true i e lt = cc

no_dir : (dir : Bool) (level : ℕ) → dir ≡ false → kind_at dir level ≡ Dir 0 → ⊥
no_dir false level e is = cc
no_dir true level e is = cc

dir_cases : {P : Type 0} (dir : Bool) → (dir ≡ true → P) → (dir ≡ false → P) → P
dir_cases true dirs plains = dirs refl
dir_cases false dirs plains = plains refl

-- ---- from a leaf of data nothing hangs

module _ {s : State} {t : Tree} {last : ℕ} (x : Said s t last) (plain : t.dir ≡ false) where
  plain_step : (a : ℕ) → IsPast s t last a → (i b : ℕ) → target ((s.now a).slot i) ≡ Local b → IsPast s t last b
  plain_step a p i b e = ⊎_elim
      (λ lt. past_step x p lt i b e)
      (λ ge.
      let flat : t.depth - p.down ≡ 0 = omega (arith, ge) in
      absurd (no_slots t.dir i plain (subst (λ y. i < slots_of (kind_at t.dir y)) flat (x.slots.each a i b _ (past_place x p) e))))
      (cases_lt p.down t.depth)

  pub plain_past : (b : ℕ) → HangsPast s t last b → IsPast s t last b
  plain_past b h = path_on x {P = IsPast s t last} plain_step h.reaches.path (to_block h.from) (λ c e. subst (λ y. IsPast s t last y) (same e) h.past) b h.reaches.leads
    where
      same : {c d : ℕ} → Local c ≡ Local d → c ≡ d
      same e = cc

-- ---- what stands behind the way may be cleared

-- What is known of a source that hangs from block 1.
pub record InTree (s : State) (t : Tree) (last : ℕ) : Type 0 where
  pub said : Said s t last
  pub linked : (b : ℕ) → t.top ≡ Local b → Reaches s.now (to_block 1) b
  pub told : (b : ℕ) → HasBlock s t b → IsTold s t.top b
  pub aside : (y b : ℕ) → s.instead y b → Reaches s.now (to_block 1) y → ⊥
  pub clears : (b j : ℕ) → s.clearing b j → (s.label b).kind ≡ Dir 0
  pub alone : t.dir ≡ true → (y b : ℕ) → HangsPast s t last b → s.instead y b → ⊥
  pub settled : t.dir ≡ true → (b j : ℕ) → HangsPast s t last b → s.clearing b j → ⊥

pub may_cut_is : {s : State} {t : Tree} {last : ℕ} → InTree s t last → MayCut s t last
may_cut_is {s = s} {t = t} {last = last} x = record {
  linked = λ b has. linked_block s t x.linked has.down has.index b has.is;
  alone = λ y b h is. dir_cases t.dir
      (λ dir. x.alone dir y b h is)
      (λ plain.
      let p = plain_past x.said plain b h in
      let has : HasBlock s t b = record { down = p.down; index = p.index; within = p.within; is = p.is } in
      x.aside y b is (x.linked y ((x.told b has).alone y is).0));
  still = λ b j h waits. dir_cases t.dir
      (λ dir. x.settled dir b j h waits)
      (λ plain. let p = plain_past x.said plain b h in no_dir t.dir (t.depth - p.down) plain (sym (past_kind x.said p) ∙ x.clears b j waits));
}
