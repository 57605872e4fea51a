-- A level may be put above the top of a source that stands over its blocks.
use Rattle.std.proofs.Common.{◌≡◌, ◌+◌, ◌-◌, ◌*◌, ◌/◌, ◌%◌, ◌<◌, ◌≤◌, ℕ, zero, suc, Bool, true, false, List, [], ◌∷◌, ⊎_elim, refl, sym, ◌∙◌, ap, subst, arith}
use Rattle.std.proofs.lemmas.Bool.{cases_lt}
use Rattle.fo_image.specs.declared.types.Score.{Score}
use Rattle.fo_image.specs.declared.types.State.TheVariants.{Live}
use Rattle.fo_image.specs.declared.types.Pointer.{Pointer}
use Rattle.fo_image.specs.declared.types.Pointer.TheVariants.{Nil, Local, Score as Held}
use Rattle.fo_crash.specs.declared.slot.Slot.{Slot}
use Rattle.fo_crash.specs.Images.{Image, Reaches, target, walk, local, to_block}
use Rattle.fo_crash.specs.Places.{place, super_place}
use Rattle.fo_crash.specs.Spots.{slots_of, FewSlots}
use Rattle.fo_crash.proofs.Places.{stands_below, never_above}
use Rattle.fo_crash.proofs.Reach.{lost, reaches_joins}
use Rattle.fo_ports.specs.State.{State}
use Rattle.fo_tree_read.specs.declared.tree.Tree.{Tree}
use Rattle.fo_tree_read.specs.Tree.{kind_at, kind_down, below, block_at}
use Rattle.fo_tree_read.proofs.Walk.{is_down}
use Rattle.fo_tree_look.specs.declared.ways.Kept.{Kept}
use Rattle.fo_tree_look.specs.Source.{HasBlock, Over}
use Rattle.fo_tree_down.proofs.of_tree_own.Link.{Laws}
use Rattle.fo_tree_raise.specs.Raise.{CanRaise}

local_eq : {a b : ℕ} → Local a ≡ Local b → a ≡ b
local_eq e = cc

nil_local : (b : ℕ) → Nil ≡ Local b → ⊥
nil_local b e = cc

held_local : (score : Score) (b : ℕ) → Held score ≡ Local b → ⊥
held_local score b e = cc

few_slots : (dir : Bool) (level : ℕ) → slots_of (kind_at dir level) ≤ 409
few_slots true zero = omega arith
few_slots true (suc level) = omega arith
few_slots false zero = omega arith
few_slots false (suc level) = omega arith

no_slots : (dir : Bool) (level : ℕ) → dir ≡ false → level ≡ 0 → slots_of (kind_at dir level) ≡ 0
no_slots dir level plain leaf = ap (λ d. slots_of (kind_at d level)) plain ∙ ap (λ l. slots_of (kind_at false l)) leaf

walk_same : (now : Image) (s t : Slot) (path : List ℕ) → target s ≡ target t → target (walk now s path) ≡ target (walk now t path)
walk_same now s t [] e = e
walk_same now s t (j ∷ path) e = ap (λ (p : Pointer). target (walk now ((local now p).slot j) path)) e

abbrev Fine : State → ℕ → Type 0
Fine s b = ((s.label b).state ≡ Live) × ((s.label b).epoch ≤ s.high) × (s.covered b → ⊥)

module _ {s : State} {t : Tree} {kept : List Kept} {limit : ℕ} (laws : Laws s) (few : s.tells → FewSlots s.stands s.now) (over : Over s t kept limit) where
  -- what hangs from a top that hangs from block 1
  in_tree : s.tells → (top : ℕ) → t.top ≡ Local top → Reaches s.now (to_block 1) top → (b : ℕ) → Reaches s.now (to_block top) b → Fine s b
  in_tree told top is r b down =
      let q = stands_below super_place (laws.placed told) (laws.ranked told) (laws.super_stands told) r in
      laws.live b told
      (λ e. ⊎_elim
      (λ lt. never_above q.0 super_place laws.one (laws.placed told) (laws.ranked told) q.1 (laws.super_stands told) lt (subst (λ y. Reaches s.now (to_block top) y) e down))
      (λ same. laws.not_one (subst (λ y. s.is_block y) (sym same.0) (over.hangs.is_one top is)))
      q.2)
      (reaches_joins r down)

  slot_few : s.tells → (n k at j c : ℕ) → n ≤ t.depth → block_at s t n k ≡ Local at → target ((s.now at).slot j) ≡ Local c → j < slots_of (kind_down t n)
  slot_few told n k at j c le is f =
      let there = is_down s t (laws.placed told) over.hangs told n k at le is in
      (few told).each at j c (place (kind_down t n) t.tag there.index (t.rank + (t.depth - n))) there.stands f

  next : (n k at j c : ℕ) → j < 409 → block_at s t n k ≡ Local at → target ((s.now at).slot j) ≡ Local c → block_at s t (suc n) (409 * k + j) ≡ Local c
  next n k at j c lt is f =
      let up : (409 * k + j) / 409 ≡ k = omega (arith, lt) in
      let rest : (409 * k + j) % 409 ≡ j = omega (arith, lt) in
      ap (λ y. below s (kind_down t n) (block_at s t n y) ((409 * k + j) % 409)) up
      ∙ ap (λ y. below s (kind_down t n) (block_at s t n k) y) rest
      ∙ ap (λ (p : Pointer). below s (kind_down t n) p j) is
      ∙ f

  -- what hangs from a source of data are its own blocks
  of_source : s.tells → t.dir ≡ false → (path : List ℕ) (n k at b : ℕ) → n ≤ t.depth → block_at s t n k ≡ Local at → target (walk s.now (to_block at) path) ≡ Local b → Fine s b
  of_source told plain [] n k at b le is e =
      let own = over.told told at (record { down = n; index = k; within = le; is = is }) in
      subst (λ y. Fine s y) (local_eq e) (own.live, own.up_to, own.uncovered)
  of_source told plain (j ∷ path) n k at b le is e = by (λ m i c near here leads. of_source told plain path m i c b near here leads) (target ((s.now at).slot j)) refl
    where
      by : ((m i c : ℕ) → m ≤ t.depth → block_at s t m i ≡ Local c → target (walk s.now (to_block c) path) ≡ Local b → Fine s b) → (p : Pointer) → target ((s.now at).slot j) ≡ p → Fine s b
      by on Nil f = absurd (lost s.now path ((s.now at).slot j) (λ c h. nil_local c (sym f ∙ h)) b e)
      by on (Held score) f = absurd (lost s.now path ((s.now at).slot j) (λ c h. held_local score c (sym f ∙ h)) b e)
      by on (Local c) f =
          let lt = slot_few told n k at j c le is f in
          let most : slots_of (kind_down t n) ≤ 409 = few_slots t.dir (t.depth - n) in
          ⊎_elim
          (λ inner. on (suc n) (409 * k + j) c (omega (arith, inner)) (next n k at j c (omega (arith, lt, most)) is f) (sym (walk_same s.now ((s.now at).slot j) (to_block c) path f) ∙ e))
          (λ leaf. let none : slots_of (kind_down t n) ≡ 0 = no_slots t.dir (t.depth - n) plain (omega (arith, leaf)) in absurd (omega (arith, lt, none)))
          (cases_lt n t.depth)

  fine_below : s.tells → (t.dir ≡ true → (b : ℕ) → HasBlock s t b → Reaches s.now (to_block 1) b) → (top : ℕ) → t.top ≡ Local top → (b : ℕ) → Reaches s.now (to_block top) b → Fine s b
  fine_below told linked top is b r = by t.dir refl
    where
      by : (d : Bool) → t.dir ≡ d → Fine s b
      by true e = in_tree told top is (linked e top (record { down = 0; index = 0; within = omega arith; is = is })) b r
      by false e = of_source told e r.path 0 0 top b (omega arith) is r.leads

  pub can_raise : ((b : ℕ) → t.top ≡ Local b → ((s.label b).state ≡ Live) × ((s.label b).epoch ≡ s.high)) → (s.tells → t.dir ≡ true → (b : ℕ) → HasBlock s t b → Reaches s.now (to_block 1) b) → CanRaise s t
  can_raise current linked = record {
    holds = over.holds;
    under = λ b e. record {
      is_one = over.hangs.is_one b e;
      live = (current b e).0;
      current = (current b e).1;
      told = λ told. record {
        free = over.free told b e;
        brings = record { each = λ x r. fine_below told (linked told) b e x r };
        stands = (over.hangs.told told b e).0;
      };
    };
  }
