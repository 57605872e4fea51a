-- Why blocks that tell nothing keep the laws.
use Rattle.std.specs.Prelude.{◌≡◌, ◌⊎◌, ◌+◌, ◌-◌, ◌*◌, ◌/◌, ◌^◌, ◌<◌, ◌≤◌, ℕ, zero, suc, Bool, true, false, cond, nat_lt, List, [], ◌∷◌, length, refl}
use Rattle.std.proofs.Common.{inl, inr, ⊎_elim, get_or, sym, ◌∙◌, subst, arith}
use Rattle.std.proofs.lemmas.Bool.{cases_lt}
use Rattle.fo_image.specs.declared.types.State.TheVariants.{Live}
use Rattle.fo_image.specs.declared.types.Kind.{Kind}
use Rattle.fo_image.specs.declared.types.Kind.TheVariants.{Data, Dir, Root}
use Rattle.fo_image.specs.declared.types.Pointer.{Pointer}
use Rattle.fo_image.specs.declared.types.Pointer.TheVariants.{Nil, Local}
use Rattle.fo_crash.specs.declared.slot.Slot.{Slot}
use Rattle.fo_crash.specs.declared.slot.Slot.TheVariants.{Pointer as To, Entry as Head, Prev}
use Rattle.fo_crash.specs.Images.{target}
use Rattle.fo_crash.specs.Steps.{IsSure, HasSuper}
use Rattle.fo_crash.specs.Names.{IsInUse}
use Rattle.fo_crash.specs.Places.{OnePlace}
use Rattle.fo_crash.specs.Spots.{OneSpot}
use Rattle.fo_ports.specs.Blocks.{slot_count, IsLevel, SlotFits}
use Rattle.fo_ports.specs.State.{KeepsAll, IsPairUsed}
use Rattle.fo_slots.specs.Read.{read, pointer_from, slot_bytes}
use Rattle.test_blocks.specs.declared.silent.Block.{Block}
use Rattle.test_blocks.specs.Silent.{Silent, no_block, block_at, state_of, SilentKeeps, Sound, Waiting, is_active, memory}

pub active : (p : Silent) → (state_of p).tops 1 × ((state_of p).is_block 1 → ⊥)
active p = (refl, λ h. let lt : 1 < 1 = h.0 in omega (arith, lt))

pub root_is : (p : Silent) → 2 < length p.blocks → length p.blocks ≤ p.count → (state_of p).is_block 2 × (⊥ → ((((state_of p).label 2).state ≡ Live) × (((state_of p).label 2).kind ≡ Root) × (((state_of p).label 2).epoch ≡ (state_of p).high)))
root_is p begun few = ((omega arith, omega (arith, begun, few)), λ t. absurd t)

pub enough : (p : Silent) → (state_of p).spare ≤ (state_of p).usable
enough p = omega arith

pub one_place : (p : Silent) → OnePlace (state_of p).stands
one_place p = record { each = λ b x y s t. absurd s }

pub one_spot : (p : Silent) → OneSpot (state_of p).tops (state_of p).may_leave
one_spot p = record { each = λ image other b x y h. absurd h }

pub within : (p : Silent) → Sound p.count p.blocks → (at i below : ℕ) → (state_of p).pinned at → target (((state_of p).now at).slot i) ≡ Local below → (state_of p).is_block below
within p sound at i below made leads = (sound.each at made.1).within.each i below leads

pub small : (p : Silent) → p.count < 2 ^ 32 - 1 → (at : ℕ) → (state_of p).is_block at → at < 2 ^ 32 - 1
small p few at is = let lt = is.1 in omega (arith, few, lt)

pub spelled : (p : Silent) → Sound p.count p.blocks → (at i : ℕ) → (state_of p).pinned at → i < slot_count ((state_of p).label at).kind → SlotFits ((state_of p).label at).kind i (((state_of p).now at).slot i)
spelled p sound at i made lt = (sound.each at made.1).slots.fit i lt

pub is_sure : (p : Silent) (at : ℕ) → IsSure (state_of p).now at (state_of p).may_leave
is_sure p at = record { each = λ image h. absurd h }

pub super_known : (p : Silent) → HasSuper (state_of p).now (state_of p).doubt (state_of p).may_leave
super_known p = record { each = λ image h. absurd h }

pub active_used : (s : Slot) → is_active s ≡ true → (g : ℕ) × IsInUse s g
active_used (Head e) h = (e.generation, (h, refl))
active_used (To x) h = absurd (cc)
active_used (Prev x y) h = absurd (cc)

pub used_active : (s : Slot) (g : ℕ) → IsInUse s g → is_active s ≡ true
used_active (Head e) g h = h.0
used_active (To x) g h = absurd h
used_active (Prev x y) g h = absurd h

rest_cases : (r : ℕ) → r < 2 → (r ≡ 0) ⊎ (r ≡ 1)
rest_cases zero lt = inl refl
rest_cases (suc zero) lt = inr refl
rest_cases (suc (suc r)) lt = absurd (omega (arith, lt))

halves : (j : ℕ) → (j ≡ 2 * (j / 2)) ⊎ (j ≡ 2 * (j / 2) + 1)
halves j = ⊎_elim (λ e. inl (omega (arith, e))) (λ e. inr (omega (arith, e))) (rest_cases (j - 2 * (j / 2)) (omega arith))

pub waits_in_use : (p : Silent) → Waiting p.blocks p.waits → (a on j : ℕ) → (state_of p).waits a on j → IsPairUsed (state_of p).now on j
waits_in_use p waiting a on j w =
    let used = active_used ((memory p.blocks on).slot (2 * (j / 2))) (waiting.used a on (j / 2) w) in
    ⊎_elim
    (λ e. inl (subst (λ n. (g : ℕ) × IsInUse ((memory p.blocks on).slot n) g) (sym e) used))
    (λ e. inr (j / 2, e, used))
    (halves j)

no_pointer : (t : Bool) (p : Pointer) → is_active (cond t (To p) (To Nil)) ≡ true → ⊥
no_pointer true p h = cc
no_pointer false p h = cc

-- An entry in use stands in a leaf of entries: no root block is given out.
entry_kind : (kind : Kind) (bytes : List ℕ) (j : ℕ) → IsLevel kind → is_active ((read kind bytes).slot j) ≡ true → kind ≡ Dir 0
entry_kind (Data level) bytes j l h = absurd (no_pointer (nat_lt j (slot_count (Data level))) (pointer_from (slot_bytes (Data level) j bytes)) h)
entry_kind (Dir zero) bytes j l h = refl
entry_kind (Dir (suc level)) bytes j l h = absurd (no_pointer (nat_lt j (slot_count (Dir (suc level)))) (pointer_from (slot_bytes (Dir (suc level)) j bytes)) h)
entry_kind Root bytes j l h = absurd l

pub past_end : (xs : List Block) (d : Block) (b : ℕ) → length xs ≤ b → get_or xs b d ≡ d
past_end [] d b le = refl
past_end (x ∷ xs) d zero le = absurd (omega (arith, le))
past_end (x ∷ xs) d (suc b) le = past_end xs d b (omega (arith, le))

pub waits_within : (p : Silent) → Sound p.count p.blocks → Waiting p.blocks p.waits → (a on j : ℕ) → (state_of p).waits a on j → ((state_of p).label on).kind ≡ Dir 0
waits_within p sound waiting a on j w = entry_kind (block_at p.blocks on).label.kind (block_at p.blocks on).bytes (2 * (j / 2)) level (waiting.used a on (j / 2) w)
  where
    level : IsLevel (block_at p.blocks on).label.kind
    level = ⊎_elim
        (λ lt. (sound.each on lt).level)
        (λ le. subst (λ (z : Block). IsLevel z.label.kind) (sym (past_end p.blocks no_block on le)) (omega arith))
        (cases_lt on (length p.blocks))

pub keeps_at_once : (p : Silent) → SilentKeeps p p
keeps_at_once p = record { count = refl; high = refl }

pub keeps_joins : (p q r : Silent) → SilentKeeps p q → SilentKeeps q r → SilentKeeps p r
keeps_joins p q r a b = record { count = b.count ∙ a.count; high = b.high ∙ a.high }

pub keeps_all : (p q : Silent) → SilentKeeps p q → KeepsAll (state_of p) (state_of q)
keeps_all p q k = record {
  same_high = k.high;
  same_low = refl;
  same_root = refl;
  same_tops = λ t. (λ h. h, λ h. h);
  same_blocks = λ b. (λ h. (h.0, subst (λ n. b < n) k.count h.1), λ h. (h.0, subst (λ n. b < n) (sym k.count) h.1));
  same_held = λ score kind. refl;
  same_limit = λ c. refl;
  same_label_blocks = λ b. refl;
  still_tells = (λ h. h, λ h. h);
  more_faults = omega arith;
  more_arena_faults = omega arith;
}
