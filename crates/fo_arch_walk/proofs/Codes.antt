-- Kinds of blocks, as an arena knows them.
use Rattle.std.proofs.Common.{◌≡◌, ◌≤◌, ℕ, zero, suc, true, refl, arith, ◌+◌}
use Rattle.fo_image.specs.declared.types.Kind.{Kind}
use Rattle.fo_image.specs.declared.types.Kind.TheVariants.{Data, Dir, Root}
use Rattle.fo_image.specs.Format.{KindHolds, is_arena_kind}
use Rattle.fo_arch_walk.specs.Spots.{arena_code}

data_kind : (level : ℕ) → level ≤ 4 → is_arena_kind level ≡ true
data_kind zero le = refl
data_kind (suc zero) le = refl
data_kind (suc (suc zero)) le = refl
data_kind (suc (suc (suc zero))) le = refl
data_kind (suc (suc (suc (suc zero)))) le = refl
data_kind (suc (suc (suc (suc (suc n))))) le = absurd (omega (arith, le))

dir_kind : (level : ℕ) → level ≤ 4 → is_arena_kind (8 + level) ≡ true
dir_kind zero le = refl
dir_kind (suc zero) le = refl
dir_kind (suc (suc zero)) le = refl
dir_kind (suc (suc (suc zero))) le = refl
dir_kind (suc (suc (suc (suc zero)))) le = refl
dir_kind (suc (suc (suc (suc (suc n))))) le = absurd (omega (arith, le))

pub code_kind : (kind : Kind) → KindHolds kind → is_arena_kind (arena_code kind) ≡ true
code_kind (Data level) holds = data_kind level holds
code_kind (Dir level) holds = dir_kind level holds
code_kind Root holds = refl
