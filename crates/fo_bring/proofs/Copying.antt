-- A block is got.
use Rattle.std.proofs.Common.{◌≡◌, ◌↔◌, ◌≤◌, ℕ, zero, suc, false, nat_lt, List, Option, Some, None, drop, length, refl, sym, ◌∙◌, subst}
use Rattle.fo_image.specs.declared.types.Kind.{Kind}
use Rattle.fo_image.specs.declared.types.Kind.TheVariants.{Data, Dir, Root}
use Rattle.fo_image.specs.declared.types.Pointer.TheVariants.{Nil, Local}
use Rattle.fo_buffers.specs.of_crash.declared.slot.Slot.TheVariants.{Pointer as To}
use Rattle.std.proofs.lemmas.Bool.{le-ltb}
use Rattle.fo_image.specs.Field.{zeros}
use Rattle.fo_buffers.specs.of_meta.Leaf.{IsLeaf}
use Rattle.fo_buffers.specs.of_ports.Blocks.{AreZeros, IsFormed, IsRanked, Reads, ReadsSlots, slot_count}
use Rattle.fo_buffers.specs.of_slots.Read.{blanked, read}
use Rattle.std.specs.Prelude.{IfSome}
use Rattle.std.specs.Option.{option_map}
use Rattle.fo_buffers.specs.declared.block.Buffer.{Buffer}
use Rattle.fo_buffers.specs.Held.{block_in}
use Rattle.fo_bring.specs.Blocks.{HasZeros, Gets, Good}
use Rattle.fo_bring.specs.Holds.{GoodIn, RanksIn}

-- past the last slot there is no pointer
pub past_slots : (kind : Kind) (bytes : List ℕ) (j : ℕ) → slot_count kind ≤ j → (read kind bytes).slot j ≡ To Nil
past_slots kind bytes j ge = let test : nat_lt j (slot_count kind) ≡ false = le-ltb _ _ ge in rw test refl

pub never : {x : ℕ} → Nil ≡ Local x → ⊥
never e = cc

-- zeros are asked behind pointers alone
pub some_level : (level : ℕ) (bytes : List ℕ) → (level ≡ 0 → ⊥) → HasZeros (Data level) bytes ↔ AreZeros (drop 8180 bytes)
some_level zero bytes ne = absurd (ne refl)
some_level (suc level) bytes ne = (λ h. h, λ h. h)

pub no_level : (level : ℕ) (bytes : List ℕ) → level ≡ 0 → HasZeros (Data level) bytes
no_level level bytes is = subst (λ n. HasZeros (Data n) bytes) (sym is) tt

plain : (bytes : List ℕ) → blanked (Data 0) bytes ≡ bytes
unfolding zeros
plain bytes = refl

-- a good block is of its format, where what is read of it is of that of its rank
pub formed_again : (kind : Kind) (rank : ℕ) (bytes : List ℕ) → Reads kind (read kind bytes) bytes → length bytes ≡ 8192 → HasZeros kind bytes → IsRanked kind rank (blanked kind bytes) → IsFormed kind rank bytes
formed_again (Data zero) rank bytes reads long none ranked = (long, λ h. subst IsLeaf (plain bytes) (ranked h))
formed_again (Data (suc l)) rank bytes reads long none ranked = (long, none)
formed_again (Dir l) rank bytes reads long none ranked = (long, none)
formed_again Root rank bytes reads long none ranked = (long, (ranked.0, ranked.1, ranked.2, ranked.3 ∙ sym reads.before, ranked.4 ∙ sym reads.behind))

-- what the bytes of a held block say of it
pub ranks_of : (kind : Kind) (rank : ℕ) (o : Option Buffer) (bytes : List ℕ) → Some bytes ≡ option_map block_in o → RanksIn kind rank o → IsRanked kind rank (read kind bytes).bytes
ranks_of kind rank (Some x) bytes same ranked = let it : x.block ≡ bytes = cc in subst (λ (b : List ℕ). IsRanked kind rank (read kind b).bytes) it ranked
ranks_of kind rank None bytes same ranked = absurd ranked

pub good_held : (first count : ℕ) (kind : Kind) (o : Option Buffer) (bytes : List ℕ) → Some bytes ≡ option_map block_in o → GoodIn first count kind o → Good first count kind bytes
good_held first count kind (Some x) bytes e good = let same : x.block ≡ bytes = cc in subst (Good first count kind) same good
good_held first count kind None bytes e good = absurd good

pub good_lent : (first count : ℕ) (kind : Kind) (o : Option Buffer) (bytes : List ℕ) → Some bytes ≡ option_map block_in o → ((x : Buffer) → o ≡ Some x → Good first count kind x.block) → Good first count kind bytes
good_lent first count kind (Some x) bytes e good = let same : x.block ≡ bytes = cc in subst (Good first count kind) same (good x refl)
good_lent first count kind None bytes e good = absurd (cc)

pub if_some : {T : Type 0} {P Q : T → Type 0} (o : Option T) → ((x : T) → P x → Q x) → IfSome o P → IfSome o Q
if_some (Some x) f p = f x p
if_some None f p = p
