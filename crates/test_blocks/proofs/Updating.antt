-- One block of those that tell nothing is put in place of another.
use Rattle.std.proofs.Common.{◌≡◌, ⊎_elim, ℕ, ◌*◌, ◌<◌, ◌≤◌, nat_lt, true, false, zero, suc, List, [], ◌∷◌, drop, length, get_or, refl, sym, ◌∙◌, ap, subst, arith}
use Rattle.std.proofs.lemmas.Bool.{cases_eq, le-ltb}
use Rattle.fo_image.specs.declared.types.Kind.{Kind}
use Rattle.fo_image.specs.declared.types.Kind.TheVariants.{Data, Dir, Root}
use Rattle.fo_image.specs.declared.types.Pointer.TheVariants.{Nil, Local}
use Rattle.fo_image.specs.Field.{zeros}
use Rattle.fo_crash.specs.declared.slot.Slot.{Slot}
use Rattle.fo_crash.specs.declared.slot.Slot.TheVariants.{Pointer as To}
use Rattle.fo_crash.specs.Images.{target}
use Rattle.fo_crash.specs.Steps.{PutsBytes, PutsSlot}
use Rattle.fo_meta.specs.Leaf.{IsLeaf}
use Rattle.fo_ports.specs.Blocks.{AreZeros, IsFormed, IsLevel, IsRanked, MayPut, Reads, ReadsSlots, put_at, slot_count, slots_to}
use Rattle.fo_slots.specs.Read.{PutsInto, blanked, read}
use Rattle.test_blocks.specs.declared.silent.Block.{Block}
use Rattle.test_blocks.specs.declared.silent.Wait.{Wait}
use Rattle.test_blocks.specs.Silent.{no_block, block_at, content_of, memory, Gets, HasZeros, IsData, Updates, Good, Sound, Waiting, Listed, SameBytes, SameMarks, is_active}

pub any_default : {X : Type 0} (xs : List X) (k : ℕ) (d e : X) → k < length xs → get_or xs k d ≡ get_or xs k e
any_default [] k d e lt = absurd (omega arith)
any_default (x ∷ xs) zero d e lt = refl
any_default (x ∷ xs) (suc k) d e lt = any_default xs k d e (omega arith)

-- a block that was read by its index
pub block_is : (blocks : List Block) (at : ℕ) (k : Block) → at < length blocks → k ≡ get_or blocks at k → k ≡ block_at blocks at
block_is blocks at k lt here = here ∙ any_default blocks at k no_block lt

-- past the last slot there is no pointer
pub past_slots : (kind : Kind) (bytes : List ℕ) (j : ℕ) → slot_count kind ≤ j → (read kind bytes).slot j ≡ To Nil
past_slots kind bytes j ge = let test : nat_lt j (slot_count kind) ≡ false = le-ltb _ _ ge in rw test refl

-- what an update leaves of a part of each block
pub part_kept : {X : Type 0} (part : Block → X) {old new : List Block} {at : ℕ} {x : Block} → Updates at x old new → part x ≡ part (block_at old at) → (b : ℕ) → part (block_at new b) ≡ part (block_at old b)
part_kept part {old} {new} {at} {x} up same b = ⊎_elim
    (λ e. ap (λ c. part (block_at new c)) e ∙ ap part up.here ∙ same ∙ ap (λ c. part (block_at old c)) (sym e))
    (λ ne. ap part (up.others b ne))
    (cases_eq b at)

-- An update keeps what is known of all blocks.
pub sound_kept : {count at : ℕ} {x : Block} {old new : List Block} → Sound count old → Updates at x old new → length new ≡ length old → Good count x.label.kind x.bytes → Sound count new
sound_kept {count} {at} {x} {old} {new} sound up size good = record {
  each = λ b lt. ⊎_elim
      (λ e. subst (λ (z : Block). Good count z.label.kind z.bytes) (sym up.here ∙ ap (block_at new) (sym e)) good)
      (λ ne. subst (λ (z : Block). Good count z.label.kind z.bytes) (sym (up.others b ne)) (sound.each b (subst (λ n. b < n) size lt)))
      (cases_eq b at);
}

pub waiting_kept : {at : ℕ} {x : Block} {old new : List Block} {waits : List Wait} → Waiting old waits → Updates at x old new → ((a k : ℕ) → Listed waits a at k → is_active ((content_of x).slot (2 * k)) ≡ true) → Waiting new waits
waiting_kept {at} {x} {old} {new} {waits} waiting up used = record {
  used = λ a on k w. ⊎_elim
      (λ e. ap (λ y. is_active ((content_of (block_at new y)).slot (2 * k))) e ∙ ap (λ (z : Block). is_active ((content_of z).slot (2 * k))) up.here ∙ used a k (subst (λ y. Listed waits a y k) e w))
      (λ ne. ap (λ (z : Block). is_active ((content_of z).slot (2 * k))) (up.others on ne) ∙ waiting.used a on k w)
      (cases_eq on at);
}

-- what is known of a block is known of one of its kind and bytes
pub good_like : {count : ℕ} {kind other : Kind} {bytes more : List ℕ} → other ≡ kind → more ≡ bytes → Good count kind bytes → Good count other more
good_like {count} {kind} {other} {bytes} {more} k b good = subst (λ (q : Kind). Good count q more) (sym k) (subst (λ (z : List ℕ). Good count kind z) (sym b) good)

-- ---- bytes

-- blocks whose bytes can be put are blocks of data
pub is_data : (kind : Kind) (from end : ℕ) → IsLevel kind → MayPut kind from end → kind ≡ Data 0
is_data (Data zero) from end level may = refl
is_data (Data (suc level)) from end h may = absurd may
is_data (Dir level) from end h may = absurd may
is_data Root from end h may = absurd h

pub plain : (bytes : List ℕ) → blanked (Data 0) bytes ≡ bytes
unfolding zeros
plain bytes = refl

pub plain_kind : (kind : Kind) (bytes : List ℕ) → kind ≡ Data 0 → blanked kind bytes ≡ bytes
plain_kind kind bytes is = ap (λ (q : Kind). blanked q bytes) is ∙ plain bytes

pub bytes_good : (count : ℕ) (kind : Kind) (from end : ℕ) (old new : List ℕ) → Good count kind old → MayPut kind from end → ((i : ℕ) → (read kind new).slot i ≡ (read kind old).slot i) → (ReadsSlots kind (read kind old) old → ReadsSlots kind (read kind new) new) → length new ≡ 8192 → Good count kind new
bytes_good count kind from end old new good may same slots long = record {
  level = good.level;
  long = long;
  slots = slots good.slots;
  within = record { each = λ j b e. good.within.each j b (ap target (sym (same j)) ∙ e) };
  zeros = subst (λ (q : Kind). HasZeros q new) (sym (is_data kind from end good.level may)) tt;
}

-- ---- slots

zeros_kept : (kind : Kind) (old new : List ℕ) → drop (slots_to kind) new ≡ drop (slots_to kind) old → HasZeros kind old → HasZeros kind new
zeros_kept (Data zero) old new same h = tt
zeros_kept (Data (suc level)) old new same h = subst AreZeros (sym same) h
zeros_kept (Dir level) old new same h = subst AreZeros (sym same) h
zeros_kept Root old new same h = tt

pub slot_good : (count : ℕ) (kind : Kind) (i : ℕ) (s : Slot) (old new : List ℕ) → Good count kind old → PutsInto kind i s old new → ((b : ℕ) → target s ≡ Local b → IsData count b) → length new ≡ 8192 → Good count kind new
slot_good count kind i s old new good puts leads long = record {
  level = good.level;
  long = long;
  slots = puts.slots good.slots;
  within = record {
    each = λ j b e. ⊎_elim
        (λ is. leads b (ap target (sym puts.here) ∙ subst (λ n. target ((read kind new).slot n) ≡ Local b) is e))
        (λ ne. good.within.each j b (ap target (sym (puts.others j ne)) ∙ e))
        (cases_eq j i);
  };
  zeros = zeros_kept kind old new puts.beside.behind good.zeros;
}

pub slot_used : (kind : Kind) (i : ℕ) (s : Slot) (old new : List ℕ) → PutsInto kind i s old new → (k : ℕ) → is_active ((read kind old).slot (2 * k)) ≡ true → (i ≡ 2 * k → is_active s ≡ true) → is_active ((read kind new).slot (2 * k)) ≡ true
slot_used kind i s old new puts k was now = ⊎_elim
    (λ is. ap (λ n. is_active ((read kind new).slot n)) is ∙ ap is_active puts.here ∙ now (sym is))
    (λ ne. ap is_active (puts.others (2 * k) ne) ∙ was)
    (cases_eq (2 * k) i)

-- ---- memory

pub bytes_put : {old new : List Block} {at : ℕ} {y : Block} (from end : ℕ) (bytes : List ℕ) → Updates at y old new → y.label ≡ (block_at old at).label → IsLevel (block_at old at).label.kind → MayPut (block_at old at).label.kind from end → ((i : ℕ) → (read (block_at old at).label.kind y.bytes).slot i ≡ (memory old at).slot i) → y.bytes ≡ put_at from bytes (block_at old at).bytes → PutsBytes at (put_at from bytes (memory old at).bytes) (memory old) (memory new)
bytes_put {old} {new} {at} {y} from end bytes up label level may same is =
    let x = block_at old at in
    let kind : x.label.kind ≡ Data 0 = is_data x.label.kind from end level may in
    let mine : y.label.kind ≡ x.label.kind = ap (λ l. l.kind) label in
    record {
      slots = λ b j. part_kept (λ (z : Block). (content_of z).slot j) up (ap (λ (q : Kind). (read q y.bytes).slot j) mine ∙ same j) b;
      here = ap (λ (z : Block). (content_of z).bytes) up.here ∙ plain_kind y.label.kind y.bytes (mine ∙ kind) ∙ is ∙ ap (put_at from bytes) (sym (plain_kind x.label.kind x.bytes kind));
      others = λ b ne. ap (λ (z : Block). (content_of z).bytes) (up.others b ne);
    }

pub slot_put : {old new : List Block} {at : ℕ} {y : Block} (i : ℕ) (s : Slot) → Updates at y old new → y.label ≡ (block_at old at).label → PutsInto (block_at old at).label.kind i s (block_at old at).bytes y.bytes → PutsSlot at i s (memory old) (memory new)
slot_put {old} {new} {at} {y} i s up label puts =
    let x = block_at old at in
    let mine : y.label.kind ≡ x.label.kind = ap (λ l. l.kind) label in
    record {
      bytes = part_kept (λ (z : Block). (content_of z).bytes) up (ap (λ (q : Kind). (read q y.bytes).bytes) mine ∙ puts.bytes);
      here = ap (λ (z : Block). (content_of z).slot i) up.here ∙ ap (λ (q : Kind). (read q y.bytes).slot i) mine ∙ puts.here;
      others = λ b j which. ⊎_elim
          (λ e. ⊎_elim
          (λ other. absurd (other e))
          (λ ne. ap (λ c. (memory new c).slot j) e ∙ ap (λ (z : Block). (content_of z).slot j) up.here ∙ ap (λ (q : Kind). (read q y.bytes).slot j) mine ∙ puts.others j ne ∙ ap (λ c. (memory old c).slot j) (sym e))
          which)
          (λ other. ap (λ (z : Block). (content_of z).slot j) (up.others b other))
          (cases_eq b at);
    }

pub marks_of : {old new : List Block} {at : ℕ} {y : Block} → Updates at y old new → length new ≡ length old → y.label ≡ (block_at old at).label → y.apart ≡ (block_at old at).apart → y.origin ≡ (block_at old at).origin → SameMarks old new
marks_of up size label apart origin = record {
  as_long = size;
  labels = part_kept (λ (z : Block). z.label) up label;
  apart = part_kept (λ (z : Block). z.apart) up apart;
  origin = part_kept (λ (z : Block). z.origin) up origin;
}

pub bytes_of : {old new : List Block} {at : ℕ} {y : Block} → Updates at y old new → length new ≡ length old → y.label ≡ (block_at old at).label → y.bytes ≡ (block_at old at).bytes → SameBytes old new
bytes_of up size label bytes = record {
  as_long = size;
  labels = part_kept (λ (z : Block). z.label) up label;
  bytes = part_kept (λ (z : Block). z.bytes) up bytes;
}

-- ---- a block is got

-- a block that was given out is of its format, where a leaf of records is one
pub formed_again : (kind : Kind) (rank : ℕ) (bytes : List ℕ) → IsLevel kind → length bytes ≡ 8192 → HasZeros kind bytes → IsRanked kind rank (blanked kind bytes) → IsFormed kind rank bytes
formed_again (Data zero) rank bytes level long none ranked = (long, λ h. subst IsLeaf (plain bytes) (ranked h))
formed_again (Data (suc l)) rank bytes level long none ranked = (long, none)
formed_again (Dir l) rank bytes level long none ranked = (long, none)
formed_again Root rank bytes level long none ranked = absurd level

pub gets : (block : Block) (kind : Kind) (rank : ℕ) (into : List ℕ) → block.label.kind ≡ kind → ReadsSlots block.label.kind (content_of block) block.bytes → Reads block.label.kind (content_of block) block.bytes → IsFormed kind rank block.bytes → into ≡ block.bytes → Gets kind rank block into
gets block kind rank into same slots reads formed is = record {
  reads = subst (λ (q : Kind). Reads q (content_of block) into) same (subst (λ (b : List ℕ). Reads block.label.kind (content_of block) b) (sym is) reads);
  slots = subst (λ (q : Kind). ReadsSlots q (content_of block) into) same (subst (λ (b : List ℕ). ReadsSlots block.label.kind (content_of block) b) (sym is) slots);
  formed = subst (λ (b : List ℕ). IsFormed kind rank b) (sym is) formed;
  is_kind = same;
}
