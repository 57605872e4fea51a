-- What a disk that settles at once holds.
use Rattle.std.specs.Prelude.{Bool, false, ℕ, List, [], ◌∷◌, map, length, ◌≡◌, ◌<◌}
use Rattle.std.proofs.Common.{zero, suc, get_or, ap, sym, ◌∙◌, arith}
use Rattle.std.proofs.lemmas.List.{length-map}
use Rattle.std.specs.List.{Contains}
use Rattle.fo_disk.specs.Disk.{Block, Versions, Content, DiskState, AreBytes, IsContent, versions_of}
use Rattle.fo_disk.specs.declared.memory.Version.{Version}
use Rattle.fo_disk.specs.declared.sure.SureDisk.{SureDisk}

abbrev pub alone : Version → Versions
alone v = v.bytes.items ∷ []

abbrev pub sure_holds : SureDisk → Content
sure_holds d = map alone d.blocks.items

some : (vs : List Version) (k : ℕ) → k < length vs → 0 < length (versions_of (map alone vs) k)
some [] k lt = absurd (omega arith)
some (v ∷ vs) zero lt = omega arith
some (v ∷ vs) (suc k) lt = some vs k (omega arith)

whole : (vs : List Version) (k : ℕ) (b : Block) → k < length vs → Contains (versions_of (map alone vs) k) b → length b ≡ 8192
whole [] k b lt has = absurd (omega arith)
whole (v ∷ vs) zero b lt (zero, within, is) = subst_length v b is
  where
    subst_length : (v : Version) (b : Block) → v.bytes.items ≡ b → length b ≡ 8192
    subst_length v b is = let e = ap length is in let w = v.whole in omega (arith, e, w)
whole (v ∷ vs) zero b lt (suc j, within, is) = absurd (omega arith)
whole (v ∷ vs) (suc k) b lt has = whole vs k b (omega arith) has

pub sure_content : (d : SureDisk) → IsContent (length d.blocks.items) (sure_holds d)
sure_content d = record {
  count = length-map d.blocks.items alone;
  some = λ k lt. some d.blocks.items k lt;
  whole = λ k b lt has. whole d.blocks.items k b lt has;
}

small : (vs : List Version) (k : ℕ) (b : Block) (i : ℕ) → Contains (versions_of (map alone vs) k) b → get_or b i 0 < 256
small [] k b i has = absurd (omega (arith, has.1))
small (v ∷ vs) zero b i (zero, within, is) = let e = ap (λ (x : Block). get_or x i 0) is in let lt = v.small i in omega (arith, e, lt)
small (v ∷ vs) zero b i (suc j, within, is) = absurd (omega arith)
small (v ∷ vs) (suc k) b i has = small vs k b i has

pub sure_bytes : (d : SureDisk) → AreBytes (sure_holds d)
sure_bytes d = record { each = λ at b i has. small d.blocks.items at b i has }

abbrev pub no_flag : Version → Bool
no_flag v = false

abbrev pub sure_flags : SureDisk → List Bool
sure_flags d = map no_flag d.blocks.items

abbrev pub sure_state : SureDisk → DiskState
sure_state d = record { holds = sure_holds d; moments = []; unsure = sure_flags d }

pub has_flags : (d : SureDisk) → length (sure_flags d) ≡ length (sure_holds d)
has_flags d = length-map d.blocks.items no_flag ∙ sym (length-map d.blocks.items alone)
