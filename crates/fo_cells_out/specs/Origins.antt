-- Blocks that were made and are not linked yet, and what a put under `Comes` does with them.
use Rattle.std.specs.Prelude.{◌≡◌, ◌≢◌, ◌⊎◌, ℕ, zero, suc}
use Rattle.fo_image.specs.declared.types.Pointer.TheVariants.{Local}
use Rattle.fo_crash.specs.declared.slot.Slot.{Slot}
use Rattle.fo_crash.specs.Images.{target}
use Rattle.fo_cells.specs.Known.{Known}
use Rattle.fo_cells_out.specs.Parents.{Tree, Points, Moves, IsHead}

-- What a cache keeps of made blocks.
pub record Origins : Type 1 where
  -- put into no slot yet: `apart` of the trait
  pub Apart : ℕ → Type 0
  -- `Copied y x`: y was given out as a copy of x
  pub Copied : ℕ → ℕ → Type 0
  -- `Instead y x`: y was made to come in the place of x, by a copy or raised over it; `instead` of the trait is this of what is apart
  pub Instead : ℕ → ℕ → Type 0

-- n slots of made blocks lead from y to a.
abbrev pub Under : Known → Tree → ℕ → ℕ → ℕ → Type 0
Under k t zero y a = a ≡ y
Under k t (suc n) y a = (c : ℕ) × (j : ℕ) × t.Made c × Points k c j a × Under k t n y c

-- What slot j of the block leads to of which a is a copy. (Levels go only in a block of the tree: `linked` of the trait.)
pub record ByCopy (k : Known) (t : Tree) (h : Origins) (a j z : ℕ) : Type 0 where
  pub original : ℕ
  pub copied : h.Copied a original
  pub leads : Points k original j z

-- what a was raised over, in slot 0
pub record ByTop (t : Tree) (h : Origins) (a j z : ℕ) : Type 0 where
  pub first : j ≡ 0
  pub pointers : t.Pointers a
  pub instead : h.Instead a z
  pub raised : (o : ℕ) → h.Copied a o → ⊥

-- Where slot j of the made block a may lead: into the tree, where the slot of its original leads, or to the young block that it was raised
-- over; to a made block that comes instead of such a one; or to a made one that comes instead of none.
abbrev pub MadeLeads : Known → Tree → Origins → ℕ → ℕ → ℕ → Type 0
MadeLeads k t h a j b = (t.Within b × (ByCopy k t h a j b ⊎ (ByTop t h a j b × (t.Older b → ⊥)))) ⊎ (t.Made b × (((z : ℕ) × h.Instead b z × (ByCopy k t h a j z ⊎ ByTop t h a j z)) ⊎ ((z : ℕ) → h.Instead b z → ⊥)))

-- THE INVARIANT. (That two made slots lead to one made block nowhere is in `IsForest`.)
pub record HasOrigins (k : Known) (t : Tree) (h : Origins) : Type 0 where
  pub made : (y : ℕ) → h.Apart y → t.Made y
  pub unhung : (y a j : ℕ) → h.Apart y → t.Made a → Points k a j y → ⊥
  -- each made block hangs from one that is apart
  pub hangs : (a : ℕ) → t.Made a → (y : ℕ) × (n : ℕ) × h.Apart y × Under k t n y a
  pub copied : (y x : ℕ) → t.Made y → h.Copied y x → t.Within x × t.Older x × h.Instead y x × (t.Pointers x → t.Pointers y)
  pub instead : (y x : ℕ) → t.Made y → h.Instead y x → t.Within x
  pub one : (y x z : ℕ) → t.Made y → h.Instead y x → h.Instead y z → x ≡ z
  pub slots : (a j b : ℕ) → t.Made a → Points k a j b → MadeLeads k t h a j b
  -- what was raised hangs in no slot of a copy of a pointer block, since it is of a higher level
  pub head : (d o j e z : ℕ) → t.Made d → t.Made e → h.Copied d o → Points k d j e → h.Instead e z → ((x : ℕ) → h.Copied e x → ⊥) → t.Pointers o → ⊥

-- what hangs from y, of made blocks
abbrev pub LinkedBy : Known → Tree → ℕ → ℕ → Type 0
LinkedBy k t y b = t.Made b × ((n : ℕ) × Under k t n y b)

-- a block that is linked leads to b
abbrev pub SharedBy : Known → Tree → ℕ → ℕ → Type 0
SharedBy k t y b = (c : ℕ) × (l : ℕ) × LinkedBy k t y c × Points k c l b

-- what hangs from x, and not from what comes with y: it leaves
abbrev pub OutAt : Known → Tree → ℕ → ℕ → ℕ → ℕ → Type 0
OutAt k t x y zero b = (b ≡ x) × (SharedBy k t y b → ⊥)
OutAt k t x y (suc n) b = (a : ℕ) × (j : ℕ) × OutAt k t x y n a × Points k a j b × (SharedBy k t y b → ⊥)

abbrev pub Out : Known → Tree → ℕ → ℕ → ℕ → Type 0
Out k t x y b = (n : ℕ) × OutAt k t x y n b

-- whether something is so, as a walk of the finite tree finds out
abbrev pub Decided : Type 0 → Type 0
Decided P = P ⊎ (P → ⊥)

abbrev pub CopyBy : Known → Tree → Origins → ℕ → ℕ → ℕ → Type 0
CopyBy k t h y b c = LinkedBy k t y c × h.Copied c b

-- n slots 0 of raised blocks lead from a to c
abbrev pub Chain : Known → Tree → Origins → ℕ → ℕ → ℕ → Type 0
Chain k t h zero a c = c ≡ a
Chain k t h (suc n) a c = ((o : ℕ) → h.Copied a o → ⊥) × t.Pointers a × ((d : ℕ) × t.Made d × Points k a 0 d × Chain k t h n d c)

-- n levels that leave without a copy, from slot i of `at`, which led to `top`, down to c
abbrev pub Low : Known → Tree → Origins → ℕ → ℕ → ℕ → ℕ → ℕ → ℕ → Type 0
Low k t h at i top y zero c = Points k at i c
Low k t h at i top y (suc n) c = (d : ℕ) × t.Within d × (Out k t top y d × ((e : ℕ) → CopyBy k t h y d e → ⊥)) × Points k d 0 c × Low k t h at i top y n d

-- A MADE BLOCK COMES: slot i of `at` in the tree leads to x, and y comes there, which is a copy of x or was raised over x or over a copy of
-- it, with all made blocks below it: copies, raised and new ones.
pub record PutsMade (at i : ℕ) (s : Slot) (old new : Known) (t : Tree) (h : Origins) (top x y : ℕ) (Lost : ℕ → Type 0) : Type 0 where
  pub moves : Moves at i s old new
  pub within : t.Within at
  pub current : t.Older at → ⊥
  pub points : Points old at i top
  -- x is what the slot leads to, below the levels that go; where some go it is the slot of an entry
  pub from : (x ≡ top) ⊎ (((n : ℕ) × Low old t h at i top y (suc n) x) × (t.Pointers at → ⊥))
  pub put : target s ≡ Local y
  -- `Comes`
  pub apart : h.Apart y
  pub instead : h.Instead y x
  -- `Fits`: where y was raised, it is of a higher level than x, so the slot is no slot of a pointer block
  pub head : ((o : ℕ) → h.Copied y o → ⊥) → t.Pointers at → ⊥
  -- `lower`: ranks fall, so the block put into is not below what it led to
  pub falls : Out old t top y at → ⊥
  -- `LeavesNone`
  pub leaves : (w z : ℕ) → h.Apart w → h.Instead w z → Out old t top y z → LinkedBy old t y w
  -- what hangs from the entries of a source that leaves without a copy, and is not queued
  pub lost_below : (a j b : ℕ) → Lost a → Points old a j b → Lost b
  pub lost_out : (b : ℕ) → Lost b → Out old t top y b
  pub linked : (b : ℕ) → t.Made b → Decided (LinkedBy old t y b)
  pub out : (b : ℕ) → t.Within b → Decided (Out old t top y b)
  pub shared : (b : ℕ) → Decided (SharedBy old t y b)
  pub has_copy : (b : ℕ) → ((c : ℕ) × CopyBy old t h y b c) ⊎ ((c : ℕ) → CopyBy old t h y b c → ⊥)
  pub lost : (b : ℕ) → Decided (Lost b)

abbrev pub GoneBy : Known → Tree → Origins → ℕ → ℕ → ℕ → Type 0
GoneBy k t h x y b = Out k t x y b × ((c : ℕ) → CopyBy k t h y b c → ⊥)

-- b is the highest block that a source keeps which gained levels, or lost levels, and what it hangs from then, where it stays
abbrev pub TurnsBy : Known → Tree → Origins → ℕ → ℕ → ℕ → ℕ → ℕ → ℕ → Type 0
TurnsBy k t h at i top x y b = ((b ≡ x) × (((n : ℕ) × Low k t h at i top y (suc n) x) × (t.Pointers at → ⊥))) ⊎ ((r : ℕ) × LinkedBy k t y r × h.Instead r b × ((o : ℕ) → h.Copied r o → ⊥))

abbrev pub FromBy : Known → Tree → Origins → ℕ → ℕ → ℕ → ℕ → Type 0
FromBy k t h y b a j = LinkedBy k t y a × h.Instead a b × ((o : ℕ) → h.Copied a o → ⊥) × (j ≡ 0) × Points k a 0 b

abbrev pub copied_tree : Known → Tree → Origins → ℕ → ℕ → (ℕ → Type 0) → Tree
copied_tree k t h x y Lost = record {
  Within = λ b. (t.Within b × (Out k t x y b → ⊥)) ⊎ LinkedBy k t y b;
  Made = λ b. t.Made b × (LinkedBy k t y b → ⊥);
  Covered = λ b. t.Covered b ⊎ (((c : ℕ) × CopyBy k t h y b c) ⊎ (GoneBy k t h x y b × (Lost b → ⊥)));
  Older = t.Older;
  Pointers = t.Pointers;
}

-- what is given out, as a copy of the block of `From` or of none
abbrev pub given : Origins → ℕ → (ℕ → Type 0) → Origins
given h at From = record {
  Apart = λ b. h.Apart b ⊎ (b ≡ at);
  Copied = λ b x. ((b ≢ at) × h.Copied b x) ⊎ ((b ≡ at) × From x);
  Instead = λ b x. ((b ≢ at) × h.Instead b x) ⊎ ((b ≡ at) × From x);
}

-- what is put is apart no more; and `at` comes in the place of `Over`, where it was raised
abbrev pub filled : Origins → ℕ → Slot → (ℕ → Type 0) → Origins
filled h at s Raises = record {
  Apart = λ b. h.Apart b × (target s ≢ Local b);
  Copied = h.Copied;
  Instead = λ b x. h.Instead b x ⊎ ((b ≡ at) × Raises x);
}

-- A PUT INTO A MADE BLOCK, under `Comes`. `Raises`: over what `at` is raised by it, if so.
pub record Fills (at i : ℕ) (s : Slot) (old : Known) (t : Tree) (h : Origins) (Raises : ℕ → Type 0) : Type 0 where
  pub made : t.Made at
  pub put : (b : ℕ) → target s ≡ Local b → ((t.Within b × ByCopy old t h at i b) ⊎ (h.Apart b × ((z : ℕ) × h.Instead b z × ByCopy old t h at i z))) ⊎ ((h.Apart b × ((z : ℕ) → h.Instead b z → ⊥)) ⊎ ((i ≡ 0) × t.Pointers at × ((o : ℕ) → h.Copied at o → ⊥) × ((t.Within b × (t.Older b → ⊥) × Raises b) ⊎ (h.Apart b × ((z : ℕ) × h.Instead b z × Raises z)))))
  -- a loose block is raised
  pub raises : (z : ℕ) → Raises z → t.Within z × h.Apart at × ((o : ℕ) → h.Copied at o → ⊥) × ((x : ℕ) → h.Instead at x → ⊥) × ((j b : ℕ) → Points old at j b → ⊥)
  pub raises_one : (z v : ℕ) → Raises z → Raises v → z ≡ v
  -- no made block is let go
  pub kept : (c : ℕ) → Points old at i c → t.Made c → ⊥
  -- `lower`
  pub falls : (b n : ℕ) → target s ≡ Local b → Under old t n b at → ⊥
  -- `Fits`
  pub head : (o b z : ℕ) → target s ≡ Local b → h.Copied at o → h.Instead b z → ((x : ℕ) → h.Copied b x → ⊥) → t.Pointers o → ⊥

-- LEVELS LOST, any number, with all else that hangs from them: slot i of `at` led to x, and leads to b below it now.
abbrev pub GoneAt : Known → ℕ → ℕ → ℕ → ℕ → Type 0
GoneAt k x b zero c = c ≡ x
GoneAt k x b (suc n) c = (a : ℕ) × (j : ℕ) × GoneAt k x b n a × Points k a j c × (c ≢ b)

abbrev pub Goes : Known → ℕ → ℕ → ℕ → Type 0
Goes k x b c = (n : ℕ) × GoneAt k x b n c

-- n levels that leave, from slot i of `at` down to c
abbrev pub Levels : Known → Tree → ℕ → ℕ → ℕ → ℕ → ℕ → ℕ → Type 0
Levels k t at i x b zero c = Points k at i c
Levels k t at i x b (suc n) c = (d : ℕ) × t.Within d × Goes k x b d × Points k d 0 c × Levels k t at i x b n d

pub record LosesMany (at i : ℕ) (s : Slot) (old new : Known) (t : Tree) (h : Origins) (x b : ℕ) (Lost : ℕ → Type 0) : Type 0 where
  pub moves : Moves at i s old new
  pub head : IsHead old t at i x
  pub current : t.Older at → ⊥
  pub put : target s ≡ Local b
  pub other : x ≢ b
  pub lost_levels : ℕ
  pub levels : Levels old t at i x b (suc lost_levels) b
  pub falls : Goes old x b at → ⊥
  -- `LeavesNone`
  pub leaves : (w z : ℕ) → h.Apart w → h.Instead w z → Goes old x b z → ⊥
  pub lost_below : (a j c : ℕ) → Lost a → Points old a j c → Lost c
  pub lost_out : (c : ℕ) → Lost c → Goes old x b c
  pub goes : (c : ℕ) → t.Within c → Decided (Goes old x b c)
  pub lost : (c : ℕ) → Decided (Lost c)

abbrev pub lost_tree : Known → Tree → ℕ → ℕ → (ℕ → Type 0) → Tree
lost_tree k t x b Lost = record t { Within = λ c. t.Within c × (Goes k x b c → ⊥); Covered = λ c. t.Covered c ⊎ (Goes k x b c × (Lost c → ⊥)) }
