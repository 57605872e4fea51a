-- A whole leaf of records is put.
use Rattle.std.proofs.Common.{◌≡◌, ◌⊎◌, inl, inr, ⊎_elim, ℕ, ◌+◌, ◌-◌, ◌*◌, ◌%◌, List, ◌++◌, length, sym, ◌∙◌, ap, subst, arith}
use Rattle.std.proofs.lemmas.List.{append-nil, length-append, length-replicate, drop_all}
use Rattle.fo_image.specs.declared.types.Kind.{Kind}
use Rattle.fo_image.specs.declared.types.Kind.TheVariants.{Data}
use Rattle.fo_image.specs.Field.{zeros}
use Rattle.fo_ports.specs.of_meta.Leaf.{IsLeaf, records_bytes}
use Rattle.fo_crash.specs.Images.{Image, SameImage, Reaches, target}
use Rattle.fo_crash.specs.Steps.{AddsBytes, AddsNothing, PutsBytes}
use Rattle.fo_crash.specs.declared.slot.Slot.{Slot}
use Rattle.fo_crash.specs.Names.{InAll, IsInUse}
use Rattle.fo_crash.proofs.Reach.{same_walk}
use Rattle.fo_ports.specs.Blocks.{IsFormed, put_at}
use Rattle.fo_ports.specs.State.{State, WaitsForPairs}
use Rattle.fo_dir_put.specs.Names.{ListsIn, AreBacked}

length-zeros : (n : ℕ) → length (zeros n) ≡ n
unfolding zeros
length-zeros n = length-replicate n 0

-- a leaf of records has 8192 bytes
pub leaf_long : {bytes : List ℕ} → IsLeaf bytes → length bytes ≡ 8192
leaf_long leaf =
    let used = records_bytes leaf.records in
    let z = 8188 - length used in
    omega (arith, ap (λ (xs : List ℕ). length xs) leaf.spells.bytes_are, length-append used (zeros z), length-zeros z, leaf.spells.room)

pub whole_put : (bytes old : List ℕ) → length bytes ≡ 8192 → length old ≡ 8192 → put_at 0 bytes old ≡ bytes
whole_put bytes old long was = ap (λ xs. bytes ++ xs) (drop_all (0 + length bytes) old (omega (arith, long, was))) ∙ append-nil bytes

pub leaf_formed : (kind : Kind) (rank : ℕ) (bytes : List ℕ) → kind ≡ Data 0 → IsLeaf bytes → IsFormed kind rank bytes
leaf_formed kind rank bytes is leaf = subst (λ (k : Kind). IsFormed k rank bytes) (sym is) (leaf_long leaf, λ e. leaf)

pub bytes_beside : {now : Image} {at : ℕ} {bytes : List ℕ} {P Q : Image → Type 0} {old new : Image → Type 0} → AddsBytes now at bytes P old new → ((image : Image) → P image → Q image) → AddsBytes now at bytes Q old new
bytes_beside a implies = record { each = λ image is. ⊎_elim (λ before. inl before) (λ h. inr (h.0, h.1, implies image h.2)) (a.each image is) }

pub still_all : {P : Image → Type 0} {old new : Image → Type 0} → InAll P old → AddsNothing old new → InAll P new
still_all all add = record { each = λ image is. all.each image (add.each image is) }

pub bytes_reached : {now next : Image} {at : ℕ} {bytes : List ℕ} {t : Slot} {c : ℕ} → PutsBytes at bytes now next → Reaches now t c → Reaches next t c
bytes_reached {now = now} {next = next} {t = t} puts r = record { path = r.path; leads = ap target (same_walk next now puts.slots r.path t) ∙ r.leads }

pub same_reached : {now next : Image} {t : Slot} {c : ℕ} → SameImage next now → Reaches now t c → Reaches next t c
same_reached {now = now} {next = next} {t = t} same r = record { path = r.path; leads = ap target (same_walk next now (λ x i. (same.each x).slots i) r.path t) ∙ r.leads }

-- bytes that are put after a call that changed nothing
pub puts_later : {now mid next : Image} {at : ℕ} {bytes put : List ℕ} → SameImage mid now → PutsBytes at put mid next → put ≡ bytes → PutsBytes at bytes now next
puts_later same puts is = record {
  slots = λ b j. puts.slots b j ∙ (same.each b).slots j;
  here = puts.here ∙ is;
  others = λ b ne. puts.others b ne ∙ (same.each b).bytes;
}

-- What backs the records before the leaf waits, is waited for then.
pub backed_later : {n leaf entries : ℕ} {bytes : List ℕ} {s t : State} → AreBacked n leaf entries bytes s → SameImage t.now s.now → WaitsForPairs leaf entries s t → ((b j : ℕ) → t.clearing b j → s.clearing b j)
    → (j g : ℕ) → ListsIn n bytes j g → ListsIn n ((t.now leaf).bytes) j g ⊎ ((t.waits leaf entries j × (t.clearing entries j → ⊥)) × IsInUse ((t.now entries).slot j) g)
backed_later {n = n} {leaf = leaf} {entries = entries} {s = s} {t = t} backed same waits order j g lists = ⊎_elim
    (λ was. inl (subst (λ xs. ListsIn n xs j g) (sym ((same.each leaf).bytes)) was))
    (λ h. let k = lists.named.slot % 102 in
    let one : IsInUse ((s.now entries).slot (2 * k)) g = subst (λ i. IsInUse ((s.now entries).slot i) g) lists.entry h.0 in
    let free : s.clearing entries (2 * k) → ⊥ = subst (λ i. s.clearing entries i → ⊥) lists.entry h.1 in
    inr ((subst (λ i. t.waits leaf entries i) (sym lists.entry) (waits.each k g one free).0, λ c. h.1 (order entries j c)), subst (λ (x : Slot). IsInUse x g) (sym ((same.each entries).slots j)) h.0))
    (backed.each j g lists)
