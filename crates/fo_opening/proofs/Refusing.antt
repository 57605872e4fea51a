-- A cache is opened over what was read.
use Rattle.std.proofs.Common.{◌≡◌, ◌⊎◌, ⊎_elim, ℕ, ◌+◌, ◌-◌, ◌<◌, ◌≤◌, true, List, [], ◌∷◌, length, Result, Ok, Err, sym, subst, arith}
use Rattle.std.specs.List.{Contains}
use Rattle.std.specs.Result.{IfErr}
use Rattle.lru.proofs.Splits.{Contains-cons, Contains-nil}
use Rattle.fo_disk.specs.Disk.{Block, IsSettled, Versions, latest_of, versions_of}
use Rattle.fo_disk.specs.Disk.{Content as Holds}
use Rattle.fo_image.specs.declared.types.Super.{Super}
use Rattle.fo_image.specs.Place.{label_blocks}
use Rattle.fo_image.specs.Usable.{is_usable}
use Rattle.fo_labels.specs.Region.{Region}
use Rattle.fo_labels.specs.Spelled.{SpellsLabels}
use Rattle.fo_mind.specs.Parts.{Parts, label_at}
use Rattle.fo_sound.specs.Sizes.{IsMainSize}
use Rattle.fo_opening.specs.declared.error.Why.{Why}
use Rattle.fo_opening.specs.declared.error.Why.TheVariants.{Size, Header, Super as NoSuper, Label as NoLabels, Root, Fault, Memory}
use Rattle.fo_opening.specs.Opens.{HasTable, IsRead, IsTable, Opens}
use Rattle.fo_opening.specs.Refuses.{Begins, Blames, Leads, Refuses, RefusesHeader, RefusesSize, RefusesSuper, RefusesTable}

-- ---- refusals of a step are those of the whole

pub refuses_size : (size : ℕ) (holds : Holds) (e : Why) → RefusesSize size e → Refuses size holds e
refuses_size size holds Size r = r
refuses_size size holds Header r = absurd r
refuses_size size holds NoSuper r = absurd r
refuses_size size holds (NoLabels b) r = absurd r
refuses_size size holds Root r = absurd r
refuses_size size holds (Fault which) r = tt
refuses_size size holds Memory r = absurd r

pub refuses_header : (size : ℕ) (holds : Holds) (e : Why) → IsMainSize size → RefusesHeader size holds e → Refuses size holds e
refuses_header size holds Size is r = absurd r
refuses_header size holds Header is r = (is, r)
refuses_header size holds NoSuper is r = absurd r
refuses_header size holds (NoLabels b) is r = absurd r
refuses_header size holds Root is r = absurd r
refuses_header size holds (Fault which) is r = tt
refuses_header size holds Memory is r = absurd r

pub refuses_super : (size : ℕ) (holds : Holds) (e : Why) → Begins size holds → RefusesSuper size holds e → Refuses size holds e
refuses_super size holds Size is r = absurd r
refuses_super size holds Header is r = absurd r
refuses_super size holds NoSuper is r = (is, r)
refuses_super size holds (NoLabels b) is r = absurd r
refuses_super size holds Root is r = absurd r
refuses_super size holds (Fault which) is r = tt
refuses_super size holds Memory is r = is

pub refuses_table : (size : ℕ) (holds : Holds) (one : Super) (e : Why) → Leads size holds one → RefusesTable size holds e → Refuses size holds e
refuses_table size holds one Size is r = absurd r
refuses_table size holds one Header is r = absurd r
refuses_table size holds one NoSuper is r = absurd r
refuses_table size holds one (NoLabels b) is r = (one, is, r)
refuses_table size holds one Root is r = absurd r
refuses_table size holds one (Fault which) is r = tt
refuses_table size holds one Memory is r = is.begins

pub refuses_made : (size : ℕ) (holds : Holds) (one : Super) (region : Region) {T : Type 0} (r : Result T Why) → Leads size holds one → IsTable size region → HasTable holds (label_blocks size) region
    → IfErr r (λ e. (e ≡ Memory) ⊎ ((e ≡ Root) × (is_usable one.low (label_at region one.active) ≡ true))) → IfErr r (Refuses size holds)
refuses_made size holds one region (Ok x) is t h m = tt
refuses_made size holds one region (Err e) is t h m = ⊎_elim
    (λ same. subst (Refuses size holds) (sym same) is.begins)
    (λ root. subst (Refuses size holds) (sym root.0) (one, is, record { region = region; labels = t; table = h; usable = root.1 }))
    m

-- ---- faults

pub blames_later : (f g h : ℕ) (e : Why) → f ≤ g → Blames g h e → Blames f h e
blames_later f g h Size le b = tt
blames_later f g h Header le b = tt
blames_later f g h NoSuper le b = tt
blames_later f g h (NoLabels k) le b = tt
blames_later f g h Root le b = tt
blames_later f g h (Fault which) le b = let rose = b.1 in (b.0, omega (arith, le, rose))
blames_later f g h Memory le b = tt

pub blames_none : (f g : ℕ) (A : Type 0) {T : Type 0} (r : Result T Why) → IfErr r (λ e. (e ≡ Memory) ⊎ ((e ≡ Root) × A)) → IfErr r (Blames f g)
blames_none f g A (Ok x) m = tt
blames_none f g A (Err e) m = ⊎_elim (λ same. subst (Blames f g) (sym same) tt) (λ root. subst (Blames f g) (sym root.0) tt) m

-- ---- where each block has one version

one_version : (versions : Versions) (bytes : Block) → length versions ≡ 1 → Contains versions bytes → latest_of versions ≡ bytes
one_version [] bytes e c = absurd (omega (arith, e))
one_version (v ∷ []) bytes e c = ⊎_elim (λ same. same) (λ none. absurd (Contains-nil bytes none)) (Contains-cons v [] bytes c)
one_version (v ∷ w ∷ versions) bytes e c = let h : length (v ∷ w ∷ versions) ≡ 1 = e in absurd (omega (arith, h))

pub read_last : (holds : Holds) (at : ℕ) (bytes : List ℕ) → ((b : ℕ) → b < length holds → IsSettled holds b) → IsRead holds at bytes → at < length holds → latest_of (versions_of holds at) ≡ bytes
read_last holds at bytes settled r lt = one_version (versions_of holds at) bytes (settled at lt) (r.version lt)

pub table_last : (size : ℕ) (holds : Holds) (p : Parts) → ((b : ℕ) → b < length holds → IsSettled holds b) → Opens size holds p → (b : ℕ) → 2 ≤ b → b < p.region.first → b < length holds → SpellsLabels p.region b (latest_of (versions_of holds b))
table_last size holds p settled o b two before lt =
    let first = o.labels.first in
    let k = o.table.each (b - 2) (omega (arith, before, first, two)) in
    let e : 2 + (b - 2) ≡ b = omega (arith, two) in
    let read = subst (λ n. IsRead holds n k.0) e k.1 in
    subst (SpellsLabels p.region b) (sym (read_last holds b k.0 settled read lt)) (subst (λ n. SpellsLabels p.region n k.0) e k.2)
