-- Quiet disks, and what a disk holds once a sync answers Ok.
use Rattle.std.proofs.Common.{◌≡◌, ◌≢◌, ⊎_elim, ℕ, ◌-◌, ◌<◌, Bool, true, false, cond, List, [], ◌∷◌, ◌++◌, length, get_or, set, drop, refl, sym, ◌∙◌, ap, subst, arith, length-drop, get_or-set_other}
use Rattle.std.proofs.lemmas.Bool.{cases_eq}
use Rattle.std.proofs.lemmas.List.{length-map, map-set, get_or-map, get_or-drop, get_or_push, length_push, ext_get_or}
use Rattle.std.specs.List.{Contains}
use Rattle.fo_disk.specs.Disk.{Block, Versions, Content, DiskState, versions_of, IsContent, IsImage, IsSettled, IsQuiet, IsSure, settled, newest, latest_of, latest, Adds, Settles}
use Rattle.fo_disk.proofs.Images.{adds-count, adds-other, contains-one, image-one, sure_at}

length_newest : (versions : Versions) → 0 < length versions → length (newest versions) ≡ 1
length_newest versions some = omega (arith, some, length-drop (length versions - 1) versions)

latest_push : (versions : Versions) (b : Block) → latest_of (versions ++ b ∷ []) ≡ b
latest_push versions b = get_or_push versions b [] _ (omega (arith, length_push versions b))

latest_newest : (versions : Versions) → 0 < length versions → latest_of (newest versions) ≡ latest_of versions
latest_newest versions some =
    get_or-drop (length versions - 1) versions (length (newest versions) - 1) []
    ∙ ap (λ (k : ℕ). get_or versions k []) (omega (arith, length_newest versions some))

one_latest : (versions : Versions) → length versions ≡ 1 → versions ≡ latest_of versions ∷ []
one_latest [] one = cc
one_latest (b ∷ []) one = refl
one_latest (b ∷ c ∷ versions) one = absurd (omega (arith, one))

latest_at : (content : Content) (k : ℕ) → k < length content → get_or (latest content) k [] ≡ latest_of (versions_of content k)
latest_at content k lt = get_or-map latest_of content k [] [] lt

-- a quiet disk holds its last versions alone
pub quiet-latest : {content : Content} → IsQuiet content → content ≡ settled (latest content)
quiet-latest {content} quiet = ext_get_or [] content (settled (latest content)) (sym long) (λ k lt.
    one_latest (versions_of content k) (quiet.each k lt)
    ∙ ap (λ (b : Block). b ∷ []) (sym (latest_at content k lt))
    ∙ sym (get_or-map (λ (b : Block). b ∷ []) (latest content) k [] [] (omega (arith, lt, length-map content latest_of))))
  where
    long : length (settled (latest content)) ≡ length content
    long = length-map (latest content) (λ (b : Block). b ∷ []) ∙ length-map content latest_of

settled_at : (blocks : List Block) (k : ℕ) → k < length (settled blocks) → versions_of (settled blocks) k ≡ get_or blocks k [] ∷ []
settled_at blocks k lt = get_or-map (λ (b : Block). b ∷ []) blocks k [] [] (omega (arith, lt, length-map blocks (λ (b : Block). b ∷ [])))

pub settled-quiet : (blocks : List Block) → IsQuiet (settled blocks)
settled-quiet blocks = record { each = λ k lt. ap length (settled_at blocks k lt) }

-- the one image of a quiet disk
pub settled-image : {blocks image : List Block} → IsImage (settled blocks) image → image ≡ blocks
settled-image {blocks} {image} is = ext_get_or [] image blocks (is.count ∙ long) (λ k lt.
    let here : k < length (settled blocks) = omega (arith, lt, is.count) in
    image-one is k here (get_or blocks k []) (settled_at blocks k here))
  where
    long : length (settled blocks) ≡ length blocks
    long = length-map blocks (λ (b : Block). b ∷ [])

pub settled-is_image : (blocks : List Block) → IsImage (settled blocks) blocks
settled-is_image blocks = record {
  count = sym (length-map blocks (λ (b : Block). b ∷ []));
  each = λ k lt. subst (λ (vs : Versions). Contains vs (get_or blocks k [])) (sym (settled_at blocks k lt)) (0, omega arith, refl);
}

-- a block's versions once the last write of it answered Ok
pub latest-adds : {at : ℕ} {bytes : Block} {old new : Content} → Adds at bytes old new → latest new ≡ set (latest old) at bytes
latest-adds {at} {bytes} {old} {new} w =
    ap latest w.is
    ∙ map-set latest_of old at _
    ∙ ap (λ (b : Block). set (latest old) at b) (latest_push (drop w.gone (versions_of old at)) bytes)

pub latest-settles : {size : ℕ} {unsure : List Bool} {old new : Content} → IsContent size old → Settles unsure old new → latest new ≡ latest old
latest-settles {size} {unsure} {old} {new} is s = ext_get_or [] (latest new) (latest old) (length-map new latest_of ∙ s.count ∙ sym (length-map old latest_of)) (λ k lt.
    let here : k < length old = omega (arith, lt, length-map new latest_of, s.count) in
    latest_at new k (omega (arith, here, s.count)) ∙ ap latest_of (s.each k here) ∙ either (get_or unsure k false) (versions_of old k) (is.some k (omega (arith, here, is.count))) ∙ sym (latest_at old k here))
  where
    either : (b : Bool) (versions : Versions) → 0 < length versions → latest_of (cond b versions (newest versions)) ≡ latest_of versions
    either true versions some = refl
    either false versions some = latest_newest versions some

-- a sync that answers Ok leaves a disk quiet whose unsettled blocks had a last write that answered Ok
pub quiet-sure : {s : DiskState} → IsQuiet s.holds → IsSure s
quiet-sure quiet = record { each = λ k lt is. quiet.each k lt }

pub sure-adds : {at : ℕ} {bytes : Block} {old new : DiskState} → IsSure old → Adds at bytes old.holds new.holds → new.unsure ≡ set old.unsure at false → IsSure new
sure-adds {at} {bytes} {old} {new} sure w is = record { each = λ k lt flag. ⊎_elim (λ same. here k same flag) (λ other. there k lt flag other) (cases_eq k at) }
  where
    here : (k : ℕ) → k ≡ at → get_or new.unsure k false ≡ true → IsSettled new.holds k
    here k same flag =
        let no : get_or new.unsure k false ≡ false = ap (λ (n : ℕ). get_or new.unsure n false) same ∙ ap (λ (us : List Bool). get_or us at false) is ∙ sure_at old.unsure at in
        let bad : true ≡ false = sym flag ∙ no in
        cc

    there : (k : ℕ) → k < length new.holds → get_or new.unsure k false ≡ true → k ≢ at → IsSettled new.holds k
    there k lt flag other =
        let kept : get_or new.unsure k false ≡ get_or old.unsure k false = ap (λ (us : List Bool). get_or us k false) is ∙ get_or-set_other old.unsure at k false false other in
        ap length (adds-other w k other) ∙ sure.each k (omega (arith, lt, adds-count w)) (sym kept ∙ flag)

pub sure-settles : {size : ℕ} {old : DiskState} {new : Content} → IsContent size old.holds → IsSure old → Settles old.unsure old.holds new → IsQuiet new
sure-settles {size} {old} {new} is sure s = record {
  each = λ k lt.
      let here : k < length old.holds = omega (arith, lt, s.count) in
      ap length (s.each k here) ∙ either (get_or old.unsure k false) (versions_of old.holds k) (is.some k (omega (arith, here, is.count))) (λ flag. sure.each k here flag);
}
  where
    either : (b : Bool) (versions : Versions) → 0 < length versions → (b ≡ true → length versions ≡ 1) → length (cond b versions (newest versions)) ≡ 1
    either true versions some one = one refl
    either false versions some one = length_newest versions some

-- what a read of a settled block gives
pub read-settled : (content : Content) (at : ℕ) {b : Block} → IsSettled content at → Contains (versions_of content at) b → b ≡ latest_of (versions_of content at)
read-settled content at {b} one has = contains-one (latest_of (versions_of content at)) b (subst (λ (vs : Versions). Contains vs b) (one_latest (versions_of content at) one) has)

-- what a read of a quiet disk gives
pub read-quiet : (blocks : List Block) (at : ℕ) {b : Block} → at < length blocks → Contains (versions_of (settled blocks) at) b → b ≡ get_or blocks at []
read-quiet blocks at {b} lt has = contains-one (get_or blocks at []) b (subst (λ (vs : Versions). Contains vs b) (settled_at blocks at (omega (arith, lt, length-map blocks (λ (b : Block). b ∷ [])))) has)
