-- What is left of a block after a write and a sync.
use Rattle.std.proofs.Common.{◌≡◌, ◌≢◌, ⊎_elim, ℕ, ◌+◌, ◌-◌, ◌<◌, ◌≤◌, Bool, true, false, cond, List, [], ◌∷◌, ◌++◌, length, get_or, set, drop, refl, sym, ◌∙◌, ap, subst, arith, length-set, length-drop, get_or-set_same, get_or-set_other}
use Rattle.std.proofs.lemmas.List.{drop_at, length_push, get_or-drop, get_or_past}
use Rattle.std.proofs.lemmas.Bool.{cases_lt}
use Rattle.std.specs.List.{Contains}
use Rattle.fo_disk.specs.Disk.{Block, Versions, Content, versions_of, newest, IsImage, Adds, Appends, Settles}

pub adds-count : {at : ℕ} {bytes : Block} {old new : Content} → Adds at bytes old new → length new ≡ length old
adds-count {at} {bytes} {old} {new} w = ap length w.is ∙ length-set old at _

pub adds-other : {at : ℕ} {bytes : Block} {old new : Content} → Adds at bytes old new → (k : ℕ) → k ≢ at → versions_of new k ≡ versions_of old k
adds-other {at} {bytes} {old} {new} w k ne = ap (λ (c : Content). versions_of c k) w.is ∙ get_or-set_other old at k _ [] ne

pub adds-here : {at : ℕ} {bytes : Block} {old new : Content} (w : Adds at bytes old new) → at < length old → versions_of new at ≡ drop w.gone (versions_of old at) ++ bytes ∷ []
adds-here {at} {bytes} {old} {new} w lt = ap (λ (c : Content). versions_of c at) w.is ∙ get_or-set_same old at _ [] lt

-- a write that keeps all older versions
pub appends-adds : {at : ℕ} {bytes : Block} {old new : Content} → Appends at bytes old new → Adds at bytes old new
appends-adds w = record { gone = 0; is = w.is }

pub newest-push : (versions : Versions) (b : Block) → newest (versions ++ b ∷ []) ≡ b ∷ []
newest-push versions b = drop_at versions (b ∷ []) (length (versions ++ b ∷ []) - 1) (omega (arith, length_push versions b))

-- a settled block stays as it is
pub newest-one : (versions : Versions) → length versions ≡ 1 → newest versions ≡ versions
newest-one versions one = ap (λ n. drop (n - 1) versions) one

pub settles-one : {unsure : List Bool} {old new : Content} → Settles unsure old new → (k : ℕ) → k < length old → length (versions_of old k) ≡ 1 → versions_of new k ≡ versions_of old k
settles-one {unsure} {old} {new} s k lt one = s.each k lt ∙ either (get_or unsure k false)
  where
    either : (b : Bool) → cond b (versions_of old k) (newest (versions_of old k)) ≡ versions_of old k
    either true = refl
    either false = newest-one (versions_of old k) one

-- of a block whose last write answered Ok that write's bytes are left
pub settles-added : {unsure : List Bool} {old new : Content} → Settles unsure old new → (k : ℕ) → k < length old → get_or unsure k false ≡ false → (before : Versions) (b : Block) → versions_of old k ≡ before ++ b ∷ [] → versions_of new k ≡ b ∷ []
settles-added {unsure} {old} {new} s k lt sure before b is =
    s.each k lt
    ∙ ap (λ u. cond u (versions_of old k) (newest (versions_of old k))) sure
    ∙ ap newest is
    ∙ newest-push before b

pub sure_at : (unsure : List Bool) (at : ℕ) → get_or (set unsure at false) at false ≡ false
sure_at [] at = refl
sure_at (u ∷ unsure) at = grind (arith, Rattle.std.proofs.lemmas.Grind.common_steps)

-- the flag of a block whose write answered Ok
pub sure : (unsure now : List Bool) (at : ℕ) → now ≡ set unsure at false → get_or now at false ≡ false
sure unsure now at is = ap (λ (us : List Bool). get_or us at false) is ∙ sure_at unsure at

pub contains-drop : {X : Type 0} (n : ℕ) (xs : List X) (x : X) → Contains (drop n xs) x → Contains xs x
contains-drop n xs x (k, lt, is) = (n + k, omega (arith, length-drop n xs), sym (get_or-drop n xs k x) ∙ is)

pub contains-one : {X : Type 0} (b x : X) → Contains (b ∷ []) x → x ≡ b
contains-one b x (k, lt, is) = sym is ∙ ap (λ n. get_or (b ∷ []) n x) zero_only
  where
    zero_only : k ≡ 0
    zero_only = omega arith

-- what an image has in a block with one version
pub image-one : {content : Content} {image : List Block} → IsImage content image → (k : ℕ) → k < length content → (b : Block) → versions_of content k ≡ b ∷ [] → get_or image k [] ≡ b
image-one {content} {image} is_image k lt b is = contains-one b (get_or image k []) (subst (λ (vs : Versions). Contains vs (get_or image k [])) is (is_image.each k lt))

-- and in one with these versions
pub image-at : {content : Content} {image : List Block} → IsImage content image → (k : ℕ) → k < length content → (vs : Versions) → versions_of content k ≡ vs → Contains vs (get_or image k [])
image-at {content} {image} is_image k lt vs is = subst (λ (vs : Versions). Contains vs (get_or image k [])) is (is_image.each k lt)

-- a block that has one version, if it is there
pub settles-kept : {unsure : List Bool} {old new : Content} → Settles unsure old new → (k : ℕ) → (k < length old → length (versions_of old k) ≡ 1) → versions_of new k ≡ versions_of old k
settles-kept {unsure} {old} {new} s k one = ⊎_elim (λ lt. settles-one s k lt (one lt)) (λ le. past le) (cases_lt k (length old))
  where
    past : length old ≤ k → versions_of new k ≡ versions_of old k
    past le = get_or_past new k [] (omega (arith, le, s.count)) ∙ sym (get_or_past old k [] le)
