-- What a device answered, and what a cache is after it.
use Rattle.std.proofs.Common.{◌≡◌, ◌≢◌, ⊎_elim, ℕ, ◌<◌, ◌≤◌, Bool, true, false, nat_eq, eqb-true, List, [], ◌∷◌, length, drop, get_or, Some, None, is_some, Option, Result, Ok, Err, refl, sym, ap, ◌∙◌, subst, arith}
use Rattle.std.specs.List.{Contains}
use Rattle.std.specs.Map.{lookup, lookup_entry}
use Rattle.lru.proofs.CallerLemmas.{Contains-lookup_entry}
use Rattle.lru.proofs.Pairs.{lookup-lookup_entry}
use Rattle.std.specs.Option.{option_map}
use Rattle.std.specs.Result.{OnOk, OnErr, is_ok}
use Rattle.fo_disk.specs.Disk.{Content, DiskState, IsSettled, IsSync, IsWrite, Versions, latest_of, versions_of}
use Rattle.fo_disk.proofs.Images.{adds-here, adds-other, appends-adds}
use Rattle.fo_disk.specs.declared.disk.Failed.{Failed}
use Rattle.fo_buffers.specs.declared.block.Buffer.{Buffer}
use Rattle.fo_buffers.specs.Held.{Held, block_in, held_at}
use Rattle.fo_order.specs.declared.marks.Flags.{Flags}
use Rattle.fo_order.specs.declared.marks.Tried.TheVariants.{Written}
use Rattle.fo_order.specs.Flags.{settled_tried}
use Rattle.fo_labels.specs.Region.{Region}
use Rattle.fo_order.specs.Turns.{IsQuiet, flag_at}
use Rattle.fo_facts.specs.Known.{fact_at}
use Rattle.fo_mind.specs.Parts.{Parts, bytes_at, bytes_of, count_of}
use Rattle.fo_mind.specs.Sound.{Placed}
use Rattle.fo_mind.specs.Turning.{Landed, Missed, Synced, Turning, is_changed}
use Rattle.fo_mind.proofs.Landing.{within_count}
use Rattle.fo_cache.specs.Fits.{Fits, FitsAt}
use Rattle.fo_cache.proofs.Fitting.{fits_landed, fits_missed, fits_synced, latest_push}

-- what has a turn is held
pub turn_held : (p : Parts) {first : ℕ} (at : ℕ) → Turning first p.held p.turns p.facts → (flag_at p.turns at).dirty ≡ true → first ≤ at → is_some (held_at p.held at) ≡ true
turn_held p at turning dirty le = some (held_at p.held at) ((turning.each at).held dirty le)
  where
    some : (o : Option Buffer) → is_changed o ≡ true → is_some o ≡ true
    some (Some x) e = refl
    some None e = absurd (clash e)
      where
        clash : false ≡ true → ⊥
        clash h = cc

-- and within the device
pub turn_within : (p : Parts) {first count : ℕ} (size at : ℕ) → Placed p.region p.turns p.facts first count → count_of p.region ≤ size → (flag_at p.turns at).dirty ≡ true → at < size
turn_within p size at placed sized dirty =
    let lt = (within_count at placed dirty).1 in
    let m = placed.flag_count in
    let n = placed.is_count in
    omega (arith, lt, m, n, sized)

module _ (p : Parts) {first count at : ℕ} {bytes : List ℕ} {s t : DiskState} (q : Parts)
    (placed : Placed p.region p.turns p.facts first count) (turning : Turning first p.held p.turns p.facts) (dirty : (flag_at p.turns at).dirty ≡ true) (le : first ≤ at) (is : Some bytes ≡ option_map block_in (held_at p.held at)) where
  pub fits_answered : (r : Result Unit Failed) → IsWrite at bytes r s t → OnOk r (Landed at p q) → OnErr r (Missed at p q) → Fits (record p { disk = s.holds }) s.unsure → Fits (record q { disk = t.holds }) t.unsure
  fits_answered (Ok u) w l m fits = fits_landed (within_count at placed dirty).1 w l is fits
  fits_answered (Err e) w l m fits = fits_missed (within_count at placed dirty).1 e w m ((turning.each at).held dirty le) fits

pub region_answered : (p q : Parts) (at : ℕ) (r : Result Unit Failed) → OnOk r (Landed at p q) → OnErr r (Missed at p q) → q.region ≡ p.region
region_answered p q at (Ok u) l m = ap (λ (x : Parts). x.region) l.rest
region_answered p q at (Err e) l m = ap (λ (x : Parts). x.region) m.rest

pub fits_settled : (p : Parts) {s t : DiskState} (q : Parts) (r : Result Unit Failed) → IsSync r s t → OnOk r (Synced p q) → OnErr r (q ≡ p) → Fits (record p { disk = s.holds }) s.unsure → Fits (record q { disk = t.holds }) t.unsure
fits_settled p q (Ok u) y c n fits = fits_synced y c fits
fits_settled p {s} {t} q (Err e) y c n fits =
    subst (λ (z : Parts). Fits (record z { disk = t.holds }) t.unsure) (sym n)
    (subst (λ (h : Content). Fits (record p { disk = h }) t.unsure) (sym y.holds)
    (subst (λ (us : List Bool). Fits (record p { disk = s.holds }) us) (sym y.unsure) fits))

pub region_settled : (p q : Parts) (r : Result Unit Failed) → OnOk r (Synced p q) → OnErr r (q ≡ p) → q.region ≡ p.region
region_settled p q (Ok u) c n = ap (λ (x : Parts). x.region) c.rest
region_settled p q (Err e) c n = ap (λ (x : Parts). x.region) n

-- "it was Ok, or not" as of the result
pub if_ok : {P : Type 0} {ok : Bool} (r : Result Unit Failed) → ok ≡ is_ok r → (ok ≡ true → P) → OnOk r P
if_ok (Ok u) e f = f e
if_ok (Err x) e f = tt

pub if_err : {P : Type 0} {ok : Bool} (r : Result Unit Failed) → ok ≡ is_ok r → (ok ≡ false → P) → OnErr r P
if_err (Ok u) e f = tt
if_err (Err x) e f = f e

-- ---- what a write leaves of the device, in its own words

module _ {at : ℕ} {bytes : List ℕ} {s t : DiskState} where
  pub last_written : (h : Held) (r : Result Unit Failed) → IsWrite at bytes r s t → Some bytes ≡ option_map block_in (held_at h at) → OnOk r (at < length s.holds → latest_of (versions_of t.holds at) ≡ bytes_at h s.holds at)
  last_written h (Ok u) w is = λ lt. ap latest_of (adds-here w.holds lt) ∙ latest_push (drop w.holds.gone (versions_of s.holds at)) bytes ∙ by (held_at h at) is
    where
      by : (o : Option Buffer) → Some bytes ≡ option_map block_in o → bytes ≡ bytes_of o (lookup (nat_eq at) h.clean) (latest_of (versions_of s.holds at))
      by (Some x) e = cc
      by None e = absurd (nothing e)
        where
          nothing : Some bytes ≡ option_map block_in None → ⊥
          nothing e = cc
  last_written h (Err e) w is = tt

  pub others_written : (r : Result Unit Failed) → IsWrite at bytes r s t → (k : ℕ) → k ≢ at → versions_of t.holds k ≡ versions_of s.holds k
  others_written (Ok u) w k ne = adds-other w.holds k ne
  others_written (Err e) w k ne = ⊎_elim (λ same. ap (λ (c : Content). versions_of c k) same) (λ a. adds-other (appends-adds a) k ne) w.holds

-- what was written is settled
pub each_settled : (p : Parts) {s t : DiskState} (q : Parts) (r : Result Unit Failed) → IsSync r s t → OnOk r (Synced p q) → OnErr r (q ≡ p) → Fits (record p { disk = s.holds }) s.unsure
    → OnOk r ((b : ℕ) → p.region.first ≤ b → b < length t.holds → (flag_at p.turns b).tried ≡ Written → IsSettled t.holds b)
each_settled p {s} {t} q (Ok u) y c n fits = λ b le lt is.
    let now = fits_synced y c fits in
    (now.each b (subst (λ (x : Region). x.first ≤ b) (sym (ap (λ (x : Parts). x.region) c.rest)) le) lt).settled (ap (λ (f : Flags). f.tried) (c.turns.each b) ∙ ap settled_tried is)
each_settled p q (Err e) y c n fits = tt

-- ---- where all is settled, the device has what memory has

-- what is found of a block is an entry
pub lookup_contains : (b : ℕ) (es : List (ℕ × List ℕ)) (bytes : List ℕ) → lookup (nat_eq b) es ≡ Some bytes → Contains es (b, bytes)
lookup_contains b es bytes is = by (lookup_entry (nat_eq b) es) refl (lookup-lookup_entry (nat_eq b) es ∙ is)
  where
    by : (o : Option (ℕ × List ℕ)) → lookup_entry (nat_eq b) es ≡ o → option_map (λ e. e.1) o ≡ Some bytes → Contains es (b, bytes)
    by None found e = absurd (cc)
    by (Some x) found e =
        let c = Contains-lookup_entry (nat_eq b) es x found in
        let key : x.0 ≡ b = sym (eqb-true b x.0 c.1) in
        let value : x.1 ≡ bytes = cc in
        subst (λ k. Contains es (k, bytes)) key (subst (λ (v : List ℕ). Contains es (x.0, v)) value c.0)

alone : (versions : Versions) → length versions ≡ 1 → versions ≡ latest_of versions ∷ []
alone [] e = absurd (omega (arith, e))
alone (v ∷ []) e = refl
alone (v ∷ w ∷ versions) e = let h : length (v ∷ w ∷ versions) ≡ 1 = e in absurd (omega (arith, h))

pub quiet_is_memory : {first : ℕ} {p : Parts} {unsure : List Bool} → Turning first p.held p.turns p.facts → Fits p unsure → IsQuiet p.turns → (b : ℕ) → p.region.first ≤ b → b < length p.disk → (fact_at p.facts b).linked ≡ true → versions_of p.disk b ≡ bytes_at p.held p.disk b ∷ []
quiet_is_memory {first} {p} {unsure} turning fits quiet b le lt linked =
    let f = fits.each b le lt in
    alone (versions_of p.disk b) (f.settled (quiet.settled b)) ∙ ap (λ (x : List ℕ). x ∷ []) (by f (held_at p.held b) (lookup (nat_eq b) p.held.clean) refl refl)
  where
    clean : (x : Buffer) → held_at p.held b ≡ Some x → (d : Bool) → x.dirty ≡ d → x.dirty ≡ false
    clean x is true e = absurd (clash (sym (quiet.clean b) ∙ (turning.each b).turn (ap is_changed is ∙ e) linked))
      where
        clash : false ≡ true → ⊥
        clash h = cc
    clean x is false e = e

    by : FitsAt b (versions_of p.disk b) (flag_at p.turns b) (held_at p.held b) p.held.clean (get_or unsure b false) → (o : Option Buffer) (c : Option (List ℕ)) → held_at p.held b ≡ o → lookup (nat_eq b) p.held.clean ≡ c
        → latest_of (versions_of p.disk b) ≡ bytes_of (held_at p.held b) (lookup (nat_eq b) p.held.clean) (latest_of (versions_of p.disk b))
    by f (Some x) c is same = f.held x is (clean x is x.dirty refl) ∙ sym (ap (λ (o : Option Buffer). bytes_of o (lookup (nat_eq b) p.held.clean) (latest_of (versions_of p.disk b))) is)
    by f None (Some bytes) is same = f.listed bytes is (lookup_contains b p.held.clean bytes same) ∙ sym (ap (λ (o : Option Buffer). bytes_of o (lookup (nat_eq b) p.held.clean) (latest_of (versions_of p.disk b))) is ∙ ap (λ (c : Option (List ℕ)). bytes_of None c (latest_of (versions_of p.disk b))) same)
    by f None None is same = sym (ap (λ (o : Option Buffer). bytes_of o (lookup (nat_eq b) p.held.clean) (latest_of (versions_of p.disk b))) is ∙ ap (λ (c : Option (List ℕ)). bytes_of None c (latest_of (versions_of p.disk b))) same)
