-- A write and a sync of the device are steps of what is known.
use Rattle.std.proofs.Common.{◌≡◌, ◌≢◌, ◌⊎◌, inl, inr, ⊎_elim, ℕ, suc, ◌-◌, ◌<◌, Bool, true, false, cond, not, ◌&&◌, nat_eq, List, [], ◌∷◌, ◌++◌, map, length, drop, get_or, set, length-set, get_or-set_other, get_or-set_same, refl, sym, ◌∙◌, ap, subst, arith}
use Rattle.std.proofs.lemmas.Bool.{cases_eq, cases_lt}
use Rattle.std.proofs.lemmas.List.{get_or_push, length_push, length-map, get_or_past}
use Rattle.std.proofs.lemmas.Grind.{common_steps}
use Rattle.std.specs.List.{Contains}
use Rattle.fo_disk.specs.Disk.{Block, Versions, versions_of, latest_of, newest, Adds, IsContent}
use Rattle.fo_disk.specs.Disk.{Content as Holds, Settles as DiskSettles}
use Rattle.fo_disk.proofs.Images.{adds-other, adds-here, contains-drop, contains-one}
use Rattle.fo_image.specs.declared.types.Pointer.TheVariants.{Local}
use Rattle.fo_crash.specs.Images.{Content, target}
use Rattle.fo_cells.specs.Known.{Clear, IsClear, IsSince, MayName}
use Rattle.fo_cells.specs.Writes.{KeepsSome, Writes, Syncs, Born}
use Rattle.fo_cells.specs.Device.{Clearing, Mind, since_of, known, noted, wrote, synced, MayWrite, MayWriteOver, Fits, Stepped, after_sync}
use Rattle.fo_cells.proofs.Writing.{write_adds, write_keeps}
use Rattle.fo_cells.proofs.Settling.{sync_adds, sync_keeps}
use Rattle.fo_disk.proofs.Images.{appends-adds}
use Rattle.std.specs.Prelude.{Result, Ok, Err, is_err}
use Rattle.fo_disk.specs.Disk.{Writes as DiskWrites, Syncs as DiskSyncs}
use Rattle.fo_cells.proofs.Standing.{first_among, next_among, among_cases}

-- what a mapped list has
pub among_map : {X Y : Type 0} (f : X → Y) (xs : List X) (y : Y) → Contains (map f xs) y → (x : X) × Contains xs x × (f x ≡ y)
among_map f [] y (k, lt, is) = absurd (omega arith)
among_map f (x ∷ xs) y h = ⊎_elim
    (λ first. (x, first_among x xs, first))
    (λ more. let (z, among, is) = among_map f xs y more in (z, next_among x z xs among, is))
    (among_cases (f x) (map f xs) y h)

pub map_among : {X Y : Type 0} (f : X → Y) (xs : List X) (x : X) → Contains xs x → Contains (map f xs) (f x)
map_among f [] x (k, lt, is) = absurd (omega arith)
map_among f (y ∷ xs) x h = ⊎_elim
    (λ first. subst (λ z. Contains (f y ∷ map f xs) (f z)) first (first_among (f y) (map f xs)))
    (λ more. next_among (f y) (f x) (map f xs) (map_among f xs x more))
    (among_cases y xs x h)

-- what a longer list has
pub among_push : {X : Type 0} (xs : List X) (x y : X) → Contains (xs ++ x ∷ []) y → Contains xs y ⊎ (y ≡ x)
among_push [] x y h = ⊎_elim (λ e. inr (sym e)) (λ none. absurd (nothing none)) (among_cases x [] y h)
  where
    nothing : Contains [] y → ⊥
    nothing (k, lt, is) = omega arith
among_push (z ∷ xs) x y h = ⊎_elim
    (λ e. inl (subst (λ v. Contains (z ∷ xs) v) e (first_among z xs)))
    (λ more. ⊎_elim (λ was. inl (next_among z y xs was)) (λ is. inr is) (among_push xs x y more))
    (among_cases z (xs ++ x ∷ []) y h)

-- a block that had a version has one after the step, so it has a content and a label
pub some_known : (m : Mind) (old new : Holds) → ((b : ℕ) → 0 < length (versions_of old b) → 0 < length (versions_of new b)) → KeepsSome (known m old) (known m new)
some_known m old new some = record {
  versions = λ b h. omega (arith, some b (omega (arith, h, length-map (versions_of old b) (m.read b))), length-map (versions_of new b) (m.read b));
  labels = λ b h. omega (arith, some (m.label_block b) (omega (arith, h, length-map (versions_of old (m.label_block b)) (m.label_in b))), length-map (versions_of new (m.label_block b)) (m.label_in b));
}

pub latest_push : (versions : Versions) (b : Block) → latest_of (versions ++ b ∷ []) ≡ b
latest_push versions b = get_or_push versions b [] _ (omega (arith, length_push versions b))

pub nat_eq_here : (a b : ℕ) → a ≡ b → nat_eq a b ≡ true
nat_eq_here a b e = grind (arith, common_steps)

pub nat_eq_other : (a b : ℕ) → a ≢ b → nat_eq a b ≡ false
nat_eq_other a b ne = grind (arith, common_steps)

-- THE VERSIONS AFTER A WRITE THAT LANDED
module _ (ok : Bool) {m : Mind} {at : ℕ} {bytes : Block} {is_complete : Bool} {old new : Holds} (w : Adds at bytes old new) (here : at < length old) (may : MayWrite m old at bytes is_complete) where
  other : (b : ℕ) → b ≢ at → versions_of new b ≡ versions_of old b
  other b ne = adds-other w b ne

  latest_here : latest_of (versions_of new at) ≡ bytes
  latest_here = ap latest_of (adds-here w here) ∙ latest_push (drop w.gone (versions_of old at)) bytes

  f : Content
  f = m.read at bytes

  versions_new : (b : ℕ) (c : Content) → Contains ((known (wrote at ok is_complete m) new).versions b) c → Contains ((known m old).versions b) c ⊎ ((b ≡ at) × (c ≡ m.read at bytes))
  versions_new b c h = ⊎_elim
      (λ e. let (x, among, is) = among_map (m.read at) (versions_of new at) c (subst (λ y. Contains (map (m.read y) (versions_of new y)) c) e h) in
      ⊎_elim
      (λ was. inl (subst (λ y. Contains (map (m.read y) (versions_of old y)) c) (sym e) (subst (λ y. Contains (map (m.read at) (versions_of old at)) y) is (map_among (m.read at) (versions_of old at) x (contains-drop w.gone (versions_of old at) x was)))))
      (λ same. inr (e, sym is ∙ ap (λ y. m.read at y) same))
      (among_push (drop w.gone (versions_of old at)) bytes x (subst (λ (vs : Versions). Contains vs x) (adds-here w here) among)))
      (λ ne. inl (subst (λ (vs : Versions). Contains (map (m.read b) vs) c) (other b ne) h))
      (cases_eq b at)

  late_new : (b : ℕ) (c : Content) → Contains ((known (wrote at ok is_complete m) new).late b) c → Contains ((known m old).late b) c ⊎ ((b ≡ at) × (c ≡ m.memory at))
  late_new b c h = ⊎_elim
      (λ e. inr (e, here_late (subst (λ y. Contains ((known (wrote at ok is_complete m) new).late y) c) e h)))
      (λ ne. inl (subst (λ (vs : Versions). Contains (cond (m.complete b) (m.read b (latest_of vs) ∷ []) []) c) (other b ne) (subst (λ v. Contains (cond (cond v (ok && is_complete) (m.complete b)) (m.read b (latest_of (versions_of new b)) ∷ []) []) c) (nat_eq_other b at ne) h)))
      (cases_eq b at)
    where
      here_late : Contains ((known (wrote at ok is_complete m) new).late at) c → c ≡ m.memory at
      here_late h = by (ok && is_complete) refl (subst (λ v. Contains (cond (cond v (ok && is_complete) (m.complete at)) (m.read at (latest_of (versions_of new at)) ∷ []) []) c) (nat_eq_here at at refl) h)
        where
          both : (a b : Bool) → (a && b) ≡ true → b ≡ true
          both true b e = e
          both false b e = absurd (cc)

          by : (v : Bool) → (ok && is_complete) ≡ v → Contains (cond v (m.read at (latest_of (versions_of new at)) ∷ []) []) c → c ≡ m.memory at
          by true e h = contains-one (m.read at (latest_of (versions_of new at))) c h ∙ ap (λ y. m.read at y) latest_here ∙ may.complete_is (both ok is_complete e)
          by false e (k, lt, is) = absurd (omega arith)

  names_new : m.newborn at ≡ true → (i t : ℕ) → target ((m.memory at).slot i) ≡ Local t → Contains ((known (wrote at ok is_complete m) new).late at) (m.memory at) → (t ≢ 1) × MayName (known m old) t
  names_new born i t e h = by is_complete refl
    where
      none : (a b : Bool) → b ≡ false → (a && b) ≡ false
      none true b e = e
      none false b e = refl

      by : (v : Bool) → is_complete ≡ v → (t ≢ 1) × MayName (known m old) t
      by true x = may.names born x i t e
      by false x = absurd (nothing (subst (λ v. Contains (cond v (m.read at (latest_of (versions_of new at)) ∷ []) []) (m.memory at)) (none ok is_complete x) (subst (λ v. Contains (cond (cond v (ok && is_complete) (m.complete at)) (m.read at (latest_of (versions_of new at)) ∷ []) []) (m.memory at)) (nat_eq_here at at refl) h)))
        where
          nothing : Contains [] (m.memory at) → ⊥
          nothing (k, lt, is) = omega arith

  noted_at : (c : Clearing) → ((noted at ok c).at ≡ c.at) × ((noted at ok c).slot ≡ c.slot) × ((noted at ok c).leaf ≡ c.leaf)
  noted_at c = by (ok && nat_eq c.leaf at)
    where
      by : (v : Bool) → ((cond v (record c { wrote = true }) c).at ≡ c.at) × ((cond v (record c { wrote = true }) c).slot ≡ c.slot) × ((cond v (record c { wrote = true }) c).leaf ≡ c.leaf)
      by true = (refl, refl, refl)
      by false = (refl, refl, refl)

  clears_new : (b i leaf : ℕ) → IsClear ((known (wrote at ok is_complete m) new).clears) b i leaf → IsClear ((known m old).clears) b i leaf
  clears_new b i leaf h =
      let (c, among, is) = among_map (since_of new) (map (noted at ok) m.clears) h.clear h.among in
      let (d, first, same) = among_map (noted at ok) m.clears c among in
      let n = noted_at d in record {
        clear = since_of old d;
        among = map_among (since_of old) m.clears d first;
        is = (
          sym n.0 ∙ ap (λ (x : Clearing). x.at) same ∙ ap (λ (x : Clear). x.at) is ∙ h.is.0,
          sym n.1 ∙ ap (λ (x : Clearing). x.slot) same ∙ ap (λ (x : Clear). x.slot) is ∙ h.is.1,
          sym n.2 ∙ ap (λ (x : Clearing). x.leaf) same ∙ ap (λ (x : Clear). x.leaf) is ∙ h.is.2,
        );
      }

  since_new : (b i leaf : ℕ) (x : List ℕ) → IsSince ((known (wrote at ok is_complete m) new).clears) b i leaf x → IsSince ((known m old).clears) b i leaf x ⊎ ((leaf ≡ at) × (x ≡ (m.memory at).bytes))
  since_new b i leaf x h =
      let (c, among, is) = among_map (since_of new) (map (noted at ok) m.clears) h.clear h.among in
      let (d, first, same) = among_map (noted at ok) m.clears c among in
      let n = noted_at d in
      let leaf_is : d.leaf ≡ leaf = sym n.2 ∙ ap (λ (y : Clearing). y.leaf) same ∙ ap (λ (y : Clear). y.leaf) is ∙ h.is.2 in
      let has : Contains ((since_of new (noted at ok d)).since) x = subst (λ (y : Clearing). Contains ((since_of new y).since) x) (sym same) (subst (λ (y : Clear). Contains y.since x) (sym is) h.has) in
      ⊎_elim
      (λ e. inr (e, at_leaf d (leaf_is ∙ e) (has)))
      (λ ne. inl (record {
        clear = since_of old d;
        among = map_among (since_of old) m.clears d first;
        is = (
          sym n.0 ∙ ap (λ (y : Clearing). y.at) same ∙ ap (λ (y : Clear). y.at) is ∙ h.is.0,
          sym n.1 ∙ ap (λ (y : Clearing). y.slot) same ∙ ap (λ (y : Clear). y.slot) is ∙ h.is.1,
          leaf_is,
        );
        has = still d (λ e. ne (sym leaf_is ∙ e)) has;
      }))
      (cases_eq leaf at)
    where
      at_leaf : (d : Clearing) → d.leaf ≡ at → Contains ((since_of new (noted at ok d)).since) x → x ≡ (m.memory at).bytes
      at_leaf d e h = by (noted at ok d) ((noted_at d).2 ∙ e) h
        where
          by : (y : Clearing) → y.leaf ≡ at → Contains ((since_of new y).since) x → x ≡ (m.memory at).bytes
          by y e h = one y.wrote (subst (λ k. Contains (cond y.wrote (latest_of (versions_of new k) ∷ []) []) x) e h)
            where
              one : (v : Bool) → Contains (cond v (latest_of (versions_of new at) ∷ []) []) x → x ≡ (m.memory at).bytes
              one true h = contains-one (latest_of (versions_of new at)) x h ∙ latest_here ∙ sym may.block_bytes ∙ may.bytes_are
              one false (k, lt, is) = absurd (omega arith)

      still : (d : Clearing) → (d.leaf ≢ at) → Contains ((since_of new (noted at ok d)).since) x → Contains ((since_of old d).since) x
      still d ne h = subst (λ (vs : Versions). Contains (cond d.wrote (latest_of vs ∷ []) []) x) (other d.leaf ne) (subst (λ (y : Clearing). Contains ((since_of new y).since) x) (noted_is d ne) h)
        where
          never : (a : Bool) → (a && false) ≡ false
          never true = refl
          never false = refl

          noted_is : (d : Clearing) → d.leaf ≢ at → noted at ok d ≡ d
          noted_is d ne = ap (λ v. cond (ok && v) (record d { wrote = true }) d) (nat_eq_other d.leaf at ne) ∙ ap (λ v. cond v (record d { wrote = true }) d) (never ok)

  some_new : (b : ℕ) → 0 < length (versions_of old b) → 0 < length (versions_of new b)
  some_new b some = ⊎_elim
      (λ e. subst (λ y. 0 < length (versions_of new y)) (sym e) (subst (λ (vs : Versions). 0 < length vs) (sym (adds-here w here)) (omega (arith, length_push (drop w.gone (versions_of old at)) bytes))))
      (λ ne. subst (λ (vs : Versions). 0 < length vs) (sym (other b ne)) some)
      (cases_eq b at)

  -- A write that landed is a step of what is known.
  pub landed : Writes at (m.read at bytes) (known m old) (known (wrote at ok is_complete m) new)
  landed = record {
    same = record { memory = refl; tops = refl; label = refl; low = refl };
    some = let s = some_known m old new some_new in record { versions = s.versions; labels = s.labels };
    newborn = refl;
    labels = λ b l h. subst (λ (vs : Versions). Contains (map (m.label_in b) vs) l) (other (m.label_block b) (may.apart b)) h;
    bytes = may.bytes_are;
    slots = may.slots;
    names = names_new;
    versions = versions_new;
    late = late_new;
    waits = λ leaf on j h. h;
    over = may.over;
    clears = clears_new;
    since = since_new;
  }

-- THE VERSIONS AFTER A WRITE THAT DID NOT LAND
pub never : (a : Bool) → (a && false) ≡ false
never true = refl
never false = refl

same_list : {X : Type 0} (f : X → X) → ((x : X) → f x ≡ x) → (xs : List X) → map f xs ≡ xs
same_list f h [] = refl
same_list f h (x ∷ xs) = ap (λ y. y ∷ map f xs) (h x) ∙ ap (λ ys. x ∷ ys) (same_list f h xs)

pub lost : {m : Mind} {at : ℕ} {bytes : Block} {is_complete : Bool} {old : Holds} → MayWrite m old at bytes is_complete → Writes at (m.read at bytes) (known m old) (known (wrote at false is_complete m) old)
lost {m} {at} {bytes} {is_complete} {old} may = record {
  same = record { memory = refl; tops = refl; label = refl; low = refl };
  some = record { versions = λ b some. some; labels = λ b some. some };
  newborn = refl;
  labels = λ b l h. h;
  bytes = may.bytes_are;
  slots = may.slots;
  names = λ born i t e h. absurd (none (m.memory at) h);
  versions = λ b c h. inl h;
  late = λ b c h. ⊎_elim
      (λ e. absurd (none c (subst (λ y. Contains ((known (wrote at false is_complete m) old).late y) c) e h)))
      (λ ne. inl (subst (λ v. Contains (cond (cond v false (m.complete b)) (m.read b (latest_of (versions_of old b)) ∷ []) []) c) (nat_eq_other b at ne) h))
      (cases_eq b at);
  waits = λ leaf on j h. h;
  over = may.over;
  clears = λ b i leaf h. subst (λ (cs : List Clearing). IsClear (map (since_of old) cs) b i leaf) (same_list (noted at false) (λ c. refl) m.clears) h;
  since = λ b i leaf x h. inl (subst (λ (cs : List Clearing). IsSince (map (since_of old) cs) b i leaf x) (same_list (noted at false) (λ c. refl) m.clears) h);
}
  where
    none : (c : Content) → Contains ((known (wrote at false is_complete m) old).late at) c → ⊥
    none c h = nothing (subst (λ v. Contains (cond (cond v false (m.complete at)) (m.read at (latest_of (versions_of old at)) ∷ []) []) c) (nat_eq_here at at refl) h)
      where
        nothing : Contains [] c → ⊥
        nothing (k, lt, is) = omega arith

-- A SYNC THAT ANSWERS OK
pub newest_one : (versions : Versions) → 0 < length versions → newest versions ≡ latest_of versions ∷ []
newest_one [] some = absurd (omega arith)
newest_one (v ∷ []) some = refl
newest_one (v ∷ w ∷ versions) some = further v (newest_one (w ∷ versions) (omega arith))
  where
    further : (v : Block) → newest (w ∷ versions) ≡ latest_of (w ∷ versions) ∷ [] → newest (v ∷ w ∷ versions) ≡ latest_of (v ∷ w ∷ versions) ∷ []
    further v h =
        let e : length (v ∷ w ∷ versions) - 1 ≡ suc (length (w ∷ versions) - 1) = omega arith in
        ap (λ n. drop n (v ∷ w ∷ versions)) e ∙ h ∙ ap (λ n. get_or (v ∷ w ∷ versions) n [] ∷ []) (sym e)

module _ {m : Mind} {unsure : List Bool} {old new : Holds} (y : DiskSettles unsure old new) (fits : Fits m unsure old) where
  fewer : (b : ℕ) (x : Block) → Contains (versions_of new b) x → Contains (versions_of old b) x
  fewer b x h = ⊎_elim
      (λ lt. by (get_or unsure b false) (subst (λ (vs : Versions). Contains vs x) (y.each b lt) h))
      (λ le. subst (λ (vs : Versions). Contains vs x) (get_or_past new b [] (omega (arith, le, y.count)) ∙ sym (get_or_past old b [] le)) h)
      (cases_lt b (length old))
    where
      by : (v : Bool) → Contains (cond v (versions_of old b) (newest (versions_of old b))) x → Contains (versions_of old b) x
      by true h = h
      by false h = contains-drop (length (versions_of old b) - 1) (versions_of old b) x h

  -- a block that was written whole has its last version alone
  one : (b : ℕ) → m.complete b ≡ true → versions_of new b ≡ latest_of (versions_of old b) ∷ []
  one b e =
      y.each b (fits.within b e)
      ∙ ap (λ v. cond v (versions_of old b) (newest (versions_of old b))) (fits.sure b e)
      ∙ newest_one (versions_of old b) (fits.some b (fits.within b e))

  fewer_content : (b : ℕ) (c : Content) → Contains ((known (synced m) new).versions b) c → Contains ((known m old).versions b) c
  fewer_content b c h =
      let (x, among, is) = among_map (m.read b) (versions_of new b) c h in
      subst (λ z. Contains (map (m.read b) (versions_of old b)) z) is (map_among (m.read b) (versions_of old b) x (fewer b x among))

  born : (b : ℕ) → (((known (synced m) new).newborn b ≡ (known m old).newborn b) × ((c : Content) → Contains ((known (synced m) new).late b) c → Contains ((known m old).late b) c)) ⊎ (((known (synced m) new).newborn b ≡ false) × Born b (known m old) (known (synced m) new))
  born b = by (m.newborn b) refl (m.complete b) refl
    where
      none : (c : Content) → Contains [] c → Contains ((known m old).late b) c
      none c (k, lt, is) = absurd (omega arith)

      by : (v : Bool) → m.newborn b ≡ v → (u : Bool) → m.complete b ≡ u → (((m.newborn b && not (m.complete b)) ≡ m.newborn b) × ((c : Content) → Contains [] c → Contains ((known m old).late b) c)) ⊎ (((m.newborn b && not (m.complete b)) ≡ false) × Born b (known m old) (known (synced m) new))
      by true n true w = inr (
        ap (λ v. v && not (m.complete b)) n ∙ ap (λ u. not u) w,
        record {
          was = n;
          late = λ c h.
              let only : Contains (map (m.read b) (latest_of (versions_of old b) ∷ [])) c = subst (λ (vs : Versions). Contains (map (m.read b) vs) c) (one b w) h in
              subst (λ u. Contains (cond u (m.read b (latest_of (versions_of old b)) ∷ []) []) c) (sym w) only;
        },
      )
      by true n false w = inl (ap (λ v. v && not (m.complete b)) n ∙ ap (λ u. not u) w ∙ sym n, none)
      by false n u w = inl (ap (λ v. v && not (m.complete b)) n ∙ sym n, none)

  less : (d : Clearing) → 0 < length (versions_of old d.leaf) → (x : List ℕ) → Contains ((since_of new d).since) x → Contains ((since_of old d).since) x
  less d some x h = subst (λ (z : Block). Contains (cond d.wrote (z ∷ []) []) x) latest_same h
    where
      either : (v : Bool) → latest_of (cond v (versions_of old d.leaf) (newest (versions_of old d.leaf))) ≡ latest_of (versions_of old d.leaf)
      either true = refl
      either false = ap latest_of (newest_one (versions_of old d.leaf) some)

      latest_same : latest_of (versions_of new d.leaf) ≡ latest_of (versions_of old d.leaf)
      latest_same = ⊎_elim
          (λ inside. ap latest_of (y.each d.leaf inside) ∙ either (get_or unsure d.leaf false))
          (λ le. ap latest_of (get_or_past new d.leaf [] (omega (arith, le, y.count)) ∙ sym (get_or_past old d.leaf [] le)))
          (cases_lt d.leaf (length old))

  some_left : (b : ℕ) → 0 < length (versions_of old b) → 0 < length (versions_of new b)
  some_left b some = ⊎_elim
      (λ lt. subst (λ (vs : Versions). 0 < length vs) (sym (y.each b lt)) (by (get_or unsure b false)))
      (λ le. absurd (omega (arith, some, ap (λ (vs : Versions). length vs) (get_or_past old b [] le))))
      (cases_lt b (length old))
    where
      by : (v : Bool) → 0 < length (cond v (versions_of old b) (newest (versions_of old b)))
      by true = some
      by false = subst (λ (vs : Versions). 0 < length vs) (sym (newest_one (versions_of old b) some)) (omega arith)

  -- A sync is a step of what is known.
  pub settled : Syncs (known m old) (known (synced m) new)
  settled = record {
    same = record { memory = refl; tops = refl; label = refl; low = refl };
    some = let s = some_known m old new some_left in record { versions = s.versions; labels = s.labels };
    versions = fewer_content;
    labels = λ b l h.
        let (x, among, is) = among_map (m.label_in b) (versions_of new (m.label_block b)) l h in
        subst (λ z. Contains (map (m.label_in b) (versions_of old (m.label_block b))) z) is (map_among (m.label_in b) (versions_of old (m.label_block b)) x (fewer (m.label_block b) x among));
    newborn = born;
    waits = λ leaf on j h. h;
    clears = λ b i leaf h.
        let (d, among, is) = among_map (since_of new) m.clears h.clear h.among in record {
          clear = since_of old d;
          among = map_among (since_of old) m.clears d among;
          is = (ap (λ (z : Clear). z.at) is ∙ h.is.0, ap (λ (z : Clear). z.slot) is ∙ h.is.1, ap (λ (z : Clear). z.leaf) is ∙ h.is.2);
        };
    since = λ b i leaf x h.
        let (d, among, is) = among_map (since_of new) m.clears h.clear h.among in record {
          clear = since_of old d;
          among = map_among (since_of old) m.clears d among;
          is = (ap (λ (z : Clear). z.at) is ∙ h.is.0, ap (λ (z : Clear). z.slot) is ∙ h.is.1, ap (λ (z : Clear). z.leaf) is ∙ h.is.2);
          has = less d (fits.some d.leaf (fits.leaves d among)) x (subst (λ (z : Clear). Contains z.since x) (sym is) h.has);
        };
  }

-- WHAT IS KNOWN OF FAILED WRITES
pub both_left : (a b : Bool) → (a && b) ≡ true → a ≡ true
both_left true b e = refl
both_left false b e = absurd (cc)

-- the flag of the last write of a block
pub flag_here : (unsure : List Bool) (at : ℕ) → get_or (set unsure at false) at false ≡ false
flag_here unsure at = ⊎_elim
    (λ lt. get_or-set_same unsure at false false lt)
    (λ le. get_or_past (set unsure at false) at false (omega (arith, le, length-set unsure at false)))
    (cases_lt at (length unsure))

fits_flags : (ok is_complete : Bool) (m : Mind) (unsure : List Bool) (old : Holds) (at : ℕ) → at < length old → Fits m unsure old → ((b : ℕ) → (wrote at ok is_complete m).complete b ≡ true → get_or (set unsure at (not ok)) b false ≡ false) × ((b : ℕ) → (wrote at ok is_complete m).complete b ≡ true → b < length old)
fits_flags ok is_complete m unsure old at here fits = (
  λ b e. ⊎_elim
      (λ is. subst (λ y. get_or (set unsure at (not ok)) y false ≡ false) (sym is) (subst (λ v. get_or (set unsure at (not v)) at false ≡ false) (sym (both_left ok is_complete (ap (λ v. cond v (ok && is_complete) (m.complete b)) (sym (nat_eq_here b at is)) ∙ e))) (flag_here unsure at)))
      (λ ne. get_or-set_other unsure at b (not ok) false ne ∙ fits.sure b (ap (λ v. cond v (ok && is_complete) (m.complete b)) (sym (nat_eq_other b at ne)) ∙ e))
      (cases_eq b at),
  λ b e. ⊎_elim
      (λ is. subst (λ y. y < length old) (sym is) here)
      (λ ne. fits.within b (ap (λ v. cond v (ok && is_complete) (m.complete b)) (sym (nat_eq_other b at ne)) ∙ e))
      (cases_eq b at),
)

leaf_kept : (at : ℕ) (ok : Bool) (c : Clearing) → (noted at ok c).leaf ≡ c.leaf
leaf_kept at ok c = by (ok && nat_eq c.leaf at)
  where
    by : (v : Bool) → (cond v (record c { wrote = true }) c).leaf ≡ c.leaf
    by true = refl
    by false = refl

fits_leaves : (at : ℕ) (ok : Bool) (m : Mind) (n : ℕ) → ((c : Clearing) → Contains m.clears c → c.leaf < n) → (c : Clearing) → Contains (map (noted at ok) m.clears) c → c.leaf < n
fits_leaves at ok m n all c h = let (d, among, is) = among_map (noted at ok) m.clears c h in subst (λ k. k < n) (sym (leaf_kept at ok d) ∙ ap (λ (x : Clearing). x.leaf) is) (all d among)

-- after a write that landed
pub fits_landed : (ok is_complete : Bool) {m : Mind} {unsure : List Bool} {at : ℕ} {bytes : Block} {old new : Holds} → Adds at bytes old new → at < length old → Fits m unsure old → Fits (wrote at ok is_complete m) (set unsure at (not ok)) new
fits_landed ok is_complete {m} {unsure} {at} {bytes} {old} {new} w here fits =
    let flags = fits_flags ok is_complete m unsure old at here fits in
    let count : length new ≡ length old = ap length w.is ∙ length-set old at _ in record {
      sure = flags.0;
      within = λ b e. subst (λ n. b < n) (sym count) (flags.1 b e);
      some = λ b lt. ⊎_elim
          (λ is. subst (λ y. 0 < length (versions_of new y)) (sym is) (subst (λ (vs : Versions). 0 < length vs) (sym (adds-here w here)) (more (drop w.gone (versions_of old at)))))
          (λ ne. subst (λ (vs : Versions). 0 < length vs) (sym (adds-other w b ne)) (fits.some b (subst (λ n. b < n) count lt)))
          (cases_eq b at);
      leaves = λ c h. subst (λ n. c.leaf < n) (sym count) (fits_leaves at ok m (length old) fits.leaves c h);
    }
  where
    more : (vs : Versions) → 0 < length (vs ++ bytes ∷ [])
    more vs = omega (arith, length_push vs bytes)

pub fits_lost : (is_complete : Bool) {m : Mind} {unsure : List Bool} (at : ℕ) {old : Holds} → at < length old → Fits m unsure old → Fits (wrote at false is_complete m) (set unsure at true) old
fits_lost is_complete {m} {unsure} at {old} here fits =
    let flags = fits_flags false is_complete m unsure old at here fits in record {
      sure = flags.0;
      within = flags.1;
      some = fits.some;
      leaves = λ c h. fits_leaves at false m (length old) fits.leaves c h;
    }

pub fits_settled : {m : Mind} {unsure : List Bool} {old new : Holds} → DiskSettles unsure old new → Fits m unsure old → Fits (synced m) unsure new
fits_settled {m} {unsure} {old} {new} y fits = record {
  sure = λ b e. absurd (cc);
  within = λ b e. absurd (cc);
  some = λ b lt. let inside : b < length old = omega (arith, lt, y.count) in subst (λ (vs : Versions). 0 < length vs) (sym (y.each b inside)) (either (get_or unsure b false) b (fits.some b inside));
  leaves = λ c h. subst (λ n. c.leaf < n) (sym y.count) (fits.leaves c h);
}
  where
    either : (v : Bool) (b : ℕ) → 0 < length (versions_of old b) → 0 < length (cond v (versions_of old b) (newest (versions_of old b)))
    either true b some = some
    either false b some = subst (λ (vs : Versions). 0 < length vs) (sym (newest_one (versions_of old b) some)) (omega arith)

-- WHAT A CALL OF THE DEVICE ANSWERS
pub write_steps : {E : Type 0} (result : Result Unit E) (m : Mind) (unsure : List Bool) (at : ℕ) (bytes : Block) (is_complete : Bool) (old new : Holds) → DiskWrites at bytes result old new → at < length old → MayWrite m old at bytes is_complete → Stepped m (wrote at (not (is_err result)) is_complete m) unsure (set unsure at (is_err result)) old new
write_steps (Ok x) m unsure at bytes is_complete old new w here may = let s = landed true w here may in record { adds = write_adds s; keeps = λ kept. write_keeps s kept; fits = λ f. fits_landed true is_complete w here f }
write_steps (Err e) m unsure at bytes is_complete old new w here may = ⊎_elim
    (λ same. let s = lost may in subst (λ h. Stepped m (wrote at false is_complete m) unsure (set unsure at true) old h) (sym same) (record { adds = write_adds s; keeps = λ kept. write_keeps s kept; fits = λ f. fits_lost is_complete at here f }))
    (λ appends. let s = landed false (appends-adds appends) here may in record { adds = write_adds s; keeps = λ kept. write_keeps s kept; fits = λ f. fits_landed false is_complete (appends-adds appends) here f })
    w

pub sync_steps : {E : Type 0} (result : Result Unit E) (m : Mind) (unsure : List Bool) (old new : Holds) → DiskSyncs unsure result old new → Fits m unsure old → Stepped m (after_sync result m) unsure unsure old new
sync_steps (Ok x) m unsure old new y fits = let s = settled y fits in record { adds = sync_adds s; keeps = λ kept. sync_keeps s kept; fits = λ f. fits_settled y f }
sync_steps (Err e) m unsure old new y fits = subst (λ h. Stepped m m unsure unsure old h) (sym y) (record { adds = record { each = λ image h. h }; keeps = λ kept. kept; fits = λ f. f })

-- What a call does to what is known, and to what is known of failed writes
pub known_write : {E : Type 0} (result : Result Unit E) (m : Mind) (at : ℕ) (bytes : Block) (is_complete : Bool) (old new : Holds) → DiskWrites at bytes result old new → at < length old → MayWrite m old at bytes is_complete → Writes at (m.read at bytes) (known m old) (known (wrote at (not (is_err result)) is_complete m) new)
known_write (Ok x) m at bytes is_complete old new w here may = landed true w here may
known_write (Err e) m at bytes is_complete old new w here may = ⊎_elim
    (λ same. subst (λ h. Writes at (m.read at bytes) (known m old) (known (wrote at false is_complete m) h)) (sym same) (lost may))
    (λ appends. landed false (appends-adds appends) here may)
    w

pub known_sync : {E : Type 0} (result : Result Unit E) (m : Mind) (unsure : List Bool) (old new : Holds) → DiskSyncs unsure result old new → Fits m unsure old → is_err result ≡ false → Syncs (known m old) (known (after_sync result m) new)
known_sync (Ok x) m unsure old new y fits ok = settled y fits
known_sync (Err e) m unsure old new y fits ok = let h : true ≡ false = ok in absurd (cc)

pub same_sync : {E : Type 0} (result : Result Unit E) (m : Mind) (unsure : List Bool) (old new : Holds) → DiskSyncs unsure result old new → is_err result ≡ true → (after_sync result m ≡ m) × (new ≡ old)
same_sync (Ok x) m unsure old new y err = let h : false ≡ true = err in absurd (cc)
same_sync (Err e) m unsure old new y err = (refl, y)

pub fits_sync : {E : Type 0} (result : Result Unit E) (m : Mind) (unsure : List Bool) (old new : Holds) → DiskSyncs unsure result old new → Fits m unsure old → Fits (after_sync result m) unsure new
fits_sync (Ok x) m unsure old new y fits = fits_settled y fits
fits_sync (Err e) m unsure old new y fits = subst (λ h. Fits m unsure h) (sym y) fits

pub fits_write : {E : Type 0} (result : Result Unit E) (m : Mind) (unsure : List Bool) (at : ℕ) (bytes : Block) (is_complete : Bool) (old new : Holds) → DiskWrites at bytes result old new → at < length old → Fits m unsure old → Fits (wrote at (not (is_err result)) is_complete m) (set unsure at (is_err result)) new
fits_write (Ok x) m unsure at bytes is_complete old new w here f = fits_landed true is_complete w here f
fits_write (Err e) m unsure at bytes is_complete old new w here f = ⊎_elim
    (λ same. subst (λ h. Fits (wrote at false is_complete m) (set unsure at true) h) (sym same) (fits_lost is_complete at here f))
    (λ appends. fits_landed false is_complete (appends-adds appends) here f)
    w

-- As many blocks are told of after a write.
pub held_write : {E : Type 0} (result : Result Unit E) (at : ℕ) (bytes : Block) (old new : Holds) → DiskWrites at bytes result old new → length new ≡ length old
held_write (Ok x) at bytes old new w = ap length w.is ∙ length-set old at _
held_write (Err e) at bytes old new w = ⊎_elim (λ same. ap length same) (λ appends. ap length appends.is ∙ length-set old at _) w

-- What is to be named was settled whole: the block may be written.
pub may_write : {m : Mind} {holds : Holds} {at : ℕ} {bytes : Block} {targets : List ℕ} → MayWriteOver m holds at bytes targets → ((t : ℕ) → Contains targets t → m.newborn t ≡ false) → MayWrite m holds at bytes true
may_write {m} {holds} {at} {bytes} {targets} may grown = record {
  bytes_are = may.bytes_are;
  block_bytes = may.block_bytes;
  complete_is = λ e. may.complete_is;
  apart = may.apart;
  slots = λ born i. inl (ap (λ (c : Content). c.slot i) may.complete_is, λ t e. named i t (ap (λ (c : Content). target (c.slot i)) (sym may.complete_is) ∙ e));
  names = λ born whole i t e. named i t e;
  over = may.over;
}
  where
    named : (i t : ℕ) → target ((m.memory at).slot i) ≡ Local t → (t ≢ 1) × MayName (known m holds) t
    named i t e = let among = may.leads i t e in ((may.labels t among).0, record { settled = grown t among; labels = (may.labels t among).1 })

-- A disk that tells what it holds tells of each of its blocks.
pub told_block : (size : ℕ) (holds : Holds) → (holds ≡ []) ⊎ IsContent size holds → 0 < length holds → (at : ℕ) → at < size → at < length holds
told_block size holds (inl none) told at lt = let e : length holds ≡ 0 = ap length none in absurd (omega (arith, e, told))
told_block size holds (inr content) told at lt = omega (arith, content.count, lt)
