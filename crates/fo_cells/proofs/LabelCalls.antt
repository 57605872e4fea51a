-- A write of a block of labels of the device is a step of what is known, whatever is answered.
use Rattle.std.proofs.Common.{◌≡◌, ◌≢◌, ◌⊎◌, inl, inr, ⊎_elim, ℕ, ◌<◌, Bool, true, false, cond, not, ◌&&◌, [], ◌∷◌, map, length, drop, refl, sym, ◌∙◌, ap, subst, arith}
use Rattle.std.proofs.lemmas.Bool.{cases_eq}
use Rattle.std.proofs.lemmas.List.{length_push}
use Rattle.std.specs.Prelude.{Result, Ok, Err, is_err}
use Rattle.std.specs.List.{Contains}
use Rattle.fo_disk.specs.Disk.{Block, Versions, versions_of, latest_of}
use Rattle.fo_disk.specs.Disk.{Content as Holds, Writes as DiskWrites}
use Rattle.fo_disk.proofs.Images.{adds-other, adds-here, appends-adds, contains-drop}
use Rattle.fo_crash.specs.Images.{Content}
use Rattle.fo_cells.specs.Known.{Clear}
use Rattle.fo_cells.specs.Writes.{WritesLabels}
use Rattle.fo_cells.specs.Device.{Clearing, Mind, since_of, known, noted, wrote, MayWriteLabels}
use Rattle.fo_cells.proofs.Standing.{first_among}
use Rattle.fo_cells.proofs.Calls.{some_known, among_map, map_among, among_push, nat_eq_other, never}

-- the versions after it: those of before, and at this block perhaps these bytes
record LabelVersions (at : ℕ) (bytes : Block) (old new : Holds) : Type 0 where
  pub others : (b : ℕ) → b ≢ at → versions_of new b ≡ versions_of old b
  pub here : (x : Block) → Contains (versions_of new at) x → Contains (versions_of old at) x ⊎ (x ≡ bytes)
  pub some : 0 < length (versions_of old at)
  pub left : 0 < length (versions_of new at)

some_first : (vs : Versions) → 0 < length vs → (x : Block) × Contains vs x
some_first [] some = absurd (omega (arith, some))
some_first (v ∷ vs) some = (v, first_among v vs)

labels_step : (ok is_complete : Bool) {m : Mind} {at : ℕ} {bytes : Block} {old new : Holds} → LabelVersions at bytes old new → MayWriteLabels m at bytes → WritesLabels (known m old) (known (wrote at ok is_complete m) new)
labels_step ok is_complete {m} {at} {bytes} {old} {new} v may = record {
  same = record { memory = refl; tops = refl; label = refl; low = refl };
  some = let s = some_known m old new some_new in record { versions = s.versions; labels = s.labels };
  newborn = refl;
  versions = λ b c h. ⊎_elim
      (λ e. subst (λ y. Contains (map (m.read y) (versions_of old y)) c) (sym e) (alike c (subst (λ y. Contains (map (m.read y) (versions_of new y)) c) e h)))
      (λ ne. subst (λ (vs : Versions). Contains (map (m.read b) vs) c) (v.others b ne) h)
      (cases_eq b at);
  late = λ b c born h. ⊎_elim
      (λ e. let x : true ≡ false = sym born ∙ ap (λ y. m.newborn y) e ∙ may.settled in absurd (cc))
      (λ ne. subst (λ (vs : Versions). Contains (cond (m.complete b) (m.read b (latest_of vs) ∷ []) []) c) (v.others b ne) (subst (λ y. Contains (cond (cond y (ok && is_complete) (m.complete b)) (m.read b (latest_of (versions_of new b)) ∷ []) []) c) (nat_eq_other b at ne) h))
      (cases_eq b at);
  waits = refl;
  clears = λ b i leaf h.
      let d = from h.clear h.among in record {
        clear = since_of old d.0;
        among = map_among (since_of old) m.clears d.0 d.1;
        is = (ap (λ (x : Clear). x.at) d.2 ∙ h.is.0, ap (λ (x : Clear). x.slot) d.2 ∙ h.is.1, ap (λ (x : Clear). x.leaf) d.2 ∙ h.is.2);
      };
  since = λ b i leaf x h.
      let d = from h.clear h.among in record {
        clear = since_of old d.0;
        among = map_among (since_of old) m.clears d.0 d.1;
        is = (ap (λ (y : Clear). y.at) d.2 ∙ h.is.0, ap (λ (y : Clear). y.slot) d.2 ∙ h.is.1, ap (λ (y : Clear). y.leaf) d.2 ∙ h.is.2);
        has = subst (λ (vs : Versions). Contains (cond (d.0).wrote (latest_of vs ∷ []) []) x) (v.others (d.0).leaf (may.unwaited d.0 d.1)) (subst (λ (y : Clear). Contains y.since x) (sym d.2) h.has);
      };
  labels = λ b l h.
      let (x, among, is) = among_map (m.label_in b) (versions_of new (m.label_block b)) l h in
      ⊎_elim
      (λ e. ⊎_elim
      (λ was. inl (subst (λ z. Contains (map (m.label_in b) (versions_of old (m.label_block b))) z) is (map_among (m.label_in b) (versions_of old (m.label_block b)) x (subst (λ y. Contains (versions_of old y) x) (sym e) was))))
      (λ same. inr (sym is ∙ ap (λ y. m.label_in b y) same ∙ may.spells b e))
      (v.here x (subst (λ y. Contains (versions_of new y) x) e among)))
      (λ ne. inl (subst (λ (vs : Versions). Contains (map (m.label_in b) vs) l) (v.others (m.label_block b) ne) h))
      (cases_eq (m.label_block b) at);
}
  where
    some_new : (b : ℕ) → 0 < length (versions_of old b) → 0 < length (versions_of new b)
    some_new b some = ⊎_elim
        (λ e. subst (λ y. 0 < length (versions_of new y)) (sym e) v.left)
        (λ ne. subst (λ (vs : Versions). 0 < length vs) (sym (v.others b ne)) some)
        (cases_eq b at)

    first : (x : Block) × Contains (versions_of old at) x
    first = some_first (versions_of old at) v.some

    alike : (c : Content) → Contains (map (m.read at) (versions_of new at)) c → Contains (map (m.read at) (versions_of old at)) c
    alike c h =
        let (x, among, is) = among_map (m.read at) (versions_of new at) c h in
        subst (λ z. Contains (map (m.read at) (versions_of old at)) z) (may.alike first.0 x ∙ is) (map_among (m.read at) (versions_of old at) first.0 first.1)

    noted_is : (d : Clearing) → d.leaf ≢ at → noted at ok d ≡ d
    noted_is d ne = ap (λ k. cond (ok && k) (record d { wrote = true }) d) (nat_eq_other d.leaf at ne) ∙ ap (λ k. cond k (record d { wrote = true }) d) (never ok)

    from : (y : Clear) → Contains (map (since_of new) (map (noted at ok) m.clears)) y → (d : Clearing) × Contains m.clears d × (since_of new d ≡ y)
    from y among =
        let (c, in_c, is) = among_map (since_of new) (map (noted at ok) m.clears) y among in
        let (d, in_d, same) = among_map (noted at ok) m.clears c in_c in
        (d, in_d, ap (λ (z : Clearing). since_of new z) (sym (noted_is d (may.unwaited d in_d)) ∙ same) ∙ is)

label_landed : {at : ℕ} {bytes : Block} {old new : Holds} → Rattle.fo_disk.specs.Disk.Adds at bytes old new → at < length old → 0 < length (versions_of old at) → LabelVersions at bytes old new
label_landed {at} {bytes} {old} {new} w here some = record {
  others = λ b ne. adds-other w b ne;
  here = λ y among. ⊎_elim
      (λ was. inl (contains-drop w.gone (versions_of old at) y was))
      (λ same. inr same)
      (among_push (drop w.gone (versions_of old at)) bytes y (subst (λ (vs : Versions). Contains vs y) (adds-here w here) among));
  some = some;
  left = subst (λ (vs : Versions). 0 < length vs) (sym (adds-here w here)) (omega (arith, length_push (drop w.gone (versions_of old at)) bytes));
}

pub labels_known : {E : Type 0} (result : Result Unit E) (m : Mind) (at : ℕ) (bytes : Block) (is_complete : Bool) (old new : Holds) → DiskWrites at bytes result old new → at < length old → 0 < length (versions_of old at) → MayWriteLabels m at bytes → WritesLabels (known m old) (known (wrote at (not (is_err result)) is_complete m) new)
labels_known (Ok x) m at bytes is_complete old new w here some may = labels_step true is_complete (label_landed w here some) may
labels_known (Err e) m at bytes is_complete old new w here some may = ⊎_elim
    (λ same. subst (λ h. WritesLabels (known m old) (known (wrote at false is_complete m) h)) (sym same) (labels_step false is_complete (record { others = λ b ne. refl; here = λ y among. inl among; some = some; left = some }) may))
    (λ appends. labels_step false is_complete (label_landed (appends-adds appends) here some) may)
    w
