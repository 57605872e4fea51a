-- A write of another super block of the device is a trial of it, whatever is answered.
use Rattle.std.proofs.Common.{◌≡◌, ◌≢◌, ◌⊎◌, inl, inr, ⊎_elim, ℕ, ◌<◌, Bool, true, false, cond, not, ◌&&◌, List, [], ◌∷◌, map, length, drop, refl, sym, ◌∙◌, ap, subst, arith}
use Rattle.std.proofs.Math.Path.{fun_ext}
use Rattle.std.proofs.lemmas.Bool.{cases_eq}
use Rattle.std.proofs.lemmas.List.{length_push}
use Rattle.std.specs.Prelude.{Result, Ok, Err, is_err}
use Rattle.std.specs.List.{Contains}
use Rattle.fo_disk.specs.Disk.{Block, Versions, versions_of, latest_of, Adds}
use Rattle.fo_disk.specs.Disk.{Content as Holds, Writes as DiskWrites}
use Rattle.fo_disk.proofs.Images.{adds-other, adds-here, appends-adds, contains-drop}
use Rattle.fo_crash.specs.Images.{Content}
use Rattle.fo_cells.specs.Known.{Clear}
use Rattle.fo_cells.specs.Calls.{TriesSuper}
use Rattle.fo_cells.specs.Device.{Clearing, Mind, since_of, known, noted, wrote}
use Rattle.fo_cells.proofs.Standing.{first_among, next_among}
use Rattle.fo_cells.proofs.Calls.{some_known, among_map, map_among, among_push, nat_eq_here, nat_eq_other, never}
use Rattle.fo_cells_all.specs.All.{MayTry}

-- the versions after it
record SuperVersions (bytes : Block) (old new : Holds) : Type 0 where
  pub others : (b : ℕ) → b ≢ 1 → versions_of new b ≡ versions_of old b
  pub here : (x : Block) → Contains (versions_of new 1) x → Contains (versions_of old 1) x ⊎ (x ≡ bytes)
  pub left : 0 < length (versions_of old 1) → 0 < length (versions_of new 1)

both_map : (f g : Clearing → Clear) (n : Clearing → Clearing) (cs : List Clearing) → ((c : Clearing) → Contains cs c → f (n c) ≡ g c) → map f (map n cs) ≡ map g cs
both_map f g n [] same = refl
both_map f g n (c ∷ cs) same = ap (λ y. y ∷ map f (map n cs)) (same c (first_among c cs)) ∙ ap (λ ys. g c ∷ ys) (both_map f g n cs (λ d is. same d (next_among c d cs is)))

tries_step : (ok : Bool) {m : Mind} {d : Content} {bytes : Block} {old new : Holds} → SuperVersions bytes old new → MayTry m old d bytes → TriesSuper d (known m old) (known (wrote 1 ok false m) new)
tries_step ok {m} {d} {bytes} {old} {new} v may = record {
  same = record {
    some = let s = some_known m old new some_new in record { versions = s.versions; labels = s.labels };
    memory = λ b ne. refl;
    versions = λ b c ne h. subst (λ (vs : Versions). Contains (map (m.read b) vs) c) (v.others b ne) h;
    newborn = refl;
    late = fun_ext (λ b. ⊎_elim (λ e. subst (λ y. late_new y ≡ late_old y) (sym e) late_one) (λ ne. late_other b ne) (cases_eq b 1));
    labels = fun_ext (λ b. ap (λ (vs : Versions). map (m.label_in b) vs) (v.others (m.label_block b) (may.labels b)));
    tops = refl;
    label = refl;
    low = refl;
    waits = refl;
    clears = both_map (since_of new) (since_of old) (noted 1 ok) m.clears (λ c is. ap (λ y. since_of new y) (noted_is c (may.clear c is).1) ∙ ap (λ (vs : Versions). since_with c vs) (v.others c.leaf (may.clear c is).1));
    settled = may.settled;
    wait = may.wait;
    clear = λ b j leaf h.
        let (c, among, is) = among_map (since_of old) m.clears h.clear h.among in
        let k = may.clear c among in (
          λ e. k.0 (ap (λ (y : Clear). y.at) is ∙ h.is.0 ∙ e),
          λ e. k.1 (ap (λ (y : Clear). y.leaf) is ∙ h.is.2 ∙ e),
        );
  };
  here = refl;
  versions = λ c h.
      let (x, among, is) = among_map (m.read 1) (versions_of new 1) c h in
      ⊎_elim
      (λ was. inl (subst (λ z. Contains (map (m.read 1) (versions_of old 1)) z) is (map_among (m.read 1) (versions_of old 1) x was)))
      (λ same. inr (sym is ∙ ap (λ y. m.read 1 y) same ∙ may.reads))
      (v.here x among);
  quiet = may.quiet;
  fits = may.fits;
}
  where
    some_new : (b : ℕ) → 0 < length (versions_of old b) → 0 < length (versions_of new b)
    some_new b some = ⊎_elim
        (λ e. subst (λ y. 0 < length (versions_of new y)) (sym e) (v.left (subst (λ y. 0 < length (versions_of old y)) e some)))
        (λ ne. subst (λ (vs : Versions). 0 < length vs) (sym (v.others b ne)) some)
        (cases_eq b 1)

    late_new : ℕ → List Content
    late_new b = (known (wrote 1 ok false m) new).late b

    late_old : ℕ → List Content
    late_old b = (known m old).late b

    late_one : late_new 1 ≡ late_old 1
    late_one =
        ap (λ k. cond (cond k (ok && false) (m.complete 1)) (m.read 1 (latest_of (versions_of new 1)) ∷ []) []) (nat_eq_here 1 1 refl)
        ∙ ap (λ k. cond k (m.read 1 (latest_of (versions_of new 1)) ∷ []) []) (never ok)
        ∙ sym (ap (λ k. cond k (m.read 1 (latest_of (versions_of old 1)) ∷ []) []) may.complete)

    late_other : (b : ℕ) → b ≢ 1 → late_new b ≡ late_old b
    late_other b ne =
        ap (λ k. cond (cond k (ok && false) (m.complete b)) (m.read b (latest_of (versions_of new b)) ∷ []) []) (nat_eq_other b 1 ne)
        ∙ ap (λ (vs : Versions). cond (m.complete b) (m.read b (latest_of vs) ∷ []) []) (v.others b ne)

    noted_is : (c : Clearing) → c.leaf ≢ 1 → noted 1 ok c ≡ c
    noted_is c ne = ap (λ k. cond (ok && k) (record c { wrote = true }) c) (nat_eq_other c.leaf 1 ne) ∙ ap (λ k. cond k (record c { wrote = true }) c) (never ok)

    since_with : Clearing → Versions → Clear
    since_with c vs = record { at = c.at; slot = c.slot; leaf = c.leaf; since = cond c.wrote (latest_of vs ∷ []) [] }

super_landed : {bytes : Block} {old new : Holds} → Adds 1 bytes old new → 1 < length old → SuperVersions bytes old new
super_landed {bytes} {old} {new} w here = record {
  others = λ b ne. adds-other w b ne;
  here = λ y among. ⊎_elim
      (λ was. inl (contains-drop w.gone (versions_of old 1) y was))
      (λ same. inr same)
      (among_push (drop w.gone (versions_of old 1)) bytes y (subst (λ (vs : Versions). Contains vs y) (adds-here w here) among));
  left = λ some. subst (λ (vs : Versions). 0 < length vs) (sym (adds-here w here)) (omega (arith, length_push (drop w.gone (versions_of old 1)) bytes));
}

pub tries_known : {E : Type 0} (result : Result Unit E) (m : Mind) (d : Content) (bytes : Block) (old new : Holds) → DiskWrites 1 bytes result old new → 1 < length old → MayTry m old d bytes → TriesSuper d (known m old) (known (wrote 1 (not (is_err result)) false m) new)
tries_known (Ok x) m d bytes old new w here may = tries_step true (super_landed w here) may
tries_known (Err e) m d bytes old new w here may = ⊎_elim
    (λ same. subst (λ h. TriesSuper d (known m old) (known (wrote 1 false false m) h)) (sym same) (tries_step false (record { others = λ b ne. refl; here = λ y among. inl among; left = λ some. some }) may))
    (λ appends. tries_step false (super_landed (appends-adds appends) here) may)
    w
