-- Records of a directory keep apart where bytes of a leaf are put.
use Rattle.std.proofs.Common.{◌≡◌, ◌≢◌, ⊎_elim, ℕ, List, [], ◌∷◌, ◌++◌, Contains, sym, ◌∙◌, ap, subst, arith}
use Rattle.std.proofs.lemmas.Bool.{cases_eq}
use Rattle.std.proofs.lemmas.List.Elements.{Contains-push, Contains-push_cases, Contains-append_left, Contains-append_right}
use Rattle.fo_image.specs.declared.record.Record.{Record}
use Rattle.fo_crash.specs.Images.{Content, Image, with_bytes}
use Rattle.fo_crash.specs.Steps.{AddsBytes}
use Rattle.fo_crash.proofs.Updates.{bytes_other}
use Rattle.fo_dir_put.specs.Names.{Clash, AllApart, ShowsBytes}
use Rattle.fo_dir_put.specs.Differ.{Distinct, AreDistinct, AllDiffer, MayName}
use Rattle.fo_dir_put.proofs.Aparts.{bytes_apart, bytes_rest, rest_but, others_apart, apart_back, shows_apart, may_later}

-- bytes of a leaf of these were put
pub differ_put : {leaves : List ℕ} {leaf : ℕ} {bytes : List ℕ} {now : Image} {P old new : Image → Type 0} → AddsBytes now leaf bytes P old new → MayName leaves leaf bytes ((now leaf).bytes) old → AllDiffer leaves old → AllDiffer leaves new
differ_put {leaves = leaves} {leaf = leaf} {bytes = bytes} {now = now} {old = old} {new = new} adds may all = record { within = within; between = between }
  where
    within : (a : ℕ) → Contains leaves a → (image : Image) → new image → AreDistinct ((image a).bytes)
    within a in_a image is = ⊎_elim
        (λ before. all.within a in_a image before)
        (λ h. ⊎_elim
        (λ e. subst AreDistinct (sym (ap (λ k. (image k).bytes) e ∙ h.0)) (may.distinct (with_bytes image leaf ((now leaf).bytes)) h.1 (subst (λ k. Contains leaves k) e in_a)))
        (λ ne. subst AreDistinct (ap (λ (c : Content). c.bytes) (bytes_other image leaf ((now leaf).bytes) a ne)) (all.within a in_a (with_bytes image leaf ((now leaf).bytes)) h.1))
        (cases_eq a leaf))
        (adds.each image is)

    from_leaf : (b : ℕ) → Contains leaves leaf → Contains leaves b → b ≢ leaf → AllApart leaf b new
    from_leaf b in_leaf in_b ne = bytes_apart ne (all.between leaf b in_leaf in_b (λ e. ne (sym e))) adds (may.beside b in_b ne)

    between : (a b : ℕ) → Contains leaves a → Contains leaves b → a ≢ b → AllApart a b new
    between a b in_a in_b differ = ⊎_elim
        (λ e. subst (λ k. AllApart k b new) (sym e) (from_leaf b (subst (λ k. Contains leaves k) e in_a) in_b (λ f. differ (e ∙ sym f))))
        (λ ne. ⊎_elim
        (λ e. subst (λ k. AllApart a k new) (sym e) (apart_back (from_leaf a (subst (λ k. Contains leaves k) e in_b) in_a ne)))
        (λ other. others_apart ne other (all.between a b in_a in_b differ) (rest_but (bytes_rest adds)))
        (cases_eq b leaf))
        (cases_eq a leaf)

-- images show the same bytes
pub differ_shows : {leaves : List ℕ} {old new : Image → Type 0} → ShowsBytes old new → AllDiffer leaves old → AllDiffer leaves new
differ_shows shows all = record {
  within = λ a in_a image is. let h = shows.each image is in subst AreDistinct (sym (h.2 a)) (all.within a in_a h.0 h.1);
  between = λ a b in_a in_b ne. shows_apart (all.between a b in_a in_b ne) shows;
}

-- what may be named still may, over images of the same bytes
pub name_later : {leaves : List ℕ} {leaf : ℕ} {bytes was now : List ℕ} {old new : Image → Type 0} → was ≡ now → ShowsBytes old new → MayName leaves leaf bytes was old → MayName leaves leaf bytes now new
name_later is shows may = record {
  distinct = λ image now_is in_leaf. let h = shows.each image now_is in may.distinct h.0 h.1 in_leaf;
  beside = λ b in_b ne. may_later is shows (may.beside b in_b ne);
}

-- ---- lists of records

-- a record more, behind the others
pub distinct_more : (rs : List Record) (r : Record) → Distinct rs → ((q : Record) → Contains rs q → Clash q r → ⊥) → Distinct (rs ++ r ∷ [])
distinct_more [] r d none = (λ q has clash. nothing q has, tt)
  where
    nothing : (q : Record) → Contains [] q → ⊥
    nothing q has = let lt = has.1 in omega (arith, lt)
distinct_more (x ∷ rs) r d none = (
  λ q has clash. ⊎_elim (λ there. d.0 q there clash) (λ last. none x (Contains-append_left (x ∷ []) rs x (Contains-push [] x)) (subst (λ y. Clash x y) (sym last) clash)) (Contains-push_cases rs r q has),
  distinct_more rs r d.1 (λ q has clash. none q (Contains-append_right (x ∷ []) rs q has) clash),
)
