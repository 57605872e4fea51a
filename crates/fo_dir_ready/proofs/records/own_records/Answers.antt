use Rattle.std.proofs.Common.{◌≡◌, ◌≢◌, inl, inr, ⊎_elim, ℕ, true, Some, None, [], sym, ◌∙◌, ap, subst}
use Rattle.std.proofs.lemmas.Bool.{cases_eq}
use Rattle.fo_image.specs.declared.types.Kind.TheVariants.{Data}
use Rattle.fo_crash.specs.declared.place.Place.{Place}
use Rattle.fo_crash.specs.Images.{SameContent}
use Rattle.fo_crash.specs.Places.{super_place}
use Rattle.fo_ports.specs.Sources.{is_dir}
use Rattle.fo_dir_read.specs.Names.{HasRecords}
use Rattle.fo_dir_ready.proofs.Rowed.{SameBytes, has_on, untouched, root_not_data, none_there, ends_before, rows_owned, stays_same, renewed_same, owned_same, not_plain, counted}
use Rattle.fo_dir_ready.proofs.records.own_records.Goals as goal

data_not_dir : is_dir (Data 0) ≡ true → ⊥
data_not_dir e = cc

pub own_leaf-requires-clause-linked : goal.own_leaf-requires-clause-linked
own_leaf-requires-clause-linked g c = λ told is. absurd (data_not_dir (subst (λ k. is_dir k ≡ true) c.requires.form.leaf_kind is))

pub returns-clause-owned : goal.returns-clause-owned
returns-clause-owned g c =
    let o = c.own_leaf.ensures.owned in
    let s = c.own_leaf.new.self in
    let b = c.own_leaf.new.on in
    let over = c.own_leaf.ensures.over.0 in
    let kind = ap (λ (f : _). f.kind) c.own_leaf.ensures.over.1 ∙ c.requires.form.leaf_kind in
    record {
      is_pinned = o.ready.1;
      current = o.label.3;
      leaf_kind = o.label.1 ∙ c.requires.form.leaf_kind;
      whole = o.ready.2;
      uncovered = λ h. (g.met.S.Bytes.live s b c.own_leaf.result over (g.met.B.Blocks.covers_told b c.own_leaf.result h) o.ready.0).2 h;
      other = λ told e. root_not_data ((g.met.S.Bytes.leaf_place s b c.args.i c.own_leaf.result super_place over told o.is (subst (λ k. (g.B.Blocks.state b).stands k super_place) (sym e) (g.met.B.Blocks.super_stands b told))).0 ∙ kind);
    }

pub returns-clause-rows : goal.returns-clause-rows
returns-clause-rows g c = λ told rs are.
    let a = c.args.on.now in
    let s = c.args.records.now in
    let old = g.B.Blocks.state a in
    let new = g.B.Blocks.state c.own_leaf.new.on in
    let x = g.S.Bytes.leaves s a in
    let y = g.S.Bytes.leaves c.own_leaf.new.self c.own_leaf.new.on in
    let i = c.args.i in
    let over = c.requires.over in
    let of = c.requires.form in
    let size = g.S.Bytes.size s in
    let held : (j : ℕ) → x.held j ≡ None = λ j. g.met.S.Bytes.none_held s a j over told (not_plain of) in
    let place : (j b : ℕ) (there : x.at j ≡ Some b) (p : Place) → old.stands b p → p.kind ≡ Data 0 = λ j b there p stands. (g.met.S.Bytes.leaf_place s a j b p over told there stands).0 ∙ of.leaf_kind in
    let apart : (j b : ℕ) → x.at j ≡ Some b → b ≢ 1 = λ j b there e. root_not_data (place j b there super_place (subst (λ k. old.stands k super_place) (sym e) (g.met.B.Blocks.super_stands a told))) in
    let kind : (j b : ℕ) → x.at j ≡ Some b → (old.label b).kind ≡ (g.S.Bytes.form s).kind = λ j b there.
    let p = g.met.S.Bytes.leaf_stands s a j b over told there in
    (g.met.B.Blocks.labelled a b p.0 told (apart j b there) p.1).1 ∙ (g.met.S.Bytes.leaf_place s a j b p.0 over told there p.1).0 in
    let same : (j b : ℕ) → x.at j ≡ Some b → SameContent (new.now b) (old.now b) = λ j b there. c.own_leaf.ensures.changes.0.memory b (λ touched. untouched (g.S.Bytes.form s) (g.S.Bytes.size s) i (g.S.Bytes.form s).tag b old new x touched (g.met.S.Bytes.live s a b over told (g.met.S.Bytes.leaf_owned s a j b over there)).0 (kind j b there) (not_plain of)) in
    let owned = c.own_leaf.ensures.owned in
    let all : (j : ℕ) → SameBytes old.now new.now x y j = λ j. ⊎_elim
    (λ e. subst (λ k. SameBytes old.now new.now x y k) (sym e) (owned_same of (held i) owned))
    (λ ne. ⊎_elim (λ stays. stays_same stays.at (same j)) (λ r. renewed_same of (held j) r.1) (owned.others told j ne))
    (cases_eq j i) in
    let count = ⊎_elim
    (λ e. inl e)
    (λ h. inr (h.0, subst (λ k. HasRecords new.now y k []) (sym h.1) (has_on (all i) (none_there ((g.met.S.Bytes.none_behind s a i over (ends_before size i h.1)).0)))))
    (counted size (g.S.Bytes.size c.own_leaf.new.self) i c.requires.may.within c.own_leaf.ensures.size) in
    rows_owned all count are
