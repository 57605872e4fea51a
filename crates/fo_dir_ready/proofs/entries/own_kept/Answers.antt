use Rattle.std.proofs.Common.{◌≡◌, ◌≢◌, ⊎_elim, ℕ, Some, None, sym, ◌∙◌, subst}
use Rattle.std.proofs.lemmas.Bool.{cases_eq}
use Rattle.fo_image.specs.declared.types.Kind.TheVariants.{Dir, Root}
use Rattle.fo_crash.specs.declared.place.Place.{Place}
use Rattle.fo_crash.specs.Places.{super_place}
use Rattle.fo_ports.specs.Sources.{Made}
use Rattle.fo_dir_ready.specs.Entries.{SameEntries, HasEntries}
use Rattle.fo_dir_ready.proofs.Rowed.{untouched}
use Rattle.fo_dir_ready.proofs.Paired.{entries_stay, entries_renewed, entries_owned, not_plain}
use Rattle.fo_dir_ready.proofs.entries.own_kept.Goals as goal

root_not_dir : Root ≡ Dir 0 → ⊥
root_not_dir e = cc

pub own_leaf-requires-clause-linked : goal.own_leaf-requires-clause-linked
own_leaf-requires-clause-linked g c = λ told is more b has. c.requires.linked told more b has

pub returns-clause-held : goal.returns-clause-held
returns-clause-held g c =
    let o = c.own_leaf.ensures.owned in
    let s = c.own_leaf.new.self in
    let b = c.own_leaf.new.on in
    record {
      is_pinned = o.ready.1;
      leaf_kind = o.label.1 ∙ c.requires.form.entries;
      uncovered = λ h. (g.met.S.Bytes.live s b c.own_leaf.result c.own_leaf.ensures.over.0 (g.met.B.Blocks.covers_told b c.own_leaf.result h) o.ready.0).2 h;
    }

pub returns-clause-same : goal.returns-clause-same
returns-clause-same g c = λ told.
    let a = c.args.on.now in
    let s = c.args.entries.now in
    let old = g.B.Blocks.state a in
    let new = g.B.Blocks.state c.own_leaf.new.on in
    let x = g.S.Bytes.leaves s a in
    let y = g.S.Bytes.leaves c.own_leaf.new.self c.own_leaf.new.on in
    let i = c.args.i in
    let over = c.requires.over in
    let of = c.requires.form in
    let changes = c.own_leaf.ensures.changes.0 in
    let held : (j : ℕ) → x.held j ≡ None = λ j. g.met.S.Bytes.none_held s a j over told (not_plain of) in
    let place : (j b : ℕ) (there : x.at j ≡ Some b) (p : Place) → old.stands b p → p.kind ≡ Dir 0 = λ j b there p stands. (g.met.S.Bytes.leaf_place s a j b p over told there stands).0 ∙ of.entries in
    let apart : (j b : ℕ) → x.at j ≡ Some b → b ≢ 1 = λ j b there e. root_not_dir (place j b there super_place (subst (λ k. old.stands k super_place) (sym e) (g.met.B.Blocks.super_stands a told))) in
    let kind : (j b : ℕ) → x.at j ≡ Some b → (old.label b).kind ≡ (g.S.Bytes.form s).kind = λ j b there.
    let p = g.met.S.Bytes.leaf_stands s a j b over told there in
    (g.met.B.Blocks.labelled a b p.0 told (apart j b there) p.1).1 ∙ (g.met.S.Bytes.leaf_place s a j b p.0 over told there p.1).0 in
    let later : (b k : ℕ) → new.clearing b k → old.clearing b k = λ b k w. (changes.clearing b k w).1 in
    let fresh : (b k : ℕ) → Made old new b → new.clearing b k → ⊥ = λ b k made w. (changes.clearing b k w).0 made in
    let same : (j b : ℕ) → x.at j ≡ Some b → HasEntries old new b b = λ j b there.
    let content = changes.memory b (λ touched. untouched (g.S.Bytes.form s) (g.S.Bytes.size s) i (g.S.Bytes.form s).tag b old new x touched (g.met.S.Bytes.live s a b over told (g.met.S.Bytes.leaf_owned s a j b over there)).0 (kind j b there) (not_plain of)) in
    record { slots = content.slots; order = λ k w. later b k w } in
    let owned = c.own_leaf.ensures.owned in
    λ j. ⊎_elim
    (λ e. subst (λ k. SameEntries old new x y k) (sym e) (entries_owned of (held i) fresh later owned))
    (λ ne. ⊎_elim (λ stays. entries_stay stays.at (same j)) (λ r. entries_renewed (held j) fresh r.1) (owned.others told j ne))
    (cases_eq j i)
