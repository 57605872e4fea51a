use Rattle.std.proofs.Common.{◌≡◌, ◌⊎◌, inl, inr, ◌+◌, ◌*◌, ◌/◌, ◌%◌, ℕ, ⊎_elim, sym, ◌∙◌, ap, arith}
use Rattle.std.proofs.lemmas.Bool.{cases_eq, cases_lt}
use Rattle.fo_crash.specs.Images.{SameImage}
use Rattle.fo_crash.specs.Steps.{HasBytes, PutsSlot, cleared}
use Rattle.fo_dir_pairs.specs.Pairs.{PairsStand}
use Rattle.fo_dir_pairs.proofs.Clears.{clear_stand}
use Rattle.fo_dir_pairs.proofs.Finding.{HasWays}
use Rattle.fo_dir_pairs.proofs.Settled.{lazily}
use Rattle.fo_dir_pairs.proofs.laws.entry_cleared.Given as given
use Rattle.fo_dir_pairs.proofs.laws.entry_cleared.Goals as goal

halves : (j : ℕ) → (j ≡ 2 * (j / 2)) ⊎ (j ≡ 2 * (j / 2) + 1)
halves j = ⊎_elim (λ lt. inr (omega (arith, lt))) (λ le. inl (omega (arith, le))) (cases_lt 0 (j % 2))

ways : (g : given.Over) (b : _) → (g.B.Blocks.state b).tells → HasWays (g.B.Blocks.state b)
ways g b told = record {
  top = (g.met.B.Blocks.active b).0;
  one_spot = g.met.B.Blocks.one_spot b;
  present = g.met.B.Blocks.present b told;
  super_at = g.met.B.Blocks.super_stands b told;
  placed = λ image is. g.met.B.Blocks.placed b image is;
  few = λ image is. g.met.B.Blocks.few b image is;
}

-- memory has the entry cleared, or is as it was
now : (g : given.Over) (c : goal.Start g) → (PutsSlot c.args.entries c.args.j (cleared (((g.B.Blocks.state c.args.before.now).now c.args.entries).slot c.args.j)) (g.B.Blocks.state c.args.before.now).now (g.B.Blocks.state c.args.after.now).now
    × HasBytes (g.B.Blocks.state c.args.before.now).now c.args.leaf (g.B.Blocks.state c.args.after.now).may_leave) ⊎ SameImage (g.B.Blocks.state c.args.after.now).now (g.B.Blocks.state c.args.before.now).now
now g c =
    let r = c.requires in
    let s = g.B.Blocks.state c.args.before.now in
    let t = g.B.Blocks.state c.args.after.now in
    ⊎_elim
    (λ h. inl (record { bytes = r.alone.bytes; here = h.0; others = r.alone.slots }, r.settled h.1))
    (λ h. inr (record {
      each = λ b. record {
        bytes = r.alone.bytes b;
        slots = λ i. ⊎_elim
            (λ is_at. ⊎_elim
            (λ is_j. ap (λ k. (t.now k).slot i) is_at ∙ ap (λ k. (t.now c.args.entries).slot k) is_j ∙ h.0 ∙ ap (λ k. (s.now c.args.entries).slot k) (sym is_j) ∙ ap (λ k. (s.now k).slot i) (sym is_at))
            (λ ne. r.alone.slots b i (inr ne))
            (cases_eq i c.args.j))
            (λ ne. r.alone.slots b i (inl ne))
            (cases_eq b c.args.entries);
      };
    }))
    r.entry

pub returns : goal.returns
returns g c =
    let before = c.args.before.now in
    let after = c.args.after.now in
    let r = c.requires in
    let s = g.B.Blocks.state before in
    let t = g.B.Blocks.state after in
    let by : s.tells → t.tells → PairsStand t = λ told told_too. clear_stand s t c.args.entries c.args.j (c.args.j / 2) c.args.leaf (halves c.args.j) r.within
    (λ p stands. sym (g.met.B.Blocks.labelled before c.args.entries p told (r.other told) stands).1 ∙ r.owned.leaf_kind) (ways g before told) (ways g after told_too) (r.owned.linked told)
    (λ image is. let place = r.place told in g.met.B.Blocks.in_place before c.args.leaf place.0 place.2 place.1 image is) r.unlisted r.stand r.images (now g c) in
    lazily t (λ image is. ⊎_elim
    (λ was. by (g.met.B.Blocks.told before image was) (g.met.B.Blocks.told after image is))
    (λ h. by (g.met.B.Blocks.told before _ h.1) (g.met.B.Blocks.told after image is))
    (r.images.each image is))
