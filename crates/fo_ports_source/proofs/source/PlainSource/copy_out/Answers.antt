use Rattle.std.proofs.Common.{rules, take, drop, IfErr, ◌≡◌, ◌<◌, ◌≤◌, ◌+◌, ◌-◌, ◌/◌, length, Some, sym, ◌∙◌, subst, inl, inr, ⊎_elim, arith}
use Rattle.std.proofs.lemmas.Bool.{cases_lt}
use Rattle.std.proofs.lemmas.List.{length-take-le, length-drop}
use borrow.Rule.Slice.PartMut.{put_mid}
use Rattle.fo_base.specs.Cause.{Rose}
use Rattle.fo_ports.specs.Causes.{Caused}
use Rattle.fo_ports_source.specs.Source.{leaf_of, byte_of, Spent}
use Rattle.fo_ports_source.proofs.Looks.{looks_joins, over_looks, byte_looks, still_known, prepared_looks}
use Rattle.fo_ports_source.proofs.Puts.{spent_more, spent_left, copied_more, later_cause, length_put_mid}
use Rattle.fo_ports_source.proofs.source.PlainSource.copy_out.Goals as goal

pub copy_part-requires-clause-over : goal.copy_part-requires-clause-over
copy_part-requires-clause-over g c =
    let i = c.loop-done.invariant in
    let k = g.met.B.Blocks.keeps_all c.args.on.now c.loop-done.on i.keeps in
    over_looks i.looks k c.requires.over

pub returns-in_err-copy_part-clause-looks : goal.returns-in_err-copy_part-clause-looks
returns-in_err-copy_part-clause-looks g c =
    let i = c.loop-done.invariant in
    let k = g.met.B.Blocks.keeps_all c.args.on.now c.loop-done.on i.keeps in
    looks_joins k i.looks c.copy_part.ensures.looks

pub returns-in_err-copy_part-clause-cause : goal.returns-in_err-copy_part-clause-cause
returns-in_err-copy_part-clause-cause g c =
    let on = c.args.on.now in
    let mid = c.loop-done.on in
    let k = g.met.B.Blocks.keeps_all on mid c.loop-done.invariant.keeps in
    let here : IfErr c.from_residual.result (Caused ⊥ (λ b. ((g.B.Blocks.state mid).tells → ⊥) × (g.B.Blocks.state mid).is_block b) (Rose (g.B.Blocks.state mid).faults (g.B.Blocks.state c.copy_part.new.on).faults) ⊥) = search rules in
    later_cause c.from_residual.result (λ b. ((g.B.Blocks.state mid).tells → ⊥) × (g.B.Blocks.state mid).is_block b) (λ b. ((g.B.Blocks.state on).tells → ⊥) × (g.B.Blocks.state on).is_block b) (g.B.Blocks.state on).faults (g.B.Blocks.state mid).faults (g.B.Blocks.state c.copy_part.new.on).faults (λ b d. (λ told. d.0 (k.still_tells.1 told), (k.same_blocks b).0 d.1)) k.more_faults here

pub loop-done-preserved : goal.loop-done-preserved
loop-done-preserved g c =
    let done = c.loop-done.done in
    let n = c.min-count.result in
    let i = c.loop-done.invariant in
    let on = c.args.on.now in
    let mid = c.loop-done.on in
    let new = c.copy_part.new.on in
    let into = c.loop-done.into in
    let sub = c.copy_part.new.into in
    let leaves = c.args.self.now.leaves.items in
    let e = c.in_ok-copy_part.ensures in
    let k = g.met.B.Blocks.keeps_all on mid i.keeps in
    let more = g.met.B.Blocks.keeps_all mid new c.copy_part.ensures.keeps in
    let count = c.min-count.ensures in
    let lt : done < length into = omega arith in
    let fits : done + n ≤ length into = omega (arith, count, lt) in
    let back : done + n - done ≡ n = omega arith in
    let part_len : length (take (done + n - done) (drop done into)) ≡ n = length-take-le (done + n - done) (drop done into) (omega (arith, length-drop done into, fits)) ∙ back in
    let sub_len : length sub ≡ n = c.copy_part.auto.into ∙ part_len in
    let same_len : length (put_mid done (done + n - done) into sub) ≡ length into = length_put_mid done (done + n - done) into sub (omega (arith, fits)) (omega (arith, sub_len)) in
    record {
      within = omega (arith, same_len, fits);
      looks = looks_joins k i.looks c.copy_part.ensures.looks;
      keeps = g.met.B.Blocks.keeps_joins on mid c.copy_part.new.on i.keeps c.copy_part.ensures.keeps;
      given = λ of_data found. copied_more (byte_of (leaf_of leaves) (g.B.Blocks.state mid).now) (byte_of (leaf_of leaves) (g.B.Blocks.state new).now) into sub c.args.offset done n (done + n - done) back fits sub_len (i.given of_data found)
          (λ j below. byte_looks c.copy_part.ensures.looks leaves (c.args.offset + j) (λ at is. i.known found (c.args.offset + j) at (omega arith) (omega (arith, below)) is))
          (λ j below. e.given of_data j (omega (arith, part_len, below)));
      known = λ found x at from to is. ⊎_elim
          (λ below. still_known c.copy_part.ensures.looks more at (i.known found x at from below is))
          (λ above.
          let same : x / 8192 ≡ (c.args.offset + done) / 8192 = omega (arith, above, to, count) in
          let is_here = subst (λ y. leaf_of leaves y ≡ Some at) same is in
          ⊎_elim
          (λ told. inl (more.still_tells.1 (k.still_tells.1 told)))
          (λ pins. inr (e.pinned at is_here (⊎_elim
          (λ enough. inl (spent_left (length c.args.into.now) c.args.offset done (g.B.Blocks.state on).pins_left (g.B.Blocks.state mid).pins_left (omega arith) enough (subst (λ m. Spent m c.args.offset done (g.B.Blocks.state on).pins_left (g.B.Blocks.state mid).pins_left) c.loop-done.auto.into i.spent)))
          (λ prepared. inr ((prepared_looks i.looks k prepared).each (c.args.offset + done) at (omega arith) (omega arith) is_here).is_pinned)
          pins)))
          found)
          (cases_lt x (c.args.offset + done));
      spent = subst (λ m. Spent m c.args.offset (done + n) (g.B.Blocks.state on).pins_left (g.B.Blocks.state new).pins_left) (sym same_len) (spent_more (length into) c.args.offset done n (g.B.Blocks.state on).pins_left (g.B.Blocks.state mid).pins_left (g.B.Blocks.state new).pins_left lt count c.copy_part.ensures.pins i.spent);
    }
