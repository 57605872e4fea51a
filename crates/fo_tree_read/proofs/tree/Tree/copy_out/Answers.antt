use Rattle.std.proofs.Common.{rules, take, drop, IfErr, ◌⊎◌, ◌≡◌, ◌<◌, ◌≤◌, ◌+◌, ◌-◌, ◌/◌, ◌%◌, length, sym, ◌∙◌, subst, inl, inr, ⊎_elim, arith}
use Rattle.std.proofs.lemmas.Bool.{cases_lt}
use Rattle.std.proofs.lemmas.List.{length-take-le, length-drop}
use borrow.Rule.Slice.PartMut.{put_mid}
use Rattle.fo_looks.specs.of_ports.Sources.{Finds}
use Rattle.fo_tree_read.specs.Tree.{byte, Refused, Names}
use Rattle.fo_tree_read.specs.Reading.{LeafWay, IsLeafFound, HasPassed, IsLocal, most, Prepared}
use Rattle.fo_looks.proofs.Looks.{looks_joins}
use Rattle.fo_tree_read.proofs.Looks.{any_refused_later}
use Rattle.fo_tree_read.proofs.Walk.{hangs_looks, names_looks}
use Rattle.fo_tree_read.proofs.Parts.{copied_more, length_put_mid}
use Rattle.fo_tree_read.proofs.Passed.{leaf_way_looks, byte_looks, address_looks, pins_here, passed_more, found_next, found_prepared, pins_last}
use Rattle.fo_tree_read.proofs.tree.Tree.copy_out.Goals as goal

pub loop-done-init : goal.loop-done-init
loop-done-init g c = record {
  within = omega arith;
  looks = search rules;
  keeps = g.met.B.Blocks.keeps_at_once c.args.on.now;
  given = λ of_data found i lt known. absurd (omega (arith, lt));
  known = λ found k from to. absurd (omega (arith, from, to));
  been = record { is = inl (omega arith, omega arith) };
}

pub copy_part-requires-clause-hangs : goal.copy_part-requires-clause-hangs
copy_part-requires-clause-hangs g c =
    let i = c.loop-done.invariant in
    hangs_looks (g.met.B.Blocks.keeps_all c.args.on.now c.loop-done.on i.keeps) i.looks c.requires.hangs

pub returns-in_err-copy_part-clause-looks : goal.returns-in_err-copy_part-clause-looks
returns-in_err-copy_part-clause-looks g c =
    let i = c.loop-done.invariant in
    looks_joins (g.met.B.Blocks.keeps_all c.args.on.now c.loop-done.on i.keeps) i.looks c.copy_part.ensures.looks

pub returns-in_err-copy_part-clause-pins : goal.returns-in_err-copy_part-clause-pins
returns-in_err-copy_part-clause-pins g c =
    let i = c.loop-done.invariant in
    let n = c.min-count.result in
    let count = c.min-count.ensures in
    let lt : c.loop-done.done < length c.loop-done.into = omega arith in
    let long : length c.loop-done.into ≡ length c.args.into.now = c.loop-done.auto.into in
    pins_here (g.B.Blocks.state c.loop-done.on) (g.B.Blocks.state c.copy_part.new.on) c.args.self.now (g.B.Blocks.state c.args.on.now).pins_left c.args.offset c.loop-done.done n (length c.args.into.now) c.requires.hangs.few (omega (arith, count, lt)) (omega (arith, count)) (omega (arith, count, lt, long)) c.copy_part.ensures.pins c.copy_part.ensures.near i.been

pub returns-in_err-copy_part-clause-cause : goal.returns-in_err-copy_part-clause-cause
returns-in_err-copy_part-clause-cause g c =
    let old = g.B.Blocks.state c.args.on.now in
    let mid = g.B.Blocks.state c.loop-done.on in
    let new = g.B.Blocks.state c.copy_part.new.on in
    let t = c.args.self.now in
    let i = c.loop-done.invariant in
    let all = g.met.B.Blocks.keeps_all c.args.on.now c.loop-done.on i.keeps in
    let here : IfErr c.from_residual.result (Refused mid new (Names mid t)) = search rules in
    any_refused_later old mid new (Names mid t) (Names old t) all (names_looks all i.looks) c.from_residual.result here

pub loop-done-preserved : goal.loop-done-preserved
loop-done-preserved g c =
    let done = c.loop-done.done in
    let n = c.min-count.result in
    let i = c.loop-done.invariant in
    let on = c.args.on.now in
    let old = g.B.Blocks.state c.args.on.now in
    let mid = g.B.Blocks.state c.loop-done.on in
    let new = g.B.Blocks.state c.copy_part.new.on in
    let t = c.args.self.now in
    let into = c.loop-done.into in
    let sub = c.copy_part.new.into in
    let e = c.in_ok-copy_part.ensures in
    let k = g.met.B.Blocks.keeps_all on c.loop-done.on i.keeps in
    let more = g.met.B.Blocks.keeps_all c.loop-done.on c.copy_part.new.on c.copy_part.ensures.keeps in
    let more_looks = c.copy_part.ensures.looks in
    let count = c.min-count.ensures in
    let lt : done < length into = omega arith in
    let some : 0 < n = omega (arith, count, lt) in
    let part : n ≤ 8192 - (c.args.offset + done) % 8192 = omega (arith, count) in
    let fits : done + n ≤ length into = omega (arith, count, lt) in
    let long : length into ≡ length c.args.into.now = c.loop-done.auto.into in
    let inside : done + n ≤ length c.args.into.now = omega (arith, fits, long) in
    let back : done + n - done ≡ n = omega arith in
    let part_len : length (take (done + n - done) (drop done into)) ≡ n = length-take-le (done + n - done) (drop done into) (omega (arith, length-drop done into, fits)) ∙ back in
    let sub_len : length sub ≡ n = c.copy_part.auto.into ∙ part_len in
    let same_len : length (put_mid done (done + n - done) into sub) ≡ length into = length_put_mid done (done + n - done) into sub (omega (arith, fits)) (omega (arith, sub_len)) in
    let leaf_found : Finds old.tells (most t.depth (length c.args.into.now)) old.pins_left (Prepared old t c.args.offset (length c.args.into.now)) → IsLeafFound mid t ((c.args.offset + done) / 8192) = λ found.
    ⊎_elim
    (λ told. inl (k.still_tells.1 told))
    (λ pins. ⊎_elim
    (λ enough. found_next mid new t old.pins_left c.args.offset done n (length c.args.into.now) c.requires.hangs.few some part inside c.copy_part.ensures.pins c.copy_part.ensures.near i.been enough (i.known found))
    (λ prepared. found_prepared mid t ((c.args.offset + done) / 8192) (leaf_way_looks k i.looks (prepared.each (c.args.offset + done) (omega arith) (omega (arith, lt, long)) (omega (arith, lt, long, c.requires.within)))))
    pins)
    found in
    record {
      within = omega (arith, same_len, fits);
      looks = looks_joins k i.looks more_looks;
      keeps = g.met.B.Blocks.keeps_joins on c.loop-done.on c.copy_part.new.on i.keeps c.copy_part.ensures.keeps;
      given = λ of_data found. copied_more (byte mid t) (byte new t) into sub c.args.offset done n (done + n - done) back fits sub_len
          (λ j. old.tells ⊎ IsLocal new t ((c.args.offset + j) / 8192))
          (λ j below is. i.given of_data found j below (⊎_elim (λ told. inl told) (λ local. inr (local.0, sym (address_looks mid new t ((c.args.offset + j) / 8192) more more_looks (i.known found (c.args.offset + j) (omega arith) (omega (arith, below)))) ∙ local.1)) is))
          (λ j below. byte_looks mid new t (c.args.offset + j) more more_looks (i.known found (c.args.offset + j) (omega arith) (omega (arith, below))))
          (λ j below is.
          let same : (c.args.offset + (done + j)) / 8192 ≡ (c.args.offset + done) / 8192 = omega (arith, below, part) in
          e.given of_data (leaf_found found) (⊎_elim (λ told. inl (k.still_tells.1 told)) (λ local. inr (subst (λ y. IsLocal new t y) same local)) is) j (omega (arith, part_len, below)));
      known = λ found x from to. ⊎_elim
          (λ below. ⊎_elim (λ told. inl (more.still_tells.1 told)) (λ leaf. inr (leaf_way_looks more more_looks leaf)) (i.known found x from below))
          (λ above.
          let same : (c.args.offset + done) / 8192 ≡ x / 8192 = omega (arith, above, to, part) in
          ⊎_elim
          (λ told. inl (more.still_tells.1 told))
          (λ pins. inr (subst (λ y. LeafWay new t y) same (e.way pins)))
          (leaf_found found))
          (cases_lt x (c.args.offset + done));
      been = passed_more mid new t old.pins_left c.args.offset done n (length c.args.into.now) c.requires.hangs.few some part inside c.copy_part.ensures.pins c.copy_part.ensures.near i.been e.way;
    }

pub returns-clause-given : goal.returns-clause-given
returns-clause-given g c = λ of_data found i lt known. c.loop-done.invariant.given of_data found i (omega (arith, lt, c.loop-done.auto.into)) known

pub returns-clause-pins : goal.returns-clause-pins
returns-clause-pins g c =
    let i = c.loop-done.invariant in
    let within = i.within in
    let long : length c.loop-done.into ≡ length c.args.into.now = c.loop-done.auto.into in
    let all : c.loop-done.done ≡ length c.args.into.now = omega (arith, within, long) in
    pins_last (g.B.Blocks.state c.loop-done.on) c.args.self.now (g.B.Blocks.state c.args.on.now).pins_left c.args.offset (length c.args.into.now) c.requires.hangs.few (subst (λ d. HasPassed (g.B.Blocks.state c.loop-done.on) c.args.self.now (g.B.Blocks.state c.args.on.now).pins_left c.args.offset d) all i.been)
