use Rattle.std.proofs.Common.{rules, ◌≡◌, ◌-◌, ◌/◌, ◌%◌, ◌≤◌, ℕ, suc, List, IfErr, inl, refl, sym, ◌∙◌, subst, arith}
use Rattle.fo_image.specs.Format.{kind_code}
use Rattle.fo_tree_read.specs.Tree.{below, block_at, kind_down, Got, Failed, Refused, Names}
use Rattle.fo_tree_read.proofs.of_looks.Looks.{looks_joins}
use Rattle.fo_tree_read.proofs.Looks.{any_refused_later, any_failed_later, any_failed_refused}
use Rattle.fo_tree_read.proofs.Walk.{hangs_looks, names_looks}
use Rattle.fo_tree_look.specs.declared.ways.Kept.{Kept}
use Rattle.fo_tree_look.specs.Source.{IsKept, Ready, WayGot, Looked, seen}
use Rattle.fo_tree_look.proofs.Held.{seen_block}
use Rattle.fo_tree_look.proofs.Shown.{over_looks, over_extends, extends_none, extends_joins}
use Rattle.fo_tree_look.proofs.Down.{looked_top, above_got, StepsDown, step_got, step_there, step_looked}
use Rattle.fo_tree_look.proofs.pins.+look_down.Goals as goal

pub look_into-requires-clause-block : goal.look_into-requires-clause-block
look_into-requires-clause-block g t c =
    c.requires.over.1.hangs.is_one

pub look_into-requires-clause-there : goal.look_into-requires-clause-there
look_into-requires-clause-there g t c =
    λ told. (c.args.k, refl)

pub returns-in_err-look_into-clause-pins : goal.returns-in_err-look_into-clause-pins
returns-in_err-look_into-clause-pins g t c =
    subst (λ d. WayGot (g.B.Blocks.state c.args.on.now) c.args.tree.now d c.args.k → (g.B.Blocks.state c.args.on.now).pins_left ≤ (g.B.Blocks.state c.look_into.new.on).pins_left) (sym c.if-down-eq0.true) (λ got. c.look_into.ensures.pins got.1)

pub returns-then-down-eq0-clause-looked : goal.returns-then-down-eq0-clause-looked
returns-then-down-eq0-clause-looked g t c =
    let all = g.met.B.Blocks.keeps_all c.args.on.now c.look_into.new.on c.look_into.ensures.keeps in
    subst (λ d. Looked (g.B.Blocks.state c.args.on.now) (g.B.Blocks.state c.look_into.new.on) c.args.tree.now c.look_into.new.kept.items d c.args.k c.args.tree.now.top) (sym c.if-down-eq0.true)
    (looked_top (g.B.Blocks.state c.args.on.now) (g.B.Blocks.state c.look_into.new.on) c.args.tree.now c.look_into.new.kept.items c.args.k (λ at e. (all.same_blocks at).1 (c.requires.over.1.hangs.is_one at e)) c.in_ok-look_into.ensures.ready)

pub returns-then-down-eq0-clause-pins : goal.returns-then-down-eq0-clause-pins
returns-then-down-eq0-clause-pins g t c =
    subst (λ d. WayGot (g.B.Blocks.state c.args.on.now) c.args.tree.now d c.args.k → (g.B.Blocks.state c.args.on.now).pins_left ≤ (g.B.Blocks.state c.look_into.new.on).pins_left) (sym c.if-down-eq0.true) (λ got. c.look_into.ensures.pins got.1)

pub returns-in_err-above-clause-pins : goal.returns-in_err-above-clause-pins
returns-in_err-above-clause-pins g t c =
    let old = g.B.Blocks.state c.args.on.now in
    let m1 = g.B.Blocks.state c.look_down.new.on in
    let t = c.args.tree.now in
    let n = c.args.down - 1 in
    let k = c.args.k in
    let kept = c.look_down.new.kept.items in
    let is : c.args.down ≡ suc (c.args.down - 1) = omega arith in
    let all = g.met.B.Blocks.keeps_all c.args.on.now c.look_down.new.on c.look_down.ensures.keeps in
    let looks = c.look_down.ensures.looks in
    λ (got : WayGot old t c.args.down k).
    let up : WayGot old t (suc n) k = subst (λ d. WayGot old t d k) is got in
    c.look_down.ensures.pins (up.0.0, up.0.1)

pub look_below-requires-clause-hangs : goal.look_below-requires-clause-hangs
look_below-requires-clause-hangs g t c =
    let old = g.B.Blocks.state c.args.on.now in
    let m1 = g.B.Blocks.state c.look_down.new.on in
    let t = c.args.tree.now in
    let n = c.args.down - 1 in
    let k = c.args.k in
    let kept = c.look_down.new.kept.items in
    let is : c.args.down ≡ suc (c.args.down - 1) = omega arith in
    let all = g.met.B.Blocks.keeps_all c.args.on.now c.look_down.new.on c.look_down.ensures.keeps in
    let looks = c.look_down.ensures.looks in
    hangs_looks all looks c.requires.over.1.hangs

pub look_below-requires-clause-block : goal.look_below-requires-clause-block
look_below-requires-clause-block g t c =
    c.in_ok-above.ensures.looked.is_one

pub look_below-requires-clause-there : goal.look_below-requires-clause-there
look_below-requires-clause-there g t c =
    let old = g.B.Blocks.state c.args.on.now in
    let m1 = g.B.Blocks.state c.look_down.new.on in
    let t = c.args.tree.now in
    let n = c.args.down - 1 in
    let k = c.args.k in
    let kept = c.look_down.new.kept.items in
    let is : c.args.down ≡ suc (c.args.down - 1) = omega arith in
    let all = g.met.B.Blocks.keeps_all c.args.on.now c.look_down.new.on c.look_down.ensures.keeps in
    let looks = c.look_down.ensures.looks in
    λ told. (k / 409, c.in_ok-above.ensures.looked.found (inl (all.still_tells.0 told)) ∙ seen_block m1 kept c.look_down.ensures.more.held told t n (k / 409))

pub look_below-requires-clause-kept : goal.look_below-requires-clause-kept
look_below-requires-clause-kept g t c =
    let old = g.B.Blocks.state c.args.on.now in
    let m1 = g.B.Blocks.state c.look_down.new.on in
    let t = c.args.tree.now in
    let n = c.args.down - 1 in
    let k = c.args.k in
    let kept = c.look_down.new.kept.items in
    let is : c.args.down ≡ suc (c.args.down - 1) = omega arith in
    let all = g.met.B.Blocks.keeps_all c.args.on.now c.look_down.new.on c.look_down.ensures.keeps in
    let looks = c.look_down.ensures.looks in
    λ score e. subst (λ (ks : List Kept). IsKept ks score (kind_code (kind_down t n))) (sym c.deref.ensures.value) (c.in_ok-above.ensures.looked.is_kept score e)

pub returns-in_err-pointer-clause-pins : goal.returns-in_err-pointer-clause-pins
returns-in_err-pointer-clause-pins g t c =
    let old = g.B.Blocks.state c.args.on.now in
    let m1 = g.B.Blocks.state c.look_down.new.on in
    let t = c.args.tree.now in
    let n = c.args.down - 1 in
    let k = c.args.k in
    let kept = c.look_down.new.kept.items in
    let is : c.args.down ≡ suc (c.args.down - 1) = omega arith in
    let all = g.met.B.Blocks.keeps_all c.args.on.now c.look_down.new.on c.look_down.ensures.keeps in
    let looks = c.look_down.ensures.looks in
    λ (got : WayGot old t c.args.down k).
    let up : WayGot old t (suc n) k = subst (λ d. WayGot old t d k) is got in
    let first = c.look_down.ensures.pins (up.0.0, up.0.1) in
    let then = c.look_below.ensures.pins (above_got old m1 t kept n k c.in_ok-above.above all looks c.in_ok-above.ensures.looked up) in
    omega (arith, first, then)

pub returns-in_err-pointer-clause-more : goal.returns-in_err-pointer-clause-more
returns-in_err-pointer-clause-more g t c =
    let old = g.B.Blocks.state c.args.on.now in
    let m1 = g.B.Blocks.state c.look_down.new.on in
    let t = c.args.tree.now in
    let n = c.args.down - 1 in
    let k = c.args.k in
    let kept = c.look_down.new.kept.items in
    let is : c.args.down ≡ suc (c.args.down - 1) = omega arith in
    let all = g.met.B.Blocks.keeps_all c.args.on.now c.look_down.new.on c.look_down.ensures.keeps in
    let looks = c.look_down.ensures.looks in
    let m2 = g.B.Blocks.state c.look_below.new.on in
    let more = g.met.B.Blocks.keeps_all c.look_down.new.on c.look_below.new.on c.look_below.ensures.keeps in
    let both = g.met.B.Blocks.keeps_all c.args.on.now c.look_below.new.on (g.met.B.Blocks.keeps_joins c.args.on.now c.look_down.new.on c.look_below.new.on c.look_down.ensures.keeps c.look_below.ensures.keeps) in
    let both_looks = looks_joins all looks c.look_below.ensures.looks in
    extends_joins c.look_down.ensures.more (extends_none more kept c.look_down.ensures.more.held)

pub returns-in_err-pointer-clause-looks : goal.returns-in_err-pointer-clause-looks
returns-in_err-pointer-clause-looks g t c =
    let old = g.B.Blocks.state c.args.on.now in
    let m1 = g.B.Blocks.state c.look_down.new.on in
    let t = c.args.tree.now in
    let n = c.args.down - 1 in
    let k = c.args.k in
    let kept = c.look_down.new.kept.items in
    let is : c.args.down ≡ suc (c.args.down - 1) = omega arith in
    let all = g.met.B.Blocks.keeps_all c.args.on.now c.look_down.new.on c.look_down.ensures.keeps in
    let looks = c.look_down.ensures.looks in
    let m2 = g.B.Blocks.state c.look_below.new.on in
    let more = g.met.B.Blocks.keeps_all c.look_down.new.on c.look_below.new.on c.look_below.ensures.keeps in
    let both = g.met.B.Blocks.keeps_all c.args.on.now c.look_below.new.on (g.met.B.Blocks.keeps_joins c.args.on.now c.look_down.new.on c.look_below.new.on c.look_down.ensures.keeps c.look_below.ensures.keeps) in
    let both_looks = looks_joins all looks c.look_below.ensures.looks in
    both_looks

pub returns-in_err-pointer-clause-keeps : goal.returns-in_err-pointer-clause-keeps
returns-in_err-pointer-clause-keeps g t c =
    g.met.B.Blocks.keeps_joins c.args.on.now c.look_down.new.on c.look_below.new.on c.look_down.ensures.keeps c.look_below.ensures.keeps

pub returns-in_err-pointer-clause-cause : goal.returns-in_err-pointer-clause-cause
returns-in_err-pointer-clause-cause g t c =
    let old = g.B.Blocks.state c.args.on.now in
    let m1 = g.B.Blocks.state c.look_down.new.on in
    let t = c.args.tree.now in
    let n = c.args.down - 1 in
    let k = c.args.k in
    let kept = c.look_down.new.kept.items in
    let is : c.args.down ≡ suc (c.args.down - 1) = omega arith in
    let all = g.met.B.Blocks.keeps_all c.args.on.now c.look_down.new.on c.look_down.ensures.keeps in
    let looks = c.look_down.ensures.looks in
    let m2 = g.B.Blocks.state c.look_below.new.on in
    let more = g.met.B.Blocks.keeps_all c.look_down.new.on c.look_below.new.on c.look_below.ensures.keeps in
    let both = g.met.B.Blocks.keeps_all c.args.on.now c.look_below.new.on (g.met.B.Blocks.keeps_joins c.args.on.now c.look_down.new.on c.look_below.new.on c.look_down.ensures.keeps c.look_below.ensures.keeps) in
    let both_looks = looks_joins all looks c.look_below.ensures.looks in
    let here : IfErr c.from_residual-in_err-pointer.result (Failed m1 m2) = search rules in
    any_failed_refused old m2 (Names old t) c.from_residual-in_err-pointer.result (any_failed_later old m1 m2 all c.from_residual-in_err-pointer.result here)

pub look_into-requires-2-clause-over : goal.look_into-requires-2-clause-over
look_into-requires-2-clause-over g t c =
    let old = g.B.Blocks.state c.args.on.now in
    let m1 = g.B.Blocks.state c.look_down.new.on in
    let t = c.args.tree.now in
    let n = c.args.down - 1 in
    let k = c.args.k in
    let kept = c.look_down.new.kept.items in
    let is : c.args.down ≡ suc (c.args.down - 1) = omega arith in
    let all = g.met.B.Blocks.keeps_all c.args.on.now c.look_down.new.on c.look_down.ensures.keeps in
    let looks = c.look_down.ensures.looks in
    let m2 = g.B.Blocks.state c.look_below.new.on in
    let more = g.met.B.Blocks.keeps_all c.look_down.new.on c.look_below.new.on c.look_below.ensures.keeps in
    let both = g.met.B.Blocks.keeps_all c.args.on.now c.look_below.new.on (g.met.B.Blocks.keeps_joins c.args.on.now c.look_down.new.on c.look_below.new.on c.look_down.ensures.keeps c.look_below.ensures.keeps) in
    let both_looks = looks_joins all looks c.look_below.ensures.looks in
    (c.requires.over.0, over_looks more c.look_below.ensures.looks (over_extends (over_looks all looks c.requires.over.1) c.look_down.ensures.more))

pub look_into-requires-2-clause-block : goal.look_into-requires-2-clause-block
look_into-requires-2-clause-block g t c =
    c.in_ok-pointer.ensures.block

pub look_into-requires-2-clause-there : goal.look_into-requires-2-clause-there
look_into-requires-2-clause-there g t c =
    let old = g.B.Blocks.state c.args.on.now in
    let m1 = g.B.Blocks.state c.look_down.new.on in
    let t = c.args.tree.now in
    let n = c.args.down - 1 in
    let k = c.args.k in
    let kept = c.look_down.new.kept.items in
    let is : c.args.down ≡ suc (c.args.down - 1) = omega arith in
    let all = g.met.B.Blocks.keeps_all c.args.on.now c.look_down.new.on c.look_down.ensures.keeps in
    let looks = c.look_down.ensures.looks in
    let m2 = g.B.Blocks.state c.look_below.new.on in
    let more = g.met.B.Blocks.keeps_all c.look_down.new.on c.look_below.new.on c.look_below.ensures.keeps in
    let both = g.met.B.Blocks.keeps_all c.args.on.now c.look_below.new.on (g.met.B.Blocks.keeps_joins c.args.on.now c.look_down.new.on c.look_below.new.on c.look_down.ensures.keeps c.look_below.ensures.keeps) in
    let both_looks = looks_joins all looks c.look_below.ensures.looks in
    let x : StepsDown old m1 m2 t kept n k c.in_ok-above.above c.in_ok-pointer.pointer = record {
      all = all;
      looks = looks;
      more = more;
      more_looks = c.look_below.ensures.looks;
      both = both;
      both_looks = both_looks;
      held = c.look_down.ensures.more.held;
      looked = c.in_ok-above.ensures.looked;
      step = subst (λ (ks : List Kept). c.in_ok-pointer.pointer ≡ below (seen m2 ks) (kind_down t n) c.in_ok-above.above (k % 409)) c.deref.ensures.value c.in_ok-pointer.ensures.found;
      is_one = c.in_ok-pointer.ensures.block;
    } in
    λ told. subst (λ d. (j : ℕ) × (c.in_ok-pointer.pointer ≡ block_at m2 t d j)) (sym is) (step_there x told)

pub returns-in_err-look_into-2-clause-pins : goal.returns-in_err-look_into-2-clause-pins
returns-in_err-look_into-2-clause-pins g t c =
    let old = g.B.Blocks.state c.args.on.now in
    let m1 = g.B.Blocks.state c.look_down.new.on in
    let t = c.args.tree.now in
    let n = c.args.down - 1 in
    let k = c.args.k in
    let kept = c.look_down.new.kept.items in
    let is : c.args.down ≡ suc (c.args.down - 1) = omega arith in
    let all = g.met.B.Blocks.keeps_all c.args.on.now c.look_down.new.on c.look_down.ensures.keeps in
    let looks = c.look_down.ensures.looks in
    let m2 = g.B.Blocks.state c.look_below.new.on in
    let more = g.met.B.Blocks.keeps_all c.look_down.new.on c.look_below.new.on c.look_below.ensures.keeps in
    let both = g.met.B.Blocks.keeps_all c.args.on.now c.look_below.new.on (g.met.B.Blocks.keeps_joins c.args.on.now c.look_down.new.on c.look_below.new.on c.look_down.ensures.keeps c.look_below.ensures.keeps) in
    let both_looks = looks_joins all looks c.look_below.ensures.looks in
    let x : StepsDown old m1 m2 t kept n k c.in_ok-above.above c.in_ok-pointer.pointer = record {
      all = all;
      looks = looks;
      more = more;
      more_looks = c.look_below.ensures.looks;
      both = both;
      both_looks = both_looks;
      held = c.look_down.ensures.more.held;
      looked = c.in_ok-above.ensures.looked;
      step = subst (λ (ks : List Kept). c.in_ok-pointer.pointer ≡ below (seen m2 ks) (kind_down t n) c.in_ok-above.above (k % 409)) c.deref.ensures.value c.in_ok-pointer.ensures.found;
      is_one = c.in_ok-pointer.ensures.block;
    } in
    λ (got : WayGot old t c.args.down k).
    let up : WayGot old t (suc n) k = subst (λ d. WayGot old t d k) is got in
    let first = c.look_down.ensures.pins (up.0.0, up.0.1) in
    let then = c.look_below.ensures.pins (above_got old m1 t kept n k c.in_ok-above.above all looks c.in_ok-above.ensures.looked up) in
    let last = c.look_into-2.ensures.pins (subst (λ d. Got m2 (kind_down t d) c.in_ok-pointer.pointer) (sym is) (step_got x up)) in
    omega (arith, first, then, last)

pub returns-in_err-look_into-2-clause-more : goal.returns-in_err-look_into-2-clause-more
returns-in_err-look_into-2-clause-more g t c =
    let old = g.B.Blocks.state c.args.on.now in
    let m1 = g.B.Blocks.state c.look_down.new.on in
    let t = c.args.tree.now in
    let n = c.args.down - 1 in
    let k = c.args.k in
    let kept = c.look_down.new.kept.items in
    let is : c.args.down ≡ suc (c.args.down - 1) = omega arith in
    let all = g.met.B.Blocks.keeps_all c.args.on.now c.look_down.new.on c.look_down.ensures.keeps in
    let looks = c.look_down.ensures.looks in
    let m2 = g.B.Blocks.state c.look_below.new.on in
    let more = g.met.B.Blocks.keeps_all c.look_down.new.on c.look_below.new.on c.look_below.ensures.keeps in
    let both = g.met.B.Blocks.keeps_all c.args.on.now c.look_below.new.on (g.met.B.Blocks.keeps_joins c.args.on.now c.look_down.new.on c.look_below.new.on c.look_down.ensures.keeps c.look_below.ensures.keeps) in
    let both_looks = looks_joins all looks c.look_below.ensures.looks in
    extends_joins (extends_joins c.look_down.ensures.more (extends_none more kept c.look_down.ensures.more.held)) c.look_into-2.ensures.more

pub returns-in_err-look_into-2-clause-looks : goal.returns-in_err-look_into-2-clause-looks
returns-in_err-look_into-2-clause-looks g t c =
    let old = g.B.Blocks.state c.args.on.now in
    let m1 = g.B.Blocks.state c.look_down.new.on in
    let t = c.args.tree.now in
    let n = c.args.down - 1 in
    let k = c.args.k in
    let kept = c.look_down.new.kept.items in
    let is : c.args.down ≡ suc (c.args.down - 1) = omega arith in
    let all = g.met.B.Blocks.keeps_all c.args.on.now c.look_down.new.on c.look_down.ensures.keeps in
    let looks = c.look_down.ensures.looks in
    let m2 = g.B.Blocks.state c.look_below.new.on in
    let more = g.met.B.Blocks.keeps_all c.look_down.new.on c.look_below.new.on c.look_below.ensures.keeps in
    let both = g.met.B.Blocks.keeps_all c.args.on.now c.look_below.new.on (g.met.B.Blocks.keeps_joins c.args.on.now c.look_down.new.on c.look_below.new.on c.look_down.ensures.keeps c.look_below.ensures.keeps) in
    let both_looks = looks_joins all looks c.look_below.ensures.looks in
    looks_joins both both_looks c.look_into-2.ensures.looks

pub returns-in_err-look_into-2-clause-keeps : goal.returns-in_err-look_into-2-clause-keeps
returns-in_err-look_into-2-clause-keeps g t c =
    g.met.B.Blocks.keeps_joins c.args.on.now c.look_below.new.on c.look_into-2.new.on (g.met.B.Blocks.keeps_joins c.args.on.now c.look_down.new.on c.look_below.new.on c.look_down.ensures.keeps c.look_below.ensures.keeps) c.look_into-2.ensures.keeps

pub returns-clause-pins : goal.returns-clause-pins
returns-clause-pins g t c =
    let old = g.B.Blocks.state c.args.on.now in
    let m1 = g.B.Blocks.state c.look_down.new.on in
    let t = c.args.tree.now in
    let n = c.args.down - 1 in
    let k = c.args.k in
    let kept = c.look_down.new.kept.items in
    let is : c.args.down ≡ suc (c.args.down - 1) = omega arith in
    let all = g.met.B.Blocks.keeps_all c.args.on.now c.look_down.new.on c.look_down.ensures.keeps in
    let looks = c.look_down.ensures.looks in
    let m2 = g.B.Blocks.state c.look_below.new.on in
    let more = g.met.B.Blocks.keeps_all c.look_down.new.on c.look_below.new.on c.look_below.ensures.keeps in
    let both = g.met.B.Blocks.keeps_all c.args.on.now c.look_below.new.on (g.met.B.Blocks.keeps_joins c.args.on.now c.look_down.new.on c.look_below.new.on c.look_down.ensures.keeps c.look_below.ensures.keeps) in
    let both_looks = looks_joins all looks c.look_below.ensures.looks in
    let x : StepsDown old m1 m2 t kept n k c.in_ok-above.above c.in_ok-pointer.pointer = record {
      all = all;
      looks = looks;
      more = more;
      more_looks = c.look_below.ensures.looks;
      both = both;
      both_looks = both_looks;
      held = c.look_down.ensures.more.held;
      looked = c.in_ok-above.ensures.looked;
      step = subst (λ (ks : List Kept). c.in_ok-pointer.pointer ≡ below (seen m2 ks) (kind_down t n) c.in_ok-above.above (k % 409)) c.deref.ensures.value c.in_ok-pointer.ensures.found;
      is_one = c.in_ok-pointer.ensures.block;
    } in
    λ (got : WayGot old t c.args.down k).
    let up : WayGot old t (suc n) k = subst (λ d. WayGot old t d k) is got in
    let first = c.look_down.ensures.pins (up.0.0, up.0.1) in
    let then = c.look_below.ensures.pins (above_got old m1 t kept n k c.in_ok-above.above all looks c.in_ok-above.ensures.looked up) in
    let last = c.look_into-2.ensures.pins (subst (λ d. Got m2 (kind_down t d) c.in_ok-pointer.pointer) (sym is) (step_got x up)) in
    omega (arith, first, then, last)

pub returns-clause-more : goal.returns-clause-more
returns-clause-more g t c =
    let old = g.B.Blocks.state c.args.on.now in
    let m1 = g.B.Blocks.state c.look_down.new.on in
    let t = c.args.tree.now in
    let n = c.args.down - 1 in
    let k = c.args.k in
    let kept = c.look_down.new.kept.items in
    let is : c.args.down ≡ suc (c.args.down - 1) = omega arith in
    let all = g.met.B.Blocks.keeps_all c.args.on.now c.look_down.new.on c.look_down.ensures.keeps in
    let looks = c.look_down.ensures.looks in
    let m2 = g.B.Blocks.state c.look_below.new.on in
    let more = g.met.B.Blocks.keeps_all c.look_down.new.on c.look_below.new.on c.look_below.ensures.keeps in
    let both = g.met.B.Blocks.keeps_all c.args.on.now c.look_below.new.on (g.met.B.Blocks.keeps_joins c.args.on.now c.look_down.new.on c.look_below.new.on c.look_down.ensures.keeps c.look_below.ensures.keeps) in
    let both_looks = looks_joins all looks c.look_below.ensures.looks in
    extends_joins (extends_joins c.look_down.ensures.more (extends_none more kept c.look_down.ensures.more.held)) c.look_into-2.ensures.more

pub returns-clause-looks : goal.returns-clause-looks
returns-clause-looks g t c =
    let old = g.B.Blocks.state c.args.on.now in
    let m1 = g.B.Blocks.state c.look_down.new.on in
    let t = c.args.tree.now in
    let n = c.args.down - 1 in
    let k = c.args.k in
    let kept = c.look_down.new.kept.items in
    let is : c.args.down ≡ suc (c.args.down - 1) = omega arith in
    let all = g.met.B.Blocks.keeps_all c.args.on.now c.look_down.new.on c.look_down.ensures.keeps in
    let looks = c.look_down.ensures.looks in
    let m2 = g.B.Blocks.state c.look_below.new.on in
    let more = g.met.B.Blocks.keeps_all c.look_down.new.on c.look_below.new.on c.look_below.ensures.keeps in
    let both = g.met.B.Blocks.keeps_all c.args.on.now c.look_below.new.on (g.met.B.Blocks.keeps_joins c.args.on.now c.look_down.new.on c.look_below.new.on c.look_down.ensures.keeps c.look_below.ensures.keeps) in
    let both_looks = looks_joins all looks c.look_below.ensures.looks in
    looks_joins both both_looks c.look_into-2.ensures.looks

pub returns-clause-keeps : goal.returns-clause-keeps
returns-clause-keeps g t c =
    g.met.B.Blocks.keeps_joins c.args.on.now c.look_below.new.on c.look_into-2.new.on (g.met.B.Blocks.keeps_joins c.args.on.now c.look_down.new.on c.look_below.new.on c.look_down.ensures.keeps c.look_below.ensures.keeps) c.look_into-2.ensures.keeps

pub returns-in_err-look_into-2-clause-cause : goal.returns-in_err-look_into-2-clause-cause
returns-in_err-look_into-2-clause-cause g t c =
    let old = g.B.Blocks.state c.args.on.now in
    let m1 = g.B.Blocks.state c.look_down.new.on in
    let t = c.args.tree.now in
    let n = c.args.down - 1 in
    let k = c.args.k in
    let kept = c.look_down.new.kept.items in
    let is : c.args.down ≡ suc (c.args.down - 1) = omega arith in
    let all = g.met.B.Blocks.keeps_all c.args.on.now c.look_down.new.on c.look_down.ensures.keeps in
    let looks = c.look_down.ensures.looks in
    let m2 = g.B.Blocks.state c.look_below.new.on in
    let more = g.met.B.Blocks.keeps_all c.look_down.new.on c.look_below.new.on c.look_below.ensures.keeps in
    let both = g.met.B.Blocks.keeps_all c.args.on.now c.look_below.new.on (g.met.B.Blocks.keeps_joins c.args.on.now c.look_down.new.on c.look_below.new.on c.look_down.ensures.keeps c.look_below.ensures.keeps) in
    let both_looks = looks_joins all looks c.look_below.ensures.looks in
    let new = g.B.Blocks.state c.look_into-2.new.on in
    let here : IfErr c.from_residual-in_err-look_into-2.result (Refused m2 new (Names m2 t)) = search rules in
    any_refused_later old m2 new (Names m2 t) (Names old t) both (names_looks both both_looks) c.from_residual-in_err-look_into-2.result here

pub returns-clause-looked : goal.returns-clause-looked
returns-clause-looked g t c =
    let old = g.B.Blocks.state c.args.on.now in
    let m1 = g.B.Blocks.state c.look_down.new.on in
    let t = c.args.tree.now in
    let n = c.args.down - 1 in
    let k = c.args.k in
    let kept = c.look_down.new.kept.items in
    let is : c.args.down ≡ suc (c.args.down - 1) = omega arith in
    let all = g.met.B.Blocks.keeps_all c.args.on.now c.look_down.new.on c.look_down.ensures.keeps in
    let looks = c.look_down.ensures.looks in
    let m2 = g.B.Blocks.state c.look_below.new.on in
    let more = g.met.B.Blocks.keeps_all c.look_down.new.on c.look_below.new.on c.look_below.ensures.keeps in
    let both = g.met.B.Blocks.keeps_all c.args.on.now c.look_below.new.on (g.met.B.Blocks.keeps_joins c.args.on.now c.look_down.new.on c.look_below.new.on c.look_down.ensures.keeps c.look_below.ensures.keeps) in
    let both_looks = looks_joins all looks c.look_below.ensures.looks in
    let x : StepsDown old m1 m2 t kept n k c.in_ok-above.above c.in_ok-pointer.pointer = record {
      all = all;
      looks = looks;
      more = more;
      more_looks = c.look_below.ensures.looks;
      both = both;
      both_looks = both_looks;
      held = c.look_down.ensures.more.held;
      looked = c.in_ok-above.ensures.looked;
      step = subst (λ (ks : List Kept). c.in_ok-pointer.pointer ≡ below (seen m2 ks) (kind_down t n) c.in_ok-above.above (k % 409)) c.deref.ensures.value c.in_ok-pointer.ensures.found;
      is_one = c.in_ok-pointer.ensures.block;
    } in
    let new = g.B.Blocks.state c.look_into-2.new.on in
    let last = c.look_into-2.new.kept.items in
    let then = g.met.B.Blocks.keeps_all c.look_below.new.on c.look_into-2.new.on c.look_into-2.ensures.keeps in
    subst (λ d. Looked old new t last d k c.in_ok-pointer.pointer) (sym is)
    (step_looked x then c.look_into-2.ensures.looks c.look_into-2.ensures.more (subst (λ d. Got m2 (kind_down t d) c.in_ok-pointer.pointer → Ready new t last d c.in_ok-pointer.pointer) is c.in_ok-look_into-2.ensures.ready))
