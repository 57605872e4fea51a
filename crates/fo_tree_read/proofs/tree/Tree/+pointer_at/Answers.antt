use Rattle.std.proofs.Common.{rules, ◌≡◌, ◌⊎◌, ◌+◌, ◌-◌, ◌/◌, ◌%◌, ◌<◌, ◌≤◌, suc, IfErr, inl, refl, sym, ap, ◌∙◌, subst, arith}
use Rattle.fo_looks.specs.of_image.declared.types.Pointer.{Pointer}
use Rattle.fo_looks.specs.of_image.declared.types.Pointer.TheVariants.{Nil}
use Rattle.fo_tree_read.specs.Tree.{block_at, Agrees, below, score_in, kind_down, Got, Way, above, Failed, Names}
use Rattle.fo_looks.proofs.Looks.{looks_joins}
use Rattle.fo_tree_read.proofs.Looks.{any_failed_later, any_failed_refused}
use Rattle.fo_tree_read.proofs.Walk.{Walked, Took, took_less, took_more, walked_more, hangs_looks, told_same}
use Rattle.fo_tree_read.proofs.Exits.{looks_none, none_got, nil_none, held_score_none, agrees_same, agrees_local, agrees_none, nil_agrees, held_agrees, any_held_refused}
use Rattle.fo_tree_read.proofs.tree.Tree.+pointer_at.Goals as goal

pub returns-then-down-eq0-clause-found : goal.returns-then-down-eq0-clause-found
returns-then-down-eq0-clause-found g t c = λ is. agrees_same (subst (λ d. c.args.self.now.top ≡ block_at (g.B.Blocks.state c.args.on.now) c.args.self.now d c.args.k) (sym c.if-down-eq0.true) refl)

pub returns-then-down-eq0-clause-block : goal.returns-then-down-eq0-clause-block
returns-then-down-eq0-clause-block g t c = c.requires.hangs.is_one

pub returns-then-down-eq0-clause-way : goal.returns-then-down-eq0-clause-way
returns-then-down-eq0-clause-way g t c = λ pins. subst (λ d. Way (g.B.Blocks.state c.args.on.now) c.args.self.now d c.args.k) (sym c.if-down-eq0.true) tt

pub returns-then-down-eq0-clause-near : goal.returns-then-down-eq0-clause-near
returns-then-down-eq0-clause-near g t c = λ j near. subst (λ d. (g.B.Blocks.state c.args.on.now).pins_left + above d j ≤ (g.B.Blocks.state c.args.on.now).pins_left + above d c.args.k) (sym c.if-down-eq0.true) (omega arith)

pub returns-then-down-eq0-clause-looks : goal.returns-then-down-eq0-clause-looks
returns-then-down-eq0-clause-looks g t c = looks_none (g.B.Blocks.state c.args.on.now)

pub returns-in_err-above-clause-pins : goal.returns-in_err-above-clause-pins
returns-in_err-above-clause-pins g t c =
    let old = g.B.Blocks.state c.args.on.now in
    let mid = g.B.Blocks.state c.pointer_at.new.on in
    let t = c.args.self.now in
    let n = c.args.down - 1 in
    let k = c.args.k in
    let is : c.args.down ≡ suc (c.args.down - 1) = omega arith in
    let all = g.met.B.Blocks.keeps_all c.args.on.now c.pointer_at.new.on c.pointer_at.ensures.keeps in
    let looks = c.pointer_at.ensures.looks in
    let took : Took old mid t n (k / 409) = record { pins = c.pointer_at.ensures.pins; near = c.pointer_at.ensures.near } in
    (subst (λ d. Took old mid t d k) (sym is) (took_less took)).pins

pub returns-in_err-above-clause-near : goal.returns-in_err-above-clause-near
returns-in_err-above-clause-near g t c =
    let old = g.B.Blocks.state c.args.on.now in
    let mid = g.B.Blocks.state c.pointer_at.new.on in
    let t = c.args.self.now in
    let n = c.args.down - 1 in
    let k = c.args.k in
    let is : c.args.down ≡ suc (c.args.down - 1) = omega arith in
    let all = g.met.B.Blocks.keeps_all c.args.on.now c.pointer_at.new.on c.pointer_at.ensures.keeps in
    let looks = c.pointer_at.ensures.looks in
    let took : Took old mid t n (k / 409) = record { pins = c.pointer_at.ensures.pins; near = c.pointer_at.ensures.near } in
    (subst (λ d. Took old mid t d k) (sym is) (took_less took)).near

pub step-requires-clause-hangs : goal.step-requires-clause-hangs
step-requires-clause-hangs g t c =
    let old = g.B.Blocks.state c.args.on.now in
    let mid = g.B.Blocks.state c.pointer_at.new.on in
    let t = c.args.self.now in
    let n = c.args.down - 1 in
    let k = c.args.k in
    let is : c.args.down ≡ suc (c.args.down - 1) = omega arith in
    let all = g.met.B.Blocks.keeps_all c.args.on.now c.pointer_at.new.on c.pointer_at.ensures.keeps in
    let looks = c.pointer_at.ensures.looks in
    let took : Took old mid t n (k / 409) = record { pins = c.pointer_at.ensures.pins; near = c.pointer_at.ensures.near } in
    hangs_looks all looks c.requires.hangs

pub step-requires-clause-block : goal.step-requires-clause-block
step-requires-clause-block g t c =
    c.in_ok-above.ensures.block c.in-Local.at c.in-Local.is

pub step-requires-clause-there : goal.step-requires-clause-there
step-requires-clause-there g t c =
    let old = g.B.Blocks.state c.args.on.now in
    let mid = g.B.Blocks.state c.pointer_at.new.on in
    let t = c.args.self.now in
    let n = c.args.down - 1 in
    let k = c.args.k in
    let is : c.args.down ≡ suc (c.args.down - 1) = omega arith in
    let all = g.met.B.Blocks.keeps_all c.args.on.now c.pointer_at.new.on c.pointer_at.ensures.keeps in
    let looks = c.pointer_at.ensures.looks in
    let took : Took old mid t n (k / 409) = record { pins = c.pointer_at.ensures.pins; near = c.pointer_at.ensures.near } in
    λ told. (k / 409, sym ((c.in_ok-above.ensures.found (inl (all.still_tells.0 told))).0 (all.still_tells.0 told)) ∙ c.in-Local.is)

pub returns-in_err-pointer-in-Local-clause-pins : goal.returns-in_err-pointer-in-Local-clause-pins
returns-in_err-pointer-in-Local-clause-pins g t c =
    let old = g.B.Blocks.state c.args.on.now in
    let mid = g.B.Blocks.state c.pointer_at.new.on in
    let t = c.args.self.now in
    let n = c.args.down - 1 in
    let k = c.args.k in
    let is : c.args.down ≡ suc (c.args.down - 1) = omega arith in
    let all = g.met.B.Blocks.keeps_all c.args.on.now c.pointer_at.new.on c.pointer_at.ensures.keeps in
    let looks = c.pointer_at.ensures.looks in
    let took : Took old mid t n (k / 409) = record { pins = c.pointer_at.ensures.pins; near = c.pointer_at.ensures.near } in
    let walked : Walked old mid t n (k / 409) (λ q. Agrees old.tells c.in_ok-above.above q) = record { found = c.in_ok-above.ensures.found; way = c.in_ok-above.ensures.way } in
    let new = g.B.Blocks.state c.step.new.on in
    let more = g.met.B.Blocks.keeps_all c.pointer_at.new.on c.step.new.on c.step.ensures.keeps in
    let more_looks = c.step.ensures.looks in
    (subst (λ d. Took old new t d k) (sym is) (took_more old mid new t n k (λ q. Agrees old.tells c.in_ok-above.above q) all looks more more_looks walked took c.step.ensures.pins (λ q f got. c.step.ensures.again (subst (λ (p : Pointer). Got mid (kind_down t n) p) (agrees_local f c.in-Local.is) got)))).pins

pub returns-in_err-pointer-in-Local-clause-near : goal.returns-in_err-pointer-in-Local-clause-near
returns-in_err-pointer-in-Local-clause-near g t c =
    let old = g.B.Blocks.state c.args.on.now in
    let mid = g.B.Blocks.state c.pointer_at.new.on in
    let t = c.args.self.now in
    let n = c.args.down - 1 in
    let k = c.args.k in
    let is : c.args.down ≡ suc (c.args.down - 1) = omega arith in
    let all = g.met.B.Blocks.keeps_all c.args.on.now c.pointer_at.new.on c.pointer_at.ensures.keeps in
    let looks = c.pointer_at.ensures.looks in
    let took : Took old mid t n (k / 409) = record { pins = c.pointer_at.ensures.pins; near = c.pointer_at.ensures.near } in
    let walked : Walked old mid t n (k / 409) (λ q. Agrees old.tells c.in_ok-above.above q) = record { found = c.in_ok-above.ensures.found; way = c.in_ok-above.ensures.way } in
    let new = g.B.Blocks.state c.step.new.on in
    let more = g.met.B.Blocks.keeps_all c.pointer_at.new.on c.step.new.on c.step.ensures.keeps in
    let more_looks = c.step.ensures.looks in
    (subst (λ d. Took old new t d k) (sym is) (took_more old mid new t n k (λ q. Agrees old.tells c.in_ok-above.above q) all looks more more_looks walked took c.step.ensures.pins (λ q f got. c.step.ensures.again (subst (λ (p : Pointer). Got mid (kind_down t n) p) (agrees_local f c.in-Local.is) got)))).near

pub returns-in_err-pointer-in-Local-clause-looks : goal.returns-in_err-pointer-in-Local-clause-looks
returns-in_err-pointer-in-Local-clause-looks g t c =
    let old = g.B.Blocks.state c.args.on.now in
    let mid = g.B.Blocks.state c.pointer_at.new.on in
    let t = c.args.self.now in
    let n = c.args.down - 1 in
    let k = c.args.k in
    let is : c.args.down ≡ suc (c.args.down - 1) = omega arith in
    let all = g.met.B.Blocks.keeps_all c.args.on.now c.pointer_at.new.on c.pointer_at.ensures.keeps in
    let looks = c.pointer_at.ensures.looks in
    let took : Took old mid t n (k / 409) = record { pins = c.pointer_at.ensures.pins; near = c.pointer_at.ensures.near } in
    looks_joins all looks c.step.ensures.looks

pub returns-in_ok-pointer-in-Local-clause-pins : goal.returns-in_ok-pointer-in-Local-clause-pins
returns-in_ok-pointer-in-Local-clause-pins g t c =
    let old = g.B.Blocks.state c.args.on.now in
    let mid = g.B.Blocks.state c.pointer_at.new.on in
    let t = c.args.self.now in
    let n = c.args.down - 1 in
    let k = c.args.k in
    let is : c.args.down ≡ suc (c.args.down - 1) = omega arith in
    let all = g.met.B.Blocks.keeps_all c.args.on.now c.pointer_at.new.on c.pointer_at.ensures.keeps in
    let looks = c.pointer_at.ensures.looks in
    let took : Took old mid t n (k / 409) = record { pins = c.pointer_at.ensures.pins; near = c.pointer_at.ensures.near } in
    let walked : Walked old mid t n (k / 409) (λ q. Agrees old.tells c.in_ok-above.above q) = record { found = c.in_ok-above.ensures.found; way = c.in_ok-above.ensures.way } in
    let new = g.B.Blocks.state c.step.new.on in
    let more = g.met.B.Blocks.keeps_all c.pointer_at.new.on c.step.new.on c.step.ensures.keeps in
    let more_looks = c.step.ensures.looks in
    (subst (λ d. Took old new t d k) (sym is) (took_more old mid new t n k (λ q. Agrees old.tells c.in_ok-above.above q) all looks more more_looks walked took c.step.ensures.pins (λ q f got. c.step.ensures.again (subst (λ (p : Pointer). Got mid (kind_down t n) p) (agrees_local f c.in-Local.is) got)))).pins

pub returns-in_ok-pointer-in-Local-clause-near : goal.returns-in_ok-pointer-in-Local-clause-near
returns-in_ok-pointer-in-Local-clause-near g t c =
    let old = g.B.Blocks.state c.args.on.now in
    let mid = g.B.Blocks.state c.pointer_at.new.on in
    let t = c.args.self.now in
    let n = c.args.down - 1 in
    let k = c.args.k in
    let is : c.args.down ≡ suc (c.args.down - 1) = omega arith in
    let all = g.met.B.Blocks.keeps_all c.args.on.now c.pointer_at.new.on c.pointer_at.ensures.keeps in
    let looks = c.pointer_at.ensures.looks in
    let took : Took old mid t n (k / 409) = record { pins = c.pointer_at.ensures.pins; near = c.pointer_at.ensures.near } in
    let walked : Walked old mid t n (k / 409) (λ q. Agrees old.tells c.in_ok-above.above q) = record { found = c.in_ok-above.ensures.found; way = c.in_ok-above.ensures.way } in
    let new = g.B.Blocks.state c.step.new.on in
    let more = g.met.B.Blocks.keeps_all c.pointer_at.new.on c.step.new.on c.step.ensures.keeps in
    let more_looks = c.step.ensures.looks in
    (subst (λ d. Took old new t d k) (sym is) (took_more old mid new t n k (λ q. Agrees old.tells c.in_ok-above.above q) all looks more more_looks walked took c.step.ensures.pins (λ q f got. c.step.ensures.again (subst (λ (p : Pointer). Got mid (kind_down t n) p) (agrees_local f c.in-Local.is) got)))).near

pub returns-in_ok-pointer-in-Local-clause-looks : goal.returns-in_ok-pointer-in-Local-clause-looks
returns-in_ok-pointer-in-Local-clause-looks g t c =
    let old = g.B.Blocks.state c.args.on.now in
    let mid = g.B.Blocks.state c.pointer_at.new.on in
    let t = c.args.self.now in
    let n = c.args.down - 1 in
    let k = c.args.k in
    let is : c.args.down ≡ suc (c.args.down - 1) = omega arith in
    let all = g.met.B.Blocks.keeps_all c.args.on.now c.pointer_at.new.on c.pointer_at.ensures.keeps in
    let looks = c.pointer_at.ensures.looks in
    let took : Took old mid t n (k / 409) = record { pins = c.pointer_at.ensures.pins; near = c.pointer_at.ensures.near } in
    looks_joins all looks c.step.ensures.looks

pub returns-in_err-pointer-in-Local-clause-cause : goal.returns-in_err-pointer-in-Local-clause-cause
returns-in_err-pointer-in-Local-clause-cause g t c =
    let old = g.B.Blocks.state c.args.on.now in
    let mid = g.B.Blocks.state c.pointer_at.new.on in
    let t = c.args.self.now in
    let n = c.args.down - 1 in
    let k = c.args.k in
    let is : c.args.down ≡ suc (c.args.down - 1) = omega arith in
    let all = g.met.B.Blocks.keeps_all c.args.on.now c.pointer_at.new.on c.pointer_at.ensures.keeps in
    let looks = c.pointer_at.ensures.looks in
    let took : Took old mid t n (k / 409) = record { pins = c.pointer_at.ensures.pins; near = c.pointer_at.ensures.near } in
    let new = g.B.Blocks.state c.step.new.on in
    let more = g.met.B.Blocks.keeps_all c.pointer_at.new.on c.step.new.on c.step.ensures.keeps in
    let more_looks = c.step.ensures.looks in
    let here : IfErr c.from_residual-in_err-pointer-in-Local.result (Failed mid new) = search rules in
    any_failed_refused old new (Names old t) c.from_residual-in_err-pointer-in-Local.result (any_failed_later old mid new all c.from_residual-in_err-pointer-in-Local.result here)

pub returns-in_ok-pointer-in-Local-clause-found : goal.returns-in_ok-pointer-in-Local-clause-found
returns-in_ok-pointer-in-Local-clause-found g t c =
    let old = g.B.Blocks.state c.args.on.now in
    let mid = g.B.Blocks.state c.pointer_at.new.on in
    let t = c.args.self.now in
    let n = c.args.down - 1 in
    let k = c.args.k in
    let is : c.args.down ≡ suc (c.args.down - 1) = omega arith in
    let all = g.met.B.Blocks.keeps_all c.args.on.now c.pointer_at.new.on c.pointer_at.ensures.keeps in
    let looks = c.pointer_at.ensures.looks in
    let took : Took old mid t n (k / 409) = record { pins = c.pointer_at.ensures.pins; near = c.pointer_at.ensures.near } in
    let walked : Walked old mid t n (k / 409) (λ q. Agrees old.tells c.in_ok-above.above q) = record { found = c.in_ok-above.ensures.found; way = c.in_ok-above.ensures.way } in
    let new = g.B.Blocks.state c.step.new.on in
    let more = g.met.B.Blocks.keeps_all c.pointer_at.new.on c.step.new.on c.step.ensures.keeps in
    let more_looks = c.step.ensures.looks in
    (subst (λ d. Walked old new t d k (λ q. Agrees old.tells c.in_ok-pointer-in-Local.pointer q)) (sym is) (walked_more old mid new t n k (λ q. Agrees old.tells c.in_ok-above.above q) all looks more more_looks walked took (λ q. Agrees old.tells c.in_ok-pointer-in-Local.pointer q) (λ q f. subst (λ (p : Pointer). Agrees old.tells c.in_ok-pointer-in-Local.pointer (below new (kind_down t n) p (k % 409))) (sym (agrees_local f c.in-Local.is)) (agrees_same c.in_ok-pointer-in-Local.ensures.found)) (λ q f had. subst (λ (p : Pointer). Got new (kind_down t n) p) (sym (agrees_local f c.in-Local.is)) (c.in_ok-pointer-in-Local.ensures.got (subst (λ (p : Pointer). (0 < mid.pins_left) ⊎ Got mid (kind_down t n) p) (agrees_local f c.in-Local.is) had))))).found

pub returns-in_ok-pointer-in-Local-clause-way : goal.returns-in_ok-pointer-in-Local-clause-way
returns-in_ok-pointer-in-Local-clause-way g t c =
    let old = g.B.Blocks.state c.args.on.now in
    let mid = g.B.Blocks.state c.pointer_at.new.on in
    let t = c.args.self.now in
    let n = c.args.down - 1 in
    let k = c.args.k in
    let is : c.args.down ≡ suc (c.args.down - 1) = omega arith in
    let all = g.met.B.Blocks.keeps_all c.args.on.now c.pointer_at.new.on c.pointer_at.ensures.keeps in
    let looks = c.pointer_at.ensures.looks in
    let took : Took old mid t n (k / 409) = record { pins = c.pointer_at.ensures.pins; near = c.pointer_at.ensures.near } in
    let walked : Walked old mid t n (k / 409) (λ q. Agrees old.tells c.in_ok-above.above q) = record { found = c.in_ok-above.ensures.found; way = c.in_ok-above.ensures.way } in
    let new = g.B.Blocks.state c.step.new.on in
    let more = g.met.B.Blocks.keeps_all c.pointer_at.new.on c.step.new.on c.step.ensures.keeps in
    let more_looks = c.step.ensures.looks in
    (subst (λ d. Walked old new t d k (λ q. Agrees old.tells c.in_ok-pointer-in-Local.pointer q)) (sym is) (walked_more old mid new t n k (λ q. Agrees old.tells c.in_ok-above.above q) all looks more more_looks walked took (λ q. Agrees old.tells c.in_ok-pointer-in-Local.pointer q) (λ q f. subst (λ (p : Pointer). Agrees old.tells c.in_ok-pointer-in-Local.pointer (below new (kind_down t n) p (k % 409))) (sym (agrees_local f c.in-Local.is)) (agrees_same c.in_ok-pointer-in-Local.ensures.found)) (λ q f had. subst (λ (p : Pointer). Got new (kind_down t n) p) (sym (agrees_local f c.in-Local.is)) (c.in_ok-pointer-in-Local.ensures.got (subst (λ (p : Pointer). (0 < mid.pins_left) ⊎ Got mid (kind_down t n) p) (agrees_local f c.in-Local.is) had))))).way

pub returns-in-Nil-clause-found : goal.returns-in-Nil-clause-found
returns-in-Nil-clause-found g t c =
    let old = g.B.Blocks.state c.args.on.now in
    let mid = g.B.Blocks.state c.pointer_at.new.on in
    let t = c.args.self.now in
    let n = c.args.down - 1 in
    let k = c.args.k in
    let is : c.args.down ≡ suc (c.args.down - 1) = omega arith in
    let all = g.met.B.Blocks.keeps_all c.args.on.now c.pointer_at.new.on c.pointer_at.ensures.keeps in
    let looks = c.pointer_at.ensures.looks in
    let took : Took old mid t n (k / 409) = record { pins = c.pointer_at.ensures.pins; near = c.pointer_at.ensures.near } in
    let walked : Walked old mid t n (k / 409) (λ q. Agrees old.tells c.in_ok-above.above q) = record { found = c.in_ok-above.ensures.found; way = c.in_ok-above.ensures.way } in
    let still = g.met.B.Blocks.keeps_all c.pointer_at.new.on c.pointer_at.new.on (g.met.B.Blocks.keeps_at_once c.pointer_at.new.on) in
    (subst (λ d. Walked old mid t d k (λ q. Agrees old.tells Nil q)) (sym is) (walked_more old mid mid t n k (λ q. Agrees old.tells c.in_ok-above.above q) all looks still (looks_none mid) walked took (λ q. Agrees old.tells Nil q) (λ q f. nil_agrees mid (kind_down t n) c.in_ok-above.above q (k % 409) f c.in-Nil.is) (λ q f had. none_got mid (kind_down t n) q (agrees_none f (nil_none c.in-Nil.is))))).found

pub returns-in-Nil-clause-way : goal.returns-in-Nil-clause-way
returns-in-Nil-clause-way g t c =
    let old = g.B.Blocks.state c.args.on.now in
    let mid = g.B.Blocks.state c.pointer_at.new.on in
    let t = c.args.self.now in
    let n = c.args.down - 1 in
    let k = c.args.k in
    let is : c.args.down ≡ suc (c.args.down - 1) = omega arith in
    let all = g.met.B.Blocks.keeps_all c.args.on.now c.pointer_at.new.on c.pointer_at.ensures.keeps in
    let looks = c.pointer_at.ensures.looks in
    let took : Took old mid t n (k / 409) = record { pins = c.pointer_at.ensures.pins; near = c.pointer_at.ensures.near } in
    let walked : Walked old mid t n (k / 409) (λ q. Agrees old.tells c.in_ok-above.above q) = record { found = c.in_ok-above.ensures.found; way = c.in_ok-above.ensures.way } in
    let still = g.met.B.Blocks.keeps_all c.pointer_at.new.on c.pointer_at.new.on (g.met.B.Blocks.keeps_at_once c.pointer_at.new.on) in
    (subst (λ d. Walked old mid t d k (λ q. Agrees old.tells Nil q)) (sym is) (walked_more old mid mid t n k (λ q. Agrees old.tells c.in_ok-above.above q) all looks still (looks_none mid) walked took (λ q. Agrees old.tells Nil q) (λ q f. nil_agrees mid (kind_down t n) c.in_ok-above.above q (k % 409) f c.in-Nil.is) (λ q f had. none_got mid (kind_down t n) q (agrees_none f (nil_none c.in-Nil.is))))).way

pub returns-in-Nil-clause-pins : goal.returns-in-Nil-clause-pins
returns-in-Nil-clause-pins g t c =
    let old = g.B.Blocks.state c.args.on.now in
    let mid = g.B.Blocks.state c.pointer_at.new.on in
    let t = c.args.self.now in
    let n = c.args.down - 1 in
    let k = c.args.k in
    let is : c.args.down ≡ suc (c.args.down - 1) = omega arith in
    let all = g.met.B.Blocks.keeps_all c.args.on.now c.pointer_at.new.on c.pointer_at.ensures.keeps in
    let looks = c.pointer_at.ensures.looks in
    let took : Took old mid t n (k / 409) = record { pins = c.pointer_at.ensures.pins; near = c.pointer_at.ensures.near } in
    (subst (λ d. Took old mid t d k) (sym is) (took_less took)).pins

pub returns-in-Nil-clause-near : goal.returns-in-Nil-clause-near
returns-in-Nil-clause-near g t c =
    let old = g.B.Blocks.state c.args.on.now in
    let mid = g.B.Blocks.state c.pointer_at.new.on in
    let t = c.args.self.now in
    let n = c.args.down - 1 in
    let k = c.args.k in
    let is : c.args.down ≡ suc (c.args.down - 1) = omega arith in
    let all = g.met.B.Blocks.keeps_all c.args.on.now c.pointer_at.new.on c.pointer_at.ensures.keeps in
    let looks = c.pointer_at.ensures.looks in
    let took : Took old mid t n (k / 409) = record { pins = c.pointer_at.ensures.pins; near = c.pointer_at.ensures.near } in
    (subst (λ d. Took old mid t d k) (sym is) (took_less took)).near

pub returns-in_err-pointer-in-Score-clause-pins : goal.returns-in_err-pointer-in-Score-clause-pins
returns-in_err-pointer-in-Score-clause-pins g t c =
    let old = g.B.Blocks.state c.args.on.now in
    let mid = g.B.Blocks.state c.pointer_at.new.on in
    let t = c.args.self.now in
    let n = c.args.down - 1 in
    let k = c.args.k in
    let is : c.args.down ≡ suc (c.args.down - 1) = omega arith in
    let all = g.met.B.Blocks.keeps_all c.args.on.now c.pointer_at.new.on c.pointer_at.ensures.keeps in
    let looks = c.pointer_at.ensures.looks in
    let took : Took old mid t n (k / 409) = record { pins = c.pointer_at.ensures.pins; near = c.pointer_at.ensures.near } in
    let walked : Walked old mid t n (k / 409) (λ q. Agrees old.tells c.in_ok-above.above q) = record { found = c.in_ok-above.ensures.found; way = c.in_ok-above.ensures.way } in
    let new = g.B.Blocks.state c.held_below.new.on in
    let more = g.met.B.Blocks.keeps_all c.pointer_at.new.on c.held_below.new.on c.held_below.ensures.keeps in
    let more_looks = c.held_below.ensures.looks in
    (subst (λ d. Took old new t d k) (sym is) (took_more old mid new t n k (λ q. Agrees old.tells c.in_ok-above.above q) all looks more more_looks walked took (let le = c.held_below.ensures.pins in omega (arith, le)) (λ q f got. c.held_below.ensures.pins))).pins

pub returns-in_err-pointer-in-Score-clause-near : goal.returns-in_err-pointer-in-Score-clause-near
returns-in_err-pointer-in-Score-clause-near g t c =
    let old = g.B.Blocks.state c.args.on.now in
    let mid = g.B.Blocks.state c.pointer_at.new.on in
    let t = c.args.self.now in
    let n = c.args.down - 1 in
    let k = c.args.k in
    let is : c.args.down ≡ suc (c.args.down - 1) = omega arith in
    let all = g.met.B.Blocks.keeps_all c.args.on.now c.pointer_at.new.on c.pointer_at.ensures.keeps in
    let looks = c.pointer_at.ensures.looks in
    let took : Took old mid t n (k / 409) = record { pins = c.pointer_at.ensures.pins; near = c.pointer_at.ensures.near } in
    let walked : Walked old mid t n (k / 409) (λ q. Agrees old.tells c.in_ok-above.above q) = record { found = c.in_ok-above.ensures.found; way = c.in_ok-above.ensures.way } in
    let new = g.B.Blocks.state c.held_below.new.on in
    let more = g.met.B.Blocks.keeps_all c.pointer_at.new.on c.held_below.new.on c.held_below.ensures.keeps in
    let more_looks = c.held_below.ensures.looks in
    (subst (λ d. Took old new t d k) (sym is) (took_more old mid new t n k (λ q. Agrees old.tells c.in_ok-above.above q) all looks more more_looks walked took (let le = c.held_below.ensures.pins in omega (arith, le)) (λ q f got. c.held_below.ensures.pins))).near

pub returns-in_err-pointer-in-Score-clause-looks : goal.returns-in_err-pointer-in-Score-clause-looks
returns-in_err-pointer-in-Score-clause-looks g t c =
    let old = g.B.Blocks.state c.args.on.now in
    let mid = g.B.Blocks.state c.pointer_at.new.on in
    let t = c.args.self.now in
    let n = c.args.down - 1 in
    let k = c.args.k in
    let is : c.args.down ≡ suc (c.args.down - 1) = omega arith in
    let all = g.met.B.Blocks.keeps_all c.args.on.now c.pointer_at.new.on c.pointer_at.ensures.keeps in
    let looks = c.pointer_at.ensures.looks in
    let took : Took old mid t n (k / 409) = record { pins = c.pointer_at.ensures.pins; near = c.pointer_at.ensures.near } in
    looks_joins all looks c.held_below.ensures.looks

pub returns-in_ok-pointer-in-Score-clause-pins : goal.returns-in_ok-pointer-in-Score-clause-pins
returns-in_ok-pointer-in-Score-clause-pins g t c =
    let old = g.B.Blocks.state c.args.on.now in
    let mid = g.B.Blocks.state c.pointer_at.new.on in
    let t = c.args.self.now in
    let n = c.args.down - 1 in
    let k = c.args.k in
    let is : c.args.down ≡ suc (c.args.down - 1) = omega arith in
    let all = g.met.B.Blocks.keeps_all c.args.on.now c.pointer_at.new.on c.pointer_at.ensures.keeps in
    let looks = c.pointer_at.ensures.looks in
    let took : Took old mid t n (k / 409) = record { pins = c.pointer_at.ensures.pins; near = c.pointer_at.ensures.near } in
    let walked : Walked old mid t n (k / 409) (λ q. Agrees old.tells c.in_ok-above.above q) = record { found = c.in_ok-above.ensures.found; way = c.in_ok-above.ensures.way } in
    let new = g.B.Blocks.state c.held_below.new.on in
    let more = g.met.B.Blocks.keeps_all c.pointer_at.new.on c.held_below.new.on c.held_below.ensures.keeps in
    let more_looks = c.held_below.ensures.looks in
    (subst (λ d. Took old new t d k) (sym is) (took_more old mid new t n k (λ q. Agrees old.tells c.in_ok-above.above q) all looks more more_looks walked took (let le = c.held_below.ensures.pins in omega (arith, le)) (λ q f got. c.held_below.ensures.pins))).pins

pub returns-in_ok-pointer-in-Score-clause-near : goal.returns-in_ok-pointer-in-Score-clause-near
returns-in_ok-pointer-in-Score-clause-near g t c =
    let old = g.B.Blocks.state c.args.on.now in
    let mid = g.B.Blocks.state c.pointer_at.new.on in
    let t = c.args.self.now in
    let n = c.args.down - 1 in
    let k = c.args.k in
    let is : c.args.down ≡ suc (c.args.down - 1) = omega arith in
    let all = g.met.B.Blocks.keeps_all c.args.on.now c.pointer_at.new.on c.pointer_at.ensures.keeps in
    let looks = c.pointer_at.ensures.looks in
    let took : Took old mid t n (k / 409) = record { pins = c.pointer_at.ensures.pins; near = c.pointer_at.ensures.near } in
    let walked : Walked old mid t n (k / 409) (λ q. Agrees old.tells c.in_ok-above.above q) = record { found = c.in_ok-above.ensures.found; way = c.in_ok-above.ensures.way } in
    let new = g.B.Blocks.state c.held_below.new.on in
    let more = g.met.B.Blocks.keeps_all c.pointer_at.new.on c.held_below.new.on c.held_below.ensures.keeps in
    let more_looks = c.held_below.ensures.looks in
    (subst (λ d. Took old new t d k) (sym is) (took_more old mid new t n k (λ q. Agrees old.tells c.in_ok-above.above q) all looks more more_looks walked took (let le = c.held_below.ensures.pins in omega (arith, le)) (λ q f got. c.held_below.ensures.pins))).near

pub returns-in_ok-pointer-in-Score-clause-looks : goal.returns-in_ok-pointer-in-Score-clause-looks
returns-in_ok-pointer-in-Score-clause-looks g t c =
    let old = g.B.Blocks.state c.args.on.now in
    let mid = g.B.Blocks.state c.pointer_at.new.on in
    let t = c.args.self.now in
    let n = c.args.down - 1 in
    let k = c.args.k in
    let is : c.args.down ≡ suc (c.args.down - 1) = omega arith in
    let all = g.met.B.Blocks.keeps_all c.args.on.now c.pointer_at.new.on c.pointer_at.ensures.keeps in
    let looks = c.pointer_at.ensures.looks in
    let took : Took old mid t n (k / 409) = record { pins = c.pointer_at.ensures.pins; near = c.pointer_at.ensures.near } in
    looks_joins all looks c.held_below.ensures.looks

pub returns-in_ok-pointer-in-Score-clause-found : goal.returns-in_ok-pointer-in-Score-clause-found
returns-in_ok-pointer-in-Score-clause-found g t c =
    let old = g.B.Blocks.state c.args.on.now in
    let mid = g.B.Blocks.state c.pointer_at.new.on in
    let t = c.args.self.now in
    let n = c.args.down - 1 in
    let k = c.args.k in
    let is : c.args.down ≡ suc (c.args.down - 1) = omega arith in
    let all = g.met.B.Blocks.keeps_all c.args.on.now c.pointer_at.new.on c.pointer_at.ensures.keeps in
    let looks = c.pointer_at.ensures.looks in
    let took : Took old mid t n (k / 409) = record { pins = c.pointer_at.ensures.pins; near = c.pointer_at.ensures.near } in
    let walked : Walked old mid t n (k / 409) (λ q. Agrees old.tells c.in_ok-above.above q) = record { found = c.in_ok-above.ensures.found; way = c.in_ok-above.ensures.way } in
    let new = g.B.Blocks.state c.held_below.new.on in
    let more = g.met.B.Blocks.keeps_all c.pointer_at.new.on c.held_below.new.on c.held_below.ensures.keeps in
    let more_looks = c.held_below.ensures.looks in
    (subst (λ d. Walked old new t d k (λ q. Agrees old.tells c.in_ok-pointer-in-Score.pointer q)) (sym is) (walked_more old mid new t n k (λ q. Agrees old.tells c.in_ok-above.above q) all looks more more_looks walked took (λ q. Agrees old.tells c.in_ok-pointer-in-Score.pointer q) (λ q f. held_agrees new (kind_down t n) c.in_ok-above.above q c.in_ok-pointer-in-Score.pointer (k % 409) c.in-Score.score f c.in-Score.is (λ told. c.in_ok-pointer-in-Score.ensures.found (all.still_tells.1 told) ∙ ap (λ h. score_in h (k % 409)) (ap (λ x. mid.held c.in-Score.score x) c.kind_number-kind.ensures ∙ sym (more.same_held c.in-Score.score _))) c.in_ok-pointer-in-Score.ensures.none) (λ q f had. none_got new (kind_down t n) q (agrees_none f (held_score_none c.in-Score.is))))).found

pub returns-in_ok-pointer-in-Score-clause-way : goal.returns-in_ok-pointer-in-Score-clause-way
returns-in_ok-pointer-in-Score-clause-way g t c =
    let old = g.B.Blocks.state c.args.on.now in
    let mid = g.B.Blocks.state c.pointer_at.new.on in
    let t = c.args.self.now in
    let n = c.args.down - 1 in
    let k = c.args.k in
    let is : c.args.down ≡ suc (c.args.down - 1) = omega arith in
    let all = g.met.B.Blocks.keeps_all c.args.on.now c.pointer_at.new.on c.pointer_at.ensures.keeps in
    let looks = c.pointer_at.ensures.looks in
    let took : Took old mid t n (k / 409) = record { pins = c.pointer_at.ensures.pins; near = c.pointer_at.ensures.near } in
    let walked : Walked old mid t n (k / 409) (λ q. Agrees old.tells c.in_ok-above.above q) = record { found = c.in_ok-above.ensures.found; way = c.in_ok-above.ensures.way } in
    let new = g.B.Blocks.state c.held_below.new.on in
    let more = g.met.B.Blocks.keeps_all c.pointer_at.new.on c.held_below.new.on c.held_below.ensures.keeps in
    let more_looks = c.held_below.ensures.looks in
    (subst (λ d. Walked old new t d k (λ q. Agrees old.tells c.in_ok-pointer-in-Score.pointer q)) (sym is) (walked_more old mid new t n k (λ q. Agrees old.tells c.in_ok-above.above q) all looks more more_looks walked took (λ q. Agrees old.tells c.in_ok-pointer-in-Score.pointer q) (λ q f. held_agrees new (kind_down t n) c.in_ok-above.above q c.in_ok-pointer-in-Score.pointer (k % 409) c.in-Score.score f c.in-Score.is (λ told. c.in_ok-pointer-in-Score.ensures.found (all.still_tells.1 told) ∙ ap (λ h. score_in h (k % 409)) (ap (λ x. mid.held c.in-Score.score x) c.kind_number-kind.ensures ∙ sym (more.same_held c.in-Score.score _))) c.in_ok-pointer-in-Score.ensures.none) (λ q f had. none_got new (kind_down t n) q (agrees_none f (held_score_none c.in-Score.is))))).way

pub returns-in_err-pointer-in-Score-clause-cause : goal.returns-in_err-pointer-in-Score-clause-cause
returns-in_err-pointer-in-Score-clause-cause g t c =
    let old = g.B.Blocks.state c.args.on.now in
    let mid = g.B.Blocks.state c.pointer_at.new.on in
    let t = c.args.self.now in
    let n = c.args.down - 1 in
    let k = c.args.k in
    let is : c.args.down ≡ suc (c.args.down - 1) = omega arith in
    let all = g.met.B.Blocks.keeps_all c.args.on.now c.pointer_at.new.on c.pointer_at.ensures.keeps in
    let looks = c.pointer_at.ensures.looks in
    let took : Took old mid t n (k / 409) = record { pins = c.pointer_at.ensures.pins; near = c.pointer_at.ensures.near } in
    let new = g.B.Blocks.state c.held_below.new.on in
    let more = g.met.B.Blocks.keeps_all c.pointer_at.new.on c.held_below.new.on c.held_below.ensures.keeps in
    let more_looks = c.held_below.ensures.looks in
    let down = c.requires.down in
    any_held_refused old mid new t c.in-Score.score c.kind_number-kind.result all
    (λ told. record { down = n; index = k / 409; within = omega (arith, down); is = sym (told_same all looks told t n (k / 409)) ∙ sym ((c.in_ok-above.ensures.found (inl told)).0 told) ∙ c.in-Score.is; kind_is = c.kind_number-kind.ensures })
    c.from_residual-in_err-pointer-in-Score.result (search rules)
