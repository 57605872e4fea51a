use Rattle.std.proofs.Common.{rules, ◌≡◌, ◌⊎◌, ◌+◌, ◌-◌, ◌/◌, ◌%◌, ◌<◌, ◌≤◌, suc, None, IfErr, inl, sym, ap, ◌∙◌, subst, arith}
use Rattle.fo_looks.specs.of_image.declared.types.Pointer.{Pointer}
use Rattle.fo_tree_read.specs.Tree.{block_at, address_of, below, kind_down, Got, Way, above, Failed}
use Rattle.fo_looks.proofs.Looks.{looks_joins}
use Rattle.fo_tree_read.proofs.Looks.{any_failed_later}
use Rattle.fo_tree_read.proofs.Walk.{Walked, Took, took_less, took_more, walked_more, hangs_looks}
use Rattle.fo_tree_read.proofs.Exits.{looks_none, address_local, none_below, none_got, block_some}
use Rattle.fo_tree_read.proofs.tree.Tree.+address_at.Goals as goal

pub returns-then-down-eq0-clause-found : goal.returns-then-down-eq0-clause-found
returns-then-down-eq0-clause-found g t c = λ is. subst (λ d. c.address.result ≡ address_of (block_at (g.B.Blocks.state c.args.on.now) c.args.self.now d c.args.k)) (sym c.if-down-eq0.true) c.address.ensures

pub returns-then-down-eq0-clause-block : goal.returns-then-down-eq0-clause-block
returns-then-down-eq0-clause-block g t c = block_some (g.B.Blocks.state c.args.on.now) c.args.self.now.top c.address.result c.address.ensures c.requires.hangs.is_one

pub returns-then-down-eq0-clause-way : goal.returns-then-down-eq0-clause-way
returns-then-down-eq0-clause-way g t c = λ pins. subst (λ d. Way (g.B.Blocks.state c.args.on.now) c.args.self.now d c.args.k) (sym c.if-down-eq0.true) tt

pub returns-then-down-eq0-clause-near : goal.returns-then-down-eq0-clause-near
returns-then-down-eq0-clause-near g t c = λ j near. subst (λ d. (g.B.Blocks.state c.args.on.now).pins_left + above d j ≤ (g.B.Blocks.state c.args.on.now).pins_left + above d c.args.k) (sym c.if-down-eq0.true) (omega arith)

pub returns-then-down-eq0-clause-looks : goal.returns-then-down-eq0-clause-looks
returns-then-down-eq0-clause-looks g t c = looks_none (g.B.Blocks.state c.args.on.now)

pub returns-in_err-above-clause-pins : goal.returns-in_err-above-clause-pins
returns-in_err-above-clause-pins g t c =
    let old = g.B.Blocks.state c.args.on.now in
    let mid = g.B.Blocks.state c.address_at.new.on in
    let t = c.args.self.now in
    let n = c.args.down - 1 in
    let k = c.args.k in
    let is : c.args.down ≡ suc (c.args.down - 1) = omega arith in
    let all = g.met.B.Blocks.keeps_all c.args.on.now c.address_at.new.on c.address_at.ensures.keeps in
    let looks = c.address_at.ensures.looks in
    let took : Took old mid t n (k / 409) = record { pins = c.address_at.ensures.pins; near = c.address_at.ensures.near } in
    (subst (λ d. Took old mid t d k) (sym is) (took_less took)).pins

pub returns-in_err-above-clause-near : goal.returns-in_err-above-clause-near
returns-in_err-above-clause-near g t c =
    let old = g.B.Blocks.state c.args.on.now in
    let mid = g.B.Blocks.state c.address_at.new.on in
    let t = c.args.self.now in
    let n = c.args.down - 1 in
    let k = c.args.k in
    let is : c.args.down ≡ suc (c.args.down - 1) = omega arith in
    let all = g.met.B.Blocks.keeps_all c.args.on.now c.address_at.new.on c.address_at.ensures.keeps in
    let looks = c.address_at.ensures.looks in
    let took : Took old mid t n (k / 409) = record { pins = c.address_at.ensures.pins; near = c.address_at.ensures.near } in
    (subst (λ d. Took old mid t d k) (sym is) (took_less took)).near

pub step-requires-clause-hangs : goal.step-requires-clause-hangs
step-requires-clause-hangs g t c =
    let old = g.B.Blocks.state c.args.on.now in
    let mid = g.B.Blocks.state c.address_at.new.on in
    let t = c.args.self.now in
    let n = c.args.down - 1 in
    let k = c.args.k in
    let is : c.args.down ≡ suc (c.args.down - 1) = omega arith in
    let all = g.met.B.Blocks.keeps_all c.args.on.now c.address_at.new.on c.address_at.ensures.keeps in
    let looks = c.address_at.ensures.looks in
    let took : Took old mid t n (k / 409) = record { pins = c.address_at.ensures.pins; near = c.address_at.ensures.near } in
    hangs_looks all looks c.requires.hangs

pub step-requires-clause-there : goal.step-requires-clause-there
step-requires-clause-there g t c =
    let old = g.B.Blocks.state c.args.on.now in
    let mid = g.B.Blocks.state c.address_at.new.on in
    let t = c.args.self.now in
    let n = c.args.down - 1 in
    let k = c.args.k in
    let is : c.args.down ≡ suc (c.args.down - 1) = omega arith in
    let all = g.met.B.Blocks.keeps_all c.args.on.now c.address_at.new.on c.address_at.ensures.keeps in
    let looks = c.address_at.ensures.looks in
    let took : Took old mid t n (k / 409) = record { pins = c.address_at.ensures.pins; near = c.address_at.ensures.near } in
    λ told. (k / 409, address_local c.in-Some.at (block_at mid t n (k / 409)) (sym c.in-Some.is ∙ c.in_ok-above.ensures.found (inl (all.still_tells.0 told))))

pub returns-in_err-pointer-in-Some-clause-pins : goal.returns-in_err-pointer-in-Some-clause-pins
returns-in_err-pointer-in-Some-clause-pins g t c =
    let old = g.B.Blocks.state c.args.on.now in
    let mid = g.B.Blocks.state c.address_at.new.on in
    let t = c.args.self.now in
    let n = c.args.down - 1 in
    let k = c.args.k in
    let is : c.args.down ≡ suc (c.args.down - 1) = omega arith in
    let all = g.met.B.Blocks.keeps_all c.args.on.now c.address_at.new.on c.address_at.ensures.keeps in
    let looks = c.address_at.ensures.looks in
    let took : Took old mid t n (k / 409) = record { pins = c.address_at.ensures.pins; near = c.address_at.ensures.near } in
    let walked : Walked old mid t n (k / 409) (λ q. c.in_ok-above.above ≡ address_of q) = record { found = c.in_ok-above.ensures.found; way = c.in_ok-above.ensures.way } in
    let new = g.B.Blocks.state c.step.new.on in
    let more = g.met.B.Blocks.keeps_all c.address_at.new.on c.step.new.on c.step.ensures.keeps in
    let more_looks = c.step.ensures.looks in
    (subst (λ d. Took old new t d k) (sym is) (took_more old mid new t n k (λ q. c.in_ok-above.above ≡ address_of q) all looks more more_looks walked took c.step.ensures.pins (λ q f got. c.step.ensures.again (subst (λ (p : Pointer). Got mid (kind_down t n) p) (address_local c.in-Some.at q (sym c.in-Some.is ∙ f)) got)))).pins

pub returns-in_err-pointer-in-Some-clause-near : goal.returns-in_err-pointer-in-Some-clause-near
returns-in_err-pointer-in-Some-clause-near g t c =
    let old = g.B.Blocks.state c.args.on.now in
    let mid = g.B.Blocks.state c.address_at.new.on in
    let t = c.args.self.now in
    let n = c.args.down - 1 in
    let k = c.args.k in
    let is : c.args.down ≡ suc (c.args.down - 1) = omega arith in
    let all = g.met.B.Blocks.keeps_all c.args.on.now c.address_at.new.on c.address_at.ensures.keeps in
    let looks = c.address_at.ensures.looks in
    let took : Took old mid t n (k / 409) = record { pins = c.address_at.ensures.pins; near = c.address_at.ensures.near } in
    let walked : Walked old mid t n (k / 409) (λ q. c.in_ok-above.above ≡ address_of q) = record { found = c.in_ok-above.ensures.found; way = c.in_ok-above.ensures.way } in
    let new = g.B.Blocks.state c.step.new.on in
    let more = g.met.B.Blocks.keeps_all c.address_at.new.on c.step.new.on c.step.ensures.keeps in
    let more_looks = c.step.ensures.looks in
    (subst (λ d. Took old new t d k) (sym is) (took_more old mid new t n k (λ q. c.in_ok-above.above ≡ address_of q) all looks more more_looks walked took c.step.ensures.pins (λ q f got. c.step.ensures.again (subst (λ (p : Pointer). Got mid (kind_down t n) p) (address_local c.in-Some.at q (sym c.in-Some.is ∙ f)) got)))).near

pub returns-in_err-pointer-in-Some-clause-looks : goal.returns-in_err-pointer-in-Some-clause-looks
returns-in_err-pointer-in-Some-clause-looks g t c =
    let old = g.B.Blocks.state c.args.on.now in
    let mid = g.B.Blocks.state c.address_at.new.on in
    let t = c.args.self.now in
    let n = c.args.down - 1 in
    let k = c.args.k in
    let is : c.args.down ≡ suc (c.args.down - 1) = omega arith in
    let all = g.met.B.Blocks.keeps_all c.args.on.now c.address_at.new.on c.address_at.ensures.keeps in
    let looks = c.address_at.ensures.looks in
    let took : Took old mid t n (k / 409) = record { pins = c.address_at.ensures.pins; near = c.address_at.ensures.near } in
    looks_joins all looks c.step.ensures.looks

pub returns-in_ok-pointer-in-Some-clause-pins : goal.returns-in_ok-pointer-in-Some-clause-pins
returns-in_ok-pointer-in-Some-clause-pins g t c =
    let old = g.B.Blocks.state c.args.on.now in
    let mid = g.B.Blocks.state c.address_at.new.on in
    let t = c.args.self.now in
    let n = c.args.down - 1 in
    let k = c.args.k in
    let is : c.args.down ≡ suc (c.args.down - 1) = omega arith in
    let all = g.met.B.Blocks.keeps_all c.args.on.now c.address_at.new.on c.address_at.ensures.keeps in
    let looks = c.address_at.ensures.looks in
    let took : Took old mid t n (k / 409) = record { pins = c.address_at.ensures.pins; near = c.address_at.ensures.near } in
    let walked : Walked old mid t n (k / 409) (λ q. c.in_ok-above.above ≡ address_of q) = record { found = c.in_ok-above.ensures.found; way = c.in_ok-above.ensures.way } in
    let new = g.B.Blocks.state c.step.new.on in
    let more = g.met.B.Blocks.keeps_all c.address_at.new.on c.step.new.on c.step.ensures.keeps in
    let more_looks = c.step.ensures.looks in
    (subst (λ d. Took old new t d k) (sym is) (took_more old mid new t n k (λ q. c.in_ok-above.above ≡ address_of q) all looks more more_looks walked took c.step.ensures.pins (λ q f got. c.step.ensures.again (subst (λ (p : Pointer). Got mid (kind_down t n) p) (address_local c.in-Some.at q (sym c.in-Some.is ∙ f)) got)))).pins

pub returns-in_ok-pointer-in-Some-clause-near : goal.returns-in_ok-pointer-in-Some-clause-near
returns-in_ok-pointer-in-Some-clause-near g t c =
    let old = g.B.Blocks.state c.args.on.now in
    let mid = g.B.Blocks.state c.address_at.new.on in
    let t = c.args.self.now in
    let n = c.args.down - 1 in
    let k = c.args.k in
    let is : c.args.down ≡ suc (c.args.down - 1) = omega arith in
    let all = g.met.B.Blocks.keeps_all c.args.on.now c.address_at.new.on c.address_at.ensures.keeps in
    let looks = c.address_at.ensures.looks in
    let took : Took old mid t n (k / 409) = record { pins = c.address_at.ensures.pins; near = c.address_at.ensures.near } in
    let walked : Walked old mid t n (k / 409) (λ q. c.in_ok-above.above ≡ address_of q) = record { found = c.in_ok-above.ensures.found; way = c.in_ok-above.ensures.way } in
    let new = g.B.Blocks.state c.step.new.on in
    let more = g.met.B.Blocks.keeps_all c.address_at.new.on c.step.new.on c.step.ensures.keeps in
    let more_looks = c.step.ensures.looks in
    (subst (λ d. Took old new t d k) (sym is) (took_more old mid new t n k (λ q. c.in_ok-above.above ≡ address_of q) all looks more more_looks walked took c.step.ensures.pins (λ q f got. c.step.ensures.again (subst (λ (p : Pointer). Got mid (kind_down t n) p) (address_local c.in-Some.at q (sym c.in-Some.is ∙ f)) got)))).near

pub returns-in_ok-pointer-in-Some-clause-looks : goal.returns-in_ok-pointer-in-Some-clause-looks
returns-in_ok-pointer-in-Some-clause-looks g t c =
    let old = g.B.Blocks.state c.args.on.now in
    let mid = g.B.Blocks.state c.address_at.new.on in
    let t = c.args.self.now in
    let n = c.args.down - 1 in
    let k = c.args.k in
    let is : c.args.down ≡ suc (c.args.down - 1) = omega arith in
    let all = g.met.B.Blocks.keeps_all c.args.on.now c.address_at.new.on c.address_at.ensures.keeps in
    let looks = c.address_at.ensures.looks in
    let took : Took old mid t n (k / 409) = record { pins = c.address_at.ensures.pins; near = c.address_at.ensures.near } in
    looks_joins all looks c.step.ensures.looks

pub returns-in_err-pointer-in-Some-clause-cause : goal.returns-in_err-pointer-in-Some-clause-cause
returns-in_err-pointer-in-Some-clause-cause g t c =
    let old = g.B.Blocks.state c.args.on.now in
    let mid = g.B.Blocks.state c.address_at.new.on in
    let t = c.args.self.now in
    let n = c.args.down - 1 in
    let k = c.args.k in
    let is : c.args.down ≡ suc (c.args.down - 1) = omega arith in
    let all = g.met.B.Blocks.keeps_all c.args.on.now c.address_at.new.on c.address_at.ensures.keeps in
    let looks = c.address_at.ensures.looks in
    let took : Took old mid t n (k / 409) = record { pins = c.address_at.ensures.pins; near = c.address_at.ensures.near } in
    let new = g.B.Blocks.state c.step.new.on in
    let more = g.met.B.Blocks.keeps_all c.address_at.new.on c.step.new.on c.step.ensures.keeps in
    let more_looks = c.step.ensures.looks in
    let here : IfErr c.from_residual-in_err-pointer-in-Some.result (Failed mid new) = search rules in
    any_failed_later old mid new all c.from_residual-in_err-pointer-in-Some.result here

pub returns-in_ok-pointer-in-Some-clause-found : goal.returns-in_ok-pointer-in-Some-clause-found
returns-in_ok-pointer-in-Some-clause-found g t c =
    let old = g.B.Blocks.state c.args.on.now in
    let mid = g.B.Blocks.state c.address_at.new.on in
    let t = c.args.self.now in
    let n = c.args.down - 1 in
    let k = c.args.k in
    let is : c.args.down ≡ suc (c.args.down - 1) = omega arith in
    let all = g.met.B.Blocks.keeps_all c.args.on.now c.address_at.new.on c.address_at.ensures.keeps in
    let looks = c.address_at.ensures.looks in
    let took : Took old mid t n (k / 409) = record { pins = c.address_at.ensures.pins; near = c.address_at.ensures.near } in
    let walked : Walked old mid t n (k / 409) (λ q. c.in_ok-above.above ≡ address_of q) = record { found = c.in_ok-above.ensures.found; way = c.in_ok-above.ensures.way } in
    let new = g.B.Blocks.state c.step.new.on in
    let more = g.met.B.Blocks.keeps_all c.address_at.new.on c.step.new.on c.step.ensures.keeps in
    let more_looks = c.step.ensures.looks in
    (subst (λ d. Walked old new t d k (λ q. c.address-found.result ≡ address_of q)) (sym is) (walked_more old mid new t n k (λ q. c.in_ok-above.above ≡ address_of q) all looks more more_looks walked took (λ q. c.address-found.result ≡ address_of q) (λ q f. subst (λ (p : Pointer). c.address-found.result ≡ address_of (below new (kind_down t n) p (k % 409))) (sym (address_local c.in-Some.at q (sym c.in-Some.is ∙ f))) (c.address-found.ensures ∙ ap (λ (p : Pointer). address_of p) c.in_ok-pointer-in-Some.ensures.found)) (λ q f had. subst (λ (p : Pointer). Got new (kind_down t n) p) (sym (address_local c.in-Some.at q (sym c.in-Some.is ∙ f))) (c.in_ok-pointer-in-Some.ensures.got (subst (λ (p : Pointer). (0 < mid.pins_left) ⊎ Got mid (kind_down t n) p) (address_local c.in-Some.at q (sym c.in-Some.is ∙ f)) had))))).found

pub returns-in_ok-pointer-in-Some-clause-way : goal.returns-in_ok-pointer-in-Some-clause-way
returns-in_ok-pointer-in-Some-clause-way g t c =
    let old = g.B.Blocks.state c.args.on.now in
    let mid = g.B.Blocks.state c.address_at.new.on in
    let t = c.args.self.now in
    let n = c.args.down - 1 in
    let k = c.args.k in
    let is : c.args.down ≡ suc (c.args.down - 1) = omega arith in
    let all = g.met.B.Blocks.keeps_all c.args.on.now c.address_at.new.on c.address_at.ensures.keeps in
    let looks = c.address_at.ensures.looks in
    let took : Took old mid t n (k / 409) = record { pins = c.address_at.ensures.pins; near = c.address_at.ensures.near } in
    let walked : Walked old mid t n (k / 409) (λ q. c.in_ok-above.above ≡ address_of q) = record { found = c.in_ok-above.ensures.found; way = c.in_ok-above.ensures.way } in
    let new = g.B.Blocks.state c.step.new.on in
    let more = g.met.B.Blocks.keeps_all c.address_at.new.on c.step.new.on c.step.ensures.keeps in
    let more_looks = c.step.ensures.looks in
    (subst (λ d. Walked old new t d k (λ q. c.address-found.result ≡ address_of q)) (sym is) (walked_more old mid new t n k (λ q. c.in_ok-above.above ≡ address_of q) all looks more more_looks walked took (λ q. c.address-found.result ≡ address_of q) (λ q f. subst (λ (p : Pointer). c.address-found.result ≡ address_of (below new (kind_down t n) p (k % 409))) (sym (address_local c.in-Some.at q (sym c.in-Some.is ∙ f))) (c.address-found.ensures ∙ ap (λ (p : Pointer). address_of p) c.in_ok-pointer-in-Some.ensures.found)) (λ q f had. subst (λ (p : Pointer). Got new (kind_down t n) p) (sym (address_local c.in-Some.at q (sym c.in-Some.is ∙ f))) (c.in_ok-pointer-in-Some.ensures.got (subst (λ (p : Pointer). (0 < mid.pins_left) ⊎ Got mid (kind_down t n) p) (address_local c.in-Some.at q (sym c.in-Some.is ∙ f)) had))))).way

pub returns-in_ok-pointer-in-Some-clause-block : goal.returns-in_ok-pointer-in-Some-clause-block
returns-in_ok-pointer-in-Some-clause-block g t c =
    block_some (g.B.Blocks.state c.step.new.on) c.in_ok-pointer-in-Some.pointer c.address-found.result c.address-found.ensures c.in_ok-pointer-in-Some.ensures.block

pub returns-in-None-clause-found : goal.returns-in-None-clause-found
returns-in-None-clause-found g t c =
    let old = g.B.Blocks.state c.args.on.now in
    let mid = g.B.Blocks.state c.address_at.new.on in
    let t = c.args.self.now in
    let n = c.args.down - 1 in
    let k = c.args.k in
    let is : c.args.down ≡ suc (c.args.down - 1) = omega arith in
    let all = g.met.B.Blocks.keeps_all c.args.on.now c.address_at.new.on c.address_at.ensures.keeps in
    let looks = c.address_at.ensures.looks in
    let took : Took old mid t n (k / 409) = record { pins = c.address_at.ensures.pins; near = c.address_at.ensures.near } in
    let walked : Walked old mid t n (k / 409) (λ q. c.in_ok-above.above ≡ address_of q) = record { found = c.in_ok-above.ensures.found; way = c.in_ok-above.ensures.way } in
    let still = g.met.B.Blocks.keeps_all c.address_at.new.on c.address_at.new.on (g.met.B.Blocks.keeps_at_once c.address_at.new.on) in
    (subst (λ d. Walked old mid t d k (λ q. None ≡ address_of q)) (sym is) (walked_more old mid mid t n k (λ q. c.in_ok-above.above ≡ address_of q) all looks still (looks_none mid) walked took (λ q. None ≡ address_of q) (λ q f. none_below mid (kind_down t n) q (k % 409) (sym c.in-None.is ∙ f)) (λ q f had. none_got mid (kind_down t n) q (sym c.in-None.is ∙ f)))).found

pub returns-in-None-clause-way : goal.returns-in-None-clause-way
returns-in-None-clause-way g t c =
    let old = g.B.Blocks.state c.args.on.now in
    let mid = g.B.Blocks.state c.address_at.new.on in
    let t = c.args.self.now in
    let n = c.args.down - 1 in
    let k = c.args.k in
    let is : c.args.down ≡ suc (c.args.down - 1) = omega arith in
    let all = g.met.B.Blocks.keeps_all c.args.on.now c.address_at.new.on c.address_at.ensures.keeps in
    let looks = c.address_at.ensures.looks in
    let took : Took old mid t n (k / 409) = record { pins = c.address_at.ensures.pins; near = c.address_at.ensures.near } in
    let walked : Walked old mid t n (k / 409) (λ q. c.in_ok-above.above ≡ address_of q) = record { found = c.in_ok-above.ensures.found; way = c.in_ok-above.ensures.way } in
    let still = g.met.B.Blocks.keeps_all c.address_at.new.on c.address_at.new.on (g.met.B.Blocks.keeps_at_once c.address_at.new.on) in
    (subst (λ d. Walked old mid t d k (λ q. None ≡ address_of q)) (sym is) (walked_more old mid mid t n k (λ q. c.in_ok-above.above ≡ address_of q) all looks still (looks_none mid) walked took (λ q. None ≡ address_of q) (λ q f. none_below mid (kind_down t n) q (k % 409) (sym c.in-None.is ∙ f)) (λ q f had. none_got mid (kind_down t n) q (sym c.in-None.is ∙ f)))).way

pub returns-in-None-clause-pins : goal.returns-in-None-clause-pins
returns-in-None-clause-pins g t c =
    let old = g.B.Blocks.state c.args.on.now in
    let mid = g.B.Blocks.state c.address_at.new.on in
    let t = c.args.self.now in
    let n = c.args.down - 1 in
    let k = c.args.k in
    let is : c.args.down ≡ suc (c.args.down - 1) = omega arith in
    let all = g.met.B.Blocks.keeps_all c.args.on.now c.address_at.new.on c.address_at.ensures.keeps in
    let looks = c.address_at.ensures.looks in
    let took : Took old mid t n (k / 409) = record { pins = c.address_at.ensures.pins; near = c.address_at.ensures.near } in
    (subst (λ d. Took old mid t d k) (sym is) (took_less took)).pins

pub returns-in-None-clause-near : goal.returns-in-None-clause-near
returns-in-None-clause-near g t c =
    let old = g.B.Blocks.state c.args.on.now in
    let mid = g.B.Blocks.state c.address_at.new.on in
    let t = c.args.self.now in
    let n = c.args.down - 1 in
    let k = c.args.k in
    let is : c.args.down ≡ suc (c.args.down - 1) = omega arith in
    let all = g.met.B.Blocks.keeps_all c.args.on.now c.address_at.new.on c.address_at.ensures.keeps in
    let looks = c.address_at.ensures.looks in
    let took : Took old mid t n (k / 409) = record { pins = c.address_at.ensures.pins; near = c.address_at.ensures.near } in
    (subst (λ d. Took old mid t d k) (sym is) (took_less took)).near
