use Rattle.std.proofs.Common.{◌≡◌, ◌+◌, ◌<◌, ◌++◌, [], ◌∷◌, take, drop, length, get_or, sym, ap, subst, ◌∙◌, arith}
use Rattle.std.proofs.lemmas.List.{take_more}
use Rattle.fo_files_way.proofs.of_looks.Looks.{looks_joins}
use Rattle.fo_files_way.specs.of_files_at.declared.at.Step.{Step}
use Rattle.fo_files_way.specs.of_files_at.declared.file.File.{File}
use Rattle.fo_files_way.specs.of_files_at.Way.{IsStep, first_of}
use Rattle.fo_files_way.proofs.of_files_at.Ways.{step_stays}
use Rattle.fo_files_plan.specs.Along.{IsAlong}
use Rattle.fo_files_plan.proofs.Trails.{step_in, first_here, slice_end, caused_since}
use Rattle.fo_files_plan.proofs.along.add_steps.Goals as goal

pub returns-in-Err-clause-looks : goal.returns-in-Err-clause-looks
returns-in-Err-clause-looks g c =
    let v = c.loop-k.invariant in (
      looks_joins (g.met.B.Blocks.keeps_all c.args.on.now c.loop-k.on v.3) v.2 c.add_step.ensures.looks.0,
      g.met.B.Blocks.keeps_joins c.args.on.now c.loop-k.on c.add_step.new.on v.3 c.add_step.ensures.looks.1,
    )

pub returns-in-Err-clause-cause : goal.returns-in-Err-clause-cause
returns-in-Err-clause-cause g c =
    let v = c.loop-k.invariant in
    caused_since (g.B.Blocks.state c.args.on.now) (g.B.Blocks.state c.loop-k.on) (g.B.Blocks.state c.add_step.new.on) (g.met.B.Blocks.keeps_all c.args.on.now c.loop-k.on v.3) c.in-Err.why c.in-Err.ensures.cause

pub add_step-requires-clause-step : goal.add_step-requires-clause-step
add_step-requires-clause-step g c =
    let way = c.args.way.now in
    let step = c.index.result.now in
    let lt : c.loop-k.k < length way.steps.items = let test = c.loop-k-test.true in let end = c.len-k-end.ensures in omega (arith, test, end) in
    let h = step_in (g.B.Blocks.state c.args.on.now) 2120 way.steps.items way.file c.requires.way.1.0 c.loop-k.k step lt c.requires.way.1.1.follows in
    let all = g.met.B.Blocks.keeps_all c.args.on.now c.loop-k.on c.loop-k.invariant.3 in (
      h.0,
      subst (λ (x : Step). IsStep (g.B.Blocks.state c.loop-k.on) h.0 x) (sym c.index.ensures) (step_stays (g.B.Blocks.state c.args.on.now) (g.B.Blocks.state c.loop-k.on) h.0 (get_or way.steps.items c.loop-k.k step) all h.1),
    )

pub loop-k-preserved : goal.loop-k-preserved
loop-k-preserved g c =
    let v = c.loop-k.invariant in
    let s = g.B.Blocks.state c.loop-k.on in
    let u = g.B.Blocks.state c.add_step.new.on in
    let way = c.args.way.now in
    let steps = way.steps.items in
    let k = c.loop-k.k in
    let step = c.index.result.now in
    let next = c.first_file-next.result.now in
    let p = c.in-Ok.longer in
    let lt : k < length steps = let test = c.loop-k-test.true in let end = c.len-k-end.ensures in omega (arith, test, end) in
    let here : first_of (drop k steps) way.file ≡ step.dir = first_here steps way.file k step lt ∙ ap (λ (x : Step). x.dir) (sym c.index.ensures) in
    let more : take (k + 1) steps ≡ take k steps ++ step ∷ [] = take_more steps k step lt ∙ ap (λ (x : Step). take k steps ++ x ∷ []) (sym c.index.ensures) in
    let on : IsAlong u (take k steps ++ step ∷ []) next p = c.in-Ok.ensures.along (take k steps) (subst (λ (f : File). IsAlong s (take k steps) f c.loop-k.plan) here v.0) in
    let behind : next ≡ first_of (drop (k + 1) steps) way.file = c.first_file-next.ensures ∙ ap (λ xs. first_of xs way.file) (slice_end c.as_slice.result.now steps (k + 1) c.as_slice.ensures.value) in
    let pins = v.1 in
    let taken = c.add_step.ensures.pins in (
      subst (λ (f : File). IsAlong u (take (k + 1) steps) f p) behind (subst (λ xs. IsAlong u xs next p) (sym more) on),
      omega (arith, pins, taken),
      looks_joins (g.met.B.Blocks.keeps_all c.args.on.now c.loop-k.on v.3) v.2 c.add_step.ensures.looks.0,
      g.met.B.Blocks.keeps_joins c.args.on.now c.loop-k.on c.add_step.new.on v.3 c.add_step.ensures.looks.1,
    )
