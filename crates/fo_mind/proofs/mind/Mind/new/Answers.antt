use Rattle.std.proofs.Common.{◌≡◌, ℕ, ◌+◌, List, [], length, replicate, false, None, sym, ap, ◌∙◌, subst, arith}
use Rattle.fo_buffers.specs.Held.{Held}
use Rattle.fo_order.specs.Keeps.{Turns}
use Rattle.fo_unlink.specs.Pending.{Pending}
use Rattle.fo_facts.specs.declared.fact.Fact.{Fact}
use Rattle.fo_facts.specs.Known.{no_fact}
use Rattle.fo_waits.specs.declared.listed.Clearing.{Clearing}
use Rattle.fo_waits.specs.declared.listed.Wait.{Wait}
use Rattle.fo_mind.specs.Parts.{count_of}
use Rattle.fo_mind.specs.Opened.{no_turns}
use Rattle.fo_rooms.specs.of_takeout.Walking.{Walking}
use Rattle.fo_mind.specs.Sound.{Clearable, Holding, Making, Owing, Roomy, Rooted, Waiting}
use Rattle.fo_mind.proofs.Making.{making_opened}
use Rattle.fo_mind.proofs.Results.{both, three}
use Rattle.fo_mind.proofs.Starting.{clearable_opened, holding_opened, owing_opened, placed_opened, roomy_opened, waiting_opened}
use Rattle.fo_mind.specs.Turning.{Turning}
use Rattle.fo_mind.proofs.Turning.{turning_opened}
use Rattle.fo_mind.proofs.Standing.{root_opened, standing_opened}
use Rattle.fo_mind.proofs.Changing.{changing_opened}
use Rattle.fo_mind.specs.Sound.{Changing}
use Rattle.fo_mind.proofs.mind.Mind.new.Goals as goal

pub invariant_of-result-clause-placed : goal.invariant_of-result-clause-placed
invariant_of-result-clause-placed c =
    let a = c.first-first.ensures in
    let b = c.len.ensures in
    placed_opened c.args.labels c.in_ok-order.order c.in_ok-facts.facts c.first-first.result (c.first-first.result + c.len.result) a (omega (arith, a, b)) c.in_ok-order.ensures c.in_ok-facts.ensures c.requires.place c.requires.small

pub invariant_of-result-clause-rooted : goal.invariant_of-result-clause-rooted
invariant_of-result-clause-rooted c =
    let a = c.first-first.ensures in
    let b = c.len.ensures in
    let n : c.first-first.result + c.len.result ≡ count_of c.args.labels = omega (arith, a, b) in
    both (λ x y. Rooted x y c.args.one) a n c.requires.rooted

pub invariant_of-result-clause-holding : goal.invariant_of-result-clause-holding
invariant_of-result-clause-holding c = subst (λ (h : Held). Holding c.args.one.low c.first-first.result (c.first-first.result + c.len.result) c.args.labels h) (sym c.in_ok-buffers.ensures) (holding_opened c.args.one.low c.first-first.result (c.first-first.result + c.len.result) c.args.labels)

pub invariant_of-result-clause-waiting : goal.invariant_of-result-clause-waiting
invariant_of-result-clause-waiting c = both (λ (h : Held) (ws : List Wait). Waiting c.args.labels h ws) c.in_ok-buffers.ensures c.new-5.ensures.items (waiting_opened c.args.labels)

pub invariant_of-result-clause-clearable : goal.invariant_of-result-clause-clearable
invariant_of-result-clause-clearable c = subst (λ (cs : List Clearing). Clearable c.args.labels c.args.one.low c.args.one.high cs) (sym c.new-6.ensures.items) (clearable_opened c.args.labels c.args.one.low c.args.one.high)

pub invariant_of-result-clause-owing : goal.invariant_of-result-clause-owing
invariant_of-result-clause-owing c = three (λ (h : Held) (t : Turns) (fs : List Fact). Owing h t fs) c.in_ok-buffers.ensures c.in_ok-order.ensures c.in_ok-facts.ensures (owing_opened (c.first-first.result + c.len.result))

pub invariant_of-result-clause-roomy : goal.invariant_of-result-clause-roomy
invariant_of-result-clause-roomy c = subst (λ (cs : List Clearing). Roomy c.in_ok-buffers.buffers c.in_ok-order.order c.args.labels c.in_ok-facts.facts c.args.one.low 0 0 (0 + length cs)) (sym c.new-6.ensures.items) (three (λ (h : Held) (t : Turns) (fs : List Fact). Roomy h t c.args.labels fs c.args.one.low 0 0 0) c.in_ok-buffers.ensures c.in_ok-order.ensures c.in_ok-facts.ensures (roomy_opened c.args.labels (c.first-first.result + c.len.result) c.args.one.low))

pub invariant_of-result-clause-making : goal.invariant_of-result-clause-making
invariant_of-result-clause-making c =
    let n = c.first-first.result + c.len.result in
    let room = ap (λ (q : Pending). q.room) c.in_ok-queue.ensures.empty in
    subst (λ (cs : List Clearing). Making c.in_ok-facts.facts 0 (0 + length cs) c.new-7.result c.in_ok-queue.queue.room) (sym c.new-6.ensures.items)
    (three (λ (fs : List Fact) (k m : ℕ). Making fs 0 0 k m) c.in_ok-facts.ensures c.new-7.ensures room (making_opened n))

pub invariant_of-result-clause-rests : goal.invariant_of-result-clause-rests
invariant_of-result-clause-rests c = ap (λ (w : Walking). length w.pairs) c.new-8.ensures

pub invariant_of-result-clause-awaits : goal.invariant_of-result-clause-awaits
invariant_of-result-clause-awaits c = let n = c.new-5.ensures.len in let e = ap length c.new-6.ensures.items in omega (arith, n, e)

pub invariant_of-result-clause-clears_more : goal.invariant_of-result-clause-clears_more
invariant_of-result-clause-clears_more c = let n = c.new-6.ensures.len in omega (arith, n)

pub returns : goal.returns
returns c =
    let a = c.first-first.ensures in
    let b = c.len.ensures in
    let n : c.first-first.result + c.len.result ≡ count_of c.args.labels = omega (arith, a, b) in
    let turns = c.in_ok-order.ensures ∙ ap no_turns n in
    let facts = c.in_ok-facts.ensures ∙ ap (λ k. replicate k no_fact) n in
    let removals = ap (λ (q : Pending). q.removals) c.in_ok-queue.ensures.empty in
    λ k. record {
      held = c.in_ok-buffers.ensures k;
      turns = turns k;
      region = c.args.labels;
      facts = facts k;
      waits = c.new-5.ensures.items k;
      clears = c.new-6.ensures.items k;
      one = c.args.one;
      one_bytes = c.args.one_bytes;
      doubt = None;
      next = c.args.one.numbers;
      granted = false;
      spare = 0;
      pins = 0;
      room = 0;
      removals = removals k;
      walk = c.new-8.ensures k;
      links = c.new-7.ensures k;
      disk = [];
      faults = 0;
    }

pub invariant_of-result-clause-turning : goal.invariant_of-result-clause-turning
invariant_of-result-clause-turning c = three (λ (h : Held) (t : Turns) (fs : List Fact). Turning c.first-first.result h t fs) c.in_ok-buffers.ensures c.in_ok-order.ensures c.in_ok-facts.ensures (turning_opened c.first-first.result (c.first-first.result + c.len.result))

pub invariant_of-result-clause-standing : goal.invariant_of-result-clause-standing
invariant_of-result-clause-standing c = standing_opened c.in_ok-buffers.buffers (c.first-first.result + c.len.result) c.in_ok-facts.facts c.new-6.result.items c.in_ok-facts.ensures c.new-6.ensures.items

pub invariant_of-result-clause-root_in : goal.invariant_of-result-clause-root_in
invariant_of-result-clause-root_in c = root_opened (c.first-first.result + c.len.result) c.in_ok-facts.facts c.in_ok-facts.ensures c.requires.live

pub invariant_of-result-clause-changing : goal.invariant_of-result-clause-changing
invariant_of-result-clause-changing c = subst (λ (h : Held). Changing c.args.one.high c.args.labels h) (sym c.in_ok-buffers.ensures) (changing_opened c.args.one.high c.args.labels)
