use Rattle.std.proofs.Common.{◌≡◌, ◌<◌, ◌∙◌, [], false, true, ap, refl, sym, subst}
use Rattle.fo_unlink.specs.Pending.{Pending}
use Rattle.fo_unlink.specs.Work.{work}
use Rattle.fo_mind.specs.MindParts.{parts}
use Rattle.fo_mind.specs.Parts.{Parts, count_of}
use Rattle.fo_closing.specs.Turned.{Went}
use Rattle.fo_closing.proofs.Resting.{looked_turned}
use Rattle.fo_closing.proofs.Taking.{count_turned}
use Rattle.fo_closing.proofs.Turning.{none_left, turned_of}
use Rattle.fo_closing.proofs.turn.take.Goals as goal

never : {A : Type 0} → false ≡ true → A
never e = cc

pub returns-in_default-clause-turned : goal.returns-in_default-clause-turned
returns-in_default-clause-turned g c = (none_left c.args.mind.now.queue.removals (sym c.first.ensures ∙ c.in_default.is), refl, refl)

pub returns-then-not-is_sure-clause-turned : goal.returns-then-not-is_sure-clause-turned
returns-then-not-is_sure-clause-turned g c = record {
  first = c.in-Some.first;
  is_first = sym c.first.ensures ∙ c.in-Some.is;
  unsure = λ s. never (sym c.if-not-is_sure.true ∙ c.is_sure.ensures.1 s);
  is = c.give_up.ensures.is;
  rest = c.give_up.ensures.parts _ _;
  less = c.give_up.ensures.less;
}

pub returns-clause-turned : goal.returns-clause-turned
returns-clause-turned g c =
    let holds = (g.D.Disk.state c.prepare.new.main).holds in
    let faults = g.D.Disk.faults c.prepare.new.main in
    let w = c.go_on.ensures.went holds faults in
    turned_of c.go_on.result (record {
      first = c.in-Some.first;
      block = c.prepare.new.block;
      mid = w.0;
      is_first = sym c.first.ensures ∙ c.in-Some.is;
      sure = c.is_sure.ensures.0 c.if-not-is_sure.false;
      known = c.in_default-prepare.ensures.known;
      looked = looked_turned c.prepare.ensures.looked w.1;
      went = subst (λ (r : Pending). Went c.go_on.result c.in-Some.first c.prepare.new.block w.0 (parts c.go_on.new.mind holds faults) r c.go_on.new.mind.queue) c.prepare.ensures.queue w.2;
      less = subst (λ (r : Pending). work c.go_on.new.mind.queue < work r) c.prepare.ensures.queue c.go_on.ensures.less;
    })

pub returns-clause-count : goal.returns-clause-count
returns-clause-count g c = count_turned (g.D.Disk.state c.args.main.now).holds c.go_on.result _ _ _ _ (returns-clause-turned g c)

pub returns-then-not-is_sure-clause-count : goal.returns-then-not-is_sure-clause-count
returns-then-not-is_sure-clause-count g c = ap (λ (x : Parts). count_of x.region) (c.give_up.ensures.parts [] 0)
