use Rattle.std.proofs.Common.{Bool, false, cond, set, sym, ap, ◌∙◌}
use Rattle.fo_order.specs.Turns.{changed}
use Rattle.fo_facts.specs.declared.fact.Fact.{Fact}
use Rattle.fo_facts.specs.Known.{fact_at}
use Rattle.fo_mind.proofs.puts.take_turn.Goals as goal

pub returns-then-not-is_due-clause-turns : goal.returns-then-not-is_due-clause-turns
returns-then-not-is_due-clause-turns c =
    let facts = c.args.facts.now in
    let at = c.args.at in
    sym (ap (λ (b : Bool). cond b (changed c.args.order.now at (fact_at facts at).rank) c.args.order.now) (sym c.is_due.ensures ∙ c.if-not-is_due.true))

pub returns-then-not-is_due-clause-items : goal.returns-then-not-is_due-clause-items
returns-then-not-is_due-clause-items c =
    let facts = c.args.facts.now in
    let at = c.args.at in
    sym (ap (λ (b : Bool). cond b (set facts at (record (fact_at facts at) { owes = false })) facts) (sym c.is_due.ensures ∙ c.if-not-is_due.true))

pub change-requires-clause-room : goal.change-requires-clause-room
change-requires-clause-room c = λ _. c.requires.room (sym c.is_due.ensures ∙ c.if-not-is_due.false)

pub returns-clause-turns : goal.returns-clause-turns
returns-clause-turns c =
    let facts = c.args.facts.now in
    let at = c.args.at in
    c.change.ensures ∙ ap (λ (f : Fact). changed c.args.order.now at f.rank) c.get-fact.ensures
    ∙ sym (ap (λ (b : Bool). cond b (changed c.args.order.now at (fact_at facts at).rank) c.args.order.now) (sym c.is_due.ensures ∙ c.if-not-is_due.false))

pub returns-clause-items : goal.returns-clause-items
returns-clause-items c =
    let facts = c.args.facts.now in
    let at = c.args.at in
    c.owe_no_more.ensures ∙ sym (ap (λ (b : Bool). cond b (set facts at (record (fact_at facts at) { owes = false })) facts) (sym c.is_due.ensures ∙ c.if-not-is_due.false))
