use Rattle.std.proofs.Common.{rules, ◌≡◌, ◌∷◌, inr, ◌∙◌}
use Rattle.fo_ports_plain.specs.declared.moment.Moment.{Moment}
use Rattle.fo_ports_plain.proofs.plain.PlainBlocks.pass.Goals as goal

pub returns-then-is_ok-clause-seen : goal.returns-then-is_ok-clause-seen
returns-then-is_ok-clause-seen c =
    let m : Moment = record { blocks = c.in-Ok.blocks } in
    let is : c.insert.new.self.items ≡ m ∷ c.args.self.now.seen.items = search rules in
    inr (m, c.in-Ok.ensures.items ∙ c.deref.ensures.value, is)
