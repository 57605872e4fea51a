use Rattle.std.proofs.Common.{◌-◌, ◌≤◌, ◌∙◌, ap, drop, length, arith}
use Rattle.std.proofs.lemmas.List.{length-take}
use Rattle.fo_links.proofs.Buffer.{part_later}
use Rattle.fo_links.proofs.inbox.Inbox.consume.Goals as goal

pub returns : goal.returns
returns g c =
    let within : c.args.count ≤ c.self.inside.end - c.self.inside.start = omega (arith, c.requires, ap length c.self.view_is, length-take (c.self.inside.end - c.self.inside.start) (drop c.self.inside.start c.self.inside.bytes.items)) in
    part_later c.self.inside.bytes.items c.self.inside.start c.self.inside.end c.args.count within ∙ ap (drop c.args.count) c.self.view_is
