use Rattle.std.proofs.Common.{sym, ap, ◌∙◌}
use Rattle.std.specs.Option.{option_copied}
use Rattle.fo_buffers.specs.Held.{held_at}
use Rattle.fo_bring.proofs.Bringing.{good_in}
use Rattle.fo_bring.proofs.reads.is_good_in.Goals as goal

pub returns-in-Some : goal.returns-in-Some
returns-in-Some c =
    let g = good_in c.args.first c.args.count c.args.kind (held_at c.args.buffers.now c.args.at) c.in-Some.bytes.now (ap option_copied (sym c.in-Some.is) ∙ c.bytes.ensures.value) in
    (λ t. g.0 (c.is_good.ensures.0 t), λ x. c.is_good.ensures.1 (g.1 x))
