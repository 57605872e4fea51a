use Rattle.std.proofs.Common.{Some, sym, ap, ◌∙◌}
use Rattle.std.specs.Option.{option_copied}
use Rattle.fo_buffers.specs.Held.{held_at}
use Rattle.fo_mind.proofs.Getting.{none_clash}
use Rattle.fo_mind.proofs.news.copied.Goals as goal

pub returns-in-Some : goal.returns-in-Some
returns-in-Some c = ap Some c.bytes_of.ensures ∙ ap option_copied (sym c.in-Some.is) ∙ c.bytes.ensures.value

pub returns-in-None : goal.returns-in-None
returns-in-None c = none_clash (held_at c.args.buffers.now c.args.at) (ap option_copied (sym c.in-None.is) ∙ c.bytes.ensures.value) c.requires
