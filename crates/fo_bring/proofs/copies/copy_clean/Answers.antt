use Rattle.std.proofs.Common.{nat_eq, sym, ap, ◌∙◌}
use Rattle.std.specs.Option.{option_copied}
use Rattle.std.specs.Map.{lookup}
use Rattle.fo_bring.proofs.Bringing.{gets_clean}
use Rattle.fo_bring.proofs.copies.copy_clean.Goals as goal

pub returns-in-Some-clause-copied : goal.returns-in-Some-clause-copied
returns-in-Some-clause-copied c = λ yes. gets_clean c.args.first c.args.count c.args.kind c.args.rank (lookup (nat_eq c.args.at) c.args.buffers.now.clean) c.in-Some.bytes.now _ (ap option_copied (sym c.in-Some.is) ∙ c.clean_bytes.ensures.value) (c.copy_good.ensures.copied yes)
