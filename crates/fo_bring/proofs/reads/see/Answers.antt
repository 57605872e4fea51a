use Rattle.std.proofs.Common.{nat_eq, refl, sym, ◌∙◌}
use Rattle.std.specs.Map.{lookup}
use Rattle.fo_bring.proofs.Bringing.{seen_clean, seen_read, clean_at_once, clean_read}
use Rattle.fo_bring.proofs.reads.see.Goals as goal

pub returns-then-is_clean-clause-ok : goal.returns-then-is_clean-clause-ok
returns-then-is_clean-clause-ok g c = seen_clean (g.D.Disk.state c.args.main.now).holds c.args.at c.args.buffers.now c.args.buffers.now (lookup (nat_eq c.args.at) c.args.buffers.now.clean) refl (sym c.is_clean.ensures ∙ c.if-is_clean.true) refl

pub returns-in-Ok-clause-ok : goal.returns-in-Ok-clause-ok
returns-in-Ok-clause-ok g c = seen_read (g.D.Disk.state c.args.main.now).holds c.args.at c.args.buffers.now c.look.new.self (lookup (nat_eq c.args.at) c.args.buffers.now.clean) refl (sym c.is_clean.ensures ∙ c.if-is_clean.false) c.in-Ok.ensures.ok

pub returns-then-is_clean-clause-clean : goal.returns-then-is_clean-clause-clean
returns-then-is_clean-clause-clean g c = clean_at_once (g.D.Disk.state c.args.main.now).holds refl

pub returns-in-Ok-clause-clean : goal.returns-in-Ok-clause-clean
returns-in-Ok-clause-clean g c = clean_read c.in-Ok.ensures.ok
