use Rattle.std.proofs.Common.{nat_eq, refl, ap}
use Rattle.std.specs.Map.{lookup}
use Rattle.fo_buffers.specs.Held.{Held, held_at}
use Rattle.fo_bring.proofs.Bringing.{clean_read, seen_read}
use Rattle.fo_closing.proofs.looks.see.Goals as goal

pub returns-in-Ok-clause-ok : goal.returns-in-Ok-clause-ok
returns-in-Ok-clause-ok g c = seen_read (g.D.Disk.state c.args.main.now).holds c.args.at c.args.buffers.now c.look.new.self (lookup (nat_eq c.args.at) c.args.buffers.now.clean) refl c.requires.unclean c.in-Ok.ensures.ok

pub returns-in-Ok-clause-clean : goal.returns-in-Ok-clause-clean
returns-in-Ok-clause-clean g c = clean_read c.in-Ok.ensures.ok

pub returns-in-Ok-clause-held : goal.returns-in-Ok-clause-held
returns-in-Ok-clause-held g c = λ q. ap (λ (h : Held). held_at h q) c.in-Ok.ensures.ok.is

pub returns-in-Ok-clause-room : goal.returns-in-Ok-clause-room
returns-in-Ok-clause-room g c = ap (λ (h : Held). h.room) c.in-Ok.ensures.ok.is
