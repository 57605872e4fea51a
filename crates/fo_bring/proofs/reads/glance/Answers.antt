use Rattle.std.proofs.Common.{◌∙◌, refl}
use Rattle.fo_bring.proofs.Bringing.{cut_held, cut_room, seen_held, glanced, clean_gone, clean_joins}
use Rattle.fo_bring.proofs.reads.glance.Goals as goal

pub returns-then-not-copy_clean-clause-held : goal.returns-then-not-copy_clean-clause-held
returns-then-not-copy_clean-clause-held g c = cut_held c.args.at c.args.buffers.now c.see.new.buffers c.forget.new.self c.in_default.ensures.ok.held c.requires.none c.forget.ensures

pub returns-then-not-copy_clean-clause-room : goal.returns-then-not-copy_clean-clause-room
returns-then-not-copy_clean-clause-room g c = cut_room c.args.at c.see.new.buffers c.forget.new.self c.forget.ensures ∙ c.in_default.ensures.ok.room

pub returns-clause-ok : goal.returns-clause-ok
returns-clause-ok g c = record { seen = c.in_default.ensures.ok; gets = glanced c.in_default.ensures.ok (c.copy_clean.ensures.copied c.if-not-copy_clean.false) }

pub returns-clause-held : goal.returns-clause-held
returns-clause-held g c = λ q. seen_held (g.D.Disk.state c.args.main.now).holds c.args.at c.args.buffers.now c.see.new.buffers c.see.new.buffers c.in_default.ensures.ok refl q

pub returns-then-not-copy_clean-clause-clean : goal.returns-then-not-copy_clean-clause-clean
returns-then-not-copy_clean-clause-clean g c = clean_joins c.see.ensures.clean (clean_gone (g.D.Disk.state c.args.main.now).holds c.args.at c.see.new.buffers c.forget.new.self c.forget.ensures)
