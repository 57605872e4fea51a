use Rattle.std.proofs.Common.{nat_eq, false, true, refl, sym, ap, ◌≡◌, ◌∙◌}
use Rattle.std.specs.Map.{lookup}
use Rattle.fo_buffers.specs.Held.{Held, buffer_of, put, unlisted, used}
use Rattle.fo_bring.proofs.Bringing.{loaded_clean, loaded_read, not_clean}
use Rattle.fo_bring.proofs.reads.load_in.Goals as goal

pub returns-then-recall-clause-ok : goal.returns-then-recall-clause-ok
returns-then-recall-clause-ok g c = loaded_clean (g.D.Disk.state c.args.main.now).holds c.args.at c.args.buffers.now c.recall.new.self (lookup (nat_eq c.args.at) c.args.buffers.now.clean) refl (sym c.recall.ensures.found ∙ c.if-recall.true) c.recall.ensures.held

pub returns-clause-ok : goal.returns-clause-ok
returns-clause-ok g c =
    let no = sym c.recall.ensures.found ∙ c.if-recall.false in
    let same : c.recall.new.self ≡ c.args.buffers.now = not_clean _ _ no c.recall.ensures.held in
    let l = c.in-Ok.ensures.ok in
    loaded_read (g.D.Disk.state c.args.main.now).holds c.args.at c.args.buffers.now c.load.new.self (lookup (nat_eq c.args.at) c.args.buffers.now.clean) refl no l.0 (l.1 ∙ ap (λ (h : Held). used (put (unlisted h c.args.at) c.args.at (buffer_of l.0 false true))) same) l.2
