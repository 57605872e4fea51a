use Rattle.fo_buffers.specs.Held.{held_at}
use Rattle.fo_mind.proofs.Getting.{from_source}
use Rattle.fo_mind.proofs.Results.{on_ok}
use Rattle.fo_mind.proofs.mind.Mind.take.Goals as goal

pub returns-clause-got : goal.returns-clause-got
returns-clause-got g c = on_ok c.copy_out.result (λ f. f _ _) c.copy_out.ensures.got

pub returns-clause-source : goal.returns-clause-source
returns-clause-source g c = on_ok c.copy_out.result (from_source (g.D.Disk.state c.args.main.now).holds c.args.at c.args.self.now.buffers (held_at c.hold.new.self.buffers c.args.at) _ c.in_default.ensures.source) c.copy_out.ensures.is
