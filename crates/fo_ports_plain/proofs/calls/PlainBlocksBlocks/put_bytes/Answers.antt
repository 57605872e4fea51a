use Rattle.std.proofs.Common.{◌≡◌, sym, ◌∙◌, subst}
use Rattle.fo_ports.specs.State.{Calm}
use Rattle.fo_ports_plain.specs.Meaning.{state_of}
use Rattle.fo_ports_plain.specs.Parts.{parts}
use Rattle.fo_ports_plain.proofs.Bytes.{bytes_put, bytes_added, bytes_calm, bytes_kept, same_use}
use Rattle.fo_ports_plain.proofs.calls.PlainBlocksBlocks.put_bytes.Goals as goal

pub returns-clause-now : goal.returns-clause-now
returns-clause-now c = bytes_put c.set_bytes.ensures.updates

pub returns-clause-images : goal.returns-clause-images
returns-clause-images c = bytes_added (bytes_put c.set_bytes.ensures.updates) (λ image same on j w still. same_use _ _ ((same.each on).slots j ∙ (bytes_put c.set_bytes.ensures.updates).slots on j))

pub returns-clause-calm : goal.returns-clause-calm
returns-clause-calm c = subst (λ z. Calm (λ b. b ≡ c.args.at) 0 (state_of (parts c.args.self.now)) (state_of z)) (sym c.set_bytes.ensures.rest) (bytes_calm (parts c.args.self.now) c.set_bytes.ensures.updates)

pub returns-clause-keeps : goal.returns-clause-keeps
returns-clause-keeps c = bytes_kept (parts c.args.self.now) (parts c.set_bytes.new.self) c.set_bytes.ensures.updates c.set_bytes.ensures.rest
