use Rattle.std.proofs.Common.{◌-◌, ◌<◌, sym, ◌∙◌, subst, arith}
use Rattle.fo_ports.specs.State.{Frame, none}
use Rattle.fo_ports_plain.specs.Meaning.{PlainKeeps, state_of}
use Rattle.fo_ports_plain.specs.Parts.{parts}
use Rattle.fo_ports_plain.proofs.Retired.{retired_now, retired_frame, retired_covers, retired_keeps}
use Rattle.fo_ports_plain.proofs.calls.PlainBlocksBlocks.retire.Goals as goal

pub returns-clause-now : goal.returns-clause-now
returns-clause-now c = retired_now (parts c.args.self.now) c.close_alone.ensures.updates

pub returns-clause-images : goal.returns-clause-images
returns-clause-images c =
    let same = retired_now (parts c.args.self.now) c.close_alone.ensures.updates in
    record { each = λ image is. record { each = λ b. record { bytes = (is.each b).bytes ∙ (same.each b).bytes; slots = λ j. (is.each b).slots j ∙ (same.each b).slots j } } }

pub returns-clause-frame : goal.returns-clause-frame
returns-clause-frame c =
    let self = c.args.self.now in
    let some : 0 < self.room = c.requires.room in
    subst (λ z. Frame none none 1 (state_of (parts self)) (state_of z)) (sym c.close_alone.ensures.rest)
    (retired_frame (parts self) c.close_alone.ensures.updates (self.room - 1) c.close_alone.new.self.queued (omega (arith, some)))

pub returns-clause-covers : goal.returns-clause-covers
returns-clause-covers c =
    let both = retired_covers (parts c.args.self.now) c.close_alone.ensures.updates c.args.self.now.sound c.requires.root.0 c.requires.root.1 c.requires.root.2 in
    (λ t. both.0, both.1)

pub returns-clause-keeps : goal.returns-clause-keeps
returns-clause-keeps c =
    let self = c.args.self.now in
    subst (λ z. PlainKeeps (parts self) z) (sym c.close_alone.ensures.rest)
    (retired_keeps (parts self) c.close_alone.new.self.blocks.items (self.room - 1) c.close_alone.new.self.queued c.close_alone.ensures.updates)
