use Rattle.std.proofs.Common.{◌≤◌, [], sym, ap, subst}
use Rattle.fo_image.specs.Place.{label_block}
use Rattle.fo_labels.specs.Region.{Region}
use Rattle.fo_mind.specs.MindParts.{parts}
use Rattle.fo_ports.specs.Blocks.{zero_bytes}
use Rattle.fo_cache.proofs.Calling.{count_relabeled, fits_given, keeps_given, labels_before}
use Rattle.fo_cache.proofs.Labelling.{dirty_changed, label_within, labels_given}
use Rattle.fo_cache.proofs.Firsts.{one_like}
use Rattle.std.proofs.Common.{ap as along}
use Rattle.fo_mind.specs.Parts.{Parts as All}
use Rattle.fo_cache.proofs.cache.Cache.new_block.Goals as goal

pub invariant_of-self-clause-fits : goal.invariant_of-self-clause-fits
invariant_of-self-clause-fits g c =
    let self = c.args.self.now in
    let s = g.D.Disk.state self.main in
    let given = c.new_block.ensures.given [] 0 in
    fits_given (parts self.mind [] 0) (parts c.new_block.new.self [] 0) c.new_block.result zero_bytes s.holds s.unsure given.held given.turns (ap (λ (r : Region). r.first) given.region) (labels_before self.mind.placed given.usable.block) self.fits

pub invariant_of-self-clause-sized : goal.invariant_of-self-clause-sized
invariant_of-self-clause-sized g c =
    let self = c.args.self.now in
    let given = c.new_block.ensures.given [] 0 in
    subst (λ n. n ≤ g.D.Disk.size self.main) (sym (count_relabeled _ _ _ _ given.region)) self.sized

pub returns-clause-gives : goal.returns-clause-gives
returns-clause-gives g c = let self = c.args.self.now in c.new_block.ensures.gives (g.D.Disk.state self.main).holds (g.D.Disk.faults self.main)

pub invariant_of-self-clause-spelled : goal.invariant_of-self-clause-spelled
invariant_of-self-clause-spelled g c =
    let self = c.args.self.now in
    let s = g.D.Disk.state self.main in
    let given = c.new_block.ensures.given [] 0 in
    let within = label_within self.mind.placed given.usable.block in
    labels_given (parts self.mind [] 0) (parts c.new_block.new.self [] 0) c.new_block.result _ s.holds s.unsure given.region given.turns within given.usable.block (dirty_changed self.mind.order (label_block c.new_block.result) within) self.spelled

pub invariant_of-self-clause-first : goal.invariant_of-self-clause-first
invariant_of-self-clause-first g c =
    let self = c.args.self.now in
    let s = g.D.Disk.state self.main in
    one_like (parts self.mind [] 0) (parts c.new_block.new.self [] 0) s.holds (along (λ (z : All). z.one_bytes) (c.new_block.ensures.given [] 0).rest) (along (λ (z : All). z.doubt) (c.new_block.ensures.given [] 0).rest) self.first

pub returns-clause-keeps : goal.returns-clause-keeps
returns-clause-keeps g c = let self = c.args.self.now in keeps_given (c.new_block.ensures.given (g.D.Disk.state self.main).holds (g.D.Disk.faults self.main))
