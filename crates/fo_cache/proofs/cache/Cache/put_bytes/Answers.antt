use Rattle.std.proofs.Common.{◌+◌, ◌≤◌, [], length, sym, ap, ◌∙◌, subst, arith}
use Rattle.std.specs.Option.{option_map}
use Rattle.fo_buffers.specs.Held.{block_in, held_at}
use Rattle.fo_labels.specs.Region.{Region}
use Rattle.fo_ports.specs.Blocks.{put_at}
use Rattle.fo_ports.proofs.Lengths.{length_put_at}
use Rattle.fo_mind.specs.Laws.{held_pinned, pinned_held}
use Rattle.fo_mind.specs.MindParts.{parts}
use Rattle.fo_mind.specs.Parts.{Parts, count_of}
use Rattle.fo_mind.proofs.Refilling.{refills_of, within_facts}
use Rattle.fo_cache.proofs.Calling.{fits_refilled, keeps_refilled}
use Rattle.fo_order.specs.Keeps.{Turns}
use Rattle.fo_order.specs.Turns.{flag_at}
use Rattle.fo_mind.proofs.Refilling.{flags_turned}
use Rattle.fo_cache.proofs.Labelling.{labels_kept}
use Rattle.fo_cache.proofs.Firsts.{one_like}
use Rattle.std.proofs.Common.{ap as along}
use Rattle.fo_mind.specs.Parts.{Parts as All}
use Rattle.fo_cache.proofs.cache.Cache.put_bytes.Goals as goal

pub invariant_of-self-clause-fits : goal.invariant_of-self-clause-fits
invariant_of-self-clause-fits g c =
    let self = c.args.self.now in
    let s = g.D.Disk.state self.main in
    let p = parts self.mind [] 0 in
    let q = parts c.put_bytes.new.self [] 0 in
    let x = pinned_held (held_at p.held c.args.at) c.requires.pinned in
    let bytes = put_at c.args.from c.args.bytes.now x.0.block in
    let refilled = c.put_bytes.ensures.refilled x.0.block (sym (ap (option_map block_in) x.1)) [] 0 in
    let whole = (self.mind.holding.good c.args.at x.0 x.1).long in
    let long = length_put_at c.args.from c.args.bytes.now x.0.block (subst (λ n. c.args.from + length c.args.bytes.now ≤ n) (sym whole) c.requires.within) ∙ whole in
    let w = within_facts c.args.at self.mind.placed self.mind.holding (held_pinned self.mind.buffers c.args.at c.requires.pinned) in
    let r = refills_of c.args.at bytes p.held q.held self.mind.holding (held_pinned self.mind.buffers c.args.at c.requires.pinned) long refilled.held in
    fits_refilled p q c.args.at s.holds s.unsure w.0 w.1 r refilled.turns (ap (λ (z : Parts). z.region) refilled.rest) self.fits

pub invariant_of-self-clause-sized : goal.invariant_of-self-clause-sized
invariant_of-self-clause-sized g c =
    let self = c.args.self.now in
    let x = pinned_held (held_at self.mind.buffers c.args.at) c.requires.pinned in
    let refilled = c.put_bytes.ensures.refilled x.0.block (sym (ap (option_map block_in) x.1)) [] 0 in
    subst (λ (r : Region). count_of r ≤ g.D.Disk.size self.main) (sym (ap (λ (z : Parts). z.region) refilled.rest)) self.sized

pub returns-clause-now : goal.returns-clause-now
returns-clause-now g c = let self = c.args.self.now in c.put_bytes.ensures.now (g.D.Disk.state self.main).holds (g.D.Disk.faults self.main)

pub returns-clause-calm : goal.returns-clause-calm
returns-clause-calm g c = let self = c.args.self.now in c.put_bytes.ensures.calm (g.D.Disk.state self.main).holds (g.D.Disk.faults self.main)

pub returns-clause-no_wait : goal.returns-clause-no_wait
returns-clause-no_wait g c = let self = c.args.self.now in c.put_bytes.ensures.no_wait (g.D.Disk.state self.main).holds (g.D.Disk.faults self.main)

pub invariant_of-self-clause-spelled : goal.invariant_of-self-clause-spelled
invariant_of-self-clause-spelled g c =
    let self = c.args.self.now in
    let s = g.D.Disk.state self.main in
    let p = parts self.mind [] 0 in
    let q = parts c.put_bytes.new.self [] 0 in
    let x = pinned_held (held_at p.held c.args.at) c.requires.pinned in
    let refilled = c.put_bytes.ensures.refilled x.0.block (sym (ap (option_map block_in) x.1)) [] 0 in
    let w = within_facts c.args.at self.mind.placed self.mind.holding (held_pinned self.mind.buffers c.args.at c.requires.pinned) in
    let lo = (self.mind.holding.block c.args.at x.0 x.1).0 in
    let f = self.mind.placed.is_first in
    labels_kept p q s.holds s.unsure (ap (λ (z : Parts). z.region) refilled.rest)
    (λ k lt. ap (λ (t : Turns). flag_at t k) refilled.turns ∙ flags_turned p.facts p.turns c.args.at w.0 w.1 k (λ e. omega (arith, e, lt, lo, f)))
    self.spelled

pub invariant_of-self-clause-first : goal.invariant_of-self-clause-first
invariant_of-self-clause-first g c =
    let self = c.args.self.now in
    let s = g.D.Disk.state self.main in
    let x = pinned_held (held_at self.mind.buffers c.args.at) c.requires.pinned in
    let refilled = c.put_bytes.ensures.refilled x.0.block (sym (ap (option_map block_in) x.1)) [] 0 in
    one_like (parts self.mind [] 0) (parts c.put_bytes.new.self [] 0) s.holds (along (λ (z : All). z.one_bytes) refilled.rest) (along (λ (z : All). z.doubt) refilled.rest) self.first

pub returns-clause-keeps : goal.returns-clause-keeps
returns-clause-keeps g c =
    let self = c.args.self.now in
    let x = pinned_held (held_at self.mind.buffers c.args.at) c.requires.pinned in
    keeps_refilled (c.put_bytes.ensures.refilled x.0.block (sym (ap (option_map block_in) x.1)) (g.D.Disk.state self.main).holds (g.D.Disk.faults self.main))
