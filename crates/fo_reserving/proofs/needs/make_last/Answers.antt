use Rattle.std.proofs.Common.{◌<◌, [], sym, ap, subst}
use Rattle.fo_closing.specs.of_mind.MindParts.{parts}
use Rattle.fo_labels.specs.Region.{usable_count}
use Rattle.fo_closing.specs.of_mind.Parts.{Parts}
use Rattle.fo_order.specs.Turns.{IsQuiet}
use Rattle.fo_closing.specs.Rest.{AtRest}
use Rattle.fo_reserving.proofs.Calming.{rest_few, settled_still, settled_whole}
use Rattle.fo_reserving.proofs.Joining.{reserves_on}
use Rattle.fo_reserving.proofs.needs.make_last.Goals as goal

pub returns-in_default-make-clause-leaves : goal.returns-in_default-make-clause-leaves
returns-in_default-make-clause-leaves g c = reserves_on c.settle_down.ensures.leaves c.make.ensures.leaves

pub returns-then-made-clause-leaves : goal.returns-then-made-clause-leaves
returns-then-made-clause-leaves g c = reserves_on c.settle_down.ensures.leaves c.make.ensures.leaves

pub returns-clause-leaves : goal.returns-clause-leaves
returns-clause-leaves g c = reserves_on c.settle_down.ensures.leaves c.make.ensures.leaves

pub returns-clause-cause : goal.returns-clause-cause
returns-clause-cause g c =
    let old = c.args.cache.now in
    let mid = c.settle_down.new.cache in
    let d = c.in_default.ensures in
    let f = c.in-Ok.ensures.few c.if-made.false in
    let e = c.make.ensures.device in
    let q = parts mid.mind [] 0 in (
      (
        subst (λ (z : Parts). usable_count z.one.low z.region < c.args.blocks) (sym f.1) f.0,
        settled_still q (parts c.make.new.cache.mind [] 0) f.1 (ap (λ m. (g.D.Disk.state m).holds) e) (ap (λ m. g.D.Disk.faults m) e)
            (settled_whole (parts old.mind (g.D.Disk.state old.main).holds (g.D.Disk.faults old.main)) (parts mid.mind (g.D.Disk.state mid.main).holds (g.D.Disk.faults mid.main)) c.requires.closed.0 c.requires.closed.1 d.leaves mid.mind.turning d.quiet d.rest),
      ),
      subst (λ (z : Parts). IsQuiet z.turns) (sym f.1) d.quiet,
      subst AtRest (sym f.1) d.rest,
    )

pub returns-then-made-clause-few : goal.returns-then-made-clause-few
returns-then-made-clause-few g c = c.make.ensures.few_stay (rest_few (parts c.settle_down.new.cache.mind [] 0) c.in_default.ensures.rest)

pub returns-then-made-clause-room : goal.returns-then-made-clause-room
returns-then-made-clause-room g c = c.in-Ok.ensures.made c.if-made.true
