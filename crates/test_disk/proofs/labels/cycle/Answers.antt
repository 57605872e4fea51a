use Rattle.std.proofs.Common.{ap, arith}
use Rattle.fo_image.specs.declared.types.Label.{Label}
use Rattle.fo_image.specs.declared.types.Kind.TheVariants.{Data}
use Rattle.fo_image.specs.Usable.{live_label}
use Rattle.fo_labels.proofs.RegionLaws.{block-relabeled, label_of-relabeled}
use Rattle.test_disk.proofs.labels.cycle.Goals as goal

pub close-requires : goal.close-requires
close-requires c =
    let e = c.in_ok-at.ensures in
    let r = c.args.labels.now in
    let l : Label = live_label (Data 0) 36 7 in
    let is = label_of-relabeled r c.in_ok-at.at l e.some.block in
    rw e.labels record {
      block = block-relabeled r c.in_ok-at.at c.in_ok-at.at l e.some.block;
      live = ap (λ (l : Label). l.state) is;
      made = omega (arith, ap (λ (l : Label). l.epoch) is);
    }
