use Rattle.std.proofs.Common.{◌≤◌, ◌<◌, ◌∙◌, ap, sym, subst}
use Rattle.fo_image.specs.Usable.{is_usable}
use Rattle.fo_labels.specs.Region.{IsDataBlock, Region}
use Rattle.fo_mind.specs.Parts.{label_at}
use Rattle.fo_mind.proofs.Giving.{label_here}
use Rattle.test_closing.proofs.minds.make_live.Goals as goal

pub returns-clause-live : goal.returns-clause-live
returns-clause-live c =
    let r = c.args.labels.now in
    let is : IsDataBlock r c.args.at = record {
      from = subst (λ n. n ≤ c.args.at) (sym c.requires.first) c.requires.block.0;
      to = subst (λ n. c.args.at < n) (sym c.requires.count) c.requires.block.1;
    } in
    ap (λ (x : Region). is_usable 1 (label_at x c.args.at)) c.restore.ensures ∙ ap (is_usable 1) (label_here r c.args.at _ is)
