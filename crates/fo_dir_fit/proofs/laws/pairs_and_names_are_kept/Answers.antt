use Rattle.fo_crash.specs.Images.{Image}
use Rattle.fo_dir_names.proofs.Rules.{keeps_names}
use Rattle.fo_dir_names.proofs.Sources.{IsRanked}
use Rattle.fo_dir_fit.proofs.Rules.{keeps_both, keeps_pairs}
use Rattle.fo_dir_fit.proofs.laws.pairs_and_names_are_kept.Goals as goal

pub returns : goal.returns
returns g c = λ tells once stand.
    let on = c.args.on.now in
    let s = g.B.Blocks.state on in
    let super_at = g.met.B.Blocks.super_stands on tells in
    let ranked : (image : Image) → s.may_leave image → IsRanked s image = λ image may. record { placed = g.met.B.Blocks.placed on image may; few = g.met.B.Blocks.few on image may; fall = g.met.B.Blocks.ranked on image may } in
    keeps_both s (keeps_names s super_at ranked once) (keeps_pairs s super_at ranked stand.each)
