use Rattle.std.proofs.Common.{◌∙◌, sym, ap, subst}
use Rattle.fo_vac_dir.specs.Choice.{test_of, chosen, OneHolds}
use Rattle.fo_vac_dir.proofs.Records.{next_least, all_snoc, chosen_holds}
use Rattle.fo_vac_dir.proofs.choice.Wanted.choose_all.Goals as goal

pub loop-named-preserved : goal.loop-named-preserved
loop-named-preserved c =
    let test = test_of c.args.self.now in
    let r = c.in-Some.named in
    let front = c.loop-named.yielded in
    record {
      least = λ before is. c.choose-best.ensures ∙ ap (λ best. chosen test best r) (c.loop-named.invariant.least before is) ∙ sym (next_least test before front r);
      holds = λ old all.
          let parts = all_snoc front r all in
          subst OneHolds (sym c.choose-best.ensures) (chosen_holds test c.loop-named.best r (c.loop-named.invariant.holds old parts.0) parts.1);
    }
