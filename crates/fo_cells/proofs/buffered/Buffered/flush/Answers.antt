use Rattle.std.proofs.Common.{◌<◌, subst}
use Rattle.fo_cells.specs.Kept.{bare}
use Rattle.fo_cells.proofs.Calls.{told_block}
use Rattle.fo_cells.proofs.buffered.Buffered.flush.Goals as goal

pub returns-clause-adds : goal.returns-clause-adds
returns-clause-adds g c = λ told. (c.flush.ensures.step bare (told_block _ _ (g.met.D.Disk.is_content c.args.self.now.main) told c.args.at c.requires.block) (c.requires.may told)).adds

pub invariant_of-self : goal.invariant_of-self
invariant_of-self g c = record {
  kept = record {
    kept = λ now. let told = subst (λ n. 0 < n) c.flush.ensures.held now in (c.flush.ensures.step bare (told_block _ _ (g.met.D.Disk.is_content c.args.self.now.main) told c.args.at c.requires.block) (c.requires.may told)).keeps (c.args.self.now.kept.kept told);
    fits = λ now. let told = subst (λ n. 0 < n) c.flush.ensures.held now in (c.flush.ensures.step bare (told_block _ _ (g.met.D.Disk.is_content c.args.self.now.main) told c.args.at c.requires.block) (c.requires.may told)).fits (c.args.self.now.kept.fits told);
  };
}
