use Rattle.fo_vac_files.proofs.opened.opened_as.Goals as goal

pub invariant_of-result : goal.invariant_of-result
invariant_of-result c = record {
  epoch_fits = c.requires.root.epoch_is.1;
  time_fits = c.requires.root.time_fits;
  own = c.requires.top.own_holds;
  entries = c.root-dir.ensures.entries;
  meta = c.root-dir.ensures.meta;
  levels = c.root-dir.ensures.levels;
}
