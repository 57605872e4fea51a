use Rattle.fo_cells_epochs.proofs.Epochs.{with_doubt, tries_epochs, counts_epochs}
use Rattle.std.proofs.Common.{inl, sym, ◌∙◌}
use Rattle.fo_cells_epochs.proofs.Snapshots.{begun_safe, begun_trees, begun_roots, raised_safe, raised_trees, raised_roots}
use Rattle.fo_cells_epochs.proofs.laws.supers_keep_epochs.Goals as goal

pub returns : goal.returns
returns c = record {
  tried = λ d high high_of doubts active roots old new t names read h. tries_epochs t names h;
  counts = λ d high high_of doubts active roots old new t high_d slots read h. counts_epochs t high_d slots h;
  overruled = λ high high_of doubts active roots k all h. record { safe = with_doubt (record { versions = λ x v. inl (all x v) }) h.safe; trees = h.trees; supers = h.supers };
  begins = λ d root next high high_of doubts active after roots old mid x fewer high_d h. record {
    safe = with_doubt (record { versions = λ y v. inl (Rattle.fo_crash.proofs.Sure.same_if (x.counts.quiet y (x.counts.versions y v) ∙ sym x.counts.here)) }) (begun_safe x h.safe h.trees h.supers fewer);
    trees = begun_trees x h.safe h.trees h.supers fewer;
    supers = begun_roots x h.safe h.trees h.supers fewer high_d;
  };
  low = λ low high high_of doubts active roots kept k x h. record { safe = raised_safe h.trees x h.safe; trees = raised_trees h.trees x; supers = raised_roots h.trees x h.supers };
}
