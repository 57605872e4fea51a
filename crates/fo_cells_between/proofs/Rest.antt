-- What is beside the trees doesn't speak of tops.
use Rattle.std.proofs.Common.{◌≡◌, Bool, List, sym, subst}
use Rattle.fo_disk.specs.Disk.{Content as Holds}
use Rattle.fo_labels.specs.Region.{Region, IsDataBlock, label_of}
use Rattle.fo_cells.specs.Known.{Top}
use Rattle.fo_cells.specs.Device.{Mind, Fits}
use Rattle.fo_cells.specs.Flags.{Flags, FlagsFit, LabelsFit}
use Rattle.fo_cells_held.specs.Held.{Buffering, HasBuffers, Times, LabelsAreTimed, OnlyLiveDirty}
use Rattle.fo_cells_held.specs.Room.{HasRoom}
use Rattle.fo_cells_all.specs.All.{Kept, Format, HoldsBeside}
use Rattle.fo_cells_between.specs.Steps.{RestStays}

module _ {c d : Kept} {f : Format} {unsure : List Bool} {holds : Holds} (ts : List Top) (mind : d.mind ≡ record c.mind { tops = ts }) (flags : d.flags ≡ c.flags) (rest : RestStays c d) (dirty : OnlyLiveDirty c.mind c.flags f.is_data d.high) (h : HoldsBeside c f unsure holds) where
  abbrev N : Mind
  N = record c.mind { tops = ts }

  flags_fit : FlagsFit N c.flags unsure holds
  flags_fit = record { clean = h.flags.clean; settled = h.flags.settled; sure = h.flags.sure; some = h.flags.some }

  labels_fit : LabelsFit N c.flags holds
  labels_fit = record { clean = h.label_flags.clean }

  fits : Fits N unsure holds
  fits = record { sure = h.fits.sure; within = h.fits.within; some = h.fits.some; leaves = h.fits.leaves }

  buffers : HasBuffers N c.flags c.buffering
  buffers = record { unheld = h.buffers.unheld; complete = h.buffers.complete; waits = h.buffers.waits; clears = h.buffers.clears; clean = h.buffers.clean }

  timed : LabelsAreTimed N c.flags c.times holds
  timed = record { set = h.times.set; latest = h.times.latest; past = h.times.past }

  only : OnlyLiveDirty N c.flags f.is_data d.high
  only = record { dirty = λ z is on. let y = dirty.dirty z is on in record { epoch = y.epoch; state = y.state } }

  pub retopped : HoldsBeside d f unsure holds
  retopped = record {
    flags = subst (λ (m : Mind). FlagsFit m d.flags unsure holds) (sym mind) (subst (λ (g : Flags). FlagsFit N g unsure holds) (sym flags) flags_fit);
    label_flags = subst (λ (m : Mind). LabelsFit m d.flags holds) (sym mind) (subst (λ (g : Flags). LabelsFit N g holds) (sym flags) labels_fit);
    fits = subst (λ (m : Mind). Fits m unsure holds) (sym mind) fits;
    buffers = subst (λ (m : Mind). HasBuffers m d.flags d.buffering) (sym mind) (subst (λ (g : Flags). HasBuffers N g d.buffering) (sym flags) (subst (λ (y : Buffering). HasBuffers N c.flags y) (sym rest.buffering) buffers));
    times = subst (λ (m : Mind). LabelsAreTimed m d.flags d.times holds) (sym mind) (subst (λ (g : Flags). LabelsAreTimed N g d.times holds) (sym flags) (subst (λ (y : Times). LabelsAreTimed N c.flags y holds) (sym rest.times) timed));
    dirty = subst (λ (m : Mind). OnlyLiveDirty m d.flags f.is_data d.high) (sym mind) (subst (λ (g : Flags). OnlyLiveDirty N g f.is_data d.high) (sym flags) only);
    labels = λ b is. subst (λ (m : Mind). m.label b ≡ label_of d.region b) (sym mind) (subst (λ (r : Region). c.mind.label b ≡ label_of r b) (sym rest.region) (h.labels b (subst (λ (r : Region). IsDataBlock r b) rest.region is)));
    room = subst (λ (m : Mind). HasRoom m.low d.region d.promises d.space) (sym mind) (subst (λ (r : Region). HasRoom c.mind.low r d.promises d.space) (sym rest.region) rest.room);
  }
