-- What an image of the device has of labels.
use Rattle.std.specs.Prelude.{◌≡◌, ◌≢◌, ℕ, false, List}
use Rattle.fo_image.specs.declared.types.Label.{Label}
use Rattle.fo_image.specs.declared.types.Pointer.TheVariants.{Local}
use Rattle.fo_crash.specs.declared.place.Place.{Place}
use Rattle.fo_crash.specs.Images.{Content, Image, Reaches, target, to_block}
use Rattle.fo_cells.specs.Known.{Known, IsLeft, LabelFits, Stands}
use Rattle.fo_cells.specs.Laws.{Safe}

-- A block that a path of an image comes to stands at a place, and its label there has the kind and the tag of the place, fits memory's
-- label, and may not be given out. `labels` is any choice of one version of each label, so this is said of every version.
pub record IsLabelled (k : Known) (labels : ℕ → Label) (b : ℕ) : Type 0 where
  pub place : Place
  pub stands : Stands k b place
  pub other : b ≢ 1
  pub kind : (labels b).kind ≡ place.kind
  pub tag : (labels b).tag ≡ place.tag
  pub fits : LabelFits k.low (k.label b) (labels b)

-- EACH BLOCK REACHED HAS A LABEL THAT FITS, in every image of the device, below a top that was settled whole.
abbrev pub LabelsAreShown : Type 0
LabelsAreShown = (high t a i b : ℕ) (p : Place) (doubts : List Content) (k : Known) (image : Image) (labels : ℕ → Label) → Safe k high doubts → IsLeft k image labels → Stands k t p → k.newborn t ≡ false → Reaches image (to_block t) a → target ((image a).slot i) ≡ Local b → IsLabelled k labels b
