-- What the labels keep beside themselves.
use Rattle.std.specs.Prelude.{◌≡◌, ◌+◌, ◌^◌, ◌<◌, vec_len, count_by}
use Rattle.fo_labels.specs.declared.labels.Labels.TheInside.{Inside}
use Rattle.fo_labels.specs.Groups.{AreFloors}
use Rattle.fo_image.specs.Usable.{is_usable}

pub record IsIndexed (a : Inside) : Type 0 where
  pub floors : AreFloors a.labels.items a.floors
  pub counted : a.usable ≡ count_by (is_usable a.low) a.labels.items
  pub fits : a.first + vec_len a.labels < 2 ^ 32
