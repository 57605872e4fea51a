-- The empty world is within the limits.
use Rattle.std.proofs.Common.{ℕ}
use Rattle.std.proofs.lemmas.List.Elements.{All-nil}
use Rattle.fo_world.specs.Fits.{SnapFits, ArchiveFits, WorldFits}
use Rattle.fo_world.proofs.Texts.{user-adm}
use Rattle.fo_plain.specs.Kept.{empty_world}

pub empty-fits : (now : ℕ) → WorldFits (empty_world now)
empty-fits now =
    record {
      active = record { stat = record { uid = user-adm; gid = user-adm; muid = user-adm }; body = tt };
      snaps = All-nil SnapFits;
      archives = All-nil ArchiveFits;
    }
