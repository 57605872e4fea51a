-- Who changed a record.
use Rattle.fo_image.specs.declared.record.Record.{Record}
use Rattle.fo_image.specs.Record.{RecordHolds}
use Rattle.fo_world.specs.Limits.{IsUser}

-- who changed a record that holds is a user
pub user_of : (r : Record) → RecordHolds r → IsUser r.muid
user_of r holds = record { some = holds.muid_is.some; short = holds.muid_is.within; text = holds.muid_is.is_text }
