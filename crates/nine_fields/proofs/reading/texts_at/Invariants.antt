use Rattle.std.proofs.Common.{◌≡◌, ◌-◌}
use Rattle.nine_fields.specs.Reading.{names_at}
use Rattle.nine_fields.proofs.Listing.{with_front}
use Rattle.nine_fields.proofs.reading.texts_at.Given as goal

abbrev pub invariant-names : goal.invariant-names
invariant-names l = with_front l.names.items (names_at (l.count - l.counter) l.rest) ≡ names_at l.count l.bytes
