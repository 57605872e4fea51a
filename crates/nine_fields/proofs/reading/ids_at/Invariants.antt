use Rattle.std.proofs.Common.{◌≡◌, ◌-◌}
use Rattle.nine_fields.specs.Reading.{ids_at}
use Rattle.nine_fields.proofs.Listing.{with_front}
use Rattle.nine_fields.proofs.reading.ids_at.Given as goal

abbrev pub invariant-qids : goal.invariant-qids
invariant-qids l = with_front l.qids.items (ids_at (l.count - l.counter) l.rest) ≡ ids_at l.count l.bytes
