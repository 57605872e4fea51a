use Rattle.std.proofs.Common.{refl}
use Rattle.fo_users.specs.Seen.{was_seen}
use Rattle.fo_users.proofs.Differing.{differ_at_first}
use Rattle.fo_users.proofs.read.all_differ.Goals as goal

pub loop-line-init : goal.loop-line-init
loop-line-init c =
    differ_at_first (was_seen c.new-ids.result) (was_seen c.new-names.result) c.args.lines.now (λ q. rw c.new-ids.ensures.empty refl) (λ q. rw c.new-names.ensures.empty refl)
