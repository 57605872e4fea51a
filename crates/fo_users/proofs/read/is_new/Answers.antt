use Rattle.std.proofs.Common.{ap, ◌∙◌, true, cond}
use Rattle.std.proofs.lemmas.Map.Text.{is_eq-slice_cmp}
use Rattle.std.specs.Str.{bytes_eq}
use Rattle.fo_users.specs.Seen.{was_seen}
use Rattle.fo_users.proofs.Differing.{cond_or}
use Rattle.fo_users.proofs.read.is_new.Goals as goal

pub returns-clause-seen : goal.returns-clause-seen
returns-clause-seen c =
    λ q. c.in_ok-insert.ensures.updates.0 (record c.args.name { now = q }) ∙ ap (λ b. cond b true (was_seen c.args.seen.now q)) (is_eq-slice_cmp c.args.name.now q) ∙ cond_or (bytes_eq c.args.name.now q) (was_seen c.args.seen.now q)
