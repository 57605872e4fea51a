use Rattle.std.proofs.Common.{refl, [], ◌∷◌}
use Rattle.fo_dir_add.proofs.Added.{full_before}
use Rattle.fo_dir_add.proofs.new.add_new.Goals as goal
use Rattle.fo_dir_put.proofs.of_dirties.Putting.{dirties_at_once}

pub returns-then-add_record-clause-paired : goal.returns-then-add_record-clause-paired
returns-then-add_record-clause-paired g c = λ m a e same all.
    let r = c.number_record.new.named in
    c.add_record.ensures.paired m a e c.args.n c.number_record.ensures.numbered.slot_is same (c.first_entry-first.ensures.of r refl c.number_record.ensures.numbered.generation_is refl) (c.second_entry-second.ensures.of r refl refl) all

pub returns-else-add_record-clause-full : goal.returns-else-add_record-clause-full
returns-else-add_record-clause-full g c = λ yes'.
    let full = c.add_record.ensures.full c.if-add_record.false in
    let is = c.number_record.ensures.numbered in
    (full_before is full.0, record { slot_is = is.slot_is; generation_is = refl; same_name = is.same_name; same_number = is.same_number; same_vers = is.same_vers; same_mode = is.same_mode; same_times = is.same_times; same_users = is.same_users }, full.1)

pub returns-then-not-is_free-clause-dirties : goal.returns-then-not-is_free-clause-dirties
returns-then-not-is_free-clause-dirties g c = dirties_at_once (g.B.Blocks.state c.args.on.now) (c.args.leaf ∷ c.args.entries ∷ [])
