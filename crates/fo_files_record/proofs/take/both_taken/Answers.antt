use Rattle.std.proofs.Common.{◌≡◌, ◌+◌, ◌*◌, ℕ, Bool, true, false, List, inl, inr, ⊎_elim, sym, subst, ◌∙◌}
use Rattle.fo_dir_remove.specs.of_dir_change.Changes.{HasTaken}
use Rattle.fo_files_record.specs.Stays.{Rewrites, IsPairSlot}
use Rattle.fo_files_record.proofs.Going.{going_later, going_before, still_queues}
use Rattle.fo_files_record.proofs.Rewriting.{rewrites_joins}
use Rattle.fo_files_record.proofs.take.both_taken.Goals as goal
use Rattle.fo_dir_remove.proofs.of_dirties.Adding.{dirties_then, cons_of, none_of, first_of, next_of}

pub second_cleared-requires-clause-silent : goal.second_cleared-requires-clause-silent
second_cleared-requires-clause-silent g c = λ h. c.requires.silent ((g.met.B.Blocks.keeps_all c.args.on.now c.record_taken.new.on c.record_taken.ensures.keeps).still_tells.0 h)

pub second_cleared-requires-clause-settled : goal.second_cleared-requires-clause-settled
second_cleared-requires-clause-settled g c = λ h. c.requires.settled.1 c.if-is_dir.true (c.record_taken.ensures.second.1 h)

pub returns-then-is_dir-clause-taken : goal.returns-then-is_dir-clause-taken
returns-then-is_dir-clause-taken g c = subst (λ (xs : List ℕ). HasTaken c.args.name.now (((g.B.Blocks.state c.args.on.now).now c.args.leaf).bytes) xs) (sym c.second_cleared.ensures.bytes) c.record_taken.ensures.taken

pub returns-then-is_dir-clause-first : goal.returns-then-is_dir-clause-first
returns-then-is_dir-clause-first g c = going_later (g.B.Blocks.state c.args.on.now) (g.B.Blocks.state c.record_taken.new.on) (g.B.Blocks.state c.second_cleared.new.on) c.args.entries (2 * c.args.p) c.second_cleared.ensures.first.0 c.second_cleared.ensures.first.1 c.record_taken.ensures.first

pub returns-then-is_dir-clause-second : goal.returns-then-is_dir-clause-second
returns-then-is_dir-clause-second g c = λ e. going_before (g.B.Blocks.state c.args.on.now) (g.B.Blocks.state c.record_taken.new.on) (g.B.Blocks.state c.second_cleared.new.on) c.args.entries (2 * c.args.p + 1) c.record_taken.ensures.second.0 c.second_cleared.ensures.second

pub returns-then-is_dir-clause-stays : goal.returns-then-is_dir-clause-stays
returns-then-is_dir-clause-stays g c =
    rewrites_joins c.record_taken.ensures.stays (subst (λ (d : Bool). Rewrites (λ b. b ≡ c.args.leaf) (IsPairSlot c.args.entries c.args.p d) (g.B.Blocks.state c.record_taken.new.on) (g.B.Blocks.state c.second_cleared.new.on)) (sym c.if-is_dir.true) c.second_cleared.ensures.stays)

pub returns-then-is_dir-clause-keeps : goal.returns-then-is_dir-clause-keeps
returns-then-is_dir-clause-keeps g c = g.met.B.Blocks.keeps_joins c.args.on.now c.record_taken.new.on c.second_cleared.new.on c.record_taken.ensures.keeps c.second_cleared.ensures.keeps

pub returns-else-is_dir-clause-second : goal.returns-else-is_dir-clause-second
returns-else-is_dir-clause-second g c = λ e. let no : true ≡ false = sym e ∙ c.if-is_dir.false in absurd cc

pub returns-else-is_dir-clause-stays : goal.returns-else-is_dir-clause-stays
returns-else-is_dir-clause-stays g c = c.record_taken.ensures.stays

pub returns-then-is_dir-clause-later : goal.returns-then-is_dir-clause-later
returns-then-is_dir-clause-later g c = λ dirty linked. c.second_cleared.ensures.first.1.1 (c.record_taken.ensures.later (c.second_cleared.ensures.dirty dirty) linked)

pub returns-then-is_dir-clause-queues : goal.returns-then-is_dir-clause-queues
returns-then-is_dir-clause-queues g c = λ x leads. ⊎_elim
    (λ waits. inl (c.second_cleared.ensures.first.1.1 waits))
    (λ one. inr (still_queues (g.B.Blocks.state c.args.on.now) (g.B.Blocks.state c.record_taken.new.on) (g.B.Blocks.state c.second_cleared.new.on) one c.second_cleared.ensures.queued))
    (c.record_taken.ensures.queues x leads)

pub returns-then-is_dir-clause-dirties : goal.returns-then-is_dir-clause-dirties
returns-then-is_dir-clause-dirties g c = dirties_then c.record_taken.ensures.dirties c.second_cleared.ensures.dirties (cons_of (next_of first_of) none_of)
