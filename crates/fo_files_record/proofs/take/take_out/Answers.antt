use Rattle.std.proofs.Common.{◌≡◌, ◌+◌, ◌*◌, ◌%◌, ℕ, List, ⊎_elim, sym, subst, ◌∙◌, arith}
use Rattle.fo_meta.specs.Leaf.{IsLeaf}
use Rattle.fo_dir_remove.specs.of_dir_change.Changes.{Bears, HasTaken}
use Rattle.fo_files_record.specs.Stays.{IsPairSlot, no_slot}
use Rattle.fo_files_record.proofs.Rewriting.{rewrites_looks, rewrites_joins, rewrites_wider}
use Rattle.fo_files_record.proofs.Going.{bears_first}
use Rattle.fo_files_record.proofs.Owned.{entries_stay, later_failed}
use Rattle.fo_files_record.proofs.take.take_out.Goals as goal
use Rattle.fo_dir_remove.proofs.of_dirties.Adding.{dirties_idle, dirties_after, dirties_quiet}
use Rattle.fo_dir_remove.proofs.of_dirties.Putting.{dirties_looks}

pub returns-in-Err-clause-nothing : goal.returns-in-Err-clause-nothing
returns-in-Err-clause-nothing g c = rewrites_looks (λ b. ⊥) no_slot c.looked.ensures.looks c.looked.ensures.pins

pub returns-in-Err-clause-entries : goal.returns-in-Err-clause-entries
returns-in-Err-clause-entries g c = entries_stay c.args.entries (g.met.B.Blocks.keeps_all c.args.on.now c.looked.new.on c.looked.ensures.keeps) (rewrites_looks (λ b. ⊥) no_slot c.looked.ensures.looks c.looked.ensures.pins) c.requires.entries

pub returns-in-Err-clause-stays : goal.returns-in-Err-clause-stays
returns-in-Err-clause-stays g c = rewrites_looks (λ b. b ≡ c.args.leaf) (IsPairSlot c.args.entries (c.args.pair % 102) c.args.is_dir) c.looked.ensures.looks c.looked.ensures.pins

pub settled_for-requires-clause-silent : goal.settled_for-requires-clause-silent
settled_for-requires-clause-silent g c = λ h. c.requires.silent ((g.met.B.Blocks.keeps_all c.args.on.now c.looked.new.on c.looked.ensures.keeps).still_tells.0 h)

pub settled_for-requires-clause-entries : goal.settled_for-requires-clause-entries
settled_for-requires-clause-entries g c = entries_stay c.args.entries (g.met.B.Blocks.keeps_all c.args.on.now c.looked.new.on c.looked.ensures.keeps) (rewrites_looks (λ b. ⊥) no_slot c.looked.ensures.looks c.looked.ensures.pins) c.requires.entries

pub both_taken-requires-clause-silent : goal.both_taken-requires-clause-silent
both_taken-requires-clause-silent g c = λ h. c.requires.silent ((g.met.B.Blocks.keeps_all c.args.on.now c.looked.new.on c.looked.ensures.keeps).still_tells.0 ((g.met.B.Blocks.keeps_all c.looked.new.on c.settled_for.new.on c.settled_for.ensures.keeps).still_tells.0 h))

pub both_taken-requires-clause-room : goal.both_taken-requires-clause-room
both_taken-requires-clause-room g c = let first = c.looked.ensures.looks.room.1 in let second = c.settled_for.ensures.room in let enough = c.requires.room in omega (arith, first, second, enough)

pub both_taken-requires-clause-bytes : goal.both_taken-requires-clause-bytes
both_taken-requires-clause-bytes g c = (c.in-Ok.ensures.bytes.0, c.in-Ok.ensures.bytes.1 ∙ sym c.settled_for.ensures.bytes)

pub returns-in-Ok-settled_for-clause-stays : goal.returns-in-Ok-settled_for-clause-stays
returns-in-Ok-settled_for-clause-stays g c =
    let slots = IsPairSlot c.args.entries (c.args.pair % 102) c.args.is_dir in
    rewrites_joins (rewrites_joins (rewrites_looks (λ b. b ≡ c.args.leaf) slots c.looked.ensures.looks c.looked.ensures.pins) (rewrites_wider (λ b no'. absurd no') (λ b n no'. absurd no') c.settled_for.ensures.stays)) c.both_taken.ensures.stays

pub returns-in-Ok-settled_for-clause-room : goal.returns-in-Ok-settled_for-clause-room
returns-in-Ok-settled_for-clause-room g c = let first = c.looked.ensures.looks.room.1 in let second = c.settled_for.ensures.room in let third = c.both_taken.ensures.room in omega (arith, first, second, third)

pub returns-in-Ok-settled_for-clause-keeps : goal.returns-in-Ok-settled_for-clause-keeps
returns-in-Ok-settled_for-clause-keeps g c = g.met.B.Blocks.keeps_joins c.args.on.now c.settled_for.new.on c.both_taken.new.on (g.met.B.Blocks.keeps_joins c.args.on.now c.looked.new.on c.settled_for.new.on c.looked.ensures.keeps c.settled_for.ensures.keeps) c.both_taken.ensures.keeps

pub returns-in-Err-settled_for-clause-nothing : goal.returns-in-Err-settled_for-clause-nothing
returns-in-Err-settled_for-clause-nothing g c = rewrites_joins (rewrites_looks (λ b. ⊥) no_slot c.looked.ensures.looks c.looked.ensures.pins) c.settled_for.ensures.stays

pub returns-in-Err-settled_for-clause-stays : goal.returns-in-Err-settled_for-clause-stays
returns-in-Err-settled_for-clause-stays g c =
    let slots = IsPairSlot c.args.entries (c.args.pair % 102) c.args.is_dir in
    rewrites_joins (rewrites_looks (λ b. b ≡ c.args.leaf) slots c.looked.ensures.looks c.looked.ensures.pins) (rewrites_wider (λ b no'. absurd no') (λ b n no'. absurd no') c.settled_for.ensures.stays)

pub returns-in-Err-settled_for-clause-room : goal.returns-in-Err-settled_for-clause-room
returns-in-Err-settled_for-clause-room g c = let first = c.looked.ensures.looks.room.1 in let second = c.settled_for.ensures.room in omega (arith, first, second)

pub returns-in-Err-settled_for-clause-cause : goal.returns-in-Err-settled_for-clause-cause
returns-in-Err-settled_for-clause-cause g c = later_failed (g.B.Blocks.state c.args.on.now) (g.B.Blocks.state c.looked.new.on) (g.B.Blocks.state c.settled_for.new.on) (g.met.B.Blocks.keeps_all c.args.on.now c.looked.new.on c.looked.ensures.keeps) c.in-Err-settled_for.why c.in-Err-settled_for.ensures.cause

pub returns-in-Err-settled_for-clause-keeps : goal.returns-in-Err-settled_for-clause-keeps
returns-in-Err-settled_for-clause-keeps g c = g.met.B.Blocks.keeps_joins c.args.on.now c.looked.new.on c.settled_for.new.on c.looked.ensures.keeps c.settled_for.ensures.keeps

pub both_taken-requires-clause-settled : goal.both_taken-requires-clause-settled
both_taken-requires-clause-settled g c =
    let was = c.in-Ok.ensures.settled in
    let e = c.args.entries in
    let back : (n : ℕ) → (g.B.Blocks.state c.settled_for.new.on).clearing e n → (g.B.Blocks.state c.looked.new.on).clearing e n = λ n h. ⊎_elim (λ w. w) (λ no'. absurd no') (c.settled_for.ensures.stays.clearing e n h) in
    (λ h. was.0 (back (2 * (c.args.pair % 102)) h), λ dir h. was.1 dir (back (2 * (c.args.pair % 102) + 1) h))

pub both_taken-requires-clause-bears : goal.both_taken-requires-clause-bears
both_taken-requires-clause-bears g c = subst (λ (xs : List ℕ). Bears c.args.name.now xs) (sym (c.settled_for.ensures.bytes ∙ c.looked.ensures.same)) (bears_first c.args.name.now (((g.B.Blocks.state c.args.on.now).now c.args.leaf).bytes) c.in-Ok.ensures.one.0 c.in-Ok.ensures.one.1.first)

pub returns-in-Ok-settled_for-clause-takes : goal.returns-in-Ok-settled_for-clause-takes
returns-in-Ok-settled_for-clause-takes g c =
    let one = c.in-Ok.ensures.one in
    let e = c.in-Ok-settled_for.ensures in (
      c.settled_for.new.on,
      record {
        was_leaf = subst (λ (xs : List ℕ). IsLeaf xs) (c.in-Ok.ensures.bytes.1 ∙ c.looked.ensures.same) c.in-Ok.ensures.bytes.0;
        gone = one.0;
        of_pair = one.1;
        used = one.2;
        rests = rewrites_joins (rewrites_looks (λ b. ⊥) no_slot c.looked.ensures.looks c.looked.ensures.pins) c.settled_for.ensures.stays;
        in_place = e.in_place;
        clean = e.clean;
        taken = subst (λ (xs : List ℕ). HasTaken c.args.name.now xs (((g.B.Blocks.state c.both_taken.new.on).now c.args.leaf).bytes)) (c.settled_for.ensures.bytes ∙ c.looked.ensures.same) c.both_taken.ensures.taken;
        first = c.both_taken.ensures.first;
        second = c.both_taken.ensures.second;
        later = c.both_taken.ensures.later;
        queues = c.both_taken.ensures.queues;
        stays = c.both_taken.ensures.stays;
      },
    )

pub returns-in-Err-clause-dirties : goal.returns-in-Err-clause-dirties
returns-in-Err-clause-dirties g c = dirties_idle (dirties_looks (g.met.B.Blocks.keeps_all c.args.on.now c.looked.new.on c.looked.ensures.keeps) c.looked.ensures.looks)

pub returns-in-Err-settled_for-clause-dirties : goal.returns-in-Err-settled_for-clause-dirties
returns-in-Err-settled_for-clause-dirties g c = dirties_idle (dirties_quiet (dirties_looks (g.met.B.Blocks.keeps_all c.args.on.now c.looked.new.on c.looked.ensures.keeps) c.looked.ensures.looks) c.settled_for.ensures.dirties)

pub returns-in-Ok-settled_for-clause-dirties : goal.returns-in-Ok-settled_for-clause-dirties
returns-in-Ok-settled_for-clause-dirties g c = dirties_after (dirties_quiet (dirties_looks (g.met.B.Blocks.keeps_all c.args.on.now c.looked.new.on c.looked.ensures.keeps) c.looked.ensures.looks) c.settled_for.ensures.dirties) c.both_taken.ensures.dirties
