use Rattle.std.proofs.Common.{◌+◌, ◌≤◌, sym, subst, ◌*◌, [], ◌∷◌}
use Rattle.std.specs.Prelude.{IfOk, OnErr}
use Rattle.fo_files_own.specs.declared.at.OwnAt.{OwnAt}
use Rattle.fo_files_own.specs.Own.{AltersOwn, HasReady, IsBlockOf, IsOwnAt, LeavesOwn, MayOwn, MayPutOwn, StepsTo, blocks_for, pins_for, removals_for, block_of}
use Rattle.fo_files_own.proofs.Stays.{dir_own, entries_own, file_own, for_err, for_ok, no_more, own_at}
use Rattle.fo_files_own.proofs.ready.ready_own.Goals as goal
use Rattle.fo_dirties.proofs.Adding.{adds_idle, first_of}
use Rattle.fo_dirties.proofs.Putting.{dirties_looks}
use Rattle.fo_ports.specs.Sources.{AddsDirty}

pub ready_root-requires-clause-root : goal.ready_root-requires-clause-root
ready_root-requires-clause-root g c = subst (λ (x : OwnAt). IsOwnAt (g.B.Blocks.state c.args.on.now) x) c.in-Root.is c.requires.at

pub ready_root-requires-clause-spelled : goal.ready_root-requires-clause-spelled
ready_root-requires-clause-spelled g c = subst (λ (x : OwnAt). MayOwn x c.args.named.now) c.in-Root.is c.requires.spelled

pub ready_below-requires-clause-dir : goal.ready_below-requires-clause-dir
ready_below-requires-clause-dir g c = (subst (λ (x : OwnAt). IsOwnAt (g.B.Blocks.state c.args.on.now) x) c.in-Below.is c.requires.at).0

pub ready_below-requires-clause-entries : goal.ready_below-requires-clause-entries
ready_below-requires-clause-entries g c = (subst (λ (x : OwnAt). IsOwnAt (g.B.Blocks.state c.args.on.now) x) c.in-Below.is c.requires.at).1

pub ready_below-requires-clause-spelled : goal.ready_below-requires-clause-spelled
ready_below-requires-clause-spelled g c = subst (λ (x : OwnAt). MayOwn x c.args.named.now) c.in-Below.is c.requires.spelled

pub ready_below-requires-clause-pins : goal.ready_below-requires-clause-pins
ready_below-requires-clause-pins g c = subst (λ (x : OwnAt). pins_for x ≤ (g.B.Blocks.state c.args.on.now).pins_left) c.in-Below.is c.requires.pins

pub ready_below-requires-clause-spare : goal.ready_below-requires-clause-spare
ready_below-requires-clause-spare g c = subst (λ (x : OwnAt). blocks_for x ≤ (g.B.Blocks.state c.args.on.now).spare) c.in-Below.is c.requires.spare

pub ready_below-requires-clause-room : goal.ready_below-requires-clause-room
ready_below-requires-clause-room g c = subst (λ (x : OwnAt). removals_for x ≤ (g.B.Blocks.state c.args.on.now).room) c.in-Below.is c.requires.room

pub returns-in-Root-clause-ready : goal.returns-in-Root-clause-ready
returns-in-Root-clause-ready g c =
    let u = g.B.Blocks.state c.ready_root.new.on in
    subst (λ (x : OwnAt). IfOk c.ready_root.result (λ r. MayPutOwn u r × IsBlockOf u x r × HasReady u x c.args.named.now r)) (sym c.in-Root.is) c.ready_root.ensures.ready

pub returns-in-Root-clause-steps : goal.returns-in-Root-clause-steps
returns-in-Root-clause-steps g c =
    subst (λ (x : OwnAt). IfOk c.ready_root.result (λ r. StepsTo _ g.B.Blocks.state c.args.on.now c.ready_root.new.on x c.args.named.now.name r.at)) (sym c.in-Root.is) (for_ok c.ready_root.result _ c.ready_root.ensures.looks)

pub returns-in-Root-clause-left : goal.returns-in-Root-clause-left
returns-in-Root-clause-left g c =
    subst (λ (x : OwnAt). OnErr c.ready_root.result (LeavesOwn _ g.B.Blocks.state c.args.on.now c.ready_root.new.on x c.args.named.now.name)) (sym c.in-Root.is) (for_err c.ready_root.result _ c.ready_root.ensures.looks)

pub returns-in-Root-clause-stays : goal.returns-in-Root-clause-stays
returns-in-Root-clause-stays g c =
    subst (λ (x : OwnAt). AltersOwn _ g.B.Blocks.state g.B.Blocks.keeps c.args.on.now c.ready_root.new.on x) (sym c.in-Root.is) c.ready_root.ensures.looks

pub returns-in-Root-clause-at : goal.returns-in-Root-clause-at
returns-in-Root-clause-at g c =
    own_at _ g.B.Blocks.state g.B.Blocks.keeps (λ a b h. g.met.B.Blocks.keeps_all a b h) c.args.on.now c.ready_root.new.on c.args.at c.ready_root.ensures.keeps (subst (λ (x : OwnAt). AltersOwn _ g.B.Blocks.state g.B.Blocks.keeps c.args.on.now c.ready_root.new.on x) (sym c.in-Root.is) c.ready_root.ensures.looks) c.requires.at

pub returns-in-Root-clause-dirs : goal.returns-in-Root-clause-dirs
returns-in-Root-clause-dirs g c =
    dir_own _ g.B.Blocks.state g.B.Blocks.keeps (λ a b h. g.met.B.Blocks.keeps_all a b h) c.args.on.now c.ready_root.new.on c.args.at c.ready_root.ensures.keeps (subst (λ (x : OwnAt). AltersOwn _ g.B.Blocks.state g.B.Blocks.keeps c.args.on.now c.ready_root.new.on x) (sym c.in-Root.is) c.ready_root.ensures.looks)

pub returns-in-Root-clause-files : goal.returns-in-Root-clause-files
returns-in-Root-clause-files g c =
    file_own _ g.B.Blocks.state g.B.Blocks.keeps (λ a b h. g.met.B.Blocks.keeps_all a b h) c.args.on.now c.ready_root.new.on c.args.at c.ready_root.ensures.keeps (subst (λ (x : OwnAt). AltersOwn _ g.B.Blocks.state g.B.Blocks.keeps c.args.on.now c.ready_root.new.on x) (sym c.in-Root.is) c.ready_root.ensures.looks)

pub returns-in-Root-clause-entries : goal.returns-in-Root-clause-entries
returns-in-Root-clause-entries g c =
    entries_own _ g.B.Blocks.state g.B.Blocks.keeps (λ a b h. g.met.B.Blocks.keeps_all a b h) c.args.on.now c.ready_root.new.on c.args.at c.ready_root.ensures.keeps (subst (λ (x : OwnAt). AltersOwn _ g.B.Blocks.state g.B.Blocks.keeps c.args.on.now c.ready_root.new.on x) (sym c.in-Root.is) c.ready_root.ensures.looks)

pub returns-in-Root-clause-spare : goal.returns-in-Root-clause-spare
returns-in-Root-clause-spare g c =
    subst (λ (x : OwnAt). (g.B.Blocks.state c.args.on.now).spare ≤ (g.B.Blocks.state c.ready_root.new.on).spare + blocks_for x) (sym c.in-Root.is) (no_more _ _ c.ready_root.ensures.spare.0)

pub returns-in-Root-clause-pins : goal.returns-in-Root-clause-pins
returns-in-Root-clause-pins g c =
    subst (λ (x : OwnAt). (g.B.Blocks.state c.args.on.now).pins_left ≤ (g.B.Blocks.state c.ready_root.new.on).pins_left + pins_for x) (sym c.in-Root.is) (no_more _ _ c.ready_root.ensures.pins)

pub returns-in-Root-clause-room : goal.returns-in-Root-clause-room
returns-in-Root-clause-room g c =
    subst (λ (x : OwnAt). (g.B.Blocks.state c.args.on.now).room ≤ (g.B.Blocks.state c.ready_root.new.on).room + removals_for x) (sym c.in-Root.is) (no_more _ _ c.ready_root.ensures.spare.1)

pub returns-in-Below-clause-ready : goal.returns-in-Below-clause-ready
returns-in-Below-clause-ready g c =
    let u = g.B.Blocks.state c.ready_below.new.on in
    subst (λ (x : OwnAt). IfOk c.ready_below.result (λ r. MayPutOwn u r × IsBlockOf u x r × HasReady u x c.args.named.now r)) (sym c.in-Below.is) c.ready_below.ensures.ready

pub returns-in-Below-clause-steps : goal.returns-in-Below-clause-steps
returns-in-Below-clause-steps g c =
    subst (λ (x : OwnAt). IfOk c.ready_below.result (λ r. StepsTo _ g.B.Blocks.state c.args.on.now c.ready_below.new.on x c.args.named.now.name r.at)) (sym c.in-Below.is) c.ready_below.ensures.steps

pub returns-in-Below-clause-left : goal.returns-in-Below-clause-left
returns-in-Below-clause-left g c =
    subst (λ (x : OwnAt). OnErr c.ready_below.result (LeavesOwn _ g.B.Blocks.state c.args.on.now c.ready_below.new.on x c.args.named.now.name)) (sym c.in-Below.is) c.ready_below.ensures.left

pub returns-in-Below-clause-stays : goal.returns-in-Below-clause-stays
returns-in-Below-clause-stays g c =
    subst (λ (x : OwnAt). AltersOwn _ g.B.Blocks.state g.B.Blocks.keeps c.args.on.now c.ready_below.new.on x) (sym c.in-Below.is) c.ready_below.ensures.stays

pub returns-in-Below-clause-at : goal.returns-in-Below-clause-at
returns-in-Below-clause-at g c =
    own_at _ g.B.Blocks.state g.B.Blocks.keeps (λ a b h. g.met.B.Blocks.keeps_all a b h) c.args.on.now c.ready_below.new.on c.args.at c.ready_below.ensures.keeps (subst (λ (x : OwnAt). AltersOwn _ g.B.Blocks.state g.B.Blocks.keeps c.args.on.now c.ready_below.new.on x) (sym c.in-Below.is) c.ready_below.ensures.stays) c.requires.at

pub returns-in-Below-clause-dirs : goal.returns-in-Below-clause-dirs
returns-in-Below-clause-dirs g c =
    dir_own _ g.B.Blocks.state g.B.Blocks.keeps (λ a b h. g.met.B.Blocks.keeps_all a b h) c.args.on.now c.ready_below.new.on c.args.at c.ready_below.ensures.keeps (subst (λ (x : OwnAt). AltersOwn _ g.B.Blocks.state g.B.Blocks.keeps c.args.on.now c.ready_below.new.on x) (sym c.in-Below.is) c.ready_below.ensures.stays)

pub returns-in-Below-clause-files : goal.returns-in-Below-clause-files
returns-in-Below-clause-files g c =
    file_own _ g.B.Blocks.state g.B.Blocks.keeps (λ a b h. g.met.B.Blocks.keeps_all a b h) c.args.on.now c.ready_below.new.on c.args.at c.ready_below.ensures.keeps (subst (λ (x : OwnAt). AltersOwn _ g.B.Blocks.state g.B.Blocks.keeps c.args.on.now c.ready_below.new.on x) (sym c.in-Below.is) c.ready_below.ensures.stays)

pub returns-in-Below-clause-entries : goal.returns-in-Below-clause-entries
returns-in-Below-clause-entries g c =
    entries_own _ g.B.Blocks.state g.B.Blocks.keeps (λ a b h. g.met.B.Blocks.keeps_all a b h) c.args.on.now c.ready_below.new.on c.args.at c.ready_below.ensures.keeps (subst (λ (x : OwnAt). AltersOwn _ g.B.Blocks.state g.B.Blocks.keeps c.args.on.now c.ready_below.new.on x) (sym c.in-Below.is) c.ready_below.ensures.stays)

pub returns-in-Below-clause-spare : goal.returns-in-Below-clause-spare
returns-in-Below-clause-spare g c =
    subst (λ (x : OwnAt). (g.B.Blocks.state c.args.on.now).spare ≤ (g.B.Blocks.state c.ready_below.new.on).spare + blocks_for x) (sym c.in-Below.is) c.ready_below.ensures.spare

pub returns-in-Below-clause-pins : goal.returns-in-Below-clause-pins
returns-in-Below-clause-pins g c =
    subst (λ (x : OwnAt). (g.B.Blocks.state c.args.on.now).pins_left ≤ (g.B.Blocks.state c.ready_below.new.on).pins_left + pins_for x) (sym c.in-Below.is) c.ready_below.ensures.pins

pub returns-in-Below-clause-room : goal.returns-in-Below-clause-room
returns-in-Below-clause-room g c =
    subst (λ (x : OwnAt). (g.B.Blocks.state c.args.on.now).room ≤ (g.B.Blocks.state c.ready_below.new.on).room + removals_for x) (sym c.in-Below.is) c.ready_below.ensures.room

pub returns-in-Root-clause-dirties : goal.returns-in-Root-clause-dirties
returns-in-Root-clause-dirties g c = subst (λ (x : OwnAt). IfOk c.ready_root.result (λ r. AddsDirty (2 * blocks_for x) (block_of x ∷ []) r.at (g.B.Blocks.state c.args.on.now) (g.B.Blocks.state c.ready_root.new.on))) (sym c.in-Root.is) c.ready_root.ensures.dirties

pub returns-in-Root-clause-dirties_refused : goal.returns-in-Root-clause-dirties_refused
returns-in-Root-clause-dirties_refused g c = subst (λ (x : OwnAt). OnErr c.ready_root.result (AddsDirty (2 * blocks_for x) (block_of x ∷ []) (block_of x) (g.B.Blocks.state c.args.on.now) (g.B.Blocks.state c.ready_root.new.on))) (sym c.in-Root.is) (for_err c.ready_root.result _ (adds_idle 0 first_of (dirties_looks (g.met.B.Blocks.keeps_all c.args.on.now c.ready_root.new.on c.ready_root.ensures.keeps) c.ready_root.ensures.looks)))

pub returns-in-Below-clause-dirties : goal.returns-in-Below-clause-dirties
returns-in-Below-clause-dirties g c = subst (λ (x : OwnAt). IfOk c.ready_below.result (λ r. AddsDirty (2 * blocks_for x) (block_of x ∷ []) r.at (g.B.Blocks.state c.args.on.now) (g.B.Blocks.state c.ready_below.new.on))) (sym c.in-Below.is) c.ready_below.ensures.dirties

pub returns-in-Below-clause-dirties_refused : goal.returns-in-Below-clause-dirties_refused
returns-in-Below-clause-dirties_refused g c = subst (λ (x : OwnAt). OnErr c.ready_below.result (AddsDirty (2 * blocks_for x) (block_of x ∷ []) (block_of x) (g.B.Blocks.state c.args.on.now) (g.B.Blocks.state c.ready_below.new.on))) (sym c.in-Below.is) c.ready_below.ensures.dirties_refused
