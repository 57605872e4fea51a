use Rattle.std.proofs.Common.{◌+◌, ◌≤◌, length, inl, inr, refl, sym, ap, subst, ◌∙◌, [], ◌*◌}
use Rattle.fo_tree_read.proofs.Exits.{looks_none}
use Rattle.fo_world.specs.Answers.{HasCause}
use Rattle.fo_world.specs.Step.{need}
use Rattle.fo_files_create_look.specs.of_files_look.Told.{faults_of}
use Rattle.fo_files_create_look.specs.of_files_along.Along.{HasRoom}
use Rattle.fo_files_create_look.specs.Found.{IsFound}
use Rattle.fo_files_create.specs.Create.{LeavesAlong, MakesAlong, numbered, told_of}
use Rattle.fo_files_create.proofs.create.make_numbered.Goals as goal
use Rattle.fo_dirties.proofs.Adding.{dirties_none}
use Rattle.fo_dirties.proofs.Putting.{dirties_at_once}
use Rattle.fo_ports.specs.State.{none}
use Rattle.fo_ports.specs.Sources.{Dirties}

pub make_at-requires-clause-found : goal.make_at-requires-clause-found
make_at-requires-clause-found g c = (c.requires.found.0, subst (λ t. IsFound (g.B.Blocks.state c.args.on.now) c.args.root t c.requires.found.0 c.args.found) (sym c.as_slice.ensures) c.requires.found.1)

pub make_at-requires-clause-short : goal.make_at-requires-clause-short
make_at-requires-clause-short g c = subst (λ t. length t ≤ 65) (sym c.as_slice.ensures) c.requires.short

pub returns-in-Ok-make_at-clause-makes : goal.returns-in-Ok-make_at-clause-makes
returns-in-Ok-make_at-clause-makes g c =
    let p = c.in-Ok-make_at.ensures.makes in
    (p.0, p.1, p.2, p.3, p.4, subst (λ t. MakesAlong _ g.B.Blocks.state p.1 c.make_at.new.on c.args.root t c.args.found.way c.args.found.spot (numbered c.args.number c.args.found.named) p.2) c.as_slice.ensures p.5)

pub returns-in-Ok-make_at-clause-told : goal.returns-in-Ok-make_at-clause-told
returns-in-Ok-make_at-clause-told g c = c.in-Ok-make_at.ensures.told ∙ ap (λ p. told_of p (numbered c.args.number c.args.found.named)) c.in-Ok.ensures.is

pub returns-in-Err-make_at-clause-left : goal.returns-in-Err-make_at-clause-left
returns-in-Err-make_at-clause-left g c =
    let p = c.in-Err-make_at.ensures.left in
    (p.0, p.1, inr p.2, p.3, subst (λ t. LeavesAlong _ g.B.Blocks.state p.1 c.make_at.new.on c.args.root t) c.as_slice.ensures p.4)

pub returns-in-Ok-make_at-clause-room : goal.returns-in-Ok-make_at-clause-room
returns-in-Ok-make_at-clause-room g c = λ n has. subst (λ t. need (length t) 0 ≤ n) c.as_slice.ensures (c.in-Ok-make_at.ensures.room n has)

pub returns-in-Ok-make_at-clause-taken : goal.returns-in-Ok-make_at-clause-taken
returns-in-Ok-make_at-clause-taken g c = subst (λ t. (g.B.Blocks.state c.args.on.now).usable ≤ (g.B.Blocks.state c.make_at.new.on).usable + need (length t) 0) c.as_slice.ensures c.make_at.ensures.taken

pub returns-in-Err-make_at-clause-taken : goal.returns-in-Err-make_at-clause-taken
returns-in-Err-make_at-clause-taken g c = subst (λ t. (g.B.Blocks.state c.args.on.now).usable ≤ (g.B.Blocks.state c.make_at.new.on).usable + need (length t) 0) c.as_slice.ensures c.make_at.ensures.taken

pub returns-in-Err-make_at-clause-cause : goal.returns-in-Err-make_at-clause-cause
returns-in-Err-make_at-clause-cause g c = subst (λ t. HasCause (faults_of (g.B.Blocks.state c.args.on.now)) (faults_of (g.B.Blocks.state c.make_at.new.on)) ⊥ (HasRoom (g.B.Blocks.state c.make_at.new.on)) (need (length t) 0) c.in-Err-make_at.why) c.as_slice.ensures c.in-Err-make_at.ensures.cause

pub returns-in-Err-clause-left : goal.returns-in-Err-clause-left
returns-in-Err-clause-left g c =
    let s = g.B.Blocks.state c.args.on.now in
    (c.args.on.now, c.args.on.now, inl (looks_none s), inl refl, inl (looks_none s))

pub returns-in-Err-clause-keeps : goal.returns-in-Err-clause-keeps
returns-in-Err-clause-keeps g c = g.met.B.Blocks.keeps_at_once c.args.on.now

pub returns-in-Err-clause-dirties : goal.returns-in-Err-clause-dirties
returns-in-Err-clause-dirties g c = dirties_none _ (dirties_at_once (g.B.Blocks.state c.args.on.now) [])

pub returns-in-Ok-make_at-clause-dirties : goal.returns-in-Ok-make_at-clause-dirties
returns-in-Ok-make_at-clause-dirties g c = subst (λ t. Dirties (2 * need (length t) 0) none (g.B.Blocks.state c.args.on.now) (g.B.Blocks.state c.make_at.new.on)) c.as_slice.ensures c.make_at.ensures.dirties

pub returns-in-Err-make_at-clause-dirties : goal.returns-in-Err-make_at-clause-dirties
returns-in-Err-make_at-clause-dirties g c = subst (λ t. Dirties (2 * need (length t) 0) none (g.B.Blocks.state c.args.on.now) (g.B.Blocks.state c.make_at.new.on)) c.as_slice.ensures c.make_at.ensures.dirties
