use Rattle.std.proofs.Common.{refl, subst, [], ◌∷◌}
use Rattle.fo_meta.specs.Leaf.{SpellsLeaf}
use Rattle.fo_dir_change.proofs.Without.{split_at}
use Rattle.fo_dir_change.proofs.Changed.{changed_are, changed_stood, changed_stands, changed_name}
use Rattle.fo_dir_change.proofs.Onced.{changed_once}
use Rattle.fo_dir_change.proofs.change.change_record.Goals as goal
use Rattle.fo_dir_put.proofs.of_dirties.Putting.{dirties_at_once}

pub returns-in-Ok-clause-fit : goal.returns-in-Ok-clause-fit
returns-in-Ok-clause-fit g c = λ n entries f all.
    let s = c.requires.bytes.0 in
    let was = subst (λ xs. SpellsLeaf s.records xs) c.requires.bytes.1 s.spells in
    c.change_leaf.ensures.fit n entries (changed_are (split_at c.args.name.now s.records (c.requires.there.each s.records was)) was (c.in-Ok.ensures.replaced s.records s.spells) f n) all

pub returns-in-Ok-clause-apart : goal.returns-in-Ok-clause-apart
returns-in-Ok-clause-apart g c = λ b differ f bears all.
    let on = c.args.on.now in
    let t = g.B.Blocks.state on in
    let s = c.requires.bytes.0 in
    let was = subst (λ xs. SpellsLeaf s.records xs) c.requires.bytes.1 s.spells in
    let split = split_at c.args.name.now s.records (c.requires.there.each s.records was) in
    c.change_leaf.ensures.apart b differ (changed_stands split was (c.in-Ok.ensures.replaced s.records s.spells) f b c.args.leaf t.now t.may_leave refl (λ image is. g.met.B.Blocks.present on (g.met.B.Blocks.told on image is)) bears all) all

pub returns-in-Ok-clause-named : goal.returns-in-Ok-clause-named
returns-in-Ok-clause-named g c = λ leaves in_leaf f bears all.
    let on = c.args.on.now in
    let t = g.B.Blocks.state on in
    let s = c.requires.bytes.0 in
    let was = subst (λ xs. SpellsLeaf s.records xs) c.requires.bytes.1 s.spells in
    let split = split_at c.args.name.now s.records (c.requires.there.each s.records was) in
    c.change_leaf.ensures.named leaves (changed_name split was (c.in-Ok.ensures.replaced s.records s.spells) f leaves c.args.leaf t.now t.may_leave refl (λ image is. g.met.B.Blocks.present on (g.met.B.Blocks.told on image is)) in_leaf bears all) all

pub returns-in-Ok-clause-paired : goal.returns-in-Ok-clause-paired
returns-in-Ok-clause-paired g c = λ n a e f all.
    let s = c.requires.bytes.0 in
    let was = subst (λ xs. SpellsLeaf s.records xs) c.requires.bytes.1 s.spells in
    c.change_leaf.ensures.paired n a e (λ is. changed_stood (split_at c.args.name.now s.records (c.requires.there.each s.records was)) was (c.in-Ok.ensures.replaced s.records s.spells) f n) all

pub returns-in-Err-clause-keeps : goal.returns-in-Err-clause-keeps
returns-in-Err-clause-keeps g c = g.met.B.Blocks.keeps_at_once c.args.on.now

pub returns-in-Err-clause-dirties : goal.returns-in-Err-clause-dirties
returns-in-Err-clause-dirties g c = dirties_at_once (g.B.Blocks.state c.args.on.now) (c.args.leaf ∷ [])

pub returns-in-Ok-clause-once : goal.returns-in-Ok-clause-once
returns-in-Ok-clause-once g c = λ f bears once.
    let s = c.requires.bytes.0 in
    let was = subst (λ xs. SpellsLeaf s.records xs) c.requires.bytes.1 s.spells in
    let split = split_at c.args.name.now s.records (c.requires.there.each s.records was) in
    c.change_leaf.ensures.once (changed_once split was c.args.leaf (g.B.Blocks.state c.args.on.now).may_leave once (c.in-Ok.ensures.replaced s.records s.spells) f bears) once
