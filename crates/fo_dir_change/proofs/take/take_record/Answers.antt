use Rattle.std.proofs.Common.{Contains, sym, ◌∙◌, subst, [], ◌∷◌}
use Rattle.fo_meta.specs.Leaf.{SpellsLeaf}
use Rattle.fo_meta.proofs.Lists.{without-none}
use Rattle.fo_dir_put.specs.of_crash.Images.{Image}
use Rattle.fo_dir_put.specs.Differ.{AreDistinct}
use Rattle.fo_dir_change.proofs.Without.{split_at, one_leaf}
use Rattle.fo_dir_change.proofs.Changed.{kept_are, kept_stand, kept_stood, left_was, left_name}
use Rattle.fo_dir_change.proofs.Onced.{left_once}
use Rattle.fo_dir_change.proofs.take.take_record.Goals as goal
use Rattle.fo_dir_put.proofs.of_dirties.Putting.{dirties_at_once}

pub returns-then-not-remove-clause-hand : goal.returns-then-not-remove-clause-hand
returns-then-not-remove-clause-hand g c =
    let s = c.requires.bytes.0 in
    let r = c.remove.ensures.removed s.records s.spells in
    let none = without-none c.args.name.now s.records (sym r.0 ∙ c.if-not-remove.true) in
    (c.remove.ensures.leaf, one_leaf (subst (λ rs. SpellsLeaf rs c.remove.new.leaf) none r.1) s.spells ∙ c.requires.bytes.1)

pub returns-clause-fit : goal.returns-clause-fit
returns-clause-fit g c = λ n entries all.
    let s = c.requires.bytes.0 in
    let r = c.remove.ensures.removed s.records s.spells in
    let was = subst (λ xs. SpellsLeaf s.records xs) c.requires.bytes.1 s.spells in
    let back = left_was (split_at c.args.name.now s.records (sym r.0 ∙ c.if-not-remove.false)) was r.1 in
    c.change_leaf.ensures.fit n entries (kept_are back n) all

pub returns-clause-apart : goal.returns-clause-apart
returns-clause-apart g c = λ b differ all.
    let s = c.requires.bytes.0 in
    let r = c.remove.ensures.removed s.records s.spells in
    let was = subst (λ xs. SpellsLeaf s.records xs) c.requires.bytes.1 s.spells in
    let back = left_was (split_at c.args.name.now s.records (sym r.0 ∙ c.if-not-remove.false)) was r.1 in
    c.change_leaf.ensures.apart b differ (kept_stand back b (g.B.Blocks.state c.args.on.now).may_leave) all

pub returns-clause-named : goal.returns-clause-named
returns-clause-named g c = λ leaves all.
    let b = c.args.on.now in
    let t = g.B.Blocks.state b in
    let s = c.requires.bytes.0 in
    let r = c.remove.ensures.removed s.records s.spells in
    let was = subst (λ xs. SpellsLeaf s.records xs) c.requires.bytes.1 s.spells in
    let distinct : (image : Image) → t.may_leave image → Contains leaves c.args.leaf → AreDistinct ((t.now c.args.leaf).bytes) = λ image is in_leaf. all.within c.args.leaf in_leaf t.now (g.met.B.Blocks.present b (g.met.B.Blocks.told b image is)) in
    c.change_leaf.ensures.named leaves (left_name (split_at c.args.name.now s.records (sym r.0 ∙ c.if-not-remove.false)) was leaves c.args.leaf t.may_leave r.1 distinct) all

pub returns-clause-paired : goal.returns-clause-paired
returns-clause-paired g c = λ n a e all.
    let s = c.requires.bytes.0 in
    let r = c.remove.ensures.removed s.records s.spells in
    let was = subst (λ xs. SpellsLeaf s.records xs) c.requires.bytes.1 s.spells in
    let back = left_was (split_at c.args.name.now s.records (sym r.0 ∙ c.if-not-remove.false)) was r.1 in
    c.change_leaf.ensures.paired n a e (λ is. kept_stood back n) all

pub returns-then-not-remove-clause-dirties : goal.returns-then-not-remove-clause-dirties
returns-then-not-remove-clause-dirties g c = dirties_at_once (g.B.Blocks.state c.args.on.now) (c.args.leaf ∷ [])

pub returns-clause-once : goal.returns-clause-once
returns-clause-once g c = λ once.
    let s = c.requires.bytes.0 in
    let r = c.remove.ensures.removed s.records s.spells in
    let was = subst (λ xs. SpellsLeaf s.records xs) c.requires.bytes.1 s.spells in
    c.change_leaf.ensures.once (left_once (split_at c.args.name.now s.records (sym r.0 ∙ c.if-not-remove.false)) was c.args.leaf (g.B.Blocks.state c.args.on.now).may_leave once r.1) once
