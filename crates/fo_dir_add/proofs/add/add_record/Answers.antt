use Rattle.std.proofs.Common.{[], ◌∷◌, ◌++◌, Contains, sym, subst}
use Rattle.fo_crash.specs.Images.{Image}
use Rattle.fo_meta.specs.Leaf.{SpellsLeaf}
use Rattle.fo_dir_put.specs.Names.{AddsOne, MayStand}
use Rattle.fo_dir_put.specs.Differ.{AreDistinct, MayName}
use Rattle.fo_dir_put.specs.Once.{MayComeOnce}
use Rattle.fo_dir_put.specs.Paired.{AddsPaired}
use Rattle.fo_dir_add.specs.Adds.{AddsAlone, AddsOnce}
use Rattle.fo_dir_add.proofs.Added.{adds_one, may_stand, may_name, may_come, adds_paired}
use Rattle.fo_dir_add.proofs.add.add_record.Goals as goal
use Rattle.fo_dir_put.proofs.of_dirties.Putting.{dirties_at_once}

pub returns-in-Ok-clause-added : goal.returns-in-Ok-clause-added
returns-in-Ok-clause-added g c = λ yes'. record { each = λ rs s. subst (λ xs. SpellsLeaf (rs ++ c.args.named.now ∷ []) xs) (sym c.add_name.ensures.puts.here) (c.in-Ok.ensures.added rs (subst (λ xs. SpellsLeaf rs xs) (sym c.requires.bytes.1) s)) }

pub returns-in-Ok-clause-fit : goal.returns-in-Ok-clause-fit
returns-in-Ok-clause-fit g c = λ n slot gen all.
    let s = c.requires.bytes.0 in
    let now = c.in-Ok.ensures.added s.records s.spells in
    let adds = adds_one n c.args.p s.records c.args.named.now c.args.first.generation _ _ s.spells now c.requires.within slot gen in
    c.add_name.ensures.fit n (subst (λ xs. AddsOne n c.args.p c.args.first.generation c.insert.new.leaf xs) c.requires.bytes.1 adds) all

pub returns-in-Ok-clause-apart : goal.returns-in-Ok-clause-apart
returns-in-Ok-clause-apart g c = λ b differ alone all.
    let s = c.requires.bytes.0 in
    let now = c.in-Ok.ensures.added s.records s.spells in
    let may = may_stand b s.records c.args.named.now _ _ (g.B.Blocks.state c.args.on.now).may_leave s.spells now alone in
    c.add_name.ensures.apart b differ (subst (λ xs. MayStand b c.insert.new.leaf xs (g.B.Blocks.state c.args.on.now).may_leave) c.requires.bytes.1 may) all

pub returns-in-Ok-clause-named : goal.returns-in-Ok-clause-named
returns-in-Ok-clause-named g c = λ leaves alone all.
    let b = c.args.on.now in
    let t = g.B.Blocks.state b in
    let s = c.requires.bytes.0 in
    let now = c.in-Ok.ensures.added s.records s.spells in
    let back = sym c.requires.bytes.1 in
    let distinct : (image : Image) → t.may_leave image → Contains leaves c.args.leaf → AreDistinct c.args.bytes.now = λ image is in_leaf.
    subst AreDistinct back (all.within c.args.leaf in_leaf t.now (g.met.B.Blocks.present b (g.met.B.Blocks.told b image is))) in
    let may = may_name leaves c.args.leaf s.records c.args.named.now c.args.bytes.now c.insert.new.leaf t.may_leave s.spells now (subst (λ xs. AddsAlone c.args.named.now c.args.leaf leaves xs t.may_leave) back alone) distinct in
    c.add_name.ensures.named leaves (subst (λ xs. MayName leaves c.args.leaf c.insert.new.leaf xs t.may_leave) c.requires.bytes.1 may) all

pub returns-in-Ok-clause-once : goal.returns-in-Ok-clause-once
returns-in-Ok-clause-once g c = λ adds once.
    let t = g.B.Blocks.state c.args.on.now in
    let s = c.requires.bytes.0 in
    let now = c.in-Ok.ensures.added s.records s.spells in
    let may = may_come c.args.leaf s.records c.args.named.now c.args.bytes.now c.insert.new.leaf t.may_leave s.spells now (subst (λ xs. AddsOnce c.args.named.now c.args.leaf xs t.may_leave) (sym c.requires.bytes.1) adds) once in
    c.add_name.ensures.once (subst (λ xs. MayComeOnce c.args.leaf c.insert.new.leaf xs t.may_leave) c.requires.bytes.1 may) once

pub returns-in-Ok-clause-paired : goal.returns-in-Ok-clause-paired
returns-in-Ok-clause-paired g c = λ n a e m slot same one two all.
    let s = c.requires.bytes.0 in
    let now = c.in-Ok.ensures.added s.records s.spells in
    let adds = adds_paired n c.args.p e c.args.entries m c.args.first c.args.second s.records c.args.named.now _ _ s.spells now c.requires.within slot same one two in
    c.add_name.ensures.paired n a e (λ is. subst (λ xs. AddsPaired n c.args.p e c.args.entries c.args.first c.args.second c.insert.new.leaf xs) c.requires.bytes.1 adds) all

pub returns-in-Err-clause-dirties : goal.returns-in-Err-clause-dirties
returns-in-Err-clause-dirties g c = dirties_at_once (g.B.Blocks.state c.args.on.now) (c.args.leaf ∷ c.args.entries ∷ [])
