use Rattle.std.proofs.Common.{◌<◌, ◌++◌, [], ◌∷◌, ℕ, length, get_or, sym, subst}
use Rattle.fo_files_way.specs.Plan.{IsEntryIn}
use Rattle.fo_files_way.proofs.Adding.{may_looks, may_add, may_with, blocks_add, blocks_with, most_with, added_with}
use Rattle.fo_files_way.proofs.plan.Plan.add.Goals as goal

pub returns-in-Ok-clause-may : goal.returns-in-Ok-clause-may
returns-in-Ok-clause-may g c =
    let s = g.B.Blocks.state c.args.on.now in
    let u = g.B.Blocks.state c.level_for.new.on in
    let p = c.args.self in
    let f = c.in-Ok.found in
    let e = c.in-Ok.ensures in
    let all = g.met.B.Blocks.keeps_all c.args.on.now c.level_for.new.on e.looks.1 in
    may_with u (p.at.items ++ f.at ∷ []) (p.tags.items ++ c.args.wanted.tag ∷ []) (p.levels.items ++ f.level ∷ []) c.with.result c.with.ensures.is
    (may_add f.level f.at c.args.wanted.tag (may_looks all e.looks.0 p.at.items p.tags.items p.levels.items c.requires.may) e.held.0 e.fresh (subst (λ (n : ℕ). n < length p.at.items) (sym e.is.above) c.requires.above) e.is.tag e.ready
    (subst (λ (n : ℕ). IsEntryIn u f.level.source (get_or p.at.items n 0) f.level.slot) (sym e.is.above) e.entry))

pub returns-in-Ok-clause-blocks : goal.returns-in-Ok-clause-blocks
returns-in-Ok-clause-blocks g c =
    let u = g.B.Blocks.state c.level_for.new.on in
    let p = c.args.self in
    let f = c.in-Ok.found in
    let e = c.in-Ok.ensures in
    let all = g.met.B.Blocks.keeps_all c.args.on.now c.level_for.new.on e.looks.1 in
    blocks_with u (p.at.items ++ f.at ∷ []) (p.tags.items ++ c.args.wanted.tag ∷ []) (p.levels.items ++ f.level ∷ []) c.with.result c.with.ensures.is (blocks_add u p.at.items f.at (λ i lt. (all.same_blocks (get_or p.at.items i 0)).1 (c.requires.blocks i lt)) e.held.2)

pub returns-in-Ok-clause-level : goal.returns-in-Ok-clause-level
returns-in-Ok-clause-level g c =
    let p = c.args.self in
    let f = c.in-Ok.found in
    added_with c.args.wanted f.level p.levels.items (p.at.items ++ f.at ∷ []) (p.tags.items ++ c.args.wanted.tag ∷ []) c.with.result c.with.ensures.is c.in-Ok.ensures.is

pub returns-in-Ok-clause-most : goal.returns-in-Ok-clause-most
returns-in-Ok-clause-most g c =
    let p = c.args.self in
    let f = c.in-Ok.found in
    most_with f.level p.levels.items (p.at.items ++ f.at ∷ []) (p.tags.items ++ c.args.wanted.tag ∷ []) c.with.result c.with.ensures.is c.in-Ok.ensures.ready.within
