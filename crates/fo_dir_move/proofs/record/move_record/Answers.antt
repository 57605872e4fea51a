use Rattle.std.proofs.Common.{refl, sym, subst, [], ◌∷◌}
use Rattle.fo_meta.specs.Leaf.{SpellsLeaf, without}
use Rattle.fo_dir_put.specs.Differ.{AllDiffer}
use Rattle.fo_dir_change.proofs.Without.{named_is}
use Rattle.fo_dir_move.proofs.Whole.{found_splits, moves_keys, left_differ, with_differ, none_there, r_there, moves_paired}
use Rattle.fo_dir_move.proofs.Once.{HasLaws, once_told, from_distinct, to_distinct, none_both}
use Rattle.fo_dir_move.proofs.record.move_record.Goals as goal
use Rattle.fo_dir_put.proofs.of_dirties.Putting.{dirties_at_once}

pub returns-in-Ok-move_name-clause-named : goal.returns-in-Ok-move_name-clause-named
returns-in-Ok-move_name-clause-named g c = λ leaves in_from in_to differ.
    let b = c.args.on.now in
    let t = g.B.Blocks.state b in
    let r = c.args.named.now in
    let s = c.requires.from_bytes.0 in
    let ts = c.requires.to_bytes.0 in
    let was = subst (λ xs. SpellsLeaf s.records xs) c.requires.from_bytes.1 s.spells in
    let were = subst (λ xs. SpellsLeaf ts.records xs) c.requires.to_bytes.1 ts.spells in
    let found = c.requires.first.each s.records was in
    let split = found_splits r.name s.records r found in
    let is = named_is split found in
    let left = subst (λ xs. SpellsLeaf (without xs s.records) c.without_name-left.result) c.as_slice.ensures (c.without_name-left.ensures.taken.each s.records s.spells) in
    let more = c.in-Ok.ensures.added ts.records ts.spells in
    let n = c.move_name.new.on in
    let all = g.met.B.Blocks.keeps_all b n c.move_name.ensures.keeps in
    let whole : t.tells → AllDiffer leaves (g.B.Blocks.state n).may_leave = λ told.
    let present = g.met.B.Blocks.present b told in
    let d = differ.within c.args.from in_from t.now present in
    c.move_name.ensures.named leaves in_from in_to (moves_keys split is was were left more d) (left_differ split is was were left more d)
    (with_differ split is was were left more (differ.within c.args.to in_to t.now present) (none_there split is was were left more c.args.from c.args.to t.now t.may_leave present refl refl (differ.between c.args.to c.args.from in_to in_from (λ e. c.requires.differ (sym e))))) differ in
    record {
      within = λ x in_x image h. (whole (all.still_tells.0 (g.met.B.Blocks.told n image h))).within x in_x image h;
      between = λ x y in_x in_y ne. record { each = λ image other h k p q one two clash. ((whole (all.still_tells.0 (g.met.B.Blocks.told n image h))).between x y in_x in_y ne).each image other h k p q one two clash };
    }

pub returns-in-Ok-move_name-clause-paired : goal.returns-in-Ok-move_name-clause-paired
returns-in-Ok-move_name-clause-paired g c = λ n a e backed stays all.
    let b = c.args.on.now in
    let t = g.B.Blocks.state b in
    let r = c.args.named.now in
    let s = c.requires.from_bytes.0 in
    let ts = c.requires.to_bytes.0 in
    let was = subst (λ xs. SpellsLeaf s.records xs) c.requires.from_bytes.1 s.spells in
    let were = subst (λ xs. SpellsLeaf ts.records xs) c.requires.to_bytes.1 ts.spells in
    let found = c.requires.first.each s.records was in
    let split = found_splits r.name s.records r found in
    let is = named_is split found in
    let left = subst (λ xs. SpellsLeaf (without xs s.records) c.without_name-left.result) c.as_slice.ensures (c.without_name-left.ensures.taken.each s.records s.spells) in
    let more = c.in-Ok.ensures.added ts.records ts.spells in
    c.move_name.ensures.paired n a e (moves_paired split is was were left more t n a c.args.from c.args.to e c.args.entries refl refl backed stays) all

pub returns-in-Err-move_name-clause-named : goal.returns-in-Err-move_name-clause-named
returns-in-Err-move_name-clause-named g c = λ leaves in_from in_to differ.
    let b = c.args.on.now in
    let t = g.B.Blocks.state b in
    let r = c.args.named.now in
    let s = c.requires.from_bytes.0 in
    let ts = c.requires.to_bytes.0 in
    let was = subst (λ xs. SpellsLeaf s.records xs) c.requires.from_bytes.1 s.spells in
    let were = subst (λ xs. SpellsLeaf ts.records xs) c.requires.to_bytes.1 ts.spells in
    let found = c.requires.first.each s.records was in
    let split = found_splits r.name s.records r found in
    let is = named_is split found in
    let left = subst (λ xs. SpellsLeaf (without xs s.records) c.without_name-left.result) c.as_slice.ensures (c.without_name-left.ensures.taken.each s.records s.spells) in
    let more = c.in-Ok.ensures.added ts.records ts.spells in
    let n = c.move_name.new.on in
    let all = g.met.B.Blocks.keeps_all b n c.move_name.ensures.keeps in
    let whole : t.tells → AllDiffer leaves (g.B.Blocks.state n).may_leave = λ told.
    let present = g.met.B.Blocks.present b told in
    let d = differ.within c.args.from in_from t.now present in
    c.move_name.ensures.named leaves in_from in_to (moves_keys split is was were left more d) (left_differ split is was were left more d)
    (with_differ split is was were left more (differ.within c.args.to in_to t.now present) (none_there split is was were left more c.args.from c.args.to t.now t.may_leave present refl refl (differ.between c.args.to c.args.from in_to in_from (λ e. c.requires.differ (sym e))))) differ in
    record {
      within = λ x in_x image h. (whole (all.still_tells.0 (g.met.B.Blocks.told n image h))).within x in_x image h;
      between = λ x y in_x in_y ne. record { each = λ image other h k p q one two clash. ((whole (all.still_tells.0 (g.met.B.Blocks.told n image h))).between x y in_x in_y ne).each image other h k p q one two clash };
    }

pub returns-in-Err-move_name-clause-paired : goal.returns-in-Err-move_name-clause-paired
returns-in-Err-move_name-clause-paired g c = λ n a e backed stays all.
    let b = c.args.on.now in
    let t = g.B.Blocks.state b in
    let r = c.args.named.now in
    let s = c.requires.from_bytes.0 in
    let ts = c.requires.to_bytes.0 in
    let was = subst (λ xs. SpellsLeaf s.records xs) c.requires.from_bytes.1 s.spells in
    let were = subst (λ xs. SpellsLeaf ts.records xs) c.requires.to_bytes.1 ts.spells in
    let found = c.requires.first.each s.records was in
    let split = found_splits r.name s.records r found in
    let is = named_is split found in
    let left = subst (λ xs. SpellsLeaf (without xs s.records) c.without_name-left.result) c.as_slice.ensures (c.without_name-left.ensures.taken.each s.records s.spells) in
    let more = c.in-Ok.ensures.added ts.records ts.spells in
    c.move_name.ensures.paired n a e (moves_paired split is was were left more t n a c.args.from c.args.to e c.args.entries refl refl backed stays) all

pub returns-in-Err-clause-dirties : goal.returns-in-Err-clause-dirties
returns-in-Err-clause-dirties g c = dirties_at_once (g.B.Blocks.state c.args.on.now) (c.args.from ∷ c.args.to ∷ [])

pub returns-in-Ok-move_name-clause-once : goal.returns-in-Ok-move_name-clause-once
returns-in-Ok-move_name-clause-once g c = λ beside once.
    let b = c.args.on.now in
    let t = g.B.Blocks.state b in
    let r = c.args.named.now in
    let s = c.requires.from_bytes.0 in
    let ts = c.requires.to_bytes.0 in
    let was = subst (λ xs. SpellsLeaf s.records xs) c.requires.from_bytes.1 s.spells in
    let were = subst (λ xs. SpellsLeaf ts.records xs) c.requires.to_bytes.1 ts.spells in
    let found = c.requires.first.each s.records was in
    let split = found_splits r.name s.records r found in
    let is = named_is split found in
    let left = subst (λ xs. SpellsLeaf (without xs s.records) c.without_name-left.result) c.as_slice.ensures (c.without_name-left.ensures.taken.each s.records s.spells) in
    let more = c.in-Ok.ensures.added ts.records ts.spells in
    let n = c.move_name.new.on in
    let all = g.met.B.Blocks.keeps_all b n c.move_name.ensures.keeps in
    once_told {told = t.tells} (λ image h. all.still_tells.0 (g.met.B.Blocks.told n image h)) (λ told.
    let laws : HasLaws t = record {
      now = g.met.B.Blocks.present b told;
      top = (g.met.B.Blocks.active b).0;
      one_spot = g.met.B.Blocks.one_spot b;
      super_at = g.met.B.Blocks.super_stands b told;
      placed = λ image h. g.met.B.Blocks.placed b image h;
      few = λ image h. g.met.B.Blocks.few b image h;
    } in
    let d = from_distinct laws once (beside told) in
    c.move_name.ensures.once beside (moves_keys split is was were left more d) (left_differ split is was were left more d)
    (with_differ split is was were left more (to_distinct laws once (beside told)) (λ q two clash. none_both laws once (beside told) c.requires.differ q r two (r_there split is was were left more) clash)) once)

pub returns-in-Err-move_name-clause-once : goal.returns-in-Err-move_name-clause-once
returns-in-Err-move_name-clause-once g c = λ beside once.
    let b = c.args.on.now in
    let t = g.B.Blocks.state b in
    let r = c.args.named.now in
    let s = c.requires.from_bytes.0 in
    let ts = c.requires.to_bytes.0 in
    let was = subst (λ xs. SpellsLeaf s.records xs) c.requires.from_bytes.1 s.spells in
    let were = subst (λ xs. SpellsLeaf ts.records xs) c.requires.to_bytes.1 ts.spells in
    let found = c.requires.first.each s.records was in
    let split = found_splits r.name s.records r found in
    let is = named_is split found in
    let left = subst (λ xs. SpellsLeaf (without xs s.records) c.without_name-left.result) c.as_slice.ensures (c.without_name-left.ensures.taken.each s.records s.spells) in
    let more = c.in-Ok.ensures.added ts.records ts.spells in
    let n = c.move_name.new.on in
    let all = g.met.B.Blocks.keeps_all b n c.move_name.ensures.keeps in
    once_told {told = t.tells} (λ image h. all.still_tells.0 (g.met.B.Blocks.told n image h)) (λ told.
    let laws : HasLaws t = record {
      now = g.met.B.Blocks.present b told;
      top = (g.met.B.Blocks.active b).0;
      one_spot = g.met.B.Blocks.one_spot b;
      super_at = g.met.B.Blocks.super_stands b told;
      placed = λ image h. g.met.B.Blocks.placed b image h;
      few = λ image h. g.met.B.Blocks.few b image h;
    } in
    let d = from_distinct laws once (beside told) in
    c.move_name.ensures.once beside (moves_keys split is was were left more d) (left_differ split is was were left more d)
    (with_differ split is was were left more (to_distinct laws once (beside told)) (λ q two clash. none_both laws once (beside told) c.requires.differ q r two (r_there split is was were left more) clash)) once)
