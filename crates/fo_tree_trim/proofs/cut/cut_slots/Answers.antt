use Rattle.std.proofs.Common.{◌≡◌, ◌+◌, ◌-◌, ◌*◌, ◌/◌, ◌<◌, ◌≤◌, suc, ⊎_elim, sym, ◌∙◌, subst, arith}
use Rattle.fo_crash.specs.Spots.{OnePath}
use Rattle.fo_crash.proofs.Spots.{one_path}
use Rattle.fo_tree_trim.specs.Cut.{CutSlot, Cuts}
use Rattle.fo_tree_trim.proofs.Along.{Aside, way_ready}
use Rattle.fo_tree_trim.proofs.Past.{Said, index_above}
use Rattle.fo_tree_trim.proofs.Looping.{at_slot, passed, found_there, none_here, one_more, may_pinned, may_current, may_inner, may_clear}
use Rattle.fo_tree_trim.proofs.cut.cut_slots.Goals.{then-i-next+in-Local, then-i-next+in_default, else-i-next}
use Rattle.fo_tree_trim.proofs.cut.cut_slots.Goals as goal

pub pointer_here-above-requires-clause-ready : goal.pointer_here-above-requires-clause-ready
pointer_here-above-requires-clause-ready g c =
    let first = c.args.on.now in
    let mid = c.loop-x.on in
    let s = g.B.Blocks.state first in
    let m = g.B.Blocks.state mid in
    let t = c.args.tree.now in
    let kept = c.args.kept.now in
    let last = c.args.last in
    let x = c.loop-x.x in
    let lt : x < 409 * t.depth = omega arith in
    let aside : Aside s m t kept last x = record { cuts = c.loop-x.invariant.cuts; all = g.met.B.Blocks.keeps_all first mid c.loop-x.invariant.keeps; deep = c.requires.deep; ready = c.requires.ready; current = c.requires.current } in
    let a = at_slot t last x c.index_at-next.result lt c.index_at-next.ensures in
    way_ready aside (t.depth - 1 - x / 409) (c.index_at-next.result / 409) (index_above t.depth last (t.depth - 1 - x / 409) c.index_at-next.result a.is_way)

pub cut_slot-requires-clause-pinned : goal.cut_slot-requires-clause-pinned
cut_slot-requires-clause-pinned g c =
    let first = c.args.on.now in
    let mid = c.loop-x.on in
    let s = g.B.Blocks.state first in
    let m = g.B.Blocks.state mid in
    let t = c.args.tree.now in
    let kept = c.args.kept.now in
    let last = c.args.last in
    let x = c.loop-x.x in
    let lt : x < 409 * t.depth = omega arith in
    let aside : Aside s m t kept last x = record { cuts = c.loop-x.invariant.cuts; all = g.met.B.Blocks.keeps_all first mid c.loop-x.invariant.keeps; deep = c.requires.deep; ready = c.requires.ready; current = c.requires.current } in
    let a = at_slot t last x c.index_at-next.result lt c.index_at-next.ensures in
    may_pinned aside a (sym c.pointer_here-above.ensures ∙ c.in-Local.is)

pub cut_slot-requires-clause-current : goal.cut_slot-requires-clause-current
cut_slot-requires-clause-current g c =
    let first = c.args.on.now in
    let mid = c.loop-x.on in
    let s = g.B.Blocks.state first in
    let m = g.B.Blocks.state mid in
    let t = c.args.tree.now in
    let kept = c.args.kept.now in
    let last = c.args.last in
    let x = c.loop-x.x in
    let lt : x < 409 * t.depth = omega arith in
    let aside : Aside s m t kept last x = record { cuts = c.loop-x.invariant.cuts; all = g.met.B.Blocks.keeps_all first mid c.loop-x.invariant.keeps; deep = c.requires.deep; ready = c.requires.ready; current = c.requires.current } in
    let a = at_slot t last x c.index_at-next.result lt c.index_at-next.ensures in
    may_current aside a (sym c.pointer_here-above.ensures ∙ c.in-Local.is)

pub cut_slot-requires-clause-inner : goal.cut_slot-requires-clause-inner
cut_slot-requires-clause-inner g c =
    let first = c.args.on.now in
    let mid = c.loop-x.on in
    let s = g.B.Blocks.state first in
    let m = g.B.Blocks.state mid in
    let t = c.args.tree.now in
    let kept = c.args.kept.now in
    let last = c.args.last in
    let x = c.loop-x.x in
    let lt : x < 409 * t.depth = omega arith in
    let aside : Aside s m t kept last x = record { cuts = c.loop-x.invariant.cuts; all = g.met.B.Blocks.keeps_all first mid c.loop-x.invariant.keeps; deep = c.requires.deep; ready = c.requires.ready; current = c.requires.current } in
    let a = at_slot t last x c.index_at-next.result lt c.index_at-next.ensures in
    may_inner aside a (sym c.pointer_here-above.ensures ∙ c.in-Local.is)

pub cut_slot-requires-clause-may : goal.cut_slot-requires-clause-may
cut_slot-requires-clause-may g c = λ now.
    let first = c.args.on.now in
    let mid = c.loop-x.on in
    let s = g.B.Blocks.state first in
    let m = g.B.Blocks.state mid in
    let t = c.args.tree.now in
    let kept = c.args.kept.now in
    let last = c.args.last in
    let x = c.loop-x.x in
    let lt : x < 409 * t.depth = omega arith in
    let all = g.met.B.Blocks.keeps_all first mid c.loop-x.invariant.keeps in
    let told = all.still_tells.0 now in
    let over = c.requires.over.1 in
    let aside : Aside s m t kept last x = record { cuts = c.loop-x.invariant.cuts; all = all; deep = c.requires.deep; ready = c.requires.ready; current = c.requires.current } in
    let a = at_slot t last x c.index_at-next.result lt c.index_at-next.ensures in
    let said : Said s t last = record {
      told = told;
      hangs = over.hangs;
      placed = g.met.B.Blocks.placed first s.now (g.met.B.Blocks.present first told);
      ranked = g.met.B.Blocks.ranked first s.now (g.met.B.Blocks.present first told);
      slots = g.met.B.Blocks.few first s.now (g.met.B.Blocks.present first told);
      one = g.met.B.Blocks.one_place first;
      few = c.requires.few;
      super_stands = g.met.B.Blocks.super_stands first told;
      kinds = λ b p ne stands. (g.met.B.Blocks.labelled first b p told ne stands).1;
    } in
    may_clear aside a (sym c.pointer_here-above.ensures ∙ c.in-Local.is) c.if-i-next.true said (c.requires.may told) (over.told told)

pub loop-x-preserved : goal.loop-x-preserved
loop-x-preserved g c =
    let first = c.args.on.now in
    let mid = c.loop-x.on in
    let s = g.B.Blocks.state first in
    let m = g.B.Blocks.state mid in
    let t = c.args.tree.now in
    let kept = c.args.kept.now in
    let last = c.args.last in
    let x = c.loop-x.x in
    let lt : x < 409 * t.depth = omega arith in
    let inv = c.loop-x.invariant in
    let all = g.met.B.Blocks.keeps_all first mid inv.keeps in
    let over = c.requires.over.1 in
    let aside : Aside s m t kept last x = record { cuts = inv.cuts; all = all; deep = c.requires.deep; ready = c.requires.ready; current = c.requires.current } in
    let a = at_slot t last x c.index_at-next.result lt c.index_at-next.ensures in
    let next : suc x ≡ x + 1 = omega arith in
    let room = inv.room in
    let said : s.tells → Said s t last = λ told. record {
      told = told;
      hangs = over.hangs;
      placed = g.met.B.Blocks.placed first s.now (g.met.B.Blocks.present first told);
      ranked = g.met.B.Blocks.ranked first s.now (g.met.B.Blocks.present first told);
      slots = g.met.B.Blocks.few first s.now (g.met.B.Blocks.present first told);
      one = g.met.B.Blocks.one_place first;
      few = c.requires.few;
      super_stands = g.met.B.Blocks.super_stands first told;
      kinds = λ b p ne stands. (g.met.B.Blocks.labelled first b p told ne stands).1;
    } in
    let one : s.tells → OnePath 1 s.now = λ told. one_path (g.met.B.Blocks.placed first s.now (g.met.B.Blocks.present first told)) (g.met.B.Blocks.few first s.now (g.met.B.Blocks.present first told)) (g.met.B.Blocks.super_stands first told) (g.met.B.Blocks.one_spot first) (g.met.B.Blocks.present first told) (g.met.B.Blocks.active first).0 in
    elim c.if-i-next.branch [
      | then-i-next+in-Local w ↦
          let u = g.B.Blocks.state w.cut_slot.new.on in
          let found = sym w.pointer_here-above.ensures ∙ w.in-Local.is in
          ⊎_elim
          (λ step.
          let uses = step.frame.uses.room in
          let r : s.room ≤ u.room + (x + 1) = omega (arith, room, uses) in
          record {
            cuts = subst (λ n. Cuts (CutSlot s t last n) s (g.B.Blocks.state c.if-i-next.on)) next (subst (λ y. Cuts (CutSlot s t last (suc x)) s (g.B.Blocks.state y)) (sym w.on-is)
                (one_more aside a found w.if-i-next.true step said c.requires.may (λ told. over.told told) one (g.met.B.Blocks.waits_within mid) (g.met.B.Blocks.covers_told mid)));
            keeps = subst (λ y. g.B.Blocks.keeps first y) (sym w.on-is) (g.met.B.Blocks.keeps_joins first mid w.cut_slot.new.on inv.keeps w.cut_slot.ensures.keeps);
            room = subst (λ y. s.room ≤ (g.B.Blocks.state y).room + (x + 1)) (sym w.on-is) r;
          })
          (λ none.
          let same : c.if-i-next.on ≡ mid = w.on-is ∙ none.1 in
          let r : s.room ≤ m.room + (x + 1) = omega (arith, room) in
          record {
            cuts = subst (λ n. Cuts (CutSlot s t last n) s (g.B.Blocks.state c.if-i-next.on)) next (subst (λ y. Cuts (CutSlot s t last (suc x)) s (g.B.Blocks.state y)) (sym same) (none_here aside a found none.0));
            keeps = subst (λ y. g.B.Blocks.keeps first y) (sym same) inv.keeps;
            room = subst (λ y. s.room ≤ (g.B.Blocks.state y).room + (x + 1)) (sym same) r;
          })
          w.cut_slot.ensures.cut
      | then-i-next+in_default w ↦
          let there = found_there aside a in
          absurd (w.in_default.not-Local there.0 (w.pointer_here-above.ensures ∙ there.1))
      | else-i-next w ↦
          let r : s.room ≤ m.room + (x + 1) = omega (arith, room) in
          record {
            cuts = subst (λ n. Cuts (CutSlot s t last n) s (g.B.Blocks.state c.if-i-next.on)) next (subst (λ y. Cuts (CutSlot s t last (suc x)) s (g.B.Blocks.state y)) (sym w.on-is) (passed aside a w.if-i-next.false));
            keeps = subst (λ y. g.B.Blocks.keeps first y) (sym w.on-is) inv.keeps;
            room = subst (λ y. s.room ≤ (g.B.Blocks.state y).room + (x + 1)) (sym w.on-is) r;
          }
    ]

pub returns-clause-cuts : goal.returns-clause-cuts
returns-clause-cuts g c =
    let first = c.args.on.now in
    let s = g.B.Blocks.state first in
    let t = c.args.tree.now in
    let all : c.loop-x.x ≡ 409 * t.depth = omega arith in
    subst (λ n. Cuts (CutSlot s t c.args.last n) s (g.B.Blocks.state c.loop-x.on)) all c.loop-x.invariant.cuts
