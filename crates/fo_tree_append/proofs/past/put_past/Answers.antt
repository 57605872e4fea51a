use Rattle.std.proofs.Common.{◌≡◌, ◌+◌, ◌-◌, ◌*◌, ◌/◌, ◌≤◌, ℕ, length, ⊎_elim, refl, sym, ap, subst, arith}
use Rattle.std.proofs.lemmas.Bool.{cases_eq}
use Rattle.fo_crash.specs.Places.{super_place, root_place}
use Rattle.fo_ports.specs.Sources.{depth_for, most_for}
use Rattle.fo_tree_read.specs.declared.tree.Tree.{Tree}
use Rattle.fo_tree_read.specs.Reading.{passed, most}
use Rattle.fo_tree_look.specs.Source.{HasBlock, IsPlainTree}
use Rattle.fo_tree_clear.proofs.of_tree_down.Dirtying.{dirties_both, dirties_most}
use Rattle.fo_tree_lift.proofs.of_tree_grow.Empty.{few_for}
use Rattle.fo_tree_clear.specs.Steps.{Steps}
use Rattle.fo_tree_write.specs.Write.{at_top, Wrote}
use Rattle.fo_tree_write.proofs.Writing.{most_is}
use Rattle.fo_tree_clear.proofs.of_tree_own.Showing.{shows_joins}
use Rattle.fo_tree_append.specs.Append.{OnLeaves}
use Rattle.fo_tree_append.specs.Grown.{GrownTo}
use Rattle.fo_tree_append.proofs.Behind.{Both, need_past, spent_past, changes_past, only_ways_past, over_past, bytes_past, grows_past, comes_past, only_past, clear_past, room_past}
use Rattle.fo_tree_append.proofs.Spending.{last_of, most_passed, passed_least}
use Rattle.fo_tree_append.proofs.past.put_past.Given as given
use Rattle.fo_tree_append.proofs.past.put_past.Goals as goal

pub grow_to-grown-requires-clause-over : goal.grow_to-grown-requires-clause-over
grow_to-grown-requires-clause-over g c = (c.requires.over.0, c.requires.over.1, c.requires.over.2.end)

pub grow_to-grown-requires-clause-spare : goal.grow_to-grown-requires-clause-spare
grow_to-grown-requires-clause-spare g c = let enough = c.requires.spare in omega (arith, enough)

pub put_all-requires-clause-over : goal.put_all-requires-clause-over
put_all-requires-clause-over g c =
    let e = c.grow_to-grown.ensures.grown.sees in
    let limit = c.requires.over.0 in
    let end = c.requires.over.2.end in
    let same : c.grow_to-grown.result.size ≡ c.args.offset + length c.args.piece.now = ap (λ (x : Tree). x.size) c.grow_to-grown.ensures.is in
    (limit, e.over limit (omega (arith, end, same)) c.requires.over.1, e.still limit c.args.offset (length c.args.piece.now) c.requires.over.2)

pub put_all-requires-clause-plain : goal.put_all-requires-clause-plain
put_all-requires-clause-plain g c = subst (λ (x : Tree). IsPlainTree x) (sym c.grow_to-grown.ensures.is) c.requires.plain

pub put_all-requires-clause-within : goal.put_all-requires-clause-within
put_all-requires-clause-within g c =
    let same : c.grow_to-grown.result.size ≡ c.args.offset + length c.args.piece.now = ap (λ (x : Tree). x.size) c.grow_to-grown.ensures.is in
    omega (arith, same)

pub put_all-requires-clause-spare : goal.put_all-requires-clause-spare
put_all-requires-clause-spare g c =
    let s = g.B.Blocks.state c.args.on.now in
    let m = g.B.Blocks.state c.grow_to-grown.new.on in
    let z = c.args.offset + length c.args.piece.now in
    let depth : c.grow_to-grown.result.depth ≡ depth_for z = ap (λ (x : Tree). x.depth) c.grow_to-grown.ensures.is in
    let few = few_for z in
    let enough = c.requires.spare in
    let same = most_is c.grow_to-grown.result.depth z (length c.args.piece.now) depth in
    need_past s m c.grow_to-grown.result c.args.offset (length c.args.piece.now) (omega (arith, depth, few)) c.requires.some (omega (arith, enough, same)) c.grow_to-grown.ensures.grown.spent

both : (g : given.Over) (c : goal.After-put_all g) → Both (g.B.Blocks.state c.args.on.now) (g.B.Blocks.state c.grow_to-grown.new.on) (g.B.Blocks.state c.put_all.new.on) c.args.tree.now c.args.kept.now (c.args.offset + length c.args.piece.now) c.grow_to-grown.result.top c.put_all.result c.requires.over.0 c.args.offset c.args.piece.now
both g c =
    let on = c.args.on.now in
    let s = g.B.Blocks.state on in
    let m = g.B.Blocks.state c.grow_to-grown.new.on in
    let u = g.B.Blocks.state c.put_all.new.on in
    let t = c.args.tree.now in
    let kept = c.args.kept.now in
    let offset = c.args.offset in
    let piece = c.args.piece.now in
    let top = c.put_all.result in
    let is = c.grow_to-grown.ensures.is in
    let e = c.put_all.ensures in
    let keeps = g.met.B.Blocks.keeps_joins on c.grow_to-grown.new.on c.put_all.new.on c.grow_to-grown.ensures.keeps e.keeps in
    record {
      grown = subst (λ (x : Tree). GrownTo s m t x kept) is c.grow_to-grown.ensures.grown;
      by_end = c.grow_to-grown.ensures.by_end;
      wrote = subst (λ (x : Tree). Wrote m u x top kept offset (length piece) piece) is e.wrote;
      steps = subst (λ (x : Tree). Steps x.tag (λ b. OnLeaves m x (offset / 8192) ((offset + length piece - 1) / 8192) b) (λ b. OnLeaves m x (offset / 8192) ((offset + length piece - 1) / 8192) b) m u) is e.steps;
      stays = subst (λ (x : Tree). m.tells → (b : ℕ) → HasBlock m x b → (m.label b).epoch ≡ m.high → HasBlock u (at_top x top) b) is e.stays;
      ends = refl;
      some = c.requires.some;
      past = c.requires.past;
      over = c.requires.over.1;
      prepared = c.requires.over.2;
      clear = c.requires.clear;
      all = g.met.B.Blocks.keeps_all on c.put_all.new.on keeps;
      placed = λ image is. g.met.B.Blocks.placed on image is;
      ranked = λ image is. g.met.B.Blocks.ranked on image is;
      top_stands = λ image is up is_top. ⊎_elim
          (λ first. (super_place, subst (λ y. s.stands y super_place) (sym first) (g.met.B.Blocks.super_stands on (g.met.B.Blocks.told on image is))))
          (λ ne. (root_place, g.met.B.Blocks.top_stands on up (g.met.B.Blocks.told on image is) is_top ne))
          (cases_eq up 1);
      told = λ image is. g.met.B.Blocks.told on image is;
      standing = g.met.B.Blocks.standing on;
    }

pub returns-clause-over : goal.returns-clause-over
returns-clause-over g c = over_past (both g c)

pub returns-clause-bytes : goal.returns-clause-bytes
returns-clause-bytes g c = bytes_past (both g c)

pub returns-clause-grows : goal.returns-clause-grows
returns-clause-grows g c = grows_past (both g c)

pub returns-clause-comes : goal.returns-clause-comes
returns-clause-comes g c = comes_past (both g c)

pub returns-clause-only : goal.returns-clause-only
returns-clause-only g c = only_past (both g c)

pub returns-clause-clear : goal.returns-clause-clear
returns-clause-clear g c = clear_past (both g c)

pub returns-clause-changes : goal.returns-clause-changes
returns-clause-changes g c = changes_past (both g c)

pub returns-clause-only_ways : goal.returns-clause-only_ways
returns-clause-only_ways g c = only_ways_past (both g c)

pub returns-clause-room : goal.returns-clause-room
returns-clause-room g c = room_past (both g c)

pub returns-clause-shown : goal.returns-clause-shown
returns-clause-shown g c = shows_joins c.grow_to-grown.ensures.shown c.put_all.ensures.shown

pub returns-clause-keeps : goal.returns-clause-keeps
returns-clause-keeps g c = g.met.B.Blocks.keeps_joins c.args.on.now c.grow_to-grown.new.on c.put_all.new.on c.grow_to-grown.ensures.keeps c.put_all.ensures.keeps

pub returns-clause-spare : goal.returns-clause-spare
returns-clause-spare g c =
    let s = g.B.Blocks.state c.args.on.now in
    let m = g.B.Blocks.state c.grow_to-grown.new.on in
    let u = g.B.Blocks.state c.put_all.new.on in
    let z = c.args.offset + length c.args.piece.now in
    let n = length c.args.piece.now in
    let new = c.grow_to-grown.result in
    let depth : c.grow_to-grown.result.depth ≡ depth_for z = ap (λ (x : Tree). x.depth) c.grow_to-grown.ensures.is in
    let few = few_for z in
    let same = most_is c.grow_to-grown.result.depth z n depth in
    let spent = spent_past s m u new (at_top new c.put_all.result) c.args.offset n refl (omega (arith, depth, few)) c.requires.some c.grow_to-grown.ensures.grown.spent c.put_all.ensures.spends in
    omega (arith, spent, same)

pub returns-clause-dirties : goal.returns-clause-dirties
returns-clause-dirties g c =
    let z = c.args.offset + length c.args.piece.now in
    let n = length c.args.piece.now in
    let new = c.grow_to-grown.result in
    let depth : c.grow_to-grown.result.depth ≡ depth_for z = ap (λ (x : Tree). x.depth) c.grow_to-grown.ensures.is in
    let few = few_for z in
    let same = most_is c.grow_to-grown.result.depth z n depth in
    let last = last_of c.args.offset n c.requires.some in
    let p = most_passed new.depth (c.args.offset / 8192) ((c.args.offset + n - 1) / 8192) n (omega (arith, depth, few)) last.0 last.1 in
    let up = passed_least new.depth (c.args.offset / 8192) ((c.args.offset + n - 1) / 8192) last.0 in
    dirties_most
    (sum new.depth (depth_for z) (passed new.depth (c.args.offset / 8192)) (passed new.depth ((c.args.offset + n - 1) / 8192)) (most new.depth n) (most_for z n) depth same p up)
    (dirties_both c.grow_to-grown.ensures.dirties c.put_all.ensures.dirties)
  where
    sum : (d e x y all most : ℕ) → d ≡ e → all ≡ most → 2 * d + 2 + y ≤ x + all → x ≤ y → 2 * (e + 1) + 2 * (d + 1 + (y - x)) ≤ 2 * most
    sum d e x y all most depth same bound up = omega (arith, depth, same, bound, up)
