use Rattle.std.proofs.Common.{◌+◌, ◌-◌, ◌*◌, ◌/◌, ◌%◌, ℕ, take, drop, inl, inr, ⊎_elim, refl, arith}
use Rattle.std.proofs.lemmas.List.{length-take, length-drop}
use Rattle.fo_tree_leaf.specs.of_tree_look.Source.{Over}
use Rattle.fo_tree_leaf.proofs.of_tree_look.Shown.{top_ready}
use Rattle.fo_tree_leaf.specs.of_tree_down.Way.{with_top}
use Rattle.fo_tree_leaf.proofs.of_tree_down.Dirtying.{dirties_counts}
use Rattle.fo_tree_leaf.proofs.of_tree_down.Sparing.{but_whole, but_more}
use Rattle.fo_tree_clear.specs.Put.{IsInnerOrEnd}
use Rattle.fo_tree_clear.proofs.Putting.{changes_wider}
use Rattle.fo_tree_clear.proofs.Zeros.{TailPut, part_zero, owned_tail, zeros_end, bytes_before, end_block, there}
use Rattle.fo_tree_clear.proofs.tail.zero_tail.Given as given
use Rattle.fo_tree_clear.proofs.tail.zero_tail.Goals as goal

pub put_leaf-requires-clause-spare : goal.put_leaf-requires-clause-spare
put_leaf-requires-clause-spare g c =
    let s = g.B.Blocks.state c.args.on.now in
    let t = c.args.tree.now in
    ⊎_elim
    (λ top. (t.depth, but_whole s t t.depth (t.size / 8192) top.0, top.1))
    (λ some. (t.depth + 1, but_more s t t.depth (t.size / 8192), omega (arith, some)))
    c.requires.spare

pub put_leaf-requires-clause-plain : goal.put_leaf-requires-clause-plain
put_leaf-requires-clause-plain g c = c.requires.ends.plain

pub put_leaf-requires-clause-inside : goal.put_leaf-requires-clause-inside
put_leaf-requires-clause-inside g c = let some = c.requires.ends.within in omega (arith, some)

tail : (g : given.Over) (c : goal.After-put_leaf g) (limit : ℕ) → Over (g.B.Blocks.state c.args.on.now) c.args.tree.now c.args.kept.now limit
    → TailPut (g.B.Blocks.state c.args.on.now) (g.B.Blocks.state c.put_leaf.new.on) c.args.tree.now c.args.kept.now limit c.put_leaf.result.top c.put_leaf.result.at (take (8192 - c.args.tree.now.size % 8192) (drop (c.args.tree.now.size % 8192) c.zeros-zeros.result))
tail g c limit over =
    let from = c.args.tree.now.size % 8192 in
    let zeros = c.zeros-zeros.result in
    let t = c.args.tree.now in
    record {
      ends = c.requires.ends;
      over = over;
      ready = top_ready (g.B.Blocks.state c.args.on.now) t c.args.kept.now t.depth (t.size / 8192) c.requires.ready;
      many = let rest = length-drop from zeros in let all = length-take (8192 - from) (drop from zeros) in omega (arith, rest, all);
      zero = part_zero from (8192 - from) zeros c.zeros-zeros.ensures.zero;
      put = c.put_leaf.ensures.put 0 limit over;
    }

pub returns-clause-ends : goal.returns-clause-ends
returns-clause-ends g c = λ generation limit. let some = c.requires.ends.within in (c.requires.ends.plain, omega (arith, some), omega (arith, some))

pub returns-clause-owned : goal.returns-clause-owned
returns-clause-owned g c = λ generation limit over. owned_tail (tail g c limit over) generation

pub returns-clause-zeros : goal.returns-clause-zeros
returns-clause-zeros g c = λ k past. zeros_end (tail g c c.requires.over.0 c.requires.over.1) k past

pub returns-clause-bytes : goal.returns-clause-bytes
returns-clause-bytes g c = λ told limit.
    let t = c.args.tree.now in
    let s = g.B.Blocks.state c.args.on.now in
    let u = g.B.Blocks.state c.put_leaf.new.on in
    bytes_before s u t (with_top t c.put_leaf.result.top) c.args.kept.now (8192 * (t.size / 8192) + t.size % 8192) (take (8192 - t.size % 8192) (drop (t.size % 8192) c.zeros-zeros.result)) refl (omega arith) (c.put_leaf.ensures.bytes told)

pub returns-clause-changes : goal.returns-clause-changes
returns-clause-changes g c =
    let t = c.args.tree.now in
    let s = g.B.Blocks.state c.args.on.now in
    let some = c.requires.ends.within in
    let room = c.requires.over.1.hangs.room in
    changes_wider {outer = IsInnerOrEnd s t}
    (λ b h. ⊎_elim (λ inner. inl inner) (λ e. inr (c.requires.ends.plain, c.requires.ends.within, end_block s t (t.size / 8192) b (omega (arith, some)) room e)) h)
    c.put_leaf.ensures.changes

pub returns-clause-clear : goal.returns-clause-clear
returns-clause-clear g c = λ was. let some = c.requires.ends.within in c.put_leaf.ensures.clear (inr (omega (arith, some))) was

pub returns-clause-step : goal.returns-clause-step
returns-clause-step g c = record { steps = c.put_leaf.ensures.steps; ways = c.put_leaf.ensures.ways; stays = c.put_leaf.ensures.stays; way = c.put_leaf.ensures.way; stead = c.put_leaf.ensures.stead }

pub returns-clause-there : goal.returns-clause-there
returns-clause-there g c = λ e f. there (tail g c c.requires.over.0 c.requires.over.1) e f

pub returns-clause-dirties : goal.returns-clause-dirties
returns-clause-dirties g c = dirties_counts (λ b h. absurd h) c.put_leaf.ensures.dirties
