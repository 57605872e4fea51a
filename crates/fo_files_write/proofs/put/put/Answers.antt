use Rattle.std.proofs.Common.{◌≡◌, ◌+◌, ◌%◌, ◌∙◌, ℕ, length, ap, arith}
use Rattle.std.specs.Prelude.{max}
use Rattle.fo_crash.specs.declared.slot.Slot.TheVariants.{Entry as Head}
use Rattle.fo_tree_read.specs.Tree.{kind_at}
use Rattle.fo_tree_look.specs.Source.{HasBlock}
use Rattle.fo_tree_shorten.specs.of_tree_link.Link.{entry_of}
use Rattle.fo_tree_shorten.proofs.Entries.{entry_put}
use Rattle.fo_files_write.specs.Alters.{any_kind}
use Rattle.fo_files_write.proofs.Steps.{alters_moves}
use Rattle.fo_files_write.proofs.Ends.{most_few, wrote_of, use_same, top_other, cost_few, no_levels, tag_same, dir_same, generation_same, prepared_linked}
use Rattle.fo_files_write.proofs.put.put.Goals as goal
use Rattle.fo_dirties.proofs.Adding.{adds_more, adds_puts, first_of}
use Rattle.fo_dirties.proofs.Putting.{dirties_frame}

none_of : (rank : ℕ) → rank % 32 ≡ 0 → rank % 32 ≡ 16 → ⊥
none_of rank none some = omega (arith, none, some)

pub write-requires-clause-kind : goal.write-requires-clause-kind
write-requires-clause-kind g c = (ap (λ d. kind_at d 0) c.requires.data.0, none_of c.args.source.now.ways.tree.rank c.requires.data.1)

pub write-requires-clause-spare : goal.write-requires-clause-spare
write-requires-clause-spare g c =
    let n = length c.args.piece.now in
    let few = most_few (max c.args.source.now.ways.tree.size (c.args.offset + n)) n in
    let spare = c.requires.spare in
    omega (arith, few, spare)

pub link-requires-clause-pinned : goal.link-requires-clause-pinned
link-requires-clause-pinned g c = (c.write.ensures.changes.0.others c.args.at (λ made. made.0 c.requires.entry.live)).marks.0 c.requires.entry.is_pinned

pub link-requires-clause-current : goal.link-requires-clause-current
link-requires-clause-current g c =
    let s = g.B.Blocks.state c.args.on.now in
    let m = g.B.Blocks.state c.write.new.on in
    let x = c.args.source.now in
    let y = c.write.new.self in
    let n = length c.args.piece.now in
    let r = c.requires in
    let e = c.write.ensures in
    let all = g.met.B.Blocks.keeps_all c.args.on.now c.write.new.on e.changes.1 in
    let w = wrote_of s m x y c.args.offset n c.args.at c.args.slot all r.over r.entry r.some r.prepared e.over.0 e.over.1 (e.size.1 r.some) e.grows e.changes.0 in
    w.entry.current

pub link-requires-clause-leaf : goal.link-requires-clause-leaf
link-requires-clause-leaf g c =
    let s = g.B.Blocks.state c.args.on.now in
    let m = g.B.Blocks.state c.write.new.on in
    let x = c.args.source.now in
    let y = c.write.new.self in
    let n = length c.args.piece.now in
    let r = c.requires in
    let e = c.write.ensures in
    let all = g.met.B.Blocks.keeps_all c.args.on.now c.write.new.on e.changes.1 in
    let w = wrote_of s m x y c.args.offset n c.args.at c.args.slot all r.over r.entry r.some r.prepared e.over.0 e.over.1 (e.size.1 r.some) e.grows e.changes.0 in
    w.entry.leaf

pub link-requires-clause-settled : goal.link-requires-clause-settled
link-requires-clause-settled g c =
    let s = g.B.Blocks.state c.args.on.now in
    let m = g.B.Blocks.state c.write.new.on in
    let x = c.args.source.now in
    let y = c.write.new.self in
    let n = length c.args.piece.now in
    let r = c.requires in
    let e = c.write.ensures in
    let all = g.met.B.Blocks.keeps_all c.args.on.now c.write.new.on e.changes.1 in
    let w = wrote_of s m x y c.args.offset n c.args.at c.args.slot all r.over r.entry r.some r.prepared e.over.0 e.over.1 (e.size.1 r.some) e.grows e.changes.0 in
    w.entry.settled

pub link-requires-clause-same_use : goal.link-requires-clause-same_use
link-requires-clause-same_use g c =
    let s = g.B.Blocks.state c.args.on.now in
    let m = g.B.Blocks.state c.write.new.on in
    let x = c.args.source.now in
    let y = c.write.new.self in
    let n = length c.args.piece.now in
    let r = c.requires in
    let e = c.write.ensures in
    let all = g.met.B.Blocks.keeps_all c.args.on.now c.write.new.on e.changes.1 in
    let w = wrote_of s m x y c.args.offset n c.args.at c.args.slot all r.over r.entry r.some r.prepared e.over.0 e.over.1 (e.size.1 r.some) e.grows e.changes.0 in
    use_same w

pub link-requires-clause-other : goal.link-requires-clause-other
link-requires-clause-other g c =
    let s = g.B.Blocks.state c.args.on.now in
    let m = g.B.Blocks.state c.write.new.on in
    let x = c.args.source.now in
    let y = c.write.new.self in
    let n = length c.args.piece.now in
    let r = c.requires in
    let e = c.write.ensures in
    let all = g.met.B.Blocks.keeps_all c.args.on.now c.write.new.on e.changes.1 in
    let w = wrote_of s m x y c.args.offset n c.args.at c.args.slot all r.over r.entry r.some r.prepared e.over.0 e.over.1 (e.size.1 r.some) e.grows e.changes.0 in
    top_other w

pub link-requires-clause-tops : goal.link-requires-clause-tops
link-requires-clause-tops g c =
    let s = g.B.Blocks.state c.args.on.now in
    let m = g.B.Blocks.state c.write.new.on in
    let x = c.args.source.now in
    let y = c.write.new.self in
    let n = length c.args.piece.now in
    let r = c.requires in
    let e = c.write.ensures in
    let all = g.met.B.Blocks.keeps_all c.args.on.now c.write.new.on e.changes.1 in
    let w = wrote_of s m x y c.args.offset n c.args.at c.args.slot all r.over r.entry r.some r.prepared e.over.0 e.over.1 (e.size.1 r.some) e.grows e.changes.0 in
    λ i b lt e. absurd (no_levels w i lt)

pub link-requires-clause-told : goal.link-requires-clause-told
link-requires-clause-told g c =
    let s = g.B.Blocks.state c.args.on.now in
    let m = g.B.Blocks.state c.write.new.on in
    let x = c.args.source.now in
    let y = c.write.new.self in
    let n = length c.args.piece.now in
    let r = c.requires in
    let e = c.write.ensures in
    let all = g.met.B.Blocks.keeps_all c.args.on.now c.write.new.on e.changes.1 in
    let w = wrote_of s m x y c.args.offset n c.args.at c.args.slot all r.over r.entry r.some r.prepared e.over.0 e.over.1 (e.size.1 r.some) e.grows e.changes.0 in
    λ told. absurd (c.requires.silent (all.still_tells.0 told))

pub link-requires-clause-room : goal.link-requires-clause-room
link-requires-clause-room g c =
    let s = g.B.Blocks.state c.args.on.now in
    let m = g.B.Blocks.state c.write.new.on in
    let x = c.args.source.now in
    let y = c.write.new.self in
    let n = length c.args.piece.now in
    let r = c.requires in
    let e = c.write.ensures in
    let all = g.met.B.Blocks.keeps_all c.args.on.now c.write.new.on e.changes.1 in
    let w = wrote_of s m x y c.args.offset n c.args.at c.args.slot all r.over r.entry r.some r.prepared e.over.0 e.over.1 (e.size.1 r.some) e.grows e.changes.0 in
    let few = cost_few w in let room = e.room in let some = r.room in omega (arith, few, room, some)

pub returns-clause-same : goal.returns-clause-same
returns-clause-same g c =
    let s = g.B.Blocks.state c.args.on.now in
    let m = g.B.Blocks.state c.write.new.on in
    let x = c.args.source.now in
    let y = c.write.new.self in
    let n = length c.args.piece.now in
    let r = c.requires in
    let e = c.write.ensures in
    let all = g.met.B.Blocks.keeps_all c.args.on.now c.write.new.on e.changes.1 in
    let w = wrote_of s m x y c.args.offset n c.args.at c.args.slot all r.over r.entry r.some r.prepared e.over.0 e.over.1 (e.size.1 r.some) e.grows e.changes.0 in
    (dir_same w, tag_same w, generation_same w)

pub returns-clause-size : goal.returns-clause-size
returns-clause-size g c =
    let s = g.B.Blocks.state c.args.on.now in
    let m = g.B.Blocks.state c.write.new.on in
    let x = c.args.source.now in
    let y = c.write.new.self in
    let n = length c.args.piece.now in
    let r = c.requires in
    let e = c.write.ensures in
    let all = g.met.B.Blocks.keeps_all c.args.on.now c.write.new.on e.changes.1 in
    let w = wrote_of s m x y c.args.offset n c.args.at c.args.slot all r.over r.entry r.some r.prepared e.over.0 e.over.1 (e.size.1 r.some) e.grows e.changes.0 in
    w.size

pub returns-clause-entry : goal.returns-clause-entry
returns-clause-entry g c =
    let s = g.B.Blocks.state c.args.on.now in
    let m = g.B.Blocks.state c.write.new.on in
    let x = c.args.source.now in
    let y = c.write.new.self in
    let n = length c.args.piece.now in
    let r = c.requires in
    let e = c.write.ensures in
    let all = g.met.B.Blocks.keeps_all c.args.on.now c.write.new.on e.changes.1 in
    let w = wrote_of s m x y c.args.offset n c.args.at c.args.slot all r.over r.entry r.some r.prepared e.over.0 e.over.1 (e.size.1 r.some) e.grows e.changes.0 in
    let u = g.B.Blocks.state c.link.new.on in
    let k = c.link.ensures in
    let more = g.met.B.Blocks.keeps_all c.write.new.on c.link.new.on k.keeps in
    entry_put w.entry (tag_same w) more k.now k.frame k.order

pub returns-clause-alters : goal.returns-clause-alters
returns-clause-alters g c =
    let s = g.B.Blocks.state c.args.on.now in
    let m = g.B.Blocks.state c.write.new.on in
    let x = c.args.source.now in
    let y = c.write.new.self in
    let n = length c.args.piece.now in
    let r = c.requires in
    let e = c.write.ensures in
    let all = g.met.B.Blocks.keeps_all c.args.on.now c.write.new.on e.changes.1 in
    let w = wrote_of s m x y c.args.offset n c.args.at c.args.slot all r.over r.entry r.some r.prepared e.over.0 e.over.1 (e.size.1 r.some) e.grows e.changes.0 in
    let u = g.B.Blocks.state c.link.new.on in
    let k = c.link.ensures in
    let more = g.met.B.Blocks.keeps_all c.write.new.on c.link.new.on k.keeps in
    alters_moves any_kind c.args.at c.args.slot s m u x.ways.tree x.ways.generation (Head (entry_of y.ways.tree y.ways.generation)) (HasBlock s x.ways.tree) (HasBlock s x.ways.tree) (λ b own. tt) r.entry (record {
      changes = e.changes.0;
      puts = k.now;
      here = _;
      put = _;
      removals = _;
      frame = k.frame;
      order = k.order;
      no_wait = k.no_wait;
    })

pub returns-clause-spare : goal.returns-clause-spare
returns-clause-spare g c =
    let s = g.B.Blocks.state c.args.on.now in
    let m = g.B.Blocks.state c.write.new.on in
    let x = c.args.source.now in
    let y = c.write.new.self in
    let n = length c.args.piece.now in
    let r = c.requires in
    let e = c.write.ensures in
    let all = g.met.B.Blocks.keeps_all c.args.on.now c.write.new.on e.changes.1 in
    let w = wrote_of s m x y c.args.offset n c.args.at c.args.slot all r.over r.entry r.some r.prepared e.over.0 e.over.1 (e.size.1 r.some) e.grows e.changes.0 in
    let u = g.B.Blocks.state c.link.new.on in
    let k = c.link.ensures in
    let more = g.met.B.Blocks.keeps_all c.write.new.on c.link.new.on k.keeps in
    let few = most_few (max x.ways.tree.size (c.args.offset + n)) n in
    let first = e.spare in
    let used = k.frame.uses.spare in
    omega (arith, few, first, used)

pub returns-clause-room : goal.returns-clause-room
returns-clause-room g c =
    let s = g.B.Blocks.state c.args.on.now in
    let m = g.B.Blocks.state c.write.new.on in
    let x = c.args.source.now in
    let y = c.write.new.self in
    let n = length c.args.piece.now in
    let r = c.requires in
    let e = c.write.ensures in
    let all = g.met.B.Blocks.keeps_all c.args.on.now c.write.new.on e.changes.1 in
    let w = wrote_of s m x y c.args.offset n c.args.at c.args.slot all r.over r.entry r.some r.prepared e.over.0 e.over.1 (e.size.1 r.some) e.grows e.changes.0 in
    let u = g.B.Blocks.state c.link.new.on in
    let k = c.link.ensures in
    let more = g.met.B.Blocks.keeps_all c.write.new.on c.link.new.on k.keeps in
    let few = cost_few w in
    let first = e.room in
    let used = k.frame.uses.room in
    omega (arith, few, first, used)

pub returns-clause-pins : goal.returns-clause-pins
returns-clause-pins g c =
    let s = g.B.Blocks.state c.args.on.now in
    let m = g.B.Blocks.state c.write.new.on in
    let x = c.args.source.now in
    let y = c.write.new.self in
    let n = length c.args.piece.now in
    let r = c.requires in
    let e = c.write.ensures in
    let all = g.met.B.Blocks.keeps_all c.args.on.now c.write.new.on e.changes.1 in
    let w = wrote_of s m x y c.args.offset n c.args.at c.args.slot all r.over r.entry r.some r.prepared e.over.0 e.over.1 (e.size.1 r.some) e.grows e.changes.0 in
    let u = g.B.Blocks.state c.link.new.on in
    let k = c.link.ensures in
    let more = g.met.B.Blocks.keeps_all c.write.new.on c.link.new.on k.keeps in
    k.frame.uses.pins ∙ e.changes.0.pins

pub returns-clause-keeps : goal.returns-clause-keeps
returns-clause-keeps g c =
    g.met.B.Blocks.keeps_joins c.args.on.now c.write.new.on c.link.new.on c.write.ensures.changes.1 c.link.ensures.keeps

pub returns-clause-prepared : goal.returns-clause-prepared
returns-clause-prepared g c =
    let s = g.B.Blocks.state c.args.on.now in
    let m = g.B.Blocks.state c.write.new.on in
    let x = c.args.source.now in
    let y = c.write.new.self in
    let n = length c.args.piece.now in
    let r = c.requires in
    let e = c.write.ensures in
    let all = g.met.B.Blocks.keeps_all c.args.on.now c.write.new.on e.changes.1 in
    let w = wrote_of s m x y c.args.offset n c.args.at c.args.slot all r.over r.entry r.some r.prepared e.over.0 e.over.1 (e.size.1 r.some) e.grows e.changes.0 in
    let u = g.B.Blocks.state c.link.new.on in
    let k = c.link.ensures in
    let more = g.met.B.Blocks.keeps_all c.write.new.on c.link.new.on k.keeps in
    prepared_linked m u y x.ways.tree.tag c.args.offset n c.args.at more w.entry.apart (tag_same w) k.ready w.prepared

pub returns-clause-dirties : goal.returns-clause-dirties
returns-clause-dirties g c =
    let few = most_few (max c.args.source.now.ways.tree.size (c.args.offset + length c.args.piece.now)) (length c.args.piece.now) in
    let k = c.link.ensures in
    adds_more (omega (arith, few)) (adds_puts c.write.ensures.dirties first_of (dirties_frame c.args.at (g.met.B.Blocks.keeps_all c.write.new.on c.link.new.on k.keeps) k.frame k.order))
