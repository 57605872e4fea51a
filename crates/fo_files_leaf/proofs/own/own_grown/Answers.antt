use Rattle.std.proofs.Common.{◌≡◌, ◌+◌, ℕ, arith, refl}
use Rattle.fo_crash.specs.declared.slot.Slot.TheVariants.{Entry as Head}
use Rattle.fo_ports.specs.Blocks.{cost}
use Rattle.fo_tree_shorten.specs.of_tree_link.Link.{entry_of}
use Rattle.fo_tree_shorten.specs.Shorten.{Links}
use Rattle.fo_files_leaf.proofs.Owning.{Took, top_other, cost_none, leaf_owned}
use Rattle.fo_files_leaf.proofs.own.own_grown.Goals as goal
use Rattle.fo_dirties.proofs.Adding.{adds_own}
use Rattle.fo_dirties.proofs.Putting.{dirties_frame}

pub link-requires-clause-other : goal.link-requires-clause-other
link-requires-clause-other g c =
    let took : Took (g.B.Blocks.state c.args.on.now) (g.B.Blocks.state c.own_leaf-leaf.new.on) c.args.source.now c.own_leaf-leaf.new.self c.args.i c.own_leaf-leaf.result = record {
      all = g.met.B.Blocks.keeps_all c.args.on.now c.own_leaf-leaf.new.on c.own_leaf-leaf.ensures.changes.1;
      source = c.requires.source;
      names = λ at i b. g.met.B.Blocks.within c.args.on.now at i b;
      changes = c.own_leaf-leaf.ensures.changes.0;
      owned = c.own_leaf-leaf.ensures.owned;
      over = c.own_leaf-leaf.ensures.over.0;
      form = c.own_leaf-leaf.ensures.over.1;
      size = c.own_leaf-leaf.ensures.size;
      grows = c.own_leaf-leaf.ensures.grows;
      top = c.own_leaf-leaf.ensures.current;
    } in
    top_other took c.requires.entry

no_room : (s m u n : ℕ) → u + n ≡ m → n ≡ 0 → m ≡ s → u ≡ s
no_room s m u n used none same = omega (arith, used, none, same)

pub returns-clause-owned : goal.returns-clause-owned
returns-clause-owned g c =
    let s = g.B.Blocks.state c.args.on.now in
    let m = g.B.Blocks.state c.own_leaf-leaf.new.on in
    let u = g.B.Blocks.state c.link.new.on in
    let y = c.own_leaf-leaf.new.self in
    let e = c.link.ensures in
    let took : Took s m c.args.source.now y c.args.i c.own_leaf-leaf.result = record {
      all = g.met.B.Blocks.keeps_all c.args.on.now c.own_leaf-leaf.new.on c.own_leaf-leaf.ensures.changes.1;
      source = c.requires.source;
      names = λ at i b. g.met.B.Blocks.within c.args.on.now at i b;
      changes = c.own_leaf-leaf.ensures.changes.0;
      owned = c.own_leaf-leaf.ensures.owned;
      over = c.own_leaf-leaf.ensures.over.0;
      form = c.own_leaf-leaf.ensures.over.1;
      size = c.own_leaf-leaf.ensures.size;
      grows = c.own_leaf-leaf.ensures.grows;
      top = c.own_leaf-leaf.ensures.current;
    } in
    let links : Links m u y.ways.tree y.ways.generation c.args.at c.args.j = record {
      now = e.now;
      images = e.images;
      instead = e.instead;
      in_tree = e.in_tree;
      in_place = e.in_place;
      ready = e.ready;
      bytes = e.bytes;
      frame = e.frame;
      hangs = e.hangs;
      order = e.order;
      no_wait = e.no_wait;
      covers = e.covers;
    } in
    let more = g.met.B.Blocks.keeps_all c.own_leaf-leaf.new.on c.link.new.on e.keeps in
    leaf_owned took c.requires.entry links more e.over (no_room s.room m.room u.room (cost ((m.now c.args.at).slot c.args.j) (Head (entry_of y.ways.tree y.ways.generation))) e.frame.uses.room (cost_none took c.requires.entry) c.own_leaf-leaf.ensures.room)

pub returns-clause-dirties : goal.returns-clause-dirties
returns-clause-dirties g c =
    adds_own c.own_leaf-leaf.result c.own_leaf-leaf.ensures.dirties refl
    (dirties_frame c.args.at (g.met.B.Blocks.keeps_all c.own_leaf-leaf.new.on c.link.new.on c.link.ensures.keeps) c.link.ensures.frame c.link.ensures.order)
