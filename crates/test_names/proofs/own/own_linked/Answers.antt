use Rattle.std.proofs.Common.{◌≡◌, ◌<◌, ◌≤◌, ◌∙◌, sym, subst, arith}
use Rattle.fo_crash.specs.declared.slot.Slot.TheVariants.{Entry as Head}
use Rattle.fo_crash.specs.Names.{SameUse}
use Rattle.fo_ports.specs.Blocks.{cost, dropped}
use Rattle.fo_tree_own.proofs.Link.{Laws}
use Rattle.fo_tree_open.specs.Open.{HasEntry}
use Rattle.fo_tree_link.specs.Link.{entry_of, CanLink}
use Rattle.test_names.proofs.Linking.{Owns, costs_none, may_link, no_levels, none_linked, room_same, root_current, root_has, root_pinned, top_other, use_same}
use Rattle.test_names.specs.Root.{IsInMemory}
use Rattle.test_names.proofs.Ground.{Ground}
use Rattle.test_names.proofs.own.own_linked.Given as given
use Rattle.test_names.proofs.own.own_linked.Goals as goal

ground_of : (g : given.Over) (b : g.row.B.Denot) → IsInMemory (g.B.Blocks.state b) → Ground (g.B.Blocks.state b)
ground_of g b memory =
    let s = g.B.Blocks.state b in
    let told = memory.told in
    record {
      told = told;
      active = (g.met.B.Blocks.active b).0;
      not_one = (g.met.B.Blocks.active b).1;
      placed = g.met.B.Blocks.placed b s.now (g.met.B.Blocks.present b told);
      ranked = g.met.B.Blocks.ranked b s.now (g.met.B.Blocks.present b told);
      one = g.met.B.Blocks.one_place b;
      super_stands = g.met.B.Blocks.super_stands b told;
      labelled = λ y q ne stands. g.met.B.Blocks.labelled b y q told ne stands;
      live = λ y ne r. g.met.B.Blocks.live b y told ne r;
      root_named = g.met.B.Blocks.root_named b told;
      root_block = (g.met.B.Blocks.root_is b).0;
      root_is = (g.met.B.Blocks.root_is b).1 told;
    }

laws_of : (g : given.Over) (b : g.row.B.Denot) → Laws (g.B.Blocks.state b)
laws_of g b =
    let s = g.B.Blocks.state b in
    record {
      present = g.met.B.Blocks.present b;
      active = (g.met.B.Blocks.active b).0;
      not_one = (g.met.B.Blocks.active b).1;
      one = g.met.B.Blocks.one_place b;
      super_stands = g.met.B.Blocks.super_stands b;
      placed = λ told. g.met.B.Blocks.placed b s.now (g.met.B.Blocks.present b told);
      ranked = λ told. g.met.B.Blocks.ranked b s.now (g.met.B.Blocks.present b told);
      live = λ y told ne r. g.met.B.Blocks.live b y told ne r;
      clears = g.met.B.Blocks.clears_entries b;
      waits_within = g.met.B.Blocks.waits_within b;
      covers_told = g.met.B.Blocks.covers_told b;
      within = g.met.B.Blocks.within b;
      spelled = g.met.B.Blocks.spelled b;
      apart_hangs = λ told w is r. g.met.B.Blocks.apart_hangs b s.now 1 w is (g.met.B.Blocks.present b told) (g.met.B.Blocks.active b).0 r;
      small = g.met.B.Blocks.small b;
    }

pub link-requires-clause-pinned : goal.link-requires-clause-pinned
link-requires-clause-pinned g c =
    let on = c.args.on.now in
    let mid = c.own_part.new.on in
    let s = g.B.Blocks.state on in
    let m = g.B.Blocks.state mid in
    let p = c.args.part in
    let x = c.args.source.now in
    let y = c.own_part.new.source in
    let e = c.own_part.ensures in
    let o : Owns s m p x y c.args.i c.own_part.result = record {
      laws = laws_of g on;
      end = laws_of g mid;
      ground = ground_of g on (c.requires.memory on);
      later = ground_of g mid (c.requires.memory mid);
      one_stays = g.met.B.Blocks.one_stays mid;
      all = g.met.B.Blocks.keeps_all on mid e.keeps;
      is = c.requires.source;
      over = e.over;
      form = e.form;
      size = e.size;
      owned = e.owned;
      top = e.top;
      clear = e.clear;
      comes = e.comes;
      only = e.only;
      changes = e.changes;
    } in
    subst (λ b. m.pinned b) (sym c.root-root.ensures) (root_pinned o)

pub link-requires-clause-current : goal.link-requires-clause-current
link-requires-clause-current g c =
    let on = c.args.on.now in
    let mid = c.own_part.new.on in
    let s = g.B.Blocks.state on in
    let m = g.B.Blocks.state mid in
    let p = c.args.part in
    let x = c.args.source.now in
    let y = c.own_part.new.source in
    let e = c.own_part.ensures in
    let o : Owns s m p x y c.args.i c.own_part.result = record {
      laws = laws_of g on;
      end = laws_of g mid;
      ground = ground_of g on (c.requires.memory on);
      later = ground_of g mid (c.requires.memory mid);
      one_stays = g.met.B.Blocks.one_stays mid;
      all = g.met.B.Blocks.keeps_all on mid e.keeps;
      is = c.requires.source;
      over = e.over;
      form = e.form;
      size = e.size;
      owned = e.owned;
      top = e.top;
      clear = e.clear;
      comes = e.comes;
      only = e.only;
      changes = e.changes;
    } in
    subst (λ b. (m.label b).epoch ≡ m.high) (sym c.root-root.ensures) (root_current o)

pub link-requires-clause-leaf : goal.link-requires-clause-leaf
link-requires-clause-leaf g c =
    let on = c.args.on.now in
    let mid = c.own_part.new.on in
    let s = g.B.Blocks.state on in
    let m = g.B.Blocks.state mid in
    let p = c.args.part in
    let x = c.args.source.now in
    let y = c.own_part.new.source in
    let e = c.own_part.ensures in
    let o : Owns s m p x y c.args.i c.own_part.result = record {
      laws = laws_of g on;
      end = laws_of g mid;
      ground = ground_of g on (c.requires.memory on);
      later = ground_of g mid (c.requires.memory mid);
      one_stays = g.met.B.Blocks.one_stays mid;
      all = g.met.B.Blocks.keeps_all on mid e.keeps;
      is = c.requires.source;
      over = e.over;
      form = e.form;
      size = e.size;
      owned = e.owned;
      top = e.top;
      clear = e.clear;
      comes = e.comes;
      only = e.only;
      changes = e.changes;
    } in
    subst (λ b. HasEntry (m.label b).kind c.slot.result) (sym c.root-root.ensures) (subst (λ i. HasEntry (m.label s.root).kind i) (sym c.slot.ensures) (root_has o))

pub link-requires-clause-same_use : goal.link-requires-clause-same_use
link-requires-clause-same_use g c =
    let on = c.args.on.now in
    let mid = c.own_part.new.on in
    let s = g.B.Blocks.state on in
    let m = g.B.Blocks.state mid in
    let p = c.args.part in
    let x = c.args.source.now in
    let y = c.own_part.new.source in
    let e = c.own_part.ensures in
    let o : Owns s m p x y c.args.i c.own_part.result = record {
      laws = laws_of g on;
      end = laws_of g mid;
      ground = ground_of g on (c.requires.memory on);
      later = ground_of g mid (c.requires.memory mid);
      one_stays = g.met.B.Blocks.one_stays mid;
      all = g.met.B.Blocks.keeps_all on mid e.keeps;
      is = c.requires.source;
      over = e.over;
      form = e.form;
      size = e.size;
      owned = e.owned;
      top = e.top;
      clear = e.clear;
      comes = e.comes;
      only = e.only;
      changes = e.changes;
    } in
    subst (λ b. SameUse (Head (entry_of y.ways.tree y.ways.generation)) ((m.now b).slot c.slot.result)) (sym c.root-root.ensures) (subst (λ i. SameUse (Head (entry_of y.ways.tree y.ways.generation)) ((m.now s.root).slot i)) (sym c.slot.ensures) (use_same o))

pub link-requires-clause-other : goal.link-requires-clause-other
link-requires-clause-other g c =
    let on = c.args.on.now in
    let mid = c.own_part.new.on in
    let s = g.B.Blocks.state on in
    let m = g.B.Blocks.state mid in
    let p = c.args.part in
    let x = c.args.source.now in
    let y = c.own_part.new.source in
    let e = c.own_part.ensures in
    let o : Owns s m p x y c.args.i c.own_part.result = record {
      laws = laws_of g on;
      end = laws_of g mid;
      ground = ground_of g on (c.requires.memory on);
      later = ground_of g mid (c.requires.memory mid);
      one_stays = g.met.B.Blocks.one_stays mid;
      all = g.met.B.Blocks.keeps_all on mid e.keeps;
      is = c.requires.source;
      over = e.over;
      form = e.form;
      size = e.size;
      owned = e.owned;
      top = e.top;
      clear = e.clear;
      comes = e.comes;
      only = e.only;
      changes = e.changes;
    } in
    λ b is same. top_other o b is (same ∙ c.root-root.ensures)

pub link-requires-clause-room : goal.link-requires-clause-room
link-requires-clause-room g c =
    let on = c.args.on.now in
    let mid = c.own_part.new.on in
    let s = g.B.Blocks.state on in
    let m = g.B.Blocks.state mid in
    let p = c.args.part in
    let x = c.args.source.now in
    let y = c.own_part.new.source in
    let e = c.own_part.ensures in
    let o : Owns s m p x y c.args.i c.own_part.result = record {
      laws = laws_of g on;
      end = laws_of g mid;
      ground = ground_of g on (c.requires.memory on);
      later = ground_of g mid (c.requires.memory mid);
      one_stays = g.met.B.Blocks.one_stays mid;
      all = g.met.B.Blocks.keeps_all on mid e.keeps;
      is = c.requires.source;
      over = e.over;
      form = e.form;
      size = e.size;
      owned = e.owned;
      top = e.top;
      clear = e.clear;
      comes = e.comes;
      only = e.only;
      changes = e.changes;
    } in
    subst (λ b. cost ((m.now b).slot c.slot.result) (Head (entry_of y.ways.tree y.ways.generation)) ≤ m.room) (sym c.root-root.ensures) (subst (λ i. cost ((m.now s.root).slot i) (Head (entry_of y.ways.tree y.ways.generation)) ≤ m.room) (sym c.slot.ensures) (let none = costs_none o in omega (arith, none)))

pub link-requires-clause-tops : goal.link-requires-clause-tops
link-requires-clause-tops g c =
    let on = c.args.on.now in
    let mid = c.own_part.new.on in
    let s = g.B.Blocks.state on in
    let m = g.B.Blocks.state mid in
    let p = c.args.part in
    let x = c.args.source.now in
    let y = c.own_part.new.source in
    let e = c.own_part.ensures in
    let o : Owns s m p x y c.args.i c.own_part.result = record {
      laws = laws_of g on;
      end = laws_of g mid;
      ground = ground_of g on (c.requires.memory on);
      later = ground_of g mid (c.requires.memory mid);
      one_stays = g.met.B.Blocks.one_stays mid;
      all = g.met.B.Blocks.keeps_all on mid e.keeps;
      is = c.requires.source;
      over = e.over;
      form = e.form;
      size = e.size;
      owned = e.owned;
      top = e.top;
      clear = e.clear;
      comes = e.comes;
      only = e.only;
      changes = e.changes;
    } in
    λ n z lt leads. absurd (no_levels o n (subst (λ i. n < dropped ((m.now s.root).slot i) (Head (entry_of y.ways.tree y.ways.generation))) c.slot.ensures (subst (λ b. n < dropped ((m.now b).slot c.slot.result) (Head (entry_of y.ways.tree y.ways.generation))) c.root-root.ensures lt)))

pub link-requires-clause-told : goal.link-requires-clause-told
link-requires-clause-told g c =
    let on = c.args.on.now in
    let mid = c.own_part.new.on in
    let s = g.B.Blocks.state on in
    let m = g.B.Blocks.state mid in
    let p = c.args.part in
    let x = c.args.source.now in
    let y = c.own_part.new.source in
    let e = c.own_part.ensures in
    let o : Owns s m p x y c.args.i c.own_part.result = record {
      laws = laws_of g on;
      end = laws_of g mid;
      ground = ground_of g on (c.requires.memory on);
      later = ground_of g mid (c.requires.memory mid);
      one_stays = g.met.B.Blocks.one_stays mid;
      all = g.met.B.Blocks.keeps_all on mid e.keeps;
      is = c.requires.source;
      over = e.over;
      form = e.form;
      size = e.size;
      owned = e.owned;
      top = e.top;
      clear = e.clear;
      comes = e.comes;
      only = e.only;
      changes = e.changes;
    } in
    λ told. subst (λ b. CanLink m y.ways.tree y.ways.generation b c.slot.result) (sym c.root-root.ensures) (subst (λ i. CanLink m y.ways.tree y.ways.generation s.root i) (sym c.slot.ensures) (may_link o))

pub returns-clause-none : goal.returns-clause-none
returns-clause-none g c =
    let on = c.args.on.now in
    let mid = c.own_part.new.on in
    let s = g.B.Blocks.state on in
    let m = g.B.Blocks.state mid in
    let p = c.args.part in
    let x = c.args.source.now in
    let y = c.own_part.new.source in
    let e = c.own_part.ensures in
    let o : Owns s m p x y c.args.i c.own_part.result = record {
      laws = laws_of g on;
      end = laws_of g mid;
      ground = ground_of g on (c.requires.memory on);
      later = ground_of g mid (c.requires.memory mid);
      one_stays = g.met.B.Blocks.one_stays mid;
      all = g.met.B.Blocks.keeps_all on mid e.keeps;
      is = c.requires.source;
      over = e.over;
      form = e.form;
      size = e.size;
      owned = e.owned;
      top = e.top;
      clear = e.clear;
      comes = e.comes;
      only = e.only;
      changes = e.changes;
    } in
    none_linked o c.link.ensures.instead

pub returns-clause-room : goal.returns-clause-room
returns-clause-room g c =
    let on = c.args.on.now in
    let mid = c.own_part.new.on in
    let s = g.B.Blocks.state on in
    let m = g.B.Blocks.state mid in
    let p = c.args.part in
    let x = c.args.source.now in
    let y = c.own_part.new.source in
    let e = c.own_part.ensures in
    let o : Owns s m p x y c.args.i c.own_part.result = record {
      laws = laws_of g on;
      end = laws_of g mid;
      ground = ground_of g on (c.requires.memory on);
      later = ground_of g mid (c.requires.memory mid);
      one_stays = g.met.B.Blocks.one_stays mid;
      all = g.met.B.Blocks.keeps_all on mid e.keeps;
      is = c.requires.source;
      over = e.over;
      form = e.form;
      size = e.size;
      owned = e.owned;
      top = e.top;
      clear = e.clear;
      comes = e.comes;
      only = e.only;
      changes = e.changes;
    } in
    room_same s.room m.room (g.B.Blocks.state c.link.new.on).room (cost ((m.now c.root-root.result).slot c.slot.result) (Head (entry_of y.ways.tree y.ways.generation))) e.room c.link.ensures.frame.uses.room (subst (λ b. cost ((m.now b).slot c.slot.result) (Head (entry_of y.ways.tree y.ways.generation)) ≡ 0) (sym c.root-root.ensures) (subst (λ i. cost ((m.now s.root).slot i) (Head (entry_of y.ways.tree y.ways.generation)) ≡ 0) (sym c.slot.ensures) (costs_none o)))

pub returns-clause-keeps : goal.returns-clause-keeps
returns-clause-keeps g c = g.met.B.Blocks.keeps_joins c.args.on.now c.own_part.new.on c.link.new.on c.own_part.ensures.keeps c.link.ensures.keeps
