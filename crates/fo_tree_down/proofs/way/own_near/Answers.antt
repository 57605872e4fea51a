use Rattle.std.proofs.Common.{◌-◌, arith}
use Rattle.fo_tree_look.proofs.Shown.{top_ready, held_on}
use Rattle.fo_tree_down.proofs.Join.{changes_of}
use Rattle.fo_tree_down.proofs.Leading.{leads_to, last_of, way_owned}
use Rattle.fo_tree_down.proofs.Beside.{WentDown, stays_beside, on_way_block, last_leads}
use Rattle.fo_tree_down.proofs.Stilling.{WasOwned, prepared_still, way_from}
use Rattle.fo_tree_down.proofs.Telling.{over_end, owned_back, given_owned, stays_owned}
use Rattle.fo_tree_down.proofs.Ending.{clear_end}
use Rattle.fo_tree_down.proofs.way.own_near.Goals as goal

pub own_down-requires-clause-hangs : goal.own_down-requires-clause-hangs
own_down-requires-clause-hangs g c = c.requires.over.1.hangs

pub own_down-requires-clause-told : goal.own_down-requires-clause-told
own_down-requires-clause-told g c = λ told b on. c.requires.over.1.told told b (on_way_block (g.B.Blocks.state c.args.on.now) c.args.tree.now c.args.down c.args.k b c.requires.down.0 on)

pub returns-clause-leads : goal.returns-clause-leads
returns-clause-leads g c = leads_to (g.B.Blocks.state c.args.on.now) (g.B.Blocks.state c.own_down.new.on) c.args.tree.now c.args.kept.now c.own_down.result.top c.args.down c.args.k c.own_down.result.at c.own_down.ensures.leads

pub returns-clause-beside : goal.returns-clause-beside
returns-clause-beside g c = λ told.
    let on = c.args.on.now in
    let s = g.B.Blocks.state on in
    let u = g.B.Blocks.state c.own_down.new.on in
    let t = c.args.tree.now in
    let kept = c.args.kept.now in
    let over = c.requires.over.1 in
    let comes = c.own_down.ensures.comes in
    stays_beside {s = s} {u = u} {t = t} {kept = kept} {top = c.own_down.result.top} {n = c.args.down} {k = c.args.k} {at = c.own_down.result.at} {level = t.depth - c.args.down} (record {
      all = g.met.B.Blocks.keeps_all on c.own_down.new.on c.own_down.ensures.keeps;
      hangs = over.hangs;
      told = told;
      says = record { placed = g.met.B.Blocks.placed on s.now (g.met.B.Blocks.present on told); one = g.met.B.Blocks.one_place on };
      held = over.held;
      live = λ b has. (over.told told b has).live;
      within = c.requires.down.0;
      few = c.requires.down.1;
      leads = c.own_down.ensures.leads;
      last = last_leads s u t kept c.args.down c.args.k c.own_down.result.at (top_ready s t kept c.args.down c.args.k c.requires.ready) comes;
      descends = comes.descends;
    })

pub returns-clause-changes : goal.returns-clause-changes
returns-clause-changes g c = changes_of (λ b on. on_way_block (g.B.Blocks.state c.args.on.now) c.args.tree.now c.args.down c.args.k b c.requires.down.0 on) c.own_down.ensures.comes.descends

pub returns-clause-still : goal.returns-clause-still
returns-clause-still g c =
    let on = c.args.on.now in
    let s = g.B.Blocks.state on in
    let u = g.B.Blocks.state c.own_down.new.on in
    let t = c.args.tree.now in
    let kept = c.args.kept.now in
    let comes = c.own_down.ensures.comes in
    prepared_still {s = s} {u = u} {t = t} {kept = kept} {top = c.own_down.result.top} {n = c.args.down} {k = c.args.k} {at = c.own_down.result.at} (record {
      all = g.met.B.Blocks.keeps_all on c.own_down.new.on c.own_down.ensures.keeps;
      within = c.requires.down.0;
      few = c.requires.down.1;
      ready = c.requires.ready;
      leads = c.own_down.ensures.leads;
      last = last_leads s u t kept c.args.down c.args.k c.own_down.result.at (top_ready s t kept c.args.down c.args.k c.requires.ready) comes;
      descends = comes.descends;
    })

pub returns-clause-replaces : goal.returns-clause-replaces
returns-clause-replaces g c = last_of (g.B.Blocks.state c.args.on.now) (g.B.Blocks.state c.own_down.new.on) c.args.tree.now c.args.kept.now c.own_down.result.top c.args.down c.args.k c.own_down.result.at c.own_down.ensures.leads

pub returns-clause-over : goal.returns-clause-over
returns-clause-over g c = λ some limit whole.
    let on = c.args.on.now in
    let s = g.B.Blocks.state on in
    let u = g.B.Blocks.state c.own_down.new.on in
    let t = c.args.tree.now in
    let kept = c.args.kept.now in
    let over = c.requires.over.1 in
    let comes = c.own_down.ensures.comes in
    let went : s.tells → WentDown s u t kept c.own_down.result.top c.args.down c.args.k c.own_down.result.at (t.depth - c.args.down) = λ told. record {
      all = g.met.B.Blocks.keeps_all on c.own_down.new.on c.own_down.ensures.keeps;
      hangs = over.hangs;
      told = told;
      says = record { placed = g.met.B.Blocks.placed on s.now (g.met.B.Blocks.present on told); one = g.met.B.Blocks.one_place on };
      held = over.held;
      live = λ b has. (over.told told b has).live;
      within = c.requires.down.0;
      few = c.requires.down.1;
      leads = c.own_down.ensures.leads;
      last = last_leads s u t kept c.args.down c.args.k c.own_down.result.at (top_ready s t kept c.args.down c.args.k c.requires.ready) comes;
      descends = comes.descends;
    } in
    let owned : WasOwned s u t kept c.own_down.result.top c.args.down c.args.k c.own_down.result.at = record {
      all = g.met.B.Blocks.keeps_all on c.own_down.new.on c.own_down.ensures.keeps;
      within = c.requires.down.0;
      few = c.requires.down.1;
      ready = c.requires.ready;
      leads = c.own_down.ensures.leads;
      last = last_leads s u t kept c.args.down c.args.k c.own_down.result.at (top_ready s t kept c.args.down c.args.k c.requires.ready) comes;
      descends = comes.descends;
    } in
    over_end owned c.own_down.ensures.top (record {
      small = g.met.B.Blocks.small c.own_down.new.on;
      active = (g.met.B.Blocks.active c.own_down.new.on).0;
      unlinked = λ told y h r. g.met.B.Blocks.apart_hangs on s.now 1 y h (g.met.B.Blocks.present on told) (g.met.B.Blocks.active on).0 r;
      comes = λ now y z h. (g.met.B.Blocks.instead_of c.own_down.new.on y z z now h).0;
    }) went some whole

pub returns-clause-owns : goal.returns-clause-owns
returns-clause-owns g c = λ told b.
    let on = c.args.on.now in
    let s = g.B.Blocks.state on in
    let u = g.B.Blocks.state c.own_down.new.on in
    let t = c.args.tree.now in
    let kept = c.args.kept.now in
    let over = c.requires.over.1 in
    let comes = c.own_down.ensures.comes in
    let went : WentDown s u t kept c.own_down.result.top c.args.down c.args.k c.own_down.result.at (t.depth - c.args.down) = record {
      all = g.met.B.Blocks.keeps_all on c.own_down.new.on c.own_down.ensures.keeps;
      hangs = over.hangs;
      told = told;
      says = record { placed = g.met.B.Blocks.placed on s.now (g.met.B.Blocks.present on told); one = g.met.B.Blocks.one_place on };
      held = over.held;
      live = λ b has. (over.told told b has).live;
      within = c.requires.down.0;
      few = c.requires.down.1;
      leads = c.own_down.ensures.leads;
      last = last_leads s u t kept c.args.down c.args.k c.own_down.result.at (top_ready s t kept c.args.down c.args.k c.requires.ready) comes;
      descends = comes.descends;
    } in
    (owned_back went b, λ made. given_owned u t c.own_down.result.top c.args.down c.args.k b c.requires.down.0 (c.own_down.ensures.given b made))

pub returns-clause-stays : goal.returns-clause-stays
returns-clause-stays g c = λ told b has current.
    let on = c.args.on.now in
    let s = g.B.Blocks.state on in
    let u = g.B.Blocks.state c.own_down.new.on in
    let t = c.args.tree.now in
    let kept = c.args.kept.now in
    let over = c.requires.over.1 in
    let comes = c.own_down.ensures.comes in
    let went : WentDown s u t kept c.own_down.result.top c.args.down c.args.k c.own_down.result.at (t.depth - c.args.down) = record {
      all = g.met.B.Blocks.keeps_all on c.own_down.new.on c.own_down.ensures.keeps;
      hangs = over.hangs;
      told = told;
      says = record { placed = g.met.B.Blocks.placed on s.now (g.met.B.Blocks.present on told); one = g.met.B.Blocks.one_place on };
      held = over.held;
      live = λ b has. (over.told told b has).live;
      within = c.requires.down.0;
      few = c.requires.down.1;
      leads = c.own_down.ensures.leads;
      last = last_leads s u t kept c.args.down c.args.k c.own_down.result.at (top_ready s t kept c.args.down c.args.k c.requires.ready) comes;
      descends = comes.descends;
    } in
    stays_owned went b has current

pub returns-clause-current : goal.returns-clause-current
returns-clause-current g c = way_owned (g.B.Blocks.state c.args.on.now) (g.B.Blocks.state c.own_down.new.on) c.args.tree.now c.args.kept.now c.own_down.result.top c.args.down c.args.k c.own_down.result.at c.own_down.ensures.leads

pub returns-clause-ways : goal.returns-clause-ways
returns-clause-ways g c = λ j b way on_way.
    let on = c.args.on.now in
    let s = g.B.Blocks.state on in
    let u = g.B.Blocks.state c.own_down.new.on in
    let t = c.args.tree.now in
    let kept = c.args.kept.now in
    let comes = c.own_down.ensures.comes in
    way_from {s = s} {u = u} {t = t} {kept = kept} {top = c.own_down.result.top} {n = c.args.down} {k = c.args.k} {at = c.own_down.result.at} (record {
      all = g.met.B.Blocks.keeps_all on c.own_down.new.on c.own_down.ensures.keeps;
      within = c.requires.down.0;
      few = c.requires.down.1;
      ready = c.requires.ready;
      leads = c.own_down.ensures.leads;
      last = last_leads s u t kept c.args.down c.args.k c.own_down.result.at (top_ready s t kept c.args.down c.args.k c.requires.ready) comes;
      descends = comes.descends;
    })
    t.depth j b (omega arith) way on_way

pub returns-clause-clear : goal.returns-clause-clear
returns-clause-clear g c = λ whole inside which clear.
    let on = c.args.on.now in
    let s = g.B.Blocks.state on in
    let u = g.B.Blocks.state c.own_down.new.on in
    let t = c.args.tree.now in
    let kept = c.args.kept.now in
    let comes = c.own_down.ensures.comes in
    let all = g.met.B.Blocks.keeps_all on c.own_down.new.on c.own_down.ensures.keeps in
    let held = c.requires.over.1.held in
    let owned : WasOwned s u t kept c.own_down.result.top c.args.down c.args.k c.own_down.result.at = record {
      all = all;
      within = c.requires.down.0;
      few = c.requires.down.1;
      ready = c.requires.ready;
      leads = c.own_down.ensures.leads;
      last = last_leads s u t kept c.args.down c.args.k c.own_down.result.at (top_ready s t kept c.args.down c.args.k c.requires.ready) comes;
      descends = comes.descends;
    } in
    clear_end owned whole inside clear (λ told. returns-clause-beside g c told) held (held_on all kept held) which
