use Rattle.std.proofs.Common.{◌≡◌, ◌+◌, ◌-◌, ◌*◌, ◌/◌, ◌≤◌, inl, inr, ⊎_elim, refl, subst, arith}
use Rattle.fo_tree_look.specs.of_ports.Sources.{most_to_own}
use Rattle.fo_tree_look.specs.Source.{WayReady}
use Rattle.fo_tree_look.proofs.Shown.{top_ready, held_on}
use Rattle.fo_tree_down.specs.Way.{OnWay, Descends, with_top}
use Rattle.fo_tree_down.proofs.Dirtying.{dirties_most, dirties_end}
use Rattle.fo_tree_leaf.proofs.Owning.{LeafCame, owned, bytes_end, top_current, most_within}
use Rattle.fo_tree_leaf.proofs.leaf.own_within.Goals as goal

pub own_way-requires-clause-over : goal.own_way-requires-clause-over
own_way-requires-clause-over g c = (c.requires.over.0, c.requires.over.1)

pub own_way-requires-clause-down : goal.own_way-requires-clause-down
own_way-requires-clause-down g c =
    let room = c.requires.over.1.hangs.room in
    let le = c.requires.within in
    (omega arith, omega (arith, room, le))

pub own_way-requires-clause-ready : goal.own_way-requires-clause-ready
own_way-requires-clause-ready g c =
    let le = c.requires.within in
    let here : (8192 * c.args.i) / 8192 ≡ c.args.i = omega arith in
    subst (λ k. WayReady (g.B.Blocks.state c.args.on.now) c.args.tree.now c.args.kept.now c.args.tree.now.depth k) here (c.requires.over.2.each (8192 * c.args.i) (omega arith) (omega arith) (omega (arith, le)))

pub own_way-requires-clause-spare : goal.own_way-requires-clause-spare
own_way-requires-clause-spare g c =
    let most = most_within c.args.tree.now.size c.args.i c.requires.within in
    let least = c.requires.over.1.least in
    ⊎_elim
    (λ enough. inr (omega (arith, most, least, enough)))
    (λ top. let enough = top.1 in inl (top.0, omega (arith, most, least, enough)))
    c.requires.spare

pub returns-clause-owned : goal.returns-clause-owned
returns-clause-owned g c = λ generation limit.
    let on = c.args.on.now in
    let s = g.B.Blocks.state on in
    let u = g.B.Blocks.state c.own_way.new.on in
    let t = c.args.tree.now in
    let kept = c.args.kept.now in
    let all = g.met.B.Blocks.keeps_all on c.own_way.new.on c.own_way.ensures.keeps in
    let le = c.requires.within in
    let room = c.requires.over.1.hangs.room in
    let here : (8192 * c.args.i) / 8192 ≡ c.args.i = omega arith in
    let ready : WayReady s t kept t.depth c.args.i = subst (λ k. WayReady s t kept t.depth k) here (c.requires.over.2.each (8192 * c.args.i) (omega arith) (omega arith) (omega (arith, le))) in
    let came : LeafCame s u t kept limit c.own_way.result.top c.args.i c.own_way.result.at = record {
      all = all;
      inside = c.requires.within;
      few = omega (arith, room, le);
      comes = c.own_way.ensures.comes;
      replaces = c.own_way.ensures.replaces;
      leads = c.own_way.ensures.leads;
      ready = top_ready s t kept t.depth c.args.i ready;
      beside = c.own_way.ensures.beside;
      held = c.requires.over.1.held;
      still_held = held_on all kept c.requires.over.1.held;
    } in
    owned came generation

pub returns-clause-bytes : goal.returns-clause-bytes
returns-clause-bytes g c = λ told limit.
    let on = c.args.on.now in
    let s = g.B.Blocks.state on in
    let u = g.B.Blocks.state c.own_way.new.on in
    let t = c.args.tree.now in
    let kept = c.args.kept.now in
    let all = g.met.B.Blocks.keeps_all on c.own_way.new.on c.own_way.ensures.keeps in
    let le = c.requires.within in
    let room = c.requires.over.1.hangs.room in
    let here : (8192 * c.args.i) / 8192 ≡ c.args.i = omega arith in
    let ready : WayReady s t kept t.depth c.args.i = subst (λ k. WayReady s t kept t.depth k) here (c.requires.over.2.each (8192 * c.args.i) (omega arith) (omega arith) (omega (arith, le))) in
    let came : LeafCame s u t kept limit c.own_way.result.top c.args.i c.own_way.result.at = record {
      all = all;
      inside = c.requires.within;
      few = omega (arith, room, le);
      comes = c.own_way.ensures.comes;
      replaces = c.own_way.ensures.replaces;
      leads = c.own_way.ensures.leads;
      ready = top_ready s t kept t.depth c.args.i ready;
      beside = c.own_way.ensures.beside;
      held = c.requires.over.1.held;
      still_held = held_on all kept c.requires.over.1.held;
    } in
    bytes_end came told (λ b has. (c.requires.over.1.told told b has).live)

pub returns-clause-spare : goal.returns-clause-spare
returns-clause-spare g c =
    let most = most_within c.args.tree.now.size c.args.i c.requires.within in
    let least = c.requires.over.1.least in
    let used = c.own_way.ensures.spare in
    omega (arith, most, least, used)

pub returns-clause-less : goal.returns-clause-less
returns-clause-less g c = λ top.
    let most = most_within c.args.tree.now.size c.args.i c.requires.within in
    let least = c.requires.over.1.least in
    let used = c.own_way.ensures.less top in
    omega (arith, most, least, used)

pub returns-clause-current : goal.returns-clause-current
returns-clause-current g c = top_current c.own_way.ensures.top

pub returns-clause-over : goal.returns-clause-over
returns-clause-over g c = λ limit whole. let le = c.requires.within in c.own_way.ensures.over (omega (arith, le)) limit whole

pub returns-clause-grows : goal.returns-clause-grows
returns-clause-grows g c = λ limit. record { owns = c.own_way.ensures.owns; still = λ o n was. c.own_way.ensures.still limit o n was }

pub returns-clause-clear : goal.returns-clause-clear
returns-clause-clear g c = λ which clear. let le = c.requires.within in c.own_way.ensures.clear refl (omega (arith, le)) which clear

pub returns-clause-descends : goal.returns-clause-descends
returns-clause-descends g c =
    let s = g.B.Blocks.state c.args.on.now in
    let u = g.B.Blocks.state c.own_way.new.on in
    let t = c.args.tree.now in
    let none : t.depth - t.depth ≡ 0 = omega arith in
    subst (λ l. Descends t (OnWay s t t.depth c.args.i) l s u) none c.own_way.ensures.comes.descends

pub returns-clause-room : goal.returns-clause-room
returns-clause-room g c = c.own_way.ensures.comes.descends.room

pub returns-clause-dirties : goal.returns-clause-dirties
returns-clause-dirties g c =
    let t = c.args.tree.now in
    let most = most_within c.args.tree.now.size c.args.i c.requires.within in
    let least = c.requires.over.1.least in
    let enough : 2 * (t.depth + 1) ≤ 2 * most_to_own t.size c.args.i = omega (arith, most, least) in
    dirties_most enough (dirties_end (with_top t c.own_way.result.top) t.depth c.args.i c.own_way.result.at c.own_way.ensures.leads c.own_way.ensures.dirties)
