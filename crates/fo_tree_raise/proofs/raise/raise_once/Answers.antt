use Rattle.std.proofs.Common.{◌≡◌, ◌+◌, ◌-◌, ◌^◌, suc, length, refl, sym, ap, ◌∙◌, subst, arith}
use Rattle.fo_image.specs.declared.types.State.TheVariants.{Live}
use Rattle.fo_image.specs.declared.types.Label.{Label}
use Rattle.fo_crash.specs.Images.{target}
use Rattle.fo_crash.specs.Places.{place, IsPlaced}
use Rattle.fo_crash.specs.declared.slot.Slot.TheVariants.{Pointer as To}
use Rattle.fo_ports.specs.Blocks.{blank, IsLevel, cost}
use Rattle.fo_ports.specs.State.{Gives}
use Rattle.fo_ports.proofs.Lengths.{length_zero_bytes}
use Rattle.fo_tree_read.specs.Tree.{kind_at}
use Rattle.fo_tree_down.proofs.of_tree_own.Link.{Laws, came, blank_leads}
use Rattle.fo_tree_raise.proofs.May.{Lifting, level_of, blank_first, may_spell, may_lead, may_settled, may_cost, none_dropped, may_put}
use Rattle.fo_tree_raise.proofs.Raising.{Lifted, raises, again}
use Rattle.fo_tree_raise.proofs.Levels.{still_prepared, block_raised, block_none, owned_back, owned_on}
use Rattle.fo_tree_raise.proofs.Clear.{clear_raised}
use Rattle.fo_tree_raise.proofs.Bearing.{bears_raised}
use Rattle.fo_tree_raise.proofs.Coming.{Coming, comes_raised, only_raised}
use Rattle.fo_tree_down.proofs.of_tree_own.Copying.{aside_shows}
use Rattle.fo_tree_raise.proofs.Alikes.{keeps_alike}
use Rattle.fo_tree_down.proofs.Topping.{nil_local}
use Rattle.fo_tree_raise.proofs.raise.raise_once.Given as given
use Rattle.fo_tree_raise.proofs.raise.raise_once.Goals as goal

pub new_block-made-requires-clause-level : goal.new_block-made-requires-clause-level
new_block-made-requires-clause-level g c =
    let lt = c.requires.level in
    subst (λ q. IsLevel q) (sym c.kind_at-kind.ensures) (level_of c.args.tree.now.dir (c.args.tree.now.depth + 1) (omega (arith, lt)))

laws_of : (g : given.Over) (b : g.row.B.Denot) → Laws (g.B.Blocks.state b)
laws_of g b =
    let s = g.B.Blocks.state b in
    record { present = g.met.B.Blocks.present b; active = (g.met.B.Blocks.active b).0; not_one = (g.met.B.Blocks.active b).1; one = g.met.B.Blocks.one_place b; super_stands = g.met.B.Blocks.super_stands b; placed = λ told. g.met.B.Blocks.placed b s.now (g.met.B.Blocks.present b told); ranked = λ told. g.met.B.Blocks.ranked b s.now (g.met.B.Blocks.present b told); live = λ y told ne r. g.met.B.Blocks.live b y told ne r; clears = g.met.B.Blocks.clears_entries b; waits_within = g.met.B.Blocks.waits_within b; covers_told = g.met.B.Blocks.covers_told b; within = g.met.B.Blocks.within b; spelled = g.met.B.Blocks.spelled b; apart_hangs = λ told w is r. g.met.B.Blocks.apart_hangs b s.now 1 w is (g.met.B.Blocks.present b told) (g.met.B.Blocks.active b).0 r; small = g.met.B.Blocks.small b }

abbrev label_at : (g : given.Over) (c : goal.After-put_slot-arg-2-1 g) → Label
label_at g c = record { state = Live; kind = kind_at c.args.tree.now.dir (suc c.args.tree.now.depth); tag = c.args.tree.now.tag; epoch = (g.B.Blocks.state c.args.on.now).high; closing = 2 ^ 32 - 1 }

lifting : (g : given.Over) (c : goal.After-put_slot-arg-2-1 g) → Lifting c.args.tree.now (label_at g c) c.new_block-made.result (g.B.Blocks.state c.args.on.now) (g.B.Blocks.state c.new_block-made.new.self)
lifting g c =
    let on = c.args.on.now in
    let mid = c.new_block-made.new.self in
    let s = g.B.Blocks.state on in
    let m = g.B.Blocks.state mid in
    let t = c.args.tree.now in
    let d = t.depth in
    let made = c.new_block-made.result in
    let e = c.new_block-made.ensures in
    let up : d + 1 ≡ suc d = omega arith in
    let kind = c.kind_at-kind.ensures ∙ ap (λ k. kind_at t.dir k) up in
    let gives = subst (λ q. Gives made (blank q) (record { state = Live; kind = q; tag = t.tag; epoch = s.high; closing = 2 ^ 32 - 1 }) s m) kind e.gives in
    record {
      came = came gives;
      all = g.met.B.Blocks.keeps_all on mid e.keeps;
      laws = laws_of g on;
      later = laws_of g mid;
      is_live = refl;
      is_current = refl;
      kind = refl;
      tagged = refl;
      long = ap length gives.memory.here.bytes ∙ length_zero_bytes;
      slot = gives.memory.here.slots 0 ∙ blank_first t.dir d;
      bare = λ j. ap target (gives.memory.here.slots j) ∙ blank_leads t.dir (suc d) j;
      instead = e.instead;
      place = λ told. subst (λ r. m.stands made (place (kind_at t.dir (suc d)) t.tag 0 (t.rank + r))) up (subst (λ q. m.stands made (place q t.tag 0 (t.rank + (d + 1)))) kind (e.place told));
      can = c.requires.top;
    }

pub put_slot-requires-clause-pinned : goal.put_slot-requires-clause-pinned
put_slot-requires-clause-pinned g c = (lifting g c).came.is.1

pub put_slot-requires-clause-current : goal.put_slot-requires-clause-current
put_slot-requires-clause-current g c = let x = lifting g c in ap (λ (l : Label). l.epoch) x.came.label ∙ x.is_current ∙ sym x.all.same_high

pub put_slot-requires-clause-spelled : goal.put_slot-requires-clause-spelled
put_slot-requires-clause-spelled g c = may_spell (lifting g c)

pub put_slot-requires-clause-settled : goal.put_slot-requires-clause-settled
put_slot-requires-clause-settled g c = may_settled (lifting g c)

pub put_slot-requires-clause-same_use : goal.put_slot-requires-clause-same_use
put_slot-requires-clause-same_use g c = λ a w. absurd ((lifting g c).came.is.5 a 0 w)

pub put_slot-requires-clause-leads : goal.put_slot-requires-clause-leads
put_slot-requires-clause-leads g c = λ b e. may_lead (lifting g c) b e

pub put_slot-requires-clause-may : goal.put_slot-requires-clause-may
put_slot-requires-clause-may g c = λ told. let x = lifting g c in may_put x (x.all.still_tells.0 told)

pub put_slot-requires-clause-room : goal.put_slot-requires-clause-room
put_slot-requires-clause-room g c = let none = may_cost (lifting g c) in omega (arith, none)

pub put_slot-requires-clause-tops : goal.put_slot-requires-clause-tops
put_slot-requires-clause-tops g c = λ n b lt h. let none = none_dropped (lifting g c) in absurd (omega (arith, lt, none))

abbrev label_end : (g : given.Over) (c : goal.After-put_slot g) → Label
label_end g c = record { state = Live; kind = kind_at c.args.tree.now.dir (suc c.args.tree.now.depth); tag = c.args.tree.now.tag; epoch = (g.B.Blocks.state c.args.on.now).high; closing = 2 ^ 32 - 1 }

lifting_end : (g : given.Over) (c : goal.After-put_slot g) → Lifting c.args.tree.now (label_end g c) c.new_block-made.result (g.B.Blocks.state c.args.on.now) (g.B.Blocks.state c.new_block-made.new.self)
lifting_end g c =
    let on = c.args.on.now in
    let mid = c.new_block-made.new.self in
    let s = g.B.Blocks.state on in
    let m = g.B.Blocks.state mid in
    let t = c.args.tree.now in
    let d = t.depth in
    let made = c.new_block-made.result in
    let e = c.new_block-made.ensures in
    let up : d + 1 ≡ suc d = omega arith in
    let kind = c.kind_at-kind.ensures ∙ ap (λ k. kind_at t.dir k) up in
    let gives = subst (λ q. Gives made (blank q) (record { state = Live; kind = q; tag = t.tag; epoch = s.high; closing = 2 ^ 32 - 1 }) s m) kind e.gives in
    record {
      came = came gives;
      all = g.met.B.Blocks.keeps_all on mid e.keeps;
      laws = laws_of g on;
      later = laws_of g mid;
      is_live = refl;
      is_current = refl;
      kind = refl;
      tagged = refl;
      long = ap length gives.memory.here.bytes ∙ length_zero_bytes;
      slot = gives.memory.here.slots 0 ∙ blank_first t.dir d;
      bare = λ j. ap target (gives.memory.here.slots j) ∙ blank_leads t.dir (suc d) j;
      instead = e.instead;
      place = λ told. subst (λ r. m.stands made (place (kind_at t.dir (suc d)) t.tag 0 (t.rank + r))) up (subst (λ q. m.stands made (place q t.tag 0 (t.rank + (d + 1)))) kind (e.place told));
      can = c.requires.top;
    }

lifted : (g : given.Over) (c : goal.After-put_slot g) → Lifted c.args.tree.now (label_end g c) c.new_block-made.result (cost (((g.B.Blocks.state c.new_block-made.new.self).now c.new_block-made.result).slot 0) (To c.args.tree.now.top)) (λ image. Unit {0}) (g.B.Blocks.state c.args.on.now) (g.B.Blocks.state c.new_block-made.new.self) (g.B.Blocks.state c.put_slot.new.self)
lifted g c =
    let p = c.put_slot.ensures in
    let x = lifting_end g c in
    record {
      lifting = x;
      no_cost = may_cost x;
      puts = p.now;
      images = p.images;
      frame = p.frame;
      hangs = p.hangs;
      order = p.order;
      no_wait = p.no_wait;
      covers = p.covers;
      all = g.met.B.Blocks.keeps_all c.new_block-made.new.self c.put_slot.new.self p.keeps;
      whole = g.met.B.Blocks.keeps_all c.args.on.now c.put_slot.new.self (g.met.B.Blocks.keeps_joins c.args.on.now c.new_block-made.new.self c.put_slot.new.self c.new_block-made.ensures.keeps p.keeps);
      end = laws_of g c.put_slot.new.self;
    }

pub returns-clause-raises : goal.returns-clause-raises
returns-clause-raises g c = raises (lifted g c)

pub returns-clause-again : goal.returns-clause-again
returns-clause-again g c = again (lifted g c)

pub returns-clause-keeps : goal.returns-clause-keeps
returns-clause-keeps g c = g.met.B.Blocks.keeps_joins c.args.on.now c.new_block-made.new.self c.put_slot.new.self c.new_block-made.ensures.keeps c.put_slot.ensures.keeps

placed_of : (g : given.Over) (b : g.row.B.Denot) → (g.B.Blocks.state b).tells → IsPlaced (g.B.Blocks.state b).stands (g.B.Blocks.state b).now
placed_of g b told = g.met.B.Blocks.placed b (g.B.Blocks.state b).now (g.met.B.Blocks.present b told)

pub returns-clause-below : goal.returns-clause-below
returns-clause-below g c = λ told hangs.
    let l = lifted g c in
    let x = raises l in
    let placed = placed_of g c.args.on.now told in
    record {
      each = block_raised l.whole x told placed hangs;
      none = block_none l.whole x told placed hangs;
      back = owned_back l.whole x told placed hangs;
      on = owned_on l.whole x told placed hangs;
    }

pub returns-clause-bears : goal.returns-clause-bears
returns-clause-bears g c = λ kept some b. let l = lifted g c in bears_raised l.whole (raises l) c.requires.top kept b (again l).holds c.requires.level some (placed_of g c.args.on.now)

pub returns-clause-still : goal.returns-clause-still
returns-clause-still g c = λ kept limit o n room was. let l = lifted g c in still_prepared l.whole (raises l) kept limit o n room was

pub returns-clause-clear : goal.returns-clause-clear
returns-clause-clear g c = λ kept some room clear. let l = lifted g c in clear_raised l.whole (raises l) kept some room clear

coming : (g : given.Over) (c : goal.After-put_slot g) → (g.B.Blocks.state c.args.on.now).tells → Coming c.args.tree.now c.new_block-made.result (g.B.Blocks.state c.args.on.now) (g.B.Blocks.state c.put_slot.new.self)
coming g c told =
    let on = c.args.on.now in
    let s = g.B.Blocks.state on in
    let l = lifted g c in
    record {
      raises = raises l;
      can = c.requires.top;
      all = l.whole;
      told = told;
      placed = placed_of g on told;
      ranked = g.met.B.Blocks.ranked on s.now (g.met.B.Blocks.present on told);
      made_apart = λ y z h. (g.met.B.Blocks.instead_of on y z z told h).0;
    }

pub returns-clause-comes : goal.returns-clause-comes
returns-clause-comes g c = λ told from h. comes_raised (coming g c told) from h

pub returns-clause-only : goal.returns-clause-only
returns-clause-only g c = λ told y z h. only_raised (coming g c told) y z h

pub returns-clause-shown : goal.returns-clause-shown
returns-clause-shown g c =
    let end = c.put_slot.new.self in
    let x = raises (lifted g c) in
    aside_shows (λ image is. let w = x.images image is in (w.beside.other, w.beside.was, w.beside.same))
    (λ image is r. g.met.B.Blocks.apart_hangs end image 1 c.new_block-made.result x.is.2 is (g.met.B.Blocks.active end).0 r)

pub returns-clause-alike : goal.returns-clause-alike
returns-clause-alike g c =
    let on = c.args.on.now in
    let mid = c.new_block-made.new.self in
    let end = c.put_slot.new.self in
    let s = g.B.Blocks.state on in
    let m = g.B.Blocks.state mid in
    let t = c.args.tree.now in
    let d = t.depth in
    let made = c.new_block-made.result in
    let up : d + 1 ≡ suc d = omega arith in
    let kind = c.kind_at-kind.ensures ∙ ap (λ k. kind_at t.dir k) up in
    let gives = subst (λ q. Gives made (blank q) (record { state = Live; kind = q; tag = t.tag; epoch = s.high; closing = 2 ^ 32 - 1 }) s m) kind c.new_block-made.ensures.gives in
    let x = lifted g c in
    keeps_alike x (record {
      first = record { super_at = λ image is. g.met.B.Blocks.super_stands on (g.met.B.Blocks.told on image is); each = λ image is. g.met.B.Blocks.placed on image is };
      then = record { super_at = λ image is. g.met.B.Blocks.super_stands end (g.met.B.Blocks.told end image is); each = λ image is. g.met.B.Blocks.placed end image is };
      falls = λ image is. g.met.B.Blocks.ranked end image is;
      told = λ image is. g.met.B.Blocks.told end image is;
      gives = gives.images;
      none = λ j b h. nil_local b (sym (blank_leads t.dir (suc d) j) ∙ h);
      apart = λ image is r. g.met.B.Blocks.apart_hangs end image 1 made (raises x).is.2 is (g.met.B.Blocks.active end).0 r;
    })
