use Rattle.std.proofs.Common.{◌≡◌, ◌<◌, ◌≤◌, ℕ, true, false, List, map, set, count_by, Contains, sym, ap, subst, arith}
use Rattle.fo_order.specs.declared.marks.Flags.{Flags}
use Rattle.fo_order.specs.declared.marks.Tried.TheVariants.{Written, Failed}
use Rattle.fo_order.specs.Flags.{flag, flags_of, is_dirty}
use Rattle.fo_order.specs.Keeps.{Turns}
use Rattle.fo_order.specs.Marks.{Known, Marked, mark, mark_at, mark_rank}
use Rattle.fo_order.proofs.Keeping.{never, not_failed, in_range, at_each, counted_down, push_has, push_keeps, least_push, has_least_push}
use Rattle.fo_order.proofs.order.Order.wrote.Goals as goal

pub invariant_of-self-2 : goal.invariant_of-self-2
invariant_of-self-2 c =
    let dirty : (flag c.self.inside.flags c.args.at).dirty ≡ true = subst (λ (t : Turns). (flag t.flags c.args.at).dirty ≡ true) (sym c.self.view_is) c.requires in
    let within = in_range c.self.inside.flags c.args.at dirty in
    let rank = c.get-was.result.rank in
    let f = flags_of false Written rank in
    let m = mark c.args.at rank in
    let down = counted_down c.self.inside.flags c.args.at rank dirty in
    let least = c.min-self-inside.ensures in
    let is = c.push_reserved.ensures.items in
    let now : c.set-2.new.self ≡ set c.self.inside.flags c.args.at f = c.set-2.ensures in
    record {
      falls = c.self.invariant.falls;
      marked = subst (λ (fs : List Flags). Marked fs c.self.inside.dirty.items) (sym now) (record { each = at_each (λ (q : ℕ) (g : Flags). g.dirty ≡ true → Contains c.self.inside.dirty.items (mark q g.rank)) c.self.inside.flags c.args.at f within (λ e. never e) c.self.invariant.marked.each });
      known = subst (λ (fs : List Flags). Known fs c.push_reserved.new.self.items) (sym now) (record { each = at_each (λ (q : ℕ) (g : Flags). g.tried ≡ Written → Contains (map mark_at c.push_reserved.new.self.items) q) c.self.inside.flags c.args.at f within (λ _. push_has c.self.inside.written.items _ m is mark_at) (λ q e. push_keeps c.self.inside.written.items _ m is mark_at q (c.self.invariant.known.each q e)) });
      late = subst (λ (fs : List Flags). (q : ℕ) → (flag fs q).tried ≡ Written → (flag fs q).dirty ≡ false → c.min-self-inside.result ≤ (flag fs q).rank) (sym now) (at_each (λ (q : ℕ) (g : Flags). g.tried ≡ Written → g.dirty ≡ false → c.min-self-inside.result ≤ g.rank) c.self.inside.flags c.args.at f within (λ _ _. omega (arith, least)) (λ q a b. let old = c.self.invariant.late q a b in omega (arith, least, old)));
      failed = subst (λ (fs : List Flags). (q : ℕ) → (flag fs q).tried ≡ Failed → (flag fs q).dirty ≡ true) (sym now) (at_each (λ (q : ℕ) (g : Flags). g.tried ≡ Failed → g.dirty ≡ true) c.self.inside.flags c.args.at f within (λ e. not_failed e) c.self.invariant.failed);
      least = λ r h. let le = least_push c.self.inside.written.items _ m is c.self.inside.least c.self.invariant.least r h in omega (arith, least, le);
      has_least = subst (λ (n : ℕ). n < 4294967295 → Contains (map mark_rank c.push_reserved.new.self.items) n) (sym least) (has_least_push c.self.inside.written.items _ m is c.self.inside.least c.self.invariant.has_least);
      counted = let same = ap (count_by is_dirty) now in omega (arith, same, down, c.self.invariant.counted);
      room_to_mark = c.self.invariant.room_to_mark;
      room_to_write = let same = ap (count_by is_dirty) now in omega (arith, same, down, c.self.invariant.counted, c.self.invariant.room_to_write, c.push_reserved.ensures.len, c.push_reserved.ensures.capacity);
      one_to_mark = c.self.invariant.one_to_mark;
      one_to_write = omega (arith, c.push_reserved.ensures.capacity, c.self.invariant.one_to_write);
    }

pub returns-clause-fewer : goal.returns-clause-fewer
returns-clause-fewer c = λ _.
    let dirty : (flag c.self.inside.flags c.args.at).dirty ≡ true = subst (λ (t : Turns). (flag t.flags c.args.at).dirty ≡ true) (sym c.self.view_is) c.requires in
    let down = counted_down c.self.inside.flags c.args.at c.get-was.result.rank dirty in
    rw (← c.self.view_is, c.set-2.ensures) down
