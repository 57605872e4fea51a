use Rattle.std.proofs.Common.{◌≡◌, ◌<◌, ◌≤◌, ◌++◌, ℕ, Bool, true, false, cond, List, [], ◌∷◌, length, map, set, count_by, Contains, refl, sym, ap, subst, ◌∙◌, arith}
use Rattle.fo_order.specs.declared.marks.Flags.{Flags}
use Rattle.fo_order.specs.declared.marks.Mark.{Mark}
use Rattle.fo_order.specs.declared.marks.Tried.TheVariants.{Written, Failed}
use Rattle.fo_order.specs.Flags.{flag, flags_of, is_dirty}
use Rattle.fo_order.specs.Inside.{view_of}
use Rattle.fo_order.specs.Keeps.{Turns}
use Rattle.fo_order.specs.Marks.{Known, Marked, mark, mark_at, mark_rank}
use Rattle.fo_order.specs.Turns.{IsQuiet}
use Rattle.fo_order.proofs.Keeping.{never, at_each, count_none, count_set, first_mark}
use Rattle.fo_order.proofs.order.Order.change_first.Goals as goal

pub invariant_of-self : goal.invariant_of-self
invariant_of-self c =
    let quiet : IsQuiet (view_of c.self.inside) = subst IsQuiet (sym c.self.view_is) c.requires.quiet in
    let within : c.args.at < length c.self.inside.flags = subst (λ (t : Turns). c.args.at < length t.flags) (sym c.self.view_is) c.requires.block in
    let f = flags_of true (flag c.self.inside.flags c.args.at).tried c.args.rank in
    let now : c.set.new.self ≡ set c.self.inside.flags c.args.at f = c.set.ensures ∙ ap (λ (g : Flags). set c.self.inside.flags c.args.at (flags_of true g.tried c.args.rank)) c.get-was.ensures in
    let none = count_none c.self.inside.flags quiet.clean in
    let more = count_set c.self.inside.flags c.args.at f within in
    let marks = first_mark c.push_reserved.new.self.items (mark c.args.at c.args.rank) (c.push_reserved.ensures.items ∙ ap (λ (l : List Mark). l ++ mark c.args.at c.args.rank ∷ []) c.clear.ensures.items) in
    record {
      falls = marks.1;
      marked = subst (λ (fs : List Flags). Marked fs c.push_reserved.new.self.items) (sym now) (record { each = at_each (λ (q : ℕ) (g : Flags). g.dirty ≡ true → Contains c.push_reserved.new.self.items (mark q g.rank)) c.self.inside.flags c.args.at f within (λ e. marks.0) (λ q e. never (sym (quiet.clean q) ∙ e)) });
      known = subst (λ (fs : List Flags). Known fs c.self.inside.written.items) (sym now) (record { each = at_each (λ (q : ℕ) (g : Flags). g.tried ≡ Written → Contains (map mark_at c.self.inside.written.items) q) c.self.inside.flags c.args.at f within (c.self.invariant.known.each c.args.at) c.self.invariant.known.each });
      late = subst (λ (fs : List Flags). (q : ℕ) → (flag fs q).tried ≡ Written → (flag fs q).dirty ≡ false → c.self.inside.least ≤ (flag fs q).rank) (sym now) (at_each (λ (q : ℕ) (g : Flags). g.tried ≡ Written → g.dirty ≡ false → c.self.inside.least ≤ g.rank) c.self.inside.flags c.args.at f within (λ _ e. never (sym e)) c.self.invariant.late);
      failed = subst (λ (fs : List Flags). (q : ℕ) → (flag fs q).tried ≡ Failed → (flag fs q).dirty ≡ true) (sym now) (at_each (λ (q : ℕ) (g : Flags). g.tried ≡ Failed → g.dirty ≡ true) c.self.inside.flags c.args.at f within (λ e. refl) c.self.invariant.failed);
      least = c.self.invariant.least;
      has_least = c.self.invariant.has_least;
      counted = let same = ap (count_by is_dirty) now in let clean = ap (λ (b : Bool). cond {A = ℕ} b 1 0) (quiet.clean c.args.at) in omega (arith, same, more, none, clean);
      room_to_mark = omega (arith, c.push_reserved.ensures.len, c.push_reserved.ensures.capacity, c.clear.ensures.len, c.clear.ensures.capacity, c.self.invariant.one_to_mark);
      room_to_write = let empty = ap length quiet.none in let count = c.self.inside.written.ok.0 in omega (arith, empty, count, c.self.invariant.one_to_write);
      one_to_mark = omega (arith, c.push_reserved.ensures.capacity, c.clear.ensures.capacity, c.self.invariant.one_to_mark);
      one_to_write = c.self.invariant.one_to_write;
    }
