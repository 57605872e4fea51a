use Rattle.std.proofs.Common.{arith, rules, ◌≡◌, ◌+◌, refl, ap, ◌∙◌, subst, set, count_by}
use Rattle.fo_image.specs.Usable.{live_label, is_usable}
use Rattle.fo_labels.specs.Region.{Region, usable_count}
use Rattle.fo_labels.proofs.Usable.{none-usable, some-usable}
use Rattle.fo_labels.proofs.labels.Labels.alloc.Goals as goal

pub returns-in_default : goal.returns-in_default
returns-in_default c =
    let s = c.self.inside in
    let r : Region = record { first = s.first; labels = s.labels.items } in
    let h = none-usable c.args.settled_low r (rw (← c.self.view_is) at c.in_default.ensures) in
    rw (← c.self.view_is) record {
      least = h.none;
      none = (λ _. h.counted, λ _. search rules);
      some = search rules;
      labels = search rules;
      usable = tt;
    }

pub returns-clause-least : goal.returns-clause-least
returns-clause-least c =
    let s = c.self.inside in
    let r : Region = record { first = s.first; labels = s.labels.items } in
    let h = some-usable c.args.settled_low c.in-Some.place r (rw (← c.self.view_is) at c.in-Some.ensures) in
    rw (← c.self.view_is) h.some

pub returns-clause-none : goal.returns-clause-none
returns-clause-none c =
    let s = c.self.inside in
    let r : Region = record { first = s.first; labels = s.labels.items } in
    let h = some-usable c.args.settled_low c.in-Some.place r (rw (← c.self.view_is) at c.in-Some.ensures) in
    rw (← c.self.view_is) (λ e. cc, λ z. absurd (omega (arith, h.counted)))

pub returns-clause-some : goal.returns-clause-some
returns-clause-some c =
    let s = c.self.inside in
    let r : Region = record { first = s.first; labels = s.labels.items } in
    let h = some-usable c.args.settled_low c.in-Some.place r (rw (← c.self.view_is) at c.in-Some.ensures) in
    rw (← c.self.view_is) h.block

pub returns-clause-usable : goal.returns-clause-usable
returns-clause-usable c =
    let s = c.self.inside in
    let r : Region = record { first = s.first; labels = s.labels.items } in
    let h = some-usable c.args.settled_low c.in-Some.place r (rw (← c.self.view_is) at c.in-Some.ensures) in
    let l = live_label c.args.kind c.args.tag c.args.epoch in
    ap (λ n. n + 1) (ap (usable_count c.args.settled_low) c.put.ensures)
    ∙ subst (λ (v : Region). count_by (is_usable c.args.settled_low) (set v.labels c.in-Some.place l) + 1 ≡ usable_count c.args.settled_low v) c.self.view_is (h.given l refl)
