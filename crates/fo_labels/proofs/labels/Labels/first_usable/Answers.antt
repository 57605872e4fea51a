use Rattle.std.proofs.Common.{◌≡◌, ◌∙◌, leb, Some, None, arith, sym}
use Rattle.std.specs.List.{position}
use Rattle.fo_image.specs.Usable.{is_usable}
use Rattle.fo_labels.specs.Groups.{part}
use Rattle.fo_labels.proofs.Grouping.{no-group, no-place, a-place}
use Rattle.fo_labels.proofs.labels.Labels.first_usable.Goals as goal

pub returns-in_err-group : goal.returns-in_err-group
returns-in_err-group c =
    let s = c.self.inside in
    rw c.from_residual.ensures (rw (← c.self.view_is) (no-group c.args.low s.labels.items s.floors (omega arith) c.self.invariant.floors c.in_err-group.ensures))

pub returns-in_err-place : goal.returns-in_err-place
returns-in_err-place c =
    let s = c.self.inside in
    let some : Some c.in_ok-group.group ≡ position (λ x. leb x c.args.low) s.floors = sym c.in_ok-group.was ∙ c.first_within.ensures in
    let none : None ≡ position (is_usable c.args.low) (part c.in_ok-group.group s.labels.items) = rw (c.part.ensures, c.deref.ensures.value) at (sym c.in_err-place.was ∙ c.place_within.ensures) in
    absurd (no-place c.args.low s.labels.items s.floors (omega arith) c.self.invariant.floors c.in_ok-group.group some none)

pub returns : goal.returns
returns c =
    let s = c.self.inside in
    let some : Some c.in_ok-group.group ≡ position (λ x. leb x c.args.low) s.floors = sym c.in_ok-group.was ∙ c.first_within.ensures in
    let here : Some c.in_ok-place.place ≡ position (is_usable c.args.low) (part c.in_ok-group.group s.labels.items) = rw (c.part.ensures, c.deref.ensures.value) at (sym c.in_ok-place.was ∙ c.place_within.ensures) in
    rw (← c.self.view_is) (a-place c.args.low s.labels.items s.floors (omega arith) c.self.invariant.floors c.in_ok-group.group c.in_ok-place.place some here)
