use Rattle.std.proofs.Common.{◌≡◌, List, ℕ, ◌∙◌, sym, ap, arith, get_or, true, false}
use Rattle.std.specs.Str.{bytes_eq}
use Rattle.fo_world.proofs.Ascending.{no_pair, place_named-at, place_named-absent}
use Rattle.fo_world.proofs.tree.place_named.Goals as goal
use Rattle.fo_world.proofs.tree.place_named.Goals.{else-i-entries-via-then-i-entries+else-eq, else-i-entries-via-else-i-entries}

pub returns-then-eq : goal.returns-then-eq
returns-then-eq c =
    let same : bytes_eq (get_or c.args.entries.now c.place_from-i.result c.index-entries-i.result).0 c.args.name.now ≡ true =
    ap (λ (x : List ℕ). bytes_eq x c.args.name.now) (sym c.as_slice.ensures) ∙ sym c.eq.ensures ∙ c.if-eq.true in
    (place_named-at c.args.name.now _ c.index-entries-i.result _ c.place_from-i.ensures.place c.if-i-entries.true same, c.if-i-entries.true)

pub returns-else-i-entries : goal.returns-else-i-entries
returns-else-i-entries c =
    elim c.else-i-entries.branch [
      | else-i-entries-via-then-i-entries+else-eq w ↦
          let differs : bytes_eq (get_or c.args.entries.now c.place_from-i.result w.index-entries-i.result).0 c.args.name.now ≡ false =
          ap (λ (x : List ℕ). bytes_eq x c.args.name.now) (sym w.as_slice.ensures) ∙ sym w.eq.ensures ∙ w.if-eq.false in
          place_named-absent c.args.name.now _ w.index-entries-i.result _ c.requires c.place_from-i.ensures.place (λ h. differs)
      | else-i-entries-via-else-i-entries w ↦ place_named-absent c.args.name.now _ no_pair _ c.requires c.place_from-i.ensures.place (λ h. absurd (omega (arith, w.if-i-entries.false)))
    ]
