use Rattle.std.proofs.Common.{◌≡◌, Bool, true, false, refl, sym, subst}
use Rattle.fo_ports.specs.Blocks.{AreZeros}
use Rattle.fo_closing.proofs.Resting.{bad_in, known_bad, known_good, shown_in}
use Rattle.fo_closing.proofs.looks.show_part.Goals as goal

by_cases : {P A B : Type 0} (b : Bool) → (b ≡ true → A) → (b ≡ false → B) → (A → P) → (B → P) → P
by_cases true a b f g = f (a refl)
by_cases false a b f g = g (b refl)

pub returns-clause-known : goal.returns-clause-known
returns-clause-known g c =
    let m = c.args.mind.now in
    let part = c.is_part.ensures.0 c.if-not-is_part.false in
    by_cases c.in_default.field-0 c.in_default.ensures.good c.in_default.ensures.bad
    (λ s. known_good part (shown_in m.placed.is_first m.placed.is_count s))
    (λ b. known_bad (subst AreZeros (sym b.1) c.requires.zeros) (bad_in m.placed.is_first m.placed.is_count b.0))
