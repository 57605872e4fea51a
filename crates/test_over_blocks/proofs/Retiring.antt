-- A root block of the epoch before, of a device in memory.
use Rattle.std.proofs.Common.{◌≡◌, ◌≢◌, ⊎_elim, ◌-◌, ◌^◌, ◌<◌, ◌≤◌, true, false, length, refl, sym, ◌∙◌, ap, arith}
use Rattle.std.proofs.lemmas.Bool.{cases_lt}
use Rattle.fo_image.specs.declared.types.Label.{Label}
use Rattle.fo_image.specs.declared.types.Kind.TheVariants.{Root}
use Rattle.fo_image.specs.declared.types.State.TheVariants.{Live}
use Rattle.fo_ports.specs.State.{Rests, IsClosing}
use Rattle.fo_ports_plain.specs.Epochs.{Begins, Forgets}
use Rattle.fo_ports_plain.specs.Fresh.{IsFresh}
use Rattle.fo_ports_plain.specs.Laws.{none_queued}
use Rattle.fo_ports_plain.specs.Meaning.{Plain, PlainKeeps, state_of}
use Rattle.fo_ports_plain.specs.Plain.{label_at}
use Rattle.fo_ports_plain.specs.Sound.{Queue}
use Rattle.test_over_blocks.specs.Queues.{HasOldRoot}

pub old_root : (p q r u : Plain) → IsFresh 1 p → Rests (state_of p) (state_of q) → PlainKeeps p q → 1 ≤ q.room → Begins (state_of q) (state_of r) → Forgets 2 (state_of r) (state_of u) → 2 < length u.blocks → Queue u.blocks u.queued → HasOldRoot (state_of u) 2
old_root p q r u fresh rests keeps room begins forgets long queue = record {
  is_one = (omega arith, long);
  no_top = λ h. ((forgets.tops 2).0 h).1 refl;
  live = ap (λ (l : Label). l.state) label;
  kind = ap (λ (l : Label). l.kind) label;
  other = λ e. other (sym forgets.epochs.1 ∙ e);
  older = let epoch : (label_at u.blocks u.made 2).epoch ≡ 1 = ap (λ (l : Label). l.epoch) label in let high = begins.high in let was : q.high ≡ 1 = keeps.high ∙ fresh.numbers.1 in let same = forgets.epochs.0 in omega (arith, epoch, high, was, same);
  uncovered = none_queued u queue 2 (forgets.numbers.4 ∙ begins.numbers.4 ∙ none);
  room = let same = begins.numbers.1 in let still = forgets.numbers.1 in omega (arith, same, still, room);
  none = λ y x is.
      let was = (rests.instead y x).0 (((begins.apart y).1 x).0 (((forgets.apart y).1 x).0 is)) in
      let no : true ≡ false = sym was.apart ∙ (fresh.none y).0 in
      cc;
}
  where
    idle : IsClosing (state_of p) → ⊥
    idle = ⊎_elim (λ some. let zero = fresh.numbers.4 in omega (arith, some, zero)) (λ h. h.2)

    none : q.queued ≡ 0
    none = ⊎_elim (λ some. absurd (idle (rests.queues some))) (λ le. omega (arith, le)) (cases_lt 0 q.queued)

    root : q.root ≡ 2
    root = keeps.root ∙ fresh.numbers.2

    other : r.root ≢ 2
    other e = begins.unused.2 (e ∙ sym root)

    label : label_at u.blocks u.made 2 ≡ record { state = Live; kind = Root; tag = 1; epoch = 1; closing = 2 ^ 32 - 1 }
    label = forgets.labels 2 ∙ begins.labels 2 (λ e. other (sym e)) ∙ ⊎_elim (λ e. e) (λ k. absurd (idle k.closing)) (rests.labels 2) ∙ fresh.root_label
