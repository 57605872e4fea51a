-- A call that only looks, as the trait says it.
use Rattle.std.proofs.Common.{ℕ, refl, inl, inr, ⊎_elim}
use Rattle.fo_crash.proofs.Sure.{same_content}
use Rattle.fo_crash.specs.Images.{Content}
use Rattle.fo_cells.specs.Known.{Known}
use Rattle.fo_cells.specs.Safe.{IsSafe}
use Rattle.fo_cells.proofs.Removing.{shown_from}
use Rattle.fo_cells_calls.specs.State.{Rest, Looked, state_of}
use Rattle.fo_ports.specs.State.{Looks}

pub looks : {k : Known} {high : ℕ} {doubt : Content → Type 0} (x y : Rest) → IsSafe k high doubt → Looked k x y → Looks (state_of k x) (state_of k y)
looks {k} x y safe l = record {
  holds = refl;
  memory = λ told. record { each = λ b. same_content (k.memory b) };
  known = λ b pinned. same_content (k.memory b);
  images = record { each = λ image h. (l.tells h.0, h.1) };
  passes = record {
    later = l.later;
    before = λ n image le h. l.before n image le h;
    within = λ n image lt le h. let (told, (labels, left)) = l.within n image lt le h in let o = shown_from x.tops safe left l.tops in record { other = o.other; is = (told, o.is); same = o.same };
  };
  stays = record {
    labels = λ b unmade. refl;
    marks = λ b unmade. l.marks b;
    places = λ told b p unmade unput uncovered rooted st. (l.still st.0, st.1);
    rooted = λ told b unmade r. (r.0, ⊎_elim (λ t. inl (l.same_tops r.0 t)) (λ a. inr ((l.apart r.0).0 a)) r.1, r.2);
    newborn = λ b unmade n. n;
    apart = λ b unmade unput. l.apart b;
    instead = λ b a unmade unput. l.instead b a;
    waits = λ a on j ua uo po w. w;
  };
  order = record { clearing = λ b j c. (λ none. none, c); goes_on = λ b j made c. c };
  covered = record { covered = l.covered };
  newborn = λ b n. n;
  no_wait = record { each = λ a on j but w. w };
  dirty = l.dirty;
  room = l.room;
  usable = l.usable;
  no_removal = record { each = l.removes };
  numbers = record { next = l.numbers.0; grants = l.numbers.1 };
}
