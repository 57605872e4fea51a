-- A call that does nothing only looks.
use Rattle.std.proofs.Common.{refl, arith}
use Rattle.fo_ports.specs.State.{State, Looks}

pub looks_at_once : (s : State) → Looks s s
looks_at_once s = record {
  holds = refl;
  memory = λ told. record { each = λ b. record { bytes = refl; slots = λ i. refl } };
  known = λ b h. record { bytes = refl; slots = λ i. refl };
  images = record { each = λ image h. h };
  passes = record { later = omega arith; before = λ k image le h. h; within = λ k image lt le h. absurd (omega (arith, lt, le)) };
  stays = record {
    labels = λ b h. refl;
    marks = λ b h. (λ x. x, λ x. x, λ x. x);
    places = λ told b p h i c r s. s;
    rooted = λ told b h r. r;
    newborn = λ b h n. n;
    apart = λ b h i. (λ x. x, λ x. x);
    instead = λ b x h i. (λ y. y, λ y. y);
    waits = λ a on j h i k w. w;
  };
  order = record { clearing = λ b j h. (λ n. n, h); goes_on = λ b j n h. h };
  covered = record { covered = λ b. (λ x. x, λ x. x) };
  newborn = λ b n. n;
  no_wait = record { each = λ a on j h w. w };
  dirty = λ b d. d;
  room = (refl, refl);
  usable = (refl, refl);
  no_removal = record { each = λ x e w h. h };
  numbers = record { next = refl; grants = λ h. h };
}
