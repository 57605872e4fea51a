-- What holds when all is settled.
use Rattle.std.proofs.Common.{◌∙◌}
use Rattle.fo_crash.specs.Images.{Image}
use Rattle.fo_ports.specs.State.{State, Looks, IsSettled}

-- what is settled stays so over a look, where no image is
pub settled_looks : (s u : State) → (u.tells → ⊥) → ((image : Image) → u.may_leave image → u.tells) → Looks s u → IsSettled s → IsSettled u
settled_looks s u silent told looks settled = record {
  settled = record { each = λ image is. absurd (silent (told image is)) };
  clean = λ b dirty. (looks.newborn b (settled.clean b (looks.dirty b dirty)).0, λ h. absurd (silent h));
  empty = looks.usable.1 ∙ settled.empty;
  cleared = λ b j h. settled.cleared b j (looks.order.clearing b j h).1;
}
