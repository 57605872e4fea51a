-- What a call leaves that changes no block, and causes of refusals.
use Rattle.std.specs.Prelude.{ℕ, Option, Some, None, IfSome, Result, Ok, Err, IfErr, refl}
use Rattle.std.proofs.Common.{inl, arith}
use Rattle.fo_crash.specs.Images.{Image, SameImage}
use Rattle.fo_crash.specs.Steps.{HasBytes}
use Rattle.fo_ports.specs.Causes.{Caused}
use Rattle.fo_ports.specs.State.{AddsNoWait, Calm, Frame, State, Stays, Uses, none}
use Rattle.fo_ports.specs.declared.error.BlockError.{BlockError}
use Rattle.fo_ports.specs.declared.error.BlockError.TheVariants.{Arena, Damaged, Fault, Full, Memory}
use Rattle.fo_devices.specs.Seen.{beside}

pub same_image : (now : Image) → SameImage now now
same_image now = record { each = λ at. record { bytes = refl; slots = λ i. refl } }

module _ (s : State) (a b : ℕ) where
  stays : Stays none none (beside s a) (beside s b)
  stays = record {
    labels = λ x _. refl;
    marks = λ x _. (λ h. h, λ h. h, λ h. h);
    places = λ told x p _ _ _ _ h. h;
    rooted = λ told x _ h. h;
    newborn = λ x _ h. h;
    apart = λ x _ _. (λ h. h, λ h. h);
    instead = λ x y _ _. (λ h. h, λ h. h);
    waits = λ x on j _ _ _ h. h;
  }

  uses : Uses 0 0 (beside s a) (beside s b)
  uses = record { spare = omega arith; usable = omega arith; room = omega arith; pins = refl; moments = refl; left = λ k image h. h }

  frame : Frame none none 0 (beside s a) (beside s b)
  frame = record { stays = stays; dirty = λ x d. inl d; uses = uses; numbers = record { next = refl; grants = λ h. h } }

  pub calm_same : Calm none 0 (beside s a) (beside s b)
  calm_same = record {
    frame = frame;
    order = record { clearing = λ x j h. (λ no. no, h); goes_on = λ x j _ h. h };
    covered = record { covered = λ x. (λ h. h, λ h. h) };
    newborn = λ x h. h;
    queued = refl;
    no_removal = record { each = λ x e w h. h };
  }

  pub no_wait_same : AddsNoWait none (beside s a) (beside s b)
  no_wait_same = record { each = λ x on j _ h. h }

-- A block that is called damaged has all that is so of such.
pub blamed : {T : Type 0} (r : Result T BlockError) (full : Type 0) (P Q : ℕ → Type 0) (fault arena : Type 0) → ((x : ℕ) → P x → Q x) → IfErr r (Caused full P fault arena) → IfErr r (Caused full Q fault arena)
blamed (Ok x) full P Q fault arena f h = tt
blamed (Err Full) full P Q fault arena f h = h
blamed (Err (Damaged at)) full P Q fault arena f h = f at h
blamed (Err (Fault which)) full P Q fault arena f h = h
blamed (Err (Arena which)) full P Q fault arena f h = h
blamed (Err Memory) full P Q fault arena f h = tt

-- Where no image is left, each has a block's bytes.
pub in_each : (after : Option ℕ) (now : Image) (images : Image → Type 0) → ((image : Image) → images image → ⊥) → IfSome after (λ leaf. HasBytes now leaf images)
in_each (Some leaf) now images none = record { each = λ image h. absurd (none image h) }
in_each None now images none = tt

-- A leaf after which a slot is cleared has only to be told by its kind.
pub after_leaf : (after : Option ℕ) (A : Type 0) (B C : ℕ → Type 0) → IfSome after (λ leaf. A × B leaf × C leaf) → IfSome after (λ leaf. A)
after_leaf (Some leaf) A B C h = h.0
after_leaf None A B C h = tt
