-- What stands at the front of a stream of bytes.
use Rattle.std.specs.Prelude.{◌≡◌, ℕ, ◌≤◌, ◌<◌, ◌⊎◌, List, length, take}
use Rattle.std.specs.Int.{w32, from_le_bytes}
use Rattle.nine_wire.specs.declared.message.Request.{Request}
use Rattle.nine_wire.specs.declared.message.Reply.{Reply}
use Rattle.nine_wire.specs.declared.message.BadMsg.TheVariants as bad
use Rattle.nine_wire.specs.declared.message.Step.{Step}
use Rattle.nine_wire.specs.declared.message.Step.TheVariants as step
use Rattle.nine_wire.specs.declared.message.ReplyStep.{ReplyStep}
use Rattle.nine_wire.specs.declared.message.ReplyStep.TheVariants as reply_step
use Rattle.nine_wire.specs.Message.{Message, spelling, HasSpelling, request_message, reply_message}

-- The first `used` bytes are the message with this tag, and the limit allows so many.
pub record Stands (limit : ℕ) (bytes : List ℕ) (tag : ℕ) (m : Message) (used : ℕ) : Type 0 where
  pub spelled : take used bytes ≡ spelling tag m
  pub used_is : used ≡ length (spelling tag m)
  pub within : used ≤ length bytes
  pub allowed : used ≤ limit
  pub fits : HasSpelling tag m

-- the number that the first four bytes spell
unfoldable pub size_of : List ℕ → ℕ
size_of bytes = from_le_bytes w32 (take 4 bytes)

-- The size field is there, and allows a message.
pub record IsAllowed (limit : ℕ) (bytes : List ℕ) : Type 0 where
  pub there : 4 ≤ length bytes
  pub least : 7 ≤ size_of bytes
  pub most : size_of bytes ≤ limit

-- Less than a message: less than its size field, or a size that is allowed and fewer bytes than it.
pub record IsPart (limit : ℕ) (bytes : List ℕ) : Type 0 where
  pub part : (length bytes < 4) ⊎ (IsAllowed limit bytes × (length bytes < size_of bytes))

-- The size field is there, and allows no message.
pub record IsBadSize (limit : ℕ) (bytes : List ℕ) : Type 0 where
  pub there : 4 ≤ length bytes
  pub wrong : (size_of bytes < 7) ⊎ (limit < size_of bytes)

-- As many bytes as an allowed size says are there, and they are no such message with any tag.
pub record IsBadBody {A : Type 0} (view : A → Message) (limit : ℕ) (bytes : List ℕ) : Type 0 where
  pub allowed : IsAllowed limit bytes
  pub whole : size_of bytes ≤ length bytes
  pub no_message : (tag : ℕ) (x : A) → Stands limit bytes tag (view x) (size_of bytes) → ⊥

pub data Front (A : Type 0) : Type 0 where
  Part : Front A
  BadSize : Front A
  BadBody : Front A
  Whole : (tag : ℕ) → (x : A) → (used : ℕ) → Front A

-- Exactly one of these is at the front of any bytes.
abbrev pub IsFront : {A : Type 0} → (A → Message) → ℕ → List ℕ → Front A → Type 0
IsFront view limit bytes Part = IsPart limit bytes
IsFront view limit bytes BadSize = IsBadSize limit bytes
IsFront view limit bytes BadBody = IsBadBody view limit bytes
IsFront view limit bytes (Whole tag x used) = Stands limit bytes tag (view x) used

abbrev pub step_front : Step → Front Request
step_front step.More = Part
step_front (step.Msg tag request used) = Whole tag request used
step_front (step.Bad bad.Size) = BadSize
step_front (step.Bad bad.Body) = BadBody

abbrev pub reply_front : ReplyStep → Front Reply
reply_front reply_step.More = Part
reply_front (reply_step.Msg tag reply used) = Whole tag reply used
reply_front (reply_step.Bad bad.Size) = BadSize
reply_front (reply_step.Bad bad.Body) = BadBody
