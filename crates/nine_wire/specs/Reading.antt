-- Reading one message: its frame, and its body by the table of shapes.
use Rattle.std.specs.Prelude.{◌≡◌, ℕ, ◌≤◌, ◌<◌, ◌^◌, List, ◌++◌, length, take, Some}
use Rattle.std.specs.declared.option.Option.{Option}
use Rattle.nine_fields.specs.Field.{One, Two, Four, number, Shape}
use Rattle.nine_fields.specs.Reading.{◌>>=◌, number_at, fields_at, all_of}
use Rattle.nine_fields.proofs.Bytes.{IsBytes}
use Rattle.nine_wire.specs.declared.frame.Frame.{Frame}
use Rattle.nine_wire.specs.declared.frame.Frame.TheVariants as frames
use Rattle.nine_wire.specs.Message.{Message, message, after_size, request_shapes, reply_shapes}
use Rattle.nine_wire.specs.Stands.{size_of, IsAllowed, IsPart, IsBadSize}

-- a message of this type by the table, and the bytes after it
unfoldable pub message_at : (ℕ → Option (List Shape)) → ℕ → List ℕ → Option (Message × List ℕ)
message_at table kind bytes = do
  ss ← table kind
  fs ← fields_at ss bytes
  Some (message kind fs.0, fs.1)

-- a message, and no byte after it
unfoldable pub whole_at : (ℕ → Option (List Shape)) → ℕ → List ℕ → Option Message
whole_at table kind bytes = do
  m ← message_at table kind bytes
  all_of m

-- type[1] and tag[2]
unfoldable pub header_at : List ℕ → Option (ℕ × ℕ × List ℕ)
header_at bytes = do
  kind ← number_at One bytes
  tag ← number_at Two kind.1
  Some (kind.0, tag.0, tag.1)

-- As many bytes as an allowed size says are there: a type, a tag and a body.
pub record Framed (limit : ℕ) (bytes : List ℕ) (kind tag : ℕ) (inside : List ℕ) (size : ℕ) : Type 0 where
  pub allowed : IsAllowed limit bytes
  pub size_is : size ≡ size_of bytes
  pub there : size ≤ length bytes
  pub parts : take size bytes ≡ number Four size ++ after_size kind tag inside
  pub size_fits : size < 2 ^ 32
  pub kind_fits : kind < 2 ^ 8
  pub tag_fits : tag < 2 ^ 16
  pub bytes_fit : IsBytes inside

abbrev pub FrameHolds : ℕ → List ℕ → Frame → Type 0
FrameHolds limit bytes frames.More = IsPart limit bytes
FrameHolds limit bytes frames.BadSize = IsBadSize limit bytes
FrameHolds limit bytes (frames.Whole kind tag inside size) = Framed limit bytes kind tag inside.now size
