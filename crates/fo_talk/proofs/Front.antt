-- What a look at the front of a stream tells of the conversation.
use Rattle.std.proofs.Common.{◌≡◌, ℕ, ◌<◌, ◌≤◌, List, [], ◌++◌, length, inl, inr, ap, arith}
use Rattle.std.proofs.lemmas.List.{length-append}
use Rattle.nine_wire.specs.declared.message.BadMsg.{BadMsg}
use Rattle.nine_wire.specs.declared.message.BadMsg.TheVariants as bad
use Rattle.nine_wire.specs.declared.message.Step.TheVariants as step
use Rattle.nine_wire.specs.Message.{request_message}
use Rattle.nine_wire.specs.Stands.{IsPart, IsFront, step_front}
use Rattle.nine_wire.proofs.Laws.{part_none, bad_size_none, bad_body_none}
use Rattle.fo_talk.specs.Conversation.{NoMessage, IsBad}
use Rattle.nine_wire.specs.Version.{largest_message}

pub no_message : (limit : ℕ) (bytes : List ℕ) → IsPart limit bytes → NoMessage limit bytes
no_message limit bytes p = record { none = λ tag r used s. part_none limit bytes tag (request_message r) used p s }

-- a part of a message has room for more behind it
pub part_room : (limit : ℕ) (bytes : List ℕ) → IsPart limit bytes → limit ≤ largest_message → length bytes < largest_message
part_room limit bytes p le = elim p.part [ inl short ↦ omega arith | inr q ↦ let most = q.0.most in omega (arith, most, q.1) ]

some_bytes : (bytes more : List ℕ) → 4 ≤ length bytes → bytes ++ more ≡ [] → ⊥
some_bytes bytes more there e = let len : length (bytes ++ more) ≡ 0 = ap length e in absurd (omega (arith, there, len, length-append bytes more))

pub still_bad : (limit : ℕ) (bytes more : List ℕ) (why : BadMsg) → IsFront request_message limit bytes (step_front (step.Bad why)) → IsBad limit (bytes ++ more)
still_bad limit bytes more bad.Size p = record {
  some = some_bytes bytes more p.there;
  none = record { none = λ tag r used s. bad_size_none limit bytes more tag (request_message r) used p s };
}
still_bad limit bytes more bad.Body p = record {
  some = some_bytes bytes more p.allowed.there;
  none = record { none = λ tag r used s. bad_body_none request_message limit bytes more tag r used p s };
}
