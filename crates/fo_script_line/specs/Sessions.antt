-- What happens to sessions: requests, fids that are let go, and how many bytes each session allows a message.
use Rattle.std.specs.Prelude.{◌≡◌, ℕ, zero, suc, List, [], ◌∷◌, ◌++◌, length, Bool, true, false, Option, None, slice_set, slice_index_or, if◌then◌else◌}
use Rattle.std.specs.Str.{bytes_eq}
use Rattle.nine_wire.specs.declared.message.Request.{Request}
use Rattle.nine_wire.specs.declared.message.Request.TheVariants as request
use Rattle.nine_wire.specs.declared.message.Reply.{Reply}
use Rattle.nine_wire.specs.declared.message.Reply.TheVariants as reply
use Rattle.nine_wire.specs.Message.{request_message}
use Rattle.nine_wire.specs.Stands.{Stands}
use Rattle.nine_wire.specs.Version.{largest_message, version_text}
use Rattle.fo_events.specs.Row.{Goes, Entry, Chain, let_go}
use Rattle.fo_events.specs.declared.event.Event.{Event}
use Rattle.fo_events.specs.declared.event.Event.TheVariants as event
use Rattle.fo_events.specs.declared.event.Outcome.{Outcome}
use Rattle.fo_events.specs.declared.event.Outcome.TheVariants as outcome
use Rattle.fo_script_line.specs.declared.answer.Answer.{Answer}
use Rattle.fo_script_line.specs.declared.answer.Answer.TheVariants as answer

-- ---- fids that are let go

-- fids of a session are let go at one moment, each with this Rerror or none, until there is none
abbrev pub drops : ℕ → ℕ → List (Option Reply) → List Entry
drops session now [] = let_go session now false None ∷ []
drops session now (reply ∷ replies) = let_go session now true reply ∷ drops session now replies

-- All fids of a session are let go, which leads from here to there.
pub record LetsGo {S : Type 0} (goes : Goes S) (session now : ℕ) (from to : S) : Type 0 where
  pub replies : List (Option Reply)
  pub chain : Chain goes from (drops session now replies) to

-- All fids of the sessions below n are let go, session by session.
unfoldable pub AllLetGo : {S : Type 0} → Goes S → ℕ → ℕ → S → S → Type 0
AllLetGo goes now zero from to = to ≡ from
AllLetGo {S} goes now (suc n) from to = (mid : S) × AllLetGo goes now n from mid × LetsGo goes n now mid to

-- ---- requests

abbrev pub is_version : Request → Bool
is_version (request.Version msize version) = true
is_version _ = false

-- all fids of the session are let go before a Tversion, and none before another request
abbrev pub Before : ℕ → ℕ → Request → List Entry → Type 0
Before session now (request.Version msize version) before = (replies : List (Option Reply)) × (before ≡ drops session now replies)
Before session now _ before = before ≡ []

abbrev pub asked : ℕ → ℕ → Request → Reply → Entry
asked session now r reply = record { event = event.Asked session now r; outcome = outcome.Replied reply }

-- What is let go before a request leads from here to there.
pub record Clears {S : Type 0} (goes : Goes S) (session now : ℕ) (r : Request) (from to : S) : Type 0 where
  pub before : List Entry
  pub cleared : Before session now r before
  pub chain : Chain goes from before to

-- The request, with what comes before it, leads from here to there, and to this reply.
pub record Asks {S : Type 0} (goes : Goes S) (session now : ℕ) (r : Request) (reply : Reply) (from to : S) : Type 0 where
  pub before : List Entry
  pub cleared : Before session now r before
  pub chain : Chain goes from (before ++ asked session now r reply ∷ []) to

-- Exactly one message within the limit is answered: the entries of that, and the answer.
pub record Exchanges (session now limit : ℕ) (bytes : List ℕ) (entries : List Entry) (said : Answer) : Type 0 where
  pub tag : ℕ
  pub request : Request
  pub reply : Reply
  pub before : List Entry
  pub whole : Stands limit bytes tag (request_message request) (length bytes)
  pub cleared : Before session now request before
  pub entries_are : entries ≡ before ++ asked session now request reply ∷ []
  pub answer_is : said ≡ answer.Replied session tag reply

-- ---- how many bytes each session allows a message

abbrev pub limit_of : List ℕ → ℕ → ℕ
limit_of limits session = slice_index_or limits session largest_message

-- what the reply to a Tversion leaves: the msize of a version that was agreed to
abbrev pub agreed_size : Reply → ℕ
agreed_size (reply.Version msize version) = if bytes_eq version version_text then msize else largest_message
agreed_size _ = largest_message

-- the limit changes where a Tversion is answered, and where a session has no fid left to be let go
abbrev pub limits_with : List ℕ → Event → Outcome → List ℕ
limits_with limits (event.Asked session now (request.Version msize version)) (outcome.Replied r) = slice_set limits session (agreed_size r)
limits_with limits (event.Drop session now) (outcome.LetGo false r) = slice_set limits session largest_message
limits_with limits _ _ = limits

abbrev pub limits_after : List ℕ → List Entry → List ℕ
limits_after limits [] = limits
limits_after limits (e ∷ es) = limits_after (limits_with limits e.event e.outcome) es
