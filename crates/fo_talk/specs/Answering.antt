-- What answering one message does.
use Rattle.std.specs.Prelude.{◌≡◌, ◌⊎◌, ℕ, ⊤, Option, List, [], ◌++◌, take, Bool, true, false, Result, is_ok, MatchResult, if◌then◌else◌}
use Rattle.nine_wire.specs.declared.message.Request.{Request}
use Rattle.nine_wire.specs.declared.message.Request.TheVariants as request
use Rattle.nine_wire.specs.declared.message.Reply.{Reply}
use Rattle.nine_wire.specs.Message.{reply_message, spelling}
use Rattle.fo_links.specs.Links.{GainsEnd}
use Rattle.fo_talk.specs.Conversation.{Goes, Position, Standing, Entry, LetsGo, Makes, Chain, said, only_looks, limit_after, agreed_size}
use Rattle.fo_talk.specs.declared.outbox.Stop.{Stop}
use Rattle.fo_talk.specs.declared.outbox.Stop.TheVariants as stop

abbrev pub is_version : Request → Bool
is_version (request.Version msize version) = true
is_version _ = false

-- the limit after one request
abbrev pub next_limit : ℕ → Bool → Reply → ℕ
next_limit limit asked r = if asked then agreed_size r else limit

-- What is let go before a request leads from here to there.
pub record Clears {S : Type 0} (goes : Goes S) (r : Request) (from to : Position S) : Type 0 where
  pub entries : List Entry
  pub gone : LetsGo r entries
  pub chain : Chain goes from entries to

-- A message's entries up to this reply lead from here to there.
pub record Asks {S : Type 0} (goes : Goes S) (from : Position S) (tag : ℕ) (r : Request) (reply : Reply) (to : Position S) : Type 0 where
  pub entries : List Entry
  pub makes : Makes tag r false entries
  pub chain : Chain goes from entries to
  pub says : said entries ≡ spelling tag (reply_message reply)
  pub limits : (limit : ℕ) → limit_after limit entries ≡ next_limit limit (is_version r) reply

-- What waited was put, and nothing waits.
pub record PutsAll (replies replies' : List ℕ) (held held' : Option (List ℕ)) : Type 0 where
  pub none : replies' ≡ []
  pub put : GainsEnd replies held held'

-- A front of this was put, where the sink failed.
pub record PutsFront (bytes : List ℕ) (held held' : Option (List ℕ)) : Type 0 where
  pub count : ℕ
  pub put : GainsEnd (take count bytes) held held'

-- One more reply waits, as it may.
pub record Waits (may : Bool) (replies said replies' : List ℕ) (held held' : Option (List ℕ)) : Type 0 where
  pub is : may ≡ true
  pub more : replies' ≡ replies ++ said
  pub held_stays : held' ≡ held

-- One more reply waits, or all were put with it.
abbrev pub Adds : Bool → List ℕ → List ℕ → List ℕ → Option (List ℕ) → Option (List ℕ) → Type 0
Adds may replies said replies' held held' = Waits may replies said replies' held held' ⊎ PutsAll (replies ++ said) replies' held held'

-- A front of the replies was put, where the sink failed; those that waited were, where there was no memory for one more.
abbrev pub Stays : List ℕ → List ℕ → Option (List ℕ) → Option (List ℕ) → Stop → Type 0
Stays replies said held held' stop.Output = PutsFront (replies ++ said) held held'
Stays replies said held held' stop.Memory = GainsEnd replies held held'

-- The message's entries, with a rest behind them where it was answered to the end, what became of its reply and of those that waited, and
-- the limit after them.
pub record Answered {S : Type 0} (goes : Goes S) (from : Standing S) (tag : ℕ) (r : Request) (to : Position S) (replies replies' : List ℕ) (held held' : Option (List ℕ)) (result : Result ℕ Stop) : Type 0 where
  pub entries : List Entry
  pub makes : Makes tag r (is_ok result) entries
  pub chain : Chain goes from.position entries to
  pub put : MatchResult result (λ _. Adds (only_looks r) replies (said entries) replies' held held') (λ why. Stays replies (said entries) held held' why)
  pub limit : MatchResult result (λ limit. limit ≡ limit_after from.limit entries) (λ _. ⊤)
