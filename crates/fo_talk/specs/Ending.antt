-- How a conversation ends, what was said until then, and where the system stands.
use Rattle.std.specs.Prelude.{◌≡◌, ◌⊎◌, ℕ, ◌+◌, ◌≤◌, List, [], ◌∷◌, ◌++◌, length, take, Some, Option, false}
use Rattle.fo_links.specs.Links.{LosesFront, GainsEnd}
use Rattle.fo_talk.specs.Conversation.{Goes, Position, Standing, Exchange, Answers, Talks, LetsAllGo, output, taken_by, OnlyLook, NoMessage, IsBad}
use Rattle.fo_talk.specs.declared.end.LinkEnd.{LinkEnd}
use Rattle.fo_talk.specs.declared.end.LinkEnd.TheVariants as end

-- A conversation on these bytes: what was exchanged, and the bytes behind it.
pub record Conversation {S : Type 0} (goes : Goes S) (first : Standing S) (bytes : List ℕ) (last : Standing S) : Type 0 where
  pub exchanges : List Exchange
  pub rest : List ℕ
  pub talks : Talks goes first bytes exchanges rest last

-- All bytes were read, and each message was answered.
pub record EndsWhole {S : Type 0} (goes : Goes S) (first : Standing S) (bytes : List ℕ) (left' held held' : Option (List ℕ)) (last : Standing S) : Type 0 where
  pub talk : Conversation goes first bytes last
  pub whole : talk.rest ≡ []
  pub read : left' ≡ Some []
  pub told : GainsEnd (output talk.exchanges) held held'

-- All messages before place n were answered, and what stands there is none. Of what stands there some bytes were taken, and the
-- others are left in the source.
pub record EndsBad {S : Type 0} (goes : Goes S) (first : Standing S) (bytes : List ℕ) (left' held held' : Option (List ℕ)) (last : Standing S) (n : ℕ) : Type 0 where
  pub talk : Conversation goes first bytes last
  pub bad : IsBad last.limit talk.rest
  pub place : n + length talk.rest ≡ length bytes
  pub taken : List ℕ
  pub lost : LosesFront taken (Some talk.rest) left'
  pub told : GainsEnd (output talk.exchanges) held held'

-- All messages that were taken from the source were answered.
pub record EndsUnread {S : Type 0} (goes : Goes S) (first : Standing S) (bytes : List ℕ) (left' held held' : Option (List ℕ)) (last : Standing S) : Type 0 where
  pub taken : List ℕ
  pub lost : LosesFront taken (Some bytes) left'
  pub talk : Conversation goes first taken last
  pub none : NoMessage last.limit talk.rest
  pub told : GainsEnd (output talk.exchanges) held held'

-- Behind answered messages there is at most one more, and no rest comes behind it.
abbrev pub Unrested : {S : Type 0} → Goes S → Standing S → List ℕ → List Exchange → Standing S → Type 0
Unrested goes before rest [] last = last ≡ before
Unrested goes before rest (x ∷ []) last = Answers goes before rest x false last
Unrested goes before rest (x ∷ y ∷ ys) last = ⊥

-- Messages were answered, and at most one more. Of the replies that were put out together at last a front was put: those of `late`, which
-- changed no file, and of the one more. Their messages had come together, so they are few. All replies before these were put.
pub record EndsUnsaid {S : Type 0} (goes : Goes S) (first : Standing S) (bytes : List ℕ) (held held' : Option (List ℕ)) (last : Standing S) : Type 0 where
  pub before : Standing S
  pub talk : Conversation goes first bytes before
  pub done : List Exchange
  pub late : List Exchange
  pub parts : talk.exchanges ≡ done ++ late
  pub looks : OnlyLook late
  pub next : List Exchange
  pub unrested : Unrested goes before talk.rest next last
  pub put : ℕ
  pub told : GainsEnd (output done ++ take put (output (late ++ next))) held held'
  pub close : taken_by (late ++ next) ≤ 131120

-- Messages were answered, and it may be that the next one was too, and nothing of its reply was put.
pub record EndsEarly {S : Type 0} (goes : Goes S) (first : Standing S) (bytes : List ℕ) (held held' : Option (List ℕ)) (last : Standing S) : Type 0 where
  pub before : Standing S
  pub talk : Conversation goes first bytes before
  pub next : (last ≡ before) ⊎ ((x : Exchange) × Answers goes before talk.rest x false last)
  pub told : GainsEnd (output talk.exchanges) held held'

-- What was said to these bytes, and where the conversation stands at its last message, by how it ended.
abbrev pub Stops : {S : Type 0} → Goes S → Standing S → List ℕ → Option (List ℕ) → Option (List ℕ) → Option (List ℕ) → Standing S → LinkEnd → Type 0
Stops goes first bytes left' held held' last end.End = EndsWhole goes first bytes left' held held' last
Stops goes first bytes left' held held' last (end.BadMessage n) = EndsBad goes first bytes left' held held' last n
Stops goes first bytes left' held held' last end.ReadFault = EndsUnread goes first bytes left' held held' last
Stops goes first bytes left' held held' last end.WriteFault = EndsUnsaid goes first bytes held held' last
Stops goes first bytes left' held held' last end.Memory = EndsEarly goes first bytes held held' last

-- What was said to these bytes, by how the conversation ended. After it all fids are let go, which leads to where the system
-- stands at last.
pub record Ends {S : Type 0} (goes : Goes S) (first : Standing S) (bytes : List ℕ) (left' held held' : Option (List ℕ)) (to : Position S) (how : LinkEnd) : Type 0 where
  pub last : Standing S
  pub stops : Stops goes first bytes left' held held' last how
  pub gone : LetsAllGo goes last.position to
