-- A conversation over a stream: which entries the messages of the input make, and what is said. It
-- speaks of lists alone, and not of buffers and pieces.
use Rattle.std.specs.Prelude.{◌≡◌, ⊤, ℕ, ◌+◌, nat_lt, List, [], ◌∷◌, ◌++◌, drop, None, Bool, true, false, if◌then◌else◌}
use Rattle.std.specs.declared.option.Option.{Option}
use Rattle.std.specs.List.{flat_map}
use Rattle.std.specs.Str.{bytes_eq}
use Rattle.nine_wire.specs.declared.message.Request.{Request}
use Rattle.nine_wire.specs.declared.message.Request.TheVariants as request
use Rattle.nine_wire.specs.declared.message.Reply.{Reply}
use Rattle.nine_wire.specs.declared.message.Reply.TheVariants as reply
use Rattle.nine_wire.specs.Message.{request_message, reply_message, spelling}
use Rattle.nine_wire.specs.Stands.{Stands}
use Rattle.nine_wire.specs.Version.{largest_message, version_text}
use Rattle.fo_world.specs.World.{Faults}
use Rattle.fo_links.specs.Clocks.{Readings, SaysNext, later}

-- what happens to a system
pub data Event : Type 0 where
  -- at this moment, in seconds since 1970-01-01 UTC, a client asks this under this tag
  Asked : (now : ℕ) → (tag : ℕ) → (request : Request) → Event
  -- at this moment the least fid is let go, as by a Tclunk
  Drop : (now : ℕ) → Event
  -- a message was answered, and the next one isn't read yet
  Rest : Event

-- what becomes of an event
pub data Outcome : Type 0 where
  -- this is replied under this tag
  Replied : (tag : ℕ) → (reply : Reply) → Outcome
  -- whether there was a fid, and the Rerror by which the Tclunk would be refused
  LetGo : (more : Bool) → (reply : Option Reply) → Outcome
  -- the system did what it does between two messages
  Rested : Outcome

-- an event with what became of it, and how often each device had failed before it and after it
pub record Entry : Type 0 where
  pub event : Event
  pub outcome : Outcome
  pub before : Faults
  pub after : Faults

-- a unit of input, which is a message of so many bytes, with the entries that it makes
pub record Exchange : Type 0 where
  pub tag : ℕ
  pub request : Request
  pub used : ℕ
  pub entries : List Entry

-- ---- which entries are made

abbrev pub asked : ℕ → ℕ → Request → Reply → Faults → Faults → Entry
asked now tag r reply before after = record { event = Asked now tag r; outcome = Replied tag reply; before = before; after = after }

abbrev pub let_go : ℕ → Bool → Option Reply → Faults → Faults → Entry
let_go now more reply before after = record { event = Drop now; outcome = LetGo more reply; before = before; after = after }

abbrev pub rested : Faults → Faults → Entry
rested before after = record { event = Rest; outcome = Rested; before = before; after = after }

-- Fids are let go, one after another, until there is none.
pub data Drops : List Entry → Type 0 where
  last : (now : ℕ) → (before after : Faults) → Drops (let_go now false None before after ∷ [])
  more : (now : ℕ) → (reply : Option Reply) → (before after : Faults) → (entries : List Entry) → Drops entries → Drops (let_go now true reply before after ∷ entries)

-- all fids are let go before a Tversion, and none before another message
abbrev pub LetsGo : Request → List Entry → Type 0
LetsGo (request.Version msize version) entries = Drops entries
LetsGo _ entries = entries ≡ []

-- one rest behind a message that was answered, and none where the conversation stopped at it
abbrev pub RestsIf : Bool → List Entry → Type 0
RestsIf true entries = (before : Faults) × (after : Faults) × (entries ≡ rested before after ∷ [])
RestsIf false entries = entries ≡ []

-- Which entries a message makes, by whether the machine rests behind it: those before it, its own, and the rest behind it.
pub record Makes (tag : ℕ) (r : Request) (is_done : Bool) (made : List Entry) : Type 0 where
  pub drops : List Entry
  pub gone : LetsGo r drops
  pub now : ℕ
  pub reply : Reply
  pub before : Faults
  pub after : Faults
  pub rests : List Entry
  pub rests_if : RestsIf is_done rests
  pub made_is : made ≡ drops ++ asked now tag r reply before after ∷ rests

-- ---- what is said

-- that a fid is let go isn't told the client, and neither is a rest
abbrev pub spelled : Outcome → List ℕ
spelled (Replied tag r) = spelling tag (reply_message r)
spelled (LetGo there r) = []
spelled Rested = []

-- the replies, one after another
abbrev pub said : List Entry → List ℕ
said entries = flat_map (λ (e : Entry). spelled e.outcome) entries

abbrev pub output : List Exchange → List ℕ
output exchanges = flat_map (λ (x : Exchange). said x.entries) exchanges

-- how many bytes these messages have
abbrev pub taken_by : List Exchange → ℕ
taken_by [] = 0
taken_by (x ∷ xs) = x.used + taken_by xs

-- what the reply to a Tversion leaves: the msize of a version that was agreed to
abbrev pub agreed_size : Reply → ℕ
agreed_size (reply.Version msize version) = if bytes_eq version version_text then msize else largest_message
agreed_size _ = largest_message

abbrev pub limit_with : ℕ → Event → Outcome → ℕ
limit_with limit (Asked now tag (request.Version msize version)) (Replied tag' r) = agreed_size r
limit_with limit _ _ = limit

-- the limit after these entries: it changes where a Tversion is answered
abbrev pub limit_after : ℕ → List Entry → ℕ
limit_after limit [] = limit
limit_after limit (e ∷ es) = limit_after (limit_with limit e.event e.outcome) es

-- ---- which messages change no file

-- an open changes none that neither cuts the file (OTRUNC) nor removes it later (ORCLOSE)
abbrev pub only_looks : Request → Bool
only_looks (request.Attach fid afid uname aname) = true
only_looks (request.Flush oldtag) = true
only_looks (request.Walk fid newfid names) = true
only_looks (request.Open fid mode) = nat_lt mode 4
only_looks (request.Read fid offset count) = true
only_looks (request.Stat fid) = true
only_looks _ = false

-- none of these messages changes a file
abbrev pub OnlyLook : List Exchange → Type 0
OnlyLook [] = ⊤
OnlyLook (x ∷ xs) = (only_looks x.request ≡ true) × OnlyLook xs

-- ---- what a system does

-- Which outcome an event may have, with the devices' faults before and after it, and the state that
-- it leads to. It is a relation: a reply may be what the system says, or one of the named refusals.
abbrev pub Goes : Type 0 → Type 1
Goes S = S → Event → Outcome → Faults → Faults → S → Type 0

-- where a system stands: what the clock will say, the system's state, and how often its devices have failed
pub record Position (S : Type 0) : Type 0 where
  pub clock : Readings
  pub state : S
  pub faults : Faults

-- the moment of an event is what the clock says next; a rest has none
abbrev pub SaysTime : Readings → Event → Type 0
SaysTime coming (Asked now tag request) = SaysNext coming now
SaysTime coming (Drop now) = SaysNext coming now
SaysTime coming Rest = Unit {0}

-- the readings that an event leaves: it takes one, but for a rest
abbrev pub later_by : Readings → Event → Readings
later_by coming (Asked now tag request) = later coming
later_by coming (Drop now) = later coming
later_by coming Rest = coming

-- The entries follow one another, each from the state and the counts that the one before it left, and each but a rest at a reading of
-- the clock of its own.
unfoldable pub Chain : {S : Type 0} → Goes S → Position S → List Entry → Position S → Type 0
Chain goes from [] to = to ≡ from
Chain {S} goes from (e ∷ es) to =
    (e.before ≡ from.faults) × SaysTime from.clock e.event
    × ((mid : S) × goes from.state e.event e.outcome e.before e.after mid × Chain goes (record { clock = later_by from.clock e.event; state = mid; faults = e.after }) es to)

-- All fids are let go, which leads from here to there.
pub record LetsAllGo {S : Type 0} (goes : Goes S) (from to : Position S) : Type 0 where
  pub entries : List Entry
  pub drops : Drops entries
  pub chain : Chain goes from entries to

-- where a conversation stands: the limit, and where the system does
pub record Standing (S : Type 0) : Type 0 where
  pub limit : ℕ
  pub position : Position S

-- A message stands at the front of the bytes, and its entries, by whether the machine rests behind it, lead from one standing to another.
pub record Answers {S : Type 0} (goes : Goes S) (from : Standing S) (bytes : List ℕ) (x : Exchange) (is_done : Bool) (to : Standing S) : Type 0 where
  pub stands : Stands from.limit bytes x.tag (request_message x.request) x.used
  pub makes : Makes x.tag x.request is_done x.entries
  pub chain : Chain goes from.position x.entries to.position
  pub limit : to.limit ≡ limit_after from.limit x.entries

-- The messages of the bytes are answered one after another, with a rest behind each, as far as these exchanges go, and `rest` are the
-- bytes behind them.
unfoldable pub Talks : {S : Type 0} → Goes S → Standing S → List ℕ → List Exchange → List ℕ → Standing S → Type 0
Talks goes from bytes [] rest to = (rest ≡ bytes) × (to ≡ from)
Talks {S} goes from bytes (x ∷ xs) rest to =
    (mid : Standing S) × Answers goes from bytes x true mid × Talks goes mid (drop x.used bytes) xs rest to

-- ---- bytes at which a conversation stops

-- no message stands at the front, within the limit
pub record NoMessage (limit : ℕ) (bytes : List ℕ) : Type 0 where
  pub none : (tag : ℕ) (r : Request) (used : ℕ) → Stands limit bytes tag (request_message r) used → ⊥

-- There are bytes, and no message stands at their front: the size there is below 7 or above the
-- limit, or the body is no T-message, or the bytes end inside it.
pub record IsBad (limit : ℕ) (bytes : List ℕ) : Type 0 where
  pub some : bytes ≡ [] → ⊥
  pub none : NoMessage limit bytes
