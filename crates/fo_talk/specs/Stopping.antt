-- How the loop over the messages stops, before the last fids are let go.
use Rattle.std.specs.Prelude.{ℕ, List, [], ◌∷◌, Option}
use Rattle.fo_talk.specs.Conversation.{Goes, Position, Standing}
use Rattle.fo_talk.specs.Ending.{Stops}
use Rattle.fo_talk.specs.declared.end.LinkEnd.{LinkEnd}
use Rattle.fo_talk.specs.declared.end.LinkEnd.TheVariants as end

-- The system stands here, and the conversation at some limit.
pub record Stopped {S : Type 0} (goes : Goes S) (first : Standing S) (bytes : List ℕ) (left' held held' : Option (List ℕ)) (to : Position S) (how : LinkEnd) : Type 0 where
  pub limit : ℕ
  pub stops : Stops goes first bytes left' held held' (record { limit = limit; position = to }) how

-- the end where the input ended and these bytes wait behind so many
abbrev pub end_at : List ℕ → ℕ → LinkEnd
end_at [] place = end.End
end_at (b ∷ bytes) place = end.BadMessage place
