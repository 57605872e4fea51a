-- What is found at a place.
use Rattle.std.specs.Prelude.{◌≡◌, ◌⊎◌, ℕ, List, Result, Ok, Err, MatchResult}
use Rattle.fo_world.specs.declared.tree.Node.{Node}
use Rattle.fo_plain.specs.declared.reached.Found.{Found}
use Rattle.fo_plain.specs.declared.reached.Found.TheVariants.{Kept, Made}
use Rattle.fo_plain.specs.declared.reached.Reached.{Reached}
use Rattle.fo_world.specs.declared.error.FileError.{FileError}
use Rattle.fo_world.specs.declared.error.FileError.TheVariants as error

abbrev pub found_node : Found → Node
found_node (Kept node) = node.now
found_node (Made node) = node

-- A place that is looked up gives what the definition says, or want of memory.
abbrev pub Reaches : Result (List ℕ × Node) FileError → Result Reached FileError → Type 0
Reaches told r = MatchResult r (λ f. told ≡ Ok (f.name.now, found_node f.found)) (λ e. (told ≡ Err e) ⊎ (e ≡ error.Memory))
