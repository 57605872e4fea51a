-- What stands at a place, by the root of its view.
use Rattle.std.proofs.Common.{◌≡◌, refl, sym, ap, ◌∙◌, subst, ℕ, ◌<◌, List, [], ◌∷◌, length, true, Some, None, option_and_then, Ok, Err, Result, arith}
use Rattle.fo_world.specs.declared.tree.Node.{Node}
use Rattle.fo_world.specs.declared.tree.Body.{Body}
use Rattle.fo_world.specs.declared.tree.Body.TheVariants.{Dir}
use Rattle.fo_world.specs.declared.place.Place.{Place}
use Rattle.fo_world.specs.Names.{no_names}
use Rattle.fo_world.specs.Tree.{along, child}
use Rattle.fo_world.specs.World.{World}
use Rattle.fo_world.specs.declared.place.Info.{Info}
use Rattle.fo_world.specs.declared.error.FileError.{FileError}
use Rattle.fo_world.specs.Chain.{and_then}
use Rattle.fo_world.specs.Step.{root_of, root_name, reached, reached_from, info, above, parent}
use Rattle.fo_plain.specs.Kept.{Tells}

-- nothing stands below a directory without names
pub along-bare : (trail : List ℕ) (name : List ℕ) (node : Node) → node.body ≡ Dir no_names → 0 < length trail → along trail (name, node) ≡ None
along-bare [] name node e h = absurd (omega arith)
along-bare (k ∷ ks) name node e h = ap (λ (b : Body). option_and_then (along ks) (child k b)) e

pub along-root : (trail : List ℕ) (name : List ℕ) (node : Node) → length trail ≡ 0 → along trail (name, node) ≡ Some (name, node)
along-root [] name node e = refl
along-root (k ∷ ks) name node e = absurd (omega arith)

-- where there is a file, what is told of the directory above it is the answer
pub parent-told : (w : World) (at : Place) (f : List ℕ × Node) (r : Result Info FileError) → reached true w at ≡ Ok f → Tells (info true w (above true w at)) w r → Tells (parent true w at) w r
unfolding parent
parent-told w at f r h t = subst (λ (q : Result (List ℕ × Node) FileError). Tells (and_then q (λ f. info true w (above true w at))) w r) (sym h) t
