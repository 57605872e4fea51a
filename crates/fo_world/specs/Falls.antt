-- What stands in a directory is smaller than it.
use Rattle.std.specs.Prelude.{ℕ, ◌≤◌, List, [], ◌∷◌}
use Rattle.std.proofs.Common.{arith}
use denote.Param.Weighed.{most}
use Rattle.fo_world.specs.declared.tree.Node.{Node}
use Rattle.fo_world.specs.declared.tree.Body.{Body}
use Rattle.fo_world.specs.declared.tree.Body.TheVariants.{File, Dir}
use Rattle.fo_world.specs.declared.tree.Names.TheDeep.{deep-Node, deep-Body}
use Rattle.fo_world.specs.declared.tree.Names.TheShapes.{former-Names-entries-at-2, weighed-Names-entries-at-2}
use Rattle.fo_world.specs.Names.{Stat, Names, count}
use Rattle.fo_world.specs.Tree.{stat_of, and_body, names_of}

body_falls : (name : List ℕ) (stat : Stat) (body : Body) (rest : Names) → (deep-Body body ≤ count (and_body name stat body rest)) × (count rest ≤ count (and_body name stat body rest))
body_falls name stat (File bytes) rest = (omega arith, omega arith)
body_falls name stat (Dir inside) rest = (omega arith, omega arith)

pub names_fall : (ps : List (List ℕ × Node)) → most {X = former-Names-entries-at-2.Of Node} (λ x. weighed-Names-entries-at-2.weight Node deep-Node x) ps ≤ count (names_of ps)
names_fall [] = omega arith
names_fall (p ∷ ps) = omega (arith, names_fall ps, body_falls p.0 (stat_of p.1) p.1.body (names_of ps))
