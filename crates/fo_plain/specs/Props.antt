-- That a world is within the limits has at most one proof.
use Rattle.std.specs.Prelude.{ℕ, List}
use Rattle.std.proofs.Props.{props}
use Rattle.fo_world.specs.declared.tree.Body.{Body}
use Rattle.fo_world.specs.declared.tree.Body.TheVariants.{File, Dir}
use Rattle.fo_world.specs.Names.{Names, no_names, file, folder}
use Rattle.fo_world.specs.Fits.{NamesFit, BodyFits, WorldFits}
use Rattle.fo_world.specs.World.{World}

names_prop : (names : Names) → IsProp (NamesFit names)
names_prop no_names = Prim.hlevel props
names_prop (file name stat bytes rest) = let ih = names_prop rest in Prim.hlevel (props, ih)
names_prop (folder name stat inside rest) = let below = names_prop inside in let ih = names_prop rest in Prim.hlevel (props, below, ih)

body_prop : (body : Body) → IsProp (BodyFits body)
body_prop (File bytes) = Prim.hlevel props
body_prop (Dir names) = names_prop names

pub world_prop : (w : World) → IsProp (WorldFits w)
world_prop w = Prim.hlevel (props, body_prop)
