-- Counts of faults that do not fall.
use Rattle.std.proofs.Common.{arith}
use Rattle.fo_world.specs.World.{Faults}
use Rattle.fo_world.specs.Answers.{NotFewer}

pub not_fewer_then : (a b c : Faults) → NotFewer a b → NotFewer b c → NotFewer a c
not_fewer_then a b c p q =
    let p-main = p.main in
    let q-main = q.main in
    let p-arena = p.arena in
    let q-arena = q.arena in
    record { main = omega (arith, p-main, q-main); arena = omega (arith, p-arena, q-arena) }
