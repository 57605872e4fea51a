use Rattle.std.proofs.Common.{List, ℕ, ◌++◌, ◌∷◌, [], map, replicate, ap, ◌∙◌, sym, arith}
use Rattle.std.proofs.lemmas.List.{map_push, replicate_more}
use Rattle.fo_disk.specs.Disk.{Block, Versions, settled}
use Rattle.fo_disk.specs.Sure.{alone}
use Rattle.fo_disk.specs.declared.memory.Version.{Version}
use Rattle.fo_disk.proofs.Cells.{map-replicate}
use Rattle.fo_disk.proofs.sure.SureDisk.new.Goals as goal

pub loop-preserved : goal.loop-preserved
loop-preserved c =
    ap (λ (vs : List Version). map alone vs) c.in_ok-push.ensures.items
    ∙ map_push alone _ _
    ∙ ap (λ (l : List Versions). l ++ (c.in_ok-copy_of.field-0.bytes.items ∷ []) ∷ []) c.loop.invariant
    ∙ ap (λ (b : List ℕ). replicate {A = Versions} c.loop.counter (replicate 8192 0 ∷ []) ++ (b ∷ []) ∷ []) c.in_ok-copy_of.ensures
    ∙ replicate_more c.loop.counter (replicate 8192 0 ∷ [])

pub returns-clause-holds : goal.returns-clause-holds
returns-clause-holds c =
    c.loop.invariant
    ∙ sym (map-replicate (λ (b : Block). b ∷ []) _ _)
    ∙ ap (λ (n : ℕ). settled (replicate {A = Block} n (replicate 8192 0))) (omega (arith, c.loop-test.false))
