use Rattle.std.proofs.Common.{◌∙◌, ap, length, subst, List}
use Rattle.fo_disk.specs.Disk.{Block, latest}
use Rattle.fo_format.specs.Formatted.{MakesFresh, MakesEmpty, HoldsEmpty, Unsettled}
use Rattle.fo_format.proofs.Left.{IsShown, shown-image, shown-sure, holds-fresh, holds-empty, arena-refuses, main-refuses}
use Rattle.fo_format.proofs.formatter.format.Goals as goal

-- the arena's sync failed, or a write of it
pub returns-in-Err-clause-formats : goal.returns-in-Err-clause-formats
returns-in-Err-clause-formats g c image vault shows shows_vault =
    let sizes = c.in_ok-blocks.ensures.answer image vault shows shows_vault in
    let arena : IsShown vault (g.A.Disk.state c.args.arena.now) (g.A.Disk.state c.sizes.new.arena) = record { shown = shows_vault; kept = c.in_ok-blocks.ensures.arena } in
    let vault_is = shown-image arena in
    let made = c.in-Err.ensures.made (ap length vault_is ∙ sizes.2) in
    arena-refuses c.args.time image vault (g.D.Disk.state c.sizes.new.main).holds (g.A.Disk.state c.write_arena.new.arena).holds c.in-Err.fault c.in-Err.ensures.fault sizes.0
    (subst (λ (bs : List Block). Unsettled (MakesEmpty bs (latest (g.A.Disk.state c.write_arena.new.arena).holds)) c.in-Err.fault) vault_is made)

-- the main device's sync failed, or a write of it
pub returns-clause-formats : goal.returns-clause-formats
returns-clause-formats g c image vault shows shows_vault =
    let sizes = c.in_ok-blocks.ensures.answer image vault shows shows_vault in
    let arena : IsShown vault (g.A.Disk.state c.args.arena.now) (g.A.Disk.state c.sizes.new.arena) = record { shown = shows_vault; kept = c.in_ok-blocks.ensures.arena } in
    let main : IsShown image (g.D.Disk.state c.args.main.now) (g.D.Disk.state c.sizes.new.main) = record { shown = shows; kept = c.in_ok-blocks.ensures.main } in
    let vault_is = shown-image arena in
    let image_is = shown-image main in
    let emptied = c.in_default-write_arena.ensures.made (ap length vault_is ∙ sizes.2) in
    let empty : HoldsEmpty vault (g.A.Disk.state c.write_arena.new.arena).holds = holds-empty arena (subst (λ (bs : List Block). MakesEmpty bs (latest (g.A.Disk.state c.write_arena.new.arena).holds)) vault_is emptied) (c.in_default-write_arena.ensures.quiet (shown-sure arena)) in
    let made = c.in-Err-write_main.ensures.made c.args.time c.in-Ok.ensures.is (ap length image_is ∙ sizes.1) in
    main-refuses c.args.time image vault (g.D.Disk.state c.write_main.new.main).holds (g.A.Disk.state c.write_arena.new.arena).holds c.in-Err-write_main.fault c.in-Err-write_main.ensures.fault sizes.0 empty
    (subst (λ (bs : List Block). Unsettled (MakesFresh c.args.time bs (latest (g.D.Disk.state c.write_main.new.main).holds)) c.in-Err-write_main.fault) image_is made)

pub returns-in-Ok-write_main-clause-formats : goal.returns-in-Ok-write_main-clause-formats
returns-in-Ok-write_main-clause-formats g c image vault shows shows_vault =
    let sizes = c.in_ok-blocks.ensures.answer image vault shows shows_vault in
    let arena : IsShown vault (g.A.Disk.state c.args.arena.now) (g.A.Disk.state c.sizes.new.arena) = record { shown = shows_vault; kept = c.in_ok-blocks.ensures.arena } in
    let main : IsShown image (g.D.Disk.state c.args.main.now) (g.D.Disk.state c.sizes.new.main) = record { shown = shows; kept = c.in_ok-blocks.ensures.main } in
    let vault_is = shown-image arena in
    let image_is = shown-image main in
    let emptied = c.in_default-write_arena.ensures.made (ap length vault_is ∙ sizes.2) in
    let made = c.in-Ok-write_main.ensures.made c.args.time c.in-Ok.ensures.is (ap length image_is ∙ sizes.1) in
    record {
      sizes = sizes.0;
      main_holds = holds-fresh main (subst (λ (bs : List Block). MakesFresh c.args.time bs (latest (g.D.Disk.state c.write_main.new.main).holds)) image_is made) (c.in-Ok-write_main.ensures.quiet (shown-sure main));
      arena_holds = holds-empty arena (subst (λ (bs : List Block). MakesEmpty bs (latest (g.A.Disk.state c.write_arena.new.arena).holds)) vault_is emptied) (c.in_default-write_arena.ensures.quiet (shown-sure arena));
    }
