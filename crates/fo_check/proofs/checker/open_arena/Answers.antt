use Rattle.std.proofs.Common.{◌≡◌, ℕ, length, sym, ap, subst, arith}
use Rattle.fo_image.specs.declared.types.ArenaHead.{ArenaHead}
use Rattle.fo_image.specs.Format.{SpellsArenaHead}
use Rattle.fo_sound.specs.Image.{block_of}
use Rattle.fo_sound.specs.Sizes.{IsArena}
use Rattle.fo_check.proofs.checker.open_arena.Goals as goal

pub returns-in-Err-clause-answer : goal.returns-in-Err-clause-answer
returns-in-Err-clause-answer g c vault len shows =
    let is = c.in_ok-read_arena.ensures.shown vault shows in
    let none : (used : ℕ) → ¬ IsArena vault used = λ used a. c.in-Err.ensures.refused.1 (record { blocks = length vault; used = used }) (subst (SpellsArenaHead (record { blocks = length vault; used = used })) (sym is) a.head) in
    record { found = none; only = λ v a. none 0 a }

pub returns-then-head-gt0-clause-answer : goal.returns-then-head-gt0-clause-answer
returns-then-head-gt0-clause-answer g c vault len shows =
    let is = c.in_ok-read_arena.ensures.shown vault shows in
    let same_blocks : c.in-Ok.head.blocks ≡ length vault = cc in
    let spelled : SpellsArenaHead (record { blocks = length vault; used = c.in-Ok.head.used }) (block_of vault 0) =
    subst (λ (n : ℕ). SpellsArenaHead (record { blocks = n; used = c.in-Ok.head.used }) (block_of vault 0)) same_blocks (subst (SpellsArenaHead c.in-Ok.head) is c.in-Ok.ensures.found) in
    record {
      found = (c.in-Ok.head.used, c.if-head-gt0.true, record { head = spelled; places = omega (arith, c.if-arena_places-head.false, c.arena_places.ensures, len) });
      only = λ v a.
          let h : ArenaHead = record { blocks = length vault; used = 0 } in
          let e = c.in-Ok.ensures.only h (subst (SpellsArenaHead h) (sym is) a.head) in
          let same : c.in-Ok.head ≡ h = cc in
          omega (arith, ap (λ (x : ArenaHead). x.used) same, c.if-head-gt0.true);
    }
