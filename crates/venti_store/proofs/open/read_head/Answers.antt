use Rattle.std.proofs.Common.{◌≡◌, ◌∙◌, ℕ, length, sym, ap, subst, arith}
use Rattle.fo_image.specs.declared.types.ArenaHead.{ArenaHead}
use Rattle.fo_image.specs.Format.{SpellsArenaHead}
use Rattle.fo_sound.specs.Image.{block_of}
use Rattle.venti_store.proofs.open.read_head.Goals as goal

pub returns-in_default-read_arena_head-clause-shown : goal.returns-in_default-read_arena_head-clause-shown
returns-in_default-read_arena_head-clause-shown g c vault len shows used a =
    let is = c.in-Ok.ensures.shown vault shows in
    let h : ArenaHead = record { blocks = length vault; used = used } in
    c.in_default-read_arena_head.ensures.refused.1 h (subst (SpellsArenaHead h) (sym is) a.head)

pub returns-clause-shown : goal.returns-clause-shown
returns-clause-shown g c vault len shows =
    let is = c.in-Ok.ensures.shown vault shows in
    let same_blocks : c.in-Ok-read_arena_head.head.blocks ≡ length vault = c.if-head-blocks.false ∙ sym len in
    let spelled : SpellsArenaHead (record { blocks = length vault; used = c.in-Ok-read_arena_head.head.used }) (block_of vault 0) =
    subst (λ (n : ℕ). SpellsArenaHead (record { blocks = n; used = c.in-Ok-read_arena_head.head.used }) (block_of vault 0)) same_blocks (subst (SpellsArenaHead c.in-Ok-read_arena_head.head) is c.in-Ok-read_arena_head.ensures.found) in
    record {
      arena = record { head = spelled; places = omega (arith, c.if-arena_places-head.false, c.arena_places.ensures, len) };
      only = λ other a.
          let h : ArenaHead = record { blocks = length vault; used = other } in
          let e = c.in-Ok-read_arena_head.ensures.only h (subst (SpellsArenaHead h) (sym is) a.head) in
          let same : c.in-Ok-read_arena_head.head ≡ h = cc in
          ap (λ (x : ArenaHead). x.used) same;
    }
