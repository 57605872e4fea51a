use Rattle.std.proofs.Common.{◌≡◌, ◌+◌, ◌*◌, ◌∙◌, refl, arith}
use Rattle.fo_vacput.proofs.Entries.{entry_at, active_read, dir_read, depth_read, same_score}
use Rattle.fo_vacput.proofs.entry.entry_of.Goals as goal

pub returns : goal.returns
returns c = λ e s.
    let at = entry_at c.args.bytes.now e s in
    let size : c.u16_at.result * 4294967296 + c.u32_at-2.result ≡ e.size = omega (arith, c.u16_at.ensures ∙ at.high, c.u32_at-2.ensures ∙ at.low) in
    rw (
      c.u32_at.ensures ∙ at.generation,
      active_read e.active e.dir e.depth _ at.flags,
      dir_read e.active e.dir e.depth _ at.flags,
      depth_read e.active e.dir e.depth _ at.flags,
      size,
      same_score c.score_at.result e.score (c.score_at.ensures ∙ at.score),
    ) refl
