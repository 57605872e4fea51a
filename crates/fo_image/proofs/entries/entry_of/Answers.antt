use Rattle.std.proofs.Common.{◌≡◌, ◌-◌, ◌∙◌, Bool, refl, arith, ap, sym, length, take, drop}
use Rattle.fo_image.specs.Format.{pointer_bytes}
use Rattle.fo_image.proofs.Codes.{top_holds}
use Rattle.fo_image.proofs.Offsets.{entry_at}
use Rattle.fo_image.proofs.PointerLemmas.{spells_pointer}
use Rattle.fo_image.proofs.entries.entry_of.Goals as goal

pub returns : goal.returns
returns c = λ e s.
    let at = entry_at c.args.bytes.now e s in
    let flags = c.flags_at-active.ensures e.active e.dir at.flags in
    let rest : length c.args.bytes.now - 20 ≡ 20 = omega arith in
    let slice : take (length c.args.bytes.now - 20) (drop 20 c.args.bytes.now) ≡ pointer_bytes e.top = rw rest at.top in
    let top = c.read_pointer.ensures.only e.top (spells_pointer e.top _ (top_holds e s.holds) (ap length slice ∙ s.fit.1.1.1.1.1.1.0) slice) in
    rw (c.u32_at.ensures ∙ at.generation, ap (λ (p : Bool × Bool). p.0) flags, ap (λ (p : Bool × Bool). p.1) flags, at.depth, c.u32_at-2.ensures ∙ at.tag, c.u64_at.ensures ∙ at.size, sym top) refl
