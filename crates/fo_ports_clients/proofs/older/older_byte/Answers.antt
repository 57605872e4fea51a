use Rattle.std.proofs.Common.{◌≡◌, ◌<◌, sym, ◌∙◌, ap, subst, arith, get_or, List, ℕ}
use Rattle.fo_image.specs.declared.types.Label.{Label}
use Rattle.fo_ports_clients.proofs.Looking.{caused_by, top_reaches}
use Rattle.fo_ports_clients.proofs.older.older_byte.Goals as goal

pub returns-in-Err-clause-cause : goal.returns-in-Err-clause-cause
returns-in-Err-clause-cause g c =
    let on = c.args.on.now in
    let s = g.B.Blocks.state on in
    caused_by _ _ _ c.in-Err.e
    (λ b cause. (
      cause.0,
      λ told.
          let hangs = c.requires.hangs told in
          let present = g.met.B.Blocks.present on told in
          let there = top_reaches {tops = s.tops} (record { one = g.met.B.Blocks.one_place on; placed = g.met.B.Blocks.placed on s.now present; falls = g.met.B.Blocks.ranked on s.now present; super_stands = g.met.B.Blocks.super_stands on told }) (λ t is ne. g.met.B.Blocks.top_stands on t told is ne) hangs.1 hangs.2 in
          cause.1 told there.0 there.1,
    ))
    c.in-Err.ensures.cause

pub returns-clause-sure : goal.returns-clause-sure
returns-clause-sure g c = λ image is.
    let on = c.args.on.now in
    let new = c.get.new.self in
    let s = g.B.Blocks.state on in
    let leaf = c.args.leaf in
    let looks = c.get.ensures.looks in
    let told = (g.met.B.Blocks.keeps_all on new c.get.ensures.keeps).still_tells.0 (g.met.B.Blocks.told new image is) in
    let hangs = c.requires.hangs told in
    let epoch = ap (λ (l : Label). l.epoch) c.label.ensures in
    let older : (s.label leaf).epoch < s.high = omega (arith, c.if-high-label.false, c.high.ensures, epoch) in
    let apart = λ (e : leaf ≡ 1). (g.met.B.Blocks.active on).1 (subst s.is_block e c.requires.block) in
    let sure = (g.met.B.Blocks.old_is_sure on hangs.0 leaf hangs.1 apart hangs.2 older).each image (looks.images.each image is) in
    ap (λ (xs : List ℕ). get_or xs c.args.from 0) (sure.bytes ∙ sym ((looks.memory told).each leaf).bytes ∙ sym c.in_default.ensures.bytes.0.behind)
