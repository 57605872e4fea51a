use Rattle.std.proofs.Common.{◌≡◌, ◌+◌, ◌-◌, ◌*◌, length, drop, refl, arith, length-take, length-drop}
use Rattle.fo_labels.proofs.Spelling.{puts_label}
use Rattle.fo_labels.proofs.spell.put_label.Goals as goal

pub returns : goal.returns
returns c =
    let from = 14 * c.args.place in
    let part : length c.write_label.new.into ≡ from + 14 - from = omega (arith, c.write_label.auto.into, length-take (from + 14 - from) (drop from c.args.into.now), length-drop from c.args.into.now, c.requires.length, c.requires.place) in
    puts_label c.args.label.now c.args.place from (from + 14 - from) c.args.into.now c.write_label.new.into refl refl c.requires.place c.requires.length part c.write_label.ensures
