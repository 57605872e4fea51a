use Rattle.std.proofs.Common.{◌≡◌, ◌-◌, ◌∙◌, ◌++◌, ap, refl, sym, arith, length, take, drop}
use Rattle.std.specs.Prelude.{replicate}
use Rattle.std.proofs.lemmas.List.{length-take, length-drop}
use Rattle.fo_image.specs.Field.{zeros}
use Rattle.fo_image.proofs.Padding.{filled_up}
use Rattle.fo_vacput.proofs.truncation.fill_with_zeros.Goals as goal

pub returns : goal.returns
returns c =
    let into = c.args.into.now in
    let from = c.args.from in
    let front : length (take from into) ≡ from = omega (arith, length-take from into) in
    let len : length (take (length into - from) (drop from into)) ≡ length into - from = omega (arith, length-take (length into - from) (drop from into), length-drop from into) in
    filled_up (take from into) into c.fill.new.self from (length into) refl (sym front) (omega arith) refl (c.fill.ensures.after (λ y e. e) ∙ ap (λ n. replicate n 0) len)
    ∙ ap (λ n. take from into ++ zeros (length into - n)) front
