use Rattle.std.proofs.Common.{◌≡◌, ◌-◌, length, take, drop, sym, subst, ◌∙◌, arith}
use Rattle.std.proofs.lemmas.List.{length-drop, take_all}
use Rattle.fo_image.specs.Record.{SpellsRecord, record_len}
use Rattle.fo_rules.specs.Leaf.{IsFront}
use Rattle.fo_rules.proofs.Fronts.{front_found, front_len, front_long, front_spelled}
use Rattle.fo_rules.proofs.leaf.read_front.Goals as goal

pub returns-then-bytes-len : goal.returns-then-bytes-len
returns-then-bytes-len c = λ r more f. omega (arith, front_len f, front_long f, c.u16_at-len.ensures, c.if-bytes-len.true)

pub returns-in-Ok : goal.returns-in-Ok
returns-in-Ok c =
    let len = c.u16_at-len.result in
    let s : SpellsRecord c.in-Ok.record (take len c.args.bytes.now) = c.in-Ok.ensures.found in
    let rest : take (length c.args.bytes.now - len) (drop len c.args.bytes.now) ≡ drop len c.args.bytes.now = take_all (length c.args.bytes.now - len) (drop len c.args.bytes.now) (omega (arith, length-drop len c.args.bytes.now)) in
    subst (λ xs. IsFront c.args.bytes.now c.in-Ok.record xs) (sym rest) (front_found c.args.bytes.now len c.in-Ok.record s)

pub returns-in-Err-Bad : goal.returns-in-Err-Bad
returns-in-Err-Bad c = λ r more f.
    let len = c.u16_at-len.result in
    let is : record_len r ≡ len = sym (c.u16_at-len.ensures ∙ front_len f) in
    let s : SpellsRecord r (take len c.args.bytes.now) = subst (λ n. SpellsRecord r (take n c.args.bytes.now)) is (front_spelled f) in
    let no = c.in-Err-Bad.ensures.only r s in
    cc
