use Rattle.std.proofs.Common.{◌≡◌, ℕ, ◌-◌, ◌≤◌, ◌<◌, arith, length, inl, inr}
use Rattle.std.proofs.lemmas.List.{length-take}
use Rattle.nine_wire.proofs.Framing.{size_bad, size_part, no_header, rest_is_long, inside_len, framed}
use Rattle.nine_wire.proofs.frame.sized_at.Goals as goal

pub returns-then-size-lt7 : goal.returns-then-size-lt7
returns-then-size-lt7 c = size_bad c.args.msize c.args.bytes.now c.args.size c.args.rest.now c.requires (inl (omega arith))

pub returns-then-msize-size : goal.returns-then-msize-size
returns-then-msize-size c = size_bad c.args.msize c.args.bytes.now c.args.size c.args.rest.now c.requires (inr (omega arith))

pub returns-then-bytes-size : goal.returns-then-bytes-size
returns-then-bytes-size c = size_part c.args.msize c.args.bytes.now c.args.size c.args.rest.now c.requires (omega arith) (omega arith) (omega arith)

pub returns-in-Ok : goal.returns-in-Ok
returns-in-Ok c = framed c.args.msize c.args.bytes.now c.args.size c.args.rest.now c.in-Ok.kind c.in-Ok.tag c.in-Ok.inside.now (record { below = λ i. omega (arith, c.type_inv.bytes i) }) c.requires (omega arith) (omega arith) (omega arith) c.in-Ok.ensures

pub returns-in-Err : goal.returns-in-Err
returns-in-Err c =
    let short = no_header c.args.rest.now c.in-Err.ensures in
    let long = rest_is_long c.args.bytes.now c.args.size c.args.rest.now c.requires in
    absurd (omega (arith, short, long))

pub slice_bounds-result-length : goal.slice_bounds-result-length
slice_bounds-result-length c =
    let long = rest_is_long c.args.bytes.now c.args.size c.args.rest.now c.requires in
    let len = inside_len c.args.rest.now c.in-Ok.kind c.in-Ok.tag c.in-Ok.inside.now c.in-Ok.ensures in
    omega (arith, long, len, length-take (c.args.size - 7) c.in-Ok.inside.now)
