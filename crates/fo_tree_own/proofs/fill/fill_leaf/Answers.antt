use Rattle.std.proofs.Common.{◌+◌, List, ℕ, length, sym, ap, ◌∙◌, subst, arith}
use Rattle.fo_image.specs.declared.types.Kind.{Kind}
use Rattle.fo_image.specs.declared.types.Kind.TheVariants.{Data}
use Rattle.fo_tree_look.specs.of_ports.Blocks.{MayPut, IsFormed, put_at}
use Rattle.fo_tree_own.proofs.Filling.{whole_put, filled_bytes, bare_bytes}
use Rattle.fo_tree_own.proofs.fill.fill_leaf.Goals as goal

pub put_bytes-requires-clause-pinned : goal.put_bytes-requires-clause-pinned
put_bytes-requires-clause-pinned g c =
    c.requires.bare.is_pinned

pub put_bytes-requires-clause-current : goal.put_bytes-requires-clause-current
put_bytes-requires-clause-current g c =
    c.requires.bare.current

pub put_bytes-requires-clause-within : goal.put_bytes-requires-clause-within
put_bytes-requires-clause-within g c =
    let long = c.requires.length in let room = c.requires.bare.long in omega (arith, long, room)

pub put_bytes-requires-clause-place : goal.put_bytes-requires-clause-place
put_bytes-requires-clause-place g c =
    subst (λ (k : Kind). MayPut k 0 (0 + length c.args.bytes.now)) (sym c.requires.bare.has_kind) (omega arith)

pub put_bytes-requires-clause-formed : goal.put_bytes-requires-clause-formed
put_bytes-requires-clause-formed g c =
    λ told p stands.
    let is = c.requires.formed told p stands in
    let same = whole_put c.args.bytes.now (((g.B.Blocks.state c.args.on.now).now c.args.at).bytes) (c.requires.length ∙ sym c.requires.bare.long) in
    subst (λ (k : Kind). IsFormed k p.rank (put_at 0 c.args.bytes.now (((g.B.Blocks.state c.args.on.now).now c.args.at).bytes))) (sym is.0)
    (subst (λ (xs : List ℕ). IsFormed (Data 0) p.rank xs) (sym same) (c.requires.length, λ h. absurd (is.1 h)))

pub returns-clause-filled : goal.returns-clause-filled
returns-clause-filled g c =
    let on = c.args.on.now in
    let end = c.put_bytes.new.self in
    let m = g.B.Blocks.state on in
    let p = c.put_bytes.ensures in
    let end_state = g.B.Blocks.state end in
    let same = whole_put c.args.bytes.now ((m.now c.args.at).bytes) (c.requires.length ∙ sym c.requires.bare.long) in
    filled_bytes {m = m} {u = end_state} (record { puts = p.now; images = p.images; calm = p.calm; no_wait = p.no_wait; all = g.met.B.Blocks.keeps_all on end p.keeps })

pub returns-clause-bare : goal.returns-clause-bare
returns-clause-bare g c =
    let on = c.args.on.now in
    let end = c.put_bytes.new.self in
    let m = g.B.Blocks.state on in
    let p = c.put_bytes.ensures in
    let end_state = g.B.Blocks.state end in
    let same = whole_put c.args.bytes.now ((m.now c.args.at).bytes) (c.requires.length ∙ sym c.requires.bare.long) in
    λ kind was. bare_bytes {m = m} {u = end_state} (record { puts = p.now; images = p.images; calm = p.calm; no_wait = p.no_wait; all = g.met.B.Blocks.keeps_all on end p.keeps }) kind (ap (λ (xs : List ℕ). length xs) same ∙ c.requires.length) was

pub returns-clause-content : goal.returns-clause-content
returns-clause-content g c =
    let on = c.args.on.now in
    let end = c.put_bytes.new.self in
    let m = g.B.Blocks.state on in
    let p = c.put_bytes.ensures in
    let end_state = g.B.Blocks.state end in
    let same = whole_put c.args.bytes.now ((m.now c.args.at).bytes) (c.requires.length ∙ sym c.requires.bare.long) in
    p.now.here ∙ same
