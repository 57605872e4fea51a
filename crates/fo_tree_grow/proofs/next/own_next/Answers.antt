use Rattle.std.proofs.Common.{◌≡◌, ◌≢◌, ◌⊎◌, ◌+◌, ◌*◌, ◌^◌, ◌≤◌, ℕ, inl, inr, ⊎_elim, refl, sym, ◌∙◌, subst, arith}
use Rattle.fo_ports.specs.Sources.{Made, IsEnough, Owned, Changes, Dirties, Grows, most_to_own}
use Rattle.fo_tree_raise.specs.of_tree_read.declared.tree.Tree.{Tree}
use Rattle.fo_tree_raise.specs.of_tree_read.Tree.{kind_at}
use Rattle.fo_tree_leaf.specs.of_tree_look.Source.{Over, Prepared, WayReady, IsTopCurrent, HasBlock, form_of, leaves_of}
use Rattle.fo_tree_leaf.specs.of_tree_down.Way.{OnWay, Descends, IsTopOf, with_top}
use Rattle.fo_tree_leaf.specs.of_tree_down.Clear.{EndsClear, last_leaf}
use Rattle.fo_tree_leaf.proofs.of_tree_down.Dirtying.{dirties_most}
use Rattle.fo_tree_leaf.proofs.Owning.{most_within}
use Rattle.fo_tree_grow.specs.Grow.{sized}
use Rattle.fo_tree_grow.proofs.Sizing.{room_for, has_back, has_sized, top_sized, over_sized, prepared_sized, address_sized, held_sized, clear_sized}
use Rattle.fo_tree_grow.proofs.Growing.{changes_of, top_of_sized, owned_sized, bytes_sized}
use Rattle.fo_tree_grow.proofs.next.own_next.Given as given
use Rattle.fo_tree_leaf.specs.of_tree_down.Alike.{KeepsAlike}
use Rattle.fo_tree_leaf.proofs.of_tree_down.Alikes.{alike_sized}
use Rattle.fo_tree_grow.proofs.next.own_next.Goals as goal

room_of : (g : given.Over) (c : goal.After-own_within-arg-1 g) → 8192 * (c.args.i + 1) ≤ 8192 * 409 ^ c.args.tree.now.depth
room_of g c =
    let end = c.requires.over.2.end in
    let low = c.requires.over.1.low in
    subst (λ d. 8192 * (c.args.i + 1) ≤ 8192 * 409 ^ d) (sym c.requires.levels) (room_for (8192 * (c.args.i + 1)) (omega (arith, end, low)))

more_of : (g : given.Over) (c : goal.After-own_within-arg-1 g) → c.args.tree.now.size ≤ 8192 * (c.args.i + 1)
more_of g c = let lt = c.requires.past in omega (arith, lt)

pub own_within-requires-clause-over : goal.own_within-requires-clause-over
own_within-requires-clause-over g c =
    let s = g.B.Blocks.state c.args.on.now in
    let t = c.args.tree.now in
    let kept = c.args.kept.now in
    let z = 8192 * (c.args.i + 1) in
    let limit = c.requires.over.0 in
    let end = c.requires.over.2.end in
    subst (λ (x : Tree). (limit : ℕ) × Over s x kept limit × Prepared s x kept limit (8192 * c.args.i) 8192) (sym c.with_size-grown.ensures) (
      limit,
      over_sized s t z kept limit (omega arith) (omega (arith, end)) c.requires.levels c.requires.over.1,
      prepared_sized s t z kept c.requires.clear (more_of g c) (room_of g c) limit (8192 * c.args.i) 8192 c.requires.over.2,
    )

pub own_within-requires-clause-within : goal.own_within-requires-clause-within
own_within-requires-clause-within g c = subst (λ (x : Tree). 8192 * (c.args.i + 1) ≤ x.size) (sym c.with_size-grown.ensures) (omega arith)

pub own_within-requires-clause-spare : goal.own_within-requires-clause-spare
own_within-requires-clause-spare g c =
    let s = g.B.Blocks.state c.args.on.now in
    let t = c.args.tree.now in
    let z = 8192 * (c.args.i + 1) in
    let most = most_within (8192 * (c.args.i + 1)) c.args.i (omega arith) in
    let least = c.requires.levels in
    subst (λ (x : Tree). IsEnough (IsTopCurrent s x) x.size c.args.i s.spare) (sym c.with_size-grown.ensures)
    (⊎_elim
    (λ top. let enough = top.1 in inr (top_sized s t z top.0, omega (arith, most, least, enough)))
    (λ enough. inl (omega (arith, most, least, enough)))
    c.requires.spare)

room_end : (g : given.Over) (c : goal.After-own_within g) → 8192 * (c.args.i + 1) ≤ 8192 * 409 ^ c.args.tree.now.depth
room_end g c =
    let end = c.requires.over.2.end in
    let low = c.requires.over.1.low in
    subst (λ d. 8192 * (c.args.i + 1) ≤ 8192 * 409 ^ d) (sym c.requires.levels) (room_for (8192 * (c.args.i + 1)) (omega (arith, end, low)))

more_end : (g : given.Over) (c : goal.After-own_within g) → c.args.tree.now.size ≤ 8192 * (c.args.i + 1)
more_end g c = let lt = c.requires.past in omega (arith, lt)

pub returns-clause-owned : goal.returns-clause-owned
returns-clause-owned g c = λ generation limit.
    let s = g.B.Blocks.state c.args.on.now in
    let u = g.B.Blocks.state c.own_within.new.on in
    let t = c.args.tree.now in
    let kept = c.args.kept.now in
    let z = 8192 * (c.args.i + 1) in
    owned_sized s t t.depth z c.args.i kept (address_sized s t z kept c.requires.clear (more_end g c) (room_end g c)) (held_sized s t z kept c.requires.clear (more_end g c) (room_end g c)) c.requires.tail refl u c.own_within.result.at generation limit
    (leaves_of u (with_top (sized t z) c.own_within.result.top) kept limit)
    (subst (λ (x : Tree). Owned (form_of x generation limit) x.size c.args.i c.own_within.result.at s u (leaves_of s x kept limit) (leaves_of u (with_top x c.own_within.result.top) kept limit)) c.with_size-grown.ensures (c.own_within.ensures.owned generation limit))

pub returns-clause-bytes : goal.returns-clause-bytes
returns-clause-bytes g c = λ told ends limit.
    let s = g.B.Blocks.state c.args.on.now in
    let u = g.B.Blocks.state c.own_within.new.on in
    let t = c.args.tree.now in
    let kept = c.args.kept.now in
    let z = 8192 * (c.args.i + 1) in
    subst (λ (x : Tree). (leaves_of u (with_top x c.own_within.result.top) kept limit).bytes ≡ (leaves_of s x kept limit).bytes) c.with_size-grown.ensures (c.own_within.ensures.bytes told limit)
    ∙ bytes_sized s t t.depth z c.args.i kept (address_sized s t z kept c.requires.clear (more_end g c) (room_end g c)) (held_sized s t z kept c.requires.clear (more_end g c) (room_end g c)) c.requires.tail refl ends

pub returns-clause-top : goal.returns-clause-top
returns-clause-top g c =
    let s = g.B.Blocks.state c.args.on.now in
    let u = g.B.Blocks.state c.own_within.new.on in
    let t = c.args.tree.now in
    top_of_sized {t = t} {d = t.depth} {z = 8192 * (c.args.i + 1)} (subst (λ (x : Tree). IsTopOf s u x c.own_within.result.top) c.with_size-grown.ensures c.own_within.ensures.top)

pub returns-clause-over : goal.returns-clause-over
returns-clause-over g c = λ limit within over.
    let s = g.B.Blocks.state c.args.on.now in
    let u = g.B.Blocks.state c.own_within.new.on in
    let t = c.args.tree.now in
    let kept = c.args.kept.now in
    let z = 8192 * (c.args.i + 1) in
    (subst (λ (x : Tree). (limit : ℕ) → Over s x kept limit → Over u (with_top x c.own_within.result.top) kept limit) c.with_size-grown.ensures c.own_within.ensures.over) limit
    (over_sized s t z kept limit (omega arith) within c.requires.levels over)

pub returns-clause-grows : goal.returns-clause-grows
returns-clause-grows g c = λ limit.
    let s = g.B.Blocks.state c.args.on.now in
    let u = g.B.Blocks.state c.own_within.new.on in
    let t = c.args.tree.now in
    let kept = c.args.kept.now in
    let z = 8192 * (c.args.i + 1) in
    let grows : Grows s u (leaves_of s (sized t z) kept limit) (leaves_of u (with_top (sized t z) c.own_within.result.top) kept limit) =
    subst (λ (x : Tree). Grows s u (leaves_of s x kept limit) (leaves_of u (with_top x c.own_within.result.top) kept limit)) c.with_size-grown.ensures (c.own_within.ensures.grows limit) in
    record {
      owns = λ told b. let both = grows.owns told b in (λ has. ⊎_elim (λ old. inl (has_back s t z b old)) (λ made. inr made) (both.0 has), both.1);
      still = λ o n was. grows.still o n (prepared_sized s t z kept c.requires.clear (more_end g c) (room_end g c) limit o n was);
    }

pub returns-clause-changes : goal.returns-clause-changes
returns-clause-changes g c =
    let s = g.B.Blocks.state c.args.on.now in
    let u = g.B.Blocks.state c.own_within.new.on in
    let t = c.args.tree.now in
    let z = 8192 * (c.args.i + 1) in
    changes_of (has_back s t z) (λ b h. (has_back s t z b h.0, h.1))
    (subst (λ (x : Tree). Changes x.tag (HasBlock s x) (λ b. HasBlock s x b × ((s.label b).kind ≢ kind_at x.dir 0)) s u) c.with_size-grown.ensures c.own_within.ensures.changes)

pub returns-clause-spare : goal.returns-clause-spare
returns-clause-spare g c =
    let s = g.B.Blocks.state c.args.on.now in
    let u = g.B.Blocks.state c.own_within.new.on in
    let most = most_within (8192 * (c.args.i + 1)) c.args.i (omega arith) in
    let least = c.requires.levels in
    let used : s.spare ≤ u.spare + most_to_own (8192 * (c.args.i + 1)) c.args.i = subst (λ (x : Tree). s.spare ≤ u.spare + most_to_own x.size c.args.i) c.with_size-grown.ensures c.own_within.ensures.spare in
    omega (arith, most, least, used)

pub returns-clause-less : goal.returns-clause-less
returns-clause-less g c = λ top.
    let s = g.B.Blocks.state c.args.on.now in
    let u = g.B.Blocks.state c.own_within.new.on in
    let t = c.args.tree.now in
    let z = 8192 * (c.args.i + 1) in
    let most = most_within (8192 * (c.args.i + 1)) c.args.i (omega arith) in
    let least = c.requires.levels in
    let used : s.spare + 1 ≤ u.spare + most_to_own (8192 * (c.args.i + 1)) c.args.i = (subst (λ (x : Tree). IsTopCurrent s x → s.spare + 1 ≤ u.spare + most_to_own x.size c.args.i) c.with_size-grown.ensures c.own_within.ensures.less) (top_sized s t z top) in
    omega (arith, most, least, used)

pub returns-clause-current : goal.returns-clause-current
returns-clause-current g c =
    let u = g.B.Blocks.state c.own_within.new.on in
    subst (λ (x : Tree). IsTopCurrent u (with_top x c.own_within.result.top)) c.with_size-grown.ensures c.own_within.ensures.current

pub returns-clause-clear : goal.returns-clause-clear
returns-clause-clear g c =
    let s = g.B.Blocks.state c.args.on.now in
    let u = g.B.Blocks.state c.own_within.new.on in
    let t = c.args.tree.now in
    let kept = c.args.kept.now in
    let z = 8192 * (c.args.i + 1) in
    (subst (λ (x : Tree). s.tells ⊎ (c.args.i ≡ last_leaf x.size) → EndsClear s x kept → EndsClear u (with_top x c.own_within.result.top) kept) c.with_size-grown.ensures c.own_within.ensures.clear)
    (inr (omega arith))
    (clear_sized s t z kept c.requires.clear (more_end g c) (room_end g c) (omega arith))

pub returns-clause-descends : goal.returns-clause-descends
returns-clause-descends g c =
    let s = g.B.Blocks.state c.args.on.now in
    let u = g.B.Blocks.state c.own_within.new.on in
    subst (λ (x : Tree). Descends x (OnWay s x x.depth c.args.i) 0 s u) c.with_size-grown.ensures c.own_within.ensures.descends

pub returns-clause-ways : goal.returns-clause-ways
returns-clause-ways g c =
    let s = g.B.Blocks.state c.args.on.now in
    let u = g.B.Blocks.state c.own_within.new.on in
    let kept = c.args.kept.now in
    subst (λ (x : Tree). (j b : ℕ) → WayReady s x kept x.depth j → OnWay u (with_top x c.own_within.result.top) x.depth j b → OnWay s x x.depth j b ⊎ Made s u b) c.with_size-grown.ensures c.own_within.ensures.ways

pub returns-clause-stays : goal.returns-clause-stays
returns-clause-stays g c = λ told b has current.
    let s = g.B.Blocks.state c.args.on.now in
    let u = g.B.Blocks.state c.own_within.new.on in
    let t = c.args.tree.now in
    let z = 8192 * (c.args.i + 1) in
    (subst (λ (x : Tree). s.tells → (b : ℕ) → HasBlock s x b → (s.label b).epoch ≡ s.high → HasBlock u (with_top x c.own_within.result.top) b) c.with_size-grown.ensures c.own_within.ensures.stays)
    told b (has_sized s t z b has) current

pub returns-clause-dirties : goal.returns-clause-dirties
returns-clause-dirties g c =
    let s = g.B.Blocks.state c.args.on.now in
    let u = g.B.Blocks.state c.own_within.new.on in
    let t = c.args.tree.now in
    let at = c.own_within.result.at in
    let most = most_within (8192 * (c.args.i + 1)) c.args.i (omega arith) in
    let least = c.requires.levels in
    let enough : 2 * most_to_own (8192 * (c.args.i + 1)) c.args.i ≤ 2 * (t.depth + 1) = omega (arith, most, least) in
    dirties_most enough (subst (λ (x : Tree). Dirties (2 * most_to_own x.size c.args.i) (λ b. b ≡ at) s u) c.with_size-grown.ensures c.own_within.ensures.dirties)

pub returns-clause-alike : goal.returns-clause-alike
returns-clause-alike g c =
    let s = g.B.Blocks.state c.args.on.now in
    let u = g.B.Blocks.state c.own_within.new.on in
    alike_sized (8192 * (c.args.i + 1)) (subst (λ (x : Tree). KeepsAlike s u x (with_top x c.own_within.result.top)) c.with_size-grown.ensures c.own_within.ensures.alike)
