use Rattle.std.proofs.Common.{◌≡◌, ◌≢◌, ◌⊎◌, ◌+◌, ◌*◌, ◌≤◌, ℕ, inl, inr, ⊎_elim, refl, sym, ◌∙◌, ap, subst, arith}
use Rattle.fo_ports.specs.Sources.{IsEnough, Owned, Changes, Dirties, Grows, depth_for, most_to_own}
use Rattle.fo_tree_raise.specs.of_tree_read.declared.tree.Tree.{Tree}
use Rattle.fo_tree_raise.specs.of_tree_read.Tree.{kind_at}
use Rattle.fo_tree_leaf.specs.of_tree_look.Source.{Over, Prepared, IsTopCurrent, HasBlock, form_of, leaves_of}
use Rattle.fo_tree_leaf.specs.of_tree_down.Way.{IsTopOf, with_top}
use Rattle.fo_tree_leaf.specs.of_tree_down.Clear.{EndsClear, last_leaf}
use Rattle.fo_tree_leaf.proofs.of_tree_down.Dirtying.{dirties_most}
use Rattle.fo_tree_leaf.proofs.Owning.{most_within}
use Rattle.fo_tree_grow.specs.Grow.{shaped}
use Rattle.fo_tree_grow.proofs.Growing.{changes_of, top_of_sized, owned_sized, bytes_none}
use Rattle.fo_tree_grow.proofs.Empty.{least_for, few_for, has_none, address_none, held_none, over_shaped, prepared_any, tail_none, byte_none, clear_none}
use Rattle.fo_tree_grow.proofs.first.own_first.Given as given
use Rattle.fo_tree_leaf.specs.of_tree_down.Alike.{KeepsAlike}
use Rattle.fo_tree_grow.proofs.Empty.{alike_first}
use Rattle.fo_tree_grow.proofs.first.own_first.Goals as goal

-- the depth that is asked for
depth_is : (g : given.Over) (c : goal.After-own_within-arg-1 g) → c.least_depth.result ≡ depth_for (8192 * (c.args.i + 1))
depth_is g c =
    let within = c.requires.over.2 in
    let low = c.requires.over.1.low in
    sym (c.least_depth.ensures.only (depth_for (8192 * (c.args.i + 1))) (least_for (8192 * (c.args.i + 1)) (omega (arith, within, low))))

grown_is : (g : given.Over) (c : goal.After-own_within-arg-1 g) → c.with_shape-grown.result ≡ shaped c.args.tree.now (depth_for (8192 * (c.args.i + 1))) (8192 * (c.args.i + 1))
grown_is g c = c.with_shape-grown.ensures ∙ ap (λ d. shaped c.args.tree.now d (8192 * (c.args.i + 1))) (depth_is g c)

pub own_within-requires-clause-over : goal.own_within-requires-clause-over
own_within-requires-clause-over g c =
    let s = g.B.Blocks.state c.args.on.now in
    let t = c.args.tree.now in
    let kept = c.args.kept.now in
    let z = 8192 * (c.args.i + 1) in
    let limit = c.requires.over.0 in
    let within = c.requires.over.2 in
    subst (λ (x : Tree). (limit : ℕ) × Over s x kept limit × Prepared s x kept limit (8192 * c.args.i) 8192) (sym (grown_is g c)) (
      limit,
      over_shaped s t kept c.requires.empty limit (depth_for z) z (omega arith) within refl (few_for z) c.requires.over.1,
      prepared_any s t kept c.requires.empty (depth_for z) z limit (8192 * c.args.i) 8192 (omega (arith, within)),
    )

pub own_within-requires-clause-within : goal.own_within-requires-clause-within
own_within-requires-clause-within g c = subst (λ (x : Tree). 8192 * (c.args.i + 1) ≤ x.size) (sym (grown_is g c)) (omega arith)

pub own_within-requires-clause-spare : goal.own_within-requires-clause-spare
own_within-requires-clause-spare g c =
    let s = g.B.Blocks.state c.args.on.now in
    let most = most_within (8192 * (c.args.i + 1)) c.args.i (omega arith) in
    let enough = c.requires.spare in
    subst (λ (x : Tree). IsEnough (IsTopCurrent s x) x.size c.args.i s.spare) (sym (grown_is g c)) (inl (omega (arith, most, enough)))

depth_end : (g : given.Over) (c : goal.After-own_within g) → c.least_depth.result ≡ depth_for (8192 * (c.args.i + 1))
depth_end g c =
    let within = c.requires.over.2 in
    let low = c.requires.over.1.low in
    sym (c.least_depth.ensures.only (depth_for (8192 * (c.args.i + 1))) (least_for (8192 * (c.args.i + 1)) (omega (arith, within, low))))

grown_end : (g : given.Over) (c : goal.After-own_within g) → c.with_shape-grown.result ≡ shaped c.args.tree.now (depth_for (8192 * (c.args.i + 1))) (8192 * (c.args.i + 1))
grown_end g c = c.with_shape-grown.ensures ∙ ap (λ d. shaped c.args.tree.now d (8192 * (c.args.i + 1))) (depth_end g c)

pub returns-clause-owned : goal.returns-clause-owned
returns-clause-owned g c = λ generation limit.
    let s = g.B.Blocks.state c.args.on.now in
    let u = g.B.Blocks.state c.own_within.new.on in
    let t = c.args.tree.now in
    let kept = c.args.kept.now in
    let z = 8192 * (c.args.i + 1) in
    let d = depth_for (8192 * (c.args.i + 1)) in
    owned_sized s t (depth_for (8192 * (c.args.i + 1))) z c.args.i kept (λ j. address_none s (shaped t d z) c.requires.empty j ∙ sym (address_none s t c.requires.empty j)) (λ j. held_none s (shaped t d z) kept c.requires.empty j ∙ sym (held_none s t kept c.requires.empty j)) (tail_none s t kept c.requires.empty) refl u c.own_within.result.at generation limit
    (leaves_of u (with_top (shaped t d z) c.own_within.result.top) kept limit)
    (subst (λ (x : Tree). Owned (form_of x generation limit) x.size c.args.i c.own_within.result.at s u (leaves_of s x kept limit) (leaves_of u (with_top x c.own_within.result.top) kept limit)) (grown_end g c) (c.own_within.ensures.owned generation limit))

pub returns-clause-bytes : goal.returns-clause-bytes
returns-clause-bytes g c = λ told limit.
    let s = g.B.Blocks.state c.args.on.now in
    let u = g.B.Blocks.state c.own_within.new.on in
    let t = c.args.tree.now in
    let kept = c.args.kept.now in
    let z = 8192 * (c.args.i + 1) in
    let d = depth_for (8192 * (c.args.i + 1)) in
    subst (λ (x : Tree). (leaves_of u (with_top x c.own_within.result.top) kept limit).bytes ≡ (leaves_of s x kept limit).bytes) (grown_end g c) (c.own_within.ensures.bytes told limit)
    ∙ bytes_none s t (depth_for (8192 * (c.args.i + 1))) z c.args.i kept (λ j. address_none s (shaped t d z) c.requires.empty j ∙ sym (address_none s t c.requires.empty j)) (λ j. held_none s (shaped t d z) kept c.requires.empty j ∙ sym (held_none s t kept c.requires.empty j)) (tail_none s t kept c.requires.empty) refl (byte_none s t kept c.requires.empty)

pub returns-clause-top : goal.returns-clause-top
returns-clause-top g c =
    let s = g.B.Blocks.state c.args.on.now in
    let u = g.B.Blocks.state c.own_within.new.on in
    let t = c.args.tree.now in
    let kept = c.args.kept.now in
    let z = 8192 * (c.args.i + 1) in
    let d = depth_for (8192 * (c.args.i + 1)) in
    top_of_sized {t = t} {d = depth_for (8192 * (c.args.i + 1))} {z = 8192 * (c.args.i + 1)} (subst (λ (x : Tree). IsTopOf s u x c.own_within.result.top) (grown_end g c) c.own_within.ensures.top)

pub returns-clause-over : goal.returns-clause-over
returns-clause-over g c = λ limit within over.
    let s = g.B.Blocks.state c.args.on.now in
    let u = g.B.Blocks.state c.own_within.new.on in
    let t = c.args.tree.now in
    let kept = c.args.kept.now in
    let z = 8192 * (c.args.i + 1) in
    let d = depth_for (8192 * (c.args.i + 1)) in
    (subst (λ (x : Tree). (limit : ℕ) → Over s x kept limit → Over u (with_top x c.own_within.result.top) kept limit) (grown_end g c) c.own_within.ensures.over) limit
    (over_shaped s t kept c.requires.empty limit (depth_for z) z (omega arith) within refl (few_for z) over)

pub returns-clause-grows : goal.returns-clause-grows
returns-clause-grows g c = λ limit.
    let s = g.B.Blocks.state c.args.on.now in
    let u = g.B.Blocks.state c.own_within.new.on in
    let t = c.args.tree.now in
    let kept = c.args.kept.now in
    let z = 8192 * (c.args.i + 1) in
    let d = depth_for (8192 * (c.args.i + 1)) in
    let grows : Grows s u (leaves_of s (shaped t d z) kept limit) (leaves_of u (with_top (shaped t d z) c.own_within.result.top) kept limit) =
    subst (λ (x : Tree). Grows s u (leaves_of s x kept limit) (leaves_of u (with_top x c.own_within.result.top) kept limit)) (grown_end g c) (c.own_within.ensures.grows limit) in
    record {
      owns = λ told b. let both = grows.owns told b in (λ has. ⊎_elim (λ old. absurd (has_none s (shaped t d z) c.requires.empty b old)) (λ made. inr made) (both.0 has), both.1);
      still = λ o n was. grows.still o n (prepared_any s t kept c.requires.empty d z limit o n was.end);
    }

pub returns-clause-changes : goal.returns-clause-changes
returns-clause-changes g c =
    let s = g.B.Blocks.state c.args.on.now in
    let u = g.B.Blocks.state c.own_within.new.on in
    let t = c.args.tree.now in
    let kept = c.args.kept.now in
    let z = 8192 * (c.args.i + 1) in
    let d = depth_for (8192 * (c.args.i + 1)) in
    changes_of (λ b h. absurd (has_none s (shaped t d z) c.requires.empty b h)) (λ b h. absurd (has_none s (shaped t d z) c.requires.empty b h.0))
    (subst (λ (x : Tree). Changes x.tag (HasBlock s x) (λ b. HasBlock s x b × ((s.label b).kind ≢ kind_at x.dir 0)) s u) (grown_end g c) c.own_within.ensures.changes)

pub returns-clause-spare : goal.returns-clause-spare
returns-clause-spare g c =
    let s = g.B.Blocks.state c.args.on.now in
    let u = g.B.Blocks.state c.own_within.new.on in
    let most = most_within (8192 * (c.args.i + 1)) c.args.i (omega arith) in
    let used : s.spare ≤ u.spare + most_to_own (8192 * (c.args.i + 1)) c.args.i = subst (λ (x : Tree). s.spare ≤ u.spare + most_to_own x.size c.args.i) (grown_end g c) c.own_within.ensures.spare in
    omega (arith, most, used)

pub returns-clause-current : goal.returns-clause-current
returns-clause-current g c =
    let u = g.B.Blocks.state c.own_within.new.on in
    subst (λ (x : Tree). IsTopCurrent u (with_top x c.own_within.result.top)) (grown_end g c) c.own_within.ensures.current

pub returns-clause-clear : goal.returns-clause-clear
returns-clause-clear g c =
    let s = g.B.Blocks.state c.args.on.now in
    let u = g.B.Blocks.state c.own_within.new.on in
    let t = c.args.tree.now in
    let kept = c.args.kept.now in
    let z = 8192 * (c.args.i + 1) in
    let d = depth_for (8192 * (c.args.i + 1)) in
    (subst (λ (x : Tree). s.tells ⊎ (c.args.i ≡ last_leaf x.size) → EndsClear s x kept → EndsClear u (with_top x c.own_within.result.top) kept) (grown_end g c) c.own_within.ensures.clear)
    (inr (omega arith))
    (clear_none s (shaped t d z) c.requires.empty kept)

pub returns-clause-dirties : goal.returns-clause-dirties
returns-clause-dirties g c =
    let s = g.B.Blocks.state c.args.on.now in
    let u = g.B.Blocks.state c.own_within.new.on in
    let z = 8192 * (c.args.i + 1) in
    let at = c.own_within.result.at in
    let most = most_within (8192 * (c.args.i + 1)) c.args.i (omega arith) in
    let enough : 2 * most_to_own (8192 * (c.args.i + 1)) c.args.i ≤ 2 * (depth_for (8192 * (c.args.i + 1)) + 1) = omega (arith, most) in
    dirties_most enough (subst (λ (x : Tree). Dirties (2 * most_to_own x.size c.args.i) (λ b. b ≡ at) s u) (grown_end g c) c.own_within.ensures.dirties)

pub returns-clause-alike : goal.returns-clause-alike
returns-clause-alike g c =
    let s = g.B.Blocks.state c.args.on.now in
    let u = g.B.Blocks.state c.own_within.new.on in
    let z = 8192 * (c.args.i + 1) in
    alike_first (depth_for z) z c.requires.empty (subst (λ (x : Tree). KeepsAlike s u x (with_top x c.own_within.result.top)) (grown_end g c) c.own_within.ensures.alike)
