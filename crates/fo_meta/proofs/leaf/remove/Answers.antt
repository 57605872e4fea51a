use Rattle.std.proofs.Common.{◌∙◌, sym, subst, arith}
use Rattle.fo_meta.specs.Leaf.{SpellsLeaf, without}
use Rattle.fo_meta.proofs.Leaves.{head_at}
use Rattle.fo_meta.proofs.Lists.{without-none}
use Rattle.fo_meta.proofs.Edits.{parts_are, removed}
use Rattle.fo_meta.proofs.leaf.remove.Goals as goal

pub returns-in_default-clause-removed : goal.returns-in_default-clause-removed
returns-in_default-clause-removed c = λ rs s. let none = c.in_default.ensures.place rs s in (sym none, subst (λ xs. SpellsLeaf xs c.args.leaf.now) (sym (without-none c.args.name.now rs none)) s)

pub overflow_sub-count : goal.overflow_sub-count
overflow_sub-count c =
    let rs = c.requires.records in
    let q = parts_are c.args.name.now rs (c.in-Some.at, c.in-Some.end) (c.in-Some.ensures.place rs c.requires.spells) in
    omega (arith, q.some, c.u16_at-count.ensures, (head_at c.args.leaf.now rs c.requires.spells).count)

pub overflow_sub-used : goal.overflow_sub-used
overflow_sub-used c =
    let rs = c.requires.records in
    let q = parts_are c.args.name.now rs (c.in-Some.at, c.in-Some.end) (c.in-Some.ensures.place rs c.requires.spells) in
    omega (arith, q.len, c.u16_at.ensures, (head_at c.args.leaf.now rs c.requires.spells).used)

pub returns-clause-removed : goal.returns-clause-removed
returns-clause-removed c = λ rs s.
    let p = c.in-Some.ensures.place rs s in
    let q = parts_are c.args.name.now rs (c.in-Some.at, c.in-Some.end) p in
    let head = head_at c.args.leaf.now rs s in (
      sym q.any,
      removed c.args.name.now rs c.args.leaf.now _ _ _ c.in-Some.at c.in-Some.end c.u16_at-count.result c.u16_at.result s p (c.u16_at-count.ensures ∙ head.count) (c.u16_at.ensures ∙ head.used)
          (c.fill.ensures.after (λ y e. e)) c.rotate_left.ensures.after c.write_head.ensures,
    )

pub returns-clause-leaf : goal.returns-clause-leaf
returns-clause-leaf c =
    let rs = c.requires.records in
    let s = c.requires.spells in
    let head = head_at c.args.leaf.now rs s in
    record {
      records = without c.args.name.now rs;
      spells = removed c.args.name.now rs c.args.leaf.now _ _ _ c.in-Some.at c.in-Some.end c.u16_at-count.result c.u16_at.result s (c.in-Some.ensures.place rs s) (c.u16_at-count.ensures ∙ head.count) (c.u16_at.ensures ∙ head.used)
          (c.fill.ensures.after (λ y e. e)) c.rotate_left.ensures.after c.write_head.ensures;
    }
