use Rattle.std.proofs.Common.{◌∙◌, ◌≡◌, sym, subst, arith}
use Rattle.std.proofs.lemmas.List.{take_all}
use Rattle.fo_image.specs.declared.types.Pointer.TheVariants as pointer
use Rattle.fo_image.specs.Format.{IsScore}
use Rattle.fo_image.proofs.PointerLemmas.{spells_pointer, pointer_is, sixteen_zeros, is_score_from, only_score, only_nil, only_local, nil_found, local_found}
use Rattle.fo_image.proofs.pointers.read_pointer.Goals as goal

pub returns-in-0-clause-found : goal.returns-in-0-clause-found
returns-in-0-clause-found c = nil_found c.args.bytes.now c.u32_at.result c.requires (λ i. omega (arith, c.type_inv.bytes i)) (sym c.is_zero.ensures ∙ c.if-is_zero.true) c.u32_at.ensures c.in-0.is

pub returns-in-0-clause-only : goal.returns-in-0-clause-only
returns-in-0-clause-only c = λ p s. only_nil p c.args.bytes.now (pointer_is p c.args.bytes.now s) s.holds (sixteen_zeros c.args.bytes.now (sym c.is_zero.ensures ∙ c.if-is_zero.true) c.requires) (sym c.u32_at.ensures ∙ c.in-0.is)

pub returns-in_default-clause-found : goal.returns-in_default-clause-found
returns-in_default-clause-found c = local_found c.args.bytes.now c.u32_at.result c.requires (λ i. omega (arith, c.type_inv.bytes i)) (sym c.is_zero.ensures ∙ c.if-is_zero.true) c.u32_at.ensures (omega arith) (omega arith)

pub returns-in_default-clause-only : goal.returns-in_default-clause-only
returns-in_default-clause-only c = λ p s. only_local p c.args.bytes.now c.u32_at.result (pointer_is p c.args.bytes.now s) s.holds (sixteen_zeros c.args.bytes.now (sym c.is_zero.ensures ∙ c.if-is_zero.true) c.requires) c.u32_at.ensures (omega arith)

pub returns-else-is_zero-clause-found : goal.returns-else-is_zero-clause-found
returns-else-is_zero-clause-found c =
    let e : c.score_at.result.0 ≡ c.args.bytes.now = c.score_at.ensures ∙ take_all 20 c.args.bytes.now (omega arith) in
    spells_pointer (pointer.Score c.score_at.result) c.args.bytes.now (subst IsScore (sym e) (is_score_from c.args.bytes.now (sym c.is_zero.ensures ∙ c.if-is_zero.false))) c.requires (sym e)

pub returns-else-is_zero-clause-only : goal.returns-else-is_zero-clause-only
returns-else-is_zero-clause-only c = λ p s.
    let e : c.score_at.result.0 ≡ c.args.bytes.now = c.score_at.ensures ∙ take_all 20 c.args.bytes.now (omega arith) in
    only_score p c.args.bytes.now c.score_at.result (pointer_is p c.args.bytes.now s) (is_score_from c.args.bytes.now (sym c.is_zero.ensures ∙ c.if-is_zero.false)) e
