use Rattle.std.proofs.Common.{ℕ, List, sym, subst}
use Rattle.fo_arch_hash.specs.Form.{Puts}
use Rattle.fo_arch_hash.proofs.Places.{puts}
use Rattle.fo_arch_hash.proofs.form.put_beside.Goals as goal

pub returns : goal.returns
returns c = subst (λ (new : List ℕ). Puts c.args.from c.args.bytes.now c.args.into.now new) (sym c.put_part.ensures) (puts c.args.from c.args.bytes.now c.args.into.now c.requires)
