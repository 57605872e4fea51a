use Rattle.std.proofs.Common.{ap, ◌∙◌, append_assoc}
use Rattle.fo_console.proofs.write.checked.Goals as goal

pub returns : goal.returns
returns c = ap (λ v. v.items) c.into_bytes.ensures.value ∙ c.in_ok-format.ensures.ok ∙ simp append_assoc
