-- What a device in memory has.
use Rattle.std.proofs.Common.{◌≡◌, false, true, sym, ◌∙◌, arith}
use Rattle.fo_ports_plain.specs.Fresh.{IsFresh}
use Rattle.fo_ports_plain.specs.Meaning.{Plain, state_of}
use Rattle.test_tree.specs.Linked.{IsInMemory, NoneComes}

pub in_memory : (p : Plain) → IsInMemory (state_of p)
in_memory p = record { told = tt; quiet = λ b j h. h; pins = omega arith }

false_true : false ≡ true → ⊥
false_true e = cc

pub fresh_none : (p : Plain) → IsFresh 400 p → NoneComes (state_of p)
fresh_none p fresh = record { each = λ y x h. false_true (sym (fresh.none y).0 ∙ h.apart) }
