-- What a device in memory keeps.
use Rattle.std.proofs.Common.{◌≡◌, ◌<◌, false, true, sym, subst, ◌∙◌, arith}
use Rattle.std.specs.Prelude.{Result, Ok, Err, IfOk}
use Rattle.fo_base.specs.declared.memory.Memory.{Memory}
use Rattle.fo_ports_plain.specs.declared.plain.PlainBlocks.{PlainBlocks}
use Rattle.fo_ports_plain.specs.Epochs.{Begins}
use Rattle.fo_ports_plain.specs.Fresh.{IsFresh}
use Rattle.fo_ports_plain.specs.Meaning.{Plain, PlainKeeps, state_of}
use Rattle.fo_ports_plain.specs.Parts.{parts}
use Rattle.test_names.specs.Root.{HasBlocks, IsInMemory, NoneComes}

pub in_memory : (p : Plain) → IsInMemory (state_of p)
in_memory p = record { told = tt; seals = λ b. tt; quiet = λ b j h. h; pins = omega arith }

pub blocks_stay : (old new : Plain) → PlainKeeps old new → HasBlocks 1003 (state_of old) → HasBlocks 1003 (state_of new)
blocks_stay old new keeps has = record { each = λ b past few. (past, subst (λ n. b < n) (sym keeps.as_long) (has.each b past few).1) }

pub blocks_begin : (old new : Plain) → Begins (state_of old) (state_of new) → HasBlocks 1003 (state_of old) → HasBlocks 1003 (state_of new)
blocks_begin old new begins has = record { each = λ b past few. (begins.marks b).0.1 (has.each b past few) }

pub none_begin : (old new : Plain) → Begins (state_of old) (state_of new) → NoneComes (state_of old) → NoneComes (state_of new)
none_begin old new begins none = record { each = λ y x h. none.each y x (((begins.apart y).1 x).0 h) }

false_true : false ≡ true → ⊥
false_true e = cc

pub fresh_blocks : (p : Plain) → IsFresh 1000 p → HasBlocks 1003 (state_of p)
fresh_blocks p fresh = record { each = λ b past few. (past, let long = fresh.as_long in omega (arith, few, long)) }

pub fresh_none : (p : Plain) → IsFresh 1000 p → NoneComes (state_of p)
fresh_none p fresh = record { each = λ y x h. false_true (sym (fresh.none y).0 ∙ h.apart) }

pub device_blocks : (r : Result PlainBlocks Memory) → IfOk r (λ b. IsFresh 1000 (parts b)) → IfOk r (λ b. HasBlocks 1003 (state_of (parts b)))
device_blocks (Ok b) fresh = fresh_blocks (parts b) fresh
device_blocks (Err why) fresh = tt

pub device_none : (r : Result PlainBlocks Memory) → IfOk r (λ b. IsFresh 1000 (parts b)) → IfOk r (λ b. NoneComes (state_of (parts b)))
device_none (Ok b) fresh = fresh_none (parts b) fresh
device_none (Err why) fresh = tt
