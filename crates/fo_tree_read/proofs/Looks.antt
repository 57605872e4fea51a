-- Calls that only look, one after another, and why they are refused.
use Rattle.std.proofs.Common.{ℕ, Result, Ok, Err, IfErr, inl, inr, ⊎_elim, sym, ◌∙◌}
use Rattle.fo_looks.specs.of_image.declared.types.Score.{Score}
use Rattle.fo_looks.specs.of_ports.declared.error.BlockError.{BlockError}
use Rattle.fo_looks.specs.of_ports.declared.error.BlockError.TheVariants.{Full, Damaged, Fault, Arena, Memory}
use Rattle.fo_looks.specs.of_ports.State.{State, KeepsAll}
use Rattle.fo_looks.specs.of_ports.Sources.{Lacks}
use Rattle.fo_looks.proofs.Looks.{rose_later}
use Rattle.fo_tree_read.specs.Tree.{Failed, Refused}

lacks_same : {named earlier : Score → ℕ → Type 0} {a b : State} → KeepsAll a b → ((score : Score) (kind : ℕ) → named score kind → earlier score kind) → Lacks named b.held → Lacks earlier a.held
lacks_same all wider l = (l.0, l.1, wider l.0 l.1 l.2, sym (all.same_held l.0 l.1) ∙ l.3)

-- a refusal after calls that looked has its cause, too
refused_later : (a b c : State) (named earlier : Score → ℕ → Type 0) → KeepsAll a b → ((score : Score) (kind : ℕ) → named score kind → earlier score kind) → (e : BlockError) → Refused b c named e → Refused a c earlier e
refused_later a b c named earlier all wider Full cause = cause
refused_later a b c named earlier all wider (Damaged at) cause = ⊎_elim
    (λ d. inl (λ told. d.0 (all.still_tells.1 told), (all.same_blocks at).0 d.1))
    (λ d. inr (d.0, λ told. lacks_same all wider (d.1 (all.still_tells.1 told))))
    cause
refused_later a b c named earlier all wider (Fault which) cause = rose_later a.faults b.faults c.faults all.more_faults cause
refused_later a b c named earlier all wider (Arena which) cause = rose_later a.arena_faults b.arena_faults c.arena_faults all.more_arena_faults cause
refused_later a b c named earlier all wider Memory cause = cause

failed_later : (a b c : State) → KeepsAll a b → (e : BlockError) → Failed b c e → Failed a c e
failed_later a b c all Full cause = cause
failed_later a b c all (Damaged at) cause = (λ told. cause.0 (all.still_tells.1 told), (all.same_blocks at).0 cause.1)
failed_later a b c all (Fault which) cause = rose_later a.faults b.faults c.faults all.more_faults cause
failed_later a b c all (Arena which) cause = cause
failed_later a b c all Memory cause = cause

failed_refused : (a b : State) (named : Score → ℕ → Type 0) (e : BlockError) → Failed a b e → Refused a b named e
failed_refused a b named Full cause = cause
failed_refused a b named (Damaged at) cause = inl cause
failed_refused a b named (Fault which) cause = cause
failed_refused a b named (Arena which) cause = absurd cause
failed_refused a b named Memory cause = cause

-- the same of results
pub any_refused_later : {T : Type 0} (a b c : State) (named earlier : Score → ℕ → Type 0) → KeepsAll a b → ((score : Score) (kind : ℕ) → named score kind → earlier score kind) → (r : Result T BlockError) → IfErr r (Refused b c named) → IfErr r (Refused a c earlier)
any_refused_later a b c named earlier all wider (Ok x) cause = cause
any_refused_later a b c named earlier all wider (Err e) cause = refused_later a b c named earlier all wider e cause

pub any_failed_later : {T : Type 0} (a b c : State) → KeepsAll a b → (r : Result T BlockError) → IfErr r (Failed b c) → IfErr r (Failed a c)
any_failed_later a b c all (Ok x) cause = cause
any_failed_later a b c all (Err e) cause = failed_later a b c all e cause

pub any_failed_refused : {T : Type 0} (a b : State) (named : Score → ℕ → Type 0) (r : Result T BlockError) → IfErr r (Failed a b) → IfErr r (Refused a b named)
any_failed_refused a b named (Ok x) cause = cause
any_failed_refused a b named (Err e) cause = failed_refused a b named e cause
