-- Where what is held and what is clean came from.
use Rattle.std.proofs.Common.{◌≡◌, inl, ⊎_elim, ℕ, List, Option, Some, None, Contains, refl, sym, ◌∙◌, subst}
use Rattle.fo_disk.specs.Disk.{Content as Holds}
use Rattle.fo_image.specs.declared.types.Kind.{Kind}
use Rattle.fo_buffers.specs.declared.block.Buffer.{Buffer}
use Rattle.fo_buffers.specs.Held.{Held, held_at}
use Rattle.fo_bring.specs.Holds.{Brought, IsFrom, StaysClean}
use Rattle.fo_bring.proofs.Bringing.{clean_at_once, loaded_here}
use Rattle.fo_mind.specs.Got.{ComesFrom, IsHeldAs, IsSource}
use Rattle.fo_mind.proofs.Getting.{from_held, from_none, source_pins}
use Rattle.fo_mind.proofs.Keeping.{MayBring, Pins}

from_some : (disk : Holds) (at : ℕ) (h : Held) (x : Buffer) → held_at h at ≡ Some x → IsFrom disk at h x.block
from_some disk at h x is = from_held disk at h x.block (subst (λ (o : Option Buffer). IsHeldAs o x.block) (sym is) refl)

source_some : (disk : Holds) (at : ℕ) (h : Held) (o : Option Buffer) (x : Buffer) → IsSource disk at h o → o ≡ Some x → IsFrom disk at h x.block
source_some disk at h o x s e = subst (IsSource disk at h) e s

pub comes_same : (disk : Holds) (at : ℕ) {old new : Held} → held_at new at ≡ held_at old at → StaysClean disk old new → ComesFrom disk at old new
comes_same disk at {old} {new} same clean = record { held = λ x is. from_some disk at old x (sym same ∙ is); clean = clean }

pub comes_at_once : (disk : Holds) (at : ℕ) (h : Held) → ComesFrom disk at h h
comes_at_once disk at h = comes_same disk at refl (clean_at_once disk refl)

pub comes_pins : (disk : Holds) {at : ℕ} {old new : Held} → Pins at old new → ComesFrom disk at old new
comes_pins disk {at} {old} {new} p = record {
  held = λ x is. source_some disk at old (held_at new at) x (source_pins disk p) is;
  clean = record { each = λ q bytes c. inl (subst (λ (es : List (ℕ × List ℕ)). Contains es (q, bytes)) p.clean c) };
}

pub comes_brought : {first count : ℕ} {kind : Kind} (disk : Holds) {at : ℕ} {old new : Held} → held_at old at ≡ None → MayBring first count kind disk at old new → StaysClean disk old new → ComesFrom disk at old new
comes_brought {first} {count} {kind} disk {at} {old} {new} none m clean = record { held = λ x is. by m x is; clean = clean }
  where
    clash : {A : Type 0} (x : Buffer) → None ≡ Some x → A
    clash x e = cc

    by : MayBring first count kind disk at old new → (x : Buffer) → held_at new at ≡ Some x → IsFrom disk at old x.block
    by m x is = ⊎_elim
        (λ (b : Brought first count kind disk at old new). source_some disk at old (held_at new at) x (subst (IsSource disk at old) (sym (loaded_here b.loaded)) (from_none disk at old b.loaded.bytes none b.loaded.found)) is)
        (λ gone. clash x (sym gone ∙ is))
        m
