-- What the steps of a cache add to the images, where the device tells what it holds.
use Rattle.std.proofs.Common.{◌≡◌, inl, inr, ⊎_elim, ℕ, List, subst}
use Rattle.fo_crash.specs.declared.slot.Slot.{Slot}
use Rattle.fo_crash.specs.Images.{Content, Image}
use Rattle.fo_crash.specs.Steps.{AddsNothing, AddsSlot, AddsBytes, AddsBlock, AddsSuper, Fills, HasBytes, AllAre, IsSure, HasSuper}
use Rattle.fo_cells.specs.Known.{Known, Remains}

-- the images of a device that tells
abbrev pub Told : Type 0 → Known → Image → Type 0
Told tells k image = tells × Remains k image

pub told_nothing : {T U : Type 0} {old new : Known} → (U → T) → AddsNothing (Remains old) (Remains new) → AddsNothing (Told T old) (Told U new)
told_nothing tells adds = record { each = λ image h. (tells h.0, adds.each image h.1) }

pub told_slot : {T U : Type 0} {at i : ℕ} {s : Slot} {b c : Image → Type 0} {old new : Known} → (U → T) → ((image : Image) → b image → c image) → AddsSlot old.memory at i s b (Remains old) (Remains new) → AddsSlot old.memory at i s c (Told T old) (Told U new)
told_slot tells beside adds = record { each = λ image h. ⊎_elim (λ was. inl (tells h.0, was)) (λ n. inr (n.0, (tells h.0, n.1), beside image n.2)) (adds.each image h.1) }

pub told_bytes : {T U : Type 0} {at : ℕ} {bytes : List ℕ} {b c : Image → Type 0} {old new : Known} → (U → T) → ((image : Image) → b image → c image) → AddsBytes old.memory at bytes b (Remains old) (Remains new) → AddsBytes old.memory at bytes c (Told T old) (Told U new)
told_bytes tells beside adds = record { each = λ image h. ⊎_elim (λ was. inl (tells h.0, was)) (λ n. inr (n.0, (tells h.0, n.1), beside image n.2)) (adds.each image h.1) }

pub told_block : {T U : Type 0} {tops : ℕ → Type 0} {at : ℕ} {c : Content} {old new : Known} → (U → T) → AddsBlock tops at c (Remains old) (Remains new) → AddsBlock tops at c (Told T old) (Told U new)
told_block tells adds = record {
  apart = λ image h. adds.apart image h.1;
  holds = λ image h. adds.holds image h.1;
  before = λ image h. let b = adds.before image h.1 in (b.0, (tells h.0, b.1));
}

pub told_super : {T U : Type 0} {b c : Image → Type 0} {old new : Known} → (U → T) → ((image : Image) → b image → c image) → AddsSuper old.memory b (Remains old) (Remains new) → AddsSuper old.memory c (Told T old) (Told U new)
told_super tells beside adds = record { each = λ image h. ⊎_elim (λ was. inl (tells h.0, was)) (λ n. inr ((tells h.0, n.0), beside image n.1)) (adds.each image h.1) }

pub told_fills : {T U : Type 0} {slots : ℕ → ℕ → Type 0} {old new : Known} → (U → T) → Fills slots old.memory (Remains old) (Remains new) → Fills slots old.memory (Told T old) (Told U new)
told_fills tells fills = record { each = λ image other h c. (tells h.0, fills.each image other h.1 c) }

pub told_have : {U : Type 0} {now : Image} {leaf : ℕ} {new : Known} → HasBytes now leaf (Remains new) → HasBytes now leaf (Told U new)
told_have all = record { each = λ image h. all.each image h.1 }

pub told_all : {U : Type 0} {now : Image} {new : Known} → AllAre now (Remains new) → AllAre now (Told U new)
told_all all = record { each = λ image h. all.each image h.1 }

pub told_sure : {U : Type 0} {now : Image} {at : ℕ} {new : Known} → IsSure now at (Remains new) → IsSure now at (Told U new)
told_sure all = record { each = λ image h. all.each image h.1 }

pub told_supers : {U : Type 0} {now : Image} {doubt : Content → Type 0} {new : Known} → HasSuper now doubt (Remains new) → HasSuper now doubt (Told U new)
told_supers all = record { each = λ image h. all.each image h.1 }

-- the bytes that were put are those that memory has
pub bytes_are : {now : Image} {at : ℕ} {b c : List ℕ} {beside old new : Image → Type 0} → b ≡ c → AddsBytes now at b beside old new → AddsBytes now at c beside old new
bytes_are {now} {at} {beside = beside} {old = old} {new = new} e adds = subst (λ x. AddsBytes now at x beside old new) e adds
