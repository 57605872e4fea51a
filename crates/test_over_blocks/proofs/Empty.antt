-- A source without bytes stands over any blocks.
use Rattle.std.proofs.Common.{◌≡◌, ◌%◌, ◌/◌, ℕ, List, length, Option, Some, None, inl, sym, ap, ◌∙◌, arith}
use Rattle.fo_image.specs.declared.types.Kind.{Kind}
use Rattle.fo_image.specs.declared.types.Kind.TheVariants.{Data}
use Rattle.fo_ports.specs.State.{State}
use Rattle.fo_ports.specs.Sources.{byte_at}
use Rattle.fo_ports_source.specs.Source.{IsEmpty, Over}

none_some : {A : Type 0} (at : ℕ) → None ≡ Some at → A
none_some at e = absurd (cc)

pub empty_over : (s : State) {kind : Kind} {tag rank size t r : ℕ} {leaves : List (Option ℕ)} → IsEmpty kind tag rank size leaves (Data 0) t r 4 → Over s kind tag rank size leaves
empty_over s {size = size} {leaves = leaves} is = record {
  leaf = λ i at e. none_some at (sym (is.no_leaf i) ∙ e);
  apart = λ told i j at e f. none_some at (sym (is.no_leaf i) ∙ e);
  none = λ i past. is.no_leaf i;
  tail = λ told k past. ap (λ o. byte_at s.now o None (k % 8192)) (is.no_leaf (k / 8192));
  within = let none = is.no_bytes in omega (arith, none);
  few = let long : length leaves ≡ 4 = is.as_long in omega (arith, long);
  leaf_kind = inl is.kind_is;
}
