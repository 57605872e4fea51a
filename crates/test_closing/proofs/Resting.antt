-- Minds at rest.
use Rattle.std.proofs.Common.{◌≡◌, ℕ, zero, suc, true, false, List, [], replicate, slice_index_or, Option, Result, Ok, Err, refl, sym, ap, ◌∙◌, subst}
use Rattle.std.specs.Option.{option_map_or}
use Rattle.std.specs.Result.{OnOk, OnErr, IfOk}
use Rattle.fo_image.specs.declared.types.Super.{Super}
use Rattle.fo_buffers.specs.declared.block.Buffer.{Buffer}
use Rattle.fo_buffers.specs.Held.{Held, held_at, is_pinned}
use Rattle.fo_order.specs.declared.marks.Flags.{Flags}
use Rattle.fo_order.specs.Flags.{quiet}
use Rattle.fo_order.specs.Keeps.{Turns}
use Rattle.fo_order.specs.Turns.{flag_at}
use Rattle.fo_labels.specs.Region.{Region}
use Rattle.fo_mind.specs.declared.mind.Mind.{Mind}
use Rattle.fo_mind.specs.MindParts.{parts}
use Rattle.fo_mind.specs.Opened.{opened}
use Rattle.fo_mind.specs.Parts.{Parts, count_of}
use Rattle.fo_mind.specs.Roomed.{Grown}
use Rattle.fo_mind.proofs.Starting.{none}
use Rattle.fo_closing.specs.Rest.{AtRest}

never : {A : Type 0} → false ≡ true → A
never e = cc

calm : (n b : ℕ) → slice_index_or (replicate n quiet) b quiet ≡ quiet
calm zero b = refl
calm (suc n) zero = refl
calm (suc n) (suc b) = calm n b

rest_opened : (region : Region) (one : Super) (bytes : List ℕ) → AtRest (opened region one bytes)
rest_opened region one bytes = record {
  clean = λ b le. ap (λ (f : Flags). f.dirty) (calm (count_of region) b);
  settled = λ b le. ap (λ (f : Flags). f.tried) (calm (count_of region) b);
  free = λ b e. never (sym (ap (λ (o : Option Buffer). option_map_or is_pinned o false) (none b)) ∙ e);
  none = refl;
  sure = refl;
}

pub rest_small : {E : Type 0} (r : Result Mind E) (region : Region) (one : Super) (bytes : List ℕ) → IfOk r (λ m. parts m [] 0 ≡ opened region one bytes) → IfOk r (λ m. AtRest (parts m [] 0))
rest_small (Ok m) region one bytes e = subst AtRest (sym e) (rest_opened region one bytes)
rest_small (Err x) region one bytes e = tt

pub rest_grown : {p q : Parts} → Grown p q → AtRest p → AtRest q
rest_grown {p} {q} g rest = subst AtRest (sym g.rest) (record {
  clean = λ b le. ap (λ (t : Turns). (flag_at t b).dirty) g.turns.same ∙ rest.clean b le;
  settled = λ b le. ap (λ (t : Turns). (flag_at t b).tried) g.turns.same ∙ rest.settled b le;
  free = λ b e. rest.free b (sym (ap (λ (h : Held). option_map_or is_pinned (held_at h b) false) g.held.same) ∙ e);
  none = rest.none;
  sure = rest.sure;
})

pub count_grown : {p q : Parts} → Grown p q → count_of q.region ≡ count_of p.region
count_grown g = ap (λ (x : Parts). count_of x.region) g.rest

pub by_result : {T E A B C : Type 0} (r : Result T E) → OnOk r A → OnErr r B → (A → C) → (B → C) → C
by_result (Ok x) a b f g = f a
by_result (Err e) a b f g = g b
