-- What a call that reads or writes a format answers.
use Rattle.std.proofs.Common.{◌≡◌, ℕ, List, length, refl, sym, ap, subst, ◌∙◌, Ok, Err}
use Rattle.std.specs.List.{AllByRecursion}
use Rattle.fo_image.specs.Field.{Field, FieldFits, spelling, padded, Spells, Reads}

pub written : {V : Type 0} (size : ℕ) (fields : V → List Field) (Holds : V → Type 0) (v : V) (parts old new : List ℕ)
    → Holds v → AllByRecursion FieldFits (fields v) → parts ≡ spelling (fields v) → length old ≡ size → new ≡ padded (length old) parts → Spells size fields Holds v new
written size fields Holds v parts old new holds fit same len is = record {
  holds = holds;
  fit = fit;
  bytes_are = is ∙ ap (λ n. padded n parts) len ∙ ap (padded size) same;
}

pub found : {V E : Type 0} (size : ℕ) (fields : V → List Field) (Holds : V → Type 0) (refusal : E) (v : V) (parts bytes : List ℕ)
    → length bytes ≡ size → ((w : V) → Spells size fields Holds w bytes → v ≡ w)
    → Holds v → AllByRecursion FieldFits (fields v) → parts ≡ spelling (fields v) → bytes ≡ padded (length bytes) parts → Reads {E = E} (λ w. Spells size fields Holds w bytes) refusal (Ok v)
found size fields Holds refusal v parts bytes len only holds fit same is = record {
  found = written size fields Holds v parts bytes bytes holds fit same len is;
  only = λ w s. ap Ok (only w s);
  refused = tt;
}

-- nothing is spelled, since what alone could be isn't
pub refused : {V E : Type 0} (size : ℕ) (fields : V → List Field) (Holds : V → Type 0) (refusal : E) (v : V) (bytes : List ℕ)
    → ((w : V) → Spells size fields Holds w bytes → v ≡ w) → (Spells size fields Holds v bytes → ⊥) → Reads {E = E} (λ w. Spells size fields Holds w bytes) refusal (Err refusal)
refused {V} {E} size fields Holds refusal v bytes only none =
    let lacks : (w : V) → Spells size fields Holds w bytes → ⊥ = λ w s. none (subst (λ u. Spells size fields Holds u bytes) (sym (only w s)) s) in
    record { found = tt; only = λ w s. absurd (lacks w s); refused = (refl, lacks) }

-- the same bytes, by the parts of the value
pub parts_are : {V : Type 0} (size : ℕ) (fields : V → List Field) (Holds : V → Type 0) (v : V) (parts bytes : List ℕ)
    → length bytes ≡ size → parts ≡ spelling (fields v) → Spells size fields Holds v bytes → bytes ≡ padded (length bytes) parts
parts_are size fields Holds v parts bytes len same s = s.bytes_are ∙ sym (ap (λ n. padded n parts) len ∙ ap (padded size) same)
