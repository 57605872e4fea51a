-- Bytes that are the parts of a value, one after the other.
use Rattle.std.proofs.Common.{◌≡◌, ℕ, List, length, sym, ap, ◌∙◌}
use Rattle.std.specs.List.{AllByRecursion}
use Rattle.fo_image.specs.Field.{Field, FieldFits, spelling, padded, Spells}

pub written : {V : Type 0} (size : ℕ) (fields : V → List Field) (Holds : V → Type 0) (v : V) (parts old new : List ℕ)
    → Holds v → AllByRecursion FieldFits (fields v) → parts ≡ spelling (fields v) → length old ≡ size → new ≡ padded (length old) parts → Spells size fields Holds v new
written size fields Holds v parts old new holds fit same len is = record {
  holds = holds;
  fit = fit;
  bytes_are = is ∙ ap (λ n. padded n parts) len ∙ ap (padded size) same;
}

-- the same bytes, by the parts of the value
pub parts_are : {V : Type 0} (size : ℕ) (fields : V → List Field) (Holds : V → Type 0) (v : V) (parts bytes : List ℕ)
    → length bytes ≡ size → parts ≡ spelling (fields v) → Spells size fields Holds v bytes → bytes ≡ padded (length bytes) parts
parts_are size fields Holds v parts bytes len same s = s.bytes_are ∙ sym (ap (λ n. padded n parts) len ∙ ap (padded size) same)
