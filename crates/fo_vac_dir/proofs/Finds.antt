-- What is chosen of a directory's records is what its names have.
use Rattle.std.proofs.Common.{◌≡◌, ◌∙◌, inl, inr, ℕ, zero, suc, ◌-◌, ◌<◌, Bool, List, Option, None, refl, sym, ap, subst, arith}
use Rattle.fo_image.specs.declared.record.Record.{Record}
use Rattle.fo_crash.specs.Images.{Link}
use Rattle.fo_world.specs.Tree.{first}
use Rattle.fo_good.specs.Reading.{dir_in}
use Rattle.fo_vacput.specs.declared.types.VacEntry.{VacEntry}
use Rattle.fo_vac_open.specs.Tree.{no_image, link_to}
use Rattle.fo_vac_walk.specs.Walk.{Holding, blocks_of, IsSourceOf}
use Rattle.fo_vac_dir.specs.Choice.{least}
use Rattle.fo_vac_dir.specs.Dir.{named_in, names_of, records_of, IsOneOf, Finds}
use Rattle.fo_vac_dir.proofs.Names.{first_in}
use Rattle.fo_vac_dir.proofs.Records.{least_one}

first_of : (h : Holding) (test : List ℕ → ℕ → Bool) (n : ℕ) (entries meta : Link) → first test (names_of h (suc n) entries meta) ≡ named_in (dir_in n (blocks_of h) no_image) (blocks_of h) no_image entries (least test (records_of h meta))
unfolding dir_in
first_of h test n entries meta = first_in test (dir_in n (blocks_of h) no_image) (blocks_of h) no_image entries (records_of h meta)

pub finds : (h : Holding) (test : List ℕ → ℕ → Bool) (levels : ℕ) (entries meta : Link) (found : Option Record) → 0 < levels → found ≡ least test (records_of h meta) → Finds h test levels entries meta found
finds h test zero entries meta found lt is = absurd (omega (arith, lt))
finds h test (suc n) entries meta found lt is =
    let back : n ≡ suc n - 1 = omega arith in
    record {
      is = first_of h test n entries meta ∙ sym (ap (named_in (dir_in n (blocks_of h) no_image) (blocks_of h) no_image entries) is) ∙ ap (λ m. named_in (dir_in m (blocks_of h) no_image) (blocks_of h) no_image entries found) back;
      one = subst (IsOneOf (records_of h meta)) (sym is) (least_one test (records_of h meta));
      below = inr lt;
    }

nothing_below : (h : Holding) (test : List ℕ → ℕ → Bool) (entries meta : Link) → first test (names_of h 0 entries meta) ≡ None
unfolding dir_in
nothing_below h test entries meta = refl

pub none_finds : (h : Holding) (test : List ℕ → ℕ → Bool) (levels : ℕ) (entries meta : Link) → levels ≡ 0 → Finds h test levels entries meta None
none_finds h test levels entries meta none = record {
  is = ap (λ n. first test (names_of h n entries meta)) none ∙ nothing_below h test entries meta;
  one = tt;
  below = inl refl;
}

-- an entry of a top block leads to its source
pub link_source : (e : VacEntry) → IsSourceOf (link_to e) e
link_source e = record { leads = refl; depth = refl; size = refl; kind = λ some. refl }
