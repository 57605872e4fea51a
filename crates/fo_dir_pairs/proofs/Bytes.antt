-- Bytes of a leaf are put: each record stood there, or has its pair in memory and in each image with them.
use Rattle.std.proofs.Common.{◌≡◌, ◌⊎◌, inl, inr, ⊎_elim, ℕ, ◌/◌, List, Contains, sym, ◌∙◌, ap, subst}
use Rattle.std.proofs.lemmas.Bool.{cases_eq}
use Rattle.fo_image.specs.declared.record.Record.{Record}
use Rattle.fo_good.specs.Reading.{leaf_records}
use Rattle.fo_crash.specs.Images.{Content, Image, with_bytes}
use Rattle.fo_crash.specs.Steps.{AddsBytes}
use Rattle.fo_crash.specs.Spots.{Spot, FoundAt}
use Rattle.fo_crash.proofs.Updates.{bytes_other, bytes_here, bytes_slot}
use Rattle.fo_ports.specs.State.{State}
use Rattle.fo_ports.specs.Shown.{active}
use Rattle.fo_dir_put.specs.Paired.{StoodAs}
use Rattle.fo_dir_put.proofs.Once.{found_on}
use Rattle.fo_dir_pairs.specs.Pairs.{HasFirst, HasPairAt, ShowsRecord, PairsStand, entries_spot}
use Rattle.fo_dir_pairs.proofs.Entries.{both_stood}
use Rattle.fo_dir_pairs.proofs.Finding.{named_on, pair_on}

-- A record has its pair in memory and in this image, wherever the leaf is found in the image.
pub record IsBacked (s : State) (leaf : ℕ) (image : Image) (r : Record) : Type 0 where
  pub here : (p : Spot) → FoundAt active image leaf p → HasPairAt image p r
  pub memory : (p : Spot) → FoundAt active image leaf p → HasPairAt s.now p r

pair_stood : {image : Image} {p : Spot} {r : Record} {bytes : List ℕ} → (st : StoodAs bytes r) → HasPairAt image p st.before → HasPairAt image p r
pair_stood {image} {p} {r} st h = record {
  block = h.block;
  found = subst (λ k. FoundAt active image h.block (entries_spot p (k / 102))) st.slot h.found;
  both = both_stood {e = h.block} {x = image} {r = r} {q = st.before} st.slot st.generation st.number st.dir h.both;
}

-- what memory had put back
abbrev before : State → ℕ → Image → Image
before old leaf image = with_bytes image leaf ((old.now leaf).bytes)

module _ (old : State) (leaf : ℕ) where
  back : (image : Image) (a i : ℕ) → (image a).slot i ≡ (before old leaf image a).slot i
  back image a i = sym (bytes_slot image leaf ((old.now leaf).bytes) a i)

  -- an image with the new bytes shows a record of them, or one that the image before shows
  shown : (bytes : List ℕ) (image : Image) (p : Spot) (r : Record) → (image leaf).bytes ≡ bytes → ShowsRecord image p r → (FoundAt active image leaf p × Contains (leaf_records bytes) r) ⊎ ShowsRecord (before old leaf image) p r
  shown bytes image p r here s = ⊎_elim
      (λ e. inl (subst (λ b. FoundAt active image b p) e s.found, subst (λ xs. Contains (leaf_records xs) r) (ap (λ b. (image b).bytes) e ∙ here) s.listed))
      (λ ne. inr (record {
        of = s.of;
        block = s.block;
        found = found_on (back image) s.found;
        listed = subst (λ xs. Contains (leaf_records xs) r) (ap (λ (c : Content). c.bytes) (sym (bytes_other image leaf ((old.now leaf).bytes) s.block ne))) s.listed;
        first = named_on (back image) s.first;
      }))
      (cases_eq s.block leaf)

  -- the image before shows the record as it stood
  stood : (image : Image) (p : Spot) (r : Record) → ShowsRecord image p r → FoundAt active image leaf p → (st : StoodAs ((old.now leaf).bytes) r) → ShowsRecord (before old leaf image) p st.before
  stood image p r s found st = record {
    of = s.of;
    block = leaf;
    found = found_on (back image) found;
    listed = subst (λ xs. Contains (leaf_records xs) st.before) (sym (bytes_here image leaf ((old.now leaf).bytes))) st.is_one;
    first = named_on (back image) s.first;
  }

-- each record of the bytes stood, or is backed in each image with them
abbrev pub AreBacked : State → ℕ → List ℕ → (Image → Type 0) → Type 0
AreBacked old leaf bytes P = (r : Record) → Contains (leaf_records bytes) r → StoodAs ((old.now leaf).bytes) r ⊎ ((image : Image) → old.may_leave (before old leaf image) → P image → IsBacked old leaf image r)

module _ (old : State) (leaf : ℕ) (bytes : List ℕ) (P : Image → Type 0) (backed : AreBacked old leaf bytes P) (stand : PairsStand old) where
  here : (image : Image) (p : Spot) (r : Record) → (image leaf).bytes ≡ bytes → old.may_leave (before old leaf image) → P image → ShowsRecord image p r → HasPairAt image p r
  here image p r put was beside s = ⊎_elim
      (λ h. ⊎_elim
      (λ st. pair_on (λ a i. sym (back old leaf image a i)) (pair_stood st ((stand.each (before old leaf image) was).each p st.before (stood old leaf image p r s h.0 st))))
      (λ b. (b image was beside).here p h.0)
      (backed r h.1))
      (λ h. pair_on (λ a i. sym (back old leaf image a i)) ((stand.each (before old leaf image) was).each p r h))
      (shown old leaf bytes image p r put s)

  memory : (image : Image) (p : Spot) (r : Record) → (image leaf).bytes ≡ bytes → old.may_leave (before old leaf image) → P image → ShowsRecord image p r → HasFirst old.now p → HasPairAt old.now p r
  memory image p r put was beside s first = ⊎_elim
      (λ h. ⊎_elim
      (λ st. pair_stood st (stand.memory (before old leaf image) p st.before was (stood old leaf image p r s h.0 st) first))
      (λ b. (b image was beside).memory p h.0)
      (backed r h.1))
      (λ h. stand.memory (before old leaf image) p r was h first)
      (shown old leaf bytes image p r put s)

  pub bytes_stand : (new : State) → AddsBytes old.now leaf bytes P old.may_leave new.may_leave → ((b i : ℕ) → (new.now b).slot i ≡ (old.now b).slot i) → PairsStand new
  bytes_stand new adds slots = record {
    each = λ image is. record {
      each = λ p r s. ⊎_elim (λ was. (stand.each image was).each p r s) (λ h. here image p r h.0 h.1 h.2 s) (adds.each image is);
    };
    memory = λ image p r is s first. let old_first = named_on slots first in pair_on (λ a i. sym (slots a i))
        (⊎_elim (λ was. stand.memory image p r was s old_first) (λ h. memory image p r h.0 h.1 h.2 s old_first) (adds.each image is));
  }
