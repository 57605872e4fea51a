-- An image that finds what a paired one finds is paired.
use Rattle.std.proofs.Common.{inl, ⊎_elim, ℕ, suc, ◌*◌, ◌/◌, ◌%◌, List, Contains, refl, sym, ◌∙◌, ap, subst}
use Rattle.fo_image.specs.declared.record.Record.{Record}
use Rattle.fo_good.specs.Reading.{leaf_records}
use Rattle.fo_crash.specs.declared.slot.Slot.{Slot}
use Rattle.fo_crash.specs.declared.slot.Slot.TheVariants.{Entry as Head}
use Rattle.fo_crash.specs.Images.{Image}
use Rattle.fo_crash.specs.Names.{IsInUse, SameUse}
use Rattle.fo_crash.specs.Spots.{Spot}
use Rattle.fo_ports.specs.State.{State}
use Rattle.fo_alike.specs.Like.{FindsAll, IsOfEntries, SameUses, NoneInUse, IsLike}
use Rattle.fo_dir_put.proofs.Paired.{first_used}
use Rattle.fo_dir_pairs.specs.Pairs.{IsNamed, HasPairAt, ShowsRecord, IsPaired, PairsStand, entries_spot}
use Rattle.fo_dir_pairs.proofs.Entries.{use_back, both_use, used_as, trail_same, none_listed}

-- a source that an entry in use names is so in an image that has it
pub named_from : {image other : Image} {trail : List ℕ} {tag : ℕ} → FindsAll IsOfEntries SameUses NoneInUse image other → IsNamed image trail tag → IsNamed other trail tag
named_from {image} {other} {trail} {tag} from n = ⊎_elim
    (λ h. let u = used_as n.entry ((other h.0).slot n.slot) (subst (λ (s : Slot). SameUse s ((other h.0).slot n.slot)) n.is (h.2 n.slot)) in record {
      block = h.0;
      at = n.at;
      slot = n.slot;
      entry = u.entry;
      found = h.1;
      holds = n.holds;
      within = n.within;
      is = u.is;
      used = (u.active ∙ n.used.0, u.dir ∙ n.used.1);
      trail_is = trail_same n.at n.slot (Head u.entry) (Head n.entry) ∙ n.trail_is;
      tag_is = ap suc u.tag ∙ n.tag_is;
    })
    (λ bare. absurd (bare n.slot n.entry.generation (subst (λ (s : Slot). IsInUse s n.entry.generation) (sym n.is) (n.used.0, refl))))
    (from.each n.at n.block n.holds n.found)

pub shows_from : {image other : Image} {p : Spot} {r : Record} → IsLike image other → ShowsRecord image p r → ShowsRecord other p r
shows_from {image} {other} {p} {r} like s = ⊎_elim
    (λ h. record { of = s.of; block = h.0; found = h.1; listed = subst (λ xs. Contains (leaf_records xs) r) h.2 s.listed; first = named_from like.from s.first })
    (λ zero. absurd (none_listed ((image s.block).bytes) r zero s.listed))
    (like.records.each p s.block s.of s.found)

pub pair_onto : {image other : Image} {p : Spot} {r : Record} → FindsAll IsOfEntries SameUses NoneInUse other image → HasPairAt other p r → HasPairAt image p r
pair_onto {image} {other} {p} {r} onto h = ⊎_elim
    (λ k. record { block = k.0; found = k.1; both = both_use {d = h.block} {e = k.0} {x = other} {y = image} (λ i. use_back ((other h.block).slot i) ((image k.0).slot i) (k.2 i)) h.both })
    (λ bare. absurd (bare (2 * (r.slot % 102)) r.generation (first_used ((other h.block).slot (2 * (r.slot % 102))) r h.both.first)))
    (onto.each (entries_spot p (r.slot / 102)) h.block (inl refl) h.found)

pub paired_like : {image other : Image} → IsLike image other → IsPaired other → IsPaired image
paired_like like paired = record { each = λ p r s. pair_onto like.onto (paired.each p r (shows_from like s)) }

-- Each new image is like an old one, and the new memory like the old memory.
pub stand_like : (old new : State) → ((image : Image) → new.may_leave image → (other : Image) × old.may_leave other × IsLike image other) → IsLike new.now old.now → PairsStand old → PairsStand new
stand_like old new images now stand = record {
  each = λ image is. let h = images image is in paired_like h.2 (stand.each h.0 h.1);
  memory = λ image p r is s first. let h = images image is in pair_onto now.onto (stand.memory h.0 p r h.1 (shows_from h.2 s) (named_from now.from first));
}
