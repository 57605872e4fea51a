-- A name that no other leaf has.
use Rattle.std.proofs.Common.{sym, ◌∙◌, ap, subst}
use Rattle.fo_ports.specs.State.{State}
use Rattle.fo_dir_images.specs.Leaves.{Records, ShowsLeaves}
use Rattle.fo_dir_images.specs.Whole.{PlacesLeaves}
use Rattle.fo_dir_images.specs.Alone.{LacksName, KeepsNamesAlone}

pub stand_alone : (s : State) → ShowsLeaves s → PlacesLeaves s → KeepsNamesAlone s
stand_alone s shows places = record {
  each = λ arena image root count but n c trail name is images named lack lt apart leaf.
      let one = lack.each n lt apart in
      let same = shows.same Records arena image root n one.0 trail is images named (places.leaf Records arena n one.0 trail is one.1 one.2) one.1 in
      let block = shows.one Records arena image root n one.0 c trail same leaf in
      subst (λ xs. LacksName name xs) (sym (one.3.each image images).bytes ∙ ap (λ b. (image b).bytes) block) one.4;
}
