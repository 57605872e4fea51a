-- A record that moves is never in two leaves.
use Rattle.std.proofs.Common.{◌≡◌, ◌≢◌, inl, inr, ⊎_elim, ℕ, List, Contains, ◌∙◌, subst}
use Rattle.fo_image.specs.declared.record.Record.{Record}
use Rattle.fo_dir_put.specs.of_good.Reading.{leaf_records}
use Rattle.fo_crash.specs.Images.{Image}
use Rattle.fo_crash.specs.Steps.{AddsNothing, AllAre}
use Rattle.fo_dir_put.specs.Names.{Clash, AllApart, MayStand, LeavesRest}
use Rattle.fo_dir_put.proofs.Aparts.{clash_from, rest_but, others_apart, nothing_shows, shows_apart}
use Rattle.fo_dir_move.specs.Moves.{MovesKeys}

-- what is left may be put
pub kept_stands : {b : ℕ} {from_bytes to_bytes without with : List ℕ} {images : Image → Type 0} → MovesKeys from_bytes to_bytes without with → MayStand b without from_bytes images
kept_stands keys = record { each = λ r has. let k = keys.kept r has in inl (k.keyed, k.is_one, k.same.0, k.same.1, k.same.2) }

module _ {from b : ℕ} {now : Image} {old mid : Image → Type 0} (all : AllApart from b old) (present : (image : Image) → old image → old now) (rest : LeavesRest from old mid) (differ : b ≢ from) where
  -- What memory had in the first leaf stands in the other in no image.
  pub none_beside : (p : Record) → Contains (leaf_records ((now from).bytes)) p → (image : Image) → mid image → (q : Record) → Contains (leaf_records ((image b).bytes)) q → Clash p q → ⊥
  none_beside p has image is q two clash =
      let h = rest.each image is in
      all.each now h.0 (present h.0 h.1) h.1 p q has (subst (λ xs. Contains (leaf_records xs) q) (h.2 b differ) two) clash

-- what is put into the other leaf stands in no third
pub moved_stands : {from b : ℕ} {now : Image} {to_bytes without with : List ℕ} {old mid last : Image → Type 0} → AllApart from b old → ((image : Image) → old image → old now) → LeavesRest from old mid → AddsNothing mid last → b ≢ from
    → MovesKeys ((now from).bytes) to_bytes without with → MayStand b with to_bytes last
moved_stands {from = from} {b = b} {now = now} {last = last} all present rest adds differ keys = record {
  each = λ r has. ⊎_elim
      (λ k. inl (k.keyed, k.is_one, k.same.0, k.same.1, k.same.2))
      (λ h. inr (λ image is q two clash. none_beside all present rest differ h.0.keyed h.0.is_one image (adds.each image is) q two (clash_from r h.0.keyed q h.0.same.0 h.0.same.1 h.0.same.2 clash)))
      (keys.moved r has);
}

-- nor in the first, once all is settled
pub settled_stands : {from : ℕ} {now : Image} {from_bytes to_bytes without with : List ℕ} {last : Image → Type 0} → AllAre now last → (now from).bytes ≡ without → MovesKeys from_bytes to_bytes without with → MayStand from with to_bytes last
settled_stands {from = from} settled is keys = record {
  each = λ r has. ⊎_elim
      (λ k. inl (k.keyed, k.is_one, k.same.0, k.same.1, k.same.2))
      (λ h. inr (λ image now_is q two clash. h.1 q (subst (λ xs. Contains (leaf_records xs) q) (((settled.each image now_is).each from).bytes ∙ is) two) clash))
      (keys.moved r has);
}

-- what is put back stands in no other
pub back_stands : {from b : ℕ} {now : Image} {left : List ℕ} {old mid last : Image → Type 0} → AllApart from b old → ((image : Image) → old image → old now) → LeavesRest from old mid → AddsNothing mid last → b ≢ from
    → MayStand b ((now from).bytes) left last
back_stands all present rest adds differ = record { each = λ r has. inr (λ image is q two clash. none_beside all present rest differ r has image (adds.each image is) q two clash) }

-- two leaves over the first half
pub apart_settled : {a b leaf : ℕ} {old mid last : Image → Type 0} → a ≢ leaf → b ≢ leaf → AllApart a b old → LeavesRest leaf old mid → AddsNothing mid last → AllApart a b last
apart_settled one two all rest adds = shows_apart (others_apart one two all (rest_but rest)) (nothing_shows adds)
