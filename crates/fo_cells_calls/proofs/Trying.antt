-- The moments of `number`.
use Rattle.std.proofs.Common.{◌≡◌, ◌⊎◌, inl, inr, ⊎_elim, ℕ, true, false, List, [], ◌∷◌, sym, ◌∙◌, ap, subst}
use Rattle.std.specs.List.{Contains}
use Rattle.fo_image.specs.declared.types.Label.{Label}
use Rattle.fo_crash.specs.declared.place.Place.{Place}
use Rattle.fo_crash.specs.Images.{Content, Image, SameContent}
use Rattle.fo_crash.specs.Steps.{IsOneOf, Passes}
use Rattle.fo_crash.proofs.Sure.{same_content, same_joins, same_if}
use Rattle.fo_cells.specs.Known.{Known, Top, IsLeft, Remains}
use Rattle.fo_cells.specs.Calls.{TriesSuper, SameButSuper}
use Rattle.fo_cells.specs.Safe.{IsSafe}
use Rattle.fo_cells.specs.Laws.{Safe}
use Rattle.fo_cells.proofs.Standing.{stands_top, first_among, seen_is}
use Rattle.fo_cells.proofs.Removing.{shown_from}
use Rattle.fo_cells.proofs.Super.{back, super_adds}
use Rattle.fo_cells.proofs.SafeCalls.{tries_safe}
use Rattle.fo_cells_calls.specs.State.{Rest, state_of}
use Rattle.fo_cells_calls.specs.Laws.{NumberPassed, Turns}
use Rattle.fo_cells_calls.proofs.Leaving.{After, turned}

-- after a trial the super block that was tried is the one doubt
tried : {d : Content} {first trial : Known} {high : ℕ} {doubt : Content → Type 0} → TriesSuper d first trial → IsSafe first high doubt → IsSafe trial high (λ c. Contains (d ∷ []) c)
tried {d} {first} {trial} t safe =
    let s = tries_safe t safe in record {
      kept = s.kept;
      of_device = s.of_device;
      top = s.top;
      old = s.old;
      epochs = s.epochs;
      live = s.live;
      settled = s.settled;
      supers = record {
        versions = λ c among. ⊎_elim
            (λ was. inl (same_if (t.quiet c was ∙ sym t.here)))
            (λ is. inr (subst (λ z. Contains (d ∷ []) z) (sym is) (first_among d [])))
            (t.versions c among);
      };
      waits = s.waits;
      clears = s.clears;
    }

-- an image that has the super block that was tried is left in the end
tried_left : {d : Content} {new trial : Known} → SameButSuper new trial → (new.memory 1 ≡ d) ⊎ Contains (new.versions 1) d → (image : Image) → Remains trial image → SameContent (image 1) d → Remains new image
tried_left {d} {new} {trial} same ends image r is = ⊎_elim
    (λ counts.
    let here : SameContent (image 1) (new.memory 1) = same_joins is (same_if (sym counts)) in record {
      cells = back same image image r.cells true (λ b ne. same_content (image b)) (λ i. inr (here.slots i)) (λ on. here.bytes) (λ on. let no : true ≡ false = on in absurd (cc));
      super = inl here;
    })
    (λ there.
    let among = subst (λ (cs : List Content). Contains cs d) (sym (seen_is new 1 same.settled)) there in record {
      cells = back same image image r.cells false
          (λ b ne. same_content (image b))
          (λ i. inl (record { content = d; among = among; is = sym (is.slots i) }))
          (λ on. let no : false ≡ true = on in absurd (cc))
          (λ off. record { content = d; among = among; is = sym is.bytes });
      super = inr (d, there, is);
    })
    ends

-- an image of the device after some turns is one of those of before the turns
one_of : {first now : Known} {high : ℕ} {doubts : List Content} {image : Image} {labels : ℕ → Label} (tops : ℕ → Type 0) → After first now high doubts → IsLeft now image labels → ((t : ℕ) → tops t → (p : Place) × Contains first.tops (record { at = t; place = p }) × (first.newborn t ≡ false)) → IsOneOf tops (Remains first) image
one_of {first} {now} tops at left stand =
    let o = shown_from tops at.safe left (λ t top. let z = stand t top in (z.0, stands_top (record { at = t; place = z.0 }) (subst (λ (ts : List Top). Contains ts (record { at = t; place = z.0 })) (sym at.tops) z.1), at.newborn t z.2)) in
    record { other = o.other; is = at.images.each o.other o.is; same = o.same }

pub number_passes : (old new : Known) (x y : Rest) (d : Content) (high : ℕ) (doubts : List Content) → Safe old high doubts → NumberPassed d old new x y → Passes x.tops (λ image. (state_of old x).may_leave image ⊎ (state_of new y).may_leave image) x.moments y.moments x.left y.left
number_passes old new x y d high doubts safe p = record {
  later = p.later;
  before = p.before;
  within = λ n image lt le h.
      let (told, (k, labels, row, left)) = p.within n image lt le h in
      ⊎_elim (λ quiet. at_first told k labels image quiet left) (λ after. at_trial told k labels image after left) row;
}
  where
    f : After old p.first high doubts
    f = turned old p.first high doubts safe p.settled

    Both : Image → Type 0
    Both image = (state_of old x).may_leave image ⊎ (state_of new y).may_leave image

    at_first : x.tells → (k : Known) (labels : ℕ → Label) (image : Image) → Turns old k → IsLeft k image labels → IsOneOf x.tops Both image
    at_first told k labels image quiet left =
        let o = one_of x.tops (turned old k high doubts safe quiet) left p.tops in
        record { other = o.other; is = inl (told, o.is); same = o.same }

    at_trial : x.tells → (k : Known) (labels : ℕ → Label) (image : Image) → Turns p.trial k → IsLeft k image labels → IsOneOf x.tops Both image
    at_trial told k labels image after left =
        let o = one_of x.tops (turned p.trial k high (d ∷ []) (tried p.tries f.safe) after) left (λ t top. let z = p.tops t top in (
          z.0,
          subst (λ (ts : List Top). Contains ts (record { at = t; place = z.0 })) (sym (p.tries.same.tops ∙ f.tops)) z.1,
          ap (λ (g : ℕ → Rattle.std.specs.Prelude.Bool). g t) p.tries.same.newborn ∙ f.newborn t z.2,
        )) in record {
          other = o.other;
          is = ⊎_elim
              (λ was. inl (told, f.images.each o.other was))
              (λ tries. inr (p.still told, tried_left p.others p.ends o.other o.is tries.1))
              ((super_adds p.tries).each o.other o.is);
          same = o.same;
        }
