-- A change leaves a directory one.
use Rattle.std.proofs.Common.{◌≡◌, ℕ, List, length, Bool, Some, None, Result, Ok, Err, sym, ap, ◌∙◌, subst}
use Rattle.std.specs.Prelude.{IfOk, IfSome}
use Rattle.fo_world.specs.Chain.{and_then}
use Rattle.fo_world.specs.declared.error.FileError.{FileError}
use Rattle.fo_world.specs.declared.place.Change.{Change}
use Rattle.fo_world.specs.declared.place.Info.{Info}
use Rattle.fo_world.specs.declared.place.Place.{Place}
use Rattle.fo_world.specs.declared.tree.Node.{Node}
use Rattle.fo_world.specs.Limits.{IsChange, IsName, IsUser}
use Rattle.fo_world.specs.World.{World}
use Rattle.fo_world.specs.Step as step

-- what is told has the mode of what was reached
told_kind : (r : Result (List ℕ × Node) FileError) (w v : World) (at : Place) (mode : ℕ) (i : Info) → and_then {B = Info × World} r (λ f. Ok (step.info_of at f, w)) ≡ Ok (i, v) → step.is_dir_mode mode ≡ step.is_dir_mode i.mode
    → IfOk r (λ f. step.is_dir_mode mode ≡ step.is_dir_mode f.1.mode)
told_kind (Ok f) w v at mode i is same =
    let before : Info × World = (step.info_of at f, w) in
    let after : Info × World = (i, v) in
    let both : before ≡ after = cc in
    same ∙ sym (ap (λ (p : Info × World). step.is_dir_mode p.0.mode) both)
told_kind (Err x) w v at mode i is same = tt

same_world : (r : Result (List ℕ × Node) FileError) (w v : World) (at : Place) (i : Info) → and_then {B = Info × World} r (λ f. Ok (step.info_of at f, w)) ≡ Ok (i, v) → v ≡ w
same_world (Ok f) w v at i is =
    let before : Info × World = (step.info_of at f, w) in
    let after : Info × World = (i, v) in
    let both : before ≡ after = cc in
    sym (ap (λ (p : Info × World). p.1) both)
same_world (Err x) w v at i is = cc

pub kept_kind : (whole : Bool) (w v : World) (at : Place) (mode : ℕ) (i : Info) → step.info whole w at ≡ Ok (i, v) → step.is_dir_mode mode ≡ step.is_dir_mode i.mode
    → IfOk (step.reached whole v at) (λ f. step.is_dir_mode mode ≡ step.is_dir_mode f.1.mode)
kept_kind whole w v at mode i is same =
    subst (λ (u : World). IfOk (step.reached whole u at) (λ f. step.is_dir_mode mode ≡ step.is_dir_mode f.1.mode)) (sym (same_world (step.reached whole w at) w v at i is))
    (told_kind (step.reached whole w at) w v at mode i is same)

pub changes : (honest : Type 0) (whole later : Bool) (w v : World) (at : Place) (what new : Change) (mode : ℕ) (i : Info) → new ≡ record what { mode = Some mode } → IfSome what.name IsName → IfSome what.gid IsUser → (length at.trail ≡ 0 → what.name ≡ None)
    → later ≡ whole → (honest → step.info whole w at ≡ Ok (i, v)) → step.is_dir_mode mode ≡ step.is_dir_mode i.mode → IsChange honest later v at new
changes honest whole later w v at what new mode i e name gid root stays told same =
    subst (λ (c : Change). IsChange honest later v at c) (sym e) (record {
      name = name;
      gid = gid;
      root = root;
      kind = λ h. subst (λ (b : Bool). IfOk (step.reached b v at) (λ f. step.is_dir_mode mode ≡ step.is_dir_mode f.1.mode)) (sym stays) (kept_kind whole w v at mode i (told h) same);
    })
