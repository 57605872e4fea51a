-- How a run of calls goes on.
use Rattle.std.proofs.Common.{◌≡◌, ◌⊎◌, ⊎_elim, ℕ, ◌<◌, Bool, List, [], ◌∷◌, ◌++◌, length, get_or, refl, sym, ◌∙◌, ap, subst, arith, append_assoc}
use Rattle.std.proofs.lemmas.List.Elements.{All-nil, All-cons, All-append, All-weaker}
use Rattle.std.specs.Prelude.{Result, Ok, Err}
use Rattle.fo_disk.specs.Disk.{Block, Content, Tells, AtNewest, IsContent, IsNewest, EachImage, Adds, Appends, Settles, Writes, Syncs, Passes, entered, Since, SinceBoth, Runs}

at_newest : (Q : Content → Type 0) (now : Content) (size : ℕ) (moments : List Content) → AtNewest (λ c. (c ≡ now) × IsContent size c) moments → (Tells moments → Q now) → AtNewest Q moments
at_newest Q now size [] newest here = tt
at_newest Q now size (c ∷ past) newest here = subst Q (sym newest.0) (here (omega arith))

-- A disk that tells its moments tells what it holds.
pub told_content : {size : ℕ} {now : Content} {moments : List Content} → IsNewest size now moments → Tells moments → IsContent size now
told_content {size} {now} {moments} n told = content moments n.newest told
  where
    content : (moments : List Content) → AtNewest (λ c. (c ≡ now) × IsContent size c) moments → Tells moments → IsContent size now
    content [] newest told = absurd (omega arith)
    content (c ∷ past) newest told = subst (IsContent size) newest.0 newest.1

-- before the first call
pub started : {size : ℕ} {now : Content} {moments : List Content} (P : List Block → Type 0) → IsNewest size now moments → (Tells moments → EachImage P now) → Since moments moments P
started {size} {now} {moments} P n here = record {
  start = at_newest (EachImage P) now size moments n.newest here;
  added = [];
  follows = refl;
  told = λ t. t;
  each = All-nil (EachImage P);
}

stays : {old mid new : List Content} {P : List Block → Type 0} → Since old mid P → new ≡ mid → Since old new P
stays {old} {mid} {new} {P} since same = subst (λ (ms : List Content). Since old ms P) (sym same) since

enters : {old : List Content} {P : List Block → Type 0} (now : Content) (mid : List Content) → Since old mid P → (Tells mid → EachImage P now) → Since old (entered now mid) P
enters now [] since here = since
enters {old} {P} now (content ∷ past) since here = record {
  start = since.start;
  added = now ∷ since.added;
  follows = ap (λ (ms : List Content). now ∷ ms) since.follows;
  told = λ t. since.told (omega arith);
  each = All-cons (EachImage P) now since.added (here (omega arith)) since.each;
}

-- one call more, after which each image has P
pub goes_on : {before now : Content} {old mid new : List Content} {P : List Block → Type 0} → Since old mid P → Passes before now mid new → (Tells old → EachImage P now) → Since old new P
goes_on {before} {now} {old} {mid} {new} {P} since passes here =
    ⊎_elim (λ is. stays (enters now mid since (λ t. here (since.told t))) is) (λ same. stays since same.1) passes.either

-- what holds of each moment holds of the last
pub ended : {old new : List Content} {P : List Block → Type 0} → Since old new P → AtNewest (EachImage P) new
ended {old} {new} {P} since = subst (λ (ms : List Content). AtNewest (EachImage P) ms) (sym since.follows) (last since.added since.each)
  where
    last : (added : List Content) → ((k : ℕ) (d : Content) → k < length added → EachImage P (get_or added k d)) → AtNewest (EachImage P) (added ++ old)
    last [] each = since.start
    last (content ∷ added) each = each 0 content (omega arith)

-- one call more that changed nothing
pub unchanged : {size : ℕ} {before now : Content} {old mid new : List Content} {P : List Block → Type 0} → Since old mid P → IsNewest size before mid → Passes before now mid new → now ≡ before → Since old new P
unchanged {size} {before} {now} {old} {mid} {new} {P} since newest passes same = ⊎_elim
    (λ is. stays (enters now mid since (held mid newest.newest (ended since))) is)
    (λ both. stays since both.1)
    passes.either
  where
    held : (mid : List Content) → AtNewest (λ c. (c ≡ before) × IsContent size c) mid → AtNewest (EachImage P) mid → Tells mid → EachImage P now
    held [] n e t = absurd (omega arith)
    held (content ∷ past) n e t = subst (EachImage P) (n.0 ∙ sym same) e

-- one run after another
pub joins : {old mid new : List Content} {P : List Block → Type 0} → Since old mid P → Since mid new P → Since old new P
joins {old} {mid} {new} {P} first second = record {
  start = first.start;
  added = second.added ++ first.added;
  follows = second.follows ∙ ap (λ (ms : List Content). second.added ++ ms) first.follows ∙ sym (append_assoc second.added first.added old);
  told = λ t. first.told (second.told t);
  each = All-append (EachImage P) second.added first.added second.each first.each;
}

pub weaker : {old new : List Content} {P Q : List Block → Type 0} → Since old new P → ((image : List Block) → P image → Q image) → Since old new Q
weaker {old} {new} {P} {Q} since implies = record {
  start = start old since.start;
  added = since.added;
  follows = since.follows;
  told = since.told;
  each = All-weaker (EachImage P) (EachImage Q) (λ c each i image. implies i (each i image)) since.added since.each;
}
  where
    start : (old : List Content) → AtNewest (EachImage P) old → AtNewest (EachImage Q) old
    start [] at = at
    start (c ∷ past) at = λ i image. implies i (at i image)

-- two disks: a run of the second alone comes before, and a run of the first alone comes after
pub after_second : {held holds earlier : Content} {first_old first_mid first_new second_old second_mid second_new : List Content} {P : List Block → List Block → Type 0} → SinceBoth held earlier first_old first_mid second_old second_mid P → SinceBoth held holds first_old first_new second_mid second_new P → SinceBoth held holds first_old first_new second_old second_new P
after_second a b = record { second = joins a.second b.second; first = b.first }

pub before_first : {held holds : Content} {first_old first_mid first_new second_old second_new : List Content} {P : List Block → List Block → Type 0} → SinceBoth held holds first_old first_mid second_old second_new P → Since first_mid first_new (λ image. 0 < length holds → EachImage (λ other. P image other) holds) → SinceBoth held holds first_old first_new second_old second_new P
before_first a b = record { second = a.second; first = joins a.first b }

-- a run with one event more
pub runs-push : {W E : Type 0} (goes : W → E → W → Type 0) (good : W → E → W → List Block → Type 0) (events : List E) (event : E) (first mid last : W) (old between new : List Content) → Runs goes good events first mid old between → goes mid event last → Since between new (good mid event last) → Runs goes good (events ++ event ∷ []) first last old new
runs-push {W} goes good [] event first mid last old between new run step since = (
  last,
  new,
  subst (λ (w : W). goes w event last) run.0 step,
  subst (λ (w : W). Since old new (good w event last)) run.0 (subst (λ (ms : List Content). Since ms new (good mid event last)) run.1 since),
  (refl, refl),
)
runs-push goes good (e ∷ events) event first mid last old between new (w, m, step0, since0, rest) step since =
    (w, m, step0, since0, runs-push goes good events event w mid last m between new rest step since)

-- one write more that failed: its bytes are the last version, or nothing changed
pub failed_write : {size at : ℕ} {bytes : Block} {before now : Content} {old mid new : List Content} {P : List Block → Type 0} → Since old mid P → IsNewest size before mid → (now ≡ before) ⊎ Appends at bytes before now → Passes before now mid new → (Adds at bytes before now → Tells old → EachImage P now) → Since old new P
failed_write since newest either passes here = ⊎_elim (λ same. unchanged since newest passes same) (λ w. goes_on since passes (here (record { gone = 0; is = w.is }))) either

-- one write more, whatever it answered
pub writes_on : {E : Type 0} (result : Result Unit E) {size at : ℕ} {bytes : Block} {before now : Content} {old mid new : List Content} {P : List Block → Type 0} → Since old mid P → IsNewest size before mid → Writes at bytes result before now → Passes before now mid new → (Adds at bytes before now → Tells old → EachImage P now) → Since old new P
writes_on (Ok u) since newest w passes here = goes_on since passes (here w)
writes_on (Err e) since newest either passes here = failed_write since newest either passes here

-- one sync more, whatever it answered
pub syncs_on : {E : Type 0} (result : Result Unit E) {size : ℕ} {unsure : List Bool} {before now : Content} {old mid new : List Content} {P : List Block → Type 0} → Since old mid P → IsNewest size before mid → Syncs unsure result before now → Passes before now mid new → (Settles unsure before now → Tells old → EachImage P now) → Since old new P
syncs_on (Ok u) since newest s passes here = goes_on since passes (here s)
syncs_on (Err e) since newest same passes here = unchanged since newest passes same

-- one run over events after another
pub runs-append : {W E : Type 0} (goes : W → E → W → Type 0) (good : W → E → W → List Block → Type 0) (xs ys : List E) (first mid last : W) (old between new : List Content) → Runs goes good xs first mid old between → Runs goes good ys mid last between new → Runs goes good (xs ++ ys) first last old new
runs-append {W} goes good [] ys first mid last old between new run next = subst (λ (w : W). Runs goes good ys w last old new) run.0 (subst (λ (ms : List Content). Runs goes good ys mid last ms new) run.1 next)
runs-append goes good (e ∷ xs) ys first mid last old between new (w, m, step, since, rest) next = (w, m, step, since, runs-append goes good xs ys w mid last m between new rest next)

-- what is good for each event is good for the run
pub runs-since : {W E : Type 0} (goes : W → E → W → Type 0) (good : W → E → W → List Block → Type 0) (events : List E) (first last : W) (old new : List Content) (P : List Block → Type 0) → AtNewest (EachImage P) old → ((a : W) (e : E) (b : W) (image : List Block) → good a e b image → P image) → Runs goes good events first last old new → Since old new P
runs-since goes good [] first last old new P start implies run = stays (record { start = start; added = []; follows = refl; told = λ t. t; each = All-nil (EachImage P) }) run.1
runs-since goes good (e ∷ events) first last old new P start implies (w, m, step, since, rest) =
    let here : Since old m P = weaker since (implies first e w) in
    joins here (runs-since goes good events w last m new P (ended here) implies rest)
