-- Turns are taken one after the other.
use Rattle.std.proofs.Common.{◌≡◌, ◌≢◌, ℕ, ◌+◌, ◌-◌, ◌<◌, List, [], ◌∷◌, ◌++◌, refl, ap, ◌∙◌, subst, arith}
use Rattle.std.proofs.lemmas.List.{length-set}
use Rattle.fo_disk.specs.Disk.{Content as Holds}
use Rattle.fo_bring.proofs.Bringing.{clean_at_once, clean_joins}
use Rattle.fo_labels.specs.Region.{closed_label}
use Rattle.fo_unlink.specs.Pending.{Pending}
use Rattle.fo_unlink.specs.Work.{work}
use Rattle.fo_mind.specs.Parts.{Parts, count_of, label_at}
use Rattle.fo_closing.specs.declared.turn.Closing.{Closing}
use Rattle.fo_closing.specs.declared.turn.Closing.TheVariants.{Closed as ClosedIs, Reads, Stays, GivenUp, Empty}
use Rattle.fo_closing.specs.Closed.{Closed}
use Rattle.fo_closing.specs.Closings.{Closings, Taken, Takes}
use Rattle.fo_closing.specs.Known.{Looked}
use Rattle.fo_closing.specs.Turned.{Goes, Turned}

-- ---- looks

pub looked_none : (disk : Holds) (p : Parts) → Looked disk p p
looked_none disk p = record {
  held = λ q. refl;
  clean = clean_at_once disk refl;
  room = refl;
  turns = omega (arith);
  faults = omega (arith);
  rest = refl;
}

pub looked_joins : {disk : Holds} {p q s : Parts} → Looked disk p q → Looked disk q s → Looked disk p s
looked_joins {disk} {p} {q} {s} l m = record {
  held = λ b. m.held b ∙ l.held b;
  clean = clean_joins l.clean m.clean;
  room = m.room ∙ l.room;
  turns = let a = l.turns in let b = m.turns in omega (arith, a, b);
  faults = let a = l.faults in let b = m.faults in omega (arith, a, b);
  rest = m.rest ∙ ap (λ (x : Parts). record x { held = s.held; turns = record x.turns { room = s.turns.room }; faults = s.faults }) l.rest;
}

-- ---- turns

takes_front : (disk : Holds) (us : List Taken) (a b c : Parts) (r s : Pending) → Looked disk a b → Takes disk us b c r s → Takes disk us a c r s
takes_front disk [] a b c r s l t = (looked_joins l t.0, t.1)
takes_front disk (u ∷ us) a b c r s l t = (looked_joins l t.0, t.1, t.2)

takes_joins : (disk : Holds) (ts us : List Taken) (a b c : Parts) (q r s : Pending) → Takes disk ts a b q r → Takes disk us b c r s → Takes disk (ts ++ us) a c q s
takes_joins disk [] us a b c q r s t u = takes_front disk us a b c q s t.0 (subst (λ (x : Pending). Takes disk us b c x s) t.1 u)
takes_joins disk (t ∷ ts) us a b c q r s x u = (x.0, x.1, takes_joins disk ts us t.after b c t.queue r s x.2 u)

pub closings_join : {disk : Holds} {a b c : Parts} {q r s : Pending} → Closings disk a b q r → Closings disk b c r s → Closings disk a c q s
closings_join {disk} {a} {b} {c} {q} {r} {s} x y = record { turns = x.turns ++ y.turns; takes = takes_joins disk x.turns y.turns a b c q r s x.takes y.takes }

pub closings_none : (disk : Holds) (p : Parts) (q : Pending) → Closings disk p p q q
closings_none disk p q = record { turns = []; takes = (looked_none disk p, refl) }

pub closings_looked : {disk : Holds} {p s : Parts} {q r : Pending} → Looked disk p s → r ≡ q → Closings disk p s q r
closings_looked l e = record { turns = []; takes = (l, e) }

pub closings_once : (disk : Holds) (answer : Closing) (p s : Parts) (q r : Pending) → Turned disk answer p s q r → Closings disk p s q r
closings_once disk answer p s q r t = record {
  turns = record { answer = answer; before = p; after = s; queue = r } ∷ [];
  takes = (looked_none disk p, t, (looked_none disk s, refl));
}

-- ---- what an answer says

pub last_turned : (disk : Holds) (answer : Closing) (p s : Parts) (q r : Pending) → answer ≡ Empty → Turned disk answer p s q r → r.removals ≡ []
last_turned disk answer p s q r e t =
    let k = subst (λ (a : Closing). Turned disk a p s q r) e t in
    ap (λ (x : Pending). x.removals) k.1 ∙ k.0

pub less_turned : (disk : Holds) (answer : Closing) (p s : Parts) (q r : Pending) → answer ≢ Empty → Turned disk answer p s q r → work r < work q
less_turned disk (ClosedIs b) p s q r ne t = t.less
less_turned disk (Stays b) p s q r ne t = t.less
less_turned disk (Reads b) p s q r ne t = t.less
less_turned disk GivenUp p s q r ne t = t.less
less_turned disk Empty p s q r ne t = absurd (ne refl)

-- ---- how many addresses there are

pub count_looked : {disk : Holds} {p q : Parts} → Looked disk p q → count_of q.region ≡ count_of p.region
count_looked l = ap (λ (x : Parts). count_of x.region) l.rest

count_closed : {at epoch : ℕ} {p q : Parts} → Closed at epoch p q → count_of q.region ≡ count_of p.region
count_closed {at} {epoch} {p} {q} c =
    let n = length-set p.region.labels (at - p.region.first) (closed_label (label_at p.region at) epoch) in
    ap count_of c.region ∙ ap (λ k. p.region.first + k) n

count_went : {disk : Holds} (answer : Closing) {p q : Parts} {r s : Pending} → Goes disk answer p q r s → count_of q.region ≡ count_of p.region
count_went (ClosedIs b) g = count_closed g.went.2 ∙ count_looked g.looked
count_went (Stays b) g = ap (λ (x : Parts). count_of x.region) g.went.2 ∙ count_looked g.looked
count_went (Reads b) g = ap (λ (x : Parts). count_of x.region) g.went.1 ∙ count_looked g.looked
count_went GivenUp g = absurd g.went
count_went Empty g = absurd g.went

pub count_turned : (disk : Holds) (answer : Closing) (p q : Parts) (r s : Pending) → Turned disk answer p q r s → count_of q.region ≡ count_of p.region
count_turned disk (ClosedIs b) p q r s t = count_went (ClosedIs b) t
count_turned disk (Stays b) p q r s t = count_went (Stays b) t
count_turned disk (Reads b) p q r s t = count_went (Reads b) t
count_turned disk GivenUp p q r s t = ap (λ (x : Parts). count_of x.region) t.rest
count_turned disk Empty p q r s t = ap (λ (x : Parts). count_of x.region) t.2
