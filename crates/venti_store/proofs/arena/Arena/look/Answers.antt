use Rattle.std.proofs.Common.{◌∙◌, inr, sym, ap}
use Rattle.sha1.specs.Sha1.{sha1}
use Rattle.venti_store.proofs.Puts.{differ, hand_is}
use Rattle.venti_store.proofs.arena.Arena.look.Goals as goal

pub returns-then-eq-clause-held : goal.returns-then-eq-clause-held
returns-then-eq-clause-held g c stored synced k =
    inr (c.is_empty.ensures.no c.if-is_empty.false, c.in-Some.place, c.in-Some.ensures.found, c.in_ok-bytes.ensures.read stored synced k)

pub returns-clause-held : goal.returns-clause-held
returns-clause-held g c stored synced k =
    (c.in-Some.place, c.in-Some.ensures.found, λ same. differ _ _ _ c.eq.result c.eq.ensures c.if-eq.false (c.digest-digest.ensures ∙ ap sha1 (c.deref.ensures.value ∙ c.in_ok-bytes.ensures.read stored synced k)) (sym same))

pub returns-in_err-bytes-clause-at_hand : goal.returns-in_err-bytes-clause-at_hand
returns-in_err-bytes-clause-at_hand g c hand =
    c.in_err-bytes.ensures.at_hand (hand_is c.args.self.now.shelf hand (c.is_empty.ensures.no c.if-is_empty.false) c.in-Some.ensures.found)

pub returns-then-eq-clause-at_hand : goal.returns-then-eq-clause-at_hand
returns-then-eq-clause-at_hand g c hand =
    c.in_ok-bytes.ensures.at_hand (hand_is c.args.self.now.shelf hand (c.is_empty.ensures.no c.if-is_empty.false) c.in-Some.ensures.found)

pub returns-clause-at_hand : goal.returns-clause-at_hand
returns-clause-at_hand g c hand =
    c.in_ok-bytes.ensures.at_hand (hand_is c.args.self.now.shelf hand (c.is_empty.ensures.no c.if-is_empty.false) c.in-Some.ensures.found)
